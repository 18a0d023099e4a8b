use Rattle.std.proofs.Common.{◌≡◌, ◌+◌, ◌*◌, ◌-◌, ◌≤◌, ◌<◌, ℕ, length}
use Rattle.resb_icu_grammar.specs.Faults.{StringFault}
use Rattle.resb_icu_grammar.specs.Words.{Part, Text}
use Rattle.resb_icu_grammar.specs.declared.expected.IcuExpected.{IcuExpected}
use Rattle.resb_icu_text.specs.Inner.Found.{length_of}
use Rattle.resb_icu_text.specs.Inner.Parts.{Begun}
use Rattle.resb_icu_text.proofs.PartsLemmas.{Walked}
use Rattle.resb_icu_text.proofs.SeveralLemmas.{IsCounted}
use Rattle.resb_icu_text.proofs.parts.with_more.Given as goal

abbrev pub invariant-parts : goal.invariant-parts
invariant-parts l = record {
  order : l.from < l.at;
  past : l.fn.first.next ≤ l.at;
  fits : l.at ≤ length l.text;
  begun : Begun l.text l.at;
  counted : IsCounted l.text l.from l.at l.length;
  walked : (n : ℕ) × Walked (Part l.text) (Text l.text) l.fn.first.next l.at n
      × (l.length ≡ n + length_of l.fn.first.stands + 1);
  fault : (to : ℕ) (x : IcuExpected) → StringFault l.text l.at to x
      → StringFault l.text l.from to x;
  cost : l.turns.count + 3 * l.fn.first.next ≤ l.fn.turns.count + 3 * l.at;
}

abbrev pub decreases-parts : goal.decreases-parts
decreases-parts l = length l.text - l.at
