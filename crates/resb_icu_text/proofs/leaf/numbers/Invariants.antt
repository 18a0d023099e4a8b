use Rattle.std.proofs.Common.{◌+◌, ◌*◌, ◌-◌, ◌≤◌, ◌≢◌, length, slice_index}
use Rattle.resb_grammar.specs.Ascii as ascii
use Rattle.resb_grammar.specs.Limit.{number_bytes}
use Rattle.resb_icu_text.specs.Inner.Quota.{TakesBytes}
use Rattle.resb_icu_text.specs.Inner.Reach.{reach}
use Rattle.resb_icu_text.proofs.LeafLemmas.{Continues, Counted}
use Rattle.resb_icu_text.proofs.leaf.numbers.Given as goal

abbrev pub invariant-numbers : goal.invariant-numbers
invariant-numbers l = record {
  order : l.at ≤ l.here;
  fits : l.here ≤ length l.text;
  counted : Counted l.text l.at l.here l.numbers.items;
  taken : TakesBytes l.fn.meter.quota l.meter.quota (number_bytes * length l.numbers.items);
  some : slice_index l.text l.here ≢ ascii.right_brace;
  continues : Continues l.text l.at l.here l.numbers.items;
  cost : l.meter.turns.count + 8 * reach l.text l.at
      ≤ l.fn.meter.turns.count + 8 * reach l.text l.here;
}

abbrev pub decreases-numbers : goal.decreases-numbers
decreases-numbers l = length l.text - l.here
