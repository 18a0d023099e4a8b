use Rattle.std.proofs.Common.{◌≡◌, ℕ, List, length, take}
use Rattle.std.specs.List.{All}
use Rattle.std.specs.Str.{IsUtf8}
use Rattle.resb_pool.specs.Plan.{nows}
use Rattle.resb_lent.specs.Lending.{LendsTexts}
use Rattle.resb_lent.specs.Inner.LentEndings.{AreStandings}
use Rattle.resb_lent.proofs.answers_beside.find_standings.Given as goal

abbrev pub invariant-loop-number : goal.invariant-loop-number
invariant-loop-number l = record {
  len : length l.standings.items ≡ l.number;
  stand : (block : List ℕ) → LendsTexts l.lent block
      → AreStandings block (nows (take l.number l.strings)) l.standings.items;
  utf8 : All IsUtf8 (nows (take l.number l.strings));
}
