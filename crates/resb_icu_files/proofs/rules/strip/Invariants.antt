-- What is left of the rest is left of all.
use Rattle.std.proofs.Common.{◌≡◌, [], drop}
use Rattle.resb_icu_files.specs.Rules.{stripped}
use Rattle.resb_icu_files.specs.declared.rules.Standing.TheVariants as standing
use Rattle.resb_icu_files.proofs.rules.strip.Given as goal

abbrev pub invariant-loop-at : goal.invariant-loop-at
invariant-loop-at l =
    stripped l.standing l.out.items (drop l.at l.characters)
    ≡ stripped standing.Plain [] l.characters
