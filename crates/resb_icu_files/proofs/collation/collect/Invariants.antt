-- What is left of the rest is left of all.
use Rattle.std.proofs.Common.{◌≡◌, [], drop}
use Rattle.resb_icu_files.specs.CollationRules.{left_from}
use Rattle.resb_icu_files.specs.declared.collation.Part.TheVariants as part
use Rattle.resb_icu_files.proofs.collation.collect.Given as goal

abbrev pub invariant-loop-at : goal.invariant-loop-at
invariant-loop-at l =
    left_from l.part l.out.items (drop l.at l.characters) ≡ left_from part.Plain [] l.characters
