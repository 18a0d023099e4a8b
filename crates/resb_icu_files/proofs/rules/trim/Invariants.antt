-- A space less at the end leaves the same without spaces there.
use Rattle.std.proofs.Common.{◌≡◌, length}
use Rattle.resb_icu_files.specs.Rules.{trimmed}
use Rattle.resb_icu_files.proofs.rules.trim.Given as goal

abbrev pub invariant-spaces : goal.invariant-spaces
invariant-spaces l = trimmed l.out.items ≡ trimmed l.fn.out.items

abbrev pub decreases-spaces : goal.decreases-spaces
decreases-spaces l = length l.out.items
