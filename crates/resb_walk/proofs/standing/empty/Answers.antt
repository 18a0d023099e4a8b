-- The path of an empty alias is that of no units.
use Rattle.std.proofs.Common.{◌≡◌, [], Some, true, false, refl, ◌&&◌}
use Rattle.std.specs.Char.Utf16.{has_unpaired_surrogate, utf16_chars}
use Rattle.std.proofs.lemmas.Bool.{and_parts}
use Rattle.resb_tree.specs.Tree.{alias}
use Rattle.resb_format.specs.Bytes.{units_of}
use Rattle.resb_format.specs.Content.{leaf, empty}
use Rattle.resb_format.specs.Parts.{Parts, parts_in, reads_older}
use Rattle.resb_format.specs.Descriptor.{type_number}
use Rattle.resb_format.specs.declared.repr_type.ResourceReprType.TheVariants as kind
use Rattle.resb_walk.proofs.Counted.{no_units_no_text}
use Rattle.resb_walk.proofs.standing.empty.Goals as goal

empty_alias : (p : Parts) → reads_older p ≡ true
    → empty p (type_number kind._Alias) ≡ Some (leaf (alias []))
empty_alias p h = rw h refl

pub returns-in-_Alias-clause-stands : goal.returns-in-_Alias-clause-stands
returns-in-_Alias-clause-stands c =
    let p = parts_in c.args.file in
    let read : (reads_older p && true) ≡ true = rw c.in-_Alias.is at c.requires.read in
    rw (c.in-_Alias.is, no_units_no_text) (empty_alias p (and_parts (reads_older p) true read).0)

-- no byte is a unit, and none stands alone
no_half : has_unpaired_surrogate (units_of []) ≡ false
unfolding units_of utf16_chars
no_half = refl

pub returns-in-_Alias-clause-form : goal.returns-in-_Alias-clause-form
returns-in-_Alias-clause-form c = (refl, no_half)
