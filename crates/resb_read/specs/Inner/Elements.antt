-- The places of the members and entries that are still to come.
use Rattle.std.specs.Prelude.{ℕ, List, map}
use Rattle.std.specs.List.{zip}
use Rattle.resb_format.specs.Bytes.{units_of, words_of}
use Rattle.resb_format.specs.Content as member
use Rattle.resb_format.specs.Parts.{parts_in}
use Rattle.resb_walk.specs.Inner.Members.{members_of, keyed_members}
use Rattle.resb_format.specs.declared.file_blocks.FileBlocks.{FileBlocks}
use Rattle.resb_walk.specs.declared.members.TableParts.{TableParts}
use Rattle.resb_read.specs.Places.{Place, spot_of}
use Rattle.resb_read.specs.Sequences.{at_spot, at_entry}
use Rattle.resb_read.specs.declared.cursor.Spot.{Spot}
use Rattle.resb_read.specs.declared.cursor.Spot.TheVariants as spot
use Rattle.resb_read.specs.declared.elements.Elements.{Elements}
use Rattle.resb_read.specs.declared.elements.Elements.TheVariants.{Members, Numbers}

-- where the items of a list stand: members, or numbers of a vector
abbrev pub spots_to_come : Elements → List Spot
spots_to_come (Members ms) = map spot_of (members_of ms)
spots_to_come (Numbers b) = map spot.Word (words_of b.now)

-- the items' places in the file
abbrev pub places_to_come : FileBlocks → Elements → List Place
places_to_come f i = map (at_spot (parts_in f)) (spots_to_come i)

-- the places of each entry's key and value in the file
abbrev pub entry_places : FileBlocks → TableParts → List (Place × Place)
entry_places f ps = map (at_entry (parts_in f)) (keyed_members ps)

-- the places of the keys and values of entries that are given by bytes: of each key's position two,
-- of each value's word four
abbrev pub near_entries : FileBlocks → List ℕ → List ℕ → List (Place × Place)
near_entries f positions words =
    map (at_entry (parts_in f)) (zip (units_of positions) (map member.word (words_of words)))
