-- Why readings of what has no parts are refused: a kind and a message.
--     number_refusal_from p s left, bool_refusal_from, bits_refusal_from
--                             what is answered where no number, bool or Int is read at a spot of
--                             these parts, with so much left
--     text_refusal_from, key_refusal_from, bytes_refusal_from, view_refusal_from
--                             the same for a text, where memory isn't what is wanted, for a key,
--                             for bytes and for a view of them
--     members_refusal_from, entries_refusal_from
--                             the same for the members of a sequence, and the entries of a map
use Rattle.std.specs.Prelude.{◌==◌, ◌&&◌, ◌||◌, nat_le, ℕ, List, Bool, false, Option, Some, None}
use Rattle.std.specs.Prelude.{codes, if◌then◌else◌}
use Rattle.resb_format.specs.Error.{Refusal, invalid, end_of_input}
use Rattle.resb_format.specs.Parts.{Parts, reads_older}
use Rattle.resb_format.specs.Lookups.{index_in, text_place}
use Rattle.resb_format.specs.StringMessage.{string_message}
use Rattle.resb_format.specs.Types as types
use Rattle.resb_format.specs.Descriptor.{type_number}
use Rattle.resb_format.specs.declared.repr_type.ResourceReprType.TheVariants as kind
use Rattle.resb_format.specs.declared.error.ErrorKind.TheVariants.{ResourceTypeMismatch, Unknown}
use Rattle.resb_walk.specs.BlockRefusals.{text_refusal_in, key_refusal_in, counted_refusal}
use Rattle.resb_walk.specs.BlockRefusals.{reads_type, unread_type_refusal}
use Rattle.resb_read.specs.Places.{Place}
use Rattle.resb_read.specs.Leaves.{type_in, value_in, bytes_from}
use Rattle.resb_read.specs.declared.cursor.Spot.{Spot}
use Rattle.resb_read.specs.declared.cursor.Spot.TheVariants as spot

-- a number stands there that its type has not
abbrev pub out_of_range : Refusal
out_of_range = (Unknown, codes "number out of range")

-- a place where no value of the type stands
abbrev pub elsewhere : Refusal
elsewhere = (Unknown, codes "value cannot be read here")

-- a resource of another type was asked for
abbrev pub mismatch : List ℕ → Refusal
mismatch expected = (ResourceTypeMismatch, expected)

-- the refusal of a type that is not read; of any other type it is the one that is given
abbrev pub type_refusal : Parts → ℕ → Refusal → Refusal
type_refusal p type other = if reads_type p type then other else unread_type_refusal type

-- one is paid before anything else is looked at
abbrev pub paid : ℕ → Refusal → Refusal
paid left later = if left == 0 then invalid (codes "resource budget spent") else later

-- an Int that doesn't fit, or another type
abbrev pub integer_refusal : Parts → ℕ → Refusal → Refusal
integer_refusal p type unfit =
    if type == type_number kind.Int then unfit
    else type_refusal p type (mismatch (codes "expected integer resource"))

-- why nothing is read where no value of a type can stand: at a resource of another type, at a
-- word, or at a key
abbrev pub no_value_from : Parts → Spot → ℕ → Refusal
no_value_from p (spot.Descriptor w) left = paid left (type_refusal p (type_in w) elsewhere)
no_value_from p (spot.Unit u) left = paid left elsewhere
no_value_from p s left = elsewhere

-- why no number is read at a spot with so much left
abbrev pub number_refusal_from : Parts → Spot → ℕ → Refusal
number_refusal_from p (spot.Descriptor w) left =
    paid left (integer_refusal p (type_in w) out_of_range)
number_refusal_from p (spot.Word w) left = out_of_range
number_refusal_from p s left = no_value_from p s left

-- why no bool is read at a spot with so much left
abbrev pub bool_refusal_from : Parts → Spot → ℕ → Refusal
bool_refusal_from p (spot.Descriptor w) left =
    paid left (integer_refusal p (type_in w)
    (mismatch (codes "expected integer resource representable as boolean")))
bool_refusal_from p s left = no_value_from p s left

-- why no 28 bits are read at a spot with so much left; each Int has them
abbrev pub bits_refusal_from : Parts → Spot → ℕ → Refusal
bits_refusal_from p (spot.Descriptor w) left =
    paid left (type_refusal p (type_in w) (mismatch (codes "expected integer resource")))
bits_refusal_from p s left = no_value_from p s left

-- why no string stands at an index
abbrev pub string_message_in : Parts → ℕ → List ℕ
string_message_in p i = string_message (text_place p i).0 (text_place p i).1

-- why no key is read at a spot: it is another place, or the key's own fault
abbrev pub key_refusal_from : Parts → Spot → ℕ → Refusal
key_refusal_from p (spot.Key k) left = key_refusal_in p k
key_refusal_from p s left = no_value_from p s left

-- why no text stands at a descriptor: no string, or one that is no text; or another type
abbrev pub word_text_refusal : Parts → ℕ → Refusal
word_text_refusal p w =
    if type_in w == type_number kind.StringV2 then text_refusal_in p (value_in w)
    else if reads_older p && type_in w == type_number kind._String then
    counted_refusal p (value_in w)
    else type_refusal p (type_in w) (mismatch (codes "expected string resource"))

-- why no text is read at a spot with so much left
abbrev pub text_refusal_from : Parts → Spot → ℕ → Refusal
text_refusal_from p (spot.Descriptor w) left = paid left (word_text_refusal p w)
text_refusal_from p (spot.Unit u) left = paid left (text_refusal_in p (index_in p u))
text_refusal_from p s left = key_refusal_from p s left

-- why no bytes stand at a descriptor: the string's own fault, a count or what is counted outside
-- the body, or another type
abbrev pub word_bytes_refusal : Parts → ℕ → Refusal
word_bytes_refusal p w =
    if type_in w == type_number kind.StringV2 then invalid (string_message_in p (value_in w))
    else if type_in w == type_number kind.Binary || type_in w == type_number kind.IntVector then
    end_of_input
    else if reads_older p && type_in w == type_number kind._String then end_of_input
    else type_refusal p (type_in w) (mismatch (codes "expected binary data resource"))

-- why no bytes are read at a spot with so much left
abbrev pub bytes_refusal_from : Parts → Spot → ℕ → Refusal
bytes_refusal_from p (spot.Descriptor w) left = paid left (word_bytes_refusal p w)
bytes_refusal_from p (spot.Unit u) left = paid left (invalid (string_message_in p (index_in p u)))
bytes_refusal_from p s left = key_refusal_from p s left

-- bytes stand there, and what is left pays for them
abbrev pub are_paid : Option (List ℕ × ℕ) → ℕ → Bool
are_paid (Some r) left = nat_le r.1 left
are_paid None left = false

-- why no view is read: there are no bytes, or they are no whole items
abbrev pub view_refusal_from : Parts → Spot → ℕ → Refusal
view_refusal_from p s left =
    if are_paid (bytes_from p s) left then (Unknown, codes "Wrong length")
    else bytes_refusal_from p s left

-- why no members stand at a descriptor: a count or the fields behind it outside their block, or
-- another type
abbrev pub word_members_refusal : Parts → ℕ → Refusal
word_members_refusal p w =
    if types.is_array (type_in w) || type_in w == type_number kind.IntVector then end_of_input
    else type_refusal p (type_in w) (mismatch (codes "expected array resource"))

-- why no entries stand at a descriptor: a table's entries reach outside the body, or another type
-- stands there
abbrev pub word_entries_refusal : Parts → ℕ → Refusal
word_entries_refusal p w =
    if types.is_table (type_in w) then end_of_input
    else type_refusal p (type_in w) (mismatch (codes "expected table resource"))

-- why no members are read at a spot with so much left
abbrev pub members_refusal_from : Parts → Spot → ℕ → Refusal
members_refusal_from p (spot.Descriptor w) left = paid left (word_members_refusal p w)
members_refusal_from p s left = no_value_from p s left

-- why no members are read at a place with so much left
abbrev pub members_refusal : Place → ℕ → Refusal
members_refusal p left = members_refusal_from p.parts p.at left

-- why no entries are read at a spot with so much left
abbrev pub entries_refusal_from : Parts → Spot → ℕ → Refusal
entries_refusal_from p (spot.Descriptor w) left = paid left (word_entries_refusal p w)
entries_refusal_from p s left = no_value_from p s left

-- why no entries are read at a place with so much left
abbrev pub entries_refusal : Place → ℕ → Refusal
entries_refusal p left = entries_refusal_from p.parts p.at left

-- why the type of what stands at a place isn't told: as where no value of a type can stand, and one
-- is left to pay
abbrev pub untold : Place → Refusal
untold p = no_value_from p.parts p.at 1
