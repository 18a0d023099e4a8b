-- What stands at a place for the types that have no parts, with its count: 1 at a descriptor or a
-- unit, 0 at a word or a key.
--     CountsOf reads p n      the count of what is read there
use Rattle.std.specs.Prelude.{ℕ, ℤ, ◌≡◌, ◌≤ℤ◌, ◌≤◌, ◌+◌, ◌*◌, ◌/◌, ◌%◌, ◌^◌, ◌==◌, ◌&&◌, length}
use Rattle.std.specs.Prelude.{List, [], Bool, true, false, Option, Some, None, option_map}
use Rattle.std.specs.Prelude.{if◌then◌else◌}
use Rattle.std.specs.Int.{cast_signed, w32}
use Rattle.resb_tree.specs.Int28.{signed}
use Rattle.resb_format.specs.Bytes.{words_of, part}
use Rattle.resb_format.specs.Lookups.{string_in, text_in, key_in, index_in}
use Rattle.resb_format.specs.Parts.{Parts, reads_older}
use Rattle.resb_format.specs.Content.{behind_count, counted_text}
use Rattle.resb_format.specs.Descriptor.{type_number}
use Rattle.resb_format.specs.declared.repr_type.ResourceReprType.TheVariants as kind
use Rattle.resb_read.specs.Places.{Place}
use Rattle.resb_read.specs.Reading.{IsThere, any}
use Rattle.resb_read.specs.declared.cursor.Spot.{Spot}
use Rattle.resb_read.specs.declared.cursor.Spot.TheVariants as spot
use Rattle.resb_format.specs.Bytes.{units_as_bytes}

-- the type and the value of a descriptor
abbrev pub type_in : ℕ → ℕ
type_in w = w / 2 ^ 28

-- a word's value: its lower 28 bits
abbrev pub value_in : ℕ → ℕ
value_in w = w % 2 ^ 28

-- a word is the descriptor of an Int
abbrev pub is_integer : ℕ → Bool
is_integer w = type_in w == type_number kind.Int

-- a number: the 28 bits of an Int with bit 27 as the sign, or a vector's word
abbrev pub signed_at : Spot → Option (ℤ × ℕ)
signed_at (spot.Descriptor w) = if is_integer w then Some (signed (value_in w), 1) else None
signed_at (spot.Word w) = Some (cast_signed w32 w, 0)
signed_at s = None

-- a number without a sign: the 28 bits of an Int, or a vector's word
abbrev pub unsigned_at : Spot → Option (ℕ × ℕ)
unsigned_at (spot.Descriptor w) = if is_integer w then Some (value_in w, 1) else None
unsigned_at (spot.Word w) = Some (w, 0)
unsigned_at s = None

-- 0 is false and 1 is true, for one resource
abbrev pub bool_of : ℕ → Option (Bool × ℕ)
bool_of n = if n == 0 then Some (false, 1) else if n == 1 then Some (true, 1) else None

-- a bool stands at the descriptor of an integer, and nowhere else
abbrev pub bool_at : Spot → Option (Bool × ℕ)
bool_at (spot.Descriptor w) = if is_integer w then bool_of (value_in w) else None
bool_at s = None

-- some value is read at the place, with this count
abbrev pub CountsOf : {X : Type 0} → (Place → X → ℕ → Type 0) → Place → ℕ → Type 0
CountsOf {X} reads p n = (x : X) × reads p x n

-- a number lies between two others, or is one of them
abbrev pub LiesInRange : ℤ → ℤ → ℤ → Type 0
LiesInRange low high x = (low ≤ℤ x) × (x ≤ℤ high)

-- a number with a sign stands there, and lies in the range
abbrev pub ReadsSigned : ℤ → ℤ → Place → ℤ → ℕ → Type 0
ReadsSigned low high p x n = IsThere (LiesInRange low high) (signed_at p.at) x n

-- a number without a sign stands there, and is at most the greatest of its type
abbrev pub ReadsUnsigned : ℕ → Place → ℕ → ℕ → Type 0
ReadsUnsigned high p x n = IsThere (λ x. x ≤ high) (unsigned_at p.at) x n

-- this bool stands there
abbrev pub ReadsBool : Place → Bool → ℕ → Type 0
ReadsBool p x n = IsThere any (bool_at p.at) x n

-- the 28 bits of an Int
abbrev pub bits_at : Spot → Option (ℕ × ℕ)
bits_at (spot.Descriptor w) = if is_integer w then Some (value_in w, 1) else None
bits_at s = None

-- these 28 bits stand there
abbrev pub ReadsBits : Place → ℕ → ℕ → Type 0
ReadsBits p x n = IsThere any (bits_at p.at) x n

-- the text of the string that a descriptor leads to; a descriptor of another type has none
abbrev pub described_text : Parts → ℕ → Option (List ℕ)
described_text p w =
    if type_in w == type_number kind.StringV2 then
    (if value_in w == 0 then Some [] else text_in p (value_in w))
    else if reads_older p && type_in w == type_number kind._String then
    (if value_in w == 0 then Some [] else counted_text p (value_in w))
    else None

-- the text of a string, for one resource, or of a key, for none
abbrev pub text_from : Parts → Spot → Option (List ℕ × ℕ)
text_from p (spot.Descriptor w) = option_map (λ s. (s, 1)) (described_text p w)
text_from p (spot.Unit u) = option_map (λ s. (s, 1)) (text_in p (index_in p u))
text_from p (spot.Word w) = None
text_from p (spot.Key k) = option_map (λ s. (s, 0)) (key_in p k)

-- this text stands there
abbrev pub ReadsText : Place → List ℕ → ℕ → Type 0
ReadsText p x n = IsThere any (text_from p.parts p.at) x n

-- the key at a spot, for no resource, if one stands there
abbrev pub key_from : Parts → Spot → Option (List ℕ × ℕ)
key_from p (spot.Key k) = option_map (λ s. (s, 0)) (key_in p k)
key_from p s = None

-- this key stands there
abbrev pub ReadsKey : Place → List ℕ → ℕ → Type 0
ReadsKey p x n = IsThere any (key_from p.parts p.at) x n

-- n items of so many bytes each, where word v is n and they follow it
abbrev pub counted_bytes : Parts → ℕ → ℕ → Option (List ℕ)
counted_bytes p each v = behind_count (words_of p.body) v (λ n. part p.body (4 * v + 4) (each * n))

-- the bytes of a binary, of a string's units, also one of the older form, or of a vector's numbers;
-- none at value 0
abbrev pub bytes_of_type : Parts → ℕ → ℕ → Option (List ℕ)
bytes_of_type p type v =
    if type == type_number kind.Binary then (if v == 0 then Some [] else counted_bytes p 1 v)
    else if type == type_number kind.StringV2 then
    (if v == 0 then Some [] else option_map units_as_bytes (string_in p v))
    else if type == type_number kind.IntVector then
    (if v == 0 then Some [] else counted_bytes p 4 v)
    else if reads_older p && type == type_number kind._String then
    (if v == 0 then Some [] else counted_bytes p 2 v)
    else None

-- the bytes of what a descriptor or a unit leads to, for one resource, or of a key, for none
abbrev pub bytes_from : Parts → Spot → Option (List ℕ × ℕ)
bytes_from p (spot.Descriptor w) =
    option_map (λ s. (s, 1)) (bytes_of_type p (type_in w) (value_in w))
bytes_from p (spot.Unit u) = option_map (λ us. (units_as_bytes us, 1)) (string_in p (index_in p u))
bytes_from p (spot.Word w) = None
bytes_from p (spot.Key k) = option_map (λ s. (s, 0)) (key_in p k)

-- these bytes stand there
abbrev pub ReadsBytes : Place → List ℕ → ℕ → Type 0
ReadsBytes p x n = IsThere any (bytes_from p.parts p.at) x n

-- bytes that are whole items of so many bytes each
abbrev pub ReadsView : ℕ → Place → List ℕ → ℕ → Type 0
ReadsView each p b n = IsThere (λ b. length b % each ≡ 0) (bytes_from p.parts p.at) b n
