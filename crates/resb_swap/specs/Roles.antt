-- The one role of each word of a body.
--     front_role f i          the role of a word of the index, the keys or the 16-bit block
--     Sourced f i r           a word has the role r by one of these, or by a body; or is free
--     RolesOf f rs            these are the roles of the words of a file
use Rattle.std.specs.Prelude.{◌≡◌, ◌≢◌, ℕ, ◌%◌, List, length, true, ◌⊎◌}
use Rattle.std.specs.Prelude.{nat_le, nat_lt, slice_index_or, if◌then◌else◌}
use Rattle.resb_swap.specs.Numbers.{Numbered, word_in, word_count}
use Rattle.resb_swap.specs.Bodies.{Reached, body_role, place_in, type_in, is_type, role_in}
use Rattle.resb_swap.specs.Collation.{is_collation, is_whole}
use Rattle.resb_swap.specs.declared.role.Role.{Role}
use Rattle.resb_swap.specs.declared.role.Role.TheVariants as role

-- how many words the index has: the lowest byte of its first word
abbrev pub field_count : Numbered → ℕ
field_count f = word_in f 1 % 256

-- where the keys end, in words of the body
abbrev pub keys_end : Numbered → ℕ
keys_end f = word_in f 2

-- where the 16-bit block ends, in words of the body: an index of less than 7 words tells none
abbrev pub block_end : Numbered → ℕ
block_end f = if nat_le 7 (field_count f) then word_in f 7 else keys_end f

-- the root's word and the index are words, keys are bytes, and the 16-bit block is in units
unfoldable pub front_role : Numbered → ℕ → Role
front_role f i =
    if nat_le i (field_count f) then role.Words
    else if nat_lt i (keys_end f) then role.Bytes
    else if nat_lt i (block_end f) then role.Units
    else role.Free

-- the role of a word in a list; words behind the list are free
abbrev pub role_at : List Role → ℕ → Role
role_at rs i = slice_index_or rs i role.Free

-- a body that is reached gives this role to the word
abbrev pub FromBody : Numbered → ℕ → Role → Type 0
FromBody f i r = (w : ℕ) × (Reached f w × (r ≡ role_in f (body_role w) (place_in w) i))

-- the word has no role, or one that the front of the file or a body gives to it
abbrev pub Sourced : Numbered → ℕ → Role → Type 0
Sourced f i r = (r ≡ role.Free) ⊎ ((r ≡ front_role f i) ⊎ FromBody f i r)

-- a word that is reached names a type, and leads to no collation data but such as has known parts
pub record IsPlain (f : Numbered) (w : ℕ) : Type 0 where
  pub typed : is_type (type_in w) ≡ true
  pub whole : body_role w ≡ role.Binary → is_collation f (place_in w) ≡ true
      → is_whole f (place_in w) ≡ true

-- a role for each word: whatever the front or a body that is reached gives to a word is its role, a
-- word that has one has it from there, and all that is reached is plain
pub record RolesOf (f : Numbered) (rs : List Role) : Type 0 where
  pub each : length rs ≡ word_count f
  pub front : (i : ℕ) → front_role f i ≢ role.Free → role_at rs i ≡ front_role f i
  pub bodies : (w i : ℕ) → Reached f w → role_in f (body_role w) (place_in w) i ≢ role.Free
      → role_at rs i ≡ role_in f (body_role w) (place_in w) i
  pub only : (i : ℕ) → Sourced f i (role_at rs i)
  pub plain : (w : ℕ) → Reached f w → IsPlain f w
