-- A file in the other order of bytes.
--     IsSwappable bytes       a file of which there is one by its head
--     mirror_place rs start p     the place whose byte goes to place p
--     IsSwapped from to       the second is the first in the other order
use Rattle.std.specs.Prelude.{◌≡◌, ℕ, ◌+◌, ◌-◌, ◌*◌, ◌/◌, ◌%◌, ◌<◌, List, length, Bool, true, false}
use Rattle.std.specs.Prelude.{◌==◌, ◌&&◌, nat_le, nat_lt, None, slice_index, if◌then◌else◌}
use Rattle.resb_head.specs.HeadChecks.{header_refusal}
use Rattle.resb_swap.specs.Numbers.{Numbered, numbered, header_size, word_count}
use Rattle.resb_swap.specs.Roles.{RolesOf, role_at, field_count, keys_end, block_end}
use Rattle.resb_swap.specs.declared.role.Role.{Role}
use Rattle.resb_swap.specs.declared.role.Role.TheVariants as role

-- version 1.0, whose files have no index
abbrev pub is_first_version : List ℕ → Bool
is_first_version bytes = slice_index bytes 16 == 1 && slice_index bytes 17 == 0

-- the index has its five words at least, and index, keys and 16-bit block lie inside
abbrev pub is_indexed : Numbered → Bool
is_indexed f =
    (nat_le 5 (field_count f) && nat_lt (field_count f) (word_count f))
    && (nat_le (keys_end f) (word_count f) && nat_le (block_end f) (word_count f))

-- the head is that of a bundle of version 1.1 to 3.0, of characters of the ASCII family and units
-- of two bytes, in either order
pub record IsSwappable (bytes : List ℕ) : Type 0 where
  pub header : header_refusal true bytes ≡ None
  pub ascii : slice_index bytes 9 ≡ 0
  pub two_byte_chars : slice_index bytes 10 ≡ 2
  pub version : is_first_version bytes ≡ false
  pub indexed : is_indexed (numbered bytes) ≡ true

-- in a header two numbers of 16 bits are mirrored behind the size: the info's size, and what is
-- reserved
abbrev pub header_place : ℕ → ℕ
header_place p =
    if p == 0 then 1 else if p == 1 then 0 else if p == 4 then 5 else if p == 5 then 4
    else if p == 6 then 7 else if p == 7 then 6 else p

-- which byte of a word goes to its byte c: by the role of the word its own, that of the same unit,
-- or that of the same number, whose byte in front is behind in the other order
unfoldable pub turned : Role → ℕ → ℕ
turned role.Free c = c
turned role.Bytes c = c
turned role.Order c = c
turned role.Units c = if c % 2 == 0 then c + 1 else c - 1
turned role.Table c = if c % 2 == 0 then c + 1 else c - 1
turned role.OneUnit c = if c == 0 then 1 else if c == 1 then 0 else c
turned _ c = 3 - c

-- the word whose bytes go to word i: itself, or the other word of a number of 64 bits
abbrev pub partner : Role → ℕ → ℕ
partner role.First i = i + 1
partner role.Second i = i - 1
partner _ i = i

-- the place whose byte goes to place p of a file
unfoldable pub mirror_place : List Role → ℕ → ℕ → ℕ
mirror_place rs start p =
    if nat_lt p start then header_place p
    else start + (4 * partner (role_at rs ((p - start) / 4)) ((p - start) / 4)
    + turned (role_at rs ((p - start) / 4)) ((p - start) % 4))

-- the first byte of a word with this role names an order of bytes
abbrev pub is_order : Role → Bool
is_order role.Order = true
is_order _ = false

-- the byte at place p names an order: byte 8 of the file, and that of each collation's data
unfoldable pub names_order : List Role → ℕ → ℕ → Bool
names_order rs start p =
    if nat_lt p start then p == 8
    else is_order (role_at rs ((p - start) / 4)) && (p - start) % 4 == 0

-- the byte at place p of the file in the other order
abbrev pub mirrored_byte : List Role → List ℕ → ℕ → ℕ
mirrored_byte rs bytes p =
    if names_order rs (header_size bytes) p then 1 - slice_index bytes p
    else slice_index bytes (mirror_place rs (header_size bytes) p)

-- the second file is the first in the other order of bytes: each word of the body has one role, and
-- each byte is that of its mirror place
pub record IsSwapped (from to : List ℕ) : Type 0 where
  pub head : IsSwappable from
  pub roles : List Role
  pub roles_are : RolesOf (numbered from) roles
  pub as_long : length to ≡ length from
  pub mirrored : (p : ℕ) → p < length from → slice_index to p ≡ mirrored_byte roles from p
