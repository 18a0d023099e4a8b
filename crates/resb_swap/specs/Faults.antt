-- Why a file isn't swapped.
--     IsFault bytes e         the error names what is so, and what is checked before is not
use Rattle.std.specs.Prelude.{◌≡◌, ◌≢◌, ℕ, ◌≤◌, List, true, false, Some, None, slice_index}
use Rattle.resb_format.specs.Error.{refusal_of}
use Rattle.resb_head.specs.HeadChecks.{header_refusal}
use Rattle.resb_swap.specs.Numbers.{Numbered, numbered, word_count}
use Rattle.resb_swap.specs.Bodies.{Reached, body_role, place_in, type_in, is_type, role_in}
use Rattle.resb_swap.specs.Collation.{is_collation, is_whole}
use Rattle.resb_swap.specs.Roles.{Sourced}
use Rattle.resb_swap.specs.Swapped.{IsSwappable, is_first_version, is_indexed}
use Rattle.resb_swap.specs.declared.role.Role.{Role}
use Rattle.resb_swap.specs.declared.role.Role.TheVariants as role
use Rattle.resb_swap.specs.declared.error.SwapError.{SwapError}
use Rattle.resb_swap.specs.declared.error.SwapError.TheVariants as error

-- a body that is reached has a word that the file lacks
abbrev pub LiesOutside : Numbered → Type 0
LiesOutside f =
    (w : ℕ) × ((i : ℕ) × (Reached f w × (role_in f (body_role w) (place_in w) i ≢ role.Free)
    × (word_count f ≤ i)))

-- a word has a role by a body that is reached, and another one by another body, or as a word of the
-- index, the keys or the 16-bit block
abbrev pub HasTwoRoles : Numbered → Type 0
HasTwoRoles f =
    (w : ℕ) × ((i : ℕ) × ((r : Role) × (Reached f w
    × (role_in f (body_role w) (place_in w) i ≢ role.Free) × Sourced f i r × (r ≢ role.Free)
    × (r ≢ role_in f (body_role w) (place_in w) i))))

-- a word that is reached names no type
abbrev pub HasUnknownType : Numbered → Type 0
HasUnknownType f = (w : ℕ) × (Reached f w × (is_type (type_in w) ≡ false))

-- a word that is reached leads to the data of a collation whose parts aren't known, or don't stand
-- one behind the other
abbrev pub HasCollation : Numbered → Type 0
HasCollation f =
    (w : ℕ) × (Reached f w × (body_role w ≡ role.Binary) × (is_collation f (place_in w) ≡ true)
    × (is_whole f (place_in w) ≡ false))

-- what is wrong with a body
abbrev pub IsBodyFault : Numbered → SwapError → Type 0
IsBodyFault f error.Outside = LiesOutside f
IsBodyFault f error.TwoRoles = HasTwoRoles f
IsBodyFault f error.UnknownType = HasUnknownType f
IsBodyFault f error.Collation = HasCollation f
IsBodyFault f error.NoMemory = Unit {0}
IsBodyFault f _ = ⊥

-- the header passes its checks, and the characters are of the ASCII family, in units of two bytes
abbrev pub HasCharacters : List ℕ → Type 0
HasCharacters bytes =
    (header_refusal true bytes ≡ None) × (slice_index bytes 9 ≡ 0) × (slice_index bytes 10 ≡ 2)

-- what is wrong with a file: the first check of its head that fails, of header, characters, version
-- and index in this order; or else what is wrong with its body; or memory was wanted
abbrev pub IsFault : List ℕ → SwapError → Type 0
IsFault bytes (error.Header e) = header_refusal true bytes ≡ Some (refusal_of e)
IsFault bytes error.Ebcdic = (header_refusal true bytes ≡ None) × (slice_index bytes 9 ≢ 0)
IsFault bytes error.OtherCharacters =
    (header_refusal true bytes ≡ None) × (slice_index bytes 9 ≡ 0) × (slice_index bytes 10 ≢ 2)
IsFault bytes error.FirstVersion = HasCharacters bytes × (is_first_version bytes ≡ true)
IsFault bytes error.NoIndex =
    HasCharacters bytes × (is_first_version bytes ≡ false)
    × (is_indexed (numbered bytes) ≡ false)
IsFault bytes e = IsSwappable bytes × IsBodyFault (numbered bytes) e
