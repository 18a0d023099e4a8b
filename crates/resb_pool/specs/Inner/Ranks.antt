-- Characters by their 16-bit units. A text is its UTF-8 bytes.
--     last_rank way c         where a character stands among others at the ends of texts
--     first_rank c            and at the starts of texts, by its units
--     HaveCharLetters way T   a file that is packed this way compares of these texts the characters
--     has_far t, any_far T    whether a text, or one of some, has a byte of F0 or more
use Rattle.std.specs.Prelude.{◌≡◌, ℕ, ◌+◌, ◌-◌, ◌*◌, ◌/◌, ◌%◌, List, [], ◌∷◌, All, Bool, false}
use Rattle.std.specs.Prelude.{nat_lt, nat_le, ◌||◌, if◌then◌else◌}
use Rattle.std.specs.Str.{chars}
use Rattle.resb_pool.specs.Order.{letters}
use Rattle.resb_pool.specs.declared.packing.Packing.{Packing}
use Rattle.resb_pool.specs.declared.packing.Packing.TheVariants.{Plain, Compact}

-- in a plain file by itself; in a compact one by its last unit, and then by the one before it
abbrev pub last_rank : Packing → ℕ → ℕ
last_rank Plain c = c
last_rank Compact c =
    if nat_lt c 0x1_0000 then c * 0x400
    else (0xDC00 + (c - 0x1_0000) % 0x400) * 0x400 + (c - 0x1_0000) / 0x400

-- by its first unit, and then by the one behind it
abbrev pub first_rank : ℕ → ℕ
first_rank c =
    if nat_lt c 0x1_0000 then c * 0x400
    else (0xD800 + (c - 0x1_0000) / 0x400) * 0x400 + (c - 0x1_0000) % 0x400

abbrev pub HaveCharLetters : Packing → List (List ℕ) → Type 0
HaveCharLetters way T = All (λ t. letters way t ≡ chars t) T

-- as a text has where it has a character beyond U+FFFF
abbrev pub has_far : List ℕ → Bool
has_far [] = false
has_far (b ∷ bs) = nat_le 0xF0 b || has_far bs

abbrev pub any_far : List (List ℕ) → Bool
any_far [] = false
any_far (t ∷ ts) = has_far t || any_far ts
