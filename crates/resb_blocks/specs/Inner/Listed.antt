-- The list of long tails, in order, and that none is missing.
--     AreApart ts             the tails stand one behind the other
--     AreListed keys ts n     each long key before the place n begins in a tail
--     IsLastBefore ts at t    the tail by which a key at the place is found
use Rattle.std.specs.Prelude.{◌≡◌, ℕ, ◌+◌, ◌<◌, ◌≤◌, List, length, map, slice_index, Some, All}
use Rattle.resb_format.specs.Strings.{key_at}
use Rattle.resb_blocks.specs.declared.tails.Tail.{Tail}
use Rattle.resb_blocks.specs.Tails.{IsTail}

-- where the tail with this number begins
abbrev pub start_of : List Tail → ℕ → ℕ
start_of ts i = slice_index (map (λ t. t.from) ts) i

-- where the zero byte behind the tail with this number is
abbrev pub end_of : List Tail → ℕ → ℕ
end_of ts i = slice_index (map (λ t. t.from + length t.text.now) ts) i

-- each tail ends before the ones behind it begin
abbrev pub AreApart : List Tail → Type 0
AreApart ts = (i j : ℕ) → i < j → j < length ts → end_of ts i < start_of ts j

-- each tail ends before the place
abbrev pub EndBefore : List Tail → ℕ → Type 0
EndBefore ts n = (i : ℕ) → i < length ts → end_of ts i < n

-- each tail that begins at the place, or before it, ends before it
abbrev pub IsInNone : List Tail → ℕ → Type 0
IsInNone ts at = (i : ℕ) → i < length ts → start_of ts i ≤ at → end_of ts i < at

-- each long key that begins before the place n begins in a tail
abbrev pub AreListed : List ℕ → List Tail → ℕ → Type 0
AreListed keys ts n =
    (at : ℕ) (s : List ℕ) → at < n → key_at keys at ≡ Some s → 64 < length s → IsInNone ts at → ⊥

-- each tail begins behind the place
abbrev pub AllBehind : List Tail → ℕ → Type 0
AllBehind ts at = (j : ℕ) → j < length ts → at < start_of ts j

-- the tail is in the list, begins at the place or before it, and those behind it begin behind it
abbrev pub IsLastBefore : List Tail → ℕ → Tail → Type 0
IsLastBefore ts at t =
    (i : ℕ) × (i < length ts) × (start_of ts i ≡ t.from)
    × (end_of ts i ≡ t.from + length t.text.now) × (t.from ≤ at)
    × ((j : ℕ) → i < j → j < length ts → at < start_of ts j)

-- the list has the long tails that end before the place n, in order
abbrev pub ListsUpTo : List ℕ → List Tail → ℕ → Type 0
ListsUpTo keys ts n = All (IsTail keys) ts × AreApart ts × EndBefore ts n × AreListed keys ts n
