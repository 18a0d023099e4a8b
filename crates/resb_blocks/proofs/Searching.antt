-- The search by halves for the last tail before a place, and what it shows of keys.
use Rattle.std.proofs.Common.{ℕ, List, [], ◌∷◌, ◌≡◌, ◌+◌, ◌-◌, ◌<◌, ◌≤◌, ◌⊎◌, inl, inr, length}
use Rattle.std.proofs.Common.{zero, suc, get_or, Some, arith, sym, ap, ◌∙◌}
use Rattle.std.proofs.lemmas.Bool.{cases_lt}
use Rattle.std.proofs.lemmas.List.{get_or-map}
use Rattle.resb_format.specs.Strings.{key_at}
use Rattle.std.specs.Str.{IsCharBoundary}
use Rattle.resb_blocks.specs.declared.tails.Tail.{Tail}
use Rattle.resb_blocks.specs.Tails.{IsTail}
use Rattle.resb_blocks.specs.Inner.Listed.{start_of, end_of, AreApart, IsInNone, AreListed}
use Rattle.resb_blocks.specs.Inner.Listed.{AllBehind, IsLastBefore}
use Rattle.resb_blocks.proofs.TailLaws.{cut_of_tail, no_key_past}

start_le_end : (ts : List Tail) (i : ℕ) → i < length ts → start_of ts i ≤ end_of ts i
start_le_end [] i l = absurd (omega (arith, l))
start_le_end (t ∷ ts) zero l = omega arith
start_le_end (t ∷ ts) (suc i) l = start_le_end ts i (omega (arith, l))

-- the tail with a number
pub start_is : (ts : List Tail) (i : ℕ) (t : Tail) → i < length ts → t ≡ get_or ts i t
    → start_of ts i ≡ t.from
start_is ts i t l e = get_or-map (λ u. u.from) ts i t 0 l ∙ ap (λ u. u.from) (sym e)

-- and ends where its text does
pub end_is : (ts : List Tail) (i : ℕ) (t : Tail) → i < length ts → t ≡ get_or ts i t
    → end_of ts i ≡ t.from + length t.text.now
end_is ts i t l e =
    get_or-map (λ u. u.from + length u.text.now) ts i t 0 l
    ∙ ap (λ u. u.from + length u.text.now) (sym e)

-- those before a tail begin before it
pub before_it : (ts : List Tail) (i j : ℕ) → AreApart ts → i ≤ j → j < length ts
    → start_of ts i ≤ start_of ts j
before_it ts i j h le l = cases (cases_lt i j)
  where
    cases : (i < j) ⊎ (j ≤ i) → start_of ts i ≤ start_of ts j
    cases (inl a) = omega (arith, h i j a l, start_le_end ts i (omega (arith, a, l)))
    cases (inr a) = let e : i ≡ j = omega (arith, le, a) in rw e (omega arith)

-- a place in no tail has no long key
pub no_tail_no_key : (keys : List ℕ) (ts : List Tail) (at : ℕ) (s : List ℕ)
    → AreListed keys ts (length keys) → IsInNone ts at → key_at keys at ≡ Some s → length s ≤ 64
no_tail_no_key keys ts at s h none e = cases (cases_lt 64 (length s)) (cases_lt at (length keys))
  where
    cases : (64 < length s) ⊎ (length s ≤ 64) → (at < length keys) ⊎ (length keys ≤ at)
        → length s ≤ 64
    cases (inr a) b = a
    cases (inl a) (inl b) = absurd (h at s b e a none)
    cases (inl a) (inr b) = absurd (no_key_past keys s at b e)

-- where all tails begin behind a place, it is in none of them
pub behind_in_none : (ts : List Tail) (at : ℕ) → AllBehind ts at → IsInNone ts at
behind_in_none ts at h i l m = absurd (omega (arith, h i l, m))

-- where the last tail before a place can't be cut there, no key stands there that is in a tail
pub uncut_in_none : (keys : List ℕ) (ts : List Tail) (at : ℕ) (t : Tail) (s : List ℕ)
    → AreApart ts → IsTail keys t → IsLastBefore ts at t → key_at keys at ≡ Some s
    → (IsCharBoundary t.text.now (at - t.from) → ⊥) → IsInNone ts at
uncut_in_none keys ts at t s apart is (n, l, begins, ends, before, behind) e uncut i m le =
    cases (cases_lt i n) (cases_lt n i)
  where
    k : ℕ
    k = at - t.from

    over : (length t.text.now < k) ⊎ (k ≤ length t.text.now) → end_of ts n < at
    over (inr a) =
        let f : t.from + k ≡ at = omega (arith, before) in
        absurd (uncut (cut_of_tail keys t.text.now s t.from k is a (rw f e)))
    over (inl a) = omega (arith, ends, before, a)

    cases : (i < n) ⊎ (n ≤ i) → (n < i) ⊎ (i ≤ n) → end_of ts i < at
    cases (inl a) b = omega (arith, apart i n a l, begins, before)
    cases (inr a) (inl b) = absurd (omega (arith, behind i b m, le))
    cases (inr a) (inr b) =
        let f : n ≡ i = omega (arith, a, b) in
        rw (← f) (over (cases_lt (length t.text.now) k))
