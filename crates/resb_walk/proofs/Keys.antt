-- Keys at positions, by their bytes up to the next zero byte.
use Rattle.std.proofs.Common.{ℕ, List, ◌≡◌, ◌<◌, ◌≤◌, ◌∙◌, true, false, take, drop, Some, None}
use Rattle.std.proofs.Common.{refl, length, get_or, nat_eq, arith, lit<}
use Rattle.std.specs.Prelude.{position, ◌==◌}
use Rattle.std.proofs.lemmas.Bool.{false_from_ne_true}
use Rattle.std.proofs.lemmas.Bool.Decides.{nat_tests}
use Rattle.std.proofs.lemmas.List.Sums.{position_or_len_is}
use Rattle.std.specs.List.{position_or_len}
use Rattle.std.specs.Str.{IsUtf8, is_utf8}
use Rattle.std.proofs.lemmas.Str.{is_utf8-from_IsUtf8, IsUtf8-from_is_utf8, IsUtf8-from_ascii}
use Rattle.resb_format.specs.Strings.{key_at, before_zero}
use Rattle.resb_format.proofs.StringsIn.{ends_at_zero}
use Rattle.resb_walk.proofs.Lists.{front_below}

pub key_some : (keys : List ℕ) (k n : ℕ) → position (λ b. b == 0) (drop k keys) ≡ Some n
    → IsUtf8 (take n (drop k keys)) → key_at keys k ≡ Some (take n (drop k keys))
unfolding key_at
key_some keys k n e h =
    let u : is_utf8 (take n (drop k keys)) ≡ true = is_utf8-from_IsUtf8 (take n (drop k keys)) h in
    rw (e, u) refl

pub key_invalid : (keys : List ℕ) (k n : ℕ) → position (λ b. b == 0) (drop k keys) ≡ Some n
    → (IsUtf8 (take n (drop k keys)) → ⊥) → key_at keys k ≡ None
unfolding key_at
key_invalid keys k n e h =
    let u : is_utf8 (take n (drop k keys)) ≡ false = false_from_ne_true
    (is_utf8 (take n (drop k keys))) (λ t. h (IsUtf8-from_is_utf8 _ t)) in
    rw (e, u) refl

pub ruleset at = (key_some, key_invalid)

-- the bytes before the first 0
front_before_zero : (bs : List ℕ) (n : ℕ) → n < length bs
    → ((k : ℕ) → k < n → 0 < get_or bs k 0) → get_or bs n 0 ≡ 0
    → before_zero bs ≡ Some (take n bs)
front_before_zero bs n inside h e =
    let fails : (k : ℕ) → k < n → nat_eq (get_or bs k 0) 0 ≡ false = λ k l.
    (let p = h k l in grind (arith, nat_tests, p)) in
    let passes : nat_eq (get_or bs n 0) 0 ≡ true = rw e refl in
    let within : n ≤ length bs = omega arith in
    let place : position_or_len (λ x. nat_eq x 0) bs ≡ n =
    position_or_len_is (λ x. nat_eq x 0) bs n 0 within fails (λ l. passes) in
    let inner : position_or_len (λ x. nat_eq x 0) bs < length bs = rw place inside in
    ends_at_zero bs inner ∙ rw place refl

-- the bytes before a key's end are a text, if all are ASCII
pub plain_valid : (tail : List ℕ) (n : ℕ)
    → ((k : ℕ) → k < n → (0 < get_or tail k 0) × (get_or tail k 0 < 128)) → IsUtf8 (take n tail)
plain_valid tail n h =
    IsUtf8-from_ascii (take n tail) (front_below tail n 128 (lit< tt) (λ k l. (h k l).1))

-- a key of ASCII, up to the 0 behind it
pub plain_key : (keys tail : List ℕ) (at n : ℕ) → tail ≡ drop at keys → n < length tail
    → get_or tail n 0 ≡ 0
    → ((k : ℕ) → k < n → (0 < get_or tail k 0) × (get_or tail k 0 < 128))
    → key_at keys at ≡ Some (take n tail)
unfolding key_at
plain_key keys tail at n is inside ends h =
    let valid : is_utf8 (take n tail) ≡ true =
    is_utf8-from_IsUtf8 (take n tail) (plain_valid tail n h) in
    let front : before_zero tail ≡ Some (take n tail) =
    front_before_zero tail n inside (λ k l. (h k l).0) ends in
    rw (← is, front, valid) refl
