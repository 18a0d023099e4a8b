-- Numbers, tests, orders and options: what names no word of this project.
use Rattle.std.proofs.Common.{◌≡◌, ℕ, zero, suc, ◌^◌, ◌<◌, ◌%◌, ◌∙◌, sym, refl, arith, Bool, false}
use Rattle.std.specs.Prelude.{IsTrue}
use Rattle.std.proofs.lemmas.Bool.{false≢true}
use Rattle.std.specs.Prelude.{T, true, ◌&&◌}
use Rattle.std.proofs.Common.{Ordering, Less, Equal, Greater}
use Rattle.std.specs.Ordering.{ordering_reverse, is_eq, is_lt}
use Rattle.std.proofs.Common.{Option, Some, None}
use Rattle.std.specs.Option.{UnwrapsOrElse}

-- a number of 28 bits is its own remainder
pub low_bits_kept : (n : ℕ) → n < 2 ^ 28 → n % 2 ^ 28 ≡ n
low_bits_kept n h = omega arith

-- a number at which a test that holds at 0 fails
pub positive_where_false : (n : ℕ) (b : Bool) → (n ≡ 0 → IsTrue b) → b ≡ false → 0 < n
positive_where_false zero b h e = absurd (false≢true (sym e ∙ h refl))
positive_where_false (suc n) b h e = omega arith

-- both tests hold
pub both_true : (a b : Bool) → T a → T b → T (a && b)
both_true true b h k = k
both_true false b h k = absurd h

-- what is equal stays so in the other order
pub eq_reversed : (o : Ordering) → is_eq (ordering_reverse o) ≡ is_eq o
eq_reversed Less = refl
eq_reversed Equal = refl
eq_reversed Greater = refl

-- what the test for less tells
pub is_lt_tells : (o : Ordering) → is_lt o ≡ true → o ≡ Less
is_lt_tells Less h = refl
is_lt_tells Equal h = absurd (false≢true h)
is_lt_tells Greater h = absurd (false≢true h)

-- what stands where nothing stood was made new
pub made_new : {X : Type 0} (o : Option X) (P : X → Type 0) (r : X) → o ≡ None → UnwrapsOrElse o P r
    → P r
made_new None P r e h = h
made_new (Some x) P r e h = absurd (cc)
