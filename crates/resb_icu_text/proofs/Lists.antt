-- Numbers, bytes of a list, Booleans, options and results: what names no word of this project.
use Rattle.std.proofs.Common.{◌≡◌, ◌≢◌, ℕ, ◌+◌, ◌≤◌, Bool, true, false, refl, sym, ap, ◌∙◌, arith}
use Rattle.std.proofs.Common.{cond, ◌<◌, ◌-◌, List, [], length, get_or, take, drop, slice_get}
use Rattle.std.proofs.Common.{slice_index, slice_range, Option, Some, None, IfNone, not, ◌||◌}
use Rattle.std.proofs.lemmas.Option.{slice_get_within, slice_get-get_or, same_Some}
use Rattle.std.specs.Option.{is_some}
use Rattle.std.proofs.lemmas.Bool.{false≢true}

-- where neither of two holds, the first is false, and the second doesn't hold
pub not_or_parts : (a b : Bool) → not (a || b) ≡ true → (a ≡ false) × (not b ≡ true)
not_or_parts true b h = absurd (false≢true h)
not_or_parts false b h = (refl, h)

-- a number or one more is at most one more
pub cond_at_most : (b : Bool) (n : ℕ) → cond b n (n + 1) ≤ n + 1
cond_at_most true n = omega arith
cond_at_most false n = omega arith

-- of a number and one more, the choice was false where it is one more
pub false_from_one_more : (b : Bool) (n m : ℕ) → m ≡ cond b n (n + 1) → m ≡ n + 1 → b ≡ false
false_from_one_more true n m h g = absurd (omega (arith, h, g))
false_from_one_more false n m h g = refl

-- what is not there is none, and what is there is not
pub none_from_not_some : {A : Type 0} (o : Option A) → is_some o ≡ false → o ≡ None
none_from_not_some None h = refl
none_from_not_some (Some a) h = absurd (false≢true (sym h))

pub some_not_none : {A : Type 0} (o : Option A) (a : A) → o ≡ Some a → o ≢ None
some_not_none o a h n = false≢true (ap is_some (sym n ∙ h))

-- what holds anyway holds where there is none
pub IfNone_from : {A : Type 0} (o : Option A) (P : Type 0) → P → IfNone o P
IfNone_from None P p = p
IfNone_from (Some x) P p = tt

-- behind the text's end stands no byte
pub past_end : (text : List ℕ) (here b : ℕ) → length text ≤ here → slice_get text here ≡ Some b → ⊥
past_end text here b l e =
    let low : here < length text = slice_get_within _ _ _ e in omega (arith, low)

-- where another byte stands, this one does not
pub other_byte : (text : List ℕ) (here b : ℕ) → here < length text → slice_index text here ≢ b
    → slice_get text here ≡ Some b → ⊥
other_byte text here b l n e =
    n (same_Some (get_or text here 0) b (sym (slice_get-get_or text here 0 l) ∙ e))

-- the byte that stands there
pub byte_there : (text : List ℕ) (here b : ℕ) → here < length text → slice_index text here ≡ b
    → slice_get text here ≡ Some b
byte_there text here b l e = slice_get-get_or text here 0 l ∙ ap Some e

-- a slice of no byte
pub slice_none : (text : List ℕ) (at : ℕ) → slice_range text at at ≡ []
slice_none text at =
    let n : at - at ≡ 0 = omega arith in ap (λ k. take k (drop at text)) n
