-- What the proofs of both readers of texts and of the printer need beside the grammar.
use Rattle.std.proofs.Common.{◌≡◌, ◌≢◌, ℕ, suc, ◌+◌, ◌*◌, ◌-◌, ◌<◌, ◌≤◌, true, List, [], min}
use Rattle.std.proofs.Common.{arith}
use Rattle.std.proofs.Common.{◌∷◌, length, get_or, drop, refl, sym, ◌∙◌, ap, subst, Some}
use Rattle.std.proofs.Common.{add-one, drop-cons}
use Rattle.std.proofs.lemmas.Bool.{false≢true}
use Rattle.std.proofs.lemmas.Bool.Decides.{nat_tests}
use Rattle.std.specs.Char.{is_ascii_digit, digit_value}
use Rattle.std.specs.Prelude.{◌↔◌, slice_get, slice_index, if◌then◌else◌}
use Rattle.resb_grammar.specs.Ascii as ascii
use Rattle.resb_grammar.specs.Lexical.{digits_value}
use Rattle.resb_grammar.specs.GroupTypes.{table_kind, Stands}
use Rattle.resb_grammar.specs.Items.{Item, is_pairs, shape_of, a_table, an_array}
use Rattle.resb_grammar.specs.declared.group_kind.Kind as code
use Rattle.resb_grammar.specs.declared.group_kind.Kind.TheVariants as names

-- one byte more of those that stand here
pub stands_next : (text xs : List ℕ) (here i b : ℕ) (Q : Type 0) → i < length xs → get_or xs i 0 ≡ b
    → slice_get text here ≡ Some b → (Stands text here (drop i xs) ↔ Q)
    → (Stands text (here + 1) (drop (i + 1) xs) ↔ Q)
stands_next text xs here i b Q low is there h =
    let e : drop i xs ≡ b ∷ drop (i + 1) xs = drop-cons xs i 0 low
    ∙ ap (λ n. n ∷ drop (suc i) xs) is ∙ ap (λ n. b ∷ drop n xs) (sym (add-one i)) in
    let k : Stands text here (b ∷ drop (i + 1) xs) ↔ Q = subst
    (λ (ys : List ℕ). Stands text here ys ↔ Q) e h in
    (λ s. k.0 (there, s), λ q. (k.1 q).1)

-- the code's names differ where the types do
pub not_table : (k : code.Kind) → (k ≡ names.Table → ⊥) → k ≢ table_kind
not_table names.Table h e = h refl
not_table names.String h e = absurd cc
not_table names.Array h e = absurd cc
not_table names.Binary h e = absurd cc
not_table names.Integer h e = absurd cc
not_table names.IntVector h e = absurd cc

-- a decimal digit's value is how far behind `0` it stands
pub decimal_value : (b : ℕ) → is_ascii_digit b ≡ true → digit_value b ≡ b - ascii.digit_0
decimal_value b h = grind (arith, nat_tests, h)

-- the number that one digit more says
pub digits_value-suc : (text : List ℕ) (from at n m : ℕ) → at ≡ from + n → m ≡ suc n
    → digits_value 10 text from m ≡ digits_value 10 text from n * 10 +
    digit_value (slice_index text at)
digits_value-suc text from at n m e e' =
    subst (λ k. digits_value 10 text from k ≡ digits_value 10 text from n * 10 +
    digit_value (slice_index text at)) (sym e')
    (ap (λ k. digits_value 10 text from n * 10 + digit_value (slice_index text k)) (sym e))

-- keys and groups in turn are a table
pub pairs_are_table : (xs : List Item) → is_pairs xs ≡ true → shape_of xs ≡ a_table
pairs_are_table [] e = refl
pairs_are_table (x ∷ []) e = absurd (false≢true e)
pairs_are_table (x ∷ y ∷ xs) e = ap (λ b. if b then a_table else an_array) e

-- one digit more, as far as a number of 32 bits goes
pub decimal_more : (text : List ℕ) (from at value next : ℕ) → from ≤ at
    → value ≡ min (digits_value 10 text from (at - from)) 4294967296
    → next ≡ min (value * 10 + (slice_index text at - ascii.digit_0)) 4294967296
    → is_ascii_digit (slice_index text at) ≡ true
    → next ≡ min (digits_value 10 text from (at + 1 - from)) 4294967296
decimal_more text from at value next order is more digit =
    let d : digits_value 10 text from (at + 1 - from) ≡ digits_value 10 text from (at - from) * 10 +
    digit_value (slice_index text at) = digits_value-suc text from at (at - from)
    (at + 1 - from)
    (omega arith) (omega arith) in
    omega (arith, d, is, more, decimal_value (slice_index text at) digit)
