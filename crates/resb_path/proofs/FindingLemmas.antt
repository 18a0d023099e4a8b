-- What a name says as a number, and what stands at a number.
use Rattle.std.proofs.Common.{◌≡◌, ◌∙◌, ℕ, zero, suc, ◌<◌, ◌≤◌, ◌^◌, Bool, true, false, List}
use Rattle.std.proofs.Common.{[], ◌∷◌, length, refl, sym, ap, arith, Option, Some, None, Bor}
use Rattle.std.proofs.Common.{slice_get}
use Rattle.std.specs.Prelude.{cond, nat_lt, ◌&&◌, ◌||◌, ◌==◌, slice_index_or, option_map}
use Rattle.std.specs.Char.{digit_value, is_digit}
use Rattle.std.specs.Slice.{IsItemAt}
use Rattle.std.specs.Str.{bytes_eq}
use Rattle.std.specs.Str.Parse.{AllDigits, IsNumeral, digits_value, without_leading_plus}
use Rattle.std.proofs.lemmas.Bool.{false≢true, lt-ltb}
use Rattle.std.proofs.lemmas.Bool.Decides.{Decides-ltb}
use Rattle.std.proofs.lemmas.Map.Text.{is_eq-slice_cmp}
use Rattle.resb_tree.specs.LayingOrder.{array_members}
use Rattle.resb_tree.specs.Maps.{get}
use Rattle.resb_tree.specs.Tree.{Tree, Entries, entry}
use Rattle.resb_tree.specs.View.{tree_of, items_view}
use Rattle.resb_tree.specs.declared.resource.Resource.{Resource}
use Rattle.resb_read.proofs.InsideTrees.{same_test}
use Rattle.resb_path.specs.Finding.{are_digits, number_written, number_said, is_adorned}

digits_test : (bs : List ℕ) → AllDigits 10 bs → are_digits bs ≡ true
digits_test [] h = refl
digits_test (b ∷ bs) h = rw (lt-ltb (digit_value b) 10 h.0, digits_test bs h.1) refl

digits_behind : (b : ℕ) (bs : List ℕ) (t : Bool) → is_digit b 10 ≡ t
    → (t && are_digits bs) ≡ true → (are_digits bs ≡ true → AllDigits 10 bs)
    → AllDigits 10 (b ∷ bs)
digits_behind b bs true e g more = ((Decides-ltb (digit_value b) 10).0 e, more g)
digits_behind b bs false e g more = absurd (false≢true g)

tested_digits : (bs : List ℕ) → are_digits bs ≡ true → AllDigits 10 bs
tested_digits [] h = tt
tested_digits (b ∷ bs) h = digits_behind b bs (is_digit b 10) refl h (tested_digits bs)

numeral_is_read : (bs : List ℕ) → IsNumeral 10 bs → digits_value 10 bs < 2 ^ 64
    → number_written bs ≡ Some (digits_value 10 bs)
numeral_is_read [] h l = absurd (omega (arith, h.0))
numeral_is_read (b ∷ bs) h l =
    rw (digits_test (b ∷ bs) h.1, lt-ltb (digits_value 10 (b ∷ bs)) (2 ^ 64) l) refl

not_written : (bs : List ℕ) → (IsNumeral 10 bs × (digits_value 10 bs < 2 ^ 64) → ⊥)
    → number_written bs ≡ None
not_written [] h = refl
not_written (b ∷ bs) h =
    by (are_digits (b ∷ bs)) (nat_lt (digits_value 10 (b ∷ bs)) (2 ^ 64)) refl refl
  where
    v : ℕ
    v = digits_value 10 (b ∷ bs)

    by : (s t : Bool) → are_digits (b ∷ bs) ≡ s → nat_lt v (2 ^ 64) ≡ t
        → cond (s && t) (Some v) None ≡ None
    by true true e f =
        absurd (h ((omega arith, tested_digits (b ∷ bs) e), (Decides-ltb v (2 ^ 64)).0 f))
    by true false e f = refl
    by false t e f = refl

-- what `parse` reads
abbrev IsRead : List ℕ → Type 0
IsRead ds = IsNumeral 10 ds × (digits_value 10 ds < 2 ^ 64)

-- no plus comes off where none stands first
no_plus : (bs : List ℕ) → is_adorned bs ≡ false → without_leading_plus bs ≡ bs
no_plus [] h = refl
no_plus (b ∷ bs) h = by (b == 43) refl h
  where
    by : (t : Bool) → b == 43 ≡ t → (t || (b == 48 && nat_lt 1 (length (b ∷ bs)))) ≡ false
        → without_leading_plus (b ∷ bs) ≡ b ∷ bs
    by true e f = absurd (false≢true (sym f))
    by false e f = rw e refl

-- a name without a sign or a leading zero says what its digits write
plainly : (bs : List ℕ) → is_adorned bs ≡ false → number_said bs ≡ number_written bs
plainly bs h = rw h refl

-- what is read is the number that is said
pub read_number_is_said : (bs : List ℕ) (n : ℕ) → is_adorned bs ≡ false
    → IsRead (without_leading_plus bs) × (n ≡ digits_value 10 (without_leading_plus bs))
    → Some n ≡ number_said bs
read_number_is_said bs n a h =
    ap Some h.1 ∙ sym (numeral_is_read (without_leading_plus bs) (h.0).0 (h.0).1)
    ∙ ap number_written (no_plus bs a) ∙ sym (plainly bs a)

-- and where none is read, none is said
pub no_number_is_said : (bs : List ℕ) → is_adorned bs ≡ false
    → (IsRead (without_leading_plus bs) → ⊥) → None ≡ number_said bs
no_number_is_said bs a h =
    sym (not_written (without_leading_plus bs) h)
    ∙ ap number_written (no_plus bs a) ∙ sym (plainly bs a)

-- an adorned name says none
pub none_is_said : (bs : List ℕ) → is_adorned bs ≡ true → None ≡ number_said bs
none_is_said bs h = rw h refl

-- the tree at a key, where an entry stands first
pub found_first : (name k : List ℕ) (t : Tree) (es : Entries)
    → get name (entry k t es) ≡ cond (bytes_eq k name) (Some t) (get name es)
found_first name k t es =
    ap (λ b. cond b (Some t) (get name es)) (is_eq-slice_cmp name k ∙ sym (same_test k name))

-- the member of this number
past_trees : (rs : List Resource) (n : ℕ) → length rs ≤ n
    → slice_get (array_members (items_view rs)) n ≡ None
past_trees [] n h = refl
past_trees (r ∷ rs) zero h = absurd (omega arith)
past_trees (r ∷ rs) (suc n) h = past_trees rs n (omega arith)

tree_there : (rs : List Resource) (n : ℕ) (d : Resource) → n < length rs
    → slice_get (array_members (items_view rs)) n ≡ Some (tree_of (slice_index_or rs n d))
tree_there [] n d h = absurd (omega arith)
tree_there (r ∷ rs) zero d h = refl
tree_there (r ∷ rs) (suc n) d h = tree_there rs n d (omega arith)

pub tree_found : (rs : List Resource) (n : ℕ) (r : Option (Bor Resource)) → IsItemAt rs n r
    → option_map (λ x. tree_of x.now) r ≡ slice_get (array_members (items_view rs)) n
tree_found rs n None h = sym (past_trees rs n h.3)
tree_found rs n (Some x) h =
    ap (λ y. Some (tree_of y)) h.1 ∙ sym (tree_there rs n x.now h.3.0)
