-- Laws of what a group without items holds: its hex digits, and its tree.
use Rattle.std.proofs.Common.{◌≡◌, ◌≢◌, ◌*◌, ◌+◌, ◌%◌, ℕ, Bool, true, false, List, [], ◌∷◌}
use Rattle.std.proofs.Common.{refl, sym, ◌∙◌, ap, length, arith}
use Rattle.std.specs.Prelude.{Option, Some, None, ◌&&◌, MatchBool, nat_eq}
use Rattle.std.specs.List.{list_all}
use Rattle.std.specs.Option.{unwrap_or}
use Rattle.std.proofs.lemmas.Bool.{false≢true, and_parts}
use Rattle.std.proofs.lemmas.Bool.Decides.{nat_tests}
use Rattle.std.specs.Char.{digit_value}
use Rattle.resb_draft.specs.Drafts.{is_leaf}
use Rattle.resb_grammar.specs.Group.{is_hex, hex_bytes, byte_before}
use Rattle.resb_text.specs.Inner.Content.{ArePairs, tree_of_content}
use Rattle.resb_text.specs.declared.content.Content.{Content}
use Rattle.resb_text.specs.declared.content.Content.TheVariants as variant

-- such a group is neither an array nor a table
pub content_is_leaf : (c : Content) → is_leaf (tree_of_content c) ≡ true
content_is_leaf (variant.String s) = refl
content_is_leaf (variant.Binary s) = refl
content_is_leaf (variant.Integer n) = refl
content_is_leaf (variant.IntVector v) = refl

-- what says bytes is hex digits, two for each of them
bytes_paired : (s bytes : List ℕ) → hex_bytes s ≡ Some bytes
    → (list_all is_hex s ≡ true) × (length s ≡ 2 * length bytes)
bytes_paired [] bytes e =
    let same : [] ≡ bytes = cc in (refl, omega (arith, ap length same))
bytes_paired (a ∷ []) bytes e = absurd cc
bytes_paired (a ∷ b ∷ s) bytes e =
    by (is_hex a) (is_hex b) (hex_bytes s) refl refl e (λ bs f. bytes_paired s bs f)
  where
    by : (x y : Bool) (o : Option (List ℕ)) → is_hex a ≡ x → is_hex b ≡ y
        → byte_before (x && y) (digit_value a * 16 + digit_value b) o ≡ Some bytes
        → ((bs : List ℕ) → o ≡ Some bs → (list_all is_hex s ≡ true) × (length s ≡ 2 * length bs))
        → (list_all is_hex (a ∷ b ∷ s) ≡ true) × (length (a ∷ b ∷ s) ≡ 2 * length bytes)
    by true true (Some bs) h k g f =
        let r = f bs refl in
        let same : (digit_value a * 16 + digit_value b) ∷ bs ≡ bytes = cc in
        (rw (h, k, r.0) refl, omega (arith, r.1, ap length same))
    by true true None h k g f = absurd cc
    by true false o h k g f = absurd cc
    by false y o h k g f = absurd cc

-- an even number of hex digits is pairs of them
digits_paired : (s : List ℕ) → list_all is_hex s ≡ true → length s % 2 ≡ 0 → ArePairs s
digits_paired [] h e = λ none. absurd cc
digits_paired (a ∷ []) h e = absurd (omega arith)
digits_paired (a ∷ b ∷ s) h e =
    let p = and_parts (is_hex a) _ h in
    let q = and_parts (is_hex b) _ p.1 in
    by (hex_bytes s) refl p.0 q.0 (digits_paired s q.1 (omega arith))
  where
    by : (o : Option (List ℕ)) → hex_bytes s ≡ o → is_hex a ≡ true → is_hex b ≡ true → o ≢ None
        → ArePairs (a ∷ b ∷ s)
    by None e x y other = absurd (other refl)
    by (Some bytes) e x y other =
        let said : hex_bytes (a ∷ b ∷ s) ≡ Some ((digit_value a * 16 + digit_value b) ∷ bytes) =
        rw (x, y, e) refl in
        λ none. absurd cc

-- what is no bytes by any, is none
unsaid : (s : List ℕ) → ((bytes : List ℕ) → hex_bytes s ≡ Some bytes → ⊥) → hex_bytes s ≡ None
unsaid s f = by (hex_bytes s) refl
  where
    by : (o : Option (List ℕ)) → hex_bytes s ≡ o → o ≡ None
    by None e = refl
    by (Some bytes) e = absurd (f bytes e)

-- other bytes than hex digits are no pairs of them
pub others_unpaired : (s : List ℕ) → list_all is_hex s ≡ false → hex_bytes s ≡ None
others_unpaired s h = unsaid s (λ bytes e. false≢true (sym h ∙ (bytes_paired s bytes e).0))

-- nor is an odd number of them
odd_unpaired : (s : List ℕ) → length s % 2 ≢ 0 → hex_bytes s ≡ None
odd_unpaired s odd = unsaid s (λ bytes e. let twice = (bytes_paired s bytes e).1 in
    odd (omega (arith, twice)))

-- hex digits are pairs where their number is even
pub even_paired : (s : List ℕ) → list_all is_hex s ≡ true
    → MatchBool (nat_eq (length s % 2) 0) (ArePairs s) (hex_bytes s ≡ None)
even_paired s h = by (nat_eq (length s % 2) 0) refl
  where
    by : (b : Bool) → nat_eq (length s % 2) 0 ≡ b
        → MatchBool b (ArePairs s) (hex_bytes s ≡ None)
    by true e = digits_paired s h (grind (arith, nat_tests, e))
    by false e = odd_unpaired s (λ same. absurd (grind (arith, nat_tests, e, same)))

-- pairs of digits say their bytes
pub pairs_said : (s : List ℕ) → ArePairs s → hex_bytes s ≡ Some (unwrap_or (hex_bytes s) [])
pairs_said s pairs = by (hex_bytes s) pairs
  where
    by : (o : Option (List ℕ)) → o ≢ None → o ≡ Some (unwrap_or o [])
    by None other = absurd (other refl)
    by (Some bytes) other = refl

-- one byte for two digits
pub pairs_counted : (s : List ℕ) → ArePairs s
    → length s ≡ 2 * length (unwrap_or (hex_bytes s) [])
pairs_counted s pairs = (bytes_paired s _ (pairs_said s pairs)).1
