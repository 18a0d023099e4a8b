-- Why bytes are no view: they are no whole items, or there are none.
use Rattle.std.proofs.Common.{ℕ, List, ◌≡◌, ◌+◌, Bool, true, false, Some, None, Option, refl}
use Rattle.std.proofs.Common.{sym, ◌∙◌, arith, ap, ◌%◌, length}
use Rattle.std.specs.Prelude.{nat_le, if◌then◌else◌}
use Rattle.std.proofs.lemmas.Bool.{leb-true, le-leb}
use Rattle.resb_format.specs.Bytes.{words_of}
use Rattle.resb_format.proofs.Spelled.{words_length}
use Rattle.resb_format.specs.Error.{Refusal, IsWrongLength}
use Rattle.resb_format.specs.declared.error.ReadingError.{ReadingError}
use Rattle.resb_walk.specs.BlockRefusals.{Says}
use Rattle.resb_read.specs.Places.{Place}
use Rattle.resb_read.specs.Reading.{Lacks, IsThere, any}
use Rattle.resb_read.specs.Leaves.{CountsOf, ReadsBytes, bytes_from}
use Rattle.resb_read.specs.PlaceRefusals.{bytes_refusal_from}
use Rattle.resb_read.specs.PlaceRefusals.{are_paid, view_refusal_from}
use Rattle.std.proofs.lemmas.List.{length-map}
use Rattle.resb_read.proofs.PlainLists.{same_bytes}

unpaid : (there : Option (List ℕ × ℕ)) (left : ℕ) (wrong other : Refusal)
    → Lacks (λ n. (x : List ℕ) × IsThere any there x n) left
    → (if are_paid there left then wrong else other) ≡ other
unpaid None left wrong other lacks = refl
unpaid (Some (x, n)) left wrong other lacks = either (nat_le n left) refl
  where
    either : (b : Bool) → nat_le n left ≡ b → (if b then wrong else other) ≡ other
    either true e = absurd (lacks n (x, (tt, refl)) (leb-true n left e))
    either false e = refl

-- where no bytes are read, it is said why
pub no_bytes_says : (p : Place) (left : ℕ) (e : ReadingError) → Lacks (CountsOf ReadsBytes p) left
    → Says (bytes_refusal_from p.parts p.at left) e
    → Says (view_refusal_from p.parts p.at left) e
no_bytes_says p left e lacks says =
    let other = bytes_refusal_from p.parts p.at left in
    says ∙ sym (unpaid (bytes_from p.parts p.at) left _ other lacks)

-- bytes that can be paid for, but are no whole items
pub no_items : (p : Place) (left left1 : ℕ) (b : List ℕ) (n : ℕ) (e : ReadingError)
    → bytes_from p.parts p.at ≡ Some (b, n) → left1 + n ≡ left → IsWrongLength e
    → Says (view_refusal_from p.parts p.at left) e
no_items p left left1 b n e there paid wrong =
    let k = wrong.kind_is in
    let m = wrong.message_is in
    let t : nat_le n left ≡ true = le-leb n left (omega arith) in
    rw (there, t, k, m) refl

-- whole pairs are whole words of an even number
pub even_words : (there : Option (List ℕ × ℕ)) (b x : List ℕ) (n m : ℕ) → there ≡ Some (b, n)
    → there ≡ Some (x, m) → length x % 8 ≡ 0 → length (words_of b) % 2 ≡ 0
even_words there b x n m e f whole =
    let s : length x ≡ length b = ap length (same_bytes e f) in
    let l = words_length b in
    omega (arith, s, l, whole)

-- how many words a part has, and how many things are made of them
pub ruleset lengths = (length-map, words_length)
