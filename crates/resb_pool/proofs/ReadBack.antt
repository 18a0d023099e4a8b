-- A text that stands in the 16-bit block is read there, with its marker or without.
use Rattle.std.proofs.Common.{◌≡◌, ℕ, ◌+◌, ◌-◌, ◌*◌, ◌/◌, ◌%◌, ◌<◌, ◌≤◌, List, [], ◌∷◌}
use Rattle.std.proofs.Common.{◌++◌, length, get_or, take, drop, Some, option_and_then, true, false}
use Rattle.std.proofs.Common.{not, cond, ◌&&◌, nat_le, ◌⊎◌, inl, inr, refl, sym, ◌∙◌, ap}
use Rattle.std.proofs.Common.{append_assoc, length-append, arith}
use Rattle.std.specs.Str.{IsUtf8}
use Rattle.std.proofs.lemmas.Str.{IsUtf8-nil, chars-nil}
use Rattle.std.specs.List.{flat_map}
use Rattle.std.specs.Char.Escape.{encode_utf16}
use Rattle.std.proofs.lemmas.Bool.{cases_lt, and_parts, not-true, leb-true, le-leb, lt-leb}
use Rattle.std.proofs.lemmas.List.{drop_at, get_or-append-add, get_or_at}
use Rattle.std.proofs.lemmas.Bool.Decides.{nat_tests}
use Rattle.resb_format.specs.Strings.{is_no_marker, before_zero, string_from, string_at}
use Rattle.resb_format.specs.Strings.{text_of_units, text_at}
use Rattle.std.proofs.Math.Seq.{take-append_seam}
use Rattle.resb_format.proofs.Inside.{part_in}
use Rattle.resb_format.specs.Bytes.{part}
use Rattle.resb_format.specs.Units.{units, is_unmarked, marker, length_marker}
use Rattle.resb_pool.proofs.Zeros.{has_zero, before_zero-found}
use Rattle.resb_pool.proofs.Utf16.{text_of_units-units, has_zero-units, units-first}
use Rattle.resb_pool.proofs.Lists.{take_to_zero, first_kept}

-- a first unit that is no marker
unmarked_from : (block : List ℕ) (u first : ℕ) → (first ≤ 0xdbff) ⊎ (0xdfff < first)
    → string_from block u first ≡ before_zero (take 41 (drop u block))
unmarked_from block u first h =
    let t : is_no_marker first ≡ true = no_marker first h in
    rw t refl
  where
    no_marker : (n : ℕ) → (n ≤ 0xdbff) ⊎ (0xdfff < n) → is_no_marker n ≡ true
    no_marker n (inl g) = grind (arith, nat_tests)
    no_marker n (inr g) = grind (arith, nat_tests)

pub string_at-found : (front us rest : List ℕ) → has_zero us ≡ false → length us ≤ 40
    → (get_or (us ++ 0 ∷ rest) 0 0 ≤ 0xdbff) ⊎ (0xdfff < get_or (us ++ 0 ∷ rest) 0 0)
    → string_at (front ++ (us ++ 0 ∷ rest)) (length front) ≡ Some us
unfolding string_at
string_at-found front us rest z l f =
    let block : List ℕ = front ++ (us ++ 0 ∷ rest) in
    let n : ℕ = length front in
    let same : n ≡ n + 0 = omega arith in
    let at : get_or block n 0 ≡ get_or (us ++ 0 ∷ rest) 0 0 = ap (λ k. get_or block k 0) same
    ∙ get_or-append-add front (us ++ 0 ∷ rest) 0 0 in
    unmarked_from block n (get_or block n 0) (elim f [
      | inl h ↦ inl (omega (arith, at))
      | inr h ↦
          inr (omega (arith, at))
    ])
    ∙ ap (λ l. before_zero (take 41 l)) (drop_at front (us ++ 0 ∷ rest) n refl)
    ∙ ap before_zero (take_to_zero us rest 41 (omega arith))
    ∙ before_zero-found us (take (41 - (length us + 1)) rest) z

-- an unmarked text is read where its units and a 0 stand
pub text_at-found : (front s rest : List ℕ) → IsUtf8 s → is_unmarked s ≡ true
    → text_at (front ++ (units s ++ 0 ∷ rest)) (length front) ≡ Some s
unfolding text_at
text_at-found front s rest u m =
    let p = and_parts (nat_le (length (units s)) 40) (not (has_zero s)) m in
    ap (option_and_then text_of_units) (string_at-found front (units s) rest
    (has_zero-units s u (not-true (has_zero s) p.1)) (leb-true (length (units s)) 40 p.0)
    (first_kept (units s) rest (units-first s u)))
    ∙ text_of_units-units s u

-- the empty text is read at a unit 0
pub text_at-zero : (rest : List ℕ) → text_at (0 ∷ rest) 0 ≡ Some []
text_at-zero rest =
    let e : units [] ≡ [] = ap (flat_map encode_utf16) chars-nil in
    let m : is_unmarked [] ≡ true = ap (λ us. nat_le (length us) 40 && true) e in
    ap (λ us. text_at (us ++ 0 ∷ rest) 0) (sym e) ∙ text_at-found [] [] rest IsUtf8-nil m

marks : (n : ℕ) → 0xdc00 ≤ n → n ≤ 0xdfff → is_no_marker n ≡ false
marks n a b = grind (arith, nat_tests)

from_one : (block : List ℕ) (u first : ℕ) → 0xdc00 ≤ first → first ≤ 0xdfee
    → string_from block u first ≡ part block (u + 1) (first - 0xdc00)
from_one block u first a b =
    let x : is_no_marker first ≡ false = marks first a (omega arith) in
    let y : nat_le first 0xdfee ≡ true = le-leb first 0xdfee b in
    rw (x, y) refl

from_two : (block : List ℕ) (u first : ℕ) → 0xdfef ≤ first → first ≤ 0xdffe
    → string_from block u first ≡ part block (u + 2) ((first - 0xdfef) * 0x1_0000 + get_or block
    (u + 1) 0)
from_two block u first a b =
    let x : is_no_marker first ≡ false = marks first (omega arith) (omega arith) in
    let y : nat_le first 0xdfee ≡ false = lt-leb first 0xdfee (omega arith) in
    let z : nat_le first 0xdffe ≡ true = le-leb first 0xdffe b in
    rw (x, y, z) refl

from_three : (block : List ℕ) (u : ℕ)
    → string_from block u 0xdfff ≡ part block (u + 3) (get_or block (u + 1) 0 * 0x1_0000 + get_or
    block (u + 2) 0)
from_three block u = refl

part_at : (front mid us rest : List ℕ) (i n : ℕ) → i ≡ length front + length mid → n ≡ length us
    → part (front ++ (mid ++ (us ++ rest))) i n ≡ Some us
part_at front mid us rest i n e f =
    let block : List ℕ = front ++ (mid ++ (us ++ rest)) in
    let same : block ≡ (front ++ mid) ++ (us ++ rest) = sym (append_assoc front mid (us ++ rest)) in
    let long : length block ≡ length front + (length mid + (length us + length rest)) =
    omega (
      arith,
      length-append front (mid ++ (us ++ rest)),
      length-append mid (us ++ rest),
      length-append us rest,
    ) in
    part_in block i n (omega (arith, long, e, f))
    ∙ ap Some (ap (λ l. take n (drop i l)) same
    ∙ ap (take n) (drop_at (front ++ mid) (us ++ rest) i (length-append front mid ∙ sym e))
    ∙ ap (λ k. take k (us ++ rest)) f ∙ take-append_seam us rest)

module _ (front us rest : List ℕ) (n : ℕ) (e : n ≡ length us) where
  with_one : n ≤ 0x3ee → string_at (front ++ ((0xdc00 + n) ∷ [] ++ (us ++ rest))) (length front) ≡
      Some us
  unfolding string_at
  with_one h =
      let block : List ℕ = front ++ ((0xdc00 + n) ∷ (us ++ rest)) in
      let long : length {A = ℕ} ((0xdc00 + n) ∷ []) ≡ 1 = refl in
      ap (string_from block (length front))
      (get_or_at front (0xdc00 + n) (us ++ rest) 0 (length front) refl)
      ∙ from_one block (length front) (0xdc00 + n) (omega arith) (omega arith)
      ∙ part_at front ((0xdc00 + n) ∷ []) us rest (length front + 1) (0xdc00 + n - 0xdc00)
      (omega (arith, long)) (omega (arith, e))

  with_two : 0x3ee < n → n ≤ 0xf_ffff
      → string_at (front ++ ((0xdfef + n / 0x1_0000) ∷ (n % 0x1_0000) ∷ [] ++ (us ++ rest)))
      (length front) ≡ Some us
  unfolding string_at
  with_two l h =
      let m : ℕ = 0xdfef + n / 0x1_0000 in
      let k : ℕ = n % 0x1_0000 in
      let block : List ℕ = front ++ (m ∷ k ∷ (us ++ rest)) in
      let long : length {A = ℕ} (m ∷ k ∷ []) ≡ 2 = refl in
      let second : get_or block (length front + 1) 0 ≡ k =
      get_or-append-add front (m ∷ k ∷ (us ++ rest)) 1 0 in
      ap (string_from block (length front))
      (get_or_at front m (k ∷ (us ++ rest)) 0 (length front) refl)
      ∙ from_two block (length front) m (omega arith) (omega arith)
      ∙ part_at front (m ∷ k ∷ []) us rest (length front + 2)
      ((m - 0xdfef) * 0x1_0000 + get_or block (length front + 1) 0) (omega (arith, long))
      (omega (arith, second, e))

  with_three : 0xf_ffff < n → n ≤ 0xffff_ffff
      → string_at (front ++ (0xdfff ∷ (n / 0x1_0000) ∷ (n % 0x1_0000) ∷ [] ++ (us ++ rest)))
      (length front) ≡ Some us
  unfolding string_at
  with_three l h =
      let j : ℕ = n / 0x1_0000 in
      let k : ℕ = n % 0x1_0000 in
      let block : List ℕ = front ++ (0xdfff ∷ j ∷ k ∷ (us ++ rest)) in
      let long : length {A = ℕ} (0xdfff ∷ j ∷ k ∷ []) ≡ 3 = refl in
      let second : get_or block (length front + 1) 0 ≡ j =
      get_or-append-add front (0xdfff ∷ j ∷ k ∷ (us ++ rest)) 1 0 in
      let third : get_or block (length front + 2) 0 ≡ k =
      get_or-append-add front (0xdfff ∷ j ∷ k ∷ (us ++ rest)) 2 0 in
      ap (string_from block (length front))
      (get_or_at front 0xdfff (j ∷ k ∷ (us ++ rest)) 0 (length front) refl)
      ∙ from_three block (length front)
      ∙ part_at front (0xdfff ∷ j ∷ k ∷ []) us rest (length front + 3)
      (get_or block (length front + 1) 0 * 0x1_0000 + get_or block (length front + 2) 0)
      (omega (arith, long)) (omega (arith, second, third, e))

  -- a text with a marker is read where its marker stands
  pub string_at-marked : n ≤ 0xffff_ffff → string_at (front ++ (length_marker n ++ (us ++ rest)))
      (length front) ≡ Some us
  string_at-marked h = elim (cases_lt 0x3ee n) [
    | inl big ↦ elim (cases_lt 0xf_ffff n) [
      | inl huge ↦ (let a : nat_le n 0x3ee ≡ false = lt-leb n 0x3ee big in
          let b : nat_le n 0xf_ffff ≡ false = lt-leb n 0xf_ffff huge in
          rw (a, b) (with_three huge h))
      | inr mid ↦ (let a : nat_le n 0x3ee ≡ false = lt-leb n 0x3ee big in
          let b : nat_le n 0xf_ffff ≡ true = le-leb n 0xf_ffff mid in rw (a, b) (with_two big mid))
    ]
    | inr small ↦ (let a : nat_le n 0x3ee ≡ true = le-leb n 0x3ee small in rw a (with_one small))
  ]

pub text_at-marked : (front s rest : List ℕ) → IsUtf8 s → is_unmarked s ≡ false
    → length (units s) ≤ 0xffff_ffff
    → text_at (front ++ (marker s ++ (units s ++ rest))) (length front) ≡ Some s
unfolding text_at
text_at-marked front s rest u m l =
    let e : marker s ≡ length_marker (length (units s)) =
    ap (λ b. cond b [] (length_marker (length (units s)))) m in
    ap (λ k. option_and_then text_of_units (string_at (front ++ (k ++ (units s ++ rest)))
    (length front))) e
    ∙ ap (option_and_then text_of_units) (string_at-marked front (units s) rest (length (units s))
    refl l)
    ∙ text_of_units-units s u
