-- What stands at a place of a pool's block is one record, and is read there.
use Rattle.std.proofs.Common.{ℕ, List, [], ◌∷◌, ◌++◌, ◌≡◌, ◌+◌, ◌<◌, ◌≤◌, ◌^◌, take, drop}
use Rattle.std.proofs.Common.{length, Some, None, Bool, true, false, refl, sym, ap, ◌∙◌, get_or}
use Rattle.std.proofs.Common.{arith, append_assoc, length-append, length-drop, length-take, cond}
use Rattle.std.specs.Cmp.Lexicographic.{bytes_decides}
use Rattle.std.specs.List.{starts_with}
use Rattle.std.specs.Str.{IsUtf8}
use Rattle.std.specs.Prelude.{nat_eq}
use Rattle.std.proofs.lemmas.List.{take-append-drop, length-take-le, take_more}
use Rattle.resb_format.specs.Strings.{text_at}
use Rattle.resb_format.specs.Units.{units, marker, size, is_unmarked, length_marker}
use Rattle.resb_pool.specs.Pool.{record_units}
use Rattle.resb_pool.specs.Records.{IsHeldBy}
use Rattle.resb_pool.proofs.Least.{units_end}
use Rattle.resb_pool.proofs.ReadBack.{text_at-found, text_at-marked}
use Rattle.resb_lent.specs.LentTexts.{StandsAt, Reaches, at_end, past}

-- one unit more of a list
pub one_more : (us : List ℕ) (i x : ℕ) (old new : List ℕ) → i < length us → old ≡ take i us
    → x ≡ get_or us i 0 → new ≡ old ++ x ∷ [] → new ≡ take (i + 1) us
one_more us i x old new l o e n =
    n ∙ ap (λ l. l ++ x ∷ []) o ∙ ap (λ u. take i us ++ u ∷ []) e ∙ sym (take_more us i 0 l)

pub record_size : (r : List ℕ) → length (record_units r) ≡ size r
record_size r =
    let z : length {A = ℕ} (0 ∷ []) ≡ 1 = refl in
    omega (
      arith,
      z,
      length-append (marker r) (units r ++ 0 ∷ []),
      length-append (units r) (0 ∷ []),
    )

-- an unmarked text's marker is empty
no_marker : (r : List ℕ) → is_unmarked r ≡ true → marker r ≡ []
no_marker r m = ap (λ b. cond b [] (length_marker (length (units r)))) m

module _ (block : List ℕ) (at : ℕ) (r : List ℕ) (h : StandsAt block at r) where
  abbrev rest : List ℕ
  rest = drop (size r) (drop at block)

  pub inside : at + size r ≤ length block
  inside =
      let n = sym (ap length h.stands ∙ record_size r) in
      omega (arith, n, length-take (size r) (drop at block), length-drop at block)

  pub front_len : length (take at block) ≡ at
  front_len = length-take-le at block (omega (arith, inside))

  pub around : block ≡ take at block ++ (marker r ++ (units r ++ 0 ∷ rest))
  around =
      sym (take-append-drop at block)
      ∙ ap (λ l. take at block ++ l) (sym (take-append-drop (size r) (drop at block))
      ∙ ap (λ l. l ++ rest) h.stands
      ∙ append_assoc (marker r) (units r ++ 0 ∷ []) rest
      ∙ ap (λ l. marker r ++ l) (append_assoc (units r) (0 ∷ []) rest))

  few : length (units r) < 2 ^ 28
  few = omega (arith, h.near)

  pub read_back : text_at block at ≡ Some r
  read_back =
      ap (λ b. text_at b at) around
      ∙ ap (λ n. text_at (take at block ++ (marker r ++ (units r ++ 0 ∷ rest))) n) (sym front_len)
      ∙ by (is_unmarked r) refl
    where
      by : (b : Bool) → is_unmarked r ≡ b
          → text_at (take at block ++ (marker r ++ (units r ++ 0 ∷ rest))) (length (take at block))
          ≡ Some r
      by true m =
          ap (λ l. text_at (take at block ++ (l ++ (units r ++ 0 ∷ rest))) (length (take at block)))
          (no_marker r m)
          ∙ text_at-found (take at block) r rest h.utf8 m
      by false m = text_at-marked (take at block) r (0 ∷ rest) h.utf8 m (omega (arith, few))

  -- a text that its end holds is read there too
  pub held_read : (s : List ℕ) (i : ℕ) → IsUtf8 s → IsHeldBy s r → i + size s ≡ at + size r
      → text_at block i ≡ Some s
  held_read s i u held e =
      let f = units held.ends.front in
      let x : List ℕ = take at block ++ (marker r ++ f) in
      let split = units_end r s h.utf8 u held.ends in
      let is : block ≡ x ++ (units s ++ 0 ∷ rest) =
      around ∙ ap (λ l. take at block ++ (marker r ++ (l ++ 0 ∷ rest))) split
      ∙ ap (λ l. take at block ++ (marker r ++ l)) (append_assoc f (units s) (0 ∷ rest))
      ∙ ap (λ l. take at block ++ l) (sym (append_assoc (marker r) f (units s ++ 0 ∷ rest)))
      ∙ sym (append_assoc (take at block) (marker r ++ f) (units s ++ 0 ∷ rest)) in
      let z : length (marker s) ≡ 0 = ap length (no_marker s held.unmarked) in
      let n : i ≡ length x =
      omega (
        arith,
        e,
        z,
        front_len,
        ap length split,
        length-append f (units s),
        length-append (take at block) (marker r ++ f),
        length-append (marker r) f,
      ) in
      ap (λ b. text_at b i) is ∙ ap (text_at (x ++ (units s ++ 0 ∷ rest))) n
      ∙ text_at-found x s rest u held.unmarked

pub one_record : (block : List ℕ) (at : ℕ) (r q : List ℕ) → StandsAt block at r
    → StandsAt block at q → r ≡ q
one_record block at r q h k =
    let f : Some r ≡ Some q = sym (read_back block at r h) ∙ read_back block at q k in cc

-- what is found there or not
pub nothing_here : (block r : List ℕ) (at : ℕ) → None ≡ text_at block at → StandsAt block at r
    → ⊥
nothing_here block r at e h =
    let f : None ≡ Some r = e ∙ read_back block at r h in cc

pub its_text : (block t r : List ℕ) (at : ℕ) → Some t ≡ text_at block at → StandsAt block at r
    → r ≡ t
its_text block t r at e h =
    let f : Some t ≡ Some r = e ∙ read_back block at r h in cc

pub too_long : (block t r : List ℕ) (at : ℕ) → Some t ≡ text_at block at
    → 2 ^ 28 ≤ length (units t) → StandsAt block at r → ⊥
too_long block t r at e l h =
    let same = ap (λ z. length (units z)) (its_text block t r at e h) in
    omega (arith, same, l, h.near)

pub too_far : (block t r : List ℕ) (at : ℕ) → Some t ≡ text_at block at
    → 2 ^ 28 < at + length (record_units t) → StandsAt block at r → ⊥
too_far block t r at e l h =
    let same = ap (λ z. length (record_units z)) (its_text block t r at e h) in
    omega (arith, same, l, h.near, record_size r)

pub other_units : (block t r : List ℕ) (at : ℕ) → Some t ≡ text_at block at
    → starts_with nat_eq (drop at block) (record_units t) ≡ false → StandsAt block at r → ⊥
other_units block t r at e n h =
    let same = its_text block t r at e h in
    let there : take (length (record_units r)) (drop at block) ≡ record_units r =
    ap (λ n. take n (drop at block)) (record_size r) ∙ h.stands in
    let y : starts_with nat_eq (drop at block) (record_units r) ≡ true =
    (bytes_decides (record_units r) (take (length (record_units r)) (drop at block))).1
    (sym there) in
    let f : starts_with nat_eq (drop at block) (record_units r) ≡ false =
    ap (λ z. starts_with nat_eq (drop at block) (record_units z)) same ∙ n in
    cc

pub stands_there : (block t : List ℕ) (at : ℕ) → IsUtf8 t
    → at + length (record_units t) ≤ 2 ^ 28
    → starts_with nat_eq (drop at block) (record_units t) ≡ true → StandsAt block at t
stands_there block t at u near y = record {
  utf8 = u;
  stands = ap (λ n. take n (drop at block)) (sym (record_size t))
      ∙ sym ((bytes_decides (record_units t) (take (length (record_units t)) (drop at block))).0
      y);
  near = omega (arith, near, record_size t);
}

-- one record further
pub reaches_next : (block r : List ℕ) (from at : ℕ) → Reaches block from at → StandsAt block at r
    → Reaches block from (at + size r)
reaches_next block r from at at_end h = past r h at_end
reaches_next block r from at (past q k more) h = past q k (reaches_next block r _ at more h)
