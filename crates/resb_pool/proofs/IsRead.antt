-- Each text of a plan is read back where it stands.
use Rattle.std.proofs.Common.{◌≡◌, ℕ, ◌+◌, ◌<◌, ◌≤◌, List, [], ◌∷◌, ◌++◌, length, Bool, true, false}
use Rattle.std.proofs.Common.{cond, Option, Some, MatchOption, refl, sym, ◌∙◌, ap, subst, arith}
use Rattle.std.proofs.Common.{append_assoc, length-append, inl}
use Rattle.std.specs.List.{All, Contains, sum_by, flat_map}
use Rattle.std.specs.Str.{IsUtf8}
use Rattle.std.proofs.lemmas.List.Elements.{All-contains}
use Rattle.std.proofs.lemmas.List.Sums.{sum_by-cons, sum_by-append}
use Rattle.resb_format.specs.Strings.{text_at}
use Rattle.resb_format.specs.Units.{units, marker, size, is_unmarked, length_marker}
use Rattle.resb_pool.specs.Records.{IsRecord}
use Rattle.resb_pool.specs.Container.{IsContainer}
use Rattle.resb_pool.specs.Pool.{record_units, ClosesAt, Off, off_empty, off_within}
use Rattle.resb_pool.specs.Plan.{IsPlanAmong}
use Rattle.resb_pool.specs.declared.packing.Packing.{Packing}
use Rattle.resb_pool.proofs.Least.{units_end}
use Rattle.resb_pool.proofs.Sharing.{one_container, own_container}
use Rattle.resb_pool.proofs.InOrder.{length-records, texts_flat}
use Rattle.resb_pool.proofs.ReadBack.{text_at-zero, text_at-found, text_at-marked}
use Rattle.resb_pool.proofs.TextLists.{TextList}

-- a record lies in itself alone
in_itself : (way : Packing) (S : TextList) → All IsUtf8 S → (s r : List ℕ) → IsRecord S s
    → IsContainer way S s r → r ≡ s
in_itself way S texts s r own c =
    one_container way S texts s r s c (own_container way S texts s own)

-- the units around a record
around : (us : List ℕ) (Q : TextList) (before after : TextList) (r rest : List ℕ)
    → us ≡ 0 ∷ flat_map record_units Q → Q ≡ before ++ r ∷ after
    → us ++ rest ≡ (0 ∷ flat_map record_units before) ++
    (marker r ++ (units r ++ 0 ∷ (flat_map record_units after ++ rest)))
around us Q before after r rest u q =
    ap (λ l. l ++ rest) (u ∙ ap (λ p. 0 ∷ flat_map record_units p) q
    ∙ ap (λ l. 0 ∷ l) (texts_flat before (r ∷ after)))
    ∙ append_assoc (0 ∷ flat_map record_units before) (record_units r ++ flat_map record_units
    after) rest
    ∙ ap (λ l. (0 ∷ flat_map record_units before) ++ l)
    (append_assoc (marker r ++ (units r ++ 0 ∷ [])) (flat_map record_units after) rest
    ∙ append_assoc (marker r) (units r ++ 0 ∷ []) (flat_map record_units after ++ rest)
    ∙ ap (λ l. marker r ++ l) (append_assoc (units r) (0 ∷ [])
    (flat_map record_units after ++ rest)))

module _ (way : Packing) {A : List ℕ → Type 0} (S : TextList) (us : List ℕ)
    (offset : List ℕ → Option ℕ) (p : IsPlanAmong way A S us offset) where
  inside : (r : List ℕ) (c : ℕ) → ClosesAt p.records r c → c < length us
  inside r c h =
      let n = ap length p.pool.units in
      let m = length-records p.records in
      omega (
        arith,
        n,
        m,
        h.place,
        ap (sum_by size) h.is,
        sum_by-append size h.before (r ∷ h.after),
        sum_by-cons size r h.after,
      )

  front_long : (r : List ℕ) (c : ℕ) (h : ClosesAt p.records r c)
      → length (0 ∷ flat_map record_units h.before) + (length (marker r) + length (units r)) ≡ c
  front_long r c h = omega (arith, length-records h.before, h.place)

  read : (s : List ℕ) (k : ℕ) → Contains S s → Off way S p.records s k → (k < length us)
      × ((rest : List ℕ) → text_at (us ++ rest) k ≡ Some s)
  read _ _ c off_empty = (
    omega (arith, ap length p.pool.units),
    λ rest. ap (λ l. text_at (l ++ rest) 0) p.pool.units
        ∙ text_at-zero (flat_map record_units p.records ++ rest),
  )
  read _ _ c (off_within {s} {r} {k} {c = e} l h f) =
      (omega (arith, inside r e h, f), λ rest. at_mark rest (is_unmarked s) refl)
    where
      front : List ℕ
      front = 0 ∷ flat_map record_units h.before

      behind : List ℕ → List ℕ
      behind rest = flat_map record_units h.after ++ rest

      at_mark : (rest : List ℕ) (b : Bool) → is_unmarked s ≡ b → text_at (us ++ rest) k ≡ Some s
      at_mark rest false m =
          let same : r ≡ s = in_itself way S p.texts s r (record {
            given = c;
            nonempty =
                l.nonempty;
            alone = inl m;
          }) l.container in
          let n = front_long r e h in
          let here : k ≡ length front = omega (
            arith,
            n,
            f,
            ap (λ (z : List ℕ). length (marker z))
                same,
            ap (λ (z : List ℕ). length (units z)) same,
          ) in
          ap (λ j. text_at (us ++ rest) j) here
          ∙ ap (λ l. text_at l (length front)) (around us p.records h.before h.after r rest
          p.pool.units h.is)
          ∙ ap (λ z. text_at (front ++ (marker z ++ (units z ++ 0 ∷ behind rest))) (length front))
          same
          ∙ text_at-marked front s (0 ∷ behind rest) (All-contains IsUtf8 S s p.texts c) m
          (All-contains (λ z. length (units z) ≤ 4294967295) S s p.short c)
      at_mark rest true m =
          let ends = l.container.ends in
          let u : units r ≡ units ends.front ++ units s =
          units_end r s (All-contains IsUtf8 S r p.texts l.container.own.given)
          (All-contains IsUtf8 S s p.texts c) ends in
          let first : List ℕ = front ++ (marker r ++ units ends.front) in
          let none : length (marker s) ≡ 0 =
          ap (λ b. length (cond b [] (length_marker (length (units s))))) m in
          let n = front_long r e h in
          let here : k ≡ length first = omega (
            arith,
            n,
            f,
            none,
            ap length u,
            length-append (units ends.front) (units s),
            length-append front (marker r ++ units ends.front),
            length-append (marker r) (units ends.front),
          ) in
          let split : us ++ rest ≡ first ++ (units s ++ 0 ∷ behind rest) =
          around us p.records h.before h.after r rest p.pool.units h.is
          ∙ ap (λ x. front ++ (marker r ++ (x ++ 0 ∷ behind rest))) u
          ∙ ap (λ x. front ++ (marker r ++ x)) (append_assoc (units ends.front) (units s)
          (0 ∷ behind rest))
          ∙ ap (λ x. front ++ x) (sym (append_assoc (marker r) (units ends.front)
          (units s ++ 0 ∷ behind rest)))
          ∙ sym (append_assoc front (marker r ++ units ends.front) (units s ++ 0 ∷ behind rest)) in
          ap (λ j. text_at (us ++ rest) j) here ∙ ap (λ x. text_at x (length first)) split
          ∙ text_at-found first s (behind rest) (All-contains IsUtf8 S s p.texts c) m

-- each text of a pool is read at its offset, whatever follows the pool
pub pool_is_read : (way : Packing) {A : List ℕ → Type 0} (S : TextList) (us : List ℕ)
    (offset : List ℕ → Option ℕ) → IsPlanAmong way A S us offset
    → (s : List ℕ) (k : ℕ) → offset s ≡ Some k
    → (k < length us) × ((rest : List ℕ) → text_at (us ++ rest) k ≡ Some s)
pool_is_read way S us offset p s k e =
    let h : Contains S s × Off way S p.records s k =
    subst (λ o. MatchOption o (Contains S s → ⊥) (λ n. Contains S s × Off way S p.records s n)) e
    (p.offsets s) in
    read way S us offset p s k h.0 h.1
