-- Where the keys of a compact file lie, and which of them stand in the file.
use Rattle.std.proofs.Common.{◌≡◌, ℕ, ◌+◌, ◌<◌, ◌^◌, List, [], ◌∷◌, ◌++◌, length, map, filter}
use Rattle.std.proofs.Common.{get_or, Option, Some, None, Bool, true, false, cond, ◌&&◌, Bor, refl}
use Rattle.std.proofs.Common.{inl, inr, sym, ◌∙◌, ap, subst, arith}
use Rattle.std.specs.Map.{keys_of}
use Rattle.std.specs.Option.{is_none}
use Rattle.std.specs.Prelude.{position}
use Rattle.std.specs.Str.{bytes_eq}
use Rattle.std.specs.Cmp.Lexicographic.{bytes_decides}
use Rattle.std.proofs.lemmas.Bool.{cases_lt}
use Rattle.std.proofs.lemmas.List.{get_or-map, get_or_append_left, get_or_push, length-map}
use Rattle.std.proofs.lemmas.List.{length_push}
use Rattle.std.proofs.lemmas.List.Quantifiers.{position-Some}
use Rattle.resb_pool.specs.Plan.{nows}
use Rattle.resb_tree.specs.Keys.{same_text}
use Rattle.resb_layout.specs.CompactKeys.{container}
use Rattle.resb_layout.specs.KeyBlock.{used, key_bytes}
use Rattle.resb_pool.specs.declared.packing.Packing.TheVariants.{Compact}
use Rattle.resb_lent.specs.LendingEnds.{LendsEnds, end_place}
use Rattle.resb_lent.specs.declared.ends.LentEnds.{LentEnds}
use Rattle.resb_write.specs.WrittenWith.{position_beside}
use Rattle.resb_write.specs.Inner.Beside.{IsKeyBlockBeside}
use Rattle.resb_write.specs.Inner.KeyEnds.{near_end_position, IsKeyEnd, AreKeyEnds, lent_position}
use Rattle.resb_write.specs.Inner.KeyEnds.{told_at_end, place_by, IsEndBlock, is_own}
use Rattle.resb_write.specs.Inner.NearPositions.{IsKeyBlockBy}
use Rattle.resb_write.specs.Inner.Numbered.{AreNumbered}
use Rattle.resb_write.specs.declared.end_keys.KeyEnd.{KeyEnd}
use Rattle.resb_write.proofs.EndPlaces.{all_at_ends}
use Rattle.resb_write.proofs.KeyEndsBeside.{all_told_at_ends, places_lie}

-- the text of a key that was found
pub found_at : {V : Type 0} (es : List (Bor (List ℕ) × V)) (q : List ℕ) (i : ℕ)
    → position (λ k. bytes_eq q k.now) (keys_of es) ≡ Some i
    → (i < length (nows (keys_of es))) × (get_or (nows (keys_of es)) i [] ≡ q)
found_at es q i e =
    let d : Bor (List ℕ) = record { ref_ptr = (0, 0); now = [] } in
    let first = λ (y : Bor (List ℕ)). y.now in
    let ks = keys_of es in
    let p = position-Some (λ (k : Bor (List ℕ)). bytes_eq q k.now) ks i d e in (
      omega (arith, p.0, length-map ks first),
      get_or-map first ks i d [] p.0 ∙ sym ((bytes_decides q (get_or ks i d).now).0 p.1),
    )

module _ (place : List ℕ → Option ℕ) (js : List (List ℕ)) where
  -- one key more
  pub ends_push : (ks : List (List ℕ)) (es : List KeyEnd) (k : List ℕ) (e : KeyEnd)
      → length es ≡ length ks → AreKeyEnds place js ks es → IsKeyEnd place js k e
      → AreKeyEnds place js (ks ++ k ∷ []) (es ++ e ∷ [])
  ends_push ks es k e many old new i d l = elim (cases_lt i (length ks)) [
    | inl b ↦
        subst (λ z. IsKeyEnd place js z (get_or (es ++ e ∷ []) i d))
        (sym (get_or_append_left ks (k ∷ []) [] i b))
        (subst (IsKeyEnd place js (get_or ks i []))
        (sym (get_or_append_left es (e ∷ []) d i (omega (arith, b, many)))) (old i d b))
    | inr b ↦
        let is : i ≡ length ks = omega (arith, b, l, length_push ks k) in
        subst (λ z. IsKeyEnd place js z (get_or (es ++ e ∷ []) i d))
        (sym (get_or_push ks k [] i (sym is)))
        (subst (IsKeyEnd place js k) (sym (get_or_push es e d i (many ∙ sym is))) new)
  ]

  -- where a key lies that goes by its place
  pub end_at : (ks : List (List ℕ)) (es : List KeyEnd) → AreKeyEnds place js ks es → (i : ℕ)
      → i < length ks → (k : List ℕ) → k ≡ get_or ks i [] → (d : KeyEnd)
      → IsKeyEnd place js k (get_or es i d)
  end_at ks es h i l k e d =
      subst (λ z. IsKeyEnd place js z (get_or es i d)) (sym e) (h i d l)

  -- or by its number
  pub numbered_end : (T : List (List ℕ)) (es : List KeyEnd) (ns : List ℕ) (us : List (List ℕ))
      → AreKeyEnds place js T es → AreNumbered T ns us → (i : ℕ) → i < length us → (m : ℕ)
      → m ≡ get_or ns i 0 → (k : List ℕ) → k ≡ get_or us i [] → (d : KeyEnd)
      → IsKeyEnd place js k (get_or es m d)
  numbered_end T es ns us h n i l m f k e d =
      let at = λ (m : ℕ). get_or T m [] in
      let w : i < length ns = omega (arith, l, length-map ns at, ap length n.are) in
      let is : get_or T (get_or ns i 0) [] ≡ get_or us i [] =
      sym (get_or-map at ns i 0 [] w) ∙ ap (λ (z : List (List ℕ)). get_or z i []) n.are in
      subst (λ z. IsKeyEnd place js k (get_or es z d)) (sym f)
      (end_at T es h (get_or ns i 0) (n.within i 0 w) k (e ∙ sym is) d)

-- as many numbers as keys
pub many_numbers : (T : List (List ℕ)) (ns : List ℕ) (us : List (List ℕ)) → AreNumbered T ns us
    → length ns ≡ length us
many_numbers T ns us n = sym (length-map ns (λ (m : ℕ). get_or T m [])) ∙ ap length n.are

-- a key that lies in the pool isn't the file's own
pub lent_not_own : (o : Option ℕ) (p : ℕ) (b : Bool) → Some p ≡ lent_position o
    → false ≡ (is_none o && b)
lent_not_own None p b e = absurd (let z : Some p ≡ None = e in cc)
lent_not_own (Some n) p b e = refl

-- another one is, if it lies in itself
pub apart_own : (o : Option ℕ) (b : Bool) → None ≡ lent_position o → b ≡ (is_none o && b)
apart_own None b e = refl
apart_own (Some n) b e = absurd (let z : None ≡ Some (n + 2 ^ 31) = e in cc)

-- two tests one after the other
filter_both : (p q : List ℕ → Bool) (xs : List (List ℕ))
    → filter (λ k. p k && q k) xs ≡ filter p (filter q xs)
filter_both p q [] = refl
filter_both p q (x ∷ xs) = by (p x) (q x) refl (filter_both p q xs)
  where
    by : (a b : Bool) → p x ≡ a → filter (λ k. p k && q k) xs ≡ filter p (filter q xs)
        → cond (a && b) (x ∷ filter (λ k. p k && q k) xs) (filter (λ k. p k && q k) xs)
        ≡ filter p (cond b (x ∷ filter q xs) (filter q xs))
    by true true e rest = ap (λ z. x ∷ z) rest
        ∙ ap (λ c. cond c (x ∷ filter p (filter q xs)) (filter p (filter q xs))) (sym e)
    by true false e rest = rest
    by false true e rest = rest
        ∙ ap (λ c. cond c (x ∷ filter p (filter q xs)) (filter p (filter q xs))) (sym e)
    by false false e rest = rest

-- with no pool
pub block_alone : (us ks js : List (List ℕ)) (ps : List ℕ)
    → IsEndBlock (place_by None (used us ks)) 0 us ks js ps → IsKeyBlockBy Compact us ks js ps
block_alone us ks js ps b = record {
  keys = b.own;
  positions = λ small. all_at_ends us ks b.faultless small
      ∙ ap (map Some) ((λ i. map (λ k. same k i) us)
      ∙ (λ i. map (told_at_end 0 (place_by None (used us ks)) (used us ks) (sym b.own i)) us)
      ∙ sym b.positions);
  utf8 = b.utf8;
  faultless = b.faultless;
}
  where
    same : (k : List ℕ) → near_end_position (used us ks) (filter (is_own
        (place_by None (used us ks)) (used us ks)) (used us ks)) k
        ≡ told_at_end 0 (place_by None (used us ks)) (used us ks) (filter (is_own
        (place_by None (used us ks)) (used us ks)) (used us ks)) k
    same k = omega arith

-- over a pool
pub block_beside : (l : LentEnds) (pool : List ℕ) → LendsEnds l pool
    → (us ks js : List (List ℕ)) (ps : List ℕ)
    → IsEndBlock (end_place l (used us ks)) 4 us ks js ps
    → IsKeyBlockBeside Compact pool us ks js ps
block_beside l pool lends us ks js ps b =
    let place = end_place l (used us ks) in
    let lies = places_lie l pool (used us ks) lends in
    let own : js ≡ filter (λ k. is_none (place k)) (filter (λ k. same_text k
    (container (used us ks) k)) (used us ks)) =
    b.own ∙ filter_both (λ k. is_none (place k))
    (λ k. same_text k (container (used us ks) k)) (used us ks) in
    record {
      place = place;
      places = lies;
      own = own;
      positions = λ small.
          (λ i. map (position_beside Compact place (used us ks) (own i)) us)
          ∙ all_told_at_ends pool place us ks b.faultless lies
          (subst (λ z. length (key_bytes z) < 2 ^ 28) own small)
          ∙ ap (map Some) ((λ i. map (told_at_end 4 place (used us ks) (sym own i)) us)
          ∙ sym b.positions);
      utf8 = b.utf8;
      faultless = b.faultless;
    }
