-- Where keys stand in a file over a pool: in the pool, or among the file's own.
use Rattle.std.proofs.Common.{◌≡◌, ℕ, ◌+◌, ◌-◌, ◌^◌, ◌<◌, ◌≤◌, min, List, [], ◌∷◌, ◌++◌}
use Rattle.std.proofs.Common.{length, filter, map, Option, Some, None, option_map, Bool, true}
use Rattle.std.proofs.Common.{false}
use Rattle.std.proofs.Common.{cond, refl, sym, ◌∙◌, ap, subst, length-append, arith}
use Rattle.std.specs.List.{All, Contains}
use Rattle.std.specs.Option.{is_none, option_or}
use Rattle.std.specs.Str.{IsUtf8}
use Rattle.std.specs.Cmp.Lexicographic.{bytes_decides}
use Rattle.std.proofs.lemmas.List.Elements.{All-contains, Contains-append_right}
use Rattle.resb_tree.specs.Keys.{same_text}
use Rattle.resb_layout.specs.KeyBlock.{used, is_among, key_bytes, last_place}
use Rattle.resb_layout.specs.TreeFaults.{key_fault}
use Rattle.resb_pool.specs.declared.packing.Packing.TheVariants.{Plain}
use Rattle.resb_write.specs.WrittenWith.{position_beside}
use Rattle.resb_write.specs.Inner.Beside.{told_beside}
use Rattle.resb_write.specs.Inner.NearPositions.{near_position, near_position_in}
use Rattle.resb_write.proofs.Keys.{last_of-stands, place_contained, no_place}
use Rattle.resb_write.proofs.Known.{placed}
use Rattle.resb_write.proofs.Lists.{contained-filter, filter_passes, any_member, all_from}

-- those that a filter keeps take no more room
pub filter_room : (p : List ℕ → Bool) (js : List (List ℕ))
    → length (key_bytes (filter p js)) ≤ length (key_bytes js)
filter_room p [] = omega arith
filter_room p (j ∷ js) = by (p j) (filter_room p js)
  where
    by : (b : Bool) → length (key_bytes (filter p js)) ≤ length (key_bytes js)
        → length (key_bytes (cond b (j ∷ filter p js) (filter p js)))
        ≤ length (key_bytes (j ∷ js))
    by true h = omega (
      arith,
      h,
      length-append (j ++ 0 ∷ []) (key_bytes (filter p js)),
      length-append (j ++ 0 ∷ []) (key_bytes js),
    )
    by false h = omega (arith, h, length-append (j ++ 0 ∷ []) (key_bytes js))

-- and are UTF-8, if all are
pub filter_utf8 : (p : List ℕ → Bool) (js : List (List ℕ)) → All IsUtf8 js
    → All IsUtf8 (filter p js)
filter_utf8 p js u =
    all_from IsUtf8 (filter p js) (λ k c. All-contains IsUtf8 js k u (filter_passes p js k c).1)

-- a key's place is before the end
pub place_inside : (k : List ℕ) (js : List (List ℕ)) (n : ℕ) → last_place k js ≡ Some n
    → n < length (key_bytes js)
place_inside k js n e =
    let s = last_of-stands k js n e in
    omega (
      arith,
      ap length s.is,
      s.place,
      length-append s.front (k ++ 0 ∷ s.back),
      length-append k (0 ∷ s.back),
    )

-- what is known of each text is known in turn
pub told_each : (f : List ℕ → Option ℕ) (g : List ℕ → ℕ) (ks : List (List ℕ))
    → ((k : List ℕ) → Contains ks k → f k ≡ Some (g k)) → map f ks ≡ map Some (map g ks)
told_each f g [] h = refl
told_each f g (k ∷ ks) h =
    let rest = told_each f g ks (λ j c. h j (Contains-append_right (k ∷ []) ks j c)) in
    λ i. h k (0, omega arith, refl) i ∷ rest i

-- where the keys us of tables have no fault with a list ks
module _ (place : List ℕ → Option ℕ) (us ks : List (List ℕ))
    (faultless : key_fault us (used us ks) ≡ None) where
  abbrev own : List (List ℕ)
  own = filter (λ k. is_none (place k)) (used us ks)

  -- a key of the tables that the pool lacks is an own one
  own_placed : (k : List ℕ) → Contains us k → place k ≡ None → (n : ℕ) × (last_place k own ≡ Some n)
  own_placed k c lacks = by (last_place k own) refl
    where
      listed : (o : Option ℕ) → last_place k (used us ks) ≡ o → Contains (used us ks) k
      listed (Some n) e = place_contained k (used us ks) n e
      listed None e =
          let p = placed us (used us ks) faultless k c in
          let f : None ≡ Some p.0 = sym (ap (option_map (λ n. 32 + n)) e) ∙ p.1 in
          cc

      by : (o : Option ℕ) → last_place k own ≡ o → (n : ℕ) × (last_place k own ≡ Some n)
      by (Some n) e = (n, e)
      by None e =
          let there = listed (last_place k (used us ks)) refl in
          absurd (no_place k own e (contained-filter (λ j. is_none (place j)) (used us ks) k
          (ap (λ o. is_none o) lacks) there))

  -- an own key is one of the tables
  pub own_used : (k : List ℕ) (n : ℕ) → last_place k own ≡ Some n → Contains us k
  own_used k n e =
      let c = filter_passes (λ j. is_none (place j)) (used us ks) k (place_contained k own n e) in
      let m = any_member (same_text k) us (filter_passes (is_among us) ks k c.1).0 in
      subst (Contains us) (sym ((bytes_decides k m.0).0 m.2)) m.1

  abbrev told : List ℕ → ℕ
  told k = told_beside (place k) (near_position_in own k)

  abbrev js : List (List ℕ)
  js = used us ks

  told_is : length (key_bytes own) < 2 ^ 28 → (k : List ℕ) → Contains us k
      → position_beside Plain place js own k ≡ Some (told k)
  told_is small k c = by (place k) refl
    where
      by : (o : Option ℕ) → place k ≡ o
          → option_or (option_map (λ n. n + 2 ^ 31) o)
          (option_map (λ n. 36 + n) (last_place k own))
          ≡ Some (told_beside o (near_position_in own k))
      by (Some m) e = refl
      by None e =
          let (n, f) = own_placed k c e in
          let inside = place_inside k own n f in
          let same : 36 + n ≡ min (min (32 + n) (2 ^ 32 - 1) + 4) (2 ^ 32 - 1) =
          omega (arith, inside, small) in
          ap (option_map (λ m. 36 + m)) f ∙ ap Some same
          ∙ ap (λ o. Some (told_beside None (option_map near_position o))) (sym f)

  -- each key of the tables has a position
  pub all_told : length (key_bytes own) < 2 ^ 28
      → map (position_beside Plain place js own) us ≡ map Some (map told us)
  all_told small = told_each (position_beside Plain place js own) told us (told_is small)
