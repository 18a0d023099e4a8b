-- Where a key stands that has a position in a file over a pool, by how the file is packed.
use Rattle.std.proofs.Common.{◌≡◌, ℕ, ◌+◌, ◌-◌, ◌^◌, ◌<◌, List, ◌∷◌, ◌++◌, length, filter}
use Rattle.std.proofs.Common.{Option, Some, None, option_map, Bool, true, false, cond}
use Rattle.std.proofs.Common.{◌⊎◌, inl, inr}
use Rattle.std.proofs.Common.{sym, ◌∙◌, ap, subst, arith, length-append, refl}
use Rattle.std.specs.List.{All, Contains}
use Rattle.std.specs.Option.{is_none}
use Rattle.std.specs.Str.{IsUtf8}
use Rattle.std.proofs.lemmas.List.Elements.{All-contains}
use Rattle.resb_format.specs.Strings.{key_at}
use Rattle.resb_layout.specs.CompactKeys.{container, kept, keys_by}
use Rattle.resb_layout.specs.KeyBlock.{is_among, key_bytes, last_place}
use Rattle.resb_pool.specs.declared.packing.Packing.{Packing}
use Rattle.resb_pool.specs.declared.packing.Packing.TheVariants.{Plain, Compact}
use Rattle.resb_lent.specs.LentKeys.{LendsKey}
use Rattle.resb_lent.specs.LentEnds.{LiesInPool}
use Rattle.resb_lent.proofs.EndsRead.{lying_read, one_lying}
use Rattle.resb_lent.proofs.Once.{one_place}
use Rattle.resb_write.specs.WrittenWith.{LendsKeyBy, position_beside, position_of}
use Rattle.resb_write.proofs.EndPlaces.{among_contained, end_stands}
use Rattle.resb_write.proofs.Keys.{StandsAt, last_of-stands, place_contained}
use Rattle.resb_write.proofs.Lists.{filter_passes}

-- among the file's own keys
pub record StandsOwn (js own : List (List ℕ)) (k : List ℕ) (at : ℕ) : Type 0 where
  pub given : Contains js k
  pub place : ℕ
  pub is : 36 + place ≡ at
  pub stands : StandsAt (key_bytes own) k place

-- or among the pool's
abbrev pub Stands : List ℕ → List (List ℕ) → List (List ℕ) → List ℕ → ℕ → Type 0
Stands keys js own k at =
    StandsOwn js own k at ⊎ ((n : ℕ) × (at ≡ n + 2 ^ 31) × (key_at keys n ≡ Some k))

-- what stands there has a zero byte behind it
pub stands_inside : (bytes k : List ℕ) (n : ℕ) → StandsAt bytes k n → n < length bytes
stands_inside bytes k n s = omega (
  arith,
  ap length s.is,
  s.place,
  length-append s.front (k ++ 0 ∷ s.back),
  length-append k (0 ∷ s.back),
)

-- a position is that of a place of one of the two
position_cases : (there own : Option ℕ) (at : ℕ) → position_of there own ≡ Some at
    → ((n : ℕ) × (there ≡ Some n) × (at ≡ n + 2 ^ 31))
    ⊎ ((n : ℕ) × (own ≡ Some n) × (36 + n ≡ at))
position_cases (Some n) own at e = (let h : Some (n + 2 ^ 31) ≡ Some at = e in
    let same : at ≡ n + 2 ^ 31 = cc in inl (n, refl, same))
position_cases None (Some n) at e = (let h : Some (36 + n) ≡ Some at = e in
    let same : 36 + n ≡ at = cc in inr (n, refl, same))
position_cases None None at e = (let h : None ≡ Some at = e in cc)

mapped : (f : ℕ → ℕ) (o : Option ℕ) (n : ℕ) → option_map f o ≡ Some n
    → (m : ℕ) × (o ≡ Some m) × (n ≡ f m)
mapped f None n e = (let h : None ≡ Some n = e in cc)
mapped f (Some m) n e = (let h : Some (f m) ≡ Some n = e in
    let same : n ≡ f m = cc in (m, refl, same))

module _ (keys : List ℕ) (place : List ℕ → Option ℕ) (js : List (List ℕ)) (utf8 : All IsUtf8 js)
    (k : List ℕ) (at : ℕ) where
  plain_placed : LendsKey keys k (place k)
      → position_of (place k) (last_place k (filter (λ i. is_none (place i)) js)) ≡ Some at
      → Stands keys js (filter (λ i. is_none (place i)) js) k at
  plain_placed h e = by (position_cases (place k) (last_place k own) at e)
    where
      own : List (List ℕ)
      own = filter (λ i. is_none (place i)) js

      by : ((n : ℕ) × (place k ≡ Some n) × (at ≡ n + 2 ^ 31))
          ⊎ ((n : ℕ) × (last_place k (filter (λ i. is_none (place i)) js) ≡ Some n)
          × (36 + n ≡ at))
          → Stands keys js (filter (λ i. is_none (place i)) js) k at
      by (inl (n, f, is)) = inr (n, is, (subst (LendsKey keys k) f h).whole.reads)
      by (inr (n, f, is)) = inl (record {
        given = (filter_passes (λ i. is_none (place i)) js k (place_contained k _ n f)).1;
        place = n;
        is = is;
        stands = last_of-stands k _ n f;
      })

  end_placed : LiesInPool keys js k (place k) → Contains js k
      → position_of (place k) (option_map (λ n. n + (length (container js k) - length k))
      (last_place (container js k) (filter (λ i. is_none (place i)) (kept js)))) ≡ Some at
      → Stands keys js (filter (λ i. is_none (place i)) (kept js)) k at
  end_placed h c e = by (position_cases _ _ at e)
    where
      by : ((n : ℕ) × (place k ≡ Some n) × (at ≡ n + 2 ^ 31))
          ⊎ ((n : ℕ) × (option_map (λ n. n + (length (container js k) - length k))
          (last_place (container js k) (filter (λ i. is_none (place i)) (kept js))) ≡ Some n)
          × (36 + n ≡ at))
          → Stands keys js (filter (λ i. is_none (place i)) (kept js)) k at
      by (inl (n, f, is)) = inr (
        n,
        is,
        lying_read keys js k n (All-contains IsUtf8 js k utf8 c) (subst (LiesInPool keys js k) f h),
      )
      by (inr (n, f, is)) =
          let (m, g, same) = mapped _ _ n f in
          inl (record {
            given = c;
            place = n;
            is = is;
            stands = subst (StandsAt (key_bytes (filter (λ i. is_none (place i)) (kept js))) k)
                (sym same) (end_stands js k _ m g);
          })

  pub placed_beside : (q : Packing) → LendsKeyBy q keys js k (place k)
      → position_beside q place js (filter (λ i. is_none (place i)) (keys_by q js)) k ≡ Some at
      → Stands keys js (filter (λ i. is_none (place i)) (keys_by q js)) k at
  placed_beside Plain h e = plain_placed h e
  placed_beside Compact h e = by (is_among js k) refl
    where
      own : Option ℕ
      own = option_map (λ n. n + (length (container js k) - length k))
          (last_place (container js k) (filter (λ i. is_none (place i)) (kept js)))

      by : (b : Bool) → is_among js k ≡ b
          → Stands keys js (filter (λ i. is_none (place i)) (kept js)) k at
      by true f = end_placed h (among_contained js k f)
          (sym (ap (λ b. cond b (position_of (place k) own) None) f) ∙ e)
      by false f = (let no : None ≡ Some at =
          sym (ap (λ b. cond b (position_of (place k) own) None) f) ∙ e in
          absurd cc)

-- where the pool has a key is one answer
pub one_lent : (q : Packing) (keys : List ℕ) (js : List (List ℕ)) (k : List ℕ) (o p : Option ℕ)
    → LendsKeyBy q keys js k o → LendsKeyBy q keys js k p → o ≡ p
one_lent Plain keys js k None None h l = refl
one_lent Plain keys js k None (Some n) h l = absurd (h n l.whole)
one_lent Plain keys js k (Some m) None h l = absurd (l m h.whole)
one_lent Plain keys js k (Some m) (Some n) h l = ap Some (one_place keys k m n h l)
one_lent Compact keys js k o p h l = one_lying keys js k o p h l
