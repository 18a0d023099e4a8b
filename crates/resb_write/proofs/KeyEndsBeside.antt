-- Where keys stand in a compact file over a pool: at the ends of the pool's keys, or of the file's
-- own.
use Rattle.std.proofs.Common.{◌≡◌, ℕ, ◌+◌, ◌-◌, ◌^◌, ◌<◌, ◌≤◌, min, List, length, filter, map}
use Rattle.std.proofs.Common.{Option, Some, None, option_map, Bool, cond, reverse}
use Rattle.std.proofs.Common.{refl, sym, ◌∙◌, ap, subst, arith, length-append, unwrap_or}
use Rattle.std.specs.List.{Contains}
use Rattle.std.specs.Option.{is_none}
use Rattle.std.proofs.lemmas.List.{length-reverse}
use Rattle.resb_layout.specs.CompactKeys.{container, kept}
use Rattle.resb_layout.specs.KeyBlock.{used, key_bytes, last_place}
use Rattle.resb_layout.specs.TreeFaults.{key_fault}
use Rattle.resb_pool.specs.declared.packing.Packing.TheVariants.{Compact}
use Rattle.resb_lent.specs.LentEnds.{LiesInPool, IsRun, place_at_end, is_not_behind}
use Rattle.resb_lent.specs.LendingEnds.{LendsEnds, last_ending, end_place, run_of}
use Rattle.resb_lent.specs.declared.ends.LentRun.{LentRun}
use Rattle.resb_lent.specs.declared.ends.LentEnds.{LentEnds}
use Rattle.resb_lent.proofs.EndsRead.{container_in_file}
use Rattle.resb_lent.proofs.LastEnding.{some_ends, ends_extends, ends_lend}
use Rattle.resb_write.specs.WrittenWith.{position_beside, position_of}
use Rattle.resb_write.specs.Inner.KeyEnds.{near_end_position, told_by, told_at_end}
use Rattle.resb_write.specs.Inner.KeyEnds.{lent_position}
use Rattle.resb_write.specs.Inner.NearPositions.{near_position}
use Rattle.resb_write.proofs.EndPlaces.{holder_kept, end_inside, among_test, listed}
use Rattle.resb_layout.proofs.KeyEndsLemmas.{container_ends, extends_ends}
use Rattle.resb_write.proofs.Keys.{no_place}
use Rattle.resb_write.proofs.KeysBeside.{told_each}
use Rattle.resb_write.proofs.Lists.{contained-filter}

-- a run that ends with a key is no shorter, and positions of 31 bits reach its end
pub last_fits : (l : LentEnds) (keys k : List ℕ) (r : LentRun) → LendsEnds l keys
    → Some r ≡ last_ending l.runs.items k
    → (length k ≤ length r.bytes.now) × (r.at + length r.bytes.now < 2 ^ 31)
last_fits l keys k r h e =
    let last = some_ends l.runs.items k r (sym e) in
    let x = ends_extends r.bytes.now k last.ends in
    let run = subst (λ y. IsRun keys (run_of y)) (last.is r) (h.sound last.at r last.within) in (
      omega (
        arith,
        ap length x.is,
        length-append (reverse k) x.rest,
        length-reverse k,
        length-reverse r.bytes.now,
      ),
      run.near,
    )

-- where no run ends with a key, it doesn't lie in the pool
pub none_there : (l : LentEnds) (js : List (List ℕ)) (k : List ℕ)
    → None ≡ last_ending l.runs.items k → None ≡ lent_position (end_place l js k)
none_there l js k e = ap (λ o. lent_position (place_at_end (option_map run_of o) js k)) e

-- where one does, it lies there by what that run is to the key's container
pub there : (l : LentEnds) (js : List (List ℕ)) (k : List ℕ) (r : LentRun) (b : Bool)
    → Some r ≡ last_ending l.runs.items k → is_not_behind r.bytes.now (container js k) ≡ b
    → lent_position (cond b (Some (r.at + (length r.bytes.now - length k))) None)
    ≡ lent_position (end_place l js k)
there l js k r b e f =
    ap (λ c. lent_position (cond c (Some (r.at + (length r.bytes.now - length k))) None)) (sym f)
    ∙ ap (λ o. lent_position (place_at_end (option_map run_of o) js k)) e

-- what the sorted keys of a pool give is where keys lie there
pub places_lie : (l : LentEnds) (keys : List ℕ) (js : List (List ℕ)) → LendsEnds l keys
    → (k : List ℕ) → LiesInPool keys js k (end_place l js k)
places_lie l keys js h k = record {
  run = option_map run_of (last_ending l.runs.items k);
  lends = ends_lend l keys h k;
  place = refl;
}

-- where the keys us of tables have no fault with a list ks
module _ (keys : List ℕ) (place : List ℕ → Option ℕ) (us ks : List (List ℕ))
    (faultless : key_fault us (used us ks) ≡ None)
    (places : (k : List ℕ) → LiesInPool keys (used us ks) k (place k)) where
  abbrev js : List (List ℕ)
  js = used us ks

  abbrev own : List (List ℕ)
  own = filter (λ k. is_none (place k)) (kept js)

  -- the container of a key that doesn't lie in the pool is an own key
  holder_own : (k : List ℕ) → Contains us k → place k ≡ None → Contains own (container js k)
  holder_own k c none =
      let holder = container js k in
      let apart : place holder ≡ None = container_in_file keys js k (place holder)
      (extends_ends holder k (container_ends js k))
      (subst (LiesInPool keys js k) none (places k)) (places holder) in
      contained-filter (λ i. is_none (place i)) (kept js) holder (ap (λ o. is_none o) apart)
      (holder_kept js k (listed us ks faultless k c))

  holder_stands : (k : List ℕ) → Contains us k → place k ≡ None
      → (n : ℕ) × (last_place (container js k) own ≡ Some n)
  holder_stands k c none = by (last_place (container js k) own) refl
    where
      by : (o : Option ℕ) → last_place (container js k) own ≡ o
          → (n : ℕ) × (last_place (container js k) own ≡ Some n)
      by (Some n) e = (n, e)
      by None e = absurd (no_place (container js k) own e (holder_own k c none))

  abbrev told : List ℕ → ℕ
  told k = told_at_end 4 place js own k

  abbrev own_end : List ℕ → Option ℕ
  own_end k = option_map (λ n. n + (length (container js k) - length k))
      (last_place (container js k) own)

  told_is : length (key_bytes own) < 2 ^ 28 → (k : List ℕ) → Contains us k
      → position_beside Compact place js own k ≡ Some (told k)
  told_is small k c =
      ap (λ b. cond b (position_of (place k) (own_end k)) None)
      (among_test js k (listed us ks faultless k c)) ∙ by (place k) refl
    where
      by : (o : Option ℕ) → place k ≡ o
          → position_of o (own_end k) ≡ Some (told_by 4 o (near_end_position js own k))
      by (Some m) e = refl
      by None e =
          let (n, f) = holder_stands k c e in
          let inside = end_inside js k own n f in
          let more : ℕ = length (container js k) - length k in
          let same : 36 + (n + more)
          ≡ min (min (min (32 + n) (2 ^ 32 - 1) + min more (2 ^ 32 - 1)) (2 ^ 32 - 1) + 4)
          (2 ^ 32 - 1) = omega (arith, inside, small) in
          ap (λ o. position_of None (option_map (λ m. m + more) o)) f ∙ ap Some same
          ∙ ap (λ o. Some (told_by 4 None (min (unwrap_or (option_map near_position o) 0
          + min more (2 ^ 32 - 1)) (2 ^ 32 - 1)))) (sym f)

  -- each key of the tables has a position
  pub all_told_at_ends : length (key_bytes own) < 2 ^ 28
      → map (position_beside Compact place js own) us ≡ map Some (map told us)
  all_told_at_ends small = told_each (position_beside Compact place js own) told us (told_is small)
