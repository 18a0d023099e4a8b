-- The records of strings that are worth their room in a pool that many bundles share.
use Rattle.std.proofs.Common.{◌≡◌, ℕ, suc, ◌<◌, ◌≤◌, ◌^◌, List, [], ◌∷◌, Bool, true, false}
use Rattle.std.proofs.Common.{length, get_or, cond, refl, ap, arith, All, Contains}
use Rattle.std.specs.Prelude.{nat_le}
use Rattle.std.specs.List.{sum_by, flat_map}
use Rattle.std.proofs.lemmas.Bool.{leb-true, leb-false}
use Rattle.std.proofs.lemmas.List.Sums.{sum_by-cons}
use Rattle.std.proofs.lemmas.List.Elements.{All-filter}
use Rattle.resb_format.specs.Units.{size}
use Rattle.resb_pool.specs.Plan.{texts_size}
use Rattle.resb_pool.specs.Pool.{Saved, record_units}
use Rattle.resb_pool.specs.Shared.{AreWorth, worth_none, worth_kept, worth_left, IsSharedPool}
use Rattle.resb_pool.specs.Shared.{InPoolOrder}
use Rattle.resb_pool.specs.Inner.Placing.{AreTexts, AreHidden, IsRecordOf, record_text}
use Rattle.resb_pool.specs.Inner.Placing.{record_texts}
use Rattle.resb_pool.specs.Inner.Ranked.{AreRanked, saving}
use Rattle.resb_pool.specs.declared.measure.Measure.{Measure}
use Rattle.resb_pool.specs.declared.packing.Packing.{Packing}
use Rattle.resb_pool.specs.declared.records.Record.{Record}
use Rattle.resb_pool.proofs.InOrder.{length-records}
use Rattle.resb_pool.proofs.PlacingLemmas.{hidden_from}
use Rattle.resb_pool.proofs.PlanLemmas.{laid_small, saved_at, pool_is}
use Rattle.resb_pool.proofs.TextLists.{TextList}

-- the rows that save enough are the records that do
worth_of : (way : Packing) (S T : TextList) (least : ℕ) (v : List Record)
    → ((k : ℕ) (d : Record) → k < length v
    → Saved way (Contains S) S (record_text T (get_or v k d)) (get_or v k d).saved)
    → AreWorth way S least (record_texts T v) (record_texts T (saving least v))
worth_of way S T least [] h = worth_none
worth_of way S T least (r ∷ v) h =
    by (worth_of way S T least v (λ k d l. h (suc k) d (omega (arith, l)))) (nat_le least r.saved)
    refl
  where
    by : AreWorth way S least (record_texts T v) (record_texts T (saving least v))
        → (b : Bool) → nat_le least r.saved ≡ b
        → AreWorth way S least (record_text T r ∷ record_texts T v)
        (record_texts T (cond b (r ∷ saving least v) (saving least v)))
    by rest true e = worth_kept (h 0 r (omega arith)) (leb-true least r.saved e) rest
    by rest false e = worth_left (h 0 r (omega arith)) (leb-false least r.saved e) rest

-- they take no more than all
saving_within : (T : TextList) (least : ℕ) (v : List Record)
    → sum_by size (record_texts T (saving least v)) ≤ sum_by size (record_texts T v)
saving_within T least [] = omega arith
saving_within T least (r ∷ v) = by (saving_within T least v) (nat_le least r.saved)
  where
    by : sum_by size (record_texts T (saving least v)) ≤ sum_by size (record_texts T v)
        → (b : Bool)
        → sum_by size (record_texts T (cond b (r ∷ saving least v) (saving least v)))
        ≤ sum_by size (record_text T r ∷ record_texts T v)
    by rest true = omega (
      arith,
      rest,
      sum_by-cons size (record_text T r) (record_texts T v),
      sum_by-cons size (record_text T r) (record_texts T (saving least v)),
    )
    by rest false = omega (arith, rest, sum_by-cons size (record_text T r) (record_texts T v))

module _ (way : Packing) (S T : TextList) (ms : List Measure) (given : AreTexts S T ms)
    (small : texts_size S < 2 ^ 28) (v : List Record) (ranked : AreRanked way T ms v) where
  -- the records that save nothing among the strings
  hidden_are : AreHidden way (Contains S) T ranked.hidden
  hidden_are = hidden_from T S given.same way ranked.hidden ranked.hidden_are

  pub in_order : InPoolOrder way S (record_texts T v)
  in_order =
      pool_is way S T ms given small ranked.containers ranked.containers_are ranked.hidden
      ranked.sums ranked.lying v ranked.records ranked.each
      (Contains S) hidden_are ranked.ascend
      (0 ∷ flat_map record_units (record_texts T v)) refl

  module _ (least : ℕ) where
    pub kept_each : All (IsRecordOf T ranked.sums) (saving least v)
    kept_each = All-filter (λ r. nat_le least r.saved) (IsRecordOf T ranked.sums) v ranked.each

    pub kept_small : sum_by size (record_texts T (saving least v)) < 2 ^ 28
    kept_small = omega (
      arith,
      saving_within T least v,
      laid_small way S T ms given small ranked.containers ranked.containers_are ranked.hidden
          ranked.sums ranked.lying v ranked.records ranked.each,
    )

    pub shared_pool : (us : List ℕ)
        → us ≡ 0 ∷ flat_map record_units (record_texts T (saving least v))
        → IsSharedPool way S least us
    shared_pool us e = record {
      records = record_texts T v;
      kept = record_texts T (saving least v);
      pool = in_order;
      worth =
          worth_of way S T least v (saved_at way S T ms given small ranked.containers
          ranked.containers_are ranked.hidden ranked.sums ranked.lying v ranked.records ranked.each
          (Contains S) hidden_are);
      units = e;
      room = omega (
        arith,
        ap length e,
        length-records (record_texts T (saving least v)),
        kept_small,
      );
    }
