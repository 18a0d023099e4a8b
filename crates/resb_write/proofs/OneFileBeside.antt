-- A bundle, a list of keys and a pool leave one file.
use Rattle.std.proofs.Common.{◌≡◌, ℕ, ◌+◌, ◌*◌, ◌/◌, List, [], ◌∷◌, ◌++◌, length, map, Option, Some}
use Rattle.std.proofs.Common.{Bool, ◌⊎◌, inl, inr, refl, sym, ◌∙◌, ap, subst, zero, suc}
use Rattle.std.proofs.Common.{arith}
use Rattle.std.specs.List.{Contains}
use Rattle.resb_tree.specs.Tree.{Tree, largest_table}
use Rattle.resb_tree.specs.LayingOrder.{keys_of, texts_of}
use Rattle.resb_layout.specs.KeyBlock.{used}
use Rattle.resb_format.specs.Bytes.{units_as_bytes}
use Rattle.resb_pool_bundle.specs.Pool.{Pool}
use Rattle.resb_pool.specs.declared.packing.Packing.{Packing}
use Rattle.resb_layout.specs.Laid.{Given, Lends, Laid, LaysBy}
use Rattle.resb_layout.specs.Written.{even}
use Rattle.resb_layout.proofs.Once.{one_layout}
use Rattle.resb_lent.specs.HeadWithPool.{head_bytes}
use Rattle.resb_lent.specs.declared.head_with_pool.HeadWithPool.{HeadWithPool}
use Rattle.resb_write.proofs.PlacedBeside.{one_lent}
use Rattle.resb_lent.proofs.PlanRead.{one_plan_with}
use Rattle.resb_write.specs.Laws.{OneFileWithPool}
use Rattle.resb_write.specs.WrittenWith.{BlocksWithBy, own_keys_of, key_block_beside, own_end_of}
use Rattle.resb_write.specs.WrittenWith.{position_beside, tail_start_beside, head_of}
use Rattle.resb_write.proofs.FilesBeside.{one_or_none}
use Rattle.resb_write.proofs.OneBlock.{one_block}

-- two functions that give the same of a list are the same at its members
same_at : (f g : List ℕ → Option ℕ) (S : List (List ℕ)) → map f S ≡ map g S → (s : List ℕ)
    → Contains S s → f s ≡ g s
same_at f g [] e s c = absurd (omega (arith, c.1))
same_at f g (t ∷ S) e s (zero, lt, is) =
    let h : f t ≡ g t = cc in
    sym (ap f is) ∙ h ∙ ap g is
same_at f g (t ∷ S) e s (suc n, lt, is) =
    let h : map f S ≡ map g S = cc in
    same_at f g S h s (n, omega (arith, lt), is)

module _ (q : Packing) (pool : Pool) (t : Tree) (ks : List (List ℕ))
    (x y : BlocksWithBy q pool t ks) where
  place_at : (k : List ℕ) → x.place k ≡ y.place k
  place_at k = one_lent q pool.keys (used (keys_of t) ks) k (x.place k) (y.place k) (x.places k)
      (y.places k)

  place_is : x.place ≡ y.place
  place_is = λ i k. place_at k i

  plans : (x.units ≡ y.units) × (x.indexes ≡ y.indexes) × (x.limit ≡ y.limit)
      × (x.short ≡ y.short)
  plans = one_plan_with q pool.block (texts_of t) x.units y.units x.indexes y.indexes x.limit
      y.limit x.short y.short x.plan y.plan

  offset_at : (s : List ℕ) → x.offset s ≡ y.offset s
  offset_at s = by (one_or_none (texts_of t) s)
    where
      by : Contains (texts_of t) s ⊎ (Contains (texts_of t) s → ⊥) → x.offset s ≡ y.offset s
      by (inl c) = same_at x.offset y.offset (texts_of t)
          (x.offsets ∙ ap (map Some) plans.1 ∙ sym y.offsets) s c
      by (inr none) = x.others s none ∙ sym (y.others s none)

  offset_is : x.offset ≡ y.offset
  offset_is = λ i s. offset_at s i

  abbrev lends : BlocksWithBy q pool t ks → Lends
  lends b = record {
    own_end = own_end_of (own_keys_of q b.place t ks);
    limit = b.limit;
    short_limit = b.short;
  }

  abbrev given : BlocksWithBy q pool t ks → Given
  given b = record {
    position = position_beside q b.place (used (keys_of t) ks) (own_keys_of q b.place t ks);
    offset = b.offset;
    base = tail_start_beside (key_block_beside q b.place t ks) b.laid;
    packing = q;
  }

  abbrev start : BlocksWithBy q pool t ks → Laid
  start b = record { units = b.units; tail = [] }

  lends_is : ◌≡◌ {A = Lends} (lends x) (lends y)
  lends_is = λ i. record {
    own_end = own_end_of (own_keys_of q (place_is i) t ks);
    limit = plans.2 i;
    short_limit = plans.3 i;
  }

  position_is : (given x).position ≡ (given y).position
  position_is = λ i. position_beside q (place_is i) (used (keys_of t) ks)
      (own_keys_of q (place_is i) t ks)

  by_lends : LaysBy (Some (lends y)) (given x) (start x) t x.laid x.root
  by_lends = subst (λ l. LaysBy (Some l) (given x) (start x) t x.laid x.root) lends_is x.lays

  units_are : x.laid.units ≡ y.laid.units
  units_are = one_block (Some (lends y)) (given x) (given y) (start x) (start y) x.laid y.laid t
      x.root y.root refl position_is offset_is plans.0 by_lends y.lays

  base_is : (given x).base ≡ (given y).base
  base_is = λ i. 36 + length (key_block_beside q (place_is i) t ks)
      + 2 * length (even (units_are i))

  given_is : ◌≡◌ {A = Given} (given x) (given y)
  given_is = λ i. record {
    position = position_is i;
    offset = offset_is i;
    base = base_is i;
    packing = q;
  }

  start_is : ◌≡◌ {A = Laid} (start x) (start y)
  start_is = λ i. record { units = plans.0 i; tail = [] }

  moved : LaysBy (Some (lends y)) (given y) (start y) t x.laid x.root
  moved = subst (λ s. LaysBy (Some (lends y)) (given y) s t x.laid x.root) start_is
      (subst (λ g. LaysBy (Some (lends y)) g (start x) t x.laid x.root) given_is by_lends)

  same : (x.laid ≡ y.laid) × (x.root ≡ y.root)
  same = one_layout (Some (lends y)) (given y) (start y) x.laid y.laid t x.root y.root moved y.lays

  head_is : (fallback : Bool) → ◌≡◌ {A = HeadWithPool} (head_of fallback x) (head_of fallback y)
  head_is fallback = λ i. record {
    root = same.1 i;
    largest_table = largest_table t;
    is_locale_fallback_enabled = fallback;
    limit = plans.2 i;
    short_limit = plans.3 i;
    checksum = pool.checksum;
    key_words = length (key_block_beside q (place_is i) t ks) / 4;
    block_words = length (even (same.0 i).units) / 2;
    tail_words = length (same.0 i).tail / 4;
  }

  abbrev file : Bool → BlocksWithBy q pool t ks → List ℕ
  file fallback b = head_bytes (head_of fallback b) ++ (key_block_beside q b.place t ks
      ++ (units_as_bytes (even b.laid.units) ++ b.laid.tail))

  pub file_same : (fallback : Bool) → file fallback x ≡ file fallback y
  file_same fallback = λ i. head_bytes (head_is fallback i)
      ++ (key_block_beside q (place_is i) t ks
      ++ (units_as_bytes (even (same.0 i).units) ++ (same.0 i).tail))

pub one_file_with_pool : OneFileWithPool
one_file_with_pool q pool a b t fallback ks x y =
    x.file ∙ file_same q pool t ks x.blocks y.blocks fallback ∙ sym y.file
