-- The keys and texts of a tree's resources are known where no key has a fault and the texts are
-- planned.
use Rattle.std.proofs.Common.{◌≡◌, ℕ, zero, suc, ◌+◌, ◌^◌, ◌<◌, List, [], ◌∷◌, map}
use Rattle.std.proofs.Common.{Option, Some, None, option_map, MatchOption, All, Bool, true, false}
use Rattle.std.proofs.Common.{length, cond, nat_lt, unwrap_or, refl, sym, ◌∙◌, ap, subst, arith}
use Rattle.std.specs.List.{list_any, flat_map, Contains}
use Rattle.std.specs.Option.{is_none}
use Rattle.std.specs.Cmp.Lexicographic.{bytes_decides}
use Rattle.std.proofs.lemmas.Bool.{ltb-false}
use Rattle.std.proofs.lemmas.List.Elements.{All-nil, All-cons, Contains-append_left}
use Rattle.std.proofs.lemmas.List.Elements.{Contains-append_right}
use Rattle.resb_tree.specs.Tree.{Tree}
use Rattle.resb_tree.specs.Keys.{same_text}
use Rattle.resb_layout.specs.WritingFault.{WritingFault}
use Rattle.resb_pool.specs.Plan.{IsPlanBy}
use Rattle.resb_pool.specs.declared.packing.Packing.{Packing}
use Rattle.resb_pool.specs.Pool.{Off}
use Rattle.resb_pool.proofs.IsRead.{pool_is_read}
use Rattle.resb_layout.specs.KeyBlock.{used, is_among, last_place, position_in, keys_start}
use Rattle.resb_layout.specs.TreeFaults.{has_nul, is_unlisted, is_far, key_fault}
use Rattle.resb_write.specs.Inner.NearPositions.{near_position, near_position_in}
use Rattle.resb_write.proofs.Keys.{place_contained}
use Rattle.resb_write.proofs.Lists.{none_member, any_member, filter_passes}

module _ {A : Type 0} where
  pub in_flat : (f : Tree → List A) (ts : List Tree) (t : Tree) (x : A) → Contains ts t
      → Contains (f t) x → Contains (flat_map f ts) x
  in_flat f [] t x h c = absurd (omega (arith, h.1))
  in_flat f (u ∷ ts) t x (zero, lt, is) c =
      Contains-append_left (f u) (flat_map f ts) x (subst (λ v. Contains (f v) x) (sym is) c)
  in_flat f (u ∷ ts) t x (suc i, lt, is) c =
      Contains-append_right (f u) (flat_map f ts) x (in_flat f ts t x (i, omega arith, is) c)

-- where keys us with those that are listed js have no fault
module _ (us js : List (List ℕ)) (faultless : key_fault us js ≡ None) where
  none_of_three : (a b c : Bool) (x y z : WritingFault)
      → cond a (Some x) (cond b (Some y) (cond c (Some z) None))
      ≡ None → (a ≡ false) × (b ≡ false) × (c ≡ false)
  none_of_three true b c x y z e = (let n : Some x ≡ None = e in cc)
  none_of_three false true c x y z e = (let n : Some y ≡ None = e in cc)
  none_of_three false false true x y z e = (let n : Some z ≡ None = e in cc)
  none_of_three false false false x y z e = (refl, refl, refl)

  pub tests : (list_any (is_unlisted js) us ≡ false) × (list_any has_nul us ≡ false)
      × (list_any (is_far js) us ≡ false)
  tests = none_of_three (list_any (is_unlisted js) us) (list_any has_nul us)
      (list_any (is_far js) us) _ _ _
      faultless

  pub placed : (k : List ℕ) → Contains us k → (p : ℕ) × (position_in js k ≡ Some p)
  placed k c = there (position_in js k) (none_member (is_unlisted js) us k tests.0 c)
    where
      there : (o : Option ℕ) → is_none o ≡ false → (p : ℕ) × (o ≡ Some p)
      there None e = cc
      there (Some p) e = (p, refl)

  pub placed_each : (ks : List (List ℕ)) → ((k : List ℕ) → Contains ks k → Contains us k)
      → (ps : List ℕ) × (map (position_in js) ks ≡ map Some ps)
  placed_each [] f = ([], refl)
  placed_each (k ∷ ks) f =
      let p = placed k (f k (0, omega arith, refl)) in
      let r = placed_each ks (λ j c. f j (Contains-append_right (k ∷ []) ks j c)) in
      (p.0 ∷ r.0, λ i. p.1 i ∷ r.1 i)

  pub no_nul : (k : List ℕ) → Contains us k → has_nul k ≡ false
  no_nul k c = none_member has_nul us k tests.1 c

  module _ (ks : List (List ℕ)) (js_are : js ≡ used us ks) where
    -- a listed key that has a place is used
    pub is_used : (k : List ℕ) (n : ℕ) → last_place k js ≡ Some n → Contains us k
    is_used k n e =
        let c = filter_passes (is_among us) ks k
        (subst (λ l. Contains l k) js_are (place_contained k js n e)) in
        let m = any_member (same_text k) us c.0 in
        subst (Contains us) (sym ((bytes_decides k m.0).0 m.2)) m.1

    -- no position is cut
    near_is : (k : List ℕ) (o : Option ℕ) → last_place k js ≡ o
        → option_map near_position o ≡ option_map (λ n. keys_start + n) o
    near_is k None e = refl
    near_is k (Some n) e =
        let f = none_member (is_far js) us k tests.2 (is_used k n e) in
        let l : nat_lt 2147483647 (32 + n) ≡ false =
        sym (ap (λ o. nat_lt 2147483647 (unwrap_or (option_map (λ m. keys_start + m) o) 0)) e)
        ∙ f in
        ap Some (omega (arith, ltb-false 2147483647 (32 + n) l))

    pub exact : (k : List ℕ) → near_position_in js k ≡ position_in js k
    exact k = near_is k (last_place k js) refl

-- where the texts S are planned
module _ (q : Packing) (S : List (List ℕ)) (us : List ℕ) (offset : List ℕ → Option ℕ)
    (plan : IsPlanBy q S us offset)
  where
    offset_of_text : (s : List ℕ) → Contains S s → (k : ℕ) × (offset s ≡ Some k) × (k < 2 ^ 28)
    offset_of_text s c = by (offset s) refl (plan.offsets s)
      where
        by : (o : Option ℕ) → offset s ≡ o → MatchOption o (Contains S s → ⊥) (λ k. Contains S s
            × Off q S plan.records s k) → (k : ℕ) × (offset s ≡ Some k) × (k < 2 ^ 28)
        by None e h = absurd (h c)
        by (Some k) e h =
            (k, e, omega (arith, (pool_is_read q S us offset plan s k e).0, plan.room))

-- the offsets of planned strings fit a descriptor
pub near_offsets : (w : Packing) (S : List (List ℕ)) (us : List ℕ) (offset : List ℕ → Option ℕ)
    → IsPlanBy w S us offset → (ss : List (List ℕ)) (os : List ℕ)
    → ((s : List ℕ) → Contains ss s → Contains S s) → map offset ss ≡ map Some os
    → All (λ k. k < 2 ^ 28) os
near_offsets w S us offset plan [] [] f e = All-nil (λ k. k < 2 ^ 28)
near_offsets w S us offset plan [] (k ∷ os) f e = absurd (omega (arith, ap length e))
near_offsets w S us offset plan (s ∷ ss) [] f e = absurd (omega (arith, ap length e))
near_offsets w S us offset plan (s ∷ ss) (k ∷ os) f e =
    let h : offset s ≡ Some k = cc in
    let t : map offset ss ≡ map Some os = cc in
    let r = offset_of_text w S us offset plan s (f s (0, omega arith, refl)) in
    let same : k ≡ r.0 = (let i = sym h ∙ r.1 in cc) in
    All-cons (λ k. k < 2 ^ 28) k os (subst (λ n. n < 2 ^ 28) (sym same) r.2)
    (near_offsets w S us offset plan ss os
    (λ q c. f q (Contains-append_right (s ∷ []) ss q c)) t)
