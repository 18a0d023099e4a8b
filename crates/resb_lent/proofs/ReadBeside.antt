-- What a file beside a pool tells of its keys and strings is read back.
use Rattle.std.proofs.Common.{◌≡◌, ℕ, ◌+◌, ◌-◌, ◌<◌, ◌≤◌, ◌^◌, List, [], ◌++◌, length}
use Rattle.std.proofs.Common.{Option, Some, option_map, cond, ◌⊎◌, inl, inr, refl, sym, ◌∙◌}
use Rattle.std.proofs.Common.{ap, arith}
use Rattle.std.specs.Prelude.{slice_get}
use Rattle.std.specs.List.{All}
use Rattle.std.specs.Str.{IsUtf8}
use Rattle.std.proofs.lemmas.Bool.{lt-ltb, cases_lt}
use Rattle.std.proofs.lemmas.Bool.Decides.{nat_tests}
use Rattle.std.proofs.lemmas.Option.{slice_get-map}
use Rattle.resb_format.specs.Lookups.{key_in, key_place_by, text_in, index_in, index_by}
use Rattle.resb_format.specs.Lookups.{position_in, wide_position, place_behind}
use Rattle.resb_format.proofs.Beside.{near_position, wide_position_back}
use Rattle.resb_format.specs.Parts.{Parts, Lent}
use Rattle.resb_format.specs.Strings.{key_at, text_at}
use Rattle.resb_layout.specs.Laid.{Given, Lends, near_by, short_by}
use Rattle.resb_pool.proofs.ReadBack.{text_at-zero}
use Rattle.resb_lent.specs.Laws.{LentIsRead, KeysStand, lends_to}
use Rattle.resb_pool.specs.declared.packing.Packing.{Packing}
use Rattle.resb_lent.specs.PlanWithPool.{IsPlanWithBy, StandAt}
use Rattle.resb_lent.proofs.PlanRead.{planned_is_read, in_pool, in_own, lent_begins}
use Rattle.resb_lent.proofs.Read.{at_zero}
use Rattle.resb_lent.proofs.Told.{told_there}

-- an own position tells itself, and one in the pool is counted from the own keys' end
near_own : (l : Lends) (at : ℕ) → at < 2 ^ 31 → near_by (Some l) at ≡ at
near_own l at h = grind (arith, nat_tests)

near_lent : (l : Lends) (n : ℕ) → near_by (Some l) (n + 2 ^ 31) ≡ n + l.own_end
near_lent l n = grind (arith, nat_tests)

-- a unit that tells an index over 0 tells it back
index_back : (l : Lent) (own i : ℕ) → 0 < i
    → short_by (Some (record { own_end = own; limit = l.limit; short_limit = l.short_limit })) i
    ≤ 65535
    → index_by (Some l) (short_by (Some (record {
      own_end = own;
      limit = l.limit;
      short_limit = l.short_limit;
    })) i) ≡ i
unfolding index_by
index_back l own i some h = grind (arith, nat_tests)

zero_told : (l : Lends) → short_by (Some l) 0 ≡ 0
zero_told l = refl

zero_below : (l : Lent) → 0 < l.short_limit → index_by (Some l) 0 ≡ 0
unfolding index_by
zero_below l h = grind (arith, nat_tests)

zero_own : (l : Lent) → l.short_limit ≡ 0 → index_by (Some l) 0 ≡ l.limit
unfolding index_by
zero_own l h = grind (arith, nat_tests)

own_place : (l : Lent) (keys : List ℕ) (n : ℕ) → position_in n < length keys
    → key_place_by (Some l) keys n ≡ (keys, position_in n)
unfolding key_place_by
own_place l keys n h =
    ap (λ b. cond b (keys, position_in n) (place_behind l keys n))
    (lt-ltb (position_in n) (length keys) h)

module _ (p : Parts) (l : Lent) (g : Given) (lent : p.lent ≡ Some l) (few : length p.keys ≤ 2 ^ 31)
    (stand : KeysStand p l g.position) where
  -- a number that is an own position tells the key there
  own_key : (k : List ℕ) (n at : ℕ) → position_in n ≡ at → at < length p.keys
      → key_at p.keys at ≡ Some k → key_in p n ≡ Some k
  own_key k n at is h e =
      let place : key_place_by p.lent p.keys n ≡ (p.keys, position_in n) =
      ap (λ o. key_place_by o p.keys n) lent ∙ own_place l p.keys n (omega (arith, is, h)) in
      ap (λ r. key_at r.0 r.1) place ∙ ap (key_at p.keys) is ∙ e

  key_read : (k : List ℕ) (at : ℕ) → g.position k ≡ Some at → key_in p (wide_position at) ≡ Some k
  key_read k at e = by (stand k at e)
    where
      by : ((at < length p.keys) × (key_at p.keys at ≡ Some k))
          ⊎ ((n : ℕ) × (at ≡ n + 2 ^ 31) × (key_at l.keys n ≡ Some k))
          → key_in p (wide_position at) ≡ Some k
      by (inl o) = own_key k (wide_position at) at (wide_position_back at) o.0 o.1
      by (inr (n, f, w)) = ap (λ m. key_in p (wide_position m)) f
          ∙ (told_there p l k n lent few w).0

  near_read : (k : List ℕ) (at : ℕ) → g.position k ≡ Some at
      → near_by (Some (lends_to p l)) at ≤ 65535
      → key_in p (near_by (Some (lends_to p l)) at) ≡ Some k
  near_read k at e near = by (stand k at e)
    where
      by : ((at < length p.keys) × (key_at p.keys at ≡ Some k))
          ⊎ ((n : ℕ) × (at ≡ n + 2 ^ 31) × (key_at l.keys n ≡ Some k))
          → key_in p (near_by (Some (lends_to p l)) at) ≡ Some k
      by (inl o) =
          let own : near_by (Some (lends_to p l)) at ≡ at =
          near_own (lends_to p l) at (omega (arith, o.0, few)) in
          ap (key_in p) own
          ∙ own_key k at at (near_position at (omega (arith, own, near))) o.0 o.1
      by (inr (n, f, w)) =
          let told : near_by (Some (lends_to p l)) at ≡ n + length p.keys =
          ap (near_by (Some (lends_to p l))) f ∙ near_lent (lends_to p l) n in
          ap (key_in p) told
          ∙ (told_there p l k n lent few w).1 (omega (arith, told, near))

module _ (way : Packing) (p : Parts) (l : Lent) (S : List (List ℕ)) (us is rest : List ℕ)
    (utf8 : All IsUtf8 S) (plan : IsPlanWithBy way l.block S us is l.limit l.short_limit)
    (lent : p.lent ≡ Some l)
    (own : p.block ≡ us ++ rest) (offset : List ℕ → Option ℕ) (stand : StandAt S is offset) where
  first : text_at (us ++ rest) 0 ≡ Some []
  first = ap (λ vs. text_at (vs ++ rest) 0) plan.plan.pool.units ∙ text_at-zero _

  text_read : (s : List ℕ) (i : ℕ) → offset s ≡ Some i → text_in p i ≡ Some s
  text_read s i e =
      let (n, f, h) = stand s i e in
      let all = planned_is_read way p l S us is rest utf8 plan lent own in
      let both : Some (text_in p i) ≡ Some (Some s) =
      ap (option_map (text_in p)) (sym h) ∙ sym (slice_get-map (text_in p) is n)
      ∙ ap (λ xs. slice_get xs n) all ∙ slice_get-map Some S n ∙ ap (option_map Some) f in
      let one : text_in p i ≡ Some s = cc in
      one

  own_zero : text_in p l.limit ≡ Some []
  own_zero =
      let e : l.limit - l.limit ≡ 0 = omega arith in
      in_own p l us rest lent own first l.limit (omega arith) ∙ ap (text_at (us ++ rest)) e ∙ first

  zero_read : text_in p 0 ≡ Some []
  zero_read = elim (cases_lt 0 l.limit) [
    | inl some ↦ in_pool p l us rest lent own first 0 some
        ∙ at_zero l.block (lent_begins way l.block S S plan.found plan.lent
        (omega (arith, some, plan.limit_is)))
    | inr none ↦
        let e : 0 ≡ l.limit = omega (arith, none) in
        ap (text_in p) e ∙ own_zero
  ]

  only_empty : (s : List ℕ) → offset s ≡ Some 0 → s ≡ []
  only_empty s e =
      let f : Some s ≡ Some [] = sym (text_read s 0 e) ∙ zero_read in
      let g : s ≡ [] = cc in
      g

  told : (u : ℕ) → index_in p u ≡ index_by (Some l) u
  told u = ap (λ o. index_by o u) lent

  short_read : (s : List ℕ) (i : ℕ) → offset s ≡ Some i → short_by (Some (lends_to p l)) i ≤ 65535
      → text_in p (index_in p (short_by (Some (lends_to p l)) i)) ≡ Some s
  short_read s i e short = elim (cases_lt 0 i) [
    | inl some ↦ ap (text_in p) (told (short_by (Some (lends_to p l)) i)
        ∙ index_back l (length p.keys) i some short) ∙ text_read s i e
    | inr none ↦
        let z : i ≡ 0 = omega (arith, none) in
        let unit : short_by (Some (lends_to p l)) i ≡ 0 =
        ap (short_by (Some (lends_to p l))) z ∙ zero_told (lends_to p l) in
        let empty : s ≡ [] = only_empty s (e ∙ ap Some z) in
        ap (λ u. text_in p (index_in p u)) unit ∙ ap (text_in p) (told 0) ∙ at_0
        ∙ ap Some (sym empty)
  ]
    where
      at_0 : text_in p (index_by (Some l) 0) ≡ Some []
      at_0 = elim (cases_lt 0 l.short_limit) [
        | inl below ↦ ap (text_in p) (zero_below l below) ∙ zero_read
        | inr over ↦ ap (text_in p) (zero_own l (omega (arith, over))) ∙ own_zero
      ]

pub lent_is_read : LentIsRead
lent_is_read way p l g S us is rest lent few keys utf8 plan own stand base aligned = record {
  keys = key_read p l g lent few keys;
  near_keys = near_read p l g lent few keys;
  texts = text_read way p l S us is rest utf8 plan lent own g.offset stand;
  short_texts = short_read way p l S us is rest utf8 plan lent own g.offset stand;
  empty = only_empty way p l S us is rest utf8 plan lent own g.offset stand;
  base = base;
  aligned = aligned;
}
