-- What a plan with a pool gives: an index at which each string is read, in one way.
use Rattle.std.proofs.Common.{◌≡◌, ℕ, ◌+◌, ◌-◌, ◌<◌, ◌≤◌, List, [], ◌∷◌, ◌++◌, map, Option}
use Rattle.std.proofs.Common.{Some, None, cond, nat_lt, ◌⊎◌, inl, inr, refl, sym, ◌∙◌, ap, subst}
use Rattle.std.proofs.Common.{arith}
use Rattle.std.specs.Prelude.{slice_get}
use Rattle.std.specs.List.{All}
use Rattle.std.specs.Str.{IsUtf8}
use Rattle.std.proofs.lemmas.Bool.{lt-ltb, le-ltb, cases_lt}
use Rattle.std.proofs.lemmas.Bool.{ne_eqb}
use Rattle.std.proofs.lemmas.List.Elements.{All-head, All-tail}
use Rattle.resb_format.specs.Strings.{text_at}
use Rattle.resb_format.specs.Lookups.{text_in, text_place_by}
use Rattle.resb_format.specs.Parts.{Parts, Lent}
use Rattle.resb_pool.specs.Plan.{IsPlanAmong}
use Rattle.resb_pool.specs.declared.packing.Packing.{Packing}
use Rattle.resb_pool.proofs.IsRead.{pool_is_read}
use Rattle.resb_pool.proofs.OnePool.{one_pool}
use Rattle.resb_pool.proofs.ReadBack.{text_at-zero}
use Rattle.resb_lent.specs.Laws.{PlannedIsRead, OnePlanWith}
use Rattle.resb_lent.specs.PlanWithPool.{AreLentBy, lent_none, lent_more, lacking, given, limit_of}
use Rattle.resb_lent.specs.PlanWithPool.{in_turn, short_limit_of, behind}
use Rattle.resb_lent.specs.LentBeside.{IsTextBeside}
use Rattle.resb_lent.proofs.Once.{one_answer}
use Rattle.resb_lent.proofs.Read.{at_zero, Placed, placed_empty, placed_within, placed, placed_read}

begins : (block s : List ℕ) (i : ℕ) → Placed block s i → slice_get block 0 ≡ Some 0
begins block s i (placed_empty z) = z
begins block s i (placed_within some own holds e) = own.begins

-- the empty text alone has index 0
only_empty : (block s : List ℕ) (i : ℕ) → IsUtf8 s → Placed block s i → i ≡ 0 → s ≡ []
only_empty block s i u h z =
    let e : Some [] ≡ Some s = sym (at_zero block (begins block s i h))
    ∙ ap (text_at block) (sym z) ∙ placed_read block s i u h in
    let f : [] ≡ s = cc in
    sym f

pub behind_more : (i : ℕ) → 0 < i → behind i ≡ i + 1
behind_more i h = ap (λ b. cond b 0 (i + 1)) (ne_eqb i 0 (λ e. omega (arith, e, h)))

-- an index is below the limit, or it is 0
index_below : (i : ℕ) (is : List ℕ) → (i ≡ 0) ⊎ (i < limit_of (i ∷ is))
index_below i is = elim (cases_lt 0 i) [
  | inl h ↦ inr (omega (arith, behind_more i h))
  | inr h ↦ inl (omega (arith, h))
]

-- a pool that has a string which isn't empty begins with 0
pub lent_begins : (way : Packing) (block : List ℕ) (A S : List (List ℕ)) (os : List (Option ℕ))
    → AreLentBy way block A S os → 0 < limit_of (given os) → slice_get block 0 ≡ Some 0
lent_begins way block A [] [] lent_none h = absurd (omega (arith, h))
lent_begins way block A [] (o ∷ os) x h = elim x [ ]
lent_begins way block A (s ∷ S) [] x h = elim x [ ]
lent_begins way block A (s ∷ S) (Some i ∷ os) (lent_more a more) h =
    begins block s i (placed way block A s i a)
lent_begins way block A (s ∷ S) (None ∷ os) (lent_more a more) h =
    lent_begins way block A S os more (omega (arith, h))

module _ (p : Parts) (l : Lent) (us rest : List ℕ) (lent : p.lent ≡ Some l)
    (own : p.block ≡ us ++ rest) (first : text_at (us ++ rest) 0 ≡ Some []) where
  there : (i : ℕ) → text_in p i ≡ (λ (b : List ℕ × ℕ). text_at b.0 b.1)
      (cond (nat_lt i l.limit) (l.block, i) (us ++ rest, i - l.limit))
  unfolding text_place_by
  there i = (λ j. text_at (text_place_by (lent j) (own j) i).0 (text_place_by (lent j) (own j) i).1)

  pub in_pool : (i : ℕ) → i < l.limit → text_in p i ≡ text_at l.block i
  in_pool i h = there i ∙ ap (λ b. (λ (b : List ℕ × ℕ). text_at b.0 b.1)
      (cond b (l.block, i) (us ++ rest, i - l.limit))) (lt-ltb i l.limit h)

  pub in_own : (i : ℕ) → l.limit ≤ i → text_in p i ≡ text_at (us ++ rest) (i - l.limit)
  in_own i h = there i ∙ ap (λ b. (λ (b : List ℕ × ℕ). text_at b.0 b.1)
      (cond b (l.block, i) (us ++ rest, i - l.limit))) (le-ltb i l.limit h)

  -- a string that the pool has
  lent_read : (s : List ℕ) (i : ℕ) → IsUtf8 s → Placed l.block s i → (i ≡ 0) ⊎ (i < l.limit)
      → text_in p i ≡ Some s
  lent_read s i u h (inr below) = in_pool i below ∙ placed_read l.block s i u h
  lent_read s i u h (inl none) = elim (cases_lt i l.limit) [
    | inl below ↦ in_pool i below ∙ placed_read l.block s i u h
    | inr above ↦
        let e : i - l.limit ≡ 0 = omega (arith, none) in
        in_own i above ∙ ap (text_at (us ++ rest)) e ∙ first ∙ ap Some (sym
        (only_empty l.block s i u h none))
  ]

  module _ (way : Packing) {B : List ℕ → Type 0} (T : List (List ℕ)) (offset : List ℕ → Option ℕ)
      (plan : IsPlanAmong way B T us offset) where
    own_read : (s : List ℕ) (k : ℕ) → offset s ≡ Some k → text_in p (l.limit + k) ≡ Some s
    own_read s k e =
        let f : l.limit + k - l.limit ≡ k = omega arith in
        in_own (l.limit + k) (omega arith) ∙ ap (text_at (us ++ rest)) f
        ∙ (pool_is_read way T us offset plan s k e).1 rest

    each_read : (A S : List (List ℕ)) (os : List (Option ℕ)) (ks : List ℕ) → All IsUtf8 S
        → AreLentBy way l.block A S os → limit_of (given os) ≤ l.limit
        → map offset (lacking S os) ≡ map Some ks
        → map (text_in p) (in_turn l.limit os ks) ≡ map Some S
    each_read A [] [] ks u lent_none h e = refl
    each_read A [] (o ∷ os) ks u x h e = elim x [ ]
    each_read A (s ∷ S) [] ks u x h e = elim x [ ]
    each_read A (s ∷ S) (Some i ∷ os) ks u (lent_more a more) h e =
        let below : (i ≡ 0) ⊎ (i < l.limit) = elim (index_below i (given os)) [
          | inl z ↦ inl z
          | inr n ↦ inr (omega (arith, n, h))
        ] in
        λ j. lent_read s i (All-head IsUtf8 s S u) (placed way l.block A s i a) below j
        ∷ each_read A S os ks (All-tail IsUtf8 s S u) more (omega (arith, h)) e j
    each_read A (s ∷ S) (None ∷ os) [] u (lent_more a more) h e = cc
    each_read A (s ∷ S) (None ∷ os) (k ∷ ks) u (lent_more a more) h e =
        let f : offset s ≡ Some k = cc in
        let g : map offset (lacking S os) ≡ map Some ks = cc in
        λ j. own_read s k f j ∷ each_read A S os ks (All-tail IsUtf8 s S u) more h g j

pub planned_is_read : PlannedIsRead
planned_is_read way p l S us is rest u w lent own =
    let first : text_at (us ++ rest) 0 ≡ Some [] =
    ap (λ vs. text_at (vs ++ rest) 0) w.plan.pool.units ∙ text_at-zero _ in
    ap (map (text_in p)) w.indexes_are
    ∙ each_read p l us rest lent own first way (lacking S w.found) w.offset w.plan S S w.found
    w.offsets u w.lent (omega (arith, w.limit_is)) w.offsets_are

-- what a pool has of texts is one list of answers
one_found : (way : Packing) (block : List ℕ) (A S : List (List ℕ)) (os ps : List (Option ℕ))
    → AreLentBy way block A S os → AreLentBy way block A S ps → os ≡ ps
one_found way block A [] [] [] x y = refl
one_found way block A [] (o ∷ os) ps x y = elim x [ ]
one_found way block A [] [] (q ∷ ps) x y = elim y [ ]
one_found way block A (s ∷ S) [] ps x y = elim x [ ]
one_found way block A (s ∷ S) (o ∷ os) [] x y = elim y [ ]
one_found way block A (s ∷ S) (o ∷ os) (q ∷ ps) (lent_more a more) (lent_more b rest) =
    λ j. one_answer way block A s o q a b j ∷ one_found way block A S os ps more rest j

same_somes : (is js : List ℕ) → map Some is ≡ map Some js → is ≡ js
same_somes [] [] e = refl
same_somes [] (j ∷ js) e = cc
same_somes (i ∷ is) [] e = cc
same_somes (i ∷ is) (j ∷ js) e =
    let f : i ≡ j = cc in
    let g : map Some is ≡ map Some js = cc in
    λ k. f k ∷ same_somes is js g k

pub one_plan_with : OnePlanWith
one_plan_with way block S us vs is js limit other short small x y =
    let found = one_found way block S S x.found y.found x.lent y.lent in
    let moved = subst (λ os. IsPlanAmong way (IsTextBeside block S) (lacking S os) us
    x.offset) found x.plan in
    let pool = one_pool way (lacking S y.found) us vs x.offset y.offset moved y.plan in
    let offsets = same_somes x.offsets y.offsets (sym x.offsets_are
    ∙ (λ k. map (pool.1 k) (lacking S (found k))) ∙ y.offsets_are) in
    let limits = x.limit_is ∙ ap (λ os. limit_of (given os)) found ∙ sym y.limit_is in (
      pool.0,
      x.indexes_are ∙ (λ k. in_turn (limits k) (found k) (offsets k)) ∙ sym y.indexes_are,
      limits,
      x.short_is ∙ (λ k. short_limit_of (limits k) (limit_of (offsets k))) ∙ sym y.short_is,
    )
