-- In which keys others lie: what is found in the order from the end is the container.
use Rattle.std.proofs.Common.{◌≡◌, ℕ, zero, suc, ◌+◌, ◌-◌, ◌<◌, ◌≤◌, ◌||◌, List, [], ◌∷◌, ◌++◌}
use Rattle.std.proofs.Common.{length, reverse, nat_eq, get_or, take, Bor, Bool, true, false, cond}
use Rattle.std.proofs.Common.{◌⊎◌, inl, inr, refl, sym, ◌∙◌, ap, subst, arith, true≢false}
use Rattle.std.proofs.Common.{append-nil, length-append, ◌==◌}
use Rattle.std.specs.List.{Contains, ends_with}
use Rattle.std.specs.Cmp.{IsStrictWeakOrder}
use Rattle.std.proofs.lemmas.Bool.{cases_Bool, cases_lt}
use Rattle.std.proofs.lemmas.Bool.Decides.{Decides-eqb, same_from_decides, Decides-like}
use Rattle.std.specs.Cmp.Lexicographic.{bytes_decides}
use Rattle.std.proofs.lemmas.Cmp.{nat_list_cmp_total}
use Rattle.std.proofs.lemmas.List.{reverse-reverse, reverse-append, get_or-map, length-map}
use Rattle.std.proofs.lemmas.List.{length-reverse, nil_from_length}
use Rattle.std.proofs.lemmas.List.Elements.{Contains-get_or}
use Rattle.std.proofs.lemmas.List.MinMax.{ranks_by}
use Rattle.std.proofs.lemmas.List.Sorted.{Contains-permutation, IsPermutation-sym, sorted_far}
use Rattle.std.proofs.lemmas.Slice.Eq.{ends_is}
use Rattle.resb_tree.specs.Keys.{same_text}
use Rattle.resb_pool.specs.Inner.Extends.{Extends}
use Rattle.resb_pool.specs.Plan.{nows}
use Rattle.resb_layout.specs.CompactKeys.{greater_end, container}
use Rattle.resb_layout.specs.KeyEnds.{is_before, is_up_to, AreByEnd}
use Rattle.resb_layout.proofs.ByteOrder.{before, not_itself, not_both_ways, chained, same_place}
use Rattle.resb_layout.proofs.ByteOrder.{longer_behind, run_between}

-- j ends with k where its bytes from the end begin with those of k
pub ends_extends : (j k : List ℕ) → ends_with nat_eq j k ≡ true → Extends (reverse j) (reverse k)
ends_extends j k e =
    let n = length j - length k in
    let is : j ≡ take n j ++ k = (ends_is Decides-eqb j k (ends_with nat_eq j k) refl).0 e in
    record { rest = reverse (take n j); is = ap reverse is ∙ reverse-append (take n j) k }

pub extends_ends : (j k : List ℕ) → Extends (reverse j) (reverse k) → ends_with nat_eq j k ≡ true
extends_ends j k h =
    (ends_is Decides-eqb j k (ends_with nat_eq j k) refl).1 (reverse h.rest)
    (sym (reverse-reverse j) ∙ ap reverse h.is ∙ reverse-append (reverse k) h.rest
    ∙ ap (λ l. reverse h.rest ++ l) (reverse-reverse k))

-- a key ends with itself
pub ends_itself : (k : List ℕ) → ends_with nat_eq k k ≡ true
ends_itself k = extends_ends k k (record { rest = []; is = sym (append-nil (reverse k)) })

-- what ends with k doesn't stand before it
pub not_before : (j k : List ℕ) → Extends (reverse j) (reverse k) → is_before j k ≡ false
not_before j k h = ap (λ l. before l (reverse k)) h.is ∙ longer_behind (reverse k) h.rest

pub up_to_cases : (k j : List ℕ) → is_up_to k j ≡ true → (ends_with nat_eq j k ≡ true)
    ⊎ (is_before j k ≡ true)
up_to_cases k j e = by (ends_with nat_eq j k) refl
  where
    by : (b : Bool) → ends_with nat_eq j k ≡ b → (ends_with nat_eq j k ≡ true)
        ⊎ (is_before j k ≡ true)
    by true f = inl f
    by false f = inr (sym (ap (λ b. b || is_before j k) f) ∙ e)

pub ends_up_to : (k j : List ℕ) → ends_with nat_eq j k ≡ true → is_up_to k j ≡ true
ends_up_to k j e = ap (λ b. b || is_before j k) e

pub before_up_to : (b c : Bool) → c ≡ true → (b || c) ≡ true
before_up_to true c e = refl
before_up_to false c e = e

-- what doesn't stand behind such a key is such a key
up_to_down : (k a b : List ℕ) → is_before b a ≡ false → is_up_to k b ≡ true → is_up_to k a ≡ true
up_to_down k a b up h = elim (cases_Bool (is_before a k)) [
  | inl e ↦ before_up_to (ends_with nat_eq a k) (is_before a k) e
  | inr e ↦ elim (up_to_cases k b h) [
    | inl f ↦
        let x = ends_extends b k f in
        ends_up_to k a (extends_ends a k (run_between (reverse a) (reverse k) x.rest e
        (sym (ap (λ l. before l (reverse a)) x.is) ∙ up)))
    | inr f ↦ absurd (true≢false (sym f
        ∙ chained (reverse k) (reverse a) (reverse b) e up))
  ]
]

-- the greater of two keys
greater_is : (i j : List ℕ) → ((greater_end i j ≡ i) × (is_before i j ≡ false))
    ⊎ ((greater_end i j ≡ j) × (is_before j i ≡ false))
greater_is i j = by (is_before j i) refl
  where
    by : (b : Bool) → is_before j i ≡ b → ((greater_end i j ≡ i) × (is_before i j ≡ false))
        ⊎ ((greater_end i j ≡ j) × (is_before j i ≡ false))
    by true e = inl (ap (λ c. cond c i j) e, not_both_ways (reverse j) (reverse i) e)
    by false e = inr (ap (λ c. cond c i j) e, e)

greater_left : (i j : List ℕ) → is_before (greater_end i j) i ≡ false
greater_left i j = elim (greater_is i j) [
  | inl h ↦ ap (λ l. is_before l i) h.0 ∙ not_itself (reverse i)
  | inr h ↦ ap (λ l. is_before l i) h.0 ∙ h.1
]

greater_right : (i j : List ℕ) → is_before (greater_end i j) j ≡ false
greater_right i j = elim (greater_is i j) [
  | inl h ↦ ap (λ l. is_before l j) h.0 ∙ h.1
  | inr h ↦ ap (λ l. is_before l j) h.0 ∙ not_itself (reverse j)
]

with_end : (j k : List ℕ) (js : List (List ℕ)) → ends_with nat_eq j k ≡ true
    → container (j ∷ js) k ≡ greater_end j (container js k)
with_end j k js e = ap (λ b. cond b (greater_end j (container js k)) (container js k)) e

with_other : (j k : List ℕ) (js : List (List ℕ)) → ends_with nat_eq j k ≡ false
    → container (j ∷ js) k ≡ container js k
with_other j k js e = ap (λ b. cond b (greater_end j (container js k)) (container js k)) e

-- a container ends with its key
pub container_ends : (js : List (List ℕ)) (k : List ℕ)
    → Extends (reverse (container js k)) (reverse k)
container_ends [] k = record { rest = []; is = sym (append-nil (reverse k)) }
container_ends (j ∷ js) k = elim (cases_Bool (ends_with nat_eq j k)) [
  | inl e ↦ subst (λ l. Extends (reverse l) (reverse k)) (sym (with_end j k js e))
      (elim (greater_is j (container js k)) [
        | inl h ↦ subst (λ l. Extends (reverse l) (reverse k)) (sym h.0) (ends_extends j k e)
        | inr h ↦ subst (λ l. Extends (reverse l) (reverse k)) (sym h.0) (container_ends js k)
      ])
  | inr e ↦ subst (λ l. Extends (reverse l) (reverse k)) (sym (with_other j k js e))
      (container_ends js k)
]

-- it is the key, or one of the keys of the list
pub container_among : (js : List (List ℕ)) (k : List ℕ)
    → (container js k ≡ k) ⊎ Contains js (container js k)
container_among [] k = inl refl
container_among (j ∷ js) k = elim (cases_Bool (ends_with nat_eq j k)) [
  | inl e ↦ elim (greater_is j (container js k)) [
    | inl h ↦ inr (subst (Contains (j ∷ js)) (sym (with_end j k js e ∙ h.0))
        (0, omega arith, refl))
    | inr h ↦ later (container_among js k) (with_end j k js e ∙ h.0)
  ]
  | inr e ↦ later (container_among js k) (with_other j k js e)
]
  where
    later : (container js k ≡ k) ⊎ Contains js (container js k)
        → container (j ∷ js) k ≡ container js k → (container (j ∷ js) k ≡ k)
        ⊎ Contains (j ∷ js) (container (j ∷ js) k)
    later among e = elim among [
      | inl h ↦ inl (e ∙ h)
      | inr h ↦ inr (subst (Contains (j ∷ js)) (sym e) (suc h.0, omega (arith, h.1), h.2))
    ]

-- none that ends with the key stands behind it
pub container_greatest : (js : List (List ℕ)) (k i : List ℕ) → Contains js i
    → ends_with nat_eq i k ≡ true → is_before (container js k) i ≡ false
container_greatest [] k i h e = absurd (omega (arith, h.1))
container_greatest (j ∷ js) k i h e = by h (λ m. container_greatest js k i m e)
  where
    rest_is : is_before (container (j ∷ js) k) (container js k) ≡ false
    rest_is = elim (cases_Bool (ends_with nat_eq j k)) [
      | inl f ↦ ap (λ l. is_before l (container js k)) (with_end j k js f)
          ∙ greater_right j (container js k)
      | inr f ↦ ap (λ l. is_before l (container js k)) (with_other j k js f)
          ∙ not_itself (reverse (container js k))
    ]

    by : Contains (j ∷ js) i → (Contains js i → is_before (container js k) i ≡ false)
        → is_before (container (j ∷ js) k) i ≡ false
    by (zero, lt, is) later =
        let f : ends_with nat_eq j k ≡ true = ap (λ l. ends_with nat_eq l k) is ∙ e in
        ap (λ l. is_before l i) (with_end j k js f)
        ∙ ap (is_before (greater_end j (container js k))) (sym is)
        ∙ greater_left j (container js k)
    by (suc n, lt, is) later = chained (reverse i) (reverse (container js k))
        (reverse (container (j ∷ js) k)) (later (n, omega (arith, lt), is)) rest_is

-- what ends with the key, and stands behind all that do, is the container
pub container_is : (js : List (List ℕ)) (k m : List ℕ) → (m ≡ k) ⊎ Contains js m
    → ends_with nat_eq m k ≡ true
    → ((i : List ℕ) → Contains js i → ends_with nat_eq i k ≡ true → is_before m i ≡ false)
    → m ≡ container js k
container_is js k m among ends greatest =
    let c = container js k in
    let x = container_ends js k in
    let up : is_before m c ≡ false = elim (container_among js k) [
      | inl h ↦ ap (is_before m) h ∙ not_before m k (ends_extends m k ends)
      | inr h ↦ greatest c h (extends_ends c k x)
    ] in
    let down : is_before c m ≡ false = elim among [
      | inl h ↦ ap (is_before c) h ∙ not_before c k x
      | inr h ↦ container_greatest js k m h ends
    ] in
    sym (reverse-reverse m) ∙ ap reverse (same_place (reverse m) (reverse c) up down)
    ∙ reverse-reverse c

pub end_order : IsStrictWeakOrder (λ (x y : Bor (List ℕ)). is_before x.now y.now)
end_order = ranks_by nat_list_cmp_total (λ (x : Bor (List ℕ)). reverse x.now)

module _ (js : List (List ℕ)) (ss : List (Bor (List ℕ))) (o : AreByEnd js ss) (k : List ℕ)
    (count : ℕ) (within : count ≤ length ss)
    (behind : (d : Bor (List ℕ)) → count < length ss → is_up_to k (get_or ss count d).now ≡ false)
  where
    -- each key that ends with k is counted
    counted : (d : Bor (List ℕ)) (i : List ℕ) → Contains js i → ends_with nat_eq i k ≡ true
        → (p : ℕ) × (p < count) × (p < length ss) × ((get_or ss p d).now ≡ i)
    counted d i h e =
        let c = Contains-permutation js (nows ss) i o.all h in
        let p = c.0 in
        let l : p < length ss = omega (arith, c.1, length-map ss (λ (x : Bor (List ℕ)). x.now)) in
        let is : (get_or ss p d).now ≡ i =
        sym (get_or-map (λ (x : Bor (List ℕ)). x.now) ss p d i l) ∙ c.2 in
        elim (cases_lt p count) [
          | inl m ↦ (p, m, l, is)
          | inr m ↦
              let far : count < length ss = omega (arith, m, l) in
              let up = sorted_far (λ (x y : Bor (List ℕ)). is_before x.now y.now) end_order ss
              o.ascend count p d m l in
              let all = up_to_down k (get_or ss count d).now (get_or ss p d).now up
              (ap (is_up_to k) is ∙ ends_up_to k i e) in
              absurd (true≢false (sym all ∙ behind d far))
        ]

    -- with none counted, a key lies in itself
    pub none_counted : count ≡ 0 → k ≡ container js k
    none_counted z = container_is js k k (inl refl) (ends_itself k) (λ i h e.
        let c = counted (record { ref_ptr = (0, 0); now = [] }) i h e in
        absurd (omega (arith, c.1, z)))

    module _ (n : ℕ) (d : Bor (List ℕ)) (is : count ≡ n + 1)
        (before_it : is_up_to k (get_or ss n d).now ≡ true) where
      abbrev last : List ℕ
      last = (get_or ss n d).now

      inside : n < length ss
      inside = omega (arith, within, is)

      not_behind : (i : List ℕ) → Contains js i → ends_with nat_eq i k ≡ true
          → is_before last i ≡ false
      not_behind i h e =
          let c = counted d i h e in
          ap (is_before last) (sym c.3)
          ∙ sorted_far (λ (x y : Bor (List ℕ)). is_before x.now y.now) end_order ss
          o.ascend c.0 n d (omega (arith, c.1, is)) inside

      in_list : Contains js last
      in_list =
          let many = length-map ss (λ (x : Bor (List ℕ)). x.now) in
          Contains-permutation (nows ss) js last (IsPermutation-sym js (nows ss) o.all)
          (subst (Contains (nows ss)) (get_or-map (λ (x : Bor (List ℕ)). x.now) ss n d [] inside)
          (Contains-get_or (nows ss) n [] (omega (arith, inside, many))))

      pub last_holds : ends_with nat_eq last k ≡ true → last ≡ container js k
      last_holds e = container_is js k last (inr in_list) e not_behind

      not_ended : ends_with nat_eq last k ≡ false → (i : List ℕ) → Contains js i
          → ends_with nat_eq i k ≡ true → is_before k i ≡ false
      not_ended e i h f = elim (up_to_cases k last before_it) [
        | inl g ↦ absurd (true≢false (sym g ∙ e))
        | inr g ↦ absurd (true≢false (sym g ∙ chained (reverse k) (reverse i) (reverse last)
            (not_before i k (ends_extends i k f)) (not_behind i h f)))
      ]

      pub itself_holds : ends_with nat_eq last k ≡ false → k ≡ container js k
      itself_holds e = container_is js k k (inl refl) (ends_itself k) (not_ended e)

-- a key that is as long as its container is the container
pub length_tells : (js : List (List ℕ)) (k : List ℕ)
    → (length (container js k) == length k) ≡ same_text k (container js k)
length_tells js k = same_from_decides _ _ (Decides-like _ back (λ e. ap length (sym e))
    (Decides-eqb (length (container js k)) (length k))) (bytes_decides k (container js k))
  where
    back : length (container js k) ≡ length k → k ≡ container js k
    back e =
        let x = container_ends js k in
        let none : length x.rest ≡ 0 = omega (
          arith,
          e,
          ap length x.is,
          length-append (reverse k) x.rest,
          length-reverse k,
          length-reverse (container js k),
        ) in
        sym (reverse-reverse k) ∙ ap reverse (sym (x.is
        ∙ ap (λ l. reverse k ++ l) (nil_from_length x.rest none) ∙ append-nil (reverse k)))
        ∙ reverse-reverse (container js k)
