-- The keys that a compact file keeps are least.
use Rattle.std.proofs.Common.{◌≡◌, ◌≢◌, ℕ, zero, suc, List, [], ◌∷◌, ◌++◌}
use Rattle.std.proofs.Common.{reverse, Bool, true, false, cond, filter, nat_eq}
use Rattle.std.proofs.Common.{inl, inr, refl, sym, ap, ◌∙◌, subst, arith, append_assoc}
use Rattle.std.specs.Prelude.{All, AllPairs, Contains}
use Rattle.std.specs.List.{AllByRecursion, ends_with}
use Rattle.std.specs.Cmp.Lexicographic.{bytes_decides}
use Rattle.std.proofs.lemmas.Bool.Decides.{Decides-eqb}
use Rattle.std.proofs.lemmas.List.{reverse-reverse, reverse-append}
use Rattle.std.proofs.lemmas.List.Elements.{All-from_recursion, recursion_from_All}
use Rattle.std.proofs.lemmas.List.Kept.{AllPairs-cons}
use Rattle.std.proofs.lemmas.Slice.Eq.{ends_is}
use Rattle.resb_tree.specs.Keys.{same_text}
use Rattle.resb_pool.specs.Inner.Extends.{Extends}
use Rattle.resb_pool.specs.Records.{EachOnce, EndsWith}
use Rattle.resb_layout.specs.CompactKeys.{container, kept}
use Rattle.resb_layout.specs.KeyEnds.{is_before}
use Rattle.resb_layout.specs.KeyLaws.{StandsIn, AreApart, KeptAreLeast}
use Rattle.resb_layout.proofs.ByteOrder.{same_place}
use Rattle.resb_layout.proofs.KeyEndsLemmas.{container_is, container_ends, container_among}
use Rattle.resb_layout.proofs.KeyEndsLemmas.{container_greatest, ends_itself, ends_extends}
use Rattle.resb_layout.proofs.KeyEndsLemmas.{extends_ends, not_before}
use Rattle.resb_layout.proofs.LeastLemmas.{NoZero, Apart, no_shorter}

-- a key is its own container
abbrev is_own : List (List ℕ) → List ℕ → Bool
is_own js k = same_text k (container js k)

ends_holds : (j k : List ℕ) → EndsWith j k → ends_with nat_eq j k ≡ true
ends_holds j k w = (ends_is Decides-eqb j k (ends_with nat_eq j k) refl).1 w.front w.is

-- no other key ends with one that is its own container
own_end : (js : List (List ℕ)) (j k : List ℕ) → Contains js j → is_own js k ≡ true
    → EndsWith j k → j ≡ k
own_end js j k among own w =
    let is : k ≡ container js k = (bytes_decides k (container js k)).0 own in
    let ends = ends_holds j k w in
    let up : is_before k j ≡ false =
    ap (λ l. is_before l j) is ∙ container_greatest js k j among ends in
    let down : is_before j k ≡ false = not_before j k (ends_extends j k ends) in
    sym (reverse-reverse j) ∙ ap reverse (same_place (reverse j) (reverse k) down up)
    ∙ reverse-reverse k

-- the keys of a list that pass a test, by recursion
module _ (js : List (List ℕ)) where
  later : (x : List ℕ) (xs : List (List ℕ)) (k : List ℕ) → Contains xs k → Contains (x ∷ xs) k
  later x xs k h = (suc h.0, omega (arith, h.1), h.2)

  -- a key that is kept is one of the list, and its own container
  kept_among : (xs : List (List ℕ)) (k : List ℕ) → Contains (filter (is_own js) xs) k
      → Contains xs k
  kept_among [] k h = h
  kept_among (x ∷ xs) k h = by (is_own js x) h (λ c. kept_among xs k c)
    where
      by : (b : Bool) → Contains (cond b (x ∷ filter (is_own js) xs) (filter (is_own js) xs)) k
          → (Contains (filter (is_own js) xs) k → Contains xs k) → Contains (x ∷ xs) k
      by true (zero, lt, is) f = (zero, omega arith, is)
      by true (suc n, lt, is) f = later x xs k (f (n, omega (arith, lt), is))
      by false c f = later x xs k (f c)

  kept_each : (P : List ℕ → Type 0) (xs : List (List ℕ)) → AllByRecursion P xs
      → AllByRecursion P (filter (is_own js) xs)
  kept_each P [] h = tt
  kept_each P (x ∷ xs) h = by (is_own js x) (kept_each P xs h.1)
    where
      by : (b : Bool) → AllByRecursion P (filter (is_own js) xs)
          → AllByRecursion P (cond b (x ∷ filter (is_own js) xs) (filter (is_own js) xs))
      by true rest = (h.0, rest)
      by false rest = rest

  kept_own : (xs : List (List ℕ))
      → AllByRecursion (λ k. is_own js k ≡ true) (filter (is_own js) xs)
  kept_own [] = tt
  kept_own (x ∷ xs) = by (is_own js x) refl (kept_own xs)
    where
      by : (b : Bool) → is_own js x ≡ b
          → AllByRecursion (λ k. is_own js k ≡ true) (filter (is_own js) xs)
          → AllByRecursion (λ k. is_own js k ≡ true)
          (cond b (x ∷ filter (is_own js) xs) (filter (is_own js) xs))
      by true e rest = (e, rest)
      by false e rest = rest

  -- two keys that are their own containers are apart
  own_apart : (j k : List ℕ) → Contains js j → Contains js k → is_own js j ≡ true
      → is_own js k ≡ true → (j ≡ k → ⊥) → AreApart j k
  own_apart j k a b e f other =
      (λ w. other (own_end js j k a f w), λ w. other (sym (own_end js k j b e w)))

  apart_from : (x : List ℕ) (xs : List (List ℕ)) → Contains js x → is_own js x ≡ true
      → AllByRecursion (λ k. Contains js k) xs → AllByRecursion (λ k. is_own js k ≡ true) xs
      → AllByRecursion (λ k. x ≡ k → ⊥) xs → AllByRecursion (AreApart x) xs
  apart_from x [] a e b f g = tt
  apart_from x (k ∷ xs) a e b f g =
      (own_apart x k a b.0 e f.0 g.0, apart_from x xs a e b.1 f.1 g.1)

  others : (x : List ℕ) (xs : List (List ℕ)) → (Contains xs x → ⊥)
      → AllByRecursion (λ k. x ≡ k → ⊥) xs
  others x [] h = tt
  others x (k ∷ xs) h = (
    λ e. h (zero, omega arith, sym e),
    others x xs (λ c. h (later k xs x c)),
  )

  kept_apart : (xs : List (List ℕ)) → EachOnce xs → AllByRecursion (λ k. Contains js k) xs
      → Apart (filter (is_own js) xs)
  kept_apart [] o a = tt
  kept_apart (x ∷ xs) o a = by (is_own js x) refl (kept_apart xs o.1 a.1)
    where
      by : (b : Bool) → is_own js x ≡ b → Apart (filter (is_own js) xs)
          → Apart (cond b (x ∷ filter (is_own js) xs) (filter (is_own js) xs))
      by true e rest = (
        apart_from x (filter (is_own js) xs) a.0 e (kept_each (λ k. Contains js k) xs a.1)
            (kept_own xs) (kept_each (λ k. x ≡ k → ⊥) xs (others x xs o.0)),
        rest,
      )
      by false e rest = rest

  -- what passes a test stays behind its filter
  stays : (xs : List (List ℕ)) (k : List ℕ) → is_own js k ≡ true → Contains xs k
      → Contains (filter (is_own js) xs) k
  stays [] k e h = h
  stays (x ∷ xs) k e (zero, lt, is) =
      subst (λ b. Contains (cond b (x ∷ filter (is_own js) xs) (filter (is_own js) xs)) k)
      (sym (ap (is_own js) is ∙ e)) (zero, omega arith, is)
  stays (x ∷ xs) k e (suc n, lt, is) = by (is_own js x) (stays xs k e (n, omega (arith, lt), is))
    where
      by : (b : Bool) → Contains (filter (is_own js) xs) k
          → Contains (cond b (x ∷ filter (is_own js) xs) (filter (is_own js) xs)) k
      by true c = later x (filter (is_own js) xs) k c
      by false c = c

  extends_on : (a b c : List ℕ) → Extends a b → Extends b c → Extends a c
  extends_on a b c h k = record {
    rest = k.rest ++ h.rest;
    is = h.is ∙ ap (λ l. l ++ h.rest) k.is ∙ append_assoc c k.rest h.rest;
  }

  -- a container is its own
  own_container : (k : List ℕ) → is_own js (container js k) ≡ true
  own_container k =
      let holder = container js k in
      (bytes_decides holder (container js holder)).1
      (container_is js holder holder (inl refl) (ends_itself holder)
      (λ i h e. container_greatest js k i h (extends_ends i k (extends_on (reverse i)
      (reverse holder) (reverse k) (ends_extends i holder e) (container_ends js k)))))

  held : (k : List ℕ) → Contains js k → (j : List ℕ) × Contains (kept js) j × EndsWith j k
  held k h =
      let e = container_ends js k in
      let among : Contains js (container js k) = elim (container_among js k) [
        | inl same ↦ subst (Contains js) (sym same) h
        | inr c ↦ c
      ] in (
        container js k,
        stays js (container js k) (own_container k) among,
        record {
          front = reverse e.rest;
          is = sym (reverse-reverse (container js k)) ∙ ap reverse e.is
              ∙ reverse-append (reverse k) e.rest
              ∙ ap (λ l. reverse e.rest ++ l) (reverse-reverse k);
        },
      )

each_among : (js xs : List (List ℕ)) → ((k : List ℕ) → Contains xs k → Contains js k)
    → AllByRecursion (λ k. Contains js k) xs
each_among js [] f = tt
each_among js (x ∷ xs) f =
    (f x (zero, omega arith, refl), each_among js xs (λ k c. f k (later js x xs k c)))

pairs_apart : (ks : List (List ℕ)) → Apart ks → AllPairs AreApart ks
pairs_apart [] a = λ i j d below within. absurd (omega arith)
pairs_apart (k ∷ ks) a =
    AllPairs-cons AreApart k ks (All-from_recursion (AreApart k) ks a.0) (pairs_apart ks a.1)

no_zeros : (ks : List (List ℕ)) → AllByRecursion (All (λ b. b ≢ 0)) ks → AllByRecursion NoZero ks
no_zeros [] h = tt
no_zeros (k ∷ ks) h = (recursion_from_All (λ b. b ≢ 0) k h.0, no_zeros ks h.1)

pub kept_are_least : KeptAreLeast
kept_are_least js once texts =
    let zs : AllByRecursion NoZero js =
    no_zeros js (recursion_from_All (All (λ b. b ≢ 0)) js texts) in
    let apart : Apart (kept js) = kept_apart js js once (each_among js js (λ k c. c)) in
    record {
      among = kept_among js js;
      apart = pairs_apart (kept js) apart;
      hold = held js;
      least = λ block h. no_shorter block (kept js) apart (kept_each js NoZero js zs)
          (kept_each js (StandsIn block) js (recursion_from_All (StandsIn block) js h));
    }
