-- Runs of equal hashes, and the first copies of strings. S are strings, ms their hashes with their
-- numbers, in order.
use Rattle.std.proofs.Common.{◌≡◌, ℕ, zero, suc, ◌+◌, ◌-◌, ◌*◌, ◌%◌, ◌^◌, ◌<◌, ◌≤◌, List, [], ◌∷◌}
use Rattle.std.proofs.Common.{length, drop, get_or, drop-cons, add-one, Some, None, inl, inr, false}
use Rattle.std.proofs.Common.{refl, sym, ◌∙◌, ap, subst, arith, true≢false}
use Rattle.std.specs.Prelude.{slice_get}
use Rattle.std.specs.List.Sorted.{IsSorted, IsPermutation}
use Rattle.std.proofs.lemmas.List.Sorted.{All-permutation, Contains-permutation}
use Rattle.std.specs.Ordering.{nat_cmp, is_lt, ordering_then}
use Rattle.std.proofs.lemmas.List.{get_or_default, drop_all}
use Rattle.std.proofs.lemmas.Cmp.{nat_cmp_total, tied_itself}
use Rattle.std.proofs.lemmas.Bool.{cases_lt}
use Rattle.resb_pool.specs.Inner.Placing.{indexed_text}
use Rattle.resb_pool.specs.Inner.Firsts.{hash_with, text_hash, hash_numbered, hash_cmp, AreHashes}
use Rattle.resb_pool.specs.Inner.Firsts.{IsFirst, AreFirsts}
use Rattle.resb_pool.specs.declared.firsts.NumberedHash.{NumberedHash}
use Rattle.resb_pool.proofs.Numbers.{three_ways, less_is_first, ordering_then_equal, old_or_new}

-- y isn't before x
record InOrder (x y : NumberedHash) : Type 0 where
  pub hashes : x.hash ≤ y.hash
  pub numbers : x.hash ≡ y.hash → x.number ≤ y.number

not_before : (x y : NumberedHash) → is_lt (hash_cmp y x) ≡ false → InOrder x y
not_before x y e = three_ways (InOrder x y) y.hash x.hash
    (λ f. absurd (less_is_first (nat_cmp y.hash x.hash) (nat_cmp y.number x.number) f e))
    (λ f. record {
      hashes = omega arith;
      numbers = λ q. three_ways (x.number ≤ y.number) y.number x.number
          (λ g. absurd (true≢false (sym (ap is_lt
          (ap (λ z. ordering_then (nat_cmp y.hash z) (nat_cmp y.number x.number)) (sym f)
          ∙ ordering_then_equal (nat_cmp y.hash y.hash) (nat_cmp y.number x.number)
          (tied_itself nat_cmp_total y.hash) ∙ g)) ∙ e)))
          (λ g. omega arith) (λ g. omega arith);
    })
    (λ m. record { hashes = omega arith; numbers = λ q. absurd (omega arith) })

ordered : (ms : List NumberedHash) (i n j : ℕ) (d : NumberedHash) → IsSorted hash_cmp ms → i + n ≡ j
    → j < length ms → InOrder (get_or ms i d) (get_or ms j d)
ordered ms i zero j d up e l =
    let n : i ≡ j = omega arith in
    subst (λ z. InOrder (get_or ms i d) (get_or ms z d)) n
    (record { hashes = omega arith; numbers = λ q. omega arith })
ordered ms i (suc n) j d up e l =
    let m : i + n + 1 ≡ j = omega arith in
    let before = ordered ms i n (i + n) d up refl (omega arith) in
    let next = not_before (get_or ms (i + n) d) (get_or ms (i + n + 1) d)
    (up (i + n) d (omega arith) (omega arith)) in
    subst (λ z. InOrder (get_or ms i d) (get_or ms z d)) m (record {
      hashes = omega (arith, before.hashes, next.hashes);
      numbers = λ q. omega (arith, before.hashes, before.numbers, next.hashes, next.numbers);
    })

-- m is the first of its run, where k hashes are done
pub record IsRun (S : List (List ℕ)) (ms : List NumberedHash) (k : ℕ) (m : NumberedHash)
    : Type 0 where
  pub within : m.number < length S
  pub below : (q : ℕ) (d : NumberedHash) → q < k → (get_or ms q d).hash ≤ m.hash
  pub above : (q : ℕ) (d : NumberedHash) → k ≤ q → q < length ms → m.hash ≤ (get_or ms q d).hash
  pub least : (q : ℕ) (d : NumberedHash) → q < length ms → (get_or ms q d).hash ≡ m.hash
      → m.number ≤ (get_or ms q d).number

module _ (S : List (List ℕ)) (ms : List NumberedHash) (hashes : AreHashes S ms) (k : ℕ)
    (d : NumberedHash) (l : k < length ms) where
  -- a hash that is new begins a run
  pub run_begins : IsSorted hash_cmp ms
      → ((q : ℕ) (e : NumberedHash) → q < k → (get_or ms q e).hash < (get_or ms k d).hash)
      → IsRun S ms k (get_or ms k d)
  run_begins up new = record {
    within = (hashes.each k d l).0;
    below = λ q e b. omega (arith, new q e b);
    above = λ q e a b. (from q e a b).hashes;
    least = λ q e b h. elim (cases_lt q k) [
      | inl c ↦ absurd (omega (arith, new q e c, h))
      | inr c ↦ (from q e c b).numbers (sym h)
    ];
  }
    where
      from : (q : ℕ) (e : NumberedHash) → k ≤ q → q < length ms
          → InOrder (get_or ms k d) (get_or ms q e)
      from q e a b = subst (λ z. InOrder z (get_or ms q e)) (get_or_default ms k e d l)
          (ordered ms k (q - k) q e up (omega arith) b)

  -- the same hash goes on with it
  pub run_goes_on : (m : NumberedHash) → IsRun S ms k m → (get_or ms k d).hash ≡ m.hash
      → IsRun S ms (k + 1) m
  run_goes_on m h e = record {
    within = h.within;
    below = λ q f b. elim (old_or_new k q b) [
      | inl c ↦ h.below q f c
      | inr c ↦ subst (λ z. (get_or ms z f).hash ≤ m.hash) (sym c)
          (subst (λ (z : NumberedHash). z.hash ≤ m.hash) (get_or_default ms k d f l) (omega arith))
    ];
    above = λ q f a b. h.above q f (omega arith) b;
    least = h.least;
  }

  -- in its run a string's first copy is found
  pub first_of_run : (n : ℕ) (m : NumberedHash) → IsRun S ms n m → (get_or ms k d).hash ≡ m.hash
      → indexed_text S m.number ≡ indexed_text S (get_or ms k d).number
      → IsFirst S (get_or ms k d).number m.number
  first_of_run n m h e same = record {
    reaches = h.least k d l e;
    same = same;
    none_before = λ j b t.
        let c = hashes.all j (omega (arith, h.within, b)) in
        let x = hash_numbered S j in
        let at : get_or ms c.0 x ≡ x = c.2 in
        let hash : (get_or ms c.0 x).hash ≡ m.hash =
        ap (λ (z : NumberedHash). z.hash) at ∙ ap text_hash t
        ∙ sym (ap (λ (z : NumberedHash). z.hash) (hashes.each k d l).1) ∙ e in
        omega (arith, b, h.least c.0 x c.1 hash, ap (λ (z : NumberedHash). z.number) at);
  }

-- once all hashes are done, each string has its first copy
pub all_first : (S : List (List ℕ)) (ms : List NumberedHash) → AreHashes S ms → (fs : List ℕ)
    → length fs ≡ length S
    → ((q : ℕ) (d : NumberedHash) → q < length ms
    → IsFirst S (get_or ms q d).number (get_or fs (get_or ms q d).number 0)) → AreFirsts S fs
all_first S ms hashes fs n h = record {
  len = n;
  each = λ i l.
      let c = hashes.all i l in
      let x = hash_numbered S i in
      subst (λ z. IsFirst S z (get_or fs z 0)) (ap (λ (z : NumberedHash). z.number) c.2)
      (h c.0 x c.1);
}

-- the hash of the bytes up to one more
pub hash_more : (h i b x : ℕ) (bs : List ℕ) → i < length bs → b ≡ get_or bs i 0
    → hash_with h (drop i bs) ≡ x
    → hash_with ((h + b) % 2 ^ 64 * 0x100_0000_01b3 % 2 ^ 64) (drop (i + 1) bs) ≡ x
unfolding hash_with
hash_more h i b x bs l is e =
    ap (λ z. hash_with ((h + b) % 2 ^ 64 * 0x100_0000_01b3 % 2 ^ 64) (drop z bs)) (add-one i)
    ∙ sym (ap (hash_with h) (drop-cons bs i 0 l ∙ ap (λ z. z ∷ drop (suc i) bs) (sym is))) ∙ e

-- and of all of them
pub hash_done : (h i x : ℕ) (bs : List ℕ) → length bs ≤ i → hash_with h (drop i bs) ≡ x → h ≡ x
unfolding hash_with
hash_done h i x bs l e = sym (ap (hash_with h) (drop_all i bs l)) ∙ e

-- what stands in front of hashes
pub front : (ms : List NumberedHash) (m : NumberedHash) → Some m ≡ slice_get ms 0
    → (0 < length ms) × (get_or ms 0 m ≡ m)
front [] m e = absurd (let z : Some m ≡ None = e in cc)
front (x ∷ ms) m e = (omega arith, (let z : Some m ≡ Some x = e in cc))

-- the hashes of strings in their order are hashes of them
pub hashes_in_turn : (S : List (List ℕ)) (ms : List NumberedHash) → length ms ≡ length S
    → ((i : ℕ) (d : NumberedHash) → i < length S → get_or ms i d ≡ hash_numbered S i)
    → AreHashes S ms
hashes_in_turn S ms n h = record {
  each = λ i d l.
      let e = h i d (omega arith) in
      let f : (get_or ms i d).number ≡ i = ap (λ (z : NumberedHash). z.number) e in
      (omega arith, e ∙ ap (hash_numbered S) (sym f));
  all = λ i l. (i, omega arith, h i (hash_numbered S i) l);
}

-- and so they are in any other order
pub hashes_reordered : (S : List (List ℕ)) (ms ns : List NumberedHash) → IsPermutation ms ns
    → AreHashes S ms → AreHashes S ns
hashes_reordered S ms ns p h = record {
  each = All-permutation (λ m. (m.number < length S) × (m ≡ hash_numbered S m.number)) ms ns p
      h.each;
  all = λ i l. Contains-permutation ms ns (hash_numbered S i) p (h.all i l);
}
