-- Where each key of a tree is listed, no key is refused as unlisted.
use Rattle.std.proofs.Common.{◌≡◌, ℕ, zero, suc, ◌+◌, List, [], ◌∷◌, ◌++◌, length}
use Rattle.std.proofs.Common.{Option, Some, None, option_map, Bool, true, false, cond, codes}
use Rattle.std.proofs.Common.{refl, sym, ◌∙◌, ap, subst, append-nil, ⊎_elim, arith}
use Rattle.std.specs.List.{Contains, list_any, flat_map}
use Rattle.std.specs.Option.{is_none, option_or}
use Rattle.std.specs.Cmp.Lexicographic.{bytes_decides}
use Rattle.std.proofs.lemmas.Bool.{or_left, or_right, true≢false}
use Rattle.resb_tree.specs.Tree.{Tree, string, alias, array, table, binary, integer, int_vector}
use Rattle.resb_tree.specs.Tree.{Trees, no_trees, more_trees, Entries, no_entries, entry}
use Rattle.resb_tree.specs.Keys.{same_text, is_key, is_key_in, is_key_of}
use Rattle.resb_layout.specs.WritingFault.{WritingFault, string_too_long, unexpected, limit}
use Rattle.resb_layout.specs.WritingFault.{out_of_memory}
use Rattle.resb_pool.specs.Plan.{first_too_long}
use Rattle.resb_tree.specs.LayingOrder.{entry_keys}
use Rattle.resb_tree.specs.LayingOrder.{laying_order, laying_each, laying_values, texts_of}
use Rattle.resb_layout.specs.KeyBlock.{is_among, used, last_place}
use Rattle.resb_tree.specs.LayingOrder.{own_keys, keys_of}
use Rattle.resb_layout.specs.KeyBlock.{keys_start}
use Rattle.resb_layout.specs.TreeFaults.{has_nul, is_unlisted, is_far, is_over_32_bits}
use Rattle.resb_layout.specs.TreeFaults.{tree_fault}
use Rattle.resb_write.proofs.Keys.{no_place}
use Rattle.resb_write.proofs.Distinct.{contains_among}
use Rattle.std.proofs.lemmas.List.Elements.{Contains-append_cases}
use Rattle.std.proofs.lemmas.Grind.{flat_map-append}
use Rattle.resb_write.proofs.Lists.{contained-filter, any_member}

contained_own : (k : List ℕ) (es : Entries) → Contains (entry_keys es) k → is_key_of k es ≡ true
contained_own k no_entries h = absurd (omega (arith, h.1))
contained_own k (entry j t es) (zero, lt, is) =
    or_left _ _ (or_left (same_text k j) (is_key k t) ((bytes_decides k j).1 (sym is)))
contained_own k (entry j t es) (suc i, lt, is) =
    or_right _ _ (contained_own k es (i, omega arith, is))

mutual
  pub contained_is_key : (k : List ℕ) (t : Tree) → Contains (keys_of t) k → is_key k t ≡ true
  contained_is_key k (string s) h = absurd (omega (arith, h.1))
  contained_is_key k (array ts) h =
      ⊎_elim (λ g. contained_each k ts g) (λ g. absurd (omega (arith, g.1)))
      (Contains-append_cases (flat_map own_keys (laying_each ts)) [] k
      (subst (λ l. Contains l k) (flat_map-append own_keys (laying_each ts) (array ts ∷ [])) h))
  contained_is_key k (table es) h =
      ⊎_elim (λ g. contained_values k es g)
      (λ g. contained_own k es (subst (λ l. Contains l k) (append-nil (entry_keys es)) g))
      (Contains-append_cases (flat_map own_keys (laying_values es)) (entry_keys es ++ []) k
      (subst (λ l. Contains l k) (flat_map-append own_keys (laying_values es) (table es ∷ [])) h))
  contained_is_key k (alias s) h = absurd (omega (arith, h.1))
  contained_is_key k (binary s) h = absurd (omega (arith, h.1))
  contained_is_key k (integer n) h = absurd (omega (arith, h.1))
  contained_is_key k (int_vector s) h = absurd (omega (arith, h.1))

  contained_each : (k : List ℕ) (ts : Trees) → Contains (flat_map own_keys (laying_each ts)) k
      → is_key_in k ts ≡ true
  contained_each k no_trees h = absurd (omega (arith, h.1))
  contained_each k (more_trees t ts) h =
      ⊎_elim (λ g. or_left _ _ (contained_is_key k t g))
      (λ g. or_right _ _ (contained_each k ts g))
      (Contains-append_cases (keys_of t) (flat_map own_keys (laying_each ts)) k
      (subst (λ l. Contains l k) (flat_map-append own_keys (laying_order t) (laying_each ts)) h))

  contained_values : (k : List ℕ) (es : Entries) → Contains (flat_map own_keys (laying_values es)) k
      → is_key_of k es ≡ true
  contained_values k no_entries h = absurd (omega (arith, h.1))
  contained_values k (entry j t es) h =
      ⊎_elim (λ g. or_left _ _ (or_right (same_text k j) _ (contained_is_key k t g)))
      (λ g. or_right _ _ (contained_values k es g))
      (Contains-append_cases (keys_of t) (flat_map own_keys (laying_values es)) k
      (subst (λ l. Contains l k) (flat_map-append own_keys (laying_order t) (laying_values es)) h))

-- the length of what is said, where a tree and keys don't belong together
said : WritingFault → ℕ
said (unexpected message) = length message
said (string_too_long n) = 0
said (limit message) = 0
said out_of_memory = 0

module _ (t : Tree) (ks : List (List ℕ)) (listed : (k : List ℕ) → is_key k t ≡ true
    → Contains ks k) where
  us : List (List ℕ)
  us = keys_of t

  js : List (List ℕ)
  js = used (keys_of t) ks

  placed : (k : List ℕ) → Contains us k → is_unlisted js k ≡ true → ⊥
  unfolding us js
  placed k c e = by (last_place k js) refl e
    where
      by : (o : Option ℕ) → last_place k (used (keys_of t) ks) ≡ o
          → is_none (option_map (λ n. keys_start + n) o) ≡ true → ⊥
      by None h e = no_place k (used (keys_of t) ks) h (contained-filter (is_among (keys_of t)) ks k
          (contains_among (keys_of t) k c) (listed k (contained_is_key k t c)))
      by (Some n) h e = true≢false (sym e)

  all_listed : list_any (is_unlisted js) us ≡ false
  all_listed = by (list_any (is_unlisted js) us) refl
    where
      by : (b : Bool) → list_any (is_unlisted js) us ≡ b → list_any (is_unlisted js) us ≡ false
      by false e = e
      by true e = (let m = any_member (is_unlisted js) us e in absurd (placed m.0 m.1 m.2))

  -- what the fault says, if it is none of that a key isn't listed
  later_faults : (a b c d : Bool) (long : Option ℕ) (f : WritingFault) → a ≡ false
      → option_or (cond a (Some (unexpected (codes "key not present in position map")))
      (cond b (Some (unexpected (codes "key contains U+0000")))
      (cond c (Some (limit (codes "key position over 2147483647"))) None)))
      (option_or (option_map string_too_long long)
      (cond d (Some (limit (codes "count over 32 bits"))) None)) ≡ Some f
      → f ≡ unexpected (codes "key not present in position map") → ⊥
  unfolding said
  later_faults true b c d long f e h q = true≢false e
  later_faults false true c d long f e h q = (let g : unexpected (codes "key contains U+0000") ≡ f =
      cc in let n : ◌≡◌ {A = ℕ} 19 31 = ap said (g ∙ q) in absurd (omega (arith, n)))
  later_faults false false true d long f e h q =
      (let g : limit (codes "key position over 2147483647") ≡ f = cc in let n : ◌≡◌ {A = ℕ} 0 31 =
      ap said (g ∙ q) in absurd (omega (arith, n)))
  later_faults false false false d (Some k) f e h q = (let g : string_too_long k ≡ f = cc in
      let n : ◌≡◌ {A = ℕ} 0 31 = ap said (g ∙ q) in absurd (omega (arith, n)))
  later_faults false false false true None f e h q =
      (let g : limit (codes "count over 32 bits") ≡ f = cc in let n : ◌≡◌ {A = ℕ} 0 31 =
      ap said (g ∙ q) in absurd (omega (arith, n)))
  later_faults false false false false None f e h q = (let g : None ≡ Some f = h in cc)

  -- where each used key is listed, the first fault is no unlisted key
  pub not_unlisted : (f : WritingFault) → tree_fault t ks ≡ Some f
      → f ≡ unexpected (codes "key not present in position map") → ⊥
  unfolding us js
  not_unlisted f h q =
      later_faults (list_any (is_unlisted js) us) (list_any has_nul us) (list_any (is_far js) us)
      (list_any is_over_32_bits (laying_order t)) (first_too_long (texts_of t)) f all_listed h q

  -- want of memory is another refusal than an unlisted key
  pub not_memory : out_of_memory ≡ unexpected (codes "key not present in position map") → ⊥
  unfolding said
  not_memory q = (let n : ◌≡◌ {A = ℕ} 0 31 = ap said q in absurd (omega (arith, n)))

  -- a file too large is another refusal than an unlisted key
  pub not_large : limit (codes "file too large") ≡ unexpected
      (codes "key not present in position map") → ⊥
  unfolding said
  not_large q = (let n : ◌≡◌ {A = ℕ} 0 31 = ap said q in absurd (omega (arith, n)))
