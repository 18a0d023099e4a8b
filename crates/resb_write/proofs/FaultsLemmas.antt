-- Which fault is the first.
use Rattle.std.proofs.Common.{◌≡◌, ℕ, ◌+◌, ◌^◌, List, [], ◌∷◌, Bor, Option, Some, None, option_map}
use Rattle.std.proofs.Common.{Bool, true, false, cond, ◌||◌, nat_le, nat_lt, unwrap_or, codes, refl}
use Rattle.std.proofs.Common.{sym, ◌∙◌, ap, arith}
use Rattle.std.specs.List.{list_any, flat_map}
use Rattle.std.specs.Option.{is_none, option_or}
use Rattle.std.proofs.lemmas.Bool.Decides.{nat_tests}
use Rattle.resb_tree.specs.Tree.{Tree}
use Rattle.resb_layout.specs.WritingFault.{string_too_long, unexpected, limit}
use Rattle.resb_pool.specs.Plan.{nows, first_too_long}
use Rattle.resb_tree.specs.LayingOrder.{text_in}
use Rattle.resb_layout.specs.KeyBlock.{last_place, keys_start}
use Rattle.resb_layout.specs.TreeFaults.{has_nul, is_unlisted, is_far, key_fault, is_over_32_bits}
use Rattle.resb_layout.specs.TreeFaults.{count_fault}
use Rattle.resb_write.specs.Inner.NearPositions.{near_position, near_position_in}
use Rattle.resb_write.specs.Inner.Sizes.{size_fault}

-- a test of texts behind references
pub any_now : (p : List ℕ → Bool) (xs : List (Bor (List ℕ)))
    → list_any (λ x. p x.now) xs ≡ list_any p (nows xs)
any_now p [] = refl
any_now p (x ∷ xs) = ap (λ b. p x.now || b) (any_now p xs)

unlisted_near : (o : Option ℕ) → is_none (option_map near_position o) ≡ is_none
    (option_map (λ n. keys_start + n) o)
unlisted_near None = refl
unlisted_near (Some n) = refl

far_near : (o : Option ℕ) → nat_lt 2147483647 (unwrap_or (option_map near_position o) 0) ≡ nat_lt
    2147483647 (unwrap_or (option_map (λ n. keys_start + n) o) 0)
far_near None = refl
far_near (Some n) = same (nat_le (2 ^ 32) (32 + n)) refl
  where
    same : (b : Bool) → nat_le (2 ^ 32) (32 + n) ≡ b
        → nat_lt 2147483647 (near_position n) ≡ nat_lt 2147483647 (32 + n)
    same true e = grind (arith, nat_tests)
    same false e = grind (arith, nat_tests)

module _ (us js : List (List ℕ)) where
  unlisted_is : list_any (λ k. is_none (near_position_in js k)) us ≡ list_any (is_unlisted js) us
  unlisted_is = λ i. list_any (λ k. unlisted_near (last_place k js) i) us

  far_is : list_any (λ k. nat_lt 2147483647 (unwrap_or (near_position_in js k) 0)) us ≡ list_any
      (is_far js) us
  far_is = λ i. list_any (λ k. far_near (last_place k js) i) us

  pub unlisted_fault : list_any (λ k. is_none (near_position_in js k)) us ≡ true
      → key_fault us js ≡ Some (unexpected (codes "key not present in position map"))
  unlisted_fault e = let h = sym unlisted_is ∙ e in rw h refl

  module _ (listed : list_any (λ k. is_none (near_position_in js k)) us ≡ false) where
    all_listed : list_any (is_unlisted js) us ≡ false
    all_listed = sym unlisted_is ∙ listed

    pub nul_fault : list_any has_nul us ≡ true
        → key_fault us js ≡ Some (unexpected (codes "key contains U+0000"))
    nul_fault e = rw (all_listed, e) refl

    module _ (no_nul : list_any has_nul us ≡ false) where
      pub far_fault : list_any (λ k. nat_lt 2147483647 (unwrap_or (near_position_in js k) 0)) us ≡
          true
          → key_fault us js ≡ Some (limit (codes "key position over 2147483647"))
      far_fault e = let h = sym far_is ∙ e in rw (all_listed, no_nul, h) refl

      pub no_key_fault : list_any (λ k. nat_lt 2147483647 (unwrap_or (near_position_in js k) 0)) us
          ≡ false → key_fault us js ≡ None
      no_key_fault e = let h = sym far_is ∙ e in rw (all_listed, no_nul, h) refl

module _ (ts : List Tree) where
  pub long_fault : (n : ℕ) → first_too_long (flat_map text_in ts) ≡ Some n
      → size_fault ts ≡ Some (string_too_long n)
  long_fault n e = ap (λ o. option_or (option_map string_too_long o) (count_fault ts)) e

  pub over_fault : first_too_long (flat_map text_in ts) ≡ None → list_any is_over_32_bits ts ≡ true
      → size_fault ts ≡ Some (limit (codes "count over 32 bits"))
  over_fault e h = ap (λ o. option_or (option_map string_too_long o) (count_fault ts)) e
      ∙ ap (λ b. cond b (Some (limit (codes "count over 32 bits"))) None) h

  pub no_size_fault : first_too_long (flat_map text_in ts) ≡ None
      → list_any is_over_32_bits ts ≡ false → size_fault ts ≡ None
  no_size_fault e h = ap (λ o. option_or (option_map string_too_long o) (count_fault ts)) e
      ∙ ap (λ b. cond b (Some (limit (codes "count over 32 bits"))) None) h
