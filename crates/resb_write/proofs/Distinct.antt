-- Keys and the distinct ones among them have the same faults.
use Rattle.std.proofs.Common.{◌≡◌, ℕ, zero, suc, List, [], ◌∷◌, Bool, true, false}
use Rattle.std.proofs.Common.{cond}
use Rattle.std.proofs.Common.{Bor, Some, None, is_some, ◌↔◌, refl, sym, ◌∙◌, ap}
use Rattle.std.proofs.Common.{subst}
use Rattle.std.proofs.Common.{arith, true≢false}
use Rattle.std.specs.List.{Contains, list_any}
use Rattle.std.specs.Map.{lookup, keys_of}
use Rattle.std.specs.Str.{bytes_eq}
use Rattle.std.specs.Cmp.Lexicographic.{bytes_decides}
use Rattle.resb_tree.specs.Keys.{same_text}
use Rattle.resb_pool.specs.Plan.{nows}
use Rattle.resb_layout.specs.WritingFault.{unexpected, limit}
use Rattle.resb_pool.proofs.TextLists.{TextList}
use Rattle.resb_layout.specs.KeyBlock.{is_among}
use Rattle.resb_layout.specs.TreeFaults.{is_unlisted, is_far, has_nul, key_fault}
use Rattle.std.specs.Prelude.{codes}
use Rattle.resb_write.proofs.Lists.{any_member, member_any}

any_same : (f : List ℕ → Bool) (us ws : TextList) → ((q : List ℕ) → Contains us q ↔ Contains ws q)
    → list_any f us ≡ list_any f ws
any_same f us ws h = by (list_any f us) (list_any f ws) refl refl
  where
    by : (a b : Bool) → list_any f us ≡ a → list_any f ws ≡ b → a ≡ b
    by true true e g = refl
    by false false e g = refl
    by true false e g =
        let r = any_member f us e in
        absurd (true≢false (sym (member_any f ws r.0 ((h r.0).0 r.1) r.2) ∙ g))
    by false true e g =
        let r = any_member f ws g in
        absurd (true≢false (sym (member_any f us r.0 ((h r.0).1 r.1) r.2) ∙ e))

-- three tests in a row
pub fault_same : (us ws : TextList) → ((q : List ℕ) → Contains us q ↔ Contains ws q)
    → (js : TextList)
    → key_fault us js ≡ key_fault ws js
fault_same us ws h js i =
    cond (any_same (is_unlisted js) us ws h i)
    (Some (unexpected (codes "key not present in position map")))
    (cond (any_same has_nul us ws h i) (Some (unexpected (codes "key contains U+0000")))
    (cond (any_same (is_far js) us ws h i) (Some (limit (codes "key position over 2147483647")))
    None))

among_contains : (us : TextList) (q : List ℕ) → is_among us q ≡ true → Contains us q
among_contains us q e =
    let r = any_member (same_text q) us e in
    subst (Contains us) (sym ((bytes_decides q r.0).0 r.2)) r.1

pub contains_among : (us : TextList) (q : List ℕ) → Contains us q → is_among us q ≡ true
contains_among us q c = member_any (same_text q) us q c ((bytes_decides q q).1 refl)

module _ {V : Type 0} (q : List ℕ) where
  key_found : (es : List (Bor (List ℕ) × V)) → is_some (lookup (λ k. bytes_eq q k.now) es) ≡ true
      → Contains (nows (keys_of es)) q
  key_found [] h = absurd (true≢false (sym h))
  key_found (e ∷ es) h = by (key_found es) (bytes_eq q e.0.now) refl
    where
      by : (is_some (lookup (λ k. bytes_eq q k.now) es) ≡ true → Contains (nows (keys_of es)) q)
          → (b : Bool) → bytes_eq q e.0.now ≡ b → Contains (nows (keys_of (e ∷ es))) q
      by rest true g = (0, omega arith, sym ((bytes_decides q e.0.now).0 g))
      by rest false g =
          let same = ap (λ b. is_some (cond b (Some e.1) (lookup (λ k. bytes_eq q k.now) es))) g in
          let r = rest (sym same ∙ h) in
          (suc r.0, omega (arith, r.1), r.2)

  found_key : (es : List (Bor (List ℕ) × V)) → Contains (nows (keys_of es)) q
      → is_some (lookup (λ k. bytes_eq q k.now) es) ≡ true
  found_key [] c = absurd (omega (arith, c.1))
  found_key (e ∷ es) (zero, lt, is) =
      let g = (bytes_decides q e.0.now).1 (sym is) in
      ap (λ b. is_some (cond b (Some e.1) (lookup (λ k. bytes_eq q k.now) es))) g
  found_key (e ∷ es) (suc i, lt, is) =
      by (bytes_eq q e.0.now) (found_key es (i, omega (arith, lt), is))
    where
      by : (b : Bool) → is_some (lookup (λ k. bytes_eq q k.now) es) ≡ true
          → is_some (cond b (Some e.1) (lookup (λ k. bytes_eq q k.now) es)) ≡ true
      by true g = refl
      by false g = g

-- the keys of a map that has the keys us
pub same_keys : {V : Type 0} (es : List (Bor (List ℕ) × V)) (us : TextList)
    → ((q : List ℕ) → is_some (lookup (λ k. bytes_eq q k.now) es) ≡ is_among us q) → (q : List ℕ)
    → Contains (nows (keys_of es)) q ↔ Contains us q
same_keys es us h q = (
  λ c. among_contains us q (sym (h q) ∙ found_key q es c),
  λ c. key_found q es (h q ∙ contains_among us q c),
)
