-- Strings and keys are read back in the blocks of a file, and what trees say of their laying order.
use Rattle.std.proofs.Common.{◌≡◌, ℕ, zero, suc, ◌+◌, ◌%◌, ◌^◌, ◌<◌, max, List, [], ◌∷◌, ◌++◌}
use Rattle.std.proofs.Common.{length, get_or, Some, None, option_and_then, Bool, true, false, cond}
use Rattle.std.proofs.Common.{◌==◌, refl, sym, ◌∙◌, ap, append_assoc, append-nil, length-append}
use Rattle.std.proofs.Common.{arith}
use Rattle.std.specs.Str.{IsUtf8}
use Rattle.std.proofs.lemmas.Str.{is_utf8-from_IsUtf8}
use Rattle.std.proofs.lemmas.List.{drop_at}
use Rattle.resb_tree.specs.Tree.{Tree, string, alias, array, table, binary, integer, int_vector}
use Rattle.resb_tree.specs.Tree.{Trees, no_trees, more_trees, Entries, no_entries, entry}
use Rattle.resb_tree.specs.Tree.{largest_table, trees_largest, entries_largest}
use Rattle.resb_format.specs.Strings.{key_at, before_zero, if_utf8}
use Rattle.resb_pool.proofs.Zeros.{has_zero, before_zero-found}
use Rattle.resb_layout.proofs.BytesLemmas.{EachBelow}
use Rattle.resb_tree.specs.LayingOrder.{laying_order, laying_each, laying_values}
use Rattle.resb_layout.specs.KeyBlock.{key_bytes, last_place}
use Rattle.resb_layout.specs.TreeFaults.{has_nul}
use Rattle.resb_layout.specs.Written.{even}
use Rattle.resb_write.specs.Inner.Gathered.{largest_of}
use Rattle.resb_write.proofs.Keys.{last_of-stands, StandsAt}

pub key_at-found : (front k rest : List ℕ) → IsUtf8 k → has_zero k ≡ false
    → key_at (front ++ (k ++ 0 ∷ rest)) (length front) ≡ Some k
unfolding key_at
key_at-found front k rest u z =
    ap (λ l. option_and_then if_utf8 (before_zero l)) (drop_at front (k ++ 0 ∷ rest) (length front)
    refl)
    ∙ ap (option_and_then if_utf8) (before_zero-found k rest z)
    ∙ ap (λ b. cond b (Some k) None) (is_utf8-from_IsUtf8 k u)

-- a key is read where it stands
pub key_read_at : (start : ℕ) (head pad bytes : List ℕ) → length head ≡ start
    → (k : List ℕ) (n : ℕ) → StandsAt bytes k n → IsUtf8 k → has_nul k ≡ false
    → key_at (head ++ (bytes ++ pad)) (start + n) ≡ Some k
key_read_at start head pad bytes front k n s u z =
    let f : head ++ (bytes ++ pad) ≡ (head ++ s.front) ++ (k ++ 0 ∷ (s.back ++ pad)) =
    ap (λ l. head ++ (l ++ pad)) s.is
    ∙ ap (λ l. head ++ l) (append_assoc s.front (k ++ 0 ∷ s.back) pad
    ∙ ap (λ l. s.front ++ l) (append_assoc k (0 ∷ s.back) pad))
    ∙ sym (append_assoc head s.front (k ++ 0 ∷ (s.back ++ pad))) in
    let at : start + n ≡ length (head ++ s.front) =
    omega (arith, front, s.place, length-append head s.front) in
    (λ i. key_at (f i) (at i)) ∙ key_at-found (head ++ s.front) k (s.back ++ pad) u z

-- so is one at its last place
pub written_key_read : (start : ℕ) (head pad : List ℕ) (js : List (List ℕ)) → length head ≡ start
    → (k : List ℕ) (n : ℕ)
    → last_place k js ≡ Some n → IsUtf8 k → has_nul k ≡ false
    → key_at (head ++ (key_bytes js ++ pad)) (start + n) ≡ Some k
written_key_read start head pad js front k n e u z =
    key_read_at start head pad (key_bytes js) front k n (last_of-stands k js n e) u z

-- the even block
pub even_is : (us : List ℕ) → (pad : List ℕ) × (even us ≡ us ++ pad)
even_is us = by (length us % 2 == 1)
  where
    by : (c : Bool) → (pad : List ℕ) × (cond c (us ++ 0xaaaa ∷ []) us ≡ us ++ pad)
    by true = (0xaaaa ∷ [], refl)
    by false = ([], sym (append-nil us))

pub even_long : (us : List ℕ) → length (even us) ≡ length us + length us % 2
even_long us = by (length us % 2) refl
  where
    by : (n : ℕ) → length us % 2 ≡ n → length (cond (n == 1) (us ++ 0xaaaa ∷ []) us) ≡ length us + n
    by zero e = omega arith
    by (suc zero) e = length-append us (0xaaaa ∷ [])
    by (suc (suc n)) e = absurd (omega (arith, e))

pub each_below : (n : ℕ) (us : List ℕ) → ((k : ℕ) → get_or us k 0 < n) → EachBelow n us
each_below n [] h = tt
each_below n (u ∷ us) h = (h 0, each_below n us (λ k. h (suc k)))

pub below_even : (us : List ℕ) → EachBelow (2 ^ 16) us → EachBelow (2 ^ 16) (even us)
below_even us h = by (length us % 2 == 1)
  where
    push : (vs : List ℕ) → EachBelow (2 ^ 16) vs → EachBelow (2 ^ 16) (vs ++ 0xaaaa ∷ [])
    push [] e = (omega arith, tt)
    push (v ∷ vs) e = (e.0, push vs e.1)

    by : (c : Bool) → EachBelow (2 ^ 16) (cond c (us ++ 0xaaaa ∷ []) us)
    by true = push us h
    by false = h

largest-append : (ts us : List Tree) → largest_of (ts ++ us) ≡ max (largest_of ts) (largest_of us)
largest-append [] us = omega arith
largest-append (t ∷ ts) us = omega (arith, largest-append ts us)

mutual
  -- the largest table of a tree is the largest in its laying order
  pub largest_laid : (t : Tree) → largest_of (laying_order t) ≡ largest_table t
  largest_laid (string s) = refl
  largest_laid (alias s) = refl
  largest_laid (array ts) = omega (
    arith,
    largest-append (laying_each ts) (array ts ∷ []),
    largest_each ts,
  )
  largest_laid (table es) = omega (
    arith,
    largest-append (laying_values es) (table es ∷ []),
    largest_values es,
  )
  largest_laid (binary s) = refl
  largest_laid (integer n) = refl
  largest_laid (int_vector s) = refl

  largest_each : (ts : Trees) → largest_of (laying_each ts) ≡ trees_largest ts
  largest_each no_trees = refl
  largest_each (more_trees t ts) = omega (
    arith,
    largest-append (laying_order t) (laying_each ts),
    largest_laid t,
    largest_each ts,
  )

  largest_values : (es : Entries) → largest_of (laying_values es) ≡ entries_largest es
  largest_values no_entries = refl
  largest_values (entry k t es) = omega (
    arith,
    largest-append (laying_order t) (laying_values es),
    largest_laid t,
    largest_values es,
  )

-- there is a resource in the laying order of each tree
pub laying_order_long : (t : Tree) → 0 < length (laying_order t)
laying_order_long (string s) = omega arith
laying_order_long (alias s) = omega arith
laying_order_long (array ts) = omega (arith, length-append (laying_each ts) (array ts ∷ []))
laying_order_long (table es) = omega (arith, length-append (laying_values es) (table es ∷ []))
laying_order_long (binary s) = omega arith
laying_order_long (integer n) = omega arith
laying_order_long (int_vector s) = omega arith
