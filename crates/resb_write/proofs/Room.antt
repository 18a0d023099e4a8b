-- What a small plain size says: no fault of sizes, and room for the pool and the bodies.
use Rattle.std.proofs.Common.{◌||◌, ◌≡◌, ℕ, ◌+◌, ◌-◌, ◌*◌, ◌%◌, ◌^◌, ◌<◌, ◌≤◌, List, [], ◌∷◌, ◌++◌}
use Rattle.std.proofs.Common.{length, Option, Some, None, Bool, true, false, cond, nat_le}
use Rattle.std.proofs.Common.{replicate, refl, sym, ◌∙◌, ap, length-append, arith}
use Rattle.std.specs.List.{list_any, flat_map, sum_by}
use Rattle.std.proofs.lemmas.Bool.{le-leb, le-ltb}
use Rattle.std.proofs.lemmas.List.{length-replicate}
use Rattle.std.proofs.lemmas.List.Sums.{sum_by-append, sum_by-cons}
use Rattle.resb_tree.specs.Tree.{Tree, string, alias, array, table, binary, integer, int_vector}
use Rattle.resb_format.specs.Units.{units, size}
use Rattle.resb_pool.specs.declared.packing.Packing.{Packing}
use Rattle.resb_pool.specs.Plan.{first_too_long, texts_size, IsPlanAmong}
use Rattle.resb_pool.proofs.Least.{into_least}
use Rattle.resb_pool.proofs.InOrder.{length-records}
use Rattle.resb_pool.proofs.Sizes.{marker_le}
use Rattle.resb_tree.specs.LayingOrder.{text_in, array_members}
use Rattle.resb_write.specs.Inner.Room.{most_units, most_bytes}
use Rattle.resb_layout.specs.KeyBlock.{key_bytes, padded, used, is_among}
use Rattle.resb_layout.specs.PlainSize.{held_size, resources_size, list_size}
use Rattle.resb_layout.specs.TreeFaults.{is_over_32_bits}
use Rattle.resb_write.specs.Inner.Sizes.{size_fault}
use Rattle.resb_write.proofs.FaultsLemmas.{no_size_fault}

texts_cons : (s : List ℕ) (ss : List (List ℕ))
    → texts_size (s ∷ ss) ≡ 16 + length (units s) + texts_size ss
texts_cons s ss = sum_by-cons (λ (r : List ℕ). 16 + length (units r)) s ss

size_cons : (t : Tree) (ts : List Tree)
    → resources_size (t ∷ ts) ≡ 16 + held_size t + resources_size ts
size_cons t ts = sum_by-cons (λ (u : Tree). 16 + held_size u) t ts

pub texts_within : (ts : List Tree) → texts_size (flat_map text_in ts) ≤ resources_size ts
texts_within [] = omega arith
texts_within (t ∷ ts) = omega (arith, by t, size_cons t ts, texts_within ts)
  where
    by : (u : Tree) → texts_size (text_in u ++ flat_map text_in ts) ≤ 16 + held_size u + texts_size
        (flat_map text_in ts)
    by (string s) = omega (arith, texts_cons s (flat_map text_in ts))
    by (alias s) = omega arith
    by (array us) = omega arith
    by (table es) = omega arith
    by (binary s) = omega arith
    by (integer n) = omega arith
    by (int_vector ns) = omega arith

pub small_texts_fit : (ss : List (List ℕ)) → texts_size ss < 2 ^ 28 → first_too_long ss ≡ None
small_texts_fit [] h = refl
small_texts_fit (s ∷ ss) h =
    let e = texts_cons s ss in
    let f : nat_le (length (units s)) 4294967295 ≡ true =
    le-leb (length (units s)) 4294967295 (omega (arith, e, h)) in
    ap (λ b. cond b (first_too_long ss) (Some (length (units s)))) f
    ∙ small_texts_fit ss (omega (arith, e, h))

none_over : (ts : List Tree) → resources_size ts < 2 ^ 28 → list_any is_over_32_bits ts ≡ false
none_over [] h = refl
none_over (t ∷ ts) h =
    let e = size_cons t ts in
    let f : is_over_32_bits t ≡ false = by t (omega (arith, e, h)) in
    ap (λ b. b || list_any is_over_32_bits ts) f ∙ none_over ts (omega (arith, e, h))
  where
    by : (u : Tree) → held_size u < 2 ^ 28 → is_over_32_bits u ≡ false
    by (string s) l = refl
    by (alias s) l = le-ltb 4294967295 (length (units s)) (omega (arith, l))
    by (array us) l = le-ltb 4294967295 (length (array_members us)) (omega (arith, l))
    by (table es) l = refl
    by (binary s) l = le-ltb 4294967295 (length s) (omega (arith, l))
    by (integer n) l = refl
    by (int_vector ns) l = le-ltb 4294967295 (length ns) (omega (arith, l))

pub small_sizes : (ts : List Tree) → resources_size ts < 2 ^ 28 → size_fault ts ≡ None
small_sizes ts h = no_size_fault ts (small_texts_fit (flat_map text_in ts)
    (omega (arith, texts_within ts, h))) (none_over ts h)

-- the pool has at most a record of each text, and unit 0
pub pool_room : (w : Packing) {A : List ℕ → Type 0} (S : List (List ℕ)) (us : List ℕ)
    (offset : List ℕ → Option ℕ) → IsPlanAmong w A S us offset
    → length us ≤ 1 + sum_by size S
pool_room w S us offset p =
    let e = ap length p.pool.units in
    let q : sum_by size p.records ≤ sum_by size S = into_least size (λ a b. a ≡ b) (λ a b r f g. f
    ∙ sym g) p.records S p.pool.records.once
    (λ s c. (s, ((p.pool.records.just s).0 c).given, refl, omega arith)) in
    omega (arith, e, length-records p.records, q)

sizes_cons : (t : Tree) (ts : List Tree) → sum_by size (flat_map text_in (t ∷ ts)) ≡ sum_by size
    (text_in t) + sum_by size (flat_map text_in ts)
sizes_cons t ts = sum_by-append size (text_in t) (flat_map text_in ts)

one_size : (s : List ℕ) → sum_by size (s ∷ []) ≤ length (units s) + 4
one_size s = omega (arith, sum_by-cons size s [], marker_le s)

-- the records and the short bodies
pub units_room : (ts : List Tree) → sum_by size (flat_map text_in ts) + sum_by most_units ts + 11 *
    length ts ≤ resources_size ts
units_room [] = omega arith
units_room (t ∷ ts) = omega (
  arith,
  by t,
  sizes_cons t ts,
  size_cons t ts,
  sum_by-cons most_units t ts,
  units_room ts,
)
  where
    by : (u : Tree) → sum_by size (text_in u) + most_units u + 11 ≤ 16 + held_size u
    by (string s) = omega (arith, one_size s)
    by (alias s) = omega arith
    by (array us) = omega arith
    by (table es) = omega arith
    by (binary s) = omega arith
    by (integer n) = omega arith
    by (int_vector ns) = omega arith

-- and the other bodies
pub bytes_room : (ts : List Tree)
    → 2 * (2 * (sum_by size (flat_map text_in ts) + sum_by most_units ts) + sum_by most_bytes ts) ≤
    7 * resources_size ts
bytes_room [] = omega arith
bytes_room (t ∷ ts) = omega (
  arith,
  by t,
  sizes_cons t ts,
  size_cons t ts,
  sum_by-cons most_units t ts,
  sum_by-cons most_bytes t ts,
  bytes_room ts,
)
  where
    by : (u : Tree) → 2 * (2 * (sum_by size (text_in u) + most_units u) + most_bytes u) ≤ 7 *
        (16 + held_size u)
    by (string s) = omega (arith, one_size s)
    by (alias s) = omega arith
    by (array us) = omega arith
    by (table es) = omega arith
    by (binary s) = omega arith
    by (integer n) = omega arith
    by (int_vector ns) = omega arith

-- the used keys take no more room than those that are listed
pub used_room : (us ks : List (List ℕ)) → length (key_bytes (used us ks)) ≤ list_size ks
used_room us [] = omega arith
used_room us (k ∷ ks) = omega (
  arith,
  by_test (is_among us k),
  used_room us ks,
  sum_by-cons (λ (x : List ℕ). length x + 1) k ks,
)
  where
    by_test : (b : Bool) → length (key_bytes (cond b (k ∷ used us ks) (used us ks))) ≤ length k + 1
        + length (key_bytes (used us ks))
    by_test true = omega (
      arith,
      length-append (k ++ 0 ∷ []) (key_bytes (used us ks)),
      length-append k (0 ∷ []),
    )
    by_test false = omega arith

pub length-padded : (bytes : List ℕ) → length (padded bytes) ≡ length bytes + (4 - length bytes % 4)
    % 4
length-padded bytes =
    length-append bytes (replicate ((4 - length bytes % 4) % 4) 0xaa)
    ∙ ap (λ n. length bytes + n) (length-replicate ((4 - length bytes % 4) % 4) 0xaa)
