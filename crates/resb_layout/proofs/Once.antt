-- A tree is laid out in one way.
use Rattle.std.proofs.Common.{ℕ, List, ◌∷◌, length}
use Rattle.std.proofs.Common.{◌≡◌, ◌<◌, ◌+◌, refl, sym, ◌∙◌, ap, subst, arith}
use Rattle.resb_tree.specs.Tree.{Tree, Trees, no_trees}
use Rattle.resb_layout.specs.Laid.{Given, Laid, here}
use Rattle.resb_layout.specs.Laid.{to_data, word_of_string}
use Rattle.resb_layout.specs.Laid.{ClosesArrayBy, short_array, long_array}
use Rattle.resb_layout.specs.Laid.{ClosesTableBy, short_table}
use Rattle.resb_layout.specs.Laid.{long_table, wide_table, LaysBy}
use Rattle.resb_layout.specs.Laid.{lays_integer, lays_string, lays_no_path, lays_path}
use Rattle.resb_layout.specs.Laid.{lays_no_bytes, lays_bytes}
use Rattle.resb_layout.specs.Laid.{lays_no_numbers, lays_numbers, lays_no_members, lays_members}
use Rattle.resb_layout.specs.Laid.{lays_no_entries, lays_entries, LaysEachBy, each_none, each_more}
use Rattle.resb_layout.specs.Laws.{OneLayout}
use Rattle.resb_layout.proofs.Numbers.{zero_not_positive, one_quarter, not_both}
use Rattle.resb_layout.proofs.Lists.{same_somes}
use Rattle.std.proofs.Common.{Option}
use Rattle.resb_layout.specs.Laid.{Lends}

-- no trees are laid to no words
pub none_inside : {lent : Option Lends} {g : Given} {s mid : Laid} {ws : List ℕ}
    → LaysEachBy lent g s no_trees mid ws
    → 0 < length ws → ⊥
none_inside each_none h = omega (arith, h)

once_array : {lent : Option Lends} {g : Given} {s : Laid} {ws : List ℕ} {a b : Laid} {v w : ℕ}
    → ClosesArrayBy lent g s ws a v
    → ClosesArrayBy lent g s ws b w → (a ≡ b) × (v ≡ w)
once_array (short_array h l) (short_array k m) = (refl, refl)
once_array {ws = ws} (short_array h l) (long_array at k e m n) = not_both _ h k
once_array (long_array at k e m n) (short_array h l) = not_both _ h k
once_array {lent = lent} {g = g} {s = s} (long_array at h e l n) (long_array at2 k f m o) =
    (refl, ap (λ i. 0x8000_0000 + i) (one_quarter (here g s) at at2 e f))

once_table : {lent : Option Lends} {g : Given} {s : Laid} {ps ws : List ℕ} {a b : Laid} {v w : ℕ}
    → ClosesTableBy lent g s ps ws a v → ClosesTableBy lent g s ps ws b w → (a ≡ b) × (v ≡ w)
once_table (short_table n h l) (short_table m k o) = (refl, refl)
once_table (short_table n h l) (long_table at m k e o) = not_both _ h k
once_table (short_table n h l) (wide_table at m e o q r) = not_both _ n m
once_table (long_table at m k e o) (short_table n h l) = not_both _ h k
once_table {lent = lent} {g = g} {s = s} (long_table at n h e l) (long_table at2 m k f o) =
    (refl, ap (λ i. 0x2000_0000 + i) (one_quarter (here g s) at at2 e f))
once_table (long_table at n h e l) (wide_table at2 m f o q r) = not_both _ n m
once_table (wide_table at m e o q r) (short_table n h l) = not_both _ n m
once_table (wide_table at2 m f o q r) (long_table at n h e l) = not_both _ n m
once_table {lent = lent} {g = g} {s = s} (wide_table at n e l q r) (wide_table at2 m f o t u) =
    (refl, ap (λ i. 0x4000_0000 + i) (one_quarter (here g s) at at2 e f))

mutual
  pub once : {lent : Option Lends} {g : Given} {s a b : Laid} {t : Tree} {v w : ℕ}
      → LaysBy lent g s t a v → LaysBy lent g s t b w
      → (a ≡ b) × (v ≡ w)
  once (lays_integer h) (lays_integer k) = (refl, refl)
  once {g = g'} (lays_string {k = m} h l) (lays_string {k = n} k o) = let e : m ≡ n =
      cc in (refl, ap (word_of_string g'.packing) e)
  once lays_no_path lays_no_path = (refl, refl)
  once lays_no_path (lays_path at some u n e l) = absurd (zero_not_positive some refl)
  once (lays_path at some u n e l) lays_no_path = absurd (zero_not_positive some refl)
  once {lent = lent} {g = g} {s = s} (lays_path at some u n e l) (lays_path at2 some2 u2 n2 f l2) =
      (refl, ap (λ i. 0x3000_0000 + i) (one_quarter (here g s) at at2 e f))
  once lays_no_bytes lays_no_bytes = (refl, refl)
  once lays_no_bytes (lays_bytes at some n e l) = absurd (zero_not_positive some refl)
  once (lays_bytes at some n e l) lays_no_bytes = absurd (zero_not_positive some refl)
  once {lent = lent} {g = g} {s = s} (lays_bytes at some n e l) (lays_bytes at2 some2 n2 f l2) =
      (refl, ap (λ i. 0x1000_0000 + i) (one_quarter (here g s + to_data (here g s)) at at2 e f))
  once lays_no_numbers lays_no_numbers = (refl, refl)
  once lays_no_numbers (lays_numbers at some n a e l) = absurd (zero_not_positive some refl)
  once (lays_numbers at some n a e l) lays_no_numbers = absurd (zero_not_positive some refl)
  once {lent = lent} {g = g} {s =
      s} (lays_numbers at some n a e l) (lays_numbers at2 some2 n2 a2 f l2) =
      (refl, ap (λ i. 0xe000_0000 + i) (one_quarter (here g s) at at2 e f))
  once lays_no_members lays_no_members = (refl, refl)
  once lays_no_members (lays_members k some c) = absurd (none_inside k some)
  once (lays_members k some c) lays_no_members = absurd (none_inside k some)
  once {lent = lent} {g = g} {b = b'} {w = w'} (lays_members {mid = m1} {ws =
      w1} h some c) (lays_members {mid =
      m2} {ws = w2} k some2 d) =
      let r = once_each h k in
      once_array c (subst (λ m. ClosesArrayBy lent g m w1 b' w') (sym r.0)
      (subst (λ ws. ClosesArrayBy lent g m2 ws b' w') (sym r.1) d))
  once lays_no_entries lays_no_entries = (refl, refl)
  once lays_no_entries (lays_entries ps p k some c) = absurd (none_inside k some)
  once (lays_entries ps p k some c) lays_no_entries = absurd (none_inside k some)
  once {lent = lent} {g = g} {b = b'} {w = w'} (lays_entries {mid = m1} {ws =
      w1} ps p h some c) (lays_entries {mid = m2} {ws = w2} qs q k some2 d) =
      let r = once_each h k in
      let e : qs ≡ ps = same_somes qs ps (sym q.positions ∙ p.positions) in
      once_table c (subst (λ rs. ClosesTableBy lent g m1 rs w1 b' w') e
      (subst (λ m. ClosesTableBy lent g m qs w1 b' w') (sym r.0)
      (subst (λ ws. ClosesTableBy lent g m2 qs ws b' w') (sym r.1) d)))

  pub once_each : {lent : Option Lends} {g : Given} {s a b : Laid} {vs ws : List ℕ} {ts : Trees}
      → LaysEachBy lent g s ts a vs
      → LaysEachBy lent g s ts b ws → (a ≡ b) × (vs ≡ ws)
  once_each each_none each_none = (refl, refl)
  once_each {lent = lent} {g = g} {b = b'} (each_more {w = v'} {ts = ts'} h k) (each_more {ws =
      ws'} {w =
      w'} h2 k2) =
      let r = once h h2 in
      let rest = once_each k (subst (λ m. LaysEachBy lent g m ts' b' ws') (sym r.0) k2) in
      (rest.0, λ i. r.1 i ∷ rest.1 i)

-- a tree is laid in one way at most
pub one_layout : OneLayout
one_layout lent g s a b t v w h k = once h k
