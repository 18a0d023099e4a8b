-- The units that a tree takes don't depend on where the tail begins.
use Rattle.std.proofs.Common.{ℕ, suc, List, [], ◌∷◌, ◌++◌, map, Option, Some, None, true, false}
use Rattle.std.proofs.Common.{◌&&◌}
use Rattle.std.proofs.Common.{length, ◌≡◌, ◌<◌, ◌+◌, refl, sym, ◌∙◌, ap, subst, arith, nat_le}
use Rattle.std.specs.List.{list_all}
use Rattle.std.proofs.lemmas.Bool.{lt-leb, and_left, and_right, and_parts, ne_eqb}
use Rattle.std.proofs.Common.{Bool, ◌||◌, ◌==◌}
use Rattle.resb_layout.specs.Laid.{word_of_string}
use Rattle.resb_tree.specs.Tree.{Tree, Trees}
use Rattle.resb_layout.specs.Laid.{Given, Lends, Laid, is_short_by, are_short_by, are_near}
use Rattle.resb_layout.specs.Laid.{nears_by}
use Rattle.resb_layout.specs.Laid.{offsets_by, ClosesArrayBy, short_array, long_array}
use Rattle.resb_layout.specs.Laid.{ClosesTableBy, short_table, long_table, wide_table, ArePlaced}
use Rattle.resb_layout.specs.Laid.{LaysBy, lays_integer}
use Rattle.resb_tree.specs.LayingOrder.{entry_keys}
use Rattle.resb_layout.specs.Laid.{lays_string, lays_no_path, lays_path, lays_no_bytes}
use Rattle.resb_layout.specs.Laid.{lays_bytes, lays_no_numbers}
use Rattle.resb_layout.specs.Laid.{lays_numbers, lays_no_members, lays_members, lays_no_entries}
use Rattle.resb_layout.specs.Laid.{lays_entries, LaysEachBy, each_none, each_more}
use Rattle.resb_layout.proofs.Once.{none_inside}
use Rattle.resb_layout.proofs.Denoted.{all_short}
use Rattle.resb_write.specs.Laws.{OneBlock}
use Rattle.resb_layout.proofs.Numbers.{zero_not_positive, not_both}
use Rattle.resb_layout.proofs.Lists.{same_somes}

-- words that are the same, or neither a short string's
pub data Alike (lent : Option Lends) (v w : ℕ) : Type 0 where
  same : v ≡ w → Alike lent v w
  apart : is_short_by lent v ≡ false → is_short_by lent w ≡ false → Alike lent v w

pub data AlikeEach (lent : Option Lends) : List ℕ → List ℕ → Type 0 where
  alike_none : AlikeEach lent [] []
  alike_more : {v w : ℕ} {vs ws : List ℕ} → Alike lent v w → AlikeEach lent vs ws
      → AlikeEach lent (v ∷ vs) (w ∷ ws)

-- a word that isn't 0 is short where it is a short string's
not_zero : (w : ℕ) (b : Bool) → 0 < w → ((w == 0) || b) ≡ b
not_zero w b h = ap (λ c. c || b) (ne_eqb w 0 (λ (e : w ≡ 0). omega (arith, h, e)))

pub below_strings : (lent : Option Lends) (w : ℕ) → w < 0x6000_0000 → 0 < w
    → is_short_by lent w ≡ false
below_strings None w h some = not_zero w _ some
    ∙ and_left (nat_le 0x6000_0000 w) (nat_le w 0x6000_ffff) (lt-leb 0x6000_0000 w h)
below_strings (Some l) w h some = not_zero w _ some
    ∙ and_left (nat_le 0x6000_0000 w) _ (lt-leb 0x6000_0000 w h)

pub above_strings : (lent : Option Lends) (w : ℕ) → 0x6fff_ffff < w → is_short_by lent w ≡ false
above_strings None w h = not_zero w _ (omega (arith, h))
    ∙ and_right (nat_le 0x6000_0000 w) (nat_le w 0x6000_ffff)
    (lt-leb w 0x6000_ffff (omega (arith, h)))
above_strings (Some l) w h = not_zero w _ (omega (arith, h)) ∙ and_right (nat_le 0x6000_0000 w) _
    (and_left (nat_le w 0x6fff_ffff) _ (lt-leb w 0x6fff_ffff h))

-- words are short where each is, and a unit can count them
pub short_is_each : (lent : Option Lends) (ws : List ℕ)
    → are_short_by lent ws ≡ (nat_le (length ws) 65535 && list_all (is_short_by lent) ws)
short_is_each None ws = refl
short_is_each (Some l) ws = refl

module _ (lent : Option Lends) where
  alike_long : {vs ws : List ℕ} → AlikeEach lent vs ws → length vs ≡ length ws
  alike_long alike_none = refl
  alike_long (alike_more a h) = ap (λ n. suc n) (alike_long h)

  one_test : (v w : ℕ) → Alike lent v w → is_short_by lent v ≡ is_short_by lent w
  one_test v w (same e) = ap (is_short_by lent) e
  one_test v w (apart f g) = f ∙ sym g

  all_tests : {vs ws : List ℕ} → AlikeEach lent vs ws
      → list_all (is_short_by lent) vs ≡ list_all (is_short_by lent) ws
  all_tests alike_none = refl
  all_tests (alike_more {v} {w} a h) = λ i. one_test v w a i && all_tests h i

  as_short : (vs ws : List ℕ) → AlikeEach lent vs ws → are_short_by lent vs ≡ are_short_by lent ws
  as_short vs ws h = short_is_each lent vs ∙ (λ i. nat_le (alike_long h i) 65535 && all_tests h i)
      ∙ sym (short_is_each lent ws)

  one_same : (v w : ℕ) → Alike lent v w → is_short_by lent v ≡ true → v ≡ w
  one_same v w (same e) h = e
  one_same v w (apart f g) h = not_both (is_short_by lent v) h f

  all_same : {vs ws : List ℕ} → AlikeEach lent vs ws → list_all (is_short_by lent) vs ≡ true → vs
      ≡ ws
  all_same alike_none h = refl
  all_same (alike_more {v} {w} {vs} {ws} a k) h =
      let b = and_parts (is_short_by lent v) (list_all (is_short_by lent) vs) h in
      (λ i. one_same v w a b.0 i ∷ all_same k b.1 i)

  short_same : (vs ws : List ℕ) → AlikeEach lent vs ws → are_short_by lent vs ≡ true → vs ≡ ws
  short_same vs ws k h = all_same k (all_short lent vs h)

  array_block : {g h : Given} {vs ws : List ℕ} {s u a b : Laid} {v w : ℕ} → s.units ≡ u.units
      → AlikeEach lent vs ws → ClosesArrayBy lent g s vs a v → ClosesArrayBy lent h u ws b w →
      (a.units ≡ b.units)
      × Alike lent v w
  array_block {vs = vs} {ws = ws} e k (short_array m l) (short_array n o) =
      let f = short_same vs ws k m in (
        (λ i. e i ++ length (f i) ∷ offsets_by lent (f i)),
        same (ap
            (λ us. 0x9000_0000 + length us) e),
      )
  array_block {vs = vs} {ws = ws} e k (short_array m l) (long_array at n f p q) =
      not_both (are_short_by lent vs) m (as_short vs ws k ∙ n)
  array_block {vs = vs} {ws = ws} e k (long_array at n f p q) (short_array m l) =
      not_both (are_short_by lent vs) (as_short vs ws k ∙ m) n
  array_block e k (long_array at n f p q) (long_array at2 n2 f2 p2 q2) = (
    e,
    apart (above_strings lent (0x8000_0000 + at) (omega arith))
        (above_strings lent (0x8000_0000 + at2) (omega arith)),
  )

  table_block : {g h : Given} {ps vs ws : List ℕ} {s u a b : Laid} {v w : ℕ} → s.units ≡ u.units
      → AlikeEach lent vs ws → ClosesTableBy lent g s ps vs a v → ClosesTableBy lent h u ps ws b w →
      (a.units ≡ b.units)
      × Alike lent v w
  table_block {ps = ps} {vs = vs} {ws = ws} e k (short_table r m l) (short_table t n o) =
      let f = short_same vs ws k m in (
        (λ i. e i ++ length (f i) ∷ (nears_by lent ps ++ offsets_by lent (f i))),
        same (ap (λ us. 0x5000_0000 + length us) e),
      )
  table_block {vs = vs} {ws = ws} e k (short_table r m l) (long_table at t n f p) =
      not_both (are_short_by lent vs) m (as_short vs ws k ∙ n)
  table_block {ps = ps} e k (short_table r m l) (wide_table at t f p q z) = not_both (are_near
      (nears_by lent ps)) r t
  table_block {vs = vs} {ws = ws} e k (long_table at r n f p) (short_table t m l) =
      not_both (are_short_by lent vs) (as_short vs ws k ∙ m) n
  table_block e k (long_table at r n f p) (long_table at2 t n2 f2 p2) = (
    e,
    apart (below_strings lent (0x2000_0000 + at) (omega (arith, p)) (omega arith))
        (below_strings lent (0x2000_0000 + at2) (omega (arith, p2)) (omega arith)),
  )
  table_block {ps = ps} e k (long_table at r n f p) (wide_table at2 t f2 p2 q z) =
      not_both (are_near (nears_by lent ps)) r t
  table_block {ps = ps} e k (wide_table at t f p q z) (short_table r m l) = not_both (are_near
      (nears_by lent ps)) r t
  table_block {ps = ps} e k (wide_table at t f p q z) (long_table at2 r n f2 p2) =
      not_both (are_near (nears_by lent ps)) r t
  table_block e k (wide_table at t f p q z) (wide_table at2 t2 f2 p2 q2 z2) = (
    e,
    apart (below_strings lent (0x4000_0000 + at) (omega (arith, p)) (omega arith))
        (below_strings lent (0x4000_0000 + at2) (omega (arith, p2)) (omega arith)),
  )

module _ (lent : Option Lends) (g h : Given) (positions : g.position ≡ h.position)
    (offsets : g.offset ≡ h.offset) (packings : g.packing ≡ h.packing) where
  same_positions : (ks : List (List ℕ)) (ps qs : List ℕ) → ArePlaced g ks ps → ArePlaced h ks qs
      → qs ≡ ps
  same_positions ks ps qs p q = same_somes qs ps (sym q.positions
      ∙ ap (λ f. map f ks) (sym positions) ∙ p.positions)

  same_offset : (text : List ℕ) (m n : ℕ) → g.offset text ≡ Some m → h.offset text ≡ Some n → m ≡ n
  same_offset text m n k l =
      let e : Some m ≡ Some n = sym k ∙ ap (λ f. f text) offsets ∙ l in
      let f : m ≡ n = cc in
      f

  mutual
    pub block : {s u a b : Laid} {t : Tree} {v w : ℕ} → s.units ≡ u.units → LaysBy lent g s t a v
        → LaysBy lent h u t b w → (a.units ≡ b.units) × Alike lent v w
    block e (lays_integer k) (lays_integer l) = (e, same refl)
    block e (lays_string {text = x} {k = m} k l) (lays_string {k = n} o p) =
        (e, same (λ i. word_of_string (packings i) (same_offset x m n k o i)))
    block e lays_no_path lays_no_path = (e, same refl)
    block e lays_no_path (lays_path at some t n f l) = absurd (zero_not_positive some refl)
    block e (lays_path at some t n f l) lays_no_path = absurd (zero_not_positive some refl)
    block e (lays_path at some t n f l) (lays_path at2 some2 t2 n2 f2 l2) = (
      e,
      apart (below_strings lent (0x3000_0000 + at) (omega (arith, l)) (omega arith))
          (below_strings lent (0x3000_0000 + at2) (omega (arith, l2)) (omega arith)),
    )
    block e lays_no_bytes lays_no_bytes = (e, same refl)
    block e lays_no_bytes (lays_bytes at some n f l) = absurd (zero_not_positive some refl)
    block e (lays_bytes at some n f l) lays_no_bytes = absurd (zero_not_positive some refl)
    block e (lays_bytes at some n f l) (lays_bytes at2 some2 n2 f2 l2) = (
      e,
      apart (below_strings lent (0x1000_0000 + at) (omega (arith, l)) (omega arith))
          (below_strings lent (0x1000_0000 + at2) (omega (arith, l2)) (omega arith)),
    )
    block e lays_no_numbers lays_no_numbers = (e, same refl)
    block e lays_no_numbers (lays_numbers at some n a f l) = absurd (zero_not_positive some refl)
    block e (lays_numbers at some n a f l) lays_no_numbers = absurd (zero_not_positive some refl)
    block e (lays_numbers at some n a f l) (lays_numbers at2 some2 n2 a2 f2 l2) = (
      e,
      apart (above_strings lent (0xe000_0000 + at) (omega arith))
          (above_strings lent (0xe000_0000 + at2) (omega arith)),
    )
    block e lays_no_members lays_no_members = (e, same refl)
    block e lays_no_members (lays_members k some c) = absurd (none_inside k some)
    block e (lays_members k some c) lays_no_members = absurd (none_inside k some)
    block e (lays_members k some c) (lays_members l some2 d) =
        let r = block_each e k l in
        array_block lent r.0 r.1 c d
    block e lays_no_entries lays_no_entries = (e, same refl)
    block e lays_no_entries (lays_entries ps p k some c) = absurd (none_inside k some)
    block e (lays_entries ps p k some c) lays_no_entries = absurd (none_inside k some)
    block {b = b'} {w = w'} e (lays_entries {es = es} ps p k some c) (lays_entries {mid = m2} {ws =
        w2} qs q l some2 d) =
        let r = block_each e k l in
        table_block lent r.0 r.1 c (subst (λ rs. ClosesTableBy lent h m2 rs w2 b' w')
        (same_positions (entry_keys es) ps qs p q) d)

    block_each : {s u a b : Laid} {ts : Trees} {vs ws : List ℕ} → s.units ≡ u.units
        → LaysEachBy lent g s ts a vs → LaysEachBy lent h u ts b ws → (a.units ≡ b.units)
        × AlikeEach lent vs ws
    block_each e each_none each_none = (e, alike_none)
    block_each e (each_more k ks) (each_more l ls) =
        let r = block e k l in
        let rest = block_each r.0 ks ls in
        (rest.0, alike_more r.1 rest.1)

-- two layings of one tree from one place end with one block
pub one_block : OneBlock
one_block lent g h s u a b t v w q p o e k l = (block lent g h p o q e k l).0
