-- How many units what is laid takes, by the resources alone.
use Rattle.std.proofs.Common.{◌≡◌, ℕ, ◌+◌, ◌-◌, ◌*◌, ◌<◌, ◌^◌, ◌&&◌, List, [], ◌∷◌, ◌++◌, length}
use Rattle.std.proofs.Common.{map, Option, Some, None, Bool, true, false, nat_le, nat_lt, refl, sym}
use Rattle.std.proofs.Common.{◌∙◌, ap}
use Rattle.std.proofs.Common.{arith}
use Rattle.std.proofs.Common.{if◌then◌else◌}
use Rattle.std.specs.List.{sum_by, list_all}
use Rattle.std.proofs.lemmas.Bool.{le-leb, lt-leb, leb-true, leb-false, lt-ltb, and_left}
use Rattle.std.proofs.lemmas.Bool.{and_right}
use Rattle.std.proofs.lemmas.List.{length-append, length-map}
use Rattle.std.proofs.lemmas.List.Folds.{list_all-map}
use Rattle.std.proofs.lemmas.List.Sums.{sum_by-cons, sum_by-append}
use Rattle.resb_tree.specs.Tree.{Tree, Trees, Entries}
use Rattle.resb_tree.specs.Tree.{no_entries, entry}
use Rattle.resb_tree.specs.LayingOrder.{array_members, values_of, laying_order, laying_each}
use Rattle.resb_tree.specs.LayingOrder.{laying_values}
use Rattle.resb_tree.specs.LayingOrder.{entry_keys}
use Rattle.std.proofs.Common.{inl, inr, ◌||◌, ◌==◌}
use Rattle.std.proofs.lemmas.Bool.{ne_eqb}
use Rattle.resb_layout.specs.Laid.{word_of_string}
use Rattle.resb_pool.specs.declared.packing.Packing.{Packing}
use Rattle.resb_layout.proofs.StringWords.{word_cases}
use Rattle.resb_layout.specs.Laid.{Given, Lends, Laid, is_short_by, are_short_by}
use Rattle.resb_layout.specs.Laid.{are_near, nears_by, offsets_by, near_by, short_by}
use Rattle.resb_layout.specs.Laid.{ClosesArrayBy, short_array, long_array, ClosesTableBy}
use Rattle.resb_layout.specs.Laid.{short_table, long_table, wide_table, LaysBy, lays_integer}
use Rattle.resb_layout.specs.Laid.{lays_string, lays_no_path, lays_path, lays_no_bytes}
use Rattle.resb_layout.specs.Laid.{lays_bytes, lays_no_numbers}
use Rattle.resb_layout.specs.Laid.{lays_numbers, lays_no_members, lays_members, lays_no_entries}
use Rattle.resb_layout.specs.Laid.{lays_entries, LaysEachBy, each_none, each_more, entry_trees}
use Rattle.resb_write.specs.Inner.Counted.{fits_unit, is_near, are_near_strings, are_near_keys}
use Rattle.resb_write.specs.Inner.Counted.{short_units, own_units}
use Rattle.resb_layout.proofs.Forms.{offsets_many, nears_many, nears_are}
use Rattle.resb_write.proofs.OneBlock.{below_strings, above_strings, short_is_each}
use Rattle.resb_write.proofs.KeyViews.{placed_long, keys_values}
use Rattle.resb_layout.proofs.InOrderLemmas.{laying_each-entry_trees}

some_word : (k : ℕ) (b : Bool) → ((0x6000_0000 + k == 0) || b) ≡ b
some_word k b = ap (λ c. c || b) (ne_eqb (0x6000_0000 + k) 0
    (λ (e : 0x6000_0000 + k ≡ 0). omega (arith, e)))

-- the word of a string is short where a unit tells its offset
plain_offset : (lent : Option Lends) (k : ℕ) → k < 2 ^ 28
    → is_short_by lent (0x6000_0000 + k) ≡ nat_le (short_by lent k) 65535
plain_offset (Some l) k small = some_word k _ ∙
    (λ i. le-leb 0x6000_0000 (0x6000_0000 + k) (omega arith) i
    && (le-leb (0x6000_0000 + k) 0x6fff_ffff (omega (arith, small)) i
    && nat_le (short_by (Some l) (back i)) 65535))
  where
    back : 0x6000_0000 + k - 0x6000_0000 ≡ k
    back = omega arith
plain_offset None k small = some_word k _ ∙ by (nat_le k 65535) refl
  where
    low_enough : nat_le 0x6000_0000 (0x6000_0000 + k) ≡ true
    low_enough = le-leb 0x6000_0000 (0x6000_0000 + k) (omega arith)

    by : (b : Bool) → nat_le k 65535 ≡ b
        → (nat_le 0x6000_0000 (0x6000_0000 + k) && nat_le (0x6000_0000 + k) 0x6000_ffff)
        ≡ nat_le k 65535
    by true e = (λ i. low_enough i && le-leb (0x6000_0000 + k) 0x6000_ffff
        (omega (arith, leb-true k 65535 e)) i) ∙ sym e
    by false e = (λ i. low_enough i && lt-leb (0x6000_0000 + k) 0x6000_ffff
        (omega (arith, leb-false k 65535 e)) i) ∙ sym e

-- so is word 0, which is the empty string's
zero_offset : (lent : Option Lends) (w k : ℕ) → w ≡ 0 → k ≡ 0
    → is_short_by lent w ≡ nat_le (short_by lent k) 65535
zero_offset None w k e f = ap (is_short_by None) e ∙ sym (ap (λ n. nat_le n 65535) f)
zero_offset (Some l) w k e f = ap (is_short_by (Some l)) e
    ∙ sym (ap (λ n. nat_le (short_by (Some l) n) 65535) f)

short_offset : (lent : Option Lends) (q : Packing) (k : ℕ) → k < 2 ^ 28
    → is_short_by lent (word_of_string q k) ≡ nat_le (short_by lent k) 65535
short_offset lent q k small = elim (word_cases q k) [
  | inl e ↦ ap (is_short_by lent) e ∙ plain_offset lent k small
  | inr e ↦ zero_offset lent (word_of_string q k) k e.2 e.1
]

members_of : (es : Entries) → array_members (entry_trees es) ≡ values_of es
members_of no_entries = refl
members_of (entry k t es) = ap (λ l. t ∷ l) (members_of es)

-- a short collection that isn't empty has a count and its members' units
short_is : (b : Bool) (n each : ℕ) → b ≡ true → 0 < n → short_units b n each ≡ each * n + 1
short_is b n each e h = (λ i. if e i && lt-ltb 0 n h i then each * n + 1 else 0)

long_is : (b : Bool) (n each : ℕ) → b ≡ false → short_units b n each ≡ 0
long_is b n each e = (λ i. if e i && nat_lt 0 n then each * n + 1 else 0)

module _ (lent : Option Lends) (g : Given) where
  array_units : {s : Laid} {ws : List ℕ} {e : Laid} {w : ℕ} (ts : List Tree)
      → length ws ≡ length ts → list_all (is_short_by lent) ws ≡ list_all (is_near lent g) ts
      → 0 < length ws → ClosesArrayBy lent g s ws e w
      → (length e.units ≡ length s.units
      + short_units (are_near_strings lent g ts) (length ts) 1) × (is_short_by lent w ≡ false)
  array_units {s} {ws} ts n h some (short_array m l) =
      let same : are_short_by lent ws ≡ are_near_strings lent g ts = short_is_each lent ws ∙
      (λ i. nat_le (n i) 65535 && h i) in (
        omega (
          arith,
          length-append s.units (length ws ∷ offsets_by lent ws),
          offsets_many lent ws,
          n,
          short_is (are_near_strings lent g ts) (length ts) 1 (sym same ∙ m) (omega
              (arith, some, n)),
        ),
        above_strings lent (0x9000_0000 + length s.units) (omega arith),
      )
  array_units {s} {ws} ts n h some (long_array at m f p q) =
      let same : are_short_by lent ws ≡ are_near_strings lent g ts = short_is_each lent ws ∙
      (λ i. nat_le (n i) 65535 && h i) in (
        omega (arith, long_is (are_near_strings lent g ts) (length ts) 1 (sym same ∙ m)),
        above_strings lent (0x8000_0000 + at) (omega arith),
      )

  pub near_keys : (ks : List (List ℕ)) (ps : List ℕ) → map g.position ks ≡ map Some ps
      → are_near_keys lent g ks ≡ are_near (nears_by lent ps)
  near_keys ks ps e =
      let fits = fits_unit (near_by lent) in
      let n : length ks ≡ length ps = sym (length-map ks g.position) ∙ ap length e
      ∙ length-map ps Some in
      let m : length ks ≡ length (map (near_by lent) ps) = n ∙ sym (length-map ps (near_by lent)) in
      let h = sym (list_all-map fits g.position ks) ∙ ap (list_all fits) e
      ∙ list_all-map fits Some ps
      ∙ sym (list_all-map (λ p. nat_le p 65535) (near_by lent) ps) in
      (λ i. nat_le (m i) 65535 && h i) ∙ ap are_near (sym (nears_are lent ps))

  table_units : {s : Laid} {ps ws : List ℕ} {e : Laid} {w : ℕ} (ks : List (List ℕ))
      (ts : List Tree) → length ws ≡ length ts → length ps ≡ length ws
      → list_all (is_short_by lent) ws ≡ list_all (is_near lent g) ts → are_near_keys lent g ks
      ≡ are_near (nears_by lent ps)
      → 0 < length ws → ClosesTableBy lent g s ps ws e w
      → (length e.units ≡ length s.units
      + short_units (are_near_strings lent g ts && are_near_keys lent g ks) (length ts) 2)
      × (is_short_by lent w ≡ false)
  table_units {s} {ps} {ws} ks ts n m h k some (short_table r q l) =
      let same : are_short_by lent ws ≡ are_near_strings lent g ts =
      short_is_each lent ws ∙ (λ i. nat_le (n i) 65535 && h i) in
      let both : (are_near_strings lent g ts && are_near_keys lent g ks) ≡ true =
      (λ i. (sym same ∙ q) i && (k ∙ r) i) in (
        omega (
          arith,
          length-append s.units (length ws ∷ (nears_by lent ps ++ offsets_by lent ws)),
          length-append (nears_by lent ps) (offsets_by lent ws),
          offsets_many lent ws,
          nears_many lent ps,
          n,
          m,
          short_is (are_near_strings lent g ts && are_near_keys lent g ks) (length ts) 2 both
              (omega (arith, some, n)),
        ),
        below_strings lent (0x5000_0000 + length s.units) (omega (arith, l)) (omega arith),
      )
  table_units {s} {ps} {ws} ks ts n m h k some (long_table at r q f p) =
      let same : are_short_by lent ws ≡ are_near_strings lent g ts =
      short_is_each lent ws ∙ (λ i. nat_le (n i) 65535 && h i) in
      let no : (are_near_strings lent g ts && are_near_keys lent g ks) ≡ false =
      and_left (are_near_strings lent g ts) (are_near_keys lent g ks) (sym same ∙ q) in (
        omega (
          arith,
          long_is (are_near_strings lent g ts && are_near_keys lent g ks)
              (length ts) 2 no,
        ),
        below_strings lent (0x2000_0000 + at) (omega (arith, p)) (omega arith),
      )
  table_units {s} {ps} {ws} ks ts n m h k some (wide_table at r f p q z) =
      let no : (are_near_strings lent g ts && are_near_keys lent g ks) ≡ false =
      and_right (are_near_strings lent g ts) (are_near_keys lent g ks) (k ∙ r) in (
        omega (
          arith,
          long_is (are_near_strings lent g ts && are_near_keys lent g ks)
              (length ts) 2 no,
        ),
        below_strings lent (0x4000_0000 + at) (omega (arith, p)) (omega arith),
      )

  leaf : (s : Laid) (t : Tree) → own_units lent g t ≡ 0
      → length s.units ≡ length s.units + sum_by (own_units lent g) (t ∷ [])
  leaf s t e = omega (arith, e, sum_by-cons (own_units lent g) t [], none)
    where
      none : sum_by (own_units lent g) [] ≡ 0
      none = refl

  one_more_counted : (a b c n k : ℕ) (ts : List Tree) (t : Tree) → b ≡ a + sum_by
      (own_units lent g) ts
      → c ≡ b + k → own_units lent g t ≡ k → c ≡ a + sum_by (own_units lent g) (ts ++ t ∷ [])
  one_more_counted a b c n k ts t e f h = omega (
    arith,
    e,
    f,
    h,
    sum_by-append (own_units lent g) ts (t ∷ []),
    sum_by-cons (own_units lent g) t [],
    none,
  )
    where
      none : sum_by (own_units lent g) [] ≡ 0
      none = refl

  -- a resource that is laid takes the units that are counted, and its word is short where it is a
  -- near string
  mutual
    pub units : {s e : Laid} {t : Tree} {w : ℕ} → LaysBy lent g s t e w
        → (length e.units ≡ length s.units + sum_by (own_units lent g) (laying_order t))
        × (is_short_by lent w ≡ is_near lent g t)
    units {s} {e} {t} (lays_integer {n = n} k) =
        (leaf s t refl, above_strings lent (0x7000_0000 + n) (omega arith))
    units {s} {e} {t} (lays_string {text = x} {k = m} k l) =
        (leaf s t refl, short_offset lent g.packing m l ∙ sym (ap (fits_unit (short_by lent)) k))
    units {s} {e} {t} lays_no_path =
        (leaf s t refl, below_strings lent 0x3000_0000 (omega arith) (omega arith))
    units {s} {e} {t} (lays_path at some u n f l) =
        (leaf s t refl, below_strings lent (0x3000_0000 + at) (omega (arith, l)) (omega arith))
    units {s} {e} {t} lays_no_bytes =
        (leaf s t refl, below_strings lent 0x1000_0000 (omega arith) (omega arith))
    units {s} {e} {t} (lays_bytes at some n f l) =
        (leaf s t refl, below_strings lent (0x1000_0000 + at) (omega (arith, l)) (omega arith))
    units {s} {e} {t} lays_no_numbers =
        (leaf s t refl, above_strings lent 0xe000_0000 (omega arith))
    units {s} {e} {t} (lays_numbers at some n a f l) =
        (leaf s t refl, above_strings lent (0xe000_0000 + at) (omega arith))
    units {s} {e} {t} lays_no_members =
        (leaf s t refl, above_strings lent 0x8000_0000 (omega arith))
    units {s} {e} {t} (lays_members {mid = mid} {ts = ts} {ws = ws} k some c) =
        let r = units_each k in
        let o = array_units (array_members ts) r.1 r.2 some c in (
          one_more_counted (length s.units) (length mid.units) (length e.units) 0 _ (laying_each ts)
              t r.0 o.0
              refl,
          o.1,
        )
    units {s} {e} {t} lays_no_entries =
        (leaf s t refl, below_strings lent 0x2000_0000 (omega arith) (omega arith))
    units {s} {e} {t} (lays_entries {mid = mid} {es = es} {ws = ws} ps p k some c) =
        let r = units_each k in
        let n = r.1 ∙ ap length (members_of es) in
        let h = r.2 ∙ ap (list_all (is_near lent g)) (members_of es) in
        let m : length ps ≡ length ws = placed_long g (entry_keys es) ps p ∙ keys_values es
        ∙ sym n in
        let o = table_units (entry_keys es) (values_of es) n m h
        (near_keys (entry_keys es) ps p.positions) some c in (
          one_more_counted (length s.units) (length mid.units) (length e.units) 0 _
              (laying_values es) t
              (r.0 ∙ ap (λ l. length s.units + sum_by (own_units lent g) l)
              (laying_each-entry_trees es)) o.0 refl,
          o.1,
        )

    units_each : {s e : Laid} {ts : Trees} {ws : List ℕ} → LaysEachBy lent g s ts e ws
        → (length e.units ≡ length s.units + sum_by (own_units lent g) (laying_each ts))
        × (length ws ≡ length (array_members ts))
        × (list_all (is_short_by lent) ws ≡ list_all (is_near lent g) (array_members ts))
    units_each {s} each_none = (omega (arith, none), refl, refl)
      where
        none : sum_by (own_units lent g) [] ≡ 0
        none = refl
    units_each {s} {e} (each_more {t = t} {ts = ts} k ks) =
        let r = units k in
        let rest = units_each ks in (
          omega (
            arith,
            r.0,
            rest.0,
            sum_by-append (own_units lent g) (laying_order t)
                (laying_each ts),
          ),
          omega (arith, rest.1),
          (λ i. r.1 i && rest.2 i),
        )
