-- The laws of packages: one that was turned, or swapped, is so once more, and is the package.
use Rattle.std.proofs.Common.{◌≡◌, ◌≢◌, ℕ, ◌+◌, ◌-◌, ◌*◌, ◌/◌, ◌%◌, ◌<◌, ◌≤◌, List, length, Bool}
use Rattle.std.proofs.Common.{true, false, cond, ◌==◌, ◌&&◌, nat_le, nat_lt, take, drop}
use Rattle.std.proofs.Common.{refl, sym, ap, ◌∙◌, arith, inl, inr, get_or, subst}
use Rattle.std.proofs.lemmas.Bool.{cases_lt}
use Rattle.std.proofs.lemmas.Bool.Decides.{nat_tests}
use Rattle.std.proofs.lemmas.List.{get_or_past}
use Rattle.resb_swap.specs.Numbers.{numbered, header_size, byte_in, word_in, word_count}
use Rattle.resb_swap.specs.Roles.{role_at}
use Rattle.resb_swap.specs.Swapped.{names_order}
use Rattle.resb_swap.specs.Swapped.{mirror_place, turned, header_place}
use Rattle.resb_swap.specs.Packages.{item_count, item_place, name_place, table_end, item_of}
use Rattle.resb_swap.specs.Packages.{is_package, IsPackageHead, TableRoles, IsTurned}
use Rattle.resb_swap.specs.Packages.{IsLaidOut, IsSwappedItem}
use Rattle.resb_swap.specs.Packages.{IsSwappedPackage}
use Rattle.resb_swap.specs.Laws.{TableTurnsBack, PackageSwapsBack}
use Rattle.resb_swap.specs.declared.role.Role.TheVariants as role
use Rattle.resb_swap.proofs.Places.{plain_place, head_place, header_stays, free_stays, head_order}
use Rattle.resb_swap.proofs.Mirrors.{word_turns}
use Rattle.resb_swap.proofs.Heads.{header_long, size_enough}
use Rattle.resb_swap.proofs.PackageLemmas.{known_order, first_behind, table_paired, table_orders}
use Rattle.resb_swap.proofs.PackageLemmas.{table_plain}
use Rattle.resb_swap.proofs.Fronts.{Front, moved, order, kept, other, size_same, moved_back}
use Rattle.resb_swap.proofs.Fronts.{word_turned}
use Rattle.resb_swap.proofs.Swaps.{swaps_back}

module _ (a b : List ℕ) (n : ℕ) (s : IsTurned a b n)
    (enough : header_size a + table_end (numbered a) ≤ n) where
  front : Front a b s.roles n
  front = let size = s.head.size in record {
    long = omega (arith, size, enough);
    size = s.head.size;
    paired = table_paired (numbered a) s.roles s.roles_are;
    orders = table_orders a s.roles s.roles_are (known_order a s.head.kind);
    mirrored = s.mirrored;
  }

  start_same : header_size b ≡ header_size a
  start_same = size_same a b s.roles n front

  count_words : word_count (numbered b) ≡ word_count (numbered a)
  count_words =
      ap (λ (m : ℕ). (m - header_size b) / 4) s.as_long
      ∙ ap (λ (m : ℕ). (length a - m) / 4) start_same

  -- the role of a word of the table, and of one behind it
  in_table : (i : ℕ) → i ≤ 2 * item_count (numbered a) → role_at s.roles i ≡ role.Words
  in_table i le =
      let t = s.head.table in
      let e : nat_le i (2 * item_count (numbered a)) ≡ true = grind (arith, nat_tests) in
      s.roles_are.roles i (omega (arith, le, t)) ∙ ap (λ x. cond x role.Words role.Free) e

  behind_table : (i : ℕ) → 2 * item_count (numbered a) < i → role_at s.roles i ≡ role.Free
  behind_table i lt = elim (cases_lt i (word_count (numbered a))) [
    | inl inside ↦ (
        let e : nat_le i (2 * item_count (numbered a)) ≡ false = grind (arith, nat_tests) in
        s.roles_are.roles i inside ∙ ap (λ x. cond x role.Words role.Free) e
        )
    | inr past ↦ get_or_past s.roles i role.Free (let e = s.roles_are.each in omega (
      arith,
      past,
      e,
    ))
  ]

  -- a byte of the table
  table_byte : (i c d x y : ℕ) → i ≤ 2 * item_count (numbered a) → c < 4 → 3 - c ≡ d
      → 4 * i + c ≡ x → 4 * i + d ≡ y → byte_in (numbered b) x ≡ byte_in (numbered a) y
  table_byte i c d x y le lt e ex ey =
      let size = s.head.size in
      let t : turned role.Words c ≡ d = word_turns role.Words refl c ∙ e in
      ap (byte_in (numbered b)) (sym ex)
      ∙ (ap (λ (m : ℕ). get_or b (m + (4 * i + c)) 0) start_same
      ∙ (moved a b s.roles n front (header_size a + (4 * i + c)) (omega (arith, le, lt, enough))
      (table_plain (numbered a) s.roles (header_size a) i c s.roles_are lt)
      ∙ (ap (λ q. get_or a q 0) (plain_place s.roles (header_size a) i c role.Words lt (in_table i
      le) refl)
      ∙ (ap (λ (m : ℕ). get_or a (header_size a + (4 * i + m)) 0) t
      ∙ ap (byte_in (numbered a)) ey))))

  -- a number of the table
  word_same : (i : ℕ) → i ≤ 2 * item_count (numbered a)
      → word_in (numbered b) i ≡ word_in (numbered a) i
  word_same i le =
      word_turned (numbered a) (numbered b) i (other a b s.roles n front)
      (table_byte i 0 3 (4 * i) (4 * i + 3) le (omega arith) refl (omega arith) refl)
      (table_byte i 1 2 (4 * i + 1) (4 * i + 2) le (omega arith) refl refl refl)
      (table_byte i 2 1 (4 * i + 2) (4 * i + 1) le (omega arith) refl refl refl)
      (table_byte i 3 0 (4 * i + 3) (4 * i) le (omega arith) refl refl (omega arith))

  count_same : item_count (numbered b) ≡ item_count (numbered a)
  count_same = word_same 0 (omega arith)

  -- a place behind the table is its own
  own_place : (z : ℕ) → table_end (numbered a) ≤ z
      → mirror_place s.roles (header_size a) (header_size a + z) ≡ header_size a + z
  own_place z le =
      let e : 4 * (z / 4) + z % 4 ≡ z = omega arith in
      let lt : z % 4 < 4 = omega arith in
      let free = behind_table (z / 4) (omega (arith, le)) in
      let stays : turned role.Free (z % 4) ≡ z % 4 = free_stays (z % 4) in
      ap (λ (q : ℕ). mirror_place s.roles (header_size a) (header_size a + q)) (sym e)
      ∙ (plain_place s.roles (header_size a) (z / 4) (z % 4) role.Free lt free refl
      ∙ (ap (λ (q : ℕ). header_size a + (4 * (z / 4) + q)) stays
      ∙ ap (λ (q : ℕ). header_size a + q) e))

  -- no byte behind the header names an order
  plain_at : (z : ℕ) → names_order s.roles (header_size a) (header_size a + z) ≡ false
  plain_at z =
      let e : header_size a + z ≡ header_size a + (4 * (z / 4) + z % 4) = omega arith in
      ap (names_order s.roles (header_size a)) e
      ∙ table_plain (numbered a) s.roles (header_size a) (z / 4) (z % 4) s.roles_are (omega arith)

  -- a byte behind the table stays
  byte_same : (z : ℕ) → table_end (numbered a) ≤ z → header_size a + z < n
      → byte_in (numbered b) z ≡ byte_in (numbered a) z
  byte_same z le lt =
      let size = s.head.size in
      ap (λ (m : ℕ). get_or b (m + z) 0) start_same
      ∙ (moved a b s.roles n front (header_size a + z) lt (plain_at z)
      ∙ ap (λ q. get_or a q 0) (own_place z le))

  -- no mirror place lies behind these bytes
  place_before : (p : ℕ) → p < n → mirror_place s.roles (header_size a) p < n
  place_before p lt = elim (cases_lt p (header_size a)) [
    | inl less ↦ (
        let e = head_place s.roles (header_size a) p less in
        let l = (header_stays p).0 (header_size a) s.head.size less in
        omega (arith, e, l, enough)
        )
    | inr ge ↦ (
        let z : ℕ = p - header_size a in
        let ez : header_size a + z ≡ p = omega (arith, ge) in
        elim (cases_lt z (table_end (numbered a))) [
          | inl inside ↦ (
              let c : ℕ = z % 4 in
              let i : ℕ = z / 4 in
              let ei : 4 * i + c ≡ z = omega arith in
              let le : i ≤ 2 * item_count (numbered a) = omega (arith, inside) in
              let t : turned role.Words c ≡ 3 - c = word_turns role.Words refl c in
              let there : mirror_place s.roles (header_size a) p ≡ header_size a + (4 * i + (3 -
              c)) =
              ap (mirror_place s.roles (header_size a)) (sym (ap (λ (q : ℕ). header_size a + q) ei
              ∙ ez))
              ∙ (plain_place s.roles (header_size a) i c role.Words (omega arith) (in_table i le)
              refl
              ∙ ap (λ (q : ℕ). header_size a + (4 * i + q)) t) in
              omega (arith, there, le, enough)
              )
          | inr behind ↦ (
              let there = ap (mirror_place s.roles (header_size a)) (sym ez)
              ∙ (own_place z behind ∙ ez) in
              omega (arith, there, lt)
              )
        ]
        )
  ]

  kind_same : is_package b ≡ true
  unfolding is_package
  kind_same =
      let k = known_order a s.head.kind in
      let o = order a b s.roles n front in
      let was : nat_le (get_or a 8 0) 1 ≡ true = grind (arith, nat_tests) in
      let is : nat_le (get_or b 8 0) 1 ≡ true = grind (arith, nat_tests) in
      let at = λ (p : ℕ) (lt : p < 24) (ne : p ≢ 8) (e : header_place p ≡ p). kept a b s.roles n
      front p lt ne e in
      let kind : Bool → Bool = λ known.
      ((get_or a 2 0 == 0xda && get_or a 3 0 == 0x27) && (known && get_or a 16 0 == 1))
      && ((get_or a 12 0 == 67 && get_or a 13 0 == 109)
      && (get_or a 14 0 == 110 && get_or a 15 0 == 68)) in
      rw (
        at 2 (omega arith) (omega arith) refl,
        at 3 (omega arith) (omega arith) refl,
        is,
        at 12 (omega arith) (omega arith) refl,
        at 13 (omega arith) (omega arith) refl,
        at 14 (omega arith) (omega arith) refl,
        at 15 (omega arith) (omega arith) refl,
        at 16 (omega arith) (omega arith) refl,
      ) (sym (ap kind was) ∙ s.head.kind)

  pub head_same : IsPackageHead b
  head_same = record {
    long = let e = s.as_long in let l = s.head.long in omega (arith, e, l);
    kind = kind_same;
    ascii = kept a b s.roles n front 9 (omega arith) (omega arith) refl ∙ s.head.ascii;
    size = subst (λ (m : ℕ). 24 ≤ m) (sym start_same) s.head.size;
    table = let t = s.head.table in let c = count_same in let w = count_words in omega (
      arith,
      t,
      c,
      w,
    );
  }

  roles_same : TableRoles (numbered b) s.roles
  roles_same = record {
    each = s.roles_are.each ∙ sym count_words;
    roles = λ i lt. s.roles_are.roles i (subst (λ (m : ℕ). i < m) count_words lt)
        ∙ ap (λ (m : ℕ). cond (nat_le i (2 * m)) role.Words role.Free) (sym count_same);
  }

  -- the table is turned back
  pub back : IsTurned b a n
  back = record {
    head = head_same;
    roles = s.roles;
    roles_are = roles_same;
    as_long = sym s.as_long;
    mirrored = λ p lt. moved_back a b s.roles n front p lt (place_before p lt);
  }

  -- places are the same
  place_same : (i : ℕ) → item_place (numbered b) i ≡ item_place (numbered a) i
  unfolding item_place
  place_same i = elim (cases_lt i (item_count (numbered a))) [
    | inl lt ↦ (
        let e : nat_lt i (item_count (numbered a)) ≡ true = grind (arith, nat_tests) in
        let f : nat_lt i (item_count (numbered b)) ≡ true =
        ap (λ (m : ℕ). nat_lt i m) count_same ∙ e in
        rw (f, e) (word_same (2 * i + 2) (omega (arith, lt)))
        )
    | inr ge ↦ (
        let e : nat_lt i (item_count (numbered a)) ≡ false = grind (arith, nat_tests) in
        let f : nat_lt i (item_count (numbered b)) ≡ false =
        ap (λ (m : ℕ). nat_lt i m) count_same ∙ e in
        rw (f, e) (ap (λ (m : ℕ). m - header_size b) s.as_long
        ∙ ap (λ (m : ℕ). length a - m) start_same)
        )
  ]

  name_same : (i : ℕ) → i < item_count (numbered a)
      → name_place (numbered b) i ≡ name_place (numbered a) i
  name_same i lt = word_same (2 * i + 1) (omega (arith, lt))

  item_same : (x : List ℕ) (i : ℕ) → item_of (numbered b) x i ≡ item_of (numbered a) x i
  item_same x i =
      ap (λ (m : ℕ). take (m + item_place (numbered b) (i + 1) - (m + item_place (numbered b) i))
      (drop (m + item_place (numbered b) i) x)) start_same
      ∙ (ap (λ (m : ℕ). take (header_size a + item_place (numbered b) (i + 1) - (header_size a + m))
      (drop (header_size a + m) x)) (place_same i)
      ∙ ap (λ (m : ℕ). take (header_size a + m - (header_size a + item_place (numbered a) i))
      (drop (header_size a + item_place (numbered a) i) x)) (place_same (i + 1)))

pub table_turns_back : TableTurnsBack
table_turns_back a b s =
    let t = s.head.table in
    back a b (length a) s (omega (arith, t))

-- an item is swapped back
item_back : (x y : ℕ) (c d : List ℕ) → y ≡ 1 - x → IsSwappedItem x c d → IsSwappedItem y d c
item_back x y c d e s = record {
  same_order = s.swapped.mirrored 8 (omega (arith, header_long c s.swapped.head.header))
      ∙ (ap (λ (t : Bool). cond t (1 - get_or c 8 0) (get_or c (mirror_place s.swapped.roles
      (header_size c) 8) 0)) (head_order s.swapped.roles (header_size c) 8 (omega (
        arith,
        size_enough c s.swapped.head.header,
      )))
      ∙ (ap (λ (m : ℕ). 1 - m) s.same_order ∙ sym e));
  swapped = swaps_back c d s.swapped;
}

module _ (a b : List ℕ) (s : IsSwappedPackage a b) where
  n : ℕ
  n = header_size a + item_place (numbered a) 0

  start_inside : header_size a ≤ length a
  start_inside = let t = s.front.head.table in omega (arith, t)

  behind : table_end (numbered a) ≤ item_place (numbered a) 0
  behind = first_behind (numbered a) s.laid.items s.front.head.table start_inside

  enough : header_size a + table_end (numbered a) ≤ header_size a + item_place (numbered a) 0
  enough = let e = behind in omega (arith, e)

  same : (i : ℕ) → item_place (numbered b) i ≡ item_place (numbered a) i
  same = place_same a b _ s.front enough

  count : item_count (numbered b) ≡ item_count (numbered a)
  count = count_same a b _ s.front enough

  laid_back : IsLaidOut (numbered b)
  laid_back = record {
    items = λ i lt.
        let less : i < item_count (numbered a) = subst (λ (m : ℕ). i < m) count lt in
        let was = s.laid.items i less in
        let c = count in let p = same i in let q = same (i + 1) in
        let l = was.behind in let o = was.order in
        record { behind = omega (arith, l, c, p); order = omega (arith, o, p, q) };
    names = λ i lt.
        let less : i < item_count (numbered a) = subst (λ (m : ℕ). i < m) count lt in
        let was = s.laid.names i less in
        let c = count in let p = name_same a b _ s.front enough i less in let q = same 0 in
        let l = was.behind in let o = was.ends in let u = was.before in
        record {
          behind = omega (arith, l, c, p);
          zero = was.zero;
          ends = omega (arith, o, p);
          before = omega (arith, u, q);
          is_zero = byte_same a b _ s.front enough was.zero (omega (arith, l, o)) (omega (arith, u))
              ∙ was.is_zero;
        };
  }

  pub package_back : IsSwappedPackage b a
  package_back = record {
    laid = laid_back;
    front =
        let P : ℕ → Type 0 = IsTurned b a in
        subst P (sym (ap (λ (m : ℕ). m + item_place (numbered b) 0) (start_same a b _ s.front
        enough)
        ∙ ap (λ (m : ℕ). header_size a + m) (same 0))) (back a b _ s.front enough);
    items = λ i lt.
        let less : i < item_count (numbered a) = subst (λ (m : ℕ). i < m) count lt in
        let P : List ℕ → Type 0 = λ x. IsSwappedItem (get_or b 8 0) x (item_of (numbered b) a i) in
        let Q : List ℕ → Type 0 = λ x. IsSwappedItem (get_or b 8 0) (item_of (numbered a) b i) x in
        subst P (sym (item_same a b _ s.front enough b i))
        (subst Q (sym (item_same a b _ s.front enough a i))
        (item_back (get_or a 8 0) (get_or b 8 0) (item_of (numbered a) a i) (item_of (numbered a) b
        i) (order a b s.front.roles _ (front a b _ s.front enough)) (s.items i less)));
  }

pub package_swaps_back : PackageSwapsBack
package_swaps_back a b s = package_back a b s
