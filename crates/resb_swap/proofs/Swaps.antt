-- The laws: a swapped file is swapped back, and there is one.
use Rattle.std.proofs.Common.{◌≡◌, ◌≢◌, ℕ, ◌+◌, ◌-◌, ◌*◌, ◌/◌, ◌%◌, ◌<◌, ◌≤◌, List, length, take}
use Rattle.std.proofs.Common.{drop, true, false, cond, ◌==◌, ◌&&◌, nat_lt}
use Rattle.std.proofs.Common.{refl, sym, ap, ◌∙◌, arith, inl, inr, get_or, subst, length-drop}
use Rattle.std.proofs.lemmas.Bool.{cases_eq, false≢true}
use Rattle.std.proofs.lemmas.Bool.Decides.{nat_tests}
use Rattle.std.proofs.lemmas.Grind.{same_number_lists}
use Rattle.std.proofs.lemmas.List.{get_or-take, get_or-drop, length-take}
use Rattle.resb_head.specs.HeadChecks.{is_version}
use Rattle.resb_head.specs.Laws.{IsHeader}
use Rattle.resb_head.proofs.Passing.{header_passes}
use Rattle.resb_swap.specs.Numbers.{Numbered, numbered, header_size, byte_in, word_count}
use Rattle.resb_swap.specs.Roles.{RolesOf, Sourced, role_at}
use Rattle.resb_swap.specs.Swapped.{IsSwapped, IsSwappable, mirror_place, mirrored_byte}
use Rattle.resb_swap.specs.Swapped.{header_place, turned, partner, names_order, is_order}
use Rattle.resb_swap.specs.Laws.{SwapsBack, OneSwap}
use Rattle.resb_swap.specs.declared.role.Role.{Role}
use Rattle.resb_swap.specs.declared.role.Role.TheVariants as role
use Rattle.resb_swap.proofs.WalkLemmas.{free_or_not}
use Rattle.resb_swap.proofs.FrontLemmas.{inside_from}
use Rattle.resb_swap.proofs.Heads.{header_from, size_is, size_enough}
use Rattle.resb_swap.proofs.Places.{mirrors, body_place, body_order}
use Rattle.resb_swap.proofs.Mirrors.{Turned, indexed_same}
use Rattle.resb_swap.proofs.RolesSame.{roles_same}
use Rattle.resb_swap.proofs.PairLemmas.{roles_paired, roles_orders}
use Rattle.resb_swap.proofs.Fronts.{Front, moved, flipped, order, kept, other, size_same}
use Rattle.resb_swap.proofs.Fronts.{moved_back}

-- parts of two lists that are the same there
pub part_same : (xs ys : List ℕ) (i n : ℕ) → i + n ≤ length xs → i + n ≤ length ys
    → ((k : ℕ) → k < n → get_or xs (i + k) 0 ≡ get_or ys (i + k) 0)
    → take n (drop i xs) ≡ take n (drop i ys)
part_same xs ys i n lx ly each =
    let ex : length (take n (drop i xs)) ≡ n = simp (length-take, length-drop) (omega arith) in
    let ey : length (take n (drop i ys)) ≡ n = simp (length-take, length-drop) (omega arith) in
    same_number_lists _ _ (ex ∙ sym ey) (λ k lt.
    let less : k < n = subst (λ (m : ℕ). k < m) ex lt in
    get_or-take n (drop i xs) k 0 less ∙ (get_or-drop i xs k 0 ∙ (each k less
    ∙ sym (get_or-take n (drop i ys) k 0 less ∙ get_or-drop i ys k 0))))

module _ (a b : List ℕ) (s : IsSwapped a b) where
  head : IsHeader true a
  head = header_from a s.head.header

  enough : 24 ≤ header_size a
  enough = size_enough a s.head.header

  fits : header_size a ≤ length a
  fits = let n = (inside_from (numbered a) s.head.indexed).fields in omega (arith, n)

  front : Front a b s.roles (length a)
  front = record {
    long = head.long;
    size = enough;
    paired = roles_paired (numbered a) s.roles s.roles_are;
    orders = roles_orders a s.roles s.roles_are head.known_endianness;
    mirrored = s.mirrored;
  }

  count_same : word_count (numbered b) ≡ word_count (numbered a)
  count_same =
      ap (λ (n : ℕ). (n - header_size b) / 4) s.as_long
      ∙ ap (λ (n : ℕ). (length a - n) / 4) (size_same a b s.roles (length a) front)

  turned_bytes : (i c : ℕ) → i < word_count (numbered a) → c < 4
      → (is_order (role_at s.roles i) && c == 0) ≡ false → byte_in (numbered b) (4 * i + c)
      ≡ byte_in (numbered a) (4 * partner (role_at s.roles i) i + turned (role_at s.roles i) c)
  turned_bytes i c lt l plain =
      ap (λ (n : ℕ). get_or b (n + (4 * i + c)) 0) (size_same a b s.roles (length a) front)
      ∙ (moved a b s.roles (length a) front (header_size a + (4 * i + c)) (omega (arith, lt, l))
      (body_order s.roles (header_size a) i c l ∙ plain)
      ∙ ap (λ q. get_or a q 0) (body_place s.roles (header_size a) i c l))

  turned_orders : (i : ℕ) → i < word_count (numbered a) → role_at s.roles i ≡ role.Order
      → byte_in (numbered b) (4 * i) ≡ 1 - byte_in (numbered a) (4 * i)
  turned_orders i lt is =
      let at : header_size a + 4 * i ≡ header_size a + (4 * i + 0) = omega arith in
      ap (λ (n : ℕ). get_or b (n + 4 * i) 0) (size_same a b s.roles (length a) front)
      ∙ flipped a b s.roles (length a) front (header_size a + 4 * i) (omega (arith, lt))
      (ap (names_order s.roles (header_size a)) at
      ∙ (body_order s.roles (header_size a) i 0 (omega arith)
      ∙ ap (λ (r : Role). is_order r && 0 == 0) is))

  pub turns_to : Turned (numbered a) (numbered b) s.roles
  turns_to = record {
    order = other a b s.roles (length a) front;
    as_many = count_same;
    each = s.roles_are.each;
    bytes = turned_bytes;
    orders = turned_orders;
  }

  long_b : 24 ≤ length b
  long_b = subst (λ (n : ℕ). 24 ≤ n) (sym s.as_long) head.long

  -- four bytes of the head that stay
  four_stay : (i : ℕ) → i + 4 ≤ 24 → 9 ≤ i → take 4 (drop i b) ≡ take 4 (drop i a)
  four_stay i le from =
      part_same b a i 4 (let l = long_b in omega (arith, l)) (let l = head.long in omega (arith, l))
      (λ k lt. kept a b s.roles (length a) front (i + k) (omega arith) (omega arith) (stays (i + k)
      (omega arith)))
    where
      stays : (p : ℕ) → 9 ≤ p → header_place p ≡ p
      stays p l =
          let e0 : (p == 0) ≡ false = grind (arith, nat_tests) in
          let e1 : (p == 1) ≡ false = grind (arith, nat_tests) in
          let e4 : (p == 4) ≡ false = grind (arith, nat_tests) in
          let e5 : (p == 5) ≡ false = grind (arith, nat_tests) in
          let e6 : (p == 6) ≡ false = grind (arith, nat_tests) in
          let e7 : (p == 7) ≡ false = grind (arith, nat_tests) in
          rw (e0, e1, e4, e5, e6, e7) refl

  magic_stays : take 2 (drop 2 b) ≡ take 2 (drop 2 a)
  magic_stays =
      part_same b a 2 2 (let l = long_b in omega (arith, l)) (let l = head.long in omega (arith, l))
      (λ k lt. two k lt)
    where
      two : (k : ℕ) → k < 2 → get_or b (2 + k) 0 ≡ get_or a (2 + k) 0
      two k lt = elim (cases_eq k 0) [
        | inl e ↦ rw e (kept a b s.roles (length a) front 2 (omega arith) (omega arith) refl)
        | inr ne ↦ (let e : k ≡ 1 = omega (arith, lt, ne) in rw e (kept a b s.roles (length a)
            front 3 (omega arith) (omega
            arith) refl))
      ]

  header_b : IsHeader true b
  header_b = record {
    long = long_b;
    magic = magic_stays ∙ head.magic;
    known_endianness = let e = order a b s.roles (length a) front in omega (arith, e);
    own_endianness = λ e. absurd (false≢true (sym e));
    known_charset = subst (λ (n : ℕ). n ≤ 1) (sym (kept a b s.roles (length a) front 9 (omega
        arith) (omega arith) refl))
        head.known_charset;
    format = four_stay 12 (omega arith) (omega arith) ∙ head.format;
    version = ap is_version (four_stay 16 (omega arith) (omega arith)) ∙ head.version;
    size = subst (λ (n : ℕ). 24 ≤ n) (sym (size_is b long_b ∙ (size_same a b s.roles (length a)
        front))) enough;
  }

  pub swappable : IsSwappable b
  swappable = record {
    header = (header_passes true b).1 header_b;
    ascii = kept a b s.roles (length a) front 9 (omega arith) (omega arith) refl ∙ s.head.ascii;
    two_byte_chars = kept a b s.roles (length a) front 10 (omega arith) (omega arith) refl ∙
        s.head.two_byte_chars;
    version =
        ap (λ (x : ℕ). (x == 1) && (get_or b 17 0 == 0)) (kept a b s.roles (length a) front 16
        (omega arith) (omega arith) refl)
        ∙ (ap (λ (x : ℕ). (get_or a 16 0 == 1) && (x == 0)) (kept a b s.roles (length a) front 17
        (omega arith) (omega arith)
        refl)
        ∙ s.head.version);
    indexed = indexed_same (numbered a) (numbered b) s.roles turns_to s.roles_are s.head.indexed
        ∙ s.head.indexed;
  }

  moved_place : (p : ℕ) → p < length b → get_or a p 0 ≡ mirrored_byte s.roles b p
  moved_place p lt =
      let m = mirrors s.roles (header_size a) p (length a) front.paired enough fits in
      let less = subst (λ (n : ℕ). p < n) s.as_long lt in
      moved_back a b s.roles (length a) front p less (m.inside less s.roles_are.each)

  pub back : IsSwapped b a
  back = record {
    head = swappable;
    roles = s.roles;
    roles_are = roles_same (numbered a) (numbered b) s.roles turns_to s.roles_are s.head.indexed;
    as_long = sym s.as_long;
    mirrored = moved_place;
  }

pub swaps_back : SwapsBack
swaps_back a b s = back a b s

-- a role that has a source stands in each list of roles
pub from_source : (f : Numbered) (rs : List Role) (i : ℕ) (r : Role) → RolesOf f rs → Sourced f i r
    → r ≢ role.Free → role_at rs i ≡ r
from_source f rs i r h source some = elim source [
  | inl free ↦ absurd (some free)
  | inr x ↦ elim x [
    | inl e ↦ h.front i (λ z. some (e ∙ z)) ∙ sym e
    | inr b ↦ h.bodies b.0 i b.1.0 (λ z. some (b.1.1 ∙ z)) ∙ sym b.1.1
  ]
]

one_role : (f : Numbered) (xs ys : List Role) → RolesOf f xs → RolesOf f ys → (i : ℕ)
    → role_at xs i ≡ role_at ys i
one_role f xs ys hx hy i = elim (free_or_not (role_at xs i)) [
  | inr some ↦ sym (from_source f ys i (role_at xs i) hy (hx.only i) some)
  | inl free ↦ elim (free_or_not (role_at ys i)) [
    | inl also ↦ free ∙ sym also
    | inr some ↦ from_source f xs i (role_at ys i) hx (hy.only i) some
  ]
]

pub place_same : (xs ys : List Role) (h p : ℕ) → ((i : ℕ) → role_at xs i ≡ role_at ys i)
    → mirror_place xs h p ≡ mirror_place ys h p
unfolding mirror_place
place_same xs ys h p e =
    ap (λ r. cond (nat_lt p h) (header_place p) (h + (4 * partner r ((p - h) / 4) + turned r ((p -
    h)
    % 4)))) (e ((p - h) / 4))

pub order_same : (xs ys : List Role) (h p : ℕ) → ((i : ℕ) → role_at xs i ≡ role_at ys i)
    → names_order xs h p ≡ names_order ys h p
unfolding names_order
order_same xs ys h p e =
    ap (λ (r : Role). cond (nat_lt p h) (p == 8) (is_order r && (p - h) % 4 == 0)) (e ((p - h) / 4))

pub one : OneSwap
one a b c s t =
    let roles = one_role (numbered a) s.roles t.roles s.roles_are t.roles_are in
    same_number_lists b c (s.as_long ∙ sym t.as_long) (λ p lt.
    let less : p < length a = subst (λ (n : ℕ). p < n) s.as_long lt in
    s.mirrored p less
    ∙ (ap (λ c. cond c (1 - get_or a p 0) (get_or a (mirror_place s.roles (header_size a) p) 0))
    (order_same s.roles t.roles (header_size a) p roles)
    ∙ (ap (λ q. cond (names_order t.roles (header_size a) p) (1 - get_or a p 0) (get_or a q 0))
    (place_same s.roles t.roles (header_size a) p roles)
    ∙ sym (t.mirrored p less))))
