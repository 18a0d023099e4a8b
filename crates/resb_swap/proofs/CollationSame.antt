-- The data of a collation in a swapped file: its numbers, and so its parts, are those of the file.
use Rattle.std.proofs.Common.{◌≡◌, ℕ, ◌+◌, ◌-◌, ◌*◌, ◌/◌, ◌<◌, ◌≤◌, List}
use Rattle.std.proofs.Common.{Bool, true, false, cond, not, ◌==◌, ◌&&◌, nat_le, nat_lt, min}
use Rattle.std.proofs.Common.{refl, sym, ap, ◌∙◌, arith, inl, inr, subst}
use Rattle.std.proofs.lemmas.Bool.{cases_lt, cases_Bool}
use Rattle.std.proofs.lemmas.Bool.Decides.{nat_tests}
use Rattle.resb_swap.specs.Numbers.{Numbered, byte_in, unit_in, second_unit_in, word_in}
use Rattle.resb_swap.specs.Bodies.{Reached, body_role, place_in, middle_at}
use Rattle.resb_swap.specs.Collation.{is_collation, is_whole, is_headed, has_indexes, has_parts}
use Rattle.resb_swap.specs.Collation.{is_trie, is_trie_part, holds_data, data_header, index_from}
use Rattle.resb_swap.specs.Collation.{index_count, offset_in, part_at, trie_units}
use Rattle.resb_swap.specs.Collation.{has_wide_values, parts_in, parts_with, outer_parts, part_role}
use Rattle.resb_swap.specs.Roles.{RolesOf, role_at}
use Rattle.resb_swap.specs.Swapped.{turned, partner, is_order, is_indexed}
use Rattle.resb_swap.specs.declared.parts.Parts.{Parts}
use Rattle.resb_swap.specs.declared.role.Role.{Role}
use Rattle.resb_swap.specs.declared.role.Role.TheVariants as role
use Rattle.resb_swap.proofs.CollationLemmas.{whole_from, indexed_from, headed_from}
use Rattle.resb_swap.proofs.CollationLemmas.{headed_to}
use Rattle.resb_swap.proofs.PartsLemmas.{Ordered, ordered, weights_inside, parts_front, parts_trie}
use Rattle.resb_swap.proofs.PartsLemmas.{at_3, at_4, at_index, at_signature, at_units}
use Rattle.resb_swap.proofs.Mirrors.{Turned, byte_to, word_same, data_role, data_inside, stays}
use Rattle.resb_swap.proofs.Fronts.{flips}
use Rattle.resb_swap.proofs.Mirrors.{number_same, is_word}

-- all that two tests guard matters only where the first one holds
guarded : (n : ℕ) (a b c d : Bool) → (16 ≤ n → a ≡ b) → (16 ≤ n → c ≡ d)
    → ((nat_le 16 n && a) && c) ≡ ((nat_le 16 n && b) && d)
guarded n a b c d f g = elim (cases_lt n 16) [
  | inl less ↦ (let e : nat_le 16 n ≡ false = grind (arith, nat_tests) in rw e refl)
  | inr long ↦ rw (f long, g long) refl
]

whole_data : (f : Numbered) (p : ℕ) → holds_data f p ≡ true → is_whole f p ≡ true
whole_data f p h = grind (arith, nat_tests)

-- a choice of which one side is the same where it is made
chosen : (b : Bool) (x y z : Parts) → (b ≡ true → x ≡ y) → cond b x z ≡ cond b y z
chosen true x y z h = h refl
chosen false x y z h = refl

-- the role of a word of the data, and of a binary that is none
pub data_at : (f : Numbered) (p k : ℕ) → holds_data f p ≡ true
    → middle_at f role.Binary p k ≡ part_role (parts_in f (p + 1)) k
unfolding middle_at
data_at f p k e = ap (λ b. cond b (part_role (parts_in f (p + 1)) k) role.Bytes) e

pub none_at : (f : Numbered) (p k : ℕ) → holds_data f p ≡ false
    → middle_at f role.Binary p k ≡ role.Bytes
unfolding middle_at
none_at f p k e = ap (λ b. cond b (part_role (parts_in f (p + 1)) k) role.Bytes) e

bytes_turn : (c : ℕ) → turned role.Bytes c ≡ c
unfolding turned
bytes_turn c = refl

one_turns : (turned role.OneUnit 0 ≡ 1) × ((turned role.OneUnit 1 ≡ 0)
    × ((turned role.OneUnit 2 ≡ 2) × (turned role.OneUnit 3 ≡ 3)))
unfolding turned
one_turns = (refl, (refl, (refl, refl)))

units_turn : (turned role.Units 0 ≡ 1) × ((turned role.Units 1 ≡ 0)
    × ((turned role.Units 2 ≡ 3) × (turned role.Units 3 ≡ 2)))
unfolding turned
units_turn = (refl, (refl, (refl, refl)))

order_turns : turned role.Order 1 ≡ 1
unfolding turned
order_turns = refl

module _ (f g : Numbered) (rs : List Role) (t : Turned f g rs) (h : RolesOf f rs)
    (ok : is_indexed f ≡ true) (w : ℕ) (r : Reached f w) (b : body_role w ≡ role.Binary) where
  -- a byte of a word that is bytes
  plain_byte : (k c a : ℕ) → k < (word_in f (place_in w) + 3) / 4
      → middle_at f role.Binary (place_in w) k ≡ role.Bytes → c < 4
      → 4 * (place_in w + 1 + k) + c ≡ a → byte_in g a ≡ byte_in f a
  plain_byte k c a lt e l ea =
      stays f g rs t h ok w k c a role.Bytes r b lt e l refl refl (bytes_turn c) ea

  -- a byte of the magic word
  magic_byte : (c a : ℕ) → 16 ≤ word_in f (place_in w) → turned role.OneUnit c ≡ c → c < 4
      → 4 * (place_in w + 1) + c ≡ a → byte_in g a ≡ byte_in f a
  magic_byte c a long to l ea = elim (cases_Bool (holds_data f (place_in w))) [
    | inl e ↦ stays f g rs t h ok w 0 c a role.OneUnit r b (omega (arith, long)) (data_at f
        (place_in w) 0 e) l (omega arith) refl to (omega (arith, ea))
    | inr e ↦ plain_byte 0 c a (omega (arith, long)) (none_at f (place_in w) 0 e) l (omega (
      arith,
      ea,
    ))
  ]

  -- a byte of the format's name
  name_byte : (c a : ℕ) → 16 ≤ word_in f (place_in w) → c < 4
      → 4 * (place_in w + 4) + c ≡ a → byte_in g a ≡ byte_in f a
  name_byte c a long l ea = elim (cases_Bool (holds_data f (place_in w))) [
    | inl e ↦ plain_byte 3 c a (omega (arith, long)) (data_at f (place_in w) 3 e ∙ at_3 (parts_in f
        (place_in w + 1)) (ordered f (place_in w) (whole_data f (place_in w) e))) l (omega (
          arith,
          ea,
        ))
    | inr e ↦ plain_byte 3 c a (omega (arith, long)) (none_at f (place_in w) 3 e) l (omega (
      arith,
      ea,
    ))
  ]

  len_same : word_in g (place_in w) ≡ word_in f (place_in w)
  len_same = number_same f g rs t h ok w r b

  pub collation_same : is_collation g (place_in w) ≡ is_collation f (place_in w)
  unfolding is_collation
  collation_same =
      let m = one_turns in
      rw len_same (guarded (word_in f (place_in w)) _ _ _ _
      (λ long.
      let b6 = magic_byte 2 (4 * place_in w + 6) long m.1.1.0 (omega arith) (omega arith) in
      let b7 = magic_byte 3 (4 * place_in w + 7) long m.1.1.1 (omega arith) (omega arith) in
      rw (b6, b7) refl)
      (λ long.
      let c0 = name_byte 0 (4 * place_in w + 16) long (omega arith) (omega arith) in
      let c1 = name_byte 1 (4 * place_in w + 17) long (omega arith) (omega arith) in
      let c2 = name_byte 2 (4 * place_in w + 18) long (omega arith) (omega arith) in
      let c3 = name_byte 3 (4 * place_in w + 19) long (omega arith) (omega arith) in
      rw (c0, c1, c2, c3) refl))

module _ (f g : Numbered) (rs : List Role) (t : Turned f g rs) (h : RolesOf f rs)
    (ok : is_indexed f ≡ true) (w : ℕ) (r : Reached f w) (b : body_role w ≡ role.Binary)
    (holds : holds_data f (place_in w) ≡ true) where
  whole : is_whole f (place_in w) ≡ true
  whole = whole_data f (place_in w) holds

  o : Ordered (parts_in f (place_in w + 1))
  o = ordered f (place_in w) whole

  -- the role of word k
  role_of : (k : ℕ) (x : Role) → k < (word_in f (place_in w) + 3) / 4
      → part_role (parts_in f (place_in w + 1)) k ≡ x → role_at rs (place_in w + 1 + k) ≡ x
  role_of k x lt e = data_role f g rs t h ok w k r b lt ∙ (data_at f (place_in w) k holds ∙ e)

  data_byte : (k c d a z : ℕ) (x : Role) → k < (word_in f (place_in w) + 3) / 4
      → part_role (parts_in f (place_in w + 1)) k ≡ x → c < 4
      → partner x (place_in w + 1 + k) ≡ place_in w + 1 + k → (is_order x && c == 0) ≡ false
      → turned x c ≡ d → 4 * (place_in w + 1 + k) + c ≡ a → 4 * (place_in w + 1 + k) + d ≡ z
      → byte_in g a ≡ byte_in f z
  data_byte k c d a z x lt e l own plain to ea ez =
      byte_to f g rs t (place_in w + 1 + k) c d a z x (data_inside f g rs t h ok w k r b lt) l
      (role_of k x lt e) own plain to ea ez

  long : 32 ≤ word_in f (place_in w)
  long = (headed_from f (place_in w) (whole_from f (place_in w) whole).headed).long

  -- the size of the header
  header_same : data_header g (place_in w + 1) ≡ data_header f (place_in w + 1)
  unfolding unit_in
  header_same =
      let m = one_turns in let l = long in
      let e0 = data_byte 0 0 1 (4 * (place_in w + 1)) (4 * (place_in w + 1) + 1) role.OneUnit (omega
      (arith, l)) refl (omega arith) (omega arith) refl m.0 (omega arith) (omega arith) in
      let e1 = data_byte 0 1 0 (4 * (place_in w + 1) + 1) (4 * (place_in w + 1)) role.OneUnit (omega
      (arith, l)) refl (omega arith) (omega arith) refl m.1.0 (omega arith) (omega arith) in
      rw (t.order, e0, e1) (flips f.big _ _)

  -- the header says the other order
  headed_same : is_headed g (place_in w) ≡ true
  headed_same =
      let was = headed_from f (place_in w) (whole_from f (place_in w) whole).headed in
      let l = long in
      let n = number_same f g rs t h ok w r b in
      let many = t.as_many in
      let i = was.inside in
      let at : 4 * (place_in w + 1 + 2) ≡ 4 * place_in w + 12 = omega arith in
      let flip : byte_in g (4 * place_in w + 12) ≡ 1 - byte_in f (4 * place_in w + 12) =
      ap (byte_in g) (sym at)
      ∙ (t.orders (place_in w + 1 + 2) (data_inside f g rs t h ok w 2 r b (omega (arith, l)))
      (role_of 2 role.Order (omega (arith, l)) refl)
      ∙ ap (λ (a : ℕ). 1 - byte_in f a) at) in
      let e13 = data_byte 2 1 1 (4 * place_in w + 13) (4 * place_in w + 13) role.Order (omega
      (arith, l)) refl (omega arith) refl refl order_turns (omega arith) (omega arith) in
      let e20 = data_byte 4 0 0 (4 * place_in w + 20) (4 * place_in w + 20) role.Bytes (omega
      (arith, l)) (at_4 _ o) (omega arith) refl refl (bytes_turn 0) (omega arith) (omega arith) in
      let low = was.low in let high = was.high in
      headed_to g (place_in w) (record {
        long = omega (arith, l, n);
        inside = omega (arith, i, n, many);
        order = flip ∙ (ap (λ (x : ℕ). 1 - x) was.order ∙ other_one f.big ∙ sym (ap (λ c. cond c 1
            0) t.order));
        ascii = e13 ∙ was.ascii;
        low = omega (arith, low, e20);
        high = omega (arith, high, e20);
      })
    where
      other_one : (c : Bool) → 1 - cond c 1 0 ≡ cond (not c) 1 0
      other_one true = refl
      other_one false = refl

  -- an index
  index_word : (k : ℕ) → data_header f (place_in w + 1) / 4 ≤ k
      → k < data_header f (place_in w + 1) / 4 + index_count f (place_in w + 1)
      → word_in g (place_in w + 1 + k) ≡ word_in f (place_in w + 1 + k)
  index_word k le lt =
      let parts = parts_front f (place_in w + 1) in
      let i = indexed_from f (place_in w) (whole_from f (place_in w) whole).indexed in
      let words = i.words in let end = i.inside in
      let inside : k < (word_in f (place_in w) + 3) / 4 = omega (arith, lt, words, end) in
      let hs = parts.0 in let is = parts.1.0 in
      word_same f g rs t (place_in w + 1 + k) (data_inside f g rs t h ok w k r b inside)
      (ap is_word (role_of k role.Words inside (at_index _ k o (omega (arith, le, hs)) (omega
      (arith, lt, is)))))

  two : 2 ≤ index_count f (place_in w + 1)
  two = (indexed_from f (place_in w) (whole_from f (place_in w) whole).indexed).two

  count_here : word_in g (place_in w + 1 + data_header f (place_in w + 1) / 4)
      ≡ index_count f (place_in w + 1)
  count_here =
      let e = two in
      index_word (data_header f (place_in w + 1) / 4) (omega arith) (omega (arith, e))

  count_same : index_count g (place_in w + 1) ≡ index_count f (place_in w + 1)
  count_same = ap (λ (m : ℕ). word_in g (place_in w + 1 + m / 4)) header_same ∙ count_here

  -- where parts begin
  offset_same : (j : ℕ) → offset_in g (place_in w + 1) j ≡ offset_in f (place_in w + 1) j
  unfolding offset_in
  offset_same j =
      let e = two in
      let c : ℕ = index_count f (place_in w + 1) in
      let k : ℕ = data_header f (place_in w + 1) / 4 + min j (c - 1) in
      let at : place_in w + 1 + data_header f (place_in w + 1) / 4 + min j (c - 1)
      ≡ place_in w + 1 + k = omega arith in
      let index : word_in g (place_in w + 1 + data_header f (place_in w + 1) / 4 + min j (c - 1))
      ≡ word_in f (place_in w + 1 + data_header f (place_in w + 1) / 4 + min j (c - 1)) =
      ap (word_in g) at ∙ (index_word k (omega arith) (omega (arith, e)) ∙ ap (word_in f) (sym at))
      in
      ap (λ (m : ℕ). cond (nat_le m 5) (4 * m) (word_in g (index_from g (place_in w + 1) + min j (m
      - 1)))) count_same
      ∙ (ap (λ (m : ℕ). cond (nat_le c 5) (4 * c) (word_in g (place_in w + 1 + m / 4 + min j (c -
      1)))) header_same
      ∙ ap (cond (nat_le c 5) (4 * c)) index)

  at_same : (j : ℕ) → part_at g (place_in w + 1) j ≡ part_at f (place_in w + 1) j
  at_same j =
      ap (λ (m : ℕ). m / 4 + offset_in g (place_in w + 1) j / 4) header_same
      ∙ ap (λ (m : ℕ). data_header f (place_in w + 1) / 4 + m / 4) (offset_same j)

  indexes_same : has_indexes g (place_in w) ≡ true
  unfolding has_indexes
  indexes_same =
      rw (header_same, count_here, number_same f g rs t h ok w r b) (whole_from f (place_in w)
      whole).indexed

  parts_whole : has_parts g (place_in w) ≡ true
  unfolding has_parts
  parts_whole =
      rw (
        header_same,
        count_here,
        number_same f g rs t h ok w r b,
        offset_same 5,
        offset_same 6,
        offset_same 7,
        offset_same 8,
        offset_same 9,
        offset_same 10,
        offset_same 11,
        offset_same 12,
        offset_same 13,
        offset_same 14,
        offset_same 15,
        offset_same 16,
        offset_same 17,
        offset_same
            18,
        offset_same 19,
      ) (whole_from f (place_in w) whole).parted

  module _ (lt : part_at f (place_in w + 1) 7 < part_at f (place_in w + 1) 8) where
    -- the words of a trie
    abbrev from : ℕ
    from = part_at f (place_in w + 1) 7

    room : (from + 4 ≤ (parts_in f (place_in w + 1)).units)
        × (((parts_in f (place_in w + 1)).signature ≡ from + 1)
        × ((parts_in f (place_in w + 1)).units ≤ (word_in f (place_in w) + 3) / 4))
    room =
        let e = parts_trie f (place_in w + 1) lt in
        let u = o.values in let v = o.fill in let x = o.weights in
        let end = weights_inside f (place_in w) whole in (
          subst (λ (s : Parts). from + 4 ≤ s.units) (sym e) (head_first (has_wide_values f
              (place_in w + 1 + from)) (from + 4 + trie_units f (place_in w + 1 + from) / 2) _ _
              (omega arith)),
          (ap (λ (s : Parts). s.signature) e, omega (arith, u, v, x, end)),
        )
      where
        head_first : (c : Bool) (m x n : ℕ) → n ≤ m → n ≤ cond c m (m + x)
        head_first true m x n le = le
        head_first false m x n le = omega (arith, le)

    table_is : (parts_in f (place_in w + 1)).table ≡ from
    table_is = (parts_front f (place_in w + 1)).1.1

    signature_same : word_in g (place_in w + 1 + from) ≡ word_in f (place_in w + 1 + from)
    signature_same =
        let a = room.0 in let s = room.1.0 in let e = room.1.1 in let i = table_is in
        let inside : from < (word_in f (place_in w) + 3) / 4 = omega (arith, a, e) in
        word_same f g rs t (place_in w + 1 + from) (data_inside f g rs t h ok w from r b inside)
        (ap is_word (role_of from role.Words inside (at_signature _ from o (omega (arith, i)) (omega
        (arith, s)))))

    unit_byte : (k c d a z : ℕ) → 1 ≤ k → k < 4 → c < 4 → turned role.Units c ≡ d
        → 4 * (place_in w + 1 + from + k) + c ≡ a → 4 * (place_in w + 1 + from + k) + d ≡ z
        → byte_in g a ≡ byte_in f z
    unit_byte k c d a z some few l to ea ez =
        let n = room.0 in let s = room.1.0 in let e = room.1.1 in
        data_byte (from + k) c d a z role.Units (omega (arith, n, e, few)) (at_units _ (from + k) o
        (omega (arith, s, some)) (omega (arith, n, few))) l (omega arith) refl to (omega (
          arith,
          ea,
        )) (omega (arith, ez))

    unit_same : (k : ℕ) → 1 ≤ k → k < 4
        → unit_in g (place_in w + 1 + from + k) ≡ unit_in f (place_in w + 1 + from + k)
    unfolding unit_in
    unit_same k some few =
        let m = units_turn in
        let i : ℕ = place_in w + 1 + from + k in
        let e0 = unit_byte k 0 1 (4 * i) (4 * i + 1) some few (omega arith) m.0 (omega arith) (omega
        arith) in
        let e1 = unit_byte k 1 0 (4 * i + 1) (4 * i) some few (omega arith) m.1.0 (omega arith)
        (omega arith) in
        rw (t.order, e0, e1) (flips f.big _ _)

    second_same : (k : ℕ) → 1 ≤ k → k < 4
        → second_unit_in g (place_in w + 1 + from + k) ≡ second_unit_in f (place_in w + 1 + from +
        k)
    unfolding second_unit_in
    second_same k some few =
        let m = units_turn in
        let i : ℕ = place_in w + 1 + from + k in
        let e2 = unit_byte k 2 3 (4 * i + 2) (4 * i + 3) some few (omega arith) m.1.1.0 (omega
        arith) (omega arith) in
        let e3 = unit_byte k 3 2 (4 * i + 3) (4 * i + 2) some few (omega arith) m.1.1.1 (omega
        arith) (omega arith) in
        rw (t.order, e2, e3) (flips f.big _ _)

    trie_same : is_trie g (place_in w + 1 + from) (part_at f (place_in w + 1) 8 - from)
        ≡ is_trie f (place_in w + 1 + from) (part_at f (place_in w + 1) 8 - from)
    unfolding is_trie
    trie_same = rw (
      signature_same,
      unit_same 1 (omega arith) (omega arith),
      unit_same 2 (omega
          arith) (omega arith),
      second_same 1 (omega arith) (omega arith),
    ) refl

    with_same : (s : Parts) → parts_with g (place_in w + 1 + from) s
        ≡ parts_with f (place_in w + 1 + from) s
    with_same s = rw (
      unit_same 1 (omega arith) (omega arith),
      unit_same 2 (omega
          arith) (omega arith),
      second_same 1 (omega arith) (omega arith),
    ) refl

  trie_part_same : is_trie_part g (place_in w + 1) ≡ true
  trie_part_same = elim (cases_lt (part_at f (place_in w + 1) 7) (part_at f (place_in w + 1) 8)) [
    | inl lt ↦ (
        let e : nat_lt (part_at f (place_in w + 1) 7) (part_at f (place_in w + 1) 8) ≡ true =
        grind (arith, nat_tests) in
        let was = (whole_from f (place_in w) whole).trie in
        rw (at_same 7, at_same 8, e) (trie_same lt ∙ (sym (ap (λ c. cond c (is_trie f (place_in w +
        1 + part_at f (place_in w + 1) 7) (part_at f (place_in w + 1) 8 - part_at f (place_in w + 1)
        7)) true) e) ∙ was))
        )
    | inr ge ↦ (
        let e : nat_lt (part_at f (place_in w + 1) 7) (part_at f (place_in w + 1) 8) ≡ false =
        grind (arith, nat_tests) in
        rw (at_same 7, at_same 8, e) refl
        )
  ]

  outer_same : outer_parts g (place_in w + 1) ≡ outer_parts f (place_in w + 1)
  outer_same = rw (
    header_same,
    count_here,
    offset_same 5,
    offset_same 6,
    offset_same 7,
    offset_same
        9,
    offset_same 10,
    offset_same 13,
    offset_same 17,
  ) refl

  -- the parts are the same
  pub parts_same : parts_in g (place_in w + 1) ≡ parts_in f (place_in w + 1)
  unfolding parts_in
  parts_same =
      ap (λ (s : Parts). cond (nat_lt (part_at g (place_in w + 1) 7) (part_at g (place_in w + 1) 8))
      (parts_with g (place_in w + 1 + part_at g (place_in w + 1) 7) s) s) outer_same
      ∙ (ap (λ (n : ℕ). cond (nat_lt n (part_at g (place_in w + 1) 8)) (parts_with g (place_in w + 1
      + n) (outer_parts f (place_in w + 1))) (outer_parts f (place_in w + 1))) (at_same 7)
      ∙ (ap (λ (n : ℕ). cond (nat_lt (part_at f (place_in w + 1) 7) n) (parts_with g (place_in w + 1
      + part_at f (place_in w + 1) 7) (outer_parts f (place_in w + 1))) (outer_parts f (place_in w +
      1))) (at_same 8)
      ∙ chosen (nat_lt (part_at f (place_in w + 1) 7) (part_at f (place_in w + 1) 8)) _ _
      (outer_parts f (place_in w + 1))
      (λ e. with_same (grind (arith, nat_tests)) (outer_parts f (place_in w + 1)))))

  -- the data is whole in the swapped file too
  pub whole_same : is_whole g (place_in w) ≡ true
  whole_same = rw (headed_same, indexes_same, parts_whole, trie_part_same) refl
