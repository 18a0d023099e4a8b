-- UTF-8 keeps the order of characters. Where a text has a character beyond U+FFFF, it has a byte of
-- F0 or more.
use Rattle.std.proofs.Common.{◌≡◌, ℕ, ◌+◌, ◌/◌, ◌%◌, ◌<◌, ◌≤◌, List, [], ◌∷◌, ◌++◌}
use Rattle.std.proofs.Common.{inl, inr, false, refl, sym, ◌∙◌, ap, arith, nat_le}
use Rattle.std.specs.List.{All, flat_map}
use Rattle.std.specs.Cmp.Lexicographic.{slice_cmp, nat_list_cmp_total}
use Rattle.std.specs.Char.Escape.{encode_utf16}
use Rattle.std.specs.Str.{chars, IsUtf8}
use Rattle.std.specs.Ordering.{nat_cmp, ordering_reverse}
use Rattle.std.specs.declared.cmp.Ordering.TheVariants.{Less}
use Rattle.std.proofs.Math.Utf8.{encode, encodes}
use Rattle.std.proofs.lemmas.Bool.{or_parts, cases_lt, leb-false}
use Rattle.std.proofs.lemmas.Bool.Decides.{nat_tests}
use Rattle.std.proofs.lemmas.Cmp.{nat_cmp_total, tied_itself, ranked, by_ranked}
use Rattle.std.proofs.lemmas.List.Elements.{All-nil, All-cons, All-tail}
use Rattle.std.proofs.lemmas.Str.{encode_ascii, encodes-chars}
use Rattle.resb_format.specs.Units.{units}
use Rattle.resb_format.proofs.TextUnits.{low_char}
use Rattle.resb_pool.specs.Inner.Ranks.{has_far, any_far}
use Rattle.resb_pool.proofs.Numbers.{ordering_then_less, ordering_then_equal, three_ways}
use Rattle.resb_pool.proofs.UnitsOrder.{first_same}

-- the bytes of a character, by their number
two_bytes : (c : ℕ) → 0x80 ≤ c → c < 0x800 → encode c ≡ (0xC0 + c / 64) ∷ (0x80 + c % 64) ∷ []
unfolding encode
two_bytes c h k = grind (arith, nat_tests)

three_bytes : (c : ℕ) → 0x800 ≤ c → c < 0x1_0000
    → encode c ≡ (0xE0 + c / 4096) ∷ (0x80 + c / 64 % 64) ∷ (0x80 + c % 64) ∷ []
unfolding encode
three_bytes c h k = grind (arith, nat_tests)

four_bytes : (c : ℕ) → 0x1_0000 ≤ c
    → encode c ≡ (0xF0 + c / 262144) ∷ (0x80 + c / 4096 % 64) ∷ (0x80 + c / 64 % 64)
    ∷ (0x80 + c % 64) ∷ []
unfolding encode
four_bytes c h = grind (arith, nat_tests)

-- a character's first byte is this or greater
record Begins (c least : ℕ) : Type 0 where
  first : ℕ
  rest : List ℕ
  is : encode c ≡ first ∷ rest
  reaches : least ≤ first

begins_four : (c : ℕ) → 0x1_0000 ≤ c → Begins c 0xF0
begins_four c h = record { first = _; rest = _; is = four_bytes c h; reaches = omega arith }

begins_three : (c : ℕ) → 0x800 ≤ c → Begins c 0xE0
begins_three c h = elim (cases_lt c 0x1_0000) [
  | inl k ↦ record { first = _; rest = _; is = three_bytes c h k; reaches = omega arith }
  | inr k ↦ record { first = _; rest = _; is = four_bytes c k; reaches = omega arith }
]

begins_two : (c : ℕ) → 0x80 ≤ c → Begins c 0xC0
begins_two c h = elim (cases_lt c 0x800) [
  | inl k ↦ record { first = _; rest = _; is = two_bytes c h k; reaches = omega arith }
  | inr k ↦
      let b = begins_three c k in
      record { first = b.first; rest = b.rest; is = b.is; reaches = omega (arith, b.reaches) }
]

-- the first byte decides
head_less : (p q : ℕ) (a b : List ℕ) → p < q → slice_cmp nat_cmp (p ∷ a) (q ∷ b) ≡ Less
head_less p q a b l = ordering_then_less (nat_cmp p q) (slice_cmp nat_cmp a b)
    (three_ways (nat_cmp p q ≡ Less) p q (λ e. e) (λ e. absurd (omega (arith, e, l)))
    (λ m. absurd (omega (arith, m, l))))

-- and where it is the same, the others do
head_same : (p q : ℕ) (a b : List ℕ) → p ≡ q
    → slice_cmp nat_cmp (p ∷ a) (q ∷ b) ≡ slice_cmp nat_cmp a b
head_same p q a b e = ap (λ z. slice_cmp nat_cmp (p ∷ a) (z ∷ b)) (sym e)
    ∙ ordering_then_equal (nat_cmp p p) (slice_cmp nat_cmp a b) (tied_itself nat_cmp_total p)

fewer_bytes : (c d p least : ℕ) (r a b : List ℕ) → encode c ≡ p ∷ r → p < least → Begins d least
    → slice_cmp nat_cmp (encode c ++ a) (encode d ++ b) ≡ Less
fewer_bytes c d p least r a b e l k =
    ap (λ z. slice_cmp nat_cmp (z ++ a) (encode d ++ b)) e
    ∙ ap (λ z. slice_cmp nat_cmp (p ∷ (r ++ a)) (z ++ b)) k.is
    ∙ head_less p k.first (r ++ a) (k.rest ++ b) (omega (arith, l, k.reaches))

-- two bytes, whatever stands before them
two_less : (x y : ℕ) (a b : List ℕ) → x < y → x / 64 < y / 64 + 1 → (p q : ℕ)
    → (x / 64 < y / 64 → p < q) → (x / 64 ≡ y / 64 → p ≡ q)
    → slice_cmp nat_cmp (p ∷ (0x80 + x % 64) ∷ a) (q ∷ (0x80 + y % 64) ∷ b) ≡ Less
two_less x y a b l w p q less same = elim (cases_lt (x / 64) (y / 64)) [
  | inl h ↦ head_less p q ((0x80 + x % 64) ∷ a) ((0x80 + y % 64) ∷ b) (less h)
  | inr h ↦
      let e : x / 64 ≡ y / 64 = omega (arith, h, w) in
      head_same p q ((0x80 + x % 64) ∷ a) ((0x80 + y % 64) ∷ b) (same e)
      ∙ head_less (0x80 + x % 64) (0x80 + y % 64) a b (omega (arith, l, e))
]

-- three bytes
three_less : (x y : ℕ) (a b : List ℕ) → x < y → (p q : ℕ)
    → (x / 4096 < y / 4096 → p < q) → (x / 4096 ≡ y / 4096 → p ≡ q)
    → slice_cmp nat_cmp (p ∷ (0x80 + x / 64 % 64) ∷ (0x80 + x % 64) ∷ a)
    (q ∷ (0x80 + y / 64 % 64) ∷ (0x80 + y % 64) ∷ b) ≡ Less
three_less x y a b l p q less same = elim (cases_lt (x / 4096) (y / 4096)) [
  | inl h ↦ head_less p q ((0x80 + x / 64 % 64) ∷ (0x80 + x % 64) ∷ a)
      ((0x80 + y / 64 % 64) ∷ (0x80 + y % 64) ∷ b) (less h)
  | inr h ↦
      let e : x / 4096 ≡ y / 4096 = omega (arith, h, l) in
      head_same p q ((0x80 + x / 64 % 64) ∷ (0x80 + x % 64) ∷ a)
      ((0x80 + y / 64 % 64) ∷ (0x80 + y % 64) ∷ b) (same e)
      ∙ two_less x y a b l (omega (arith, l)) (0x80 + x / 64 % 64) (0x80 + y / 64 % 64)
      (λ m. omega (arith, m, e)) (λ m. omega (arith, m))
]

-- four bytes
four_less : (x y : ℕ) (a b : List ℕ) → x < y
    → slice_cmp nat_cmp ((0xF0 + x / 262144) ∷ (0x80 + x / 4096 % 64) ∷ (0x80 + x / 64 % 64)
    ∷ (0x80 + x % 64) ∷ a)
    ((0xF0 + y / 262144) ∷ (0x80 + y / 4096 % 64) ∷ (0x80 + y / 64 % 64) ∷ (0x80 + y % 64) ∷ b)
    ≡ Less
four_less x y a b l =
    let c : List ℕ = (0x80 + x / 64 % 64) ∷ (0x80 + x % 64) ∷ a in
    let d : List ℕ = (0x80 + y / 64 % 64) ∷ (0x80 + y % 64) ∷ b in
    let m : ℕ = 0x80 + x / 4096 % 64 in
    let n : ℕ = 0x80 + y / 4096 % 64 in
    elim (cases_lt (x / 262144) (y / 262144)) [
      | inl h ↦ head_less (0xF0 + x / 262144) (0xF0 + y / 262144) (m ∷ c) (n ∷ d)
          (omega (arith, h))
      | inr h ↦
          let e : x / 262144 ≡ y / 262144 = omega (arith, h, l) in
          head_same (0xF0 + x / 262144) (0xF0 + y / 262144) (m ∷ c) (n ∷ d) (omega (arith, e))
          ∙ three_less x y a b l m n (λ k. omega (arith, k, e)) (λ k. omega (arith, k))
    ]

-- a lower character has the lower bytes
char_less : (c d : ℕ) (a b : List ℕ) → c < d
    → slice_cmp nat_cmp (encode c ++ a) (encode d ++ b) ≡ Less
char_less c d a b l = elim (cases_lt c 0x80) [
  | inl h ↦ elim (cases_lt d 0x80) [
    | inl k ↦ ap (λ z. slice_cmp nat_cmp (z ++ a) (encode d ++ b)) (encode_ascii c h)
        ∙ ap (λ z. slice_cmp nat_cmp (c ∷ a) (z ++ b)) (encode_ascii d k) ∙ head_less c d a b l
    | inr k ↦ fewer_bytes c d c 0xC0 [] a b (encode_ascii c h) (omega (arith, h)) (begins_two d k)
  ]
  | inr h ↦ elim (cases_lt c 0x800) [
    | inl i ↦ elim (cases_lt d 0x800) [
      | inl k ↦ ap (λ z. slice_cmp nat_cmp (z ++ a) (encode d ++ b)) (two_bytes c h i)
          ∙ ap (λ z. slice_cmp nat_cmp ((0xC0 + c / 64) ∷ (0x80 + c % 64) ∷ a) (z ++ b))
          (two_bytes d (omega (arith, h, l)) k)
          ∙ two_less c d a b l (omega (arith, l)) (0xC0 + c / 64) (0xC0 + d / 64)
          (λ m. omega (arith, m)) (λ m. omega (arith, m))
      | inr k ↦ fewer_bytes c d (0xC0 + c / 64) 0xE0 _ a b (two_bytes c h i) (omega (arith, i))
          (begins_three d k)
    ]
    | inr i ↦ elim (cases_lt c 0x1_0000) [
      | inl j ↦ elim (cases_lt d 0x1_0000) [
        | inl k ↦ ap (λ z. slice_cmp nat_cmp (z ++ a) (encode d ++ b)) (three_bytes c i j)
            ∙ ap (λ z. slice_cmp nat_cmp
            ((0xE0 + c / 4096) ∷ (0x80 + c / 64 % 64) ∷ (0x80 + c % 64) ∷ a) (z ++ b))
            (three_bytes d (omega (arith, i, l)) k)
            ∙ three_less c d a b l (0xE0 + c / 4096) (0xE0 + d / 4096)
            (λ m. omega (arith, m)) (λ m. omega (arith, m))
        | inr k ↦ fewer_bytes c d (0xE0 + c / 4096) 0xF0 _ a b (three_bytes c i j)
            (omega (arith, j)) (begins_four d k)
      ]
      | inr j ↦ ap (λ z. slice_cmp nat_cmp (z ++ a) (encode d ++ b)) (four_bytes c j)
          ∙ ap (λ z. slice_cmp nat_cmp ((0xF0 + c / 262144) ∷ (0x80 + c / 4096 % 64)
          ∷ (0x80 + c / 64 % 64) ∷ (0x80 + c % 64) ∷ a) (z ++ b))
          (four_bytes d (omega (arith, j, l)))
          ∙ four_less c d a b l
    ]
  ]
]

-- a character has a byte
some_byte : (c : ℕ) → Begins c 0
some_byte c = elim (cases_lt c 0x80) [
  | inl h ↦ record { first = c; rest = []; is = encode_ascii c h; reaches = omega arith }
  | inr h ↦
      let b = begins_two c h in
      record { first = b.first; rest = b.rest; is = b.is; reaches = omega arith }
]

below : (x y : ℕ) → nat_cmp x y ≡ Less → x < y
below x y o = by_ranked (x < y) (x ≡ y) (y < x) (nat_cmp x y) (ranked x y (nat_cmp x y) refl)
    (λ e h. h) (λ e h. cc) (λ e h. cc)

bytes_order : (cs ds : List ℕ)
    → slice_cmp nat_cmp (encodes cs) (encodes ds) ≡ slice_cmp nat_cmp cs ds
bytes_order [] [] = refl
bytes_order [] (d ∷ ds) =
    ap (λ z. slice_cmp nat_cmp [] (z ++ encodes ds)) (some_byte d).is
bytes_order (c ∷ cs) [] =
    ap (λ z. slice_cmp nat_cmp (z ++ encodes cs) []) (some_byte c).is
bytes_order (c ∷ cs) (d ∷ ds) = three_ways
    (slice_cmp nat_cmp (encodes (c ∷ cs)) (encodes (d ∷ ds)) ≡ slice_cmp nat_cmp (c ∷ cs) (d ∷ ds))
    c d
    (λ o. char_less c d (encodes cs) (encodes ds) (below c d o)
    ∙ sym (ordering_then_less (nat_cmp c d) (slice_cmp nat_cmp cs ds) o))
    (λ e. ap (λ z. slice_cmp nat_cmp (encode c ++ encodes cs) (encode z ++ encodes ds)) (sym e)
    ∙ first_same (encode c) (encodes cs) (encodes ds) ∙ bytes_order cs ds
    ∙ sym (head_same c d cs ds e))
    (λ m. nat_list_cmp_total.antisymm (encodes (c ∷ cs)) (encodes (d ∷ ds))
    ∙ ap ordering_reverse (char_less d c (encodes ds) (encodes cs) m)
    ∙ sym (nat_list_cmp_total.antisymm (c ∷ cs) (d ∷ ds)
    ∙ ap ordering_reverse (head_less d c ds cs m)))

-- texts compare by their bytes as by their characters
pub text_order : (s t : List ℕ) → IsUtf8 s → IsUtf8 t
    → slice_cmp nat_cmp s t ≡ slice_cmp nat_cmp (chars s) (chars t)
text_order s t u v = ap (λ z. slice_cmp nat_cmp z t) (sym (encodes-chars s u))
    ∙ ap (slice_cmp nat_cmp (encodes (chars s))) (sym (encodes-chars t v))
    ∙ bytes_order (chars s) (chars t)

-- without a byte of F0 or more a text's units are its characters
far_behind : (xs ys : List ℕ) → has_far (xs ++ ys) ≡ false → has_far ys ≡ false
far_behind [] ys e = e
far_behind (x ∷ xs) ys e = far_behind xs ys (or_parts (nat_le 0xF0 x) (has_far (xs ++ ys)) e).1

near_chars : (cs : List ℕ) → has_far (encodes cs) ≡ false → flat_map encode_utf16 cs ≡ cs
near_chars [] e = refl
near_chars (c ∷ cs) e = elim (cases_lt c 0x1_0000) [
  | inl l ↦ ap (λ z. z ++ flat_map encode_utf16 cs) (low_char c l)
      ∙ ap (λ z. c ∷ z) (near_chars cs (far_behind (encode c) (encodes cs) e))
  | inr l ↦
      let b = begins_four c l in
      let f : has_far (b.first ∷ (b.rest ++ encodes cs)) ≡ false =
      ap (λ z. has_far (z ++ encodes cs)) (sym b.is) ∙ e in
      let m = leb-false 0xF0 b.first
      (or_parts (nat_le 0xF0 b.first) (has_far (b.rest ++ encodes cs)) f).0 in
      absurd (omega (arith, m, b.reaches))
]

pub near_text : (t : List ℕ) → IsUtf8 t → has_far t ≡ false → units t ≡ chars t
near_text t u e = near_chars (chars t) (ap has_far (encodes-chars t u) ∙ e)

pub near_texts : (T : List (List ℕ)) → All IsUtf8 T → any_far T ≡ false
    → All (λ t. units t ≡ chars t) T
near_texts [] u e = All-nil (λ t. units t ≡ chars t)
near_texts (t ∷ T) u e =
    let p = or_parts (has_far t) (any_far T) e in
    All-cons (λ t. units t ≡ chars t) t T (near_text t (u 0 t (omega arith)) p.0)
    (near_texts T (All-tail IsUtf8 t T u) p.1)
