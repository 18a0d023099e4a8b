-- Mirror places: a place goes to one inside the file, and back to itself.
use Rattle.std.proofs.Common.{◌≡◌, ◌≢◌, ℕ, ◌+◌, ◌-◌, ◌*◌, ◌/◌, ◌%◌, ◌<◌, ◌≤◌, List, [], ◌∷◌, ◌++◌}
use Rattle.std.proofs.Common.{length, true, false, ◌==◌, ◌&&◌, nat_lt, ◌⊎◌}
use Rattle.std.proofs.Common.{refl, sym, ap, ◌∙◌, arith, inl, inr, get_or, subst}
use Rattle.std.proofs.lemmas.Bool.{cases_lt, cases_eq}
use Rattle.std.proofs.lemmas.Bool.Decides.{nat_tests}
use Rattle.std.proofs.lemmas.List.{get_or_past, get_or_push}
use Rattle.std.proofs.Math.ListN.{get_or-append}
use Rattle.resb_swap.specs.Roles.{role_at}
use Rattle.resb_swap.specs.Swapped.{turned, partner, header_place, mirror_place, names_order}
use Rattle.resb_swap.specs.Swapped.{is_order}
use Rattle.resb_swap.specs.Inner.Mirror.{Paired}
use Rattle.resb_swap.specs.declared.role.Role.{Role}
use Rattle.resb_swap.specs.declared.role.Role.TheVariants as role

-- one of four numbers
pub four : (P : ℕ → Type 0) → P 0 → P 1 → P 2 → P 3 → (c : ℕ) → c < 4 → P c
four P a b c d n lt = elim (cases_eq n 0) [
  | inl e ↦ subst P (sym e) a
  | inr n0 ↦ elim (cases_eq n 1) [
    | inl e ↦ subst P (sym e) b
    | inr n1 ↦ elim (cases_eq n 2) [
      | inl e ↦ subst P (sym e) c
      | inr n2 ↦ (let e : n ≡ 3 = omega (arith, n0, n1, n2, lt) in subst P (sym e) d)
    ]
  ]
]

-- a byte goes to one of the same word, and back
abbrev Turns : Role → ℕ → Type 0
Turns r c = (turned r c < 4) × (turned r (turned r c) ≡ c)

pub turns : (r : Role) (c : ℕ) → c < 4 → Turns r c
unfolding turned
turns role.Free c lt = (lt, refl)
turns role.Bytes c lt = (lt, refl)
turns role.Order c lt = (lt, refl)
turns role.Units c lt =
    four (Turns role.Units) (omega arith, refl) (omega arith, refl) (omega arith, refl) (
      omega arith,
      refl,
    ) c lt
turns role.Words c lt =
    four (Turns role.Words) (omega arith, refl) (omega arith, refl) (omega arith, refl) (
      omega arith,
      refl,
    ) c lt
turns role.OneUnit c lt =
    four (Turns role.OneUnit) (omega arith, refl) (omega arith, refl) (omega arith, refl) (
      omega arith,
      refl,
    ) c lt
turns role.First c lt =
    four (Turns role.First) (omega arith, refl) (omega arith, refl) (omega arith, refl) (
      omega arith,
      refl,
    ) c lt
turns role.Second c lt =
    four (Turns role.Second) (omega arith, refl) (omega arith, refl) (omega arith, refl) (
      omega arith,
      refl,
    ) c lt
turns role.Text c lt =
    four (Turns role.Text) (omega arith, refl) (omega arith, refl) (omega arith, refl) (
      omega arith,
      refl,
    ) c lt
turns role.Binary c lt =
    four (Turns role.Binary) (omega arith, refl) (omega arith, refl) (omega arith, refl) (
      omega arith,
      refl,
    ) c lt
turns role.Table c lt =
    four (Turns role.Table) (omega arith, refl) (omega arith, refl) (omega arith, refl) (
      omega arith,
      refl,
    ) c lt
turns role.Table32 c lt =
    four (Turns role.Table32) (omega arith, refl) (omega arith, refl) (omega arith, refl) (
      omega arith,
      refl,
    ) c lt
turns role.Array c lt =
    four (Turns role.Array) (omega arith, refl) (omega arith, refl) (omega arith, refl) (
      omega arith,
      refl,
    ) c lt
turns role.Vector c lt =
    four (Turns role.Vector) (omega arith, refl) (omega arith, refl) (omega arith, refl) (
      omega arith,
      refl,
    ) c lt

pub turned_small : (r : Role) (c : ℕ) → c < 4 → turned r c < 4
turned_small r c lt = (turns r c lt).0

pub free_stays : (c : ℕ) → turned role.Free c ≡ c
unfolding turned
free_stays c = refl

-- the place of a byte of the body
pub body_place : (rs : List Role) (h i c : ℕ) → c < 4
    → mirror_place rs h (h + (4 * i + c))
    ≡ h + (4 * partner (role_at rs i) i + turned (role_at rs i) c)
unfolding mirror_place
body_place rs h i c lt =
    let behind : nat_lt (h + (4 * i + c)) h ≡ false = grind (arith, nat_tests) in
    let word : (h + (4 * i + c) - h) / 4 ≡ i = omega arith in
    let byte : (h + (4 * i + c) - h) % 4 ≡ c = omega arith in
    rw (behind, word, byte) refl

-- that of a byte of a word which is its own partner
pub plain_place : (rs : List Role) (h i c : ℕ) (r : Role) → c < 4 → role_at rs i ≡ r
    → partner r i ≡ i → mirror_place rs h (h + (4 * i + c)) ≡ h + (4 * i + turned r c)
plain_place rs h i c r lt e own =
    body_place rs h i c lt
    ∙ (ap (λ (x : Role). h + (4 * partner x i + turned x c)) e
    ∙ ap (λ (j : ℕ). h + (4 * j + turned r c)) own)

-- whether a byte of the body names an order
pub body_order : (rs : List Role) (h i c : ℕ) → c < 4
    → names_order rs h (h + (4 * i + c)) ≡ (is_order (role_at rs i) && c == 0)
unfolding names_order
body_order rs h i c lt =
    let behind : nat_lt (h + (4 * i + c)) h ≡ false = grind (arith, nat_tests) in
    let word : (h + (4 * i + c) - h) / 4 ≡ i = omega arith in
    let byte : (h + (4 * i + c) - h) % 4 ≡ c = omega arith in
    rw (behind, word, byte) refl

pub head_order : (rs : List Role) (h p : ℕ) → p < h → names_order rs h p ≡ (p == 8)
unfolding names_order
head_order rs h p lt = let is : nat_lt p h ≡ true = grind (arith, nat_tests) in rw is refl

pub head_place : (rs : List Role) (h p : ℕ) → p < h → mirror_place rs h p ≡ header_place p
unfolding mirror_place
head_place rs h p lt = let is : nat_lt p h ≡ true = grind (arith, nat_tests) in rw is refl

-- what holds of the eight bytes that may move, and of all others, holds of each
pub eight : (P : ℕ → Type 0) → P 0 → P 1 → P 4 → P 5 → P 6 → P 7
    → ((p : ℕ) → header_place p ≡ p → P p) → (p : ℕ) → P p
eight P a b c d e f other p = elim (cases_eq p 0) [
  | inl q ↦ subst P (sym q) a
  | inr n0 ↦ elim (cases_eq p 1) [
    | inl q ↦ subst P (sym q) b
    | inr n1 ↦ elim (cases_eq p 4) [
      | inl q ↦ subst P (sym q) c
      | inr n4 ↦ elim (cases_eq p 5) [
        | inl q ↦ subst P (sym q) d
        | inr n5 ↦ elim (cases_eq p 6) [
          | inl q ↦ subst P (sym q) e
          | inr n6 ↦ elim (cases_eq p 7) [
            | inl q ↦ subst P (sym q) f
            | inr n7 ↦ other p (stays p n0 n1 n4 n5 n6 n7)
          ]
        ]
      ]
    ]
  ]
]
  where
    stays : (p : ℕ) → p ≢ 0 → p ≢ 1 → p ≢ 4 → p ≢ 5 → p ≢ 6 → p ≢ 7 → header_place p ≡ p
    stays p n0 n1 n4 n5 n6 n7 =
        let e0 : (p == 0) ≡ false = grind (arith, nat_tests) in
        let e1 : (p == 1) ≡ false = grind (arith, nat_tests) in
        let e4 : (p == 4) ≡ false = grind (arith, nat_tests) in
        let e5 : (p == 5) ≡ false = grind (arith, nat_tests) in
        let e6 : (p == 6) ≡ false = grind (arith, nat_tests) in
        let e7 : (p == 7) ≡ false = grind (arith, nat_tests) in
        rw (e0, e1, e4, e5, e6, e7) refl

-- a byte of the header stays in it, goes back, and byte 8 is its own
abbrev Stays : ℕ → Type 0
Stays p = ((h : ℕ) → 24 ≤ h → p < h → header_place p < h) × (header_place (header_place p) ≡ p)
    × (p ≢ 8 → header_place p ≢ 8)

pub header_stays : (p : ℕ) → Stays p
header_stays = eight Stays
    ((λ h l lt. omega arith), refl, (λ n. omega arith)) (
      (λ h l lt. omega arith),
      refl,
      (λ n. omega
          arith),
    )
    ((λ h l lt. omega arith), refl, (λ n. omega arith)) (
      (λ h l lt. omega arith),
      refl,
      (λ n. omega
          arith),
    )
    ((λ h l lt. omega arith), refl, (λ n. omega arith)) (
      (λ h l lt. omega arith),
      refl,
      (λ n. omega
          arith),
    )
    (λ p e. (
      λ h l lt. subst (λ (q : ℕ). q < h) (sym e) lt,
      ap header_place e ∙ e,
      λ n f. n (sym e
          ∙ f),
    ))

first_some : role.First ≢ role.Free
first_some = λ e. cc

second_some : role.Second ≢ role.Free
second_some = λ e. cc

-- a role is that of the first half of a number of 64 bits, of the second, or of a word alone
abbrev Halves : Role → Type 0
Halves r = (r ≡ role.First) ⊎ ((r ≡ role.Second) ⊎ ((i : ℕ) → partner r i ≡ i))

halves : (r : Role) → Halves r
halves role.First = inl refl
halves role.Second = inr (inl refl)
halves role.Free = inr (inr (λ i. refl))
halves role.Bytes = inr (inr (λ i. refl))
halves role.Units = inr (inr (λ i. refl))
halves role.Words = inr (inr (λ i. refl))
halves role.OneUnit = inr (inr (λ i. refl))
halves role.Order = inr (inr (λ i. refl))
halves role.Text = inr (inr (λ i. refl))
halves role.Binary = inr (inr (λ i. refl))
halves role.Table = inr (inr (λ i. refl))
halves role.Table32 = inr (inr (λ i. refl))
halves role.Array = inr (inr (λ i. refl))
halves role.Vector = inr (inr (λ i. refl))

-- a word and its partner
record Meets (rs : List Role) (i : ℕ) : Type 0 where
  back : partner (role_at rs (partner (role_at rs i) i)) (partner (role_at rs i) i) ≡ i
  turned_back : (c : ℕ) → c < 4
      → turned (role_at rs (partner (role_at rs i) i)) (turned (role_at rs i) c) ≡ c
  order : is_order (role_at rs (partner (role_at rs i) i)) ≡ is_order (role_at rs i)
  inside : i < length rs → partner (role_at rs i) i < length rs
  outside : role_at rs i ≡ role.Free → partner (role_at rs i) i ≡ i

-- of a word by its role, its partner and the role of that
meets_by : (rs : List Role) (i j : ℕ) (r s : Role) → role_at rs i ≡ r → partner r i ≡ j
    → role_at rs j ≡ s → partner s j ≡ i → ((c : ℕ) → c < 4 → turned s (turned r c) ≡ c)
    → is_order s ≡ is_order r → (i < length rs → j < length rs) → (r ≡ role.Free → j ≡ i)
    → Meets rs i
meets_by rs i j r s er ej es back turn order inside outside =
    let at : partner (role_at rs i) i ≡ j = ap (λ (x : Role). partner x i) er ∙ ej in
    let its : role_at rs (partner (role_at rs i) i) ≡ s = ap (role_at rs) at ∙ es in
    record {
      back = ap (λ (x : Role). partner x (partner (role_at rs i) i)) its ∙ (ap (partner s) at ∙
          back);
      turned_back = λ c lt. ap (λ (x : Role). turned x (turned (role_at rs i) c)) its
          ∙ (ap (λ (x : Role). turned s (turned x c)) er ∙ turn c lt);
      order = ap is_order its ∙ (order ∙ sym (ap is_order er));
      inside = λ lt. subst (λ (n : ℕ). n < length rs) (sym at) (inside lt);
      outside = λ free. at ∙ outside (sym er ∙ free);
    }

word_back : (c : ℕ) → c < 4 → 3 - (3 - c) ≡ c
word_back c lt = omega (arith, lt)

has_place : (rs : List Role) (i : ℕ) (r : Role) → role_at rs i ≡ r → r ≢ role.Free → i < length rs
has_place rs i r e some = elim (cases_lt i (length rs)) [
  | inl lt ↦ lt
  | inr ge ↦ absurd (some (sym e ∙ get_or_past rs i role.Free ge))
]

meets : (rs : List Role) → Paired rs → (i : ℕ) → Meets rs i
unfolding turned
meets rs h i = elim (halves (role_at rs i)) [
  | inl first ↦ (
      let other = h.first i first in
      meets_by rs i (i + 1) role.First role.Second first refl other (omega arith) word_back refl
      (λ lt. has_place rs (i + 1) role.Second other (λ e. cc)) (λ e. absurd (first_some e))
      )
  | inr more ↦ elim more [
    | inl second ↦ (
        let other = h.second i second in
        let some = other.0 in
        meets_by rs i (i - 1) role.Second role.First second refl other.1 (omega (arith, some))
        word_back refl (λ lt. has_place rs (i - 1) role.First other.1 (λ e. cc))
        (λ e. absurd (second_some e))
        )
    | inr alone ↦ meets_by rs i i (role_at rs i) (role_at rs i) refl (alone i) refl (alone i)
        (λ c lt. (turns (role_at rs i) c lt).1) refl (λ lt. lt) (λ e. refl)
  ]
]

-- where a word names an order, only its first byte does, and that stays
order_turned : (r : Role) (c : ℕ) → (is_order r && c == 0) ≡ false
    → (is_order r && turned r c == 0) ≡ false
unfolding turned
order_turned role.Order c h = h
order_turned role.Free c h = refl
order_turned role.Bytes c h = refl
order_turned role.Units c h = refl
order_turned role.Words c h = refl
order_turned role.OneUnit c h = refl
order_turned role.First c h = refl
order_turned role.Second c h = refl
order_turned role.Text c h = refl
order_turned role.Binary c h = refl
order_turned role.Table c h = refl
order_turned role.Table32 c h = refl
order_turned role.Array c h = refl
order_turned role.Vector c h = refl

-- a mirror place, by what it is
pub record Mirrors (rs : List Role) (h p n : ℕ) : Type 0 where
  pub inside : p < n → length rs ≡ (n - h) / 4 → mirror_place rs h p < n
  pub back : mirror_place rs h (mirror_place rs h p) ≡ p
  pub not_order : names_order rs h p ≡ false → names_order rs h (mirror_place rs h p) ≡ false

body_inside : (rs : List Role) (h i c n : ℕ) → Paired rs → c < 4 → h + (4 * i + c) < n
    → length rs ≡ (n - h) / 4
    → h + (4 * partner (role_at rs i) i + turned (role_at rs i) c) < n
body_inside rs h i c n paired lt inside whole = elim (cases_lt i (length rs)) [
  | inl has ↦ (
      let t = turned_small (role_at rs i) c lt in
      let there = (meets rs paired i).inside has in omega (arith, there, whole, t)
      )
  | inr behind ↦ (
      let free : role_at rs i ≡ role.Free = get_or_past rs i role.Free behind in
      let same : turned (role_at rs i) c ≡ c = ap (λ r. turned r c) free ∙ free_stays c in
      let at = (meets rs paired i).outside free in
      omega (arith, same, at, inside)
      )
]

pub body_mirrors : (rs : List Role) (h i c n : ℕ) → Paired rs → c < 4
    → Mirrors rs h (h + (4 * i + c)) n
body_mirrors rs h i c n paired lt =
    let there = body_place rs h i c lt in
    let t = turned_small (role_at rs i) c lt in
    let m = meets rs paired i in
    record {
      inside = λ inside whole. rw there (body_inside rs h i c n paired lt inside whole);
      back = rw there (body_place rs h (partner (role_at rs i) i) (turned (role_at rs i) c) t
          ∙ (ap (λ (j : ℕ). h + (4 * j + turned (role_at rs (partner (role_at rs i) i)) (turned
          (role_at rs i) c))) m.back
          ∙ ap (λ (b : ℕ). h + (4 * i + b)) (m.turned_back c lt)));
      not_order = λ none. ap (names_order rs h) there
          ∙ (body_order rs h (partner (role_at rs i) i) (turned (role_at rs i) c) t
          ∙ (ap (λ b. b && turned (role_at rs i) c == 0) m.order
          ∙ order_turned (role_at rs i) c (sym (body_order rs h i c lt) ∙ none)));
    }

header_no_order : (p : ℕ) → (p == 8) ≡ false → (header_place p == 8) ≡ false
header_no_order p h =
    let s = (header_stays p).2 in
    let ne : p ≢ 8 = grind (arith, nat_tests) in
    let other : header_place p ≢ 8 = s ne in grind (arith, nat_tests)

pub head_mirrors : (rs : List Role) (h p n : ℕ) → 24 ≤ h → h ≤ n → p < h → Mirrors rs h p n
head_mirrors rs h p n l le lt =
    let there = head_place rs h p lt in
    let s = header_stays p in
    let in_head = s.0 h l lt in
    record {
      inside = λ inside whole. rw there (omega (arith, in_head, le));
      back = rw there (head_place rs h (header_place p) in_head ∙ s.1);
      not_order = λ none. ap (names_order rs h) there
          ∙ (head_order rs h (header_place p) in_head
          ∙ header_no_order p (sym (head_order rs h p lt) ∙ none));
    }

pub mirrors : (rs : List Role) (h p n : ℕ) → Paired rs → 24 ≤ h → h ≤ n → Mirrors rs h p n
mirrors rs h p n paired l le = elim (cases_lt p h) [
  | inl lt ↦ head_mirrors rs h p n l le lt
  | inr ge ↦ (
      let e : h + (4 * ((p - h) / 4) + (p - h) % 4) ≡ p = omega arith in
      let lt : (p - h) % 4 < 4 = omega arith in
      let P : ℕ → Type 0 = λ q. Mirrors rs h q n in
      subst P e (body_mirrors rs h ((p - h) / 4) ((p - h) % 4) n paired lt)
      )
]

-- one more byte
pub byte_more : (to new : List ℕ) (n x : ℕ) (F : ℕ → ℕ) → new ≡ to ++ x ∷ [] → length to ≡ n
    → x ≡ F n → ((p : ℕ) → p < n → get_or to p 0 ≡ F p) → (p : ℕ) → p < n + 1 → get_or new p 0 ≡ F p
byte_more to new n x F e el ex each p lt = rw e (elim (cases_lt p n) [
  | inl less ↦ get_or-append to (x ∷ []) 0 p (subst (λ (m : ℕ). p < m) (sym el) less) ∙ each p less
  | inr ge ↦ (let same : p ≡ n = omega (arith, lt, ge) in rw same (get_or_push to x 0 n el ∙ ex))
])

-- the place is told by the parts of one
pub head_inside : (rs : List Role) (h p n q : ℕ) → q ≡ header_place p → 24 ≤ h → h ≤ n → p < h → q
    < n
head_inside rs h p n q e l le lt =
    let s = (header_stays p).0 h l lt in rw e (omega (arith, s, le))

pub told_place : (rs : List Role) (h p n i j t : ℕ) → Paired rs → 24 ≤ h → h ≤ n → h ≤ p → p < n
    → length rs ≡ (n - h) / 4 → i ≡ (p - h) / 4 → j ≡ partner (role_at rs i) i
    → t ≡ turned (role_at rs i) ((p - h) % 4)
    → (h + (4 * j + t) ≡ mirror_place rs h p) × (h + (4 * j + t) < n)
told_place rs h p n i j t paired l le ge inside whole ei ej et =
    let e : h + (4 * ((p - h) / 4) + (p - h) % 4) ≡ p = omega arith in
    let lt : (p - h) % 4 < 4 = omega arith in
    let is = ap (mirror_place rs h) (sym e) ∙ body_place rs h ((p - h) / 4) ((p - h) % 4) lt in
    let same : h + (4 * j + t) ≡ mirror_place rs h p = rw (ej, et, ei) (sym is) in
    (same, subst (λ (q : ℕ). q < n) (sym same) ((mirrors rs h p n paired l le).inside inside whole))

-- a place behind the last whole word is its own
pub last_place : (rs : List Role) (h p : ℕ) → h ≤ p → length rs ≤ (p - h) / 4
    → p ≡ mirror_place rs h p
last_place rs h p ge past =
    let e : h + (4 * ((p - h) / 4) + (p - h) % 4) ≡ p = omega arith in
    let lt : (p - h) % 4 < 4 = omega arith in
    let free : role_at rs ((p - h) / 4) ≡ role.Free = get_or_past rs ((p - h) / 4) role.Free past in
    sym (ap (mirror_place rs h) (sym e) ∙ (plain_place rs h ((p - h) / 4) ((p - h) % 4) role.Free lt
    free refl
    ∙ (ap (λ (t : ℕ). h + (4 * ((p - h) / 4) + t)) (free_stays ((p - h) % 4)) ∙ e)))
