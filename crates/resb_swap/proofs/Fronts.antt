-- Bytes from the front of a file, each of its mirror place: the header says the other order and the
-- size that it said, and mirrored once more the bytes are the file's.
use Rattle.std.proofs.Common.{◌≡◌, ◌≢◌, ℕ, ◌+◌, ◌-◌, ◌*◌, ◌<◌, ◌≤◌, List, Bool}
use Rattle.std.proofs.Common.{true, false, cond, not, ◌==◌}
use Rattle.std.proofs.Common.{refl, sym, ap, ◌∙◌, arith, inl, inr, get_or}
use Rattle.std.proofs.lemmas.Bool.{cases_eq, cases_Bool}
use Rattle.std.proofs.lemmas.Bool.Decides.{nat_tests}
use Rattle.resb_swap.specs.Numbers.{Numbered, header_size, is_big, byte_in, word_in}
use Rattle.resb_swap.specs.Swapped.{mirror_place, mirrored_byte, header_place}
use Rattle.resb_swap.specs.declared.role.Role.{Role}
use Rattle.resb_swap.specs.Swapped.{names_order}
use Rattle.resb_swap.specs.Inner.Mirror.{Paired, AreOrders}
use Rattle.resb_swap.proofs.Places.{mirrors, head_place, head_order}

-- so many bytes of the second file are mirrored from the first, whose header is one
pub record Front (a b : List ℕ) (rs : List Role) (n : ℕ) : Type 0 where
  pub long : 24 ≤ n
  pub size : 24 ≤ header_size a
  pub paired : Paired rs
  pub orders : AreOrders rs a
  pub mirrored : (p : ℕ) → p < n → get_or b p 0 ≡ mirrored_byte rs a p

-- one of two orders becomes the other
other_order : (x : ℕ) → x ≤ 1 → (1 - x == 1) ≡ not (x == 1)
other_order x le = elim (cases_eq x 0) [
  | inl e ↦ rw e refl
  | inr ne ↦ (let e : x ≡ 1 = omega (arith, le, ne) in rw e refl)
]

pub flips : (b : Bool) (x y : ℕ) → cond (not b) x y ≡ cond b y x
flips true x y = refl
flips false x y = refl

module _ (a b : List ℕ) (rs : List Role) (n : ℕ) (s : Front a b rs n) where
  pub moved : (p : ℕ) → p < n → names_order rs (header_size a) p ≡ false
      → get_or b p 0 ≡ get_or a (mirror_place rs (header_size a) p) 0
  moved p lt none =
      s.mirrored p lt ∙ ap (λ t. cond t (1 - get_or a p 0) (get_or a (mirror_place rs (header_size
      a) p) 0)) none

  pub flipped : (p : ℕ) → p < n → names_order rs (header_size a) p ≡ true
      → get_or b p 0 ≡ 1 - get_or a p 0
  flipped p lt is =
      s.mirrored p lt ∙ ap (λ t. cond t (1 - get_or a p 0) (get_or a (mirror_place rs (header_size
      a) p) 0)) is

  pub order : get_or b 8 0 ≡ 1 - get_or a 8 0
  order =
      let l = s.long in let size = s.size in
      flipped 8 (omega (arith, l)) (head_order rs (header_size a) 8 (omega (arith, size)))

  known : get_or a 8 0 ≤ 1
  known = let size = s.size in s.orders 8 (head_order rs (header_size a) 8 (omega (arith, size)))

  moved_head : (p : ℕ) → p < 24 → p ≢ 8 → get_or b p 0 ≡ get_or a (header_place p) 0
  moved_head p lt ne =
      let l = s.long in let size = s.size in
      let e : (p == 8) ≡ false = grind (arith, nat_tests) in
      let less : p < header_size a = omega (arith, lt, size) in
      moved p (omega (arith, lt, l)) (head_order rs (header_size a) p less ∙ e)
      ∙ ap (λ q. get_or a q 0) (head_place rs (header_size a) p less)

  pub kept : (p : ℕ) → p < 24 → p ≢ 8 → header_place p ≡ p → get_or b p 0 ≡ get_or a p 0
  kept p lt ne e = moved_head p lt ne ∙ ap (λ q. get_or a q 0) e

  pub other : is_big b ≡ not (is_big a)
  other = ap (λ (x : ℕ). x == 1) order ∙ other_order (get_or a 8 0) known

  pub size_same : header_size b ≡ header_size a
  size_same =
      let e0 = moved_head 0 (omega arith) (omega arith) in
      let e1 = moved_head 1 (omega arith) (omega arith) in
      ap (λ t. cond t (get_or b 1 0 + 256 * get_or b 0 0) (get_or b 0 0 + 256 * get_or b 1 0)) other
      ∙ (ap (λ (x : ℕ). cond (not (is_big a)) (get_or b 1 0 + 256 * x) (x + 256 * get_or b 1 0)) e0
      ∙ (ap (λ (y : ℕ). cond (not (is_big a)) (y + 256 * get_or a 1 0) (get_or a 1 0 + 256 * y)) e1
      ∙ flips (is_big a) (get_or a 0 0 + 256 * get_or a 1 0) (get_or a 1 0 + 256 * get_or a 0 0)))

  back_by : (p : ℕ) → mirrored_byte rs b p ≡ cond (names_order rs (header_size a) p)
      (1 - get_or b p 0) (get_or b (mirror_place rs (header_size a) p) 0)
  back_by p = ap (λ (m : ℕ). cond (names_order rs m p) (1 - get_or b p 0) (get_or b (mirror_place rs
      m p) 0)) size_same

  pub moved_back : (p : ℕ) → p < n → mirror_place rs (header_size a) p < n
      → get_or a p 0 ≡ mirrored_byte rs b p
  moved_back p inside lt = elim (cases_Bool (names_order rs (header_size a) p)) [
    | inl is ↦ (
        let o = flipped p inside is in let k = s.orders p is in
        let x : get_or a p 0 ≡ 1 - get_or b p 0 = omega (arith, o, k) in
        x ∙ sym (back_by p ∙ ap (λ t. cond t (1 - get_or b p 0) (get_or b (mirror_place rs
        (header_size a) p) 0)) is)
        )
    | inr none ↦ (
        let m = mirrors rs (header_size a) p (header_size a) s.paired s.size (omega arith) in
        let q : ℕ = mirror_place rs (header_size a) p in
        let there = moved q lt (m.not_order none) ∙ ap (λ r. get_or a r 0) m.back in
        sym there ∙ sym (back_by p ∙ ap (λ t. cond t (1 - get_or b p 0) (get_or b (mirror_place rs
        (header_size a) p) 0)) none)
        )
  ]

-- a number whose four bytes stand the other way round in the other order
pub word_turned : (f g : Numbered) (i : ℕ) → g.big ≡ not f.big
    → byte_in g (4 * i) ≡ byte_in f (4 * i + 3) → byte_in g (4 * i + 1) ≡ byte_in f (4 * i + 2)
    → byte_in g (4 * i + 2) ≡ byte_in f (4 * i + 1) → byte_in g (4 * i + 3) ≡ byte_in f (4 * i)
    → word_in g i ≡ word_in f i
unfolding word_in
word_turned f g i o e0 e1 e2 e3 = rw (o, e0, e1, e2, e3) (flips f.big _ _)
