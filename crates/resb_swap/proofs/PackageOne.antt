-- A package has one swapped package.
use Rattle.std.proofs.Common.{◌≡◌, ℕ, zero, suc, ◌+◌, ◌-◌, ◌<◌, ◌≤◌, List, length, cond}
use Rattle.std.proofs.Common.{sym, ap, ◌∙◌, arith, inl, inr, get_or, subst, take, drop}
use Rattle.std.proofs.lemmas.Bool.{cases_lt}
use Rattle.std.proofs.lemmas.Grind.{same_number_lists}
use Rattle.std.proofs.lemmas.List.{get_or_past, get_or-take, get_or-drop}
use Rattle.resb_swap.specs.Numbers.{Numbered, numbered, header_size, word_count}
use Rattle.resb_swap.specs.Roles.{role_at}
use Rattle.resb_swap.specs.Swapped.{mirror_place, mirrored_byte, names_order}
use Rattle.resb_swap.specs.Packages.{item_count, item_place, item_of, TableRoles, IsSwappedPackage}
use Rattle.resb_swap.specs.Laws.{OnePackageSwap}
use Rattle.resb_swap.specs.declared.role.Role.{Role}
use Rattle.resb_swap.specs.declared.role.Role.TheVariants as role
use Rattle.resb_swap.proofs.PackageLemmas.{last_place}
use Rattle.resb_swap.proofs.Swaps.{one, order_same, place_same}

-- two lists of roles of one table
table_one : (f : Numbered) (xs ys : List Role) → TableRoles f xs → TableRoles f ys → (i : ℕ)
    → role_at xs i ≡ role_at ys i
table_one f xs ys hx hy i = elim (cases_lt i (word_count f)) [
  | inl lt ↦ hx.roles i lt ∙ sym (hy.roles i lt)
  | inr past ↦ get_or_past xs i role.Free (let e = hx.each in omega (arith, past, e))
      ∙ sym (get_or_past ys i role.Free (let e = hy.each in omega (arith, past, e)))
]

byte_one : (xs ys : List Role) (a : List ℕ) (p : ℕ) → ((i : ℕ) → role_at xs i ≡ role_at ys i)
    → mirrored_byte xs a p ≡ mirrored_byte ys a p
byte_one xs ys a p e =
    ap (λ c. cond c (1 - get_or a p 0) (get_or a (mirror_place xs (header_size a) p) 0))
    (order_same xs ys (header_size a) p e)
    ∙ ap (λ q. cond (names_order ys (header_size a) p) (1 - get_or a p 0) (get_or a q 0))
    (place_same xs ys (header_size a) p e)

-- the item in which a place lies
record Holder (f : Numbered) (x n : ℕ) : Type 0 where
  item : ℕ
  inside : item < n
  from : item_place f item ≤ x
  to : x < item_place f (item + 1)

holder : (f : Numbered) (x n : ℕ) → item_place f 0 ≤ x → x < item_place f n → Holder f x n
holder f x zero le lt = absurd (omega (arith, le, lt))
holder f x (suc n) le lt = elim (cases_lt x (item_place f n)) [
  | inl less ↦ (
      let h = holder f x n le less in let i = h.inside in
      record { item = h.item; inside = omega (arith, i); from = h.from; to = h.to }
      )
  | inr ge ↦ (
      let e : n + 1 ≡ suc n = omega arith in
      record {
        item = n;
        inside = omega arith;
        from = ge;
        to = subst (λ (m : ℕ). x < item_place f m) (sym e) lt;
      }
      )
]

-- a byte of a part
part_byte : (xs : List ℕ) (i j p : ℕ) → i ≤ p → p < j
    → get_or (take (j - i) (drop i xs)) (p - i) 0 ≡ get_or xs p 0
part_byte xs i j p le lt =
    let e : i + (p - i) ≡ p = omega (arith, le) in
    get_or-take (j - i) (drop i xs) (p - i) 0 (omega (arith, le, lt))
    ∙ (get_or-drop i xs (p - i) 0 ∙ ap (λ q. get_or xs q 0) e)

-- two parts that are one have the same bytes
parts_byte : (xs ys : List ℕ) (i j p : ℕ) → i ≤ p → p < j
    → take (j - i) (drop i xs) ≡ take (j - i) (drop i ys) → get_or xs p 0 ≡ get_or ys p 0
parts_byte xs ys i j p le lt same =
    sym (part_byte xs i j p le lt)
    ∙ (ap (λ x. get_or x (p - i) 0) same ∙ part_byte ys i j p le lt)

module _ (a b c : List ℕ) (s : IsSwappedPackage a b) (t : IsSwappedPackage a c) where
  item_byte : (p : ℕ) → header_size a + item_place (numbered a) 0 ≤ p → p < length a
      → get_or b p 0 ≡ get_or c p 0
  item_byte p le lt =
      let e = last_place (numbered a) in
      let table = s.front.head.table in
      let h = holder (numbered a) (p - header_size a) (item_count (numbered a)) (omega (arith, le))
      (omega (arith, e, lt, le, table)) in
      let from = h.from in let to = h.to in
      let i : ℕ = header_size a + item_place (numbered a) h.item in
      let j : ℕ = header_size a + item_place (numbered a) (h.item + 1) in
      let same = one (item_of (numbered a) a h.item) (item_of (numbered a) b h.item)
      (item_of (numbered a) c h.item) (s.items h.item h.inside).swapped (t.items h.item
      h.inside).swapped in
      parts_byte b c i j p (omega (arith, from, le)) (omega (arith, to, le)) same

  pub package_same : b ≡ c
  package_same = same_number_lists b c (s.front.as_long ∙ sym t.front.as_long) (λ p lt.
      elim (cases_lt p (header_size a + item_place (numbered a) 0)) [
        | inl less ↦ s.front.mirrored p less
            ∙ (byte_one s.front.roles t.front.roles a p (table_one (numbered a) s.front.roles
            t.front.roles s.front.roles_are t.front.roles_are)
            ∙ sym (t.front.mirrored p less))
        | inr ge ↦ item_byte p ge (subst (λ (n : ℕ). p < n) s.front.as_long lt)
      ])

pub one_package : OnePackageSwap
one_package a b c s t = package_same a b c s t
