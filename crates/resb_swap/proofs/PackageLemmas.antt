-- Where the items of a package and their names are.
use Rattle.std.proofs.Common.{◌≡◌, ℕ, ◌+◌, ◌-◌, ◌*◌, ◌<◌, ◌≤◌, List, length, true, false, nat_lt}
use Rattle.std.proofs.Common.{zero, suc, refl, sym, ap, ◌∙◌, arith, inl, inr, get_or, subst}
use Rattle.std.proofs.Common.{◌/◌, ◌%◌, ◌⊎◌, ◌≢◌, ◌==◌, ◌&&◌, cond, nat_le}
use Rattle.std.proofs.lemmas.Bool.{cases_lt, cases_Bool, false≢true}
use Rattle.std.proofs.lemmas.List.{get_or_past}
use Rattle.std.proofs.lemmas.Bool.Decides.{nat_tests}
use Rattle.resb_swap.specs.Numbers.{Numbered, word_count}
use Rattle.resb_swap.specs.Packages.{is_package, item_count, item_place, name_place, table_end}
use Rattle.resb_swap.specs.Packages.{IsNameInPlace}
use Rattle.resb_swap.specs.Numbers.{numbered, header_size}
use Rattle.resb_swap.specs.Roles.{role_at}
use Rattle.resb_swap.specs.Packages.{TableRoles}
use Rattle.resb_swap.specs.Swapped.{names_order, is_order}
use Rattle.resb_swap.specs.Inner.Mirror.{Paired, AreOrders}
use Rattle.resb_swap.specs.declared.role.Role.{Role}
use Rattle.resb_swap.specs.declared.role.Role.TheVariants as role
use Rattle.resb_swap.proofs.Places.{body_order, head_order}
use Rattle.resb_swap.specs.Inner.Tables.{EndsAtZero, AreItemsInPlace}

-- the order of bytes of a package is one of two
pub known_order : (bytes : List ℕ) → is_package bytes ≡ true → get_or bytes 8 0 ≤ 1
unfolding is_package
known_order bytes h = grind (arith, nat_tests)

-- what holds of so many numbers and of the next one holds of one more
pub one_more : (P : ℕ → Type 0) (n : ℕ) → ((i : ℕ) → i < n → P i) → P n → (i : ℕ) → i < n + 1 → P i
one_more P n each last i lt = elim (cases_lt i n) [
  | inl less ↦ each i less
  | inr ge ↦ (let e : n ≡ i = omega (arith, lt, ge) in subst P e last)
]

-- a name that begins before the last zero byte
pub named : (f : Numbered) (i place end : ℕ) → place ≡ name_place f i → table_end f ≤ place
    → place < end → EndsAtZero f (table_end f) (item_place f 0) end → IsNameInPlace f i
named f i place end e behind before h =
    let high = h.high in
    let last : end - 1 + 1 ≡ end = omega arith in
    record {
      behind = subst (λ (n : ℕ). table_end f ≤ n) e behind;
      zero = end - 1;
      ends = subst (λ (n : ℕ). n ≤ end - 1) e (omega (arith, before));
      before = omega (arith, high, before);
      is_zero = h.is_zero (end - 1) last (omega (arith, behind, before));
    }

-- behind the last item is the end of the file
pub last_place : (f : Numbered) → item_place f (item_count f) ≡ length f.bytes - f.start
unfolding item_place
last_place f =
    let e : nat_lt (item_count f) (item_count f) ≡ false = grind (arith, nat_tests) in rw e refl

-- places ascend
pub ascend : (f : Numbered) → AreItemsInPlace f → (n : ℕ) → n ≤ item_count f
    → item_place f 0 ≤ item_place f n
ascend f h zero le = omega arith
ascend f h (suc n) le =
    let before = ascend f h n (omega (arith, le)) in
    let next = (h n (omega (arith, le))).order in
    let e : n + 1 ≡ suc n = omega arith in
    omega (arith, before, subst (λ (m : ℕ). item_place f n ≤ item_place f m) e next)

-- the items begin inside the file
pub first_inside : (f : Numbered) → AreItemsInPlace f → f.start ≤ length f.bytes
    → f.start + item_place f 0 ≤ length f.bytes
first_inside f h le =
    let a = ascend f h (item_count f) (omega arith) in
    let e = last_place f in omega (arith, a, e, le)

-- they begin behind the table
pub first_behind : (f : Numbered) → AreItemsInPlace f → 2 * item_count f < word_count f
    → f.start ≤ length f.bytes → table_end f ≤ item_place f 0
first_behind f h table le = elim (cases_lt 0 (item_count f)) [
  | inl some ↦ (h 0 some).behind
  | inr none ↦ (
      let z : item_count f ≡ 0 = omega (arith, none) in
      let e = last_place f in
      let at : item_place f 0 ≡ length f.bytes - f.start = ap (item_place f) (sym z) ∙ e in
      omega (arith, at, z, table)
      )
]

-- the words of a package are the table's, or have no role
pub table_alone : (f : Numbered) (rs : List Role) → TableRoles f rs → (i : ℕ)
    → (role_at rs i ≡ role.Words) ⊎ (role_at rs i ≡ role.Free)
table_alone f rs h i = elim (cases_lt i (word_count f)) [
  | inl lt ↦ elim (cases_Bool (nat_le i (2 * item_count f))) [
    | inl e ↦ inl (h.roles i lt ∙ ap (λ x. cond x role.Words role.Free) e)
    | inr e ↦ inr (h.roles i lt ∙ ap (λ x. cond x role.Words role.Free) e)
  ]
  | inr past ↦ inr (get_or_past rs i role.Free (let e = h.each in omega (arith, past, e)))
]

-- a role that no word of a package has
not_there : (f : Numbered) (rs : List Role) → TableRoles f rs → (i : ℕ) (r : Role)
    → r ≢ role.Words → r ≢ role.Free → role_at rs i ≡ r → ⊥
not_there f rs h i r words free e = elim (table_alone f rs h i) [
  | inl is ↦ words (sym e ∙ is)
  | inr is ↦ free (sym e ∙ is)
]

pub table_paired : (f : Numbered) (rs : List Role) → TableRoles f rs → Paired rs
table_paired f rs h = record {
  first = λ i e. absurd (not_there f rs h i role.First (λ z. cc) (λ z. cc) e);
  second = λ i e. absurd (not_there f rs h i role.Second (λ z. cc) (λ z. cc) e);
}

pub table_no_order : (f : Numbered) (rs : List Role) → TableRoles f rs → (i : ℕ)
    → is_order (role_at rs i) ≡ false
table_no_order f rs h i = elim (table_alone f rs h i) [
  | inl is ↦ ap is_order is
  | inr is ↦ ap is_order is
]

-- a byte behind the header names no order
pub table_plain : (f : Numbered) (rs : List Role) (start i c : ℕ) → TableRoles f rs → c < 4
    → names_order rs start (start + (4 * i + c)) ≡ false
table_plain f rs start i c h lt =
    body_order rs start i c lt ∙ ap (λ b. b && c == 0) (table_no_order f rs h i)

pub table_orders : (bytes : List ℕ) (rs : List Role) → TableRoles (numbered bytes) rs
    → get_or bytes 8 0 ≤ 1 → AreOrders rs bytes
table_orders bytes rs h known p named = elim (cases_lt p (header_size bytes)) [
  | inl lt ↦ (
      let e : (p == 8) ≡ true = sym (head_order rs (header_size bytes) p lt) ∙ named in
      let same : p ≡ 8 = grind (arith, nat_tests) in
      subst (λ (q : ℕ). get_or bytes q 0 ≤ 1) (sym same) known
      )
  | inr ge ↦ (
      let i : ℕ = (p - header_size bytes) / 4 in
      let c : ℕ = (p - header_size bytes) % 4 in
      let at : header_size bytes + (4 * i + c) ≡ p = omega (arith, ge) in
      absurd (false≢true (sym (table_plain (numbered bytes) rs (header_size bytes) i c h (omega
      arith)) ∙ (ap (names_order rs (header_size bytes)) at ∙ named)))
      )
]
