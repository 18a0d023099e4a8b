-- What is refused, and the packages that pass each check.
use Rattle.std.proofs.Common.{ℕ, List, [], ◌∷◌, ◌≡◌, ◌+◌, ◌-◌, ◌*◌, ◌<◌, ◌≤◌, inl, inr, length}
use Rattle.std.proofs.Common.{take, Bool, true, false, Option, Some}
use Rattle.std.proofs.Common.{None, refl, sym, ap, subst, ◌∙◌, arith, get_or, codes, slice_range}
use Rattle.std.proofs.Common.{zero, suc}
use Rattle.std.specs.List.{slice_get}
use Rattle.std.specs.Option.{is_some, option_or, unwrap_or}
use Rattle.std.specs.Ordering.{nat_cmp}
use Rattle.std.specs.Cmp.Lexicographic.{slice_cmp}
use Rattle.std.specs.declared.cmp.Ordering.TheVariants.{Less}
use Rattle.std.proofs.lemmas.Option.{same_Some, slice_get_within, slice_get_past, slice_get-get_or}
use Rattle.std.proofs.lemmas.Option.{get_or_from_slice_get}
use Rattle.std.proofs.lemmas.List.{ext_get_or}
use Rattle.std.proofs.Math.ListN.{drop_of_length-le}
use Rattle.std.proofs.lemmas.List.FromFn.{get_or-map-range_with_len, length-map-range_with_len}
use Rattle.std.proofs.lemmas.Bool.{lt-leb, le-leb, leb-true, eqb-true}
use Rattle.std.proofs.lemmas.Slice.Eq.{bytes_eq-Decides}
use Rattle.resb_tree.proofs.Numbers.{is_lt_tells}
use Rattle.resb_format.specs.Strings.{before_zero}
use Rattle.resb_package.specs.Table.{table_of, count_in, name_from, item_from, item_to}
use Rattle.resb_format.specs.Bytes.{header_size}
use Rattle.resb_package.specs.Table.{name_to, name_at, name_in, item_at, items_in}
use Rattle.resb_package.specs.Package.{IsItem, IsPackage}
use Rattle.resb_package.specs.Checks.{head_checks, item_checks, order_check}
use Rattle.resb_format.specs.Error.{first_refusal}
use Rattle.resb_package.specs.Checks.{refusal_from, table_refusal, package_refusal}
use Rattle.resb_package.specs.Laws.{OnePackage, NamesDiffer, PackagePasses}
use Rattle.resb_package.specs.declared.error.PackageError.{PackageError}
use Rattle.resb_package.specs.declared.error.PackageError.TheVariants.{TableOutside}
use Rattle.resb_package.proofs.Lists.{le_or_lt, ascii_told, is_equal, bytes_eq_holds}
use Rattle.resb_package.proofs.Heads.{Begun, Native, head_holds}
use Rattle.resb_package.proofs.Entries.{each_holds, all_hold, item_holds}
use Rattle.resb_package.proofs.Names.{ascend_far, not_below}

-- each test is true
abbrev EachHolds : List (Bool × PackageError) → Type 0
EachHolds [] = Unit {0}
EachHolds ((t, f) ∷ checks) = (t ≡ true) × EachHolds checks

-- where no check refuses, each test is true
all_pass : (checks : List (Bool × PackageError)) → first_refusal checks ≡ None → EachHolds checks
all_pass [] e = tt
all_pass ((true, f) ∷ checks) e = (refl, all_pass checks e)
all_pass ((false, f) ∷ checks) e = cc

-- the first refusal behind the header
pub table_outside : (t : List ℕ) → length t < 4 + 8 * count_in t
    → table_refusal t ≡ Some TableOutside
unfolding table_refusal
table_outside t h = rw (lt-leb (4 + 8 * count_in t) (length t) h) refl

pub item_refused : (t : List ℕ) (x : PackageError) → 4 + 8 * count_in t ≤ length t
    → refusal_from (item_checks t) 0 (count_in t) ≡ Some x → table_refusal t ≡ Some x
unfolding table_refusal
item_refused t x h e = rw (le-leb (4 + 8 * count_in t) (length t) h, e) refl

pub order_refused : (t : List ℕ) (x : PackageError) → 4 + 8 * count_in t ≤ length t
    → refusal_from (item_checks t) 0 (count_in t) ≡ None
    → refusal_from (order_check t) 0 (count_in t - 1) ≡ Some x → table_refusal t ≡ Some x
unfolding table_refusal
order_refused t x h n e = rw (le-leb (4 + 8 * count_in t) (length t) h, n, e) refl

pub table_holds : (t : List ℕ) → 4 + 8 * count_in t ≤ length t
    → refusal_from (item_checks t) 0 (count_in t) ≡ None
    → refusal_from (order_check t) 0 (count_in t - 1) ≡ None → table_refusal t ≡ None
unfolding table_refusal
table_holds t h n e = rw (le-leb (4 + 8 * count_in t) (length t) h, n, e) refl

none_of_two : (o p : Option PackageError) → option_or o p ≡ None → (o ≡ None) × (p ≡ None)
none_of_two None p e = (refl, e)
none_of_two (Some x) p e = cc

-- what a table says that is not refused
pub record Holds (t : List ℕ) : Type 0 where
  pub inside : 4 + 8 * count_in t ≤ length t
  pub items : refusal_from (item_checks t) 0 (count_in t) ≡ None
  pub names : refusal_from (order_check t) 0 (count_in t - 1) ≡ None

pub table_told : (t : List ℕ) → table_refusal t ≡ None → Holds t
unfolding table_refusal
table_told t e = elim (le_or_lt (4 + 8 * count_in t) (length t)) [
  | inl h ↦
      let there : option_or (refusal_from (item_checks t) 0 (count_in t))
      (refusal_from (order_check t) 0 (count_in t - 1)) ≡ None =
      rw (le-leb (4 + 8 * count_in t) (length t) h) at e in
      let both = none_of_two _ _ there in
      record { inside = h; items = both.0; names = both.1 }
  | inr h ↦
      let no : Some TableOutside ≡ None =
      sym (table_outside t h) ∙ e in cc
]

some_told : (o : Option (List ℕ)) → is_some o ≡ true → o ≡ Some (unwrap_or o [])
some_told None e = cc
some_told (Some x) e = refl

-- an item that passes each check
pub item_told : (t : List ℕ) (i : ℕ) → first_refusal (item_checks t i) ≡ None
    → IsItem t i (name_in t i, item_at t i)
unfolding item_checks
item_told t i e =
    let p = all_pass (item_checks t i) e in
    record {
      named = some_told (name_at t i) p.1.0;
      ascii = ascii_told (name_in t i) p.1.1.0;
      inside = leb-true (item_from t i) (length t) p.1.1.1.0;
      order = leb-true (item_from t i) (item_to t i) p.1.1.1.1.0;
      whole = refl;
    }

nothing_there : (n : ℕ) → before_zero (take n []) ≡ None
nothing_there zero = refl
nothing_there (suc n) = refl

name_inside : (t : List ℕ) (i : ℕ) (name : List ℕ) → name_at t i ≡ Some name
    → name_from t i < length t
unfolding name_at
name_inside t i name e = elim (le_or_lt (length t) (name_from t i)) [
  | inl h ↦
      let none : name_at t i ≡ None =
      ap (λ xs. before_zero (take (name_to t i - name_from t i) xs)) (drop_of_length-le t h)
      ∙ nothing_there (name_to t i - name_from t i) in
      let no : Some name ≡ None = sym e ∙ none in cc
  | inr h ↦ h
]

pub item_passes : (t : List ℕ) (i : ℕ) (item : List ℕ × List ℕ) → IsItem t i item
    → first_refusal (item_checks t i) ≡ None
item_passes t i item h =
    item_holds t i (name_inside t i item.0 h.named) item.0 h.named h.ascii h.inside h.order

-- the item with a number
pub item_there : (t : List ℕ) (i : ℕ) → i < count_in t
    → slice_get (items_in t) i ≡ Some (name_in t i, item_at t i)
unfolding items_in
item_there t i h =
    let f : ℕ → List ℕ × List ℕ = λ k. (name_in t k, item_at t k) in
    let long : length (items_in t) ≡ count_in t = length-map-range_with_len f 0 (count_in t) in
    slice_get-get_or (items_in t) i (f i) (subst (λ n. i < n) (sym long) h)
    ∙ ap Some (get_or-map-range_with_len f 0 (count_in t) i i (f i) h (omega arith))

pub items_length : (t : List ℕ) → length (items_in t) ≡ count_in t
unfolding items_in
items_length t = length-map-range_with_len (λ k. (name_in t k, item_at t k)) 0 (count_in t)

pub item_past : (t : List ℕ) (i : ℕ) → count_in t ≤ i → slice_get (items_in t) i ≡ None
item_past t i h = slice_get_past (items_in t) i (omega (arith, items_length t, h))

-- what is known of each item of a table that is not refused
pub item_of : (t : List ℕ) (i : ℕ) → table_refusal t ≡ None → i < count_in t
    → IsItem t i (name_in t i, item_at t i)
item_of t i e h =
    item_told t i
    (each_holds (item_checks t) (count_in t) 0 i (table_told t e).items (omega arith)
    (omega (arith, h)))

pub next_above : (t : List ℕ) (i : ℕ) → table_refusal t ≡ None → i + 1 < count_in t
    → slice_cmp nat_cmp (name_in t i) (name_in t (i + 1)) ≡ Less
unfolding order_check
next_above t i e h =
    let pass = each_holds (order_check t) (count_in t - 1) 0 i (table_told t e).names (omega arith)
    (omega (arith, h)) in
    is_lt_tells _ (all_pass (order_check t i) pass).0

pub names_ascend : (t : List ℕ) (i j : ℕ) → table_refusal t ≡ None → i < j → j < count_in t
    → slice_cmp nat_cmp (name_in t i) (name_in t j) ≡ Less
names_ascend t i j e l m =
    ascend_far (name_in t) (count_in t) (λ k h. next_above t k e h) i j l m

-- an item of the list is the one with its number
pub is_there : (t : List ℕ) (i : ℕ) (item : List ℕ × List ℕ) → slice_get (items_in t) i ≡ Some item
    → (i < count_in t) × ((name_in t i, item_at t i) ≡ item)
is_there t i item e =
    let h : i < count_in t =
    omega (arith, slice_get_within (items_in t) i item e, items_length t) in
    (h, same_Some _ _ (sym (item_there t i h) ∙ e))

pub package_told : (bs : List ℕ) → first_refusal (head_checks bs) ≡ None
    → table_refusal (table_of bs) ≡ None → IsPackage bs (items_in (table_of bs))
unfolding head_checks
package_told bs e r =
    let p = all_pass (head_checks bs) e in
    let t : List ℕ = table_of bs in
    record {
      long = leb-true 24 (length bs) p.0;
      magic = (bytes_eq-Decides (slice_range bs 2 4) (0xda ∷ 0x27 ∷ [])).0 p.1.0;
      little_endian = eqb-true (get_or bs 8 0) 0 p.1.1.0;
      ascii_family = eqb-true (get_or bs 9 0) 0 p.1.1.1.0;
      format = (bytes_eq-Decides (slice_range bs 12 16) (codes "CmnD")).0 p.1.1.1.1.0;
      version = eqb-true (get_or bs 16 0) 1 p.1.1.1.1.1.0;
      header = leb-true 24 (header_size bs) p.1.1.1.1.1.1.0;
      table_inside = (table_told t r).inside;
      all = items_length t;
      each = λ i item h. let (l, same) = is_there t i item h in
          subst (IsItem t i) same (item_of t i r l);
      ascending = λ i item next h k.
          let (l, same) = is_there t i item h in
          let (m, after) = is_there t (i + 1) next k in
          ap (λ x. slice_cmp nat_cmp x.0 next.0) (sym same)
          ∙ ap (λ x. slice_cmp nat_cmp (name_in t i) x.0) (sym after) ∙ next_above t i r m;
    }

option_or_none : (o p : Option PackageError) → o ≡ None → p ≡ None → option_or o p ≡ None
option_or_none o p e h = ap (λ x. option_or x p) e ∙ h

-- the item with each number, in whatever list of items the bytes are a package of
module _ (bs : List ℕ) (items : List (List ℕ × List ℕ)) (p : IsPackage bs items) where
  there : (i : ℕ) → i < count_in (table_of bs)
      → slice_get items i ≡ Some (name_in (table_of bs) i, item_at (table_of bs) i)
  there i h =
      let t : List ℕ = table_of bs in
      let d : List ℕ × List ℕ = ([], []) in
      let one : slice_get items i ≡ Some (get_or items i d) =
      slice_get-get_or items i d (subst (λ n. i < n) (sym p.all) h) in
      let is = p.each i (get_or items i d) one in
      let name : (get_or items i d).0 ≡ name_in t i = sym (ap (λ o. unwrap_or o []) is.named) in
      one ∙ (λ k. Some (name k, is.whole k))

  pub they_are : items ≡ items_in (table_of bs)
  they_are =
      let t : List ℕ = table_of bs in
      let d : List ℕ × List ℕ = ([], []) in
      ext_get_or d items (items_in t) (p.all ∙ sym (items_length t)) (λ i h.
      let l : i < count_in t = subst (λ n. i < n) p.all h in
      get_or_from_slice_get items i (name_in t i, item_at t i) d (there i l)
      ∙ sym (get_or_from_slice_get (items_in t) i (name_in t i, item_at t i) d (item_there t i l)))

  above : (i : ℕ) → i + 1 < count_in (table_of bs)
      → slice_cmp nat_cmp (name_in (table_of bs) i) (name_in (table_of bs) (i + 1)) ≡ Less
  above i h = p.ascending i _ _ (there i (omega (arith, h))) (there (i + 1) h)

  in_order : (i : ℕ) → i + 1 < count_in (table_of bs)
      → first_refusal (order_check (table_of bs) i) ≡ None
  unfolding order_check
  in_order i h = rw (above i h) refl

  head_passes : first_refusal (head_checks bs) ≡ None
  head_passes =
      let b : Begun bs = record { long = p.long; magic = bytes_eq_holds _ _ p.magic } in
      let n : Native bs = record {
        begun = b;
        little = is_equal _ _ p.little_endian;
        ascii = is_equal _ _ p.ascii_family;
      } in
      head_holds bs n (bytes_eq_holds _ _ p.format) (is_equal _ _ p.version) p.header

  table_passes : table_refusal (table_of bs) ≡ None
  table_passes =
      let t : List ℕ = table_of bs in
      table_holds t p.table_inside
      (all_hold (item_checks t) (count_in t) 0 (λ i l h.
      item_passes t i _ (p.each i _ (there i (omega (arith, h))))))
      (all_hold (order_check t) (count_in t - 1) 0 (λ i l h. in_order i (omega (arith, h))))

  pub passes : package_refusal bs ≡ None
  unfolding package_refusal
  passes = option_or_none _ _ head_passes table_passes

pub package_passes : PackagePasses
unfolding package_refusal
package_passes bs = (
  λ e.
      let both = none_of_two _ _ e in (items_in (table_of bs), package_told bs both.0 both.1),
  λ items p. passes bs items p,
)

pub one_package : OnePackage
one_package bs items others p q = they_are bs items p ∙ sym (they_are bs others q)

pub names_differ : NamesDiffer
names_differ bs items p i j item other l e f =
    let t : List ℕ = table_of bs in
    let is = they_are bs items p in
    let (h, same) = is_there t i item (ap (λ xs. slice_get xs i) (sym is) ∙ e) in
    let (k, after) = is_there t j other (ap (λ xs. slice_get xs j) (sym is) ∙ f) in
    let less = names_ascend t i j (table_passes bs items p) l k in
    λ q. not_below (name_in t i) (name_in t j) less (ap (λ x. x.0) same ∙ q
    ∙ sym (ap (λ x. x.0) after))

-- a header that is refused, and what is refused behind one
pub head_refused : (bs : List ℕ) (x : PackageError) → first_refusal (head_checks bs) ≡ Some x
    → package_refusal bs ≡ Some x
unfolding package_refusal
head_refused bs x e = ap (λ o. option_or o (table_refusal (table_of bs))) e

pub rest_refused : (bs : List ℕ) (x : PackageError) → first_refusal (head_checks bs) ≡ None
    → table_refusal (table_of bs) ≡ Some x → package_refusal bs ≡ Some x
unfolding package_refusal
rest_refused bs x e h = ap (λ o. option_or o (table_refusal (table_of bs))) e ∙ h

-- a header that passes is long
pub head_long : (bs : List ℕ) → first_refusal (head_checks bs) ≡ None → 24 ≤ length bs
unfolding head_checks
head_long bs e = leb-true 24 (length bs) (all_pass (head_checks bs) e).0
