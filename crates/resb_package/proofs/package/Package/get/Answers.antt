-- The name in the middle is the one that is looked for, or no name up to it is, or none from it on.
use Rattle.std.proofs.Common.{ℕ, List, ◌≡◌, ◌+◌, ◌-◌, ◌/◌, ◌<◌, ◌≤◌, inl, inr, Some, None, sym, ap}
use Rattle.std.proofs.Common.{◌∙◌, arith}
use Rattle.std.specs.Ordering.{nat_cmp}
use Rattle.std.specs.Cmp.Lexicographic.{slice_cmp}
use Rattle.std.specs.declared.cmp.Ordering.{Ordering}
use Rattle.std.specs.declared.cmp.Ordering.TheVariants.{Less, Equal, Greater}
use Rattle.std.proofs.lemmas.Option.{same_Some}
use Rattle.std.proofs.lemmas.Map.Lookups.{exact_bytes}
use Rattle.resb_package.specs.Table.{count_in, name_in, name_at}
use Rattle.resb_package.specs.Checks.{table_refusal}
use Rattle.resb_package.proofs.Lists.{le_or_lt}
use Rattle.resb_package.proofs.Names.{still_below, still_above, not_below, not_above}
use Rattle.resb_package.proofs.Passing.{item_of, item_there, is_there, names_ascend}
use Rattle.resb_package.proofs.package.Package.get.Goals as goal

-- how the name in the middle stands to the text
module _ (t : List ℕ) (m : ℕ) (holds : table_refusal t ≡ None) (l : m < count_in t)
    (found : List ℕ) (is : name_at t m ≡ Some found) where
  same : name_in t m ≡ found
  same = same_Some _ _ (sym (item_of t m holds l).named ∙ is)

  stands : (text bytes : List ℕ) (o p : Ordering) → bytes ≡ text → o ≡ slice_cmp nat_cmp found bytes
      → o ≡ p → slice_cmp nat_cmp (name_in t m) text ≡ p
  stands text bytes o p e h k =
      ap (λ x. slice_cmp nat_cmp x text) same ∙ ap (slice_cmp nat_cmp found) (sym e) ∙ sym h ∙ k

  -- where it is below the text, so is each name up to it; where it is above, so is each from it on
  up_to : (text : List ℕ) → slice_cmp nat_cmp (name_in t m) text ≡ Less → (i : ℕ) → i < m + 1
      → slice_cmp nat_cmp (name_in t i) text ≡ Less
  up_to text h i k = elim (le_or_lt m i) [
    | inl q ↦
        let e : i ≡ m = omega (arith, k, q) in
        ap (λ a. slice_cmp nat_cmp (name_in t a) text) e ∙ h
    | inr q ↦ still_below (name_in t i) (name_in t m) text (names_ascend t i m holds q l) h
  ]

  from_it : (text : List ℕ) → slice_cmp nat_cmp (name_in t m) text ≡ Greater → (i : ℕ) → m ≤ i
      → i < count_in t → slice_cmp nat_cmp (name_in t i) text ≡ Greater
  from_it text h i k n = elim (le_or_lt i m) [
    | inl q ↦
        let e : i ≡ m = omega (arith, k, q) in
        ap (λ a. slice_cmp nat_cmp (name_in t a) text) e ∙ h
    | inr q ↦ still_above (name_in t m) (name_in t i) text (names_ascend t m i holds q n) h
  ]

pub returns-in_err-found : goal.returns-in_err-found
returns-in_err-found c =
    let t : List ℕ = c.args.self.now.table.bytes.now in
    let m : ℕ = c.halves.low + (c.halves.high - c.halves.low) / 2 in
    let l : m < count_in t = omega (arith, c.halves.invariant.1, c.halves-test.true) in
    let is = item_of t m c.args.self.now.checked l in
    let no : Some (name_in t m) ≡ None = sym is.named ∙ c.in_err-found.ensures in
    cc

pub returns-in-Equal : goal.returns-in-Equal
returns-in-Equal c =
    let t : List ℕ = c.args.self.now.table.bytes.now in
    let m : ℕ = c.halves.low + (c.halves.high - c.halves.low) / 2 in
    let l : m < count_in t = omega (arith, c.halves.invariant.1, c.halves-test.true) in
    let equal = stands t m c.args.self.now.checked l c.in_ok-found.found.now c.in_ok-found.ensures
    c.args.name.now c.as_bytes.result.now c.cmp.result Equal c.as_bytes.ensures.value c.cmp.ensures
    c.in-Equal.is in
    let name : name_in t m ≡ c.args.name.now = exact_bytes (name_in t m) c.args.name.now equal in
    (m, item_there t m l ∙ (λ k. Some (name k, sym c.item.ensures k)))

pub halves-preserved-in-Less : goal.halves-preserved-in-Less
halves-preserved-in-Less c =
    let t : List ℕ = c.args.self.now.table.bytes.now in
    let m : ℕ = c.halves.low + (c.halves.high - c.halves.low) / 2 in
    let l : m < count_in t = omega (arith, c.halves.invariant.1, c.halves-test.true) in
    let below = stands t m c.args.self.now.checked l c.in_ok-found.found.now c.in_ok-found.ensures
    c.args.name.now c.as_bytes.result.now c.cmp.result Less c.as_bytes.ensures.value c.cmp.ensures
    c.in-Less.is in (
      omega (arith, c.halves-test.true),
      c.halves.invariant.1,
      up_to t m c.args.self.now.checked l c.in_ok-found.found.now c.in_ok-found.ensures
          c.args.name.now below,
      c.halves.invariant.3,
    )

pub halves-preserved : goal.halves-preserved
halves-preserved c =
    let t : List ℕ = c.args.self.now.table.bytes.now in
    let m : ℕ = c.halves.low + (c.halves.high - c.halves.low) / 2 in
    let l : m < count_in t = omega (arith, c.halves.invariant.1, c.halves-test.true) in
    let above = stands t m c.args.self.now.checked l c.in_ok-found.found.now c.in_ok-found.ensures
    c.args.name.now c.as_bytes.result.now c.cmp.result Greater c.as_bytes.ensures.value
    c.cmp.ensures c.in-Greater.is in (
      omega arith,
      omega (arith, l),
      c.halves.invariant.2,
      from_it t m c.args.self.now.checked l c.in_ok-found.found.now c.in_ok-found.ensures
          c.args.name.now above,
    )

pub returns : goal.returns
returns c =
    let t : List ℕ = c.args.self.now.table.bytes.now in
    λ bytes has.
    let (h, e) = is_there t has.0 (c.args.name.now, bytes) has.1 in
    let name : name_in t has.0 ≡ c.args.name.now = ap (λ x. x.0) e in
    elim (le_or_lt c.halves.high has.0) [
      | inl k ↦
          not_above (name_in t has.0) c.args.name.now (c.halves.invariant.3 has.0 k h) name
      | inr k ↦
          not_below (name_in t has.0) c.args.name.now
          (c.halves.invariant.2 has.0 (omega (arith, k, c.halves-test.false))) name
    ]
