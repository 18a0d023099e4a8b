-- The checks of the header, and then those behind it.
use Rattle.std.proofs.Common.{ℕ, List, ◌≡◌, length, min, drop, Some, None, MatchResult}
use Rattle.std.proofs.Common.{sym, ap, subst, ◌∙◌, arith, rules, Ok, Err}
use Rattle.std.specs.Prelude.{Result}
use Rattle.std.proofs.lemmas.List.{drop_min}
use Rattle.resb_package.specs.Table.{table_of, items_in}
use Rattle.resb_format.specs.Bytes.{header_size}
use Rattle.resb_package.specs.Package.{IsPackage}
use Rattle.resb_package.specs.Items.{package_items}
use Rattle.resb_package.specs.Checks.{head_checks, table_refusal, package_refusal}
use Rattle.resb_format.specs.Error.{first_refusal}
use Rattle.resb_package.specs.declared.error.PackageError.{PackageError}
use Rattle.resb_package.specs.declared.package.Package.{Package}
use Rattle.resb_package.proofs.Passing.{head_refused, rest_refused, head_long, package_told}
use Rattle.resb_package.proofs.package.Package.read.Goals as goal

pub returns-in_err-check_head : goal.returns-in_err-check_head
returns-in_err-check_head c =
    let h : package_refusal c.args.bytes.now ≡ Some c.in_err-check_head.field-0.0 =
    head_refused c.args.bytes.now c.in_err-check_head.field-0.0 c.in_err-check_head.ensures in
    search (rules, h)

pub unit_at-requires : goal.unit_at-requires
unit_at-requires c =
    let long = head_long c.args.bytes.now c.in_ok-check_head.ensures in
    omega (arith, long)

-- what is said of the bytes behind the header, said of the whole file
answers : (bs : List ℕ) → first_refusal (head_checks bs) ≡ None → (r : Result Package PackageError)
    → MatchResult r (λ p. p.table.bytes.now ≡ table_of bs)
    (λ e. table_refusal (table_of bs) ≡ Some e)
    → MatchResult r (λ p. IsPackage bs (package_items p)) (λ e. package_refusal bs ≡ Some e)
answers bs h (Ok p) e =
    subst (λ t. IsPackage bs (items_in t)) (sym e)
    (package_told bs h (subst (λ t. table_refusal t ≡ None) e p.checked))
answers bs h (Err x) e = rest_refused bs x h e

pub returns : goal.returns
returns c =
    let bs : List ℕ = c.args.bytes.now in
    let body : c.split_at.result.1.now ≡ table_of bs =
    c.split_at.ensures.back
    ∙ ap (λ n. drop n bs)
    (c.min.ensures ∙ ap (λ n. min n (length bs)) (c.from-size.ensures ∙ c.unit_at.ensures))
    ∙ drop_min (header_size bs) bs in
    answers bs c.in_ok-check_head.ensures c.of_table.result
    (subst
    (λ b. MatchResult c.of_table.result (λ p. p.table.bytes.now ≡ b)
    (λ e. table_refusal b ≡ Some e))
    body c.of_table.ensures)
