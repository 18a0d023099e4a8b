-- The number of fields, and then the ends.
use Rattle.std.proofs.Common.{ℕ, List, ◌≡◌, Some, None, ap, ◌∙◌, rules}
use Rattle.resb_format.specs.Error.{refusal_of, first_refusal}
use Rattle.resb_pool_bundle.specs.Checks.{size_checks}
use Rattle.resb_pool_bundle.specs.Inner.Sized.{field_checks, end_checks}
use Rattle.resb_pool_bundle.proofs.SizeSteps.{sizes_in_two}
use Rattle.resb_pool_bundle.proofs.Steps.{earlier_refusal, later_refusal}
use Rattle.resb_pool_bundle.proofs.index.Index.of_body.Goals as goal

pub returns-in_err-fields : goal.returns-in_err-fields
returns-in_err-fields c =
    let bs : List ℕ = c.args.bytes.now in
    let h : first_refusal (size_checks bs) ≡ Some (refusal_of c.in_err-fields.field-0.0) =
    ap first_refusal (sizes_in_two bs)
    ∙ earlier_refusal (field_checks bs) (end_checks bs) _ c.in_err-fields.ensures in
    search (rules, h)

pub returns-in_err-keys_end : goal.returns-in_err-keys_end
returns-in_err-keys_end c =
    let bs : List ℕ = c.args.bytes.now in
    let h : first_refusal (size_checks bs) ≡ Some (refusal_of c.in_err-keys_end.field-0.0) =
    ap first_refusal (sizes_in_two bs)
    ∙ later_refusal (field_checks bs) (end_checks bs) c.in_ok-fields.ensures.none_fails
    ∙ c.in_err-keys_end.ensures in
    search (rules, h)

pub returns : goal.returns
returns c =
    let bs : List ℕ = c.args.bytes.now in
    let h : first_refusal (size_checks bs) ≡ None =
    ap first_refusal (sizes_in_two bs)
    ∙ later_refusal (field_checks bs) (end_checks bs) c.in_ok-fields.ensures.none_fails
    ∙ c.in_ok-keys_end.ensures.none_fails in
    search (rules, h)
