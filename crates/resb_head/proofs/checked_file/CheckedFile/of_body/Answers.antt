-- The root's word, the index, and then the blocks.
use Rattle.std.proofs.Common.{ℕ, List, ◌≡◌, drop, Some, None, MatchResult, sym, ap, subst}
use Rattle.std.proofs.Common.{◌∙◌, rules}
use Rattle.std.specs.Prelude.{slice_index}
use Rattle.resb_format.specs.Bytes.{words_of}
use Rattle.resb_format.specs.Error.{refusal_of}
use Rattle.resb_format.specs.Parts.{parts_in}
use Rattle.resb_head.specs.File.{parts_in_body}
use Rattle.resb_head.specs.HeadChecks.{index_refusal}
use Rattle.resb_head.proofs.FileSteps.{root_missing, index_answers, blocks_answer}
use Rattle.resb_head.proofs.checked_file.CheckedFile.of_body.Goals as goal

pub returns-then-body-lt4 : goal.returns-then-body-lt4
returns-then-body-lt4 c =
    root_missing c.args.body.now c.end_of_input.result c.if-body-lt4.true c.end_of_input.ensures

pub returns-in_err-index : goal.returns-in_err-index
returns-in_err-index c =
    let e : index_refusal (drop 4 c.args.body.now) ≡ Some (refusal_of c.in_err-index.field-0.0) =
    ap index_refusal (sym c.split_at.ensures.back) ∙ c.in_err-index.ensures in
    let h = index_answers c.args.body.now (refusal_of c.in_err-index.field-0.0) c.if-body-lt4.false
    e in
    search (rules, h)

pub returns : goal.returns
returns c =
    let body : List ℕ = c.args.body.now in
    let e : index_refusal (drop 4 body) ≡ None =
    ap index_refusal (sym c.split_at.ensures.back) ∙ c.in_ok-index.ensures.0 in
    subst
    (λ o. MatchResult c.cut.result
    (λ f. (o ≡ None) × (parts_in f.file ≡ parts_in_body body)
    × (f.root ≡ slice_index (words_of body) 0)) (λ x. o ≡ Some (refusal_of x)))
    (sym (blocks_answer body c.if-body-lt4.false e))
    c.cut.ensures
