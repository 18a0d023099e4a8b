-- The header, what is supported, and then the body.
use Rattle.std.proofs.Common.{ℕ, List, ◌≡◌, min, length, drop, Some, None, MatchResult, sym}
use Rattle.std.proofs.Common.{ap, subst, ◌∙◌, rules, false}
use Rattle.resb_format.specs.Error.{refusal_of, first_refusal}
use Rattle.resb_format.specs.Parts.{parts_in}
use Rattle.resb_head.specs.File.{parts_of, parts_in_body, body_of, root_word}
use Rattle.resb_format.specs.Bytes.{header_size}
use Rattle.resb_head.specs.HeadChecks.{header_refusal, support_checks}
use Rattle.resb_head.specs.Inner.Checked.{ReadsBody}
use Rattle.resb_head.proofs.FileSteps.{header_answers, support_answers, body_answers}
use Rattle.resb_head.proofs.FileSteps.{header_size_is}
use Rattle.resb_head.proofs.checked_file.CheckedFile.read.Goals as goal
use Rattle.resb_head.proofs.Lists.{drop_min}

pub returns-in_err-header : goal.returns-in_err-header
returns-in_err-header c =
    let h = header_answers c.args.bytes.now (refusal_of c.in_err-header.field-0.0)
    c.in_err-header.ensures in
    search (rules, h)

pub returns-in_err-check_support : goal.returns-in_err-check_support
returns-in_err-check_support c =
    let bytes : List ℕ = c.args.bytes.now in
    let h = support_answers bytes (refusal_of c.in_err-check_support.field-0.0)
    c.in_ok-header.ensures.0
    (c.in_err-check_support.ensures (drop 4 bytes) c.in_ok-header.ensures.1.info) in
    search (rules, h)

pub returns : goal.returns
unfolding parts_of
returns c =
    let bytes : List ℕ = c.args.bytes.now in
    let head : header_refusal false bytes ≡ None = c.in_ok-header.ensures.0 in
    let size : c.in_ok-header.header.size ≡ header_size bytes =
    c.in_ok-header.ensures.1.size ∙ header_size_is bytes head in
    let body : c.split_at.result.1.now ≡ body_of bytes =
    c.split_at.ensures.back
    ∙ ap (λ n. drop n bytes) (c.min.ensures ∙ ap (min (length bytes)) (c.from.ensures ∙ size))
    ∙ drop_min bytes (header_size bytes) in
    let support : first_refusal (support_checks (drop 4 bytes)) ≡ None =
    c.in_ok-check_support.ensures (drop 4 bytes) c.in_ok-header.ensures.1.info in
    let read : ReadsBody (body_of bytes) c.of_body.result =
    subst (λ b. ReadsBody b c.of_body.result) body c.of_body.ensures in
    subst
    (λ o. MatchResult c.of_body.result
    (λ f. (o ≡ None) × (parts_in f.file ≡ parts_in_body (body_of bytes))
    × (f.root ≡ root_word bytes)) (λ x. o ≡ Some (refusal_of x)))
    (sym (body_answers bytes head support))
    read
