-- The header, the version, and then the sizes.
use Rattle.std.proofs.Common.{ℕ, List, ◌≡◌, min, length, drop, None, ap, ◌∙◌, rules, false}
use Rattle.resb_format.specs.Error.{refusal_of}
use Rattle.resb_format.specs.Bytes.{header_size}
use Rattle.resb_head.specs.HeadChecks.{header_refusal}
use Rattle.resb_head.proofs.FileSteps.{header_size_is}
use Rattle.resb_head.proofs.Lists.{drop_min}
use Rattle.resb_pool_bundle.proofs.HeadSteps.{long_header, header_answers, version_answers}
use Rattle.resb_pool_bundle.proofs.HeadSteps.{behind_version, sizes_answer}
use Rattle.resb_pool_bundle.proofs.index.Index.read.Goals as goal

pub returns-in_err-header : goal.returns-in_err-header
returns-in_err-header c =
    let h = header_answers c.args.bytes.now (refusal_of c.in_err-header.field-0.0)
    c.in_err-header.ensures in
    search (rules, h)

pub returns-in_err-check_version : goal.returns-in_err-check_version
returns-in_err-check_version c =
    let bytes : List ℕ = c.args.bytes.now in
    let h = version_answers bytes (refusal_of c.in_err-check_version.field-0.0)
    c.in_ok-header.ensures.0
    (c.in_err-check_version.ensures (drop 4 bytes) c.in_ok-header.ensures.1.info) in
    search (rules, h)

pub of_body-requires-clause-long : goal.of_body-requires-clause-long
of_body-requires-clause-long c = long_header c.args.bytes.now c.in_ok-header.ensures.0

pub of_body-requires-clause-cut : goal.of_body-requires-clause-cut
of_body-requires-clause-cut c =
    let bytes : List ℕ = c.args.bytes.now in
    let head : header_refusal false bytes ≡ None = c.in_ok-header.ensures.0 in
    let size : c.in_ok-header.header.size ≡ header_size bytes =
    c.in_ok-header.ensures.1.size ∙ header_size_is bytes head in
    c.split_at.ensures.back
    ∙ ap (λ n. drop n bytes) (c.min.ensures ∙ ap (min (length bytes)) (c.from.ensures ∙ size))
    ∙ drop_min bytes (header_size bytes)

pub returns : goal.returns
returns c =
    let bytes : List ℕ = c.args.bytes.now in
    sizes_answer bytes c.of_body.result
    (behind_version bytes c.in_ok-header.ensures.0
    (c.in_ok-check_version.ensures (drop 4 bytes) c.in_ok-header.ensures.1.info))
    c.of_body.ensures
