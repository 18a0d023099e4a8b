-- Each refusal is that of the first check that fails.
use Rattle.std.proofs.Common.{◌≡◌, ◌%◌, length, ap, ◌∙◌}
use Rattle.std.proofs.Common.{arith}
use Rattle.std.proofs.Common.{get_or}
use Rattle.resb_format.specs.Bytes.{words_of}
use Rattle.resb_head.specs.File.{body_of, field_count}
use Rattle.resb_pool_bundle.specs.Fields.{index_length}
use Rattle.resb_pool_bundle.proofs.SizeSteps.{short_body, few_fields, fields_past, fields_hold}
use Rattle.resb_pool_bundle.proofs.index.count_fields.Goals as goal

pub returns-then-body-lt8 : goal.returns-then-body-lt8
returns-then-body-lt8 c =
    let l : length c.args.body.now ≡ length (body_of c.args.bytes.now) = ap length c.requires in
    short_body c.args.bytes.now c.end_of_input.result (omega (arith, l, c.if-body-lt8.true))
    c.end_of_input.ensures

pub returns-then-fields-lt5 : goal.returns-then-fields-lt5
returns-then-fields-lt5 c =
    let l : length c.args.body.now ≡ length (body_of c.args.bytes.now) = ap length c.requires in
    let w : c.word_at.result ≡ field_count c.args.bytes.now =
    c.word_at.ensures ∙ ap (λ b. get_or (words_of b) 1 0) c.requires in
    let n : c.word_at.result % 256 ≡ index_length c.args.bytes.now = ap (λ k. k % 256) w in
    few_fields c.args.bytes.now c.invalid_data.result (omega (arith, l, c.if-body-lt8.false))
    (omega (arith, n, c.if-fields-lt5.true)) c.invalid_data.ensures

pub returns-then-body-min : goal.returns-then-body-min
returns-then-body-min c =
    let l : length c.args.body.now ≡ length (body_of c.args.bytes.now) = ap length c.requires in
    let w : c.word_at.result ≡ field_count c.args.bytes.now =
    c.word_at.ensures ∙ ap (λ b. get_or (words_of b) 1 0) c.requires in
    let n : c.word_at.result % 256 ≡ index_length c.args.bytes.now = ap (λ k. k % 256) w in
    fields_past c.args.bytes.now c.end_of_input-then-body-min.result
    (omega (arith, l, c.if-body-lt8.false)) (omega (arith, n, c.if-fields-lt5.false))
    (omega (arith, l, n, c.min.ensures, c.if-body-min.true)) c.end_of_input-then-body-min.ensures

pub returns : goal.returns
returns c =
    let l : length c.args.body.now ≡ length (body_of c.args.bytes.now) = ap length c.requires in
    let w : c.word_at.result ≡ field_count c.args.bytes.now =
    c.word_at.ensures ∙ ap (λ b. get_or (words_of b) 1 0) c.requires in
    let n : c.word_at.result % 256 ≡ index_length c.args.bytes.now = ap (λ k. k % 256) w in
    record {
      none_fails =
          fields_hold c.args.bytes.now (omega (arith, l, c.if-body-lt8.false))
          (omega (arith, n, c.if-fields-lt5.false))
          (omega (arith, l, n, c.min.ensures, c.if-body-min.false));
      counted = n;
      enough = c.if-fields-lt5.false;
      inside = omega (arith, l, c.min.ensures, c.if-body-min.false);
    }
