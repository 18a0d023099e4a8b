-- Each refusal is that of the first check that fails.
use Rattle.std.proofs.Common.{ℕ, List, ◌≡◌, ◌*◌, ◌<◌, ◌⊎◌, inl, inr, length, ap, sym, ◌∙◌}
use Rattle.std.proofs.Common.{arith, get_or}
use Rattle.resb_format.specs.Bytes.{words_of}
use Rattle.resb_head.specs.File.{body_of, keys_end}
use Rattle.resb_pool_bundle.specs.Fields.{major, block_end_in}
use Rattle.resb_pool_bundle.proofs.SizeSteps.{block_end_before, block_end_since, keys_past}
use Rattle.resb_pool_bundle.proofs.SizeSteps.{end_missing, block_past, ends_hold}
use Rattle.resb_pool_bundle.proofs.index.find_ends.Goals as goal

pub returns-then-keys_end-body : goal.returns-then-keys_end-body
returns-then-keys_end-body c =
    let bs : List ℕ = c.args.bytes.now in
    let l : length c.args.body.now ≡ length (body_of bs) = ap length c.requires.cut in
    let k : c.word_at.result ≡ keys_end bs =
    c.word_at.ensures ∙ ap (λ b. get_or (words_of b) 2 0) c.requires.cut in
    keys_past bs c.end_of_input.result (omega (arith, l, k, c.if-keys_end-body.true))
    c.end_of_input.ensures

pub returns-then-byte_at-lt2 : goal.returns-then-byte_at-lt2
returns-then-byte_at-lt2 c =
    let bs : List ℕ = c.args.bytes.now in
    let l : length c.args.body.now ≡ length (body_of bs) = ap length c.requires.cut in
    let k : c.word_at.result ≡ keys_end bs =
    c.word_at.ensures ∙ ap (λ b. get_or (words_of b) 2 0) c.requires.cut in
    let m : c.byte_at.result ≡ major bs = c.byte_at.ensures in
    let old : major bs < 2 = omega (arith, m, c.if-byte_at-lt2.true) in
    let b : block_end_in bs ≡ keys_end bs = block_end_before bs old in
    record {
      none_fails =
          ends_hold bs (omega (arith, l, k, c.if-keys_end-body.false)) (inl old)
          (omega (arith, b)) (omega (arith, b, l, k, c.if-keys_end-body.false));
      keys_said = omega (arith, k);
      block_said = omega (arith, k, b);
      ordered = omega arith;
      inside = omega (arith, l, c.if-keys_end-body.false);
    }

pub returns-then-fields-lt7 : goal.returns-then-fields-lt7
returns-then-fields-lt7 c =
    let bs : List ℕ = c.args.bytes.now in
    let l : length c.args.body.now ≡ length (body_of bs) = ap length c.requires.cut in
    let k : c.word_at.result ≡ keys_end bs =
    c.word_at.ensures ∙ ap (λ b. get_or (words_of b) 2 0) c.requires.cut in
    let m : c.byte_at.result ≡ major bs = c.byte_at.ensures in
    end_missing bs c.invalid_data.result (omega (arith, l, k, c.if-keys_end-body.false))
    (omega (arith, m, c.if-byte_at-lt2.false))
    (omega (arith, c.requires.counted, c.if-fields-lt7.true)) c.invalid_data.ensures

pub returns-then-block_end-keys_end : goal.returns-then-block_end-keys_end
returns-then-block_end-keys_end c =
    let bs : List ℕ = c.args.bytes.now in
    let l : length c.args.body.now ≡ length (body_of bs) = ap length c.requires.cut in
    let k : c.word_at.result ≡ keys_end bs =
    c.word_at.ensures ∙ ap (λ b. get_or (words_of b) 2 0) c.requires.cut in
    let m : c.byte_at.result ≡ major bs = c.byte_at.ensures in
    let b : c.word_at-2.result ≡ block_end_in bs =
    c.word_at-2.ensures ∙ ap (λ x. get_or (words_of x) 7 0) c.requires.cut
    ∙ sym (block_end_since bs (omega (arith, m, c.if-byte_at-lt2.false))) in
    let outside : (block_end_in bs < keys_end bs) ⊎ (length (body_of bs) < 4 * block_end_in bs) =
    elim c.then-block_end-keys_end.branch [
      | goal.then-block_end-keys_end-via-then-block_end-keys_end w ↦
          inl (omega (arith, k, b, w.if-block_end-keys_end))
      | goal.then-block_end-keys_end-via-else-block_end-keys_end+then-block_end-body w ↦
          inr (omega (arith, l, b, w.if-block_end-body))
    ] in
    block_past bs c.end_of_input-then-block_end-keys_end.result
    (omega (arith, l, k, c.if-keys_end-body.false))
    (inr (omega (arith, c.requires.counted, c.if-fields-lt7.false))) outside
    c.end_of_input-then-block_end-keys_end.ensures

pub returns : goal.returns
returns c =
    let bs : List ℕ = c.args.bytes.now in
    let l : length c.args.body.now ≡ length (body_of bs) = ap length c.requires.cut in
    let k : c.word_at.result ≡ keys_end bs =
    c.word_at.ensures ∙ ap (λ b. get_or (words_of b) 2 0) c.requires.cut in
    let m : c.byte_at.result ≡ major bs = c.byte_at.ensures in
    let b : c.word_at-2.result ≡ block_end_in bs =
    c.word_at-2.ensures ∙ ap (λ x. get_or (words_of x) 7 0) c.requires.cut
    ∙ sym (block_end_since bs (omega (arith, m, c.if-byte_at-lt2.false))) in
    record {
      none_fails =
          ends_hold bs (omega (arith, l, k, c.if-keys_end-body.false))
          (inr (omega (arith, c.requires.counted, c.if-fields-lt7.false)))
          (omega (arith, k, b, c.if-block_end-keys_end.false))
          (omega (arith, l, b, c.if-block_end-body.false));
      keys_said = omega (arith, k);
      block_said = omega (arith, b);
      ordered = c.if-block_end-keys_end.false;
      inside = omega (arith, l, c.if-block_end-body.false);
    }
