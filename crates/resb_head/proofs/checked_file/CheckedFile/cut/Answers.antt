-- Each refusal is that of the first check of the blocks that fails; else the parts are cut at their
-- ends.
use Rattle.std.proofs.Common.{ℕ, List, ◌≡◌, ◌-◌, ◌*◌, ◌<◌, ◌≤◌, ◌⊎◌, inl, inr, length, take}
use Rattle.std.proofs.Common.{drop, sym, ap, ◌∙◌, arith, get_or, None, Option, Err, subst}
use Rattle.std.specs.Prelude.{Result, IfErr, codes, ok_or}
use Rattle.std.specs.Result.{result_ok}
use Rattle.std.proofs.lemmas.Result.{err_from_is_err_and}
use Rattle.resb_format.specs.Error.{IsInvalid}
use Rattle.resb_format.specs.declared.error.ReadingError.{ReadingError}
use Rattle.resb_format.specs.Bytes.{units_of, words_of}
use Rattle.resb_head.proofs.FileSteps.{field_behind, keys_past, end_missing, block_past}
use Rattle.resb_head.proofs.FileSteps.{blocks_hold}
use Rattle.resb_head.proofs.checked_file.CheckedFile.cut.Goals as goal
use Rattle.resb_head.proofs.Numbers.{no_field}
use Rattle.resb_head.proofs.Numbers.{some_field}
use Rattle.resb_head.proofs.Lists.{drop_inside}
use Rattle.std.proofs.lemmas.List.{take-take}

pub returns-then-keys_end-body : goal.returns-then-keys_end-body
returns-then-keys_end-body c =
    let body : List ℕ = c.args.body.now in
    let k : c.args.index.now.keys_end ≡ get_or (words_of body) 2 0 =
    c.requires.indexed.keys_end ∙ field_behind body 1 in
    keys_past body c.end_of_input.result (omega (arith, k, c.if-keys_end-body.true))
    c.end_of_input.ensures

-- the error that is given where there is no value
given : (P : ReadingError → Type 0) (o : Option ℕ) (e x : ReadingError)
    → Err x ≡ ok_or o e → o ≡ None → P e → P x
given P o e x is none h =
    let same : ◌≡◌ {A = Result ℕ ReadingError} (Err x) (Err e) =
    is ∙ ap (λ z. ok_or z e) none in
    subst (λ (r : Result ℕ ReadingError). IfErr r P) (sym same) h

pub returns-in_err-block_end : goal.returns-in_err-block_end
returns-in_err-block_end c =
    let p = err_from_is_err_and c.from_residual.result c.from_residual.ensures.1 in
    let none : c.args.index.now.data_16_bit_end ≡ None =
    c.ok_or.ensures.ok_part ∙ ap result_ok c.in_err-block_end.was in
    let body : List ℕ = c.args.body.now in
    let k : c.args.index.now.keys_end ≡ get_or (words_of body) 2 0 =
    c.requires.indexed.keys_end ∙ field_behind body 1 in
    let n : c.args.index.now.field_count ≡ get_or (words_of body) 1 0 =
    c.requires.indexed.field_count ∙ field_behind body 0 in
    let few : c.args.index.now.field_count < 7 =
    no_field c.args.index.now.field_count (get_or (words_of (drop 4 body)) 6 0)
    (sym c.requires.indexed.data_16_bit_end ∙ none) in
    rw (p.1, p.2) (end_missing body c.in_err-block_end.field-0.0
    (omega (arith, k, c.if-keys_end-body.false)) (omega (arith, n, few))
    (given (λ e. IsInvalid e (codes "offset to the end of 16-bit data not specified"))
    c.args.index.now.data_16_bit_end c.invalid_data.result c.in_err-block_end.field-0.0
    (sym c.in_err-block_end.was ∙ c.ok_or.ensures.value) none c.invalid_data.ensures))

pub returns-then-block_end-keys_end : goal.returns-then-block_end-keys_end
returns-then-block_end-keys_end c =
    let body : List ℕ = c.args.body.now in
    let k : c.args.index.now.keys_end ≡ get_or (words_of body) 2 0 =
    c.requires.indexed.keys_end ∙ field_behind body 1 in
    let n : c.args.index.now.field_count ≡ get_or (words_of body) 1 0 =
    c.requires.indexed.field_count ∙ field_behind body 0 in
    let there = some_field c.args.index.now.field_count (get_or (words_of (drop 4 body)) 6 0)
    c.in_ok-block_end.block_end (sym c.requires.indexed.data_16_bit_end
    ∙ c.ok_or.ensures.ok_part ∙ ap result_ok c.in_ok-block_end.was) in
    let b : get_or (words_of body) 7 0 ≡ c.in_ok-block_end.block_end =
    sym (field_behind body 6) ∙ there.1 in
    let outside : (get_or (words_of body) 7 0 < get_or (words_of body) 2 0)
    ⊎ (length body < 4 * get_or (words_of body) 7 0) = elim c.then-block_end-keys_end.branch [
      | goal.then-block_end-keys_end-via-then-block_end-keys_end w ↦
          inl (omega (arith, k, b, w.if-block_end-keys_end))
      | goal.then-block_end-keys_end-via-else-block_end-keys_end+then-block_end-body w ↦
          inr (omega (arith, b, w.if-block_end-body))
    ] in
    block_past body c.end_of_input-then-block_end-keys_end.result
    (omega (arith, k, c.if-keys_end-body.false)) (omega (arith, n, there.0)) outside
    c.end_of_input-then-block_end-keys_end.ensures

pub returns : goal.returns
returns c =
    let body : List ℕ = c.args.body.now in
    let k : c.args.index.now.keys_end ≡ get_or (words_of body) 2 0 =
    c.requires.indexed.keys_end ∙ field_behind body 1 in
    let n : c.args.index.now.field_count ≡ get_or (words_of body) 1 0 =
    c.requires.indexed.field_count ∙ field_behind body 0 in
    let there = some_field c.args.index.now.field_count (get_or (words_of (drop 4 body)) 6 0)
    c.in_ok-block_end.block_end (sym c.requires.indexed.data_16_bit_end
    ∙ c.ok_or.ensures.ok_part ∙ ap result_ok c.in_ok-block_end.was) in
    let b : c.in_ok-block_end.block_end ≡ get_or (words_of body) 7 0 =
    sym there.1 ∙ field_behind body 6 in
    let ordered : get_or (words_of body) 2 0 ≤ get_or (words_of body) 7 0 =
    omega (arith, k, b, c.if-block_end-keys_end.false) in
    let keys = c.split_at-2.ensures.front
    ∙ ap (take (4 * c.args.index.now.keys_end)) c.split_at.ensures.front
    ∙ take-take (4 * c.args.index.now.keys_end) (4 * c.in_ok-block_end.block_end) body
    (omega (arith, c.if-block_end-keys_end.false)) ∙ ap (λ i. take (4 * i) body) k in
    let block = c.split_at-2.ensures.back
    ∙ ap (drop (4 * c.args.index.now.keys_end)) c.split_at.ensures.front
    ∙ drop_inside body c.args.index.now.keys_end c.in_ok-block_end.block_end
    (omega (arith, c.if-block_end-keys_end.false))
    ∙ (λ i. take (4 * (b i - k i)) (drop (4 * k i) body)) in (
      blocks_hold body (omega (arith, k, c.if-keys_end-body.false)) (omega (arith, n, there.0))
          ordered (omega (arith, b, c.if-block_end-body.false)),
      λ i. record { body = body; keys = keys i; block = units_of (block i); lent = None },
      c.word_at-root.ensures,
    )
