use Rattle.std.proofs.Common.{◌≡◌, ◌++◌, [], sym, subst, ◌∙◌, ap, List, ℕ}
use Rattle.std.specs.Prelude.{Result, IfErr}
use Rattle.std.proofs.lemmas.Result.{on_err_weaker, err_from_is_err_and}
use Rattle.std.specs.declared.io.Error.{Error}
use Rattle.resb_shown.specs.Sink.{FailsWriting}
use Rattle.resb_shown.proofs.Sinking.{gained_more, gained_further, less_part}
use Rattle.resb_shown.proofs.Sinking.{on_err_holds, fails_further}
use Rattle.resb_shown.proofs.sink.write_blocks.Goals as goal

-- what was made is off what is still to come
made : (block start ahead after : List ℕ) → start ≡ [] → block ++ after ≡ start ++ ahead
    → ahead ≡ block ++ after
made block start ahead after e f = sym (f ∙ ap (λ l. l ++ ahead) e)

pub loop-block-preserved : goal.loop-block-preserved
loop-block-preserved g c =
    record {
      empty = c.clear.ensures.items;
      gained = gained_more (g.W.Write.contents c.args.writer.now)
          (g.W.Write.contents c.loop-block.writer) (g.W.Write.contents c.write_whole.new.writer)
          (g.B.Blocks.ahead c.args.text.now) (g.B.Blocks.ahead c.loop-block.text)
          c.push_block.new.block.items (g.B.Blocks.ahead c.push_block.new.self)
          c.loop-block.invariant.gained
          (made c.push_block.new.block.items c.loop-block.block.items
          (g.B.Blocks.ahead c.loop-block.text) (g.B.Blocks.ahead c.push_block.new.self)
          c.loop-block.invariant.empty c.in_ok-push_block.ensures.text)
          (rw (← c.as_slice.ensures.value) c.in_ok-write_whole.ensures.ok);
    }

pub returns-in_err-write_whole-clause-part : goal.returns-in_err-write_whole-clause-part
returns-in_err-write_whole-clause-part g c =
    on_err_holds c.from_residual-in_err-write_whole.result
    (less_part (g.W.Write.contents c.args.writer.now)
    (g.W.Write.contents c.write_whole.new.writer) (g.B.Blocks.ahead c.args.text.now)
    (gained_further (g.W.Write.contents c.args.writer.now)
    (g.W.Write.contents c.loop-block.writer) (g.W.Write.contents c.write_whole.new.writer)
    (g.B.Blocks.ahead c.args.text.now) (g.B.Blocks.ahead c.loop-block.text)
    c.as_slice.result.now (g.B.Blocks.ahead c.push_block.new.self)
    c.loop-block.invariant.gained
    (rw c.as_slice.ensures.value
    (made c.push_block.new.block.items c.loop-block.block.items
    (g.B.Blocks.ahead c.loop-block.text) (g.B.Blocks.ahead c.push_block.new.self)
    c.loop-block.invariant.empty c.in_ok-push_block.ensures.text))
    c.in_err-write_whole.ensures.part))

pub returns-in_err-write_whole-clause-cause : goal.returns-in_err-write_whole-clause-cause
returns-in_err-write_whole-clause-cause g c =
    let e = err_from_is_err_and c.from_residual-in_err-write_whole.result
    c.from_residual-in_err-write_whole.ensures.1 in
    let was = c.in_err-write_whole.was in
    rw (e.1, e.2) (
    let P : Result (Unit {0}) Error → Type 0 = λ r. IfErr r
    (FailsWriting (g.W.Write.contents c.args.writer.now)
    (g.W.Write.contents c.write_whole.new.writer) (g.B.Blocks.ahead c.args.text.now)) in
    subst P was
    (fails_further c.write_whole.result (g.W.Write.contents c.args.writer.now)
    (g.W.Write.contents c.loop-block.writer) (g.W.Write.contents c.write_whole.new.writer)
    (g.B.Blocks.ahead c.args.text.now) (g.B.Blocks.ahead c.loop-block.text)
    c.as_slice.result.now (g.B.Blocks.ahead c.push_block.new.self)
    c.loop-block.invariant.gained
    (rw c.as_slice.ensures.value
    (made c.push_block.new.block.items c.loop-block.block.items
    (g.B.Blocks.ahead c.loop-block.text) (g.B.Blocks.ahead c.push_block.new.self)
    c.loop-block.invariant.empty c.in_ok-push_block.ensures.text))
    c.write_whole.ensures.part c.write_whole.ensures.kind)
    )

pub returns-clause-part : goal.returns-clause-part
returns-clause-part g c =
    on_err_weaker c.write_whole-2.result (λ h.
    less_part (g.W.Write.contents c.args.writer.now)
    (g.W.Write.contents c.write_whole-2.new.writer) (g.B.Blocks.ahead c.args.text.now)
    (gained_further (g.W.Write.contents c.args.writer.now)
    (g.W.Write.contents c.loop-block.writer) (g.W.Write.contents c.write_whole-2.new.writer)
    (g.B.Blocks.ahead c.args.text.now) (g.B.Blocks.ahead c.loop-block.text)
    c.as_slice-2.result.now (g.B.Blocks.ahead c.push_block.new.self)
    c.loop-block.invariant.gained
    (rw c.as_slice-2.ensures.value
    (made c.push_block.new.block.items c.loop-block.block.items
    (g.B.Blocks.ahead c.loop-block.text) (g.B.Blocks.ahead c.push_block.new.self)
    c.loop-block.invariant.empty c.in_ok-push_block.ensures.text)) h)) c.write_whole-2.ensures.part

pub returns-clause-cause : goal.returns-clause-cause
returns-clause-cause g c =
    fails_further c.write_whole-2.result (g.W.Write.contents c.args.writer.now)
    (g.W.Write.contents c.loop-block.writer) (g.W.Write.contents c.write_whole-2.new.writer)
    (g.B.Blocks.ahead c.args.text.now) (g.B.Blocks.ahead c.loop-block.text)
    c.as_slice-2.result.now (g.B.Blocks.ahead c.push_block.new.self)
    c.loop-block.invariant.gained
    (rw c.as_slice-2.ensures.value
    (made c.push_block.new.block.items c.loop-block.block.items
    (g.B.Blocks.ahead c.loop-block.text) (g.B.Blocks.ahead c.push_block.new.self)
    c.loop-block.invariant.empty c.in_ok-push_block.ensures.text))
    c.write_whole-2.ensures.part c.write_whole-2.ensures.kind
