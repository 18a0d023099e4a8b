use Rattle.std.proofs.Common.{take, sym}
use Rattle.std.proofs.lemmas.List.{take-append-drop}
use Rattle.resb_shown.proofs.Sinking.{gained_more, gained_still}
use Rattle.resb_shown.proofs.sink.write_whole.Goals as goal
use Rattle.resb_shown.proofs.sink.write_whole.Goals.{in-Ok, in-Err}

pub loop-preserved : goal.loop-preserved
loop-preserved g c =
    let old = g.W.Write.contents c.args.writer.now in
    let now = g.W.Write.contents c.loop.writer in
    let new = g.W.Write.contents c.write.new.self in
    elim c.match-write.branch [
      | in-Ok w ↦ gained_more old now new c.args.bytes.now c.loop.rest.now
          (take w.in-Ok.n c.loop.rest.now) c.match-write.rest.now c.loop.invariant
          (rw (w.rest-is, w.split_at.ensures.back)
          (sym (take-append-drop w.in-Ok.n c.loop.rest.now)))
          w.in-Ok.ensures.bytes
      | in-Err w ↦ rw w.rest-is
          (gained_still old now new c.args.bytes.now c.loop.rest.now c.loop.invariant
          w.in-Err.ensures.bytes)
    ]
