use Rattle.std.proofs.Common.{◌≡◌, ◌∙◌, ◌++◌, ◌≤◌, ◌<◌, sym, ap, arith, length, get_or}
use Rattle.std.specs.Prelude.{slice_range}
use Rattle.json.specs.Print.{escape, escape_byte}
use Rattle.resb_json.proofs.Escaping.{run_grows, run_ends}
use Rattle.resb_json.proofs.quoted.push_escaped.Goals as goal
use Rattle.resb_json.proofs.quoted.push_escaped.Goals.{
  then-is_escaped+in_ok-extend_from_slice+in_ok-push_escape,
}
use Rattle.resb_json.proofs.quoted.push_escaped.Goals.{else-is_escaped}

pub loop-at-preserved : goal.loop-at-preserved
loop-at-preserved c =
    let bytes = c.args.bytes.now in
    let at = c.loop-at.at in
    let start = c.loop-at.start in
    let out = c.loop-at.out.items in
    let all = c.args.out.now.items ++ escape bytes in
    let behind : start ≤ at = c.loop-at.invariant.start in
    let before : at < length bytes = omega arith in
    elim c.if-is_escaped.branch [
      | then-is_escaped+in_ok-extend_from_slice+in_ok-push_escape w ↦
          let written : w.push_escape.new.out.items
          ≡ (out ++ slice_range bytes start at) ++ escape_byte (get_or bytes at 0) =
          w.in_ok-push_escape.ensures
          ∙ ap (λ l. l ++ escape_byte (get_or bytes at 0))
          w.in_ok-extend_from_slice.ensures.items in
          record {
            start = omega (arith, w.start-is);
            text = rw (w.out-is, w.start-is, written)
                (run_ends bytes start at out all behind before c.loop-at.invariant.text);
          }
      | else-is_escaped w ↦ record {
        start = omega (arith, w.start-is);
        text = rw (w.out-is, w.start-is)
            (run_grows bytes start at out all behind before (sym w.if-is_escaped.ensures)
            c.loop-at.invariant.text);
      }
    ]
