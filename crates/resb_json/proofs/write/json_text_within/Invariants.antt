-- What is made, with what is still to come, is the whole JSON.
use Rattle.std.proofs.Common.{◌≡◌, ◌++◌}
use Rattle.serde_json.specs.Written.{compact_text}
use Rattle.resb_json.specs.Json.{json_of}
use Rattle.resb_json.specs.Inner.Jobs.{jobs_in, texts_of, turns_of}
use Rattle.resb_json.proofs.write.json_text_within.Given as goal

abbrev pub invariant-loop-bytes : goal.invariant-loop-bytes
invariant-loop-bytes g l = l.bytes.items
    ++ texts_of (jobs_in g.S.Shown.tree g.S.Shown.members g.S.Shown.entries l.text.pending.items)
    ≡ compact_text (json_of (g.S.Shown.tree l.fn.shown))

abbrev pub decreases-loop-bytes : goal.decreases-loop-bytes
decreases-loop-bytes g l =
    turns_of (jobs_in g.S.Shown.tree g.S.Shown.members g.S.Shown.entries l.text.pending.items)
