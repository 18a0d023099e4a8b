use Rattle.std.proofs.lemmas.Result.{on_ok_weaker}
use Rattle.resb_text.proofs.OpenGroups.{shows_close}
use Rattle.resb_text.proofs.frames.Open.join_outer.Goals as goal

pub returns-clause-shows : goal.returns-clause-shows
returns-clause-shows g c =
    let build = c.made_of.new.build in
    let outer = c.replace-frame.ensures.after in
    let value = c.replace-frame.ensures.value in
    on_ok_weaker c.push.result (λ pushed. λ o x h.
    shows_close c.args.self.now _ o c.in-Some.outer c.in_ok-made.made x h c.in-Some.ensures.items
    (rw outer at (pushed (g.B.Build.tree build) (g.B.Build.held build)))
    (rw value at c.in_ok-made.ensures.ok) (rw value at c.made_of.ensures.keys))
    c.push.ensures.looks
