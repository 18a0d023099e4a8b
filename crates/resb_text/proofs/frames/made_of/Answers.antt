use Rattle.std.proofs.Common.{ap, refl}
use Rattle.resb_text.specs.Inner.Discovered.{left}
use Rattle.resb_text.specs.Inner.Frames.{left_after}
use Rattle.resb_text.proofs.Growing.{closed_made}
use Rattle.resb_text.proofs.Candidates.{dropped_closes}
use Rattle.resb_text.proofs.frames.made_of.Goals as goal

pub returns-in-Table-clause-ok : goal.returns-in-Table-clause-ok
returns-in-Table-clause-ok g c =
    closed_made g.B.Build.tree g.B.Build.held _ c.args.build.now c.table.new.self c.args.frame.now _
    (c.in-Table.ensures _ _) c.table.ensures.made

pub returns-in-Table-clause-keys : goal.returns-in-Table-clause-keys
returns-in-Table-clause-keys g c = record {
  rest = λ n f e. ap (λ sh. left_after sh n (left c.args.keys.now)) (c.in-Table.ensures _ _ n f e);
  others = λ h ne. refl;
  groups = refl;
  listed = refl;
}

pub returns-in-Array-clause-ok : goal.returns-in-Array-clause-ok
returns-in-Array-clause-ok g c =
    closed_made g.B.Build.tree g.B.Build.held _ c.args.build.now c.array.new.self c.args.frame.now _
    (c.in-Array.ensures _ _) c.array.ensures.made

pub returns-in-Array-clause-keys : goal.returns-in-Array-clause-keys
returns-in-Array-clause-keys g c =
    dropped_closes _ _ _ _ c.drop_group.ensures.drops (c.in-Array.ensures _ _) (λ n cs. refl)

pub returns-in-String-clause-ok : goal.returns-in-String-clause-ok
returns-in-String-clause-ok g c =
    closed_made g.B.Build.tree g.B.Build.held _ c.args.build.now c.string.new.self
    c.args.frame.now _ (c.in-String.ensures _ _) (λ h. c.string.ensures)

pub returns-in-String-clause-keys : goal.returns-in-String-clause-keys
returns-in-String-clause-keys g c =
    dropped_closes _ _ _ _ c.drop_group-in-String.ensures.drops (c.in-String.ensures _ _)
    (λ n cs. refl)
