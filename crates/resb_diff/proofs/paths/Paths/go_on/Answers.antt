use Rattle.std.proofs.Common.{◌<◌, [], ◌∷◌, length, ap, arith}
use Rattle.resb_diff.proofs.PathLemmas.{paths_long, paths_push, GoOn-push}
use Rattle.resb_diff.proofs.paths.Paths.go_on.Goals as goal

pub invariant_of-self-2 : goal.invariant_of-self-2
invariant_of-self-2 c =
    rw c.in_ok-push.ensures.items
    (GoOn-push 1 c.self.inside.nodes.items _ c.self.invariant
    (let h : c.args.from < length c.args.self.now = c.requires in
    omega (arith, paths_long ([] ∷ []) c.self.inside.nodes.items, ap length c.self.view_is)))

pub returns-clause-number : goal.returns-clause-number
returns-clause-number c =
    omega (
      arith,
      paths_long ([] ∷ []) c.self.inside.nodes.items,
      ap length c.self.view_is,
      c.in_ok-push.ensures.len,
      c.self.inside.nodes.ok.0,
    )

pub returns-clause-paths : goal.returns-clause-paths
returns-clause-paths c =
    rw (c.in_ok-push.ensures.items, paths_push ([] ∷ []) c.self.inside.nodes.items, c.self.view_is)
