use Rattle.std.proofs.Common.{◌∙◌, ◌+◌, ◌-◌, ◌<◌, ◌≤◌, [], length, get_or, ap, sym, arith}
use Rattle.std.proofs.lemmas.Bool.Decides.{nat_tests}
use Rattle.resb_diff.proofs.PathLemmas.{first_path, no_path, last_path}
use Rattle.resb_diff.proofs.paths.Paths.last.Goals as goal

pub returns-then-number-eq0 : goal.returns-then-number-eq0
returns-then-number-eq0 c =
    ap (λ ps. get_or ps c.args.number []) (sym c.self.view_is)
    ∙ first_path c.self.inside.nodes.items c.args.number c.if-number-eq0.true

pub returns-in_err-node : goal.returns-in_err-node
returns-in_err-node c =
    let past : length c.self.inside.nodes.items + 1 ≤ c.args.number =
    grind (arith, nat_tests, c.in_err-node.ensures.lookup.0, c.deref.ensures.value) in
    rw c.from_residual.ensures (ap (λ ps. get_or ps c.args.number []) (sym c.self.view_is)
    ∙ no_path c.self.inside.nodes.items c.args.number past)

pub returns : goal.returns
returns c =
    let items = c.self.inside.nodes.items in
    let within : c.args.number - 1 < length items =
    grind (arith, nat_tests, c.in_ok-node.ensures.lookup.0, c.deref.ensures.value) in
    rw (← c.self.view_is)
    (last_path items c.args.number c.in_ok-node.node.now c.self.invariant (omega arith) within
    (c.in_ok-node.ensures.lookup.1
    ∙ ap (λ l. get_or l (c.args.number - 1) c.in_ok-node.node.now) c.deref.ensures.value))
