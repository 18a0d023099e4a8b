use Rattle.std.proofs.Common.{ℕ, ◌≤◌, inr}
use Rattle.std.specs.Prelude.{option_map, IfOk, IfErr}
use Rattle.std.proofs.lemmas.Result.{IfOk-weaker, err_from_is_err_and}
use Rattle.resb_format.specs.Error.{refusal_of}
use Rattle.resb_pool_bundle.specs.Pool.{pool_in}
use Rattle.resb_read.specs.Leaves.{CountsOf}
use Rattle.resb_read.specs.Reading.{LacksOrMemory}
use Rattle.resb_read.specs.Resources.{DenPlace, ReadsTree}
use Rattle.resb_read.specs.Roots.{HoldsAt}
use Rattle.resb_read.specs.WithPool.{over}
use Rattle.resb_read.specs.declared.file.Manner.TheVariants.{Beside}
use Rattle.resb_read.proofs.FilesLemmas.{of_bytes}
use Rattle.resb_read.proofs.Rooted.{no_file}
use Rattle.resb_read.proofs.WithPool.{over_linked}
use Rattle.resb.proofs.ReadBack.{tree_or_none}
use Rattle.resb.proofs.headline.read_tree_with_pool.Goals as goal

pub returns-in_err-opened-clause-refused : goal.returns-in_err-opened-clause-refused
returns-in_err-opened-clause-refused c =
    let given = option_map pool_in c.args.pool in
    let e = err_from_is_err_and c.from_residual.result c.from_residual.ensures.1 in
    rw e.1 (inr (λ t d. no_file (over given c.args.file.now)
    (refusal_of c.in_err-opened.field-0.0) (over_linked given c.args.file.now)
    c.in_err-opened.ensures d.1.head))

pub returns-clause-ok : goal.returns-clause-ok
returns-clause-ok c =
    let h = c.in_ok-opened.ensures in
    let read = of_bytes (λ w. IfOk c.read.result
    (λ x. (n : ℕ) × HoldsAt (λ p. ReadsTree p x n) w × (n ≤ w.budget)))
    c.in_ok-opened.opened (Beside c.args.pool) c.args.file.now h.0 h.1 c.read.ensures.read in
    IfOk-weaker c.read.result _ _
    (λ x k. (k.0, record { head = k.1.head; root = k.1.root.0 }, k.2)) read

pub returns-clause-refused : goal.returns-clause-refused
returns-clause-refused c =
    let h = c.in_ok-opened.ensures in
    tree_or_none (over (option_map pool_in c.args.pool) c.args.file.now)
    (λ t n d. (d.head, d.root)) c.read.result
    (of_bytes (λ w. IfErr c.read.result
    (LacksOrMemory (λ n. HoldsAt (λ p. CountsOf DenPlace p n) w) w.budget))
    c.in_ok-opened.opened (Beside c.args.pool) c.args.file.now h.0 h.1 c.read.ensures.refused)
