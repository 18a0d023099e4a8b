-- Each refusal in its order, and what is known where there is none.
use Rattle.std.proofs.Common.{refl, sym, subst}
use Rattle.std.proofs.lemmas.Result.{err_from_is_err_and}
use Rattle.resb_tree.specs.LayingOrder.{laying_order, keys_of}
use Rattle.resb_layout.specs.KeyBlock.{used}
use Rattle.resb_layout.specs.TreeFaults.{RefusesWriting, no_memory}
use Rattle.resb_write.proofs.Refusals.{key_refused, size_refused}
use Rattle.resb_write.proofs.with_pool.checked_beside.Goals as goal

pub returns-in_err-contents-clause-err : goal.returns-in_err-contents-clause-err
returns-in_err-contents-clause-err g c =
    let p = err_from_is_err_and c.from_residual.result c.from_residual.ensures.1 in
    rw p.1 (λ t f k. subst (RefusesWriting t c.args.wanted.now.list.now) (sym p.2) no_memory)

pub returns-in_err-block-clause-err : goal.returns-in_err-block-clause-err
returns-in_err-block-clause-err g c =
    let p = err_from_is_err_and c.from_residual-in_err-block.result
    c.from_residual-in_err-block.ensures.1 in
    rw (p.1, p.2) (λ t f k.
    key_refused t c.args.wanted.now.list.now (keys_of t) _ refl
    (c.in_err-block.ensures.err (keys_of t) k))

pub returns-in_err-check_sizes-clause-err : goal.returns-in_err-check_sizes-clause-err
returns-in_err-check_sizes-clause-err g c =
    let p = err_from_is_err_and c.from_residual-in_err-check_sizes.result
    c.from_residual-in_err-check_sizes.ensures.1 in
    rw (p.1, p.2) (λ t f k.
    let b = c.in_ok-block.ensures.ok (keys_of t) k in
    let gathered = c.in_ok-contents.ensures (laying_order t) f in
    let ks = c.args.wanted.now.list.now in
    size_refused t ks (keys_of t) (used (keys_of t) ks) refl refl b.faultless _
    (c.in_err-check_sizes.ensures.err (laying_order t) gathered))

pub returns-clause-ok : goal.returns-clause-ok
returns-clause-ok g c = λ t f k.
    let gathered = c.in_ok-contents.ensures (laying_order t) f in (
      gathered,
      c.in_ok-block.ensures.ok (keys_of t) k,
      c.in_ok-check_sizes.ensures.ok (laying_order t) gathered,
    )
