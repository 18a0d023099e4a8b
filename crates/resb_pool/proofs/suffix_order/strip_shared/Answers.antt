use Rattle.std.proofs.Common.{◌≡◌, ◌++◌, ◌-◌, length, take, sym, ◌∙◌, ap, arith, length-append}
use Rattle.std.proofs.Math.Seq.{take-append_seam}
use Rattle.resb_pool.proofs.Cut.{end_within, nothing_shared, shared_end}
use Rattle.resb_pool.proofs.suffix_order.strip_shared.Goals as goal

pub returns-in-Some-split_at_checked : goal.returns-in-Some-split_at_checked
returns-in-Some-split_at_checked c =
    let xs = c.args.left.now in
    let ys = c.args.right.now in
    let a = c.in-Some.left_rest.now in
    let e = c.in-Some.end.now in
    let y = c.in-Some-split_at_checked.right_rest.now in
    let cut = c.in-Some.ensures.cut in
    let b = end_within c.as_bytes.result.now c.as_bytes-2.result.now c.strip_bytes.result.0.now
    c.strip_bytes.result.1.now a e c.strip_bytes.ensures (c.as_bytes.ensures.value ∙ cut.is)
    c.in-Some.ensures.least in
    let is : ys ≡ b.0 ++ e = sym c.as_bytes-2.ensures.value ∙ b.1 in
    let n : length ys - length e ≡ length b.0 =
    omega (arith, ap length is, length-append b.0 e) in
    let front : y ≡ b.0 =
    c.in-Some-split_at_checked.ensures.front ∙ ap (λ k. take k ys) n
    ∙ ap (take (length b.0)) is ∙ take-append_seam b.0 e in
    shared_end xs ys a y e c.utf8.right cut (is ∙ ap (λ l. l ++ e) (sym front))

pub returns-in_default : goal.returns-in_default
returns-in_default c = nothing_shared c.args.left.now c.args.right.now c.utf8.left c.utf8.right

pub returns-in-None : goal.returns-in-None
returns-in-None c = nothing_shared c.args.left.now c.args.right.now c.utf8.left c.utf8.right
