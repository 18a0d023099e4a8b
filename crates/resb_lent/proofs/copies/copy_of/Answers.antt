use Rattle.std.proofs.Common.{◌<◌, [], Bor, ℕ, List, length, sym, ◌∙◌, arith}
use Rattle.std.proofs.lemmas.List.{get_or-map}
use Rattle.resb_pool.proofs.TextLoops.{blank}
use Rattle.resb_lent.proofs.copies.copy_of.Goals as goal

pub returns-then-are_same : goal.returns-then-are_same
returns-then-are_same c =
    let xs = c.args.strings.now in
    let first = λ (y : Bor (List ℕ)). y.now in
    let earlier : c.args.earlier < length xs =
    omega (arith, c.if-earlier-number.true, c.requires) in
    record {
      reaches = omega (arith, c.if-earlier-number.true);
      same = get_or-map first xs c.args.earlier blank [] earlier
          ∙ c.if-are_same.ensures
          ∙ sym (get_or-map first xs c.args.number blank [] c.requires);
    }
