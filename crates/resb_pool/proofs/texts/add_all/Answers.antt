use Rattle.std.proofs.Common.{◌≤◌, suc, length, take, drop, get_or, sym, ◌∙◌, ap, subst, arith}
use Rattle.std.proofs.lemmas.Bool.{leb-true}
use Rattle.std.proofs.lemmas.Result.{err_from_is_err_and}
use Rattle.resb_format.specs.Units.{units}
use Rattle.resb_pool.specs.Plan.{nows, texts_size, too_large, no_memory}
use Rattle.resb_pool.specs.Inner.Placing.{AreTexts, AreTurns}
use Rattle.resb_pool.proofs.TextLoops.{blank, nows-take, nows-split, texts_size-push}
use Rattle.resb_pool.proofs.TextLoops.{texts_size-most}
use Rattle.resb_pool.proofs.texts.add_all.Goals as goal

pub returns-then-is_vast-clause-err : goal.returns-then-is_vast-clause-err
returns-then-is_vast-clause-err c =
    let xs = c.args.strings.now in
    let i = c.loop-text.text-index in
    let t = (get_or xs i blank).now in
    let e = ap texts_size (nows-split xs i blank c.loop-text-test.true) in
    let f = texts_size-most (nows (take i xs)) t (nows (drop (suc i) xs)) in
    let g : 268435456 ≤ length (units t) =
    leb-true 268435456 (length (units t)) (sym c.is_vast.ensures ∙ c.if-is_vast.true) in
    too_large c.requires.short (omega (arith, e, f, g))

pub returns-in_err-count-clause-err : goal.returns-in_err-count-clause-err
returns-in_err-count-clause-err c = let p =
    err_from_is_err_and c.from_residual.result
    c.from_residual.ensures.1 in rw (p.1, p.2) no_memory

pub returns-in_err-size-clause-err : goal.returns-in_err-size-clause-err
returns-in_err-size-clause-err c =
    let xs = c.args.strings.now in
    let i = c.loop-text.text-index in
    let t = (get_or xs i blank).now in
    let e = ap texts_size (nows-split xs i blank c.loop-text-test.true) in
    let f = texts_size-most (nows (take i xs)) t (nows (drop (suc i) xs)) in
    let p = err_from_is_err_and c.from_residual-in_err-size.result
    c.from_residual-in_err-size.ensures.1 in
    rw (p.1, p.2, c.in_err-size.ensures.err.0) (too_large c.requires.short (omega (
      arith,
      e,
      f,
      c.in_ok-count.ensures.count,
      c.loop-text.invariant.size,
      c.in_err-size.ensures.err.1,
    )))

pub loop-text-preserved : goal.loop-text-preserved
loop-text-preserved c =
    let xs = c.args.strings.now in
    let i = c.loop-text.text-index in
    let t = (get_or xs i blank).now in
    let e = nows-take xs i blank c.loop-text-test.true in
    let v = c.loop-text.invariant in
    record {
      texts = subst (λ d. AreTexts d (nows c.add_copy.new.texts.distinct.keys)
          c.add_copy.new.texts.measures.items) (sym e)
          (c.in_ok-count.ensures.texts (nows (take i xs)) v.texts);
      turns = subst (λ d. AreTurns d (nows c.add_copy.new.texts.distinct.keys)
          c.add_copy.new.texts.order.items) (sym e) (c.in_ok-count.ensures.turns (nows (take i xs))
          v.turns);
      size = omega (
        arith,
        v.size,
        c.in_ok-size.ensures.ok,
        c.in_ok-count.ensures.count,
        ap texts_size e,
        texts_size-push (nows (take i xs)) t,
      );
      small = c.in_ok-size.ensures.small;
    }
