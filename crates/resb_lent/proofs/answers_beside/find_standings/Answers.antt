use Rattle.std.proofs.Common.{◌∷◌, ◌++◌, [], get_or, length, take, refl, sym, ap, subst, arith}
use Rattle.std.specs.List.{All}
use Rattle.std.specs.Str.{IsUtf8}
use Rattle.std.proofs.lemmas.List.{take_all, length_push}
use Rattle.std.proofs.lemmas.List.Elements.{All-nil, All-push}
use Rattle.resb_pool.specs.Plan.{nows}
use Rattle.resb_pool.proofs.TextLoops.{blank, nows-take}
use Rattle.resb_lent.specs.Inner.LentEndings.{AreStandings, standing_none}
use Rattle.resb_lent.proofs.EarlierCopies.{copy_is}
use Rattle.resb_lent.proofs.Others.{standing_push}
use Rattle.resb_lent.proofs.answers_beside.find_standings.Goals as goal

pub loop-number-init : goal.loop-number-init
loop-number-init c =
    let none = c.in_ok-standings.ensures.items in
    record {
      len = ap length none;
      stand = λ block h. subst (AreStandings block []) (sym none) standing_none;
      utf8 = All-nil IsUtf8;
    }

pub loop-number-preserved : goal.loop-number-preserved
loop-number-preserved c =
    let xs = c.args.strings.now in
    let i = c.loop-number.number in
    let v = c.loop-number.invariant in
    let ds = c.loop-number.standings.items in
    let s = (get_or xs i blank).now in
    let d = c.standing_of.result in
    let more = nows-take xs i blank c.loop-number-test.true in
    let newer = c.in_ok-push.ensures.items in
    record {
      len = omega (arith, ap length newer, length_push ds d, v.len);
      stand = λ block h.
          subst (λ z. AreStandings block z c.push.new.self.items) (sym more)
          (subst (AreStandings block (nows (take i xs) ++ s ∷ [])) (sym newer)
          (standing_push block (nows (take i xs)) ds s d (v.stand block h)
          (c.standing_of.ensures.stands block (nows (take i xs)) h
          (subst (AreStandings block (nows (take i xs))) (sym c.deref.ensures.value)
          (v.stand block h))
          (copy_is xs c.args.copies.now c.requires i c.loop-number-test.true
          (get_or c.args.copies.now i 0) refl))));
      utf8 = subst (All IsUtf8) (sym more)
          (All-push IsUtf8 (nows (take i xs)) s v.utf8 c.standing_of.ensures.utf8);
    }

pub returns-clause-stand : goal.returns-clause-stand
returns-clause-stand c = λ block h.
    subst (λ xs. AreStandings block (nows xs) c.loop-number.standings.items)
    (take_all c.loop-number.number c.args.strings.now c.loop-number-test.false)
    (c.loop-number.invariant.stand block h)

pub returns-clause-utf8 : goal.returns-clause-utf8
returns-clause-utf8 c = subst (λ xs. All IsUtf8 (nows xs))
    (take_all c.loop-number.number c.args.strings.now c.loop-number-test.false)
    c.loop-number.invariant.utf8
