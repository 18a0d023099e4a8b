use Rattle.std.proofs.Common.{◌≡◌, ◌∷◌, ◌++◌, ◌<◌, [], ℕ, List, Bor, get_or, take, length, sym, ◌∙◌}
use Rattle.std.proofs.Common.{ap, subst, arith}
use Rattle.std.specs.List.{All, Contains}
use Rattle.std.specs.Prelude.{slice_get}
use Rattle.std.specs.Str.{IsUtf8}
use Rattle.std.proofs.lemmas.List.{take_all, get_or-map, get_or_default, length-map}
use Rattle.resb_pool.specs.Container.{IsContainer}
use Rattle.resb_pool.specs.Holders.{AreHolders}
use Rattle.resb_pool.specs.Plan.{nows}
use Rattle.resb_pool.specs.declared.packing.Packing.TheVariants.{Compact}
use Rattle.resb_pool.proofs.TextLoops.{nows-take}
use Rattle.resb_lent.specs.LentBeside.{LendsTextBy}
use Rattle.resb_lent.specs.PlanWithPool.{AreLentBy, lent_none}
use Rattle.resb_lent.specs.Inner.Chosen.{AreChosen, LiesAmong, IsMarked}
use Rattle.resb_lent.specs.Inner.LentEndings.{StandsAs, AreStandings}
use Rattle.resb_lent.specs.declared.texts.Standing.TheVariants.{End}
use Rattle.resb_lent.proofs.Beside.{lent_push}
use Rattle.resb_lent.proofs.EarlierCopies.{copy_is, lent_at}
use Rattle.resb_lent.proofs.Others.{standing_at, chosen_others, kept_end}
use Rattle.resb_lent.proofs.Together.{holder_at}
use Rattle.resb_lent.proofs.answers_beside.answers_beside.Goals as goal
use Rattle.resb_lent.proofs.answers_beside.answers_beside.Goals.{in-Some, in-None}

pub loop-number-init : goal.loop-number-init
loop-number-init c = λ block h.
    subst (AreLentBy Compact block (nows c.args.strings.now) [])
    (sym c.in_ok-answers.ensures.items) lent_none

pub loop-number-preserved : goal.loop-number-preserved
loop-number-preserved c = λ block h.
    let xs = c.args.strings.now in
    let S = nows xs in
    let ds = c.in_ok-standings.standings.items in
    let O = nows c.in_ok-others.others.items in
    let i = c.loop-number.number in
    let d : Bor (List ℕ) = record { ref_ptr = (0, 0); now = [] } in
    let first = λ (y : Bor (List ℕ)). y.now in
    let s = (get_or xs i d).now in
    let l : i < length xs = c.loop-number-test.true in
    let m : i < length S = omega (arith, l, length-map xs first) in
    let is : get_or S i [] ≡ s = get_or-map first xs i d [] l in
    let given : Contains S s = (i, m, get_or_default S i s [] m ∙ is) in
    let told : AreStandings block S ds = c.in_ok-standings.ensures.stand block h in
    let chosen : AreChosen S ds O =
    subst (λ z. AreChosen S z O) c.deref-2.ensures.value c.in_ok-others.ensures in
    let there = standing_at block S ds told i m in
    let n : i < length O = omega (arith, m, chosen.len) in
    let rs = c.in_ok-own.own.items in
    let holders : AreHolders Compact O (nows rs) =
    subst (λ (z : List (Bor (List ℕ))). AreHolders Compact (nows z) (nows rs))
    c.deref-3.ensures.value c.in_ok-own.ensures.holders in
    let utf8 : All IsUtf8 O =
    subst (λ (z : List (Bor (List ℕ))). All IsUtf8 (nows z)) c.deref-3.ensures.value
    c.in_ok-own.ensures.utf8 in
    let answers = c.loop-number.answers.items in
    let old = c.loop-number.invariant block h in
    let known : LendsTextBy Compact block S s c.match-answer_at.answer =
    elim c.match-answer_at.branch [
      | in-Some w ↦
          let cs = c.in_ok-copies.copies.items in
          let k = c.index.result.now in
          let r = lent_at Compact block S (nows (take i xs)) answers old k w.in-Some.answer
          (ap (λ z. slice_get z k) (sym c.deref-in-loop-number.ensures.value)
          ∙ sym c.answer_at.ensures ∙ w.in-Some.is) in
          let same = copy_is xs cs c.in_ok-copies.ensures i l k
          (c.index.ensures ∙ get_or_default cs i k 0 (omega (arith, m, c.in_ok-copies.ensures.len)))
          r.0 in
          subst (LendsTextBy Compact block S s) (sym w.answer-is)
          (subst (λ t. LendsTextBy Compact block S t w.in-Some.answer) same r.1)
      | in-None w ↦
          let own = w.index-in-None-2.result.now in
          let standing = w.index-in-None.result.now in
          let stands : StandsAs block s standing =
          subst (StandsAs block s) (sym (w.index-in-None.ensures ∙ there.at standing))
          (subst (λ z. StandsAs block z there.standing) is there.stands) in
          let lies : standing ≡ End → 0 < length s → LiesAmong block S O s own.now = λ e full.
          (let end : get_or ds i standing ≡ End = sym w.index-in-None.ensures ∙ e in
          let marked : IsMarked chosen.marks s =
          subst (IsMarked chosen.marks) is (chosen.marked i standing m end) in
          let same : get_or O i [] ≡ s =
          kept_end S ds O chosen i standing m end (omega (arith, full, ap length is)) ∙ is in
          record {
            others = chosen_others block S ds O told chosen s full marked;
            given = (i, n, get_or_default O i s [] n ∙ same);
            container =
                subst (λ (z : Bor (List ℕ)). IsContainer Compact O s z.now)
                (sym w.index-in-None-2.ensures)
                (subst (λ z. IsContainer Compact O z (get_or rs i own).now) same
                (holder_at O rs i own holders n (omega (arith, full, ap length same))));
          }) in
          subst (LendsTextBy Compact block S s) (sym w.answer-is)
          (w.answer_beside-answer.ensures block S O h c.in_ok-standings.ensures.utf8 utf8 given
          stands lies)
    ] in
    subst (λ ss. AreLentBy Compact block S ss c.push.new.self.items)
    (sym (nows-take xs i d l))
    (subst (AreLentBy Compact block S (nows (take i xs) ++ s ∷ [])) (sym c.in_ok-push.ensures.items)
    (lent_push Compact block S (nows (take i xs)) answers s c.match-answer_at.answer old known))

pub returns-clause-lends : goal.returns-clause-lends
returns-clause-lends c = λ block h.
    subst (λ xs. AreLentBy Compact block (nows c.args.strings.now) (nows xs)
    c.loop-number.answers.items)
    (take_all c.loop-number.number c.args.strings.now c.loop-number-test.false)
    (c.loop-number.invariant block h)
