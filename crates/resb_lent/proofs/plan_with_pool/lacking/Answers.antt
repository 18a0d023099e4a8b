use Rattle.std.proofs.Common.{◌≡◌, ◌++◌, ◌∷◌, ◌+◌, ◌<◌, [], ℕ, zero, suc, List, Bor, None, inl, inr}
use Rattle.std.proofs.Common.{length, drop, get_or, refl, sym, ◌∙◌, ap, subst, append-nil}
use Rattle.std.proofs.Common.{append_assoc, arith}
use Rattle.std.specs.Prelude.{slice_get}
use Rattle.std.proofs.lemmas.Bool.{cases_lt}
use Rattle.std.proofs.lemmas.List.{drop_all, drop_more, get_or-map, length-map}
use Rattle.resb_pool.specs.Plan.{nows}
use Rattle.resb_pool.specs.declared.packing.Packing.{Packing}
use Rattle.resb_pool.specs.declared.packing.Packing.TheVariants.{Plain, Compact}
use Rattle.resb_pool.proofs.TextLoops.{blank}
use Rattle.resb_lent.specs.PlanWithPool.{lacking}
use Rattle.resb_lent.specs.Inner.LentEndings.{AreStandingsBy, AreLentEndsBy, StandsAs}
use Rattle.resb_lent.specs.declared.texts.Standing.{Standing}
use Rattle.resb_lent.proofs.Beside.{lacking_more, lacking_none}
use Rattle.resb_lent.proofs.Others.{standing_at}
use Rattle.resb_lent.proofs.plan_with_pool.lacking.Goals as goal

pub returns-clause-texts : goal.returns-clause-texts
returns-clause-texts c =
    let ts = c.args.texts.now in
    let os = c.args.found.now in
    let i = c.loop-at.at in
    let gone : lacking (nows (drop i ts)) (drop i os) ≡ [] =
    elim (cases_lt (length ts) (length os)) [
      | inl n ↦ ap (λ l. lacking (nows l) (drop i os))
          (drop_all i ts (omega (arith, n, c.loop-at-test.false, c.min-at-end.ensures)))
      | inr n ↦ ap (λ l. lacking (nows (drop i ts)) l)
          (drop_all i os (omega (arith, n, c.loop-at-test.false, c.min-at-end.ensures)))
          ∙ lacking_none (nows (drop i ts))
    ] in
    sym (append-nil (nows c.loop-at.own.texts.items))
    ∙ ap (λ l. nows c.loop-at.own.texts.items ++ l) (sym gone)
    ∙ c.loop-at.invariant.texts

none_there : (i : ℕ) → slice_get {X = Standing} [] i ≡ None
none_there zero = refl
none_there (suc i) = refl

pub loop-at-preserved : goal.loop-at-preserved
loop-at-preserved c =
    let xs = c.args.texts.now in
    let os = c.args.found.now in
    let i = c.loop-at.at in
    let v = c.loop-at.invariant in
    let o = get_or os i None in
    let t = (get_or xs i blank).now in
    let l : i < length xs = omega (arith, c.loop-at-test.true, c.min-at-end.ensures) in
    let m : i < length os = omega (arith, c.loop-at-test.true, c.min-at-end.ensures) in
    record {
      texts = ap (λ z. z ++ lacking (nows (drop (i + 1) xs)) (drop (i + 1) os))
          c.in_ok-note_lacking.ensures.texts
          ∙ append_assoc (nows c.loop-at.own.texts.items) (lacking (t ∷ []) (o ∷ []))
          (lacking (nows (drop (i + 1) xs)) (drop (i + 1) os))
          ∙ ap (λ z. nows c.loop-at.own.texts.items ++ z)
          (sym (lacking_more t (nows (drop (i + 1) xs)) o (drop (i + 1) os))
          ∙ (λ j. lacking (nows (sym (drop_more xs i blank l) j)) (sym (drop_more os i None m) j)))
          ∙ v.texts;
      within = c.in_ok-note_lacking.ensures.within;
      ends = λ way block h. by way block h;
    }
  where
    by : (way : Packing) (block : List ℕ)
        → AreStandingsBy way block (nows c.args.texts.now) c.args.standings.now
        → AreLentEndsBy way block (nows c.note_lacking.new.own.texts.items)
        c.note_lacking.new.own.ended.items
    by Plain block h =
        let none = c.standing_at.ensures ∙ ap (λ z. slice_get z c.loop-at.at) h
        ∙ none_there c.loop-at.at in
        c.in_ok-note_lacking.ensures.none none ∙ c.loop-at.invariant.ends Plain block h
    by Compact block h =
        let xs = c.args.texts.now in
        let i = c.loop-at.at in
        let first = λ (y : Bor (List ℕ)). y.now in
        let l : i < length xs = omega (arith, c.loop-at-test.true, c.min-at-end.ensures) in
        let there = standing_at block (nows xs) c.args.standings.now h i
        (omega (arith, l, length-map xs first)) in
        c.in_ok-note_lacking.ensures.ends block there.standing
        (c.standing_at.ensures ∙ there.there)
        (subst (λ z. StandsAs block z there.standing) (get_or-map first xs i blank [] l)
        there.stands)
        (c.loop-at.invariant.ends Compact block h)
