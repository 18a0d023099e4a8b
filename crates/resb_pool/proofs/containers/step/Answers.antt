use Rattle.std.proofs.Common.{sym, ◌∙◌, ap, subst}
use Rattle.std.specs.Prelude.{◌++◌, ◌∷◌, []}
use Rattle.std.proofs.lemmas.Bool.{MatchBool-at_true, MatchBool-at_false}
use Rattle.resb_format.specs.Units.{is_unmarked}
use Rattle.resb_pool.specs.Plan.{nows}
use Rattle.resb_pool.specs.Inner.Suffixes.{IsEnd, row_text}
use Rattle.resb_pool.specs.Inner.Tops.{StepsTo, new_top, shares, hides}
use Rattle.resb_pool.proofs.containers.step.Goals as goal

pub returns-then-not-ends_previous : goal.returns-then-not-ends_previous
returns-then-not-ends_previous c =
    let T = nows c.args.texts.now in
    let E : Type 0 = IsEnd (row_text T c.args.previous.now) (row_text T c.args.row.now) in
    new_top (MatchBool-at_false E (E → ⊥) c.if-not-ends_previous.true c.ends_previous.ensures)

pub returns-then-is_unmarked : goal.returns-then-is_unmarked
returns-then-is_unmarked c =
    let T = nows c.args.texts.now in
    let E : Type 0 = IsEnd (row_text T c.args.previous.now) (row_text T c.args.row.now) in
    shares (MatchBool-at_true E (E → ⊥) c.if-not-ends_previous.false c.ends_previous.ensures)
    (ap is_unmarked (sym c.indexed_text.ensures) ∙ sym c.is_unmarked.ensures
    ∙ c.if-is_unmarked.true)

pub returns : goal.returns
returns c =
    let T = nows c.args.texts.now in
    let p = row_text T c.args.previous.now in
    let s = row_text T c.args.row.now in
    let i = c.args.row.now.index in
    let hs = c.args.hidden.now.items in
    let E : Type 0 = IsEnd p s in
    let h : StepsTo p s i c.args.top hs c.args.top i (hs ++ i ∷ []) =
    hides (MatchBool-at_true E (E → ⊥) c.if-not-ends_previous.false c.ends_previous.ensures)
    (ap is_unmarked (sym c.indexed_text.ensures) ∙ sym c.is_unmarked.ensures
    ∙ c.if-is_unmarked.false) in
    subst (StepsTo p s i c.args.top hs c.args.top i) (sym c.in_ok-push.ensures.items) h
