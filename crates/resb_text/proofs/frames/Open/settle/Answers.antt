use Rattle.std.proofs.Common.{◌≡◌, ◌∙◌, sym, arith}
use Rattle.std.specs.Prelude.{vec_len}
use Rattle.std.proofs.lemmas.Bool.{eqb-true}
use Rattle.std.proofs.lemmas.List.{nil_from_length}
use Rattle.std.proofs.lemmas.Result.{on_ok_weaker}
use Rattle.resb_text.proofs.OpenGroups.{shows_settled}
use Rattle.resb_text.proofs.frames.Open.settle.Goals as goal

pub returns-clause-shows : goal.returns-clause-shows
returns-clause-shows g c =
    let old = c.args.self.now in
    let ok = old.around.ok.0 in
    let none : vec_len old.around ≡ 0 =
    eqb-true _ _ (sym c.is_empty.ensures ∙ c.if-not-is_empty.false) in
    on_ok_weaker c.settle.result
    (λ lists. λ o x. shows_settled old o (nil_from_length _ (omega (arith, ok, none))) lists x)
    c.settle.ensures.lists
