use Rattle.std.proofs.Common.{◌+◌, ap, sym, ◌∙◌, arith, map, drop, Bor, List, ℕ}
use Rattle.std.proofs.lemmas.List.{drop_more}
use Rattle.resb_path.specs.Finding.{found_at}
use Rattle.resb_c.proofs.NamedLemmas.{goes_on, stops}
use Rattle.resb_c.proofs.within.find_seen.Goals as goal

abbrev texts : List (Bor (List ℕ)) → List (List ℕ)
texts names = map (λ (name : Bor (List ℕ)). name.now) names

pub returns-in-Err : goal.returns-in-Err
returns-in-Err c = λ s shows.
    let names = c.args.names.now in
    let i = c.loop-name.name-index in
    let split = drop_more names i _ (omega (arith, c.loop-name-test.true)) in
    let (x, at, e) = c.loop-name.invariant s shows in
    stops c.args.opened.now c.in-Err.e x _ (texts (drop (i + 1) names)) _ (c.in-Err.ensures x at)
    (ap (λ l. found_at x (texts l)) (sym split) ∙ e)

pub loop-name-preserved : goal.loop-name-preserved
loop-name-preserved c = λ s shows.
    let names = c.args.names.now in
    let i = c.loop-name.name-index in
    let split = drop_more names i _ (omega (arith, c.loop-name-test.true)) in
    let (x, at, e) = c.loop-name.invariant s shows in
    goes_on c.args.opened.now c.in-Ok.inside x _ (texts (drop (i + 1) names)) _
    (c.in-Ok.ensures x at) (ap (λ l. found_at x (texts l)) (sym split) ∙ e)
