use Rattle.std.proofs.Common.{◌≡◌, refl, ap, sym, subst, ◌∙◌, ◌+◌, arith, map, drop, Bor, List}
use Rattle.std.proofs.Common.{ℕ, ◌-◌, length, length-drop}
use Rattle.std.proofs.lemmas.List.{drop_more, length-map}
use Rattle.std.proofs.lemmas.Result.{err_from_is_err_and}
use Rattle.resb_read.specs.Places.{place_of}
use Rattle.std.specs.Prelude.{option_map}
use Rattle.resb_path.specs.Finding.{tree_spot, found_at}
use Rattle.resb_path.specs.InFiles.{place_at, FailsOnWay, HoldsOnWay}
use Rattle.resb_path.proofs.StepLemmas.{goes_on}
use Rattle.resb_path.proofs.WayLemmas.{way_on, fails_on, fails_first, holds_on}
use Rattle.resb_path.proofs.file.find_from.Goals as goal

abbrev texts : List (Bor (List ℕ)) → List (List ℕ)
texts names = map (λ (name : Bor (List ℕ)). name.now) names

pub loop-name-init : goal.loop-name-init
loop-name-init c =
    record {
      way = refl;
      fails = λ e h. h;
      holds = λ h. h;
      tree = λ t n d. (tree_spot t, (n, d), refl);
    }

pub returns-in_err-inside-clause-leads : goal.returns-in_err-inside-clause-leads
returns-in_err-inside-clause-leads c =
    let e = err_from_is_err_and c.from_residual.result c.from_residual.ensures.1 in
    let path = c.args.path.now in
    let i = c.loop-name.name-index in
    let long : length (texts (drop i path)) ≡ length path - i =
    length-map (drop i path) _ ∙ length-drop i path in
    rw (e.1, e.2) (c.loop-name.invariant.fails c.in_err-inside.field-0.0
    (fails_first (place_of c.loop-name.found) (texts (drop i path)) c.in_err-inside.field-0.0
    (omega (arith, long, c.loop-name-test.true)) c.in_err-inside.ensures.leads))

pub loop-name-preserved : goal.loop-name-preserved
loop-name-preserved c =
    let path = c.args.path.now in
    let i = c.loop-name.name-index in
    let p = place_of c.loop-name.found in
    let q = place_of c.in-Some.inside in
    let rest = texts (drop (i + 1) path) in
    let split = drop_more path i _ (omega (arith, c.loop-name-test.true)) in
    let leads = sym (ap (option_map place_of) c.in-Some.is) ∙ c.in_ok-inside.ensures.leads.0 in
    record {
      way = way_on p q _ rest leads ∙ ap (λ l. place_at p (texts l)) (sym split)
          ∙ c.loop-name.invariant.way;
      fails = λ e h. c.loop-name.invariant.fails e
          (subst (λ l. FailsOnWay p (texts l) e) (sym split) (fails_on p q _ rest e leads h));
      holds = λ h. c.loop-name.invariant.holds
          (subst (λ l. HoldsOnWay p (texts l)) (sym split)
          (holds_on p q _ rest leads c.in_ok-inside.ensures.leads.1 h));
      tree = λ t n d.
          let (s, is, e) = c.loop-name.invariant.tree t n d in
          goes_on q _ s _ rest _ (ap (option_map place_of) c.in-Some.is)
          (c.in_ok-inside.ensures.tree s is)
          (ap (λ l. found_at s (texts l)) (sym split) ∙ e);
    }
