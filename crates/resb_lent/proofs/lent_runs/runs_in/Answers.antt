use Rattle.std.proofs.Common.{◌+◌, ◌<◌, ◌≤◌, ◌^◌, ℕ, List, arith, sym, ◌∙◌, subst}
use Rattle.resb_lent.specs.LentEnds.{IsRun}
use Rattle.resb_lent.specs.Inner.Runs.{ListsAllRuns}
use Rattle.resb_lent.proofs.Runs.{run_ended, ends_behind, none_behind, run_listed, all_listed}
use Rattle.resb_lent.proofs.Wholes.{next_begins}
use Rattle.resb_lent.proofs.lent_runs.runs_in.Goals as goal
use Rattle.resb_lent.proofs.lent_runs.runs_in.Goals.{else-keys-test, then-keys-test+in_default}

pub keys-preserved : goal.keys-preserved
keys-preserved c =
    let keys = c.args.keys.now in
    let rest = c.split_at.result.1.now in
    let start = c.keys.start in
    let len = c.in-Some.len in
    let back = c.split_at.ensures.back in
    let found = sym c.in-Some.ensures in
    let i = c.keys.invariant in
    let next = next_begins keys rest start len back found in
    let near : start + len < 2 ^ 31 =
    omega (arith, c.if-saturating_add-ge-PLACE_LIMIT.false, c.saturating_add.ensures) in
    record {
      within = next.0;
      begins = next.1;
      listed = run_listed keys rest start len c.keys.runs.items c.push.new.self.items _ back found
          (λ i. (c.split_at-in-keys.ensures.front i, start)) i.begins near
          c.in_ok-push.ensures.items i.listed;
    }

pub returns : goal.returns
returns c =
    let keys = c.args.keys.now in
    let start = c.keys.start in
    let none : (e : List ℕ × ℕ) → start ≤ e.1 → IsRun keys e → ⊥ =
    λ e l w. elim c.keys-test.branch [
      | else-keys-test t ↦ omega (arith, t.keys-test.false, (run_ended keys e w).0, l)
      | then-keys-test+in_default t ↦ none_behind keys t.split_at.result.1.now start e
          t.split_at.ensures.back (sym t.first_zero_byte.ensures ∙ t.in_default.is) l w
      | goal.then-keys-test+in-Some+then-saturating_add-ge-PLACE_LIMIT t ↦
          let far = ends_behind keys t.split_at.result.1.now start t.in-Some.len e
          t.split_at.ensures.back (sym t.in-Some.ensures) l w in
          omega (
            arith,
            far,
            w.near,
            t.if-saturating_add-ge-PLACE_LIMIT.true,
            t.saturating_add.ensures,
          )
    ] in
    subst (ListsAllRuns keys) (sym c.shrink_to_fit.ensures.items)
    (all_listed keys start c.keys.runs.items c.keys.invariant.listed none)
