use Rattle.std.proofs.Common.{rules, ◌≡◌, ap}
use Rattle.std.specs.Ordering.{is_lt}
use Rattle.std.proofs.lemmas.Fn.{always_returns_same}
use Rattle.std.proofs.lemmas.List.Sorted.{IsPermutation-map, All-permutation, Contains-permutation}
use Rattle.std.proofs.Common.{map}
use Rattle.resb_lent.specs.LentEnds.{IsRun, run_cmp}
use Rattle.resb_lent.specs.LendingEnds.{run_of}
use Rattle.resb_lent.specs.declared.ends.LentRun.{LentRun}
use Rattle.resb_lent.proofs.LastEnding.{run_order}
use Rattle.resb_lent.proofs.ends.LentEnds.of.Goals as goal

pub returns : goal.returns
returns c =
    let old = c.in_ok-runs.runs.items in
    let new = c.sort_unstable_by.new.self.items in
    let moved = c.sort_unstable_by.ensures.permutation in
    record {
      sound = All-permutation (λ r. IsRun c.args.keys.now (run_of r)) old new moved
          c.in_ok-runs.ensures.sound;
      complete = λ e x. Contains-permutation (map run_of old) (map run_of new) e
          (IsPermutation-map run_of old new moved) (c.in_ok-runs.ensures.complete e x);
      sorted = c.sort_unstable_by.ensures.sorted
          (λ (x y : LentRun). is_lt (run_cmp (run_of x) (run_of y))) run_order
          (always_returns_same _
          (λ a r. is_lt r ≡ is_lt (run_cmp (run_of a.0.now) (run_of a.1.0.now))) _
          (λ a r f q. (let e : r ≡ run_cmp (run_of a.0.now) (run_of a.1.0.now) = search rules in
          (ap is_lt e, search rules))));
    }
