use Rattle.std.proofs.Common.{arith, ◌<◌, ◌≤◌, ◌^◌, ℕ, List, sym}
use Rattle.std.proofs.Common.{◌∙◌}
use Rattle.resb_pool.specs.Plan.{at_text}
use Rattle.resb_lent.specs.LentKeys.{StandsWhole}
use Rattle.resb_lent.proofs.Wholes.{next_begins, no_key_behind, no_key_far}
use Rattle.resb_lent.proofs.Noting.{noted_next, all_noted}
use Rattle.resb_lent.proofs.keys.LentKeys.of.Goals as goal
use Rattle.resb_lent.proofs.keys.LentKeys.of.Goals.{else-keys-test, then-keys-test+in_default}

pub keys-preserved : goal.keys-preserved
keys-preserved c =
    let keys = c.args.keys.now in
    let rest = c.split_at.result.1.now in
    let start = c.keys.start in
    let len = c.in-Some.len in
    let back = c.split_at.ensures.back in
    let found = sym c.in-Some.ensures in
    let i = c.keys.invariant in
    let next = next_begins keys rest start len back found in
    let near : start < 2 ^ 31 = omega (arith, c.keys-test.true, c.min-end.ensures) in
    record {
      within = next.0;
      begins = next.1;
      noted = noted_next keys rest c.split_at-in-keys.result.0.now start len
          (at_text c.keys.places) (at_text c.note.new.places) back found
          c.split_at-in-keys.ensures.front i.begins near c.in_ok-note.ensures i.noted;
    }

pub invariant_of-result : goal.invariant_of-result
invariant_of-result c =
    let keys = c.args.keys.now in
    let start = c.keys.start in
    let none : (q : List ℕ) (p : ℕ) → start ≤ p → StandsWhole keys q p → ⊥ =
    λ q p l w. elim c.keys-test.branch [
      | else-keys-test t ↦ no_key_far keys q start p
          (omega (arith, t.keys-test.false, c.min-end.ensures)) l w
      | then-keys-test+in_default t ↦ no_key_behind keys t.split_at.result.1.now q start p
          t.split_at.ensures.back (sym t.first_zero.ensures ∙ t.in_default.is) l w
    ] in
    record { lent = all_noted keys start (at_text c.keys.places) c.keys.invariant.noted none }
