use Rattle.std.proofs.Common.{arith, List, ℕ, subst, sym}
use Rattle.resb_format.specs.Bytes.{units_of}
use Rattle.resb_lent.specs.LentTexts.{StandsAt}
use Rattle.resb_lent.specs.Inner.Listed.{IsRecordAt, ListsRecords}
use Rattle.resb_lent.proofs.Listing.{none_listed, one_listed, all_listed, none_far}
use Rattle.resb_lent.proofs.records.records_in.Goals as goal
use Rattle.resb_lent.proofs.records.records_in.Goals.{else-records-test}
use Rattle.resb_lent.proofs.records.records_in.Goals.{
  then-records-test+in_ok-record+in_default,
}

pub records-init : goal.records-init
records-init c =
    none_listed (units_of c.args.block.now) c.new-records.result.items c.new-records.ensures.items

pub records-preserved : goal.records-preserved
records-preserved c =
    let block = units_of c.args.block.now in
    let is : IsRecordAt block c.records.at c.in-Some.record =
    rw c.in-Some.is at c.in_ok-record.ensures in
    one_listed block c.records.records.items c.push.new.self.items c.in-Some.record c.records.at
    c.in_ok-push.ensures.items c.records.invariant is

pub returns : goal.returns
returns c =
    let block = units_of c.args.block.now in
    let at = c.records.at in
    let none : (r : List ℕ) → StandsAt block at r → ⊥ =
    elim c.records-test.branch [
      | else-records-test w ↦ λ r s. none_far block r at (omega (arith, w.records-test.false)) s
      | then-records-test+in_ok-record+in_default w ↦ rw w.in_default.is at w.in_ok-record.ensures
    ] in
    subst (ListsRecords block) (sym c.shrink_to_fit.ensures.items)
    (all_listed block c.records.records.items at c.records.invariant none)
