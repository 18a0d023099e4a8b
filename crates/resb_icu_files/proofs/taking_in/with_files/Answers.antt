-- Each group is written, or missed; and the text ends.
use Rattle.std.proofs.Common.{◌≡◌, ℕ, arith, subst}
use Rattle.std.specs.Prelude.{slice_index}
use Rattle.std.proofs.lemmas.Str.{IsCharBoundary-after_ascii, IsCharBoundary-before_ascii}
use Rattle.std.proofs.lemmas.Str.{IsCharBoundary-from_drop}
use Rattle.std.proofs.lemmas.Result.{err_from_is_err_and}
use Rattle.resb_grammar.specs.Ascii as ascii
use Rattle.resb_icu_files.specs.TakenIn.{Taken, ends}
use Rattle.resb_icu_files.specs.Writing.{Output}
use Rattle.resb_icu_files.proofs.TakingLemmas.{closer_here, group_taken, missed_later}
use Rattle.resb_icu_files.proofs.TakingLemmas.{group_fails}
use Rattle.resb_icu_files.proofs.taking_in.with_files.Goals as goal

pub groups-init : goal.groups-init
groups-init c = record {
  fits = omega arith;
  low = omega arith;
  begins = IsCharBoundary-from_drop c.args.text.now 0 (omega arith) c.utf8.text;
  taken = λ end t. subst (λ (m : Output). Taken c.args.files.now c.args.text.now 0 0 m end)
      c.new-making.ensures t;
  faults = λ fault place name m. m;
}

pub finish-requires-clause-closer : goal.finish-requires-clause-closer
finish-requires-clause-closer c =
    rw c.closer_at-closer.ensures
    (closer_here c.args.text.now c.groups.from c.in_ok-to.field-0.to c.in_ok-to.ensures.order)

pub returns-in_default-clause-ok : goal.returns-in_default-clause-ok
returns-in_default-clause-ok c =
    let p = c.in_ok-to.ensures in
    let is = rw c.closer_at-closer.ensures at c.in_ok-finish.ensures in
    record {
      output = _;
      taken = c.groups.invariant.taken _
          (ends _ _ _ _ _ p.stretch (rw c.in_default.is at p.stop));
      said = is.said;
      dependencies = is.dependencies;
      changes = is.changes;
    }

pub copy-requires-clause-ends : goal.copy-requires-clause-ends
copy-requires-clause-ends c =
    let text = c.args.text.now in
    let p = c.in_ok-to.ensures in
    let at = rw c.in-Some.is at p.stop in
    let colon : slice_index text c.in-Some.group.at ≡ ascii.colon =
    at.group.stands.colon in
    IsCharBoundary-before_ascii text c.in_ok-to.field-0.to
    (omega (arith, at.here, at.group.order, at.group.inside, at.group.fits))
    (omega (arith, subst (λ (i : ℕ). slice_index text i ≡ ascii.colon) at.here colon))

pub returns-in_err-write-clause-err : goal.returns-in_err-write-clause-err
returns-in_err-write-clause-err c =
    let p = c.in_ok-to.ensures in
    let at = rw c.in-Some.is at p.stop in
    let r = err_from_is_err_and c.from_residual-in_err-write.result
    c.from_residual-in_err-write.ensures.1 in
    rw (r.1, r.2) (group_fails c.args.files.now c.args.text.now c.groups.from _ _ _ c.in-Some.group _
    p.stretch at c.groups.invariant.faults c.in_err-write.ensures.err)

pub groups-preserved-in_ok-write : goal.groups-preserved-in_ok-write
groups-preserved-in_ok-write c =
    let text = c.args.text.now in
    let g = c.in-Some.group in
    let p = c.in_ok-to.ensures in
    let at = rw c.in-Some.is at p.stop in
    let w = c.in_ok-write.ensures.ok in
    record {
      fits = omega (arith, at.group.fits);
      low = omega (arith, p.low, at.here, at.group.order, at.group.inside);
      begins = IsCharBoundary-after_ascii text g.last c.utf8.text at.group.fits
          (omega (arith, at.group.stands.closes));
      taken = λ end t. c.groups.invariant.taken end
          (group_taken _ text c.groups.from _ _ _ g _ _ _ end p.stretch at c.in_ok-copy.ensures w t);
      faults = λ fault place name m. c.groups.invariant.faults fault place name
          (missed_later _ text c.groups.from _ _ _ g _ _ p.stretch at w fault place name m);
    }

pub groups-preserved : goal.groups-preserved
groups-preserved c =
    let text = c.args.text.now in
    let g = c.in-Some.group in
    let p = c.in_ok-to.ensures in
    let at = rw c.in-Some.is at p.stop in
    let w = c.in_ok-write.ensures.ok in
    record {
      fits = omega (arith, at.group.fits);
      low = omega (arith, p.low, at.here, at.group.order, at.group.inside);
      begins = IsCharBoundary-after_ascii text g.last c.utf8.text at.group.fits
          (omega (arith, at.group.stands.closes));
      taken = λ end t. c.groups.invariant.taken end
          (group_taken _ text c.groups.from _ _ _ g _ _ _ end p.stretch at c.in_ok-copy.ensures w t);
      faults = λ fault place name m. c.groups.invariant.faults fault place name
          (missed_later _ text c.groups.from _ _ _ g _ _ p.stretch at w fault place name m);
    }
