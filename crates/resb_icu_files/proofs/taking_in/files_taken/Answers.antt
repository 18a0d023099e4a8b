-- One group more, or the end.
use Rattle.std.proofs.Common.{List, [], subst, append-nil, arith}
use Rattle.std.proofs.Common.{map}
use Rattle.resb_icu_files.specs.TakenIn.{TakesFiles, none_more, named_of}
use Rattle.resb_icu_files.specs.Writing.{Named}
use Rattle.resb_icu_files.proofs.TakingLemmas.{takes_group}
use Rattle.resb_icu_files.proofs.taking_in.files_taken.Goals as goal

pub returns-in_default : goal.returns-in_default
returns-in_default c =
    let p = c.in_ok-deep.ensures in
    let t = c.groups.invariant.takes []
    (none_more _ _ _ _ p.stretch (rw c.in_default.is at p.stop)) in
    subst (λ (l : List Named). TakesFiles c.args.text.now 0 0 l)
    (append-nil (map named_of c.groups.files.items)) t

pub groups-preserved-in_ok-add_file : goal.groups-preserved-in_ok-add_file
groups-preserved-in_ok-add_file c =
    let p = c.in_ok-deep.ensures in
    let at = rw c.in-Some.is at p.stop in
    record {
      fits = omega (arith, at.group.fits);
      low = omega (arith, p.low, at.here, at.group.order, at.group.inside);
      takes = λ rest t. takes_group _ c.groups.from _ _ _ c.in-Some.group _ _ rest p.stretch at
          c.in_ok-add_file.ensures c.groups.invariant.takes t;
    }

pub groups-preserved : goal.groups-preserved
groups-preserved c =
    let p = c.in_ok-deep.ensures in
    let at = rw c.in-Some.is at p.stop in
    record {
      fits = omega (arith, at.group.fits);
      low = omega (arith, p.low, at.here, at.group.order, at.group.inside);
      takes = λ rest t. takes_group _ c.groups.from _ _ _ c.in-Some.group _ _ rest p.stretch at
          c.in_ok-add_file.ensures c.groups.invariant.takes t;
    }
