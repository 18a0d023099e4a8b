use Rattle.std.proofs.Common.{arith, subst}
use Rattle.std.proofs.lemmas.Result.{IfOk-weaker, err_from_is_err_and}
use Rattle.resb.specs.Fields.{ReadsRecord, CountsRecord, RefusesRecord}
use Rattle.resb.specs.Manners.{whole_by}
use Rattle.resb.specs.Places.{place_of}
use Rattle.resb.specs.Roots.{StandsAtRoot}
use Rattle.resb_zoneinfo.specs.Reading.{info_names}
use Rattle.resb_zoneinfo.proofs.Whole.{rooted, refused_there, refused_head}
use Rattle.resb_zoneinfo.proofs.data.ZoneInfo.from_bytes.Goals as goal

pub returns-clause-read : goal.returns-clause-read
returns-clause-read c =
    let h = c.in_ok-open.ensures in
    let (none, same, all) =
    subst (λ m. StandsAtRoot (whole_by m c.args.bytes.now) c.root-walk.result) h.0
    (subst (λ b. StandsAtRoot (whole_by c.in_ok-open.field-0.manner b) c.root-walk.result) h.1
    c.root-walk.ensures) in
    IfOk-weaker c.read.result _ _
    (λ i h. (
      h.0,
      rooted (λ p. ReadsRecord _ info_names (λ f. f) p _ h.0) c.args.bytes.now _ none same h.1,
      omega (arith, all, h.2),
    ))
    c.read.ensures.read

pub returns-clause-refused : goal.returns-clause-refused
returns-clause-refused c =
    let h = c.in_ok-open.ensures in
    let (none, same, all) =
    subst (λ m. StandsAtRoot (whole_by m c.args.bytes.now) c.root-walk.result) h.0
    (subst (λ b. StandsAtRoot (whole_by c.in_ok-open.field-0.manner b) c.root-walk.result) h.1
    c.root-walk.ensures) in
    refused_there (CountsRecord _ info_names) (RefusesRecord _ info_names) c.args.bytes.now
    (place_of c.root-walk.result.0) c.root-walk.result.1 c.read.new.walk c.read.result none same all
    c.read.ensures.refused c.read.ensures.says

pub returns-in_err-open-clause-refused : goal.returns-in_err-open-clause-refused
returns-in_err-open-clause-refused c =
    let e = err_from_is_err_and c.from_residual.result c.from_residual.ensures.1 in
    rw (e.1, e.2) (refused_head (CountsRecord _ info_names) (RefusesRecord _ info_names)
    c.args.bytes.now _ c.in_err-open.ensures)
