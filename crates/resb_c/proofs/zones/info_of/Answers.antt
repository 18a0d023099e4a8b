use Rattle.resb_zoneinfo.specs.Reading.{RefusesInfo}
use Rattle.resb_c.proofs.ZoneLemmas.{told_info}
use Rattle.resb_c.proofs.zones.info_of.Goals as goal

pub returns-in-Err-clause-err : goal.returns-in-Err-clause-err
returns-in-Err-clause-err c =
    told_info (RefusesInfo _ _) c.args.file.now c.in-Err.refusal c.fault_of.result
    c.fault_of.ensures c.in-Err.ensures.refused
