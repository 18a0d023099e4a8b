use Rattle.std.proofs.Common.{rules, subst}
use Rattle.resb_zoneinfo.specs.Info.{HasNoZone, IsZoneOf}
use Rattle.resb_c.specs.Zones.{TellsOffset}
use Rattle.resb_c.proofs.zones.tell_offset.Goals as goal

pub returns-in-Ok-zone : goal.returns-in-Ok-zone
unfolding TellsOffset
returns-in-Ok-zone c =
    let (same, is) = c.in_ok-name.ensures.ok in (
      is,
      (
        c.in-Ok.info,
        c.in-Ok-zone.zone,
        c.in-Ok.ensures.ok,
        subst (λ n. IsZoneOf c.in-Ok.info n c.in-Ok-zone.zone) same c.in-Ok-zone.ensures.said,
        search rules,
      ),
    )

pub returns-in-Ok : goal.returns-in-Ok
unfolding TellsOffset
returns-in-Ok c =
    let (same, is) = c.in_ok-name.ensures.ok in (
      is,
      (
        c.in-Ok.info,
        c.in-Ok.ensures.ok,
        subst (λ n. HasNoZone c.in-Ok.info n c.in-Err-zone.e) same
            c.in-Err-zone.ensures.refused,
      ),
    )
