use Rattle.std.proofs.Common.{rules, w64}
use Rattle.std.proofs.lemmas.Int.{to_z-of_z}
use Rattle.resb_c.proofs.ZoneLemmas.{told_at}
use Rattle.resb_c.proofs.resb_zone_offset.Goals as goal

pub returns : goal.returns
returns c = (
  c.tell_offset-answer.result,
  told_at _ _ c.args.file.now c.args.zone.now _ c.args.moment c.tell_offset-answer.result
      (to_z-of_z w64 c.args.moment c.ranges.moment) c.tell_offset-answer.ensures,
  search rules,
  c.tell.ensures,
)
