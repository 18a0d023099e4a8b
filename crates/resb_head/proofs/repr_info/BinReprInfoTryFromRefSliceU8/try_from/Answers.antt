use Rattle.resb_head.proofs.HeaderSteps.{short_info, long_info}
use Rattle.resb_head.proofs.repr_info.BinReprInfoTryFromRefSliceU8.try_from.Goals as goal

pub returns-then-bytes-lt20 : goal.returns-then-bytes-lt20
returns-then-bytes-lt20 c =
    short_info c.args.bytes.now c.invalid_data.result c.if-bytes-lt20.true c.invalid_data.ensures

pub returns : goal.returns
returns c = rw (long_info c.args.bytes.now c.if-bytes-lt20.false) c.read.ensures
