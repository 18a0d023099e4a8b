use Rattle.std.proofs.Common.{refl}
use Rattle.resb_write.proofs.error.BinarySerializerError.limit.Goals as goal

pub returns : goal.returns
returns c = refl
