use Rattle.std.proofs.Common.{◌≡◌, take}
use Rattle.std.specs.List.{fold}
use Rattle.resb_pool_bundle.specs.Checksum.{byte_step}
use Rattle.resb_pool_bundle.proofs.checksum.after_bytes.Given as goal

abbrev pub invariant-bytes : goal.invariant-bytes
invariant-bytes l = l.crc ≡ fold byte_step l.initial.crc (take l.byte-index l.bytes)
