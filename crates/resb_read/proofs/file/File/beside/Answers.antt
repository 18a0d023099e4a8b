use Rattle.resb_pool_bundle.proofs.PassingFiles.{file_passes}
use Rattle.resb_read.proofs.file.File.beside.Goals as goal

pub invariant_of-result : goal.invariant_of-result
invariant_of-result c =
    let (is, parts, root) = c.in_ok-parts.ensures in
    rw c.bytes.ensures (record { passes = (file_passes _ _ is, parts, root) })
