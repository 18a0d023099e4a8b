use Rattle.resb_read.specs.Roots.{StandsAtRoot}
use Rattle.resb_read.specs.declared.file.Manner.TheVariants.{Alone}
use Rattle.resb_read.proofs.FilesLemmas.{of_bytes}
use Rattle.resb_read.proofs.cursor.Cursor.root.Goals as goal

pub returns : goal.returns
returns c =
    let h = c.in_ok-file.ensures in
    of_bytes (λ w. StandsAtRoot w c.root.result) c.in_ok-file.file Alone c.args.bytes.now h.0 h.1
    c.root.ensures
