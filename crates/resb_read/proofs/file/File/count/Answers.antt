use Rattle.resb_read.specs.Files.{whole_in}
use Rattle.resb_read.specs.Places.{place_of}
use Rattle.resb_read.proofs.FilesLemmas.{linked}
use Rattle.resb_read.proofs.Rooted.{count_root}
use Rattle.resb_read.proofs.file.File.count.Goals as goal

pub returns : goal.returns
returns c =
    let f = c.args.self.now in
    let h = c.root-walk.ensures in
    count_root (whole_in f) (place_of c.root-walk.result.0) c.root-walk.result.1 c.count_root.result
    (linked f.manner f.bytes.now) h.0 h.1 h.2 c.count_root.ensures
