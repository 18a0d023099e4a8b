use Rattle.resb_read.specs.Files.{whole_in}
use Rattle.resb_read.specs.Places.{place_of}
use Rattle.resb_read.proofs.FilesLemmas.{linked}
use Rattle.resb_read.proofs.Measures.{measure_root}
use Rattle.resb_read.proofs.Rooted.{root_stands}
use Rattle.resb_read.proofs.file.File.measure.Goals as goal

pub measure_root-requires : goal.measure_root-requires
measure_root-requires c =
    root_stands (whole_in c.args.self.now) (place_of c.root-walk.result.0) c.root-walk.ensures.1

pub returns : goal.returns
returns c =
    let f = c.args.self.now in
    let h = c.root-walk.ensures in
    measure_root (whole_in f) (place_of c.root-walk.result.0) c.root-walk.result.1
    c.measure_root.result (linked f.manner f.bytes.now) h.0 h.1 h.2 c.measure_root.ensures
