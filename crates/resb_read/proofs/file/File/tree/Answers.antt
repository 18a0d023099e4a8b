use Rattle.resb_read.specs.Files.{whole_in}
use Rattle.resb_read.specs.Places.{place_of}
use Rattle.resb_read.proofs.FilesLemmas.{linked}
use Rattle.resb_read.proofs.Measures.{within_root}
use Rattle.resb_read.proofs.Rooted.{tree_root}
use Rattle.resb_read.proofs.file.File.tree.Goals as goal

pub returns-in-Some : goal.returns-in-Some
returns-in-Some c =
    let f = c.args.self.now in
    let h = c.root-walk.ensures in
    rw c.in-Some.is (within_root (whole_in f) (place_of c.root-walk.result.0) c.root-walk.result.1
    c.in-Some.limit c.read_root_within.result (linked f.manner f.bytes.now) h.0 h.1 h.2
    c.read_root_within.ensures)

pub returns-in-None : goal.returns-in-None
returns-in-None c =
    let f = c.args.self.now in
    let h = c.root-walk.ensures in
    rw c.in-None.is (tree_root (whole_in f) (place_of c.root-walk.result.0) c.root-walk.result.1
    c.read_root_tree.result (linked f.manner f.bytes.now) h.0 h.1 h.2 c.read_root_tree.ensures)
