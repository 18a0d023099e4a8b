use Rattle.resb_read.specs.Files.{whole_in}
use Rattle.resb_read.specs.Places.{place_of}
use Rattle.resb_read.proofs.FilesLemmas.{linked}
use Rattle.resb_read.proofs.Rooted.{read_there, lacks_there, refused_there}
use Rattle.resb_read.proofs.file.File.read_counted.Goals as goal

pub returns-clause-read : goal.returns-clause-read
returns-clause-read g c =
    let f = c.args.self.now in
    let h = c.root-walk.ensures in
    read_there g.T.Deserialize.reads (whole_in f) (place_of c.root-walk.result.0)
    c.root-walk.result.1 c.read_root.result (linked f.manner f.bytes.now) h.0 h.1 h.2
    c.read_root.ensures.read

pub returns-clause-refused : goal.returns-clause-refused
returns-clause-refused g c =
    let h = c.root-walk.ensures in
    lacks_there g.T.Deserialize.counts (whole_in c.args.self.now) (place_of c.root-walk.result.0)
    c.root-walk.result.1 c.read_root.result h.1 h.2 c.read_root.ensures.refused

pub returns-clause-says : goal.returns-clause-says
returns-clause-says g c =
    let f = c.args.self.now in
    let h = c.root-walk.ensures in
    refused_there g.T.Deserialize.refuses (whole_in f) (place_of c.root-walk.result.0)
    c.root-walk.result.1 c.read_root.result (linked f.manner f.bytes.now) h.0 h.1 h.2
    c.read_root.ensures.says
