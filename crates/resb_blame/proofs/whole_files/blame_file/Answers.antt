use Rattle.std.proofs.Common.{ap, inl, inr}
use Rattle.resb_read.specs.Files.{whole_in}
use Rattle.resb_read.specs.Places.{place_of}
use Rattle.resb_read.proofs.FilesLemmas.{linked}
use Rattle.resb_blame.specs.Blamed.{Blamed}
use Rattle.resb_blame.proofs.Files.{counted_there, blamed_there}
use Rattle.resb_blame.proofs.whole_files.blame_file.Goals as goal

pub returns-in-Ok : goal.returns-in-Ok
returns-in-Ok g c =
    let f = c.args.file.now in
    let h = c.root-walk.ensures in
    let (n, counted, paid) = c.in-Ok.ensures.counted in
    inr (counted_there g.T.Deserialize.counts (whole_in f) (place_of c.root-walk.result.0)
    c.root-walk.result.1 c.blame.new.walk n c.args.error c.whole.result
    (linked f.manner f.bytes.now) h.0 h.1 h.2 counted paid
    (ap (λ (b : Blamed). b.error) c.whole.ensures))

pub returns-in-Err : goal.returns-in-Err
returns-in-Err g c =
    let f = c.args.file.now in
    let h = c.root-walk.ensures in
    inl (blamed_there g.T.Blames.blames (whole_in f) (place_of c.root-walk.result.0)
    c.root-walk.result.1 c.blame.new.walk c.in-Err.blame (linked f.manner f.bytes.now) h.0 h.1 h.2
    c.in-Err.ensures.blamed)
