use Rattle.std.proofs.Common.{ℕ, ap, inr}
use Rattle.std.specs.Prelude.{◌≤◌, option_map, IfOk, IfErr}
use Rattle.resb_format.specs.Error.{refusal_of}
use Rattle.resb_pool_bundle.specs.Pool.{pool_in}
use Rattle.resb_read.specs.Reading.{LacksOrMemory}
use Rattle.resb_read.specs.Roots.{HoldsAt, place_of_root}
use Rattle.resb_read.specs.WithPool.{over}
use Rattle.resb_read.specs.declared.file.Manner.TheVariants.{Beside}
use Rattle.resb_read.proofs.FilesLemmas.{of_bytes}
use Rattle.resb_read.proofs.Rooted.{lacking_head}
use Rattle.resb_read.proofs.WithPool.{over_linked}
use Rattle.resb_blame.specs.Blamed.{Blamed}
use Rattle.resb_blame.specs.BlamedFiles.{BlamesFile, PointsFile}
use Rattle.resb_blame.specs.Pointing.{here_points}
use Rattle.resb_blame.proofs.whole_files.from_bytes_blaming.Goals as goal

pub returns-in-Ok-clause-read : goal.returns-in-Ok-clause-read
returns-in-Ok-clause-read g c =
    let h = c.in-Ok.ensures in
    of_bytes (λ w. IfOk c.read_blaming.result
    (λ x. (n : ℕ) × HoldsAt (λ p. g.T.Deserialize.reads p x n) w × (n ≤ w.budget)))
    c.in-Ok.file (Beside c.args.pool) c.args.bytes.now h.0 h.1 c.read_blaming.ensures.read

pub returns-in-Ok-clause-refused : goal.returns-in-Ok-clause-refused
returns-in-Ok-clause-refused g c =
    let h = c.in-Ok.ensures in
    of_bytes (λ w. IfErr c.read_blaming.result
    (λ b. LacksOrMemory (λ n. HoldsAt (λ p. g.T.Deserialize.counts p n) w) w.budget b.error))
    c.in-Ok.file (Beside c.args.pool) c.args.bytes.now h.0 h.1 c.read_blaming.ensures.refused

pub returns-in-Ok-clause-blamed : goal.returns-in-Ok-clause-blamed
returns-in-Ok-clause-blamed g c =
    let h = c.in-Ok.ensures in
    of_bytes (λ w. IfErr c.read_blaming.result (BlamesFile g.T.Blames.blames w))
    c.in-Ok.file (Beside c.args.pool) c.args.bytes.now h.0 h.1 c.read_blaming.ensures.blamed

pub returns-in-Ok-clause-points : goal.returns-in-Ok-clause-points
returns-in-Ok-clause-points g c =
    let h = c.in-Ok.ensures in
    of_bytes (λ w. IfErr c.read_blaming.result (PointsFile w))
    c.in-Ok.file (Beside c.args.pool) c.args.bytes.now h.0 h.1 c.read_blaming.ensures.points

pub returns-in-Err-clause-refused : goal.returns-in-Err-clause-refused
returns-in-Err-clause-refused g c =
    let pool = option_map pool_in c.args.pool in
    lacking_head g.T.Deserialize.counts (over pool c.args.bytes.now)
    (refusal_of c.in-Err.head) _ (over_linked pool c.args.bytes.now) c.in-Err.ensures

pub returns-in-Err-clause-points : goal.returns-in-Err-clause-points
returns-in-Err-clause-points g c =
    let w = over (option_map pool_in c.args.pool) c.args.bytes.now in
    inr (here_points (place_of_root w) c.whole.result
    (ap (λ (b : Blamed). b.path) c.whole.ensures, ap (λ (b : Blamed). b.field) c.whole.ensures))
