use Rattle.std.specs.Prelude.{IfErr}
use Rattle.std.proofs.lemmas.Result.{err_from_is_err_and}
use Rattle.resb_format.specs.Error.{refusal_of}
use Rattle.resb_read.specs.Reading.{LacksOrMemory}
use Rattle.resb_read.specs.Roots.{HoldsAt, alone}
use Rattle.resb_read.specs.declared.file.Manner.TheVariants.{Alone}
use Rattle.resb_read.proofs.FilesLemmas.{of_bytes}
use Rattle.resb_read.proofs.Rooted.{alone_linked, lacking_head}
use Rattle.resb_read.proofs.whole_files.from_bytes_counted.Goals as goal

pub returns-in_err-file-clause-refused : goal.returns-in_err-file-clause-refused
returns-in_err-file-clause-refused g c =
    let e = err_from_is_err_and c.from_residual.result c.from_residual.ensures.1 in
    rw e.1 (lacking_head g.T.Deserialize.counts (alone c.args.bytes.now)
    (refusal_of c.in_err-file.field-0.0) _ (alone_linked c.args.bytes.now) c.in_err-file.ensures)

pub returns-clause-refused : goal.returns-clause-refused
returns-clause-refused g c =
    let h = c.in_ok-file.ensures in
    of_bytes (λ w. IfErr c.read_counted.result
    (LacksOrMemory (λ n. HoldsAt (λ p. g.T.Deserialize.counts p n) w) w.budget))
    c.in_ok-file.file Alone c.args.bytes.now h.0 h.1 c.read_counted.ensures.refused
