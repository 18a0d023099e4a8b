-- What was written is the line of the file of what was read.
use Rattle.std.proofs.Common.{◌++◌, ◌∷◌, [], ◌∙◌, subst}
use Rattle.std.specs.Str.{IsUtf8}
use Rattle.std.specs.Io.KnownBytes.{Appends}
use Rattle.std.proofs.lemmas.Result.{on_ok_weaker}
use Rattle.std.proofs.lemmas.Option.{IfSome_then}
use Rattle.hex.specs.Hex.{encode_lower}
use Rattle.resb_compile.specs.Compiling.{IsCompiled}
use Rattle.resb_program.proofs.Reasons.{output_reason}
use Rattle.resb_program.proofs.streams.run.Goals as goal

pub returns-clause-ok : goal.returns-clause-ok
returns-clause-ok c d =
    let given = d.in_ok-file.ensures.ok in
    on_ok_weaker d.write_line.result
    (λ line. IfSome_then (c.R.Read.remaining d.args.reader.now) d.in_ok-input.ensures.ok
    (λ input read.
    let same = d.as_slice.ensures.value ∙ read in (
      subst IsUtf8 same given.0,
      record {
        file = d.in_ok-file.file.items;
        compiled = subst (λ text. IsCompiled text d.in_ok-file.file.items) same given.1;
        line = let contents = c.W.Write.contents in
            subst (λ bytes. Appends (contents d.args.writer.now)
            (contents d.write_line.new.writer) (encode_lower bytes ++ 10 ∷ []))
            d.as_slice-2.ensures.value line;
      },
    )))
    d.write_line.ensures.ok

pub returns-clause-err : goal.returns-clause-err
returns-clause-err c d =
    let given = d.in_ok-file.ensures.ok in
    output_reason d.write_line.result (c.R.Read.remaining d.args.reader.now) d.as_slice.result.now
    d.in_ok-file.file.items d.write_line.ensures.err given.0 given.1
    (IfSome_then (c.R.Read.remaining d.args.reader.now) d.in_ok-input.ensures.ok
    (λ input read. d.as_slice.ensures.value ∙ read))
