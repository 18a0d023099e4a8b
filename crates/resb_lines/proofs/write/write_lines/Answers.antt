use Rattle.resb_lines.proofs.Nothing.{nothing_written}
use Rattle.resb_lines.proofs.write.write_lines.Goals as goal

pub returns-in_err-text-clause-part : goal.returns-in_err-text-clause-part
returns-in_err-text-clause-part g c = nothing_written _ _ _
