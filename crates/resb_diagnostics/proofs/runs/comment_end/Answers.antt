use Rattle.resb_diagnostics.proofs.CommentRuns.{line_comment, block_comment}
use Rattle.std.proofs.Common.{arith}
use Rattle.resb_diagnostics.proofs.runs.comment_end.Goals as goal

pub returns-in-47 : goal.returns-in-47
returns-in-47 c =
    line_comment c.args.text.now c.args.at c.line_end.result (omega arith) c.requires.between
    c.requires.slash c.in-47.is c.line_end.ensures

pub returns-in-42 : goal.returns-in-42
returns-in-42 c =
    block_comment c.args.text.now c.args.at c.block_end.result (omega arith) c.requires.between
    c.requires.slash c.in-42.is c.block_end.ensures
