use Rattle.resb_program.proofs.Agreeing.{agree_ok, agree_err, match_ok, match_err}
use Rattle.resb_program.proofs.files.check_file.Goals as goal

pub returns-in-Ok-clause-as_read : goal.returns-in-Ok-clause-as_read
returns-in-Ok-clause-as_read c = agree_ok c.args.file.now c.in-Ok.count c.in-Ok.ensures

pub returns-in-Err-clause-as_read : goal.returns-in-Err-clause-as_read
returns-in-Err-clause-as_read c = agree_err c.args.file.now c.in-Err.e c.in-Err.ensures

pub returns-in-Ok-clause-as_tree : goal.returns-in-Ok-clause-as_tree
returns-in-Ok-clause-as_tree c = match_ok c.args.file.now c.in-Ok.count c.in-Ok.ensures

pub returns-in-Err-clause-as_tree : goal.returns-in-Err-clause-as_tree
returns-in-Err-clause-as_tree c = match_err c.args.file.now c.in-Err.e c.in-Err.ensures
