use Rattle.resb_read.proofs.helpers.vec_utf_16.Goals as goal

pub returns-clause-read : goal.returns-clause-read
returns-clause-read c = c.deserialize.ensures.read

pub returns-clause-says : goal.returns-clause-says
returns-clause-says c = c.deserialize.ensures.says
