use Rattle.resb_read.proofs.lists.OptionDeserialize.deserialize.Goals as goal

pub returns-clause-read : goal.returns-clause-read
returns-clause-read g c = c.in_ok-deserialize.ensures.read
