use Rattle.resb_program.proofs.streams.read_some.Goals as goal

pub returns-in-Ok-extend_from_slice-clause-end : goal.returns-in-Ok-extend_from_slice-clause-end
returns-in-Ok-extend_from_slice-clause-end g c = λ e. absurd (cc)
