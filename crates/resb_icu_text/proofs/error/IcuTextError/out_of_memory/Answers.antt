use Rattle.resb_icu_text.proofs.error.IcuTextError.out_of_memory.Goals as goal

pub returns : goal.returns
returns c = c.new.ensures
