use Rattle.resb_write.proofs.numbered_keys.NumberedKeys.of_list.Goals as goal

pub returns : goal.returns
returns c = c.in_ok-add_all.ensures _ c.in_ok-keys.ensures
