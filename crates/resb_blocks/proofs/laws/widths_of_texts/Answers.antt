use Rattle.resb_blocks.proofs.WideLemmas.{text_is_wide}
use Rattle.resb_blocks.proofs.laws.widths_of_texts.Goals as goal

pub returns : goal.returns
returns c = text_is_wide
