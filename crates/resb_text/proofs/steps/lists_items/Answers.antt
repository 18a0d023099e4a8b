use Rattle.std.proofs.Common.{refl}
use Rattle.resb_text.specs.Inner.Steps.{lists_items}
use Rattle.resb_text.proofs.StepsLemmas.{in_table, in_list}
use Rattle.resb_text.proofs.steps.lists_items.Goals as goal

pub returns-in-Table : goal.returns-in-Table
returns-in-Table g c = λ o x. in_table lists_items x c.in-Table.is

pub returns-in_default : goal.returns-in_default
returns-in_default g c = λ o x. in_list lists_items refl refl x c.in_default.not-Table
