use Rattle.resb_icu_grammar.proofs.WholeReading.{machine_reads_the_form}
use Rattle.resb_icu_grammar.proofs.laws.icu_machine_reads_the_form.Goals as goal

pub returns : goal.returns
returns c = machine_reads_the_form
