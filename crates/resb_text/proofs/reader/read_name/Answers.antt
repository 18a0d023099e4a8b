use Rattle.resb_text.proofs.HeaderReading.{no_name}
use Rattle.resb_text.proofs.reader.read_name.Goals as goal

pub returns-in_default-clause-reads : goal.returns-in_default-clause-reads
returns-in_default-clause-reads c =
    rw c.new.ensures (no_name _ _ c.skip-start.ensures.skip
    c.in_default.ensures.found)
