use Rattle.std.proofs.Common.{ap, ◌∙◌}
use Rattle.resb_tree.specs.Borrowing as borrowing
use Rattle.resb_icu_text.specs.Borrowed.{passes}
use Rattle.resb_icu_text.proofs.reader.read_limited.Goals as goal

pub returns-clause-reads : goal.returns-clause-reads
returns-clause-reads c =
    let whole = c.in_ok-header.ensures.reads in (
      rw (c.new.ensures.name, c.new.ensures.fallback, c.new.ensures.root) whole.0,
      record {
        name = ap borrowing.is_slice c.new.ensures.name_part;
        root = λ test p. ap (passes test) c.new.ensures.root_part ∙ whole.1 test p;
      },
      whole.2,
    )
