use Rattle.std.proofs.Common.{◌+◌, length, refl, subst, arith}
use Rattle.resb_read.specs.Tables.{view_entries}
use Rattle.resb_fields.proofs.record.TableDeserialize.deserialize.Goals as goal

pub returns-clause-read : goal.returns-clause-read
returns-clause-read g c =
    let (are, paid) = c.in_ok-table.ensures.read in
    let (n, each, later) = c.in_ok-fields.ensures.read in
    let es = view_entries c.in_ok-table.table in (
      1 + length es + n,
      record {
        places = es;
        fields = c.in_ok-fields.fields;
        total = n;
        are = are;
        each = subst (λ names. g.F.Fields.reads names es c.in_ok-fields.fields n)
            c.names.ensures.are each;
        is = c.made.ensures;
        count = refl;
      },
      omega (arith, paid, later),
    )
