use Rattle.std.proofs.Common.{◌+◌, length, refl, subst, arith}
use Rattle.std.proofs.lemmas.Result.{IfOk-weaker}
use Rattle.resb_read.specs.Tables.{view_entries}
use Rattle.resb_blame.proofs.records.TableBlames.blame.Goals as goal

pub returns-in-Ok-clause-counted : goal.returns-in-Ok-clause-counted
returns-in-Ok-clause-counted g c =
    let (are, paid) = c.in-Ok.ensures.read in
    let es = view_entries c.in-Ok.table in
    IfOk-weaker c.blame_fields.result _ _
    (λ u (n, each, later). (
      1 + length es + n,
      record {
        places = es;
        total = n;
        are = are;
        each = subst (λ names. g.F.Fields.counts names es n) c.names.ensures.are each;
        count = refl;
      },
      omega (arith, paid, later),
    ))
    c.blame_fields.ensures.counted
