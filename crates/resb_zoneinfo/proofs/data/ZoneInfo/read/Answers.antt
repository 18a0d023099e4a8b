use Rattle.std.proofs.Common.{◌+◌, length, refl, arith, inr}
use Rattle.std.proofs.lemmas.Result.{IfOk-weaker, IfErr-weaker}
use Rattle.resb.specs.Tables.{view_entries}
use Rattle.resb.specs.Places.{place_of}
use Rattle.resb_zoneinfo.proofs.Whole.{record_refused}
use Rattle.resb_zoneinfo.proofs.data.ZoneInfo.read.Goals as goal

pub returns-clause-read : goal.returns-clause-read
returns-clause-read c =
    let (are, paid) = c.in_ok-table.ensures.read in
    let es = view_entries c.in_ok-table.table in
    IfOk-weaker c.from_table.result _ _
    (λ i h. (
      1 + length es + h.0,
      record {
        places = es;
        fields = (i.version, i.names, i.zones, i.rules, i.regions);
        total = h.0;
        are = are;
        each = h.1;
        is = refl;
        count = refl;
      },
      omega (arith, paid, h.2),
    ))
    c.from_table.ensures.read

pub returns-clause-refused : goal.returns-clause-refused
returns-clause-refused c =
    let (are, paid) = c.in_ok-table.ensures.read in
    IfErr-weaker c.from_table.result _ _
    (λ e h. (
      omega (arith, paid, h.0),
      record_refused _ _ (place_of c.args.at) (view_entries c.in_ok-table.table) c.args.walk.now _
          e are paid h.1,
    ))
    c.from_table.ensures.refused

pub returns-clause-says : goal.returns-clause-says
returns-clause-says c =
    let (are, paid) = c.in_ok-table.ensures.read in
    IfErr-weaker c.from_table.result _ _
    (λ e h. inr (record {
      places = view_entries c.in_ok-table.table;
      inside = _;
      are = are;
      paid = paid;
      refused = h;
    }))
    c.from_table.ensures.says
