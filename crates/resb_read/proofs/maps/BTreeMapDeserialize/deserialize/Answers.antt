use Rattle.std.proofs.Common.{◌+◌, ◌≡◌, refl, inr, arith}
use Rattle.std.proofs.lemmas.Result.{IfOk-weaker, IfErr-weaker}
use Rattle.resb_read.proofs.maps.BTreeMapDeserialize.deserialize.Goals as goal

pub returns-clause-read : goal.returns-clause-read
returns-clause-read g c =
    let first : c.read_map.new.walk + 1 ≡ c.args.walk.now = c.in_ok-access.ensures.read.2 in
    IfOk-weaker c.read_entries.result _ _
    (λ m (n, all, paid). (
      1 + n,
      record {
        places = c.in_ok-access.access.rest;
        total = n;
        are = c.in_ok-access.ensures.read.0;
        each = all;
        count = refl;
      },
      omega (arith, paid, first),
    ))
    c.read_entries.ensures.read

pub returns-clause-says : goal.returns-clause-says
returns-clause-says g c =
    let first : c.read_map.new.walk + 1 ≡ c.args.walk.now = c.in_ok-access.ensures.read.2 in
    IfErr-weaker c.read_entries.result _ _
    (λ e h. inr (record {
      places = c.in_ok-access.access.rest;
      inside = c.read_map.new.walk;
      are = c.in_ok-access.ensures.read.0;
      paid = first;
      refused = h;
    }))
    c.read_entries.ensures.says
