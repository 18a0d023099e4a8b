use Rattle.std.proofs.Common.{◌+◌, ◌≡◌, refl, arith}
use Rattle.std.proofs.lemmas.Result.{IfOk-weaker}
use Rattle.resb_blame.proofs.maps.BTreeMapBlames.blame.Goals as goal

pub returns-in-Ok-clause-counted : goal.returns-in-Ok-clause-counted
returns-in-Ok-clause-counted g c =
    let first : c.read_map.new.walk + 1 ≡ c.args.walk.now = c.in-Ok.ensures.read.2 in
    IfOk-weaker c.blame_entries.result _ _
    (λ u (n, each, paid). (
      1 + n,
      record {
        places = c.in-Ok.access.rest;
        total = n;
        are = c.in-Ok.ensures.read.0;
        each = each;
        count = refl;
      },
      omega (arith, paid, first),
    ))
    c.blame_entries.ensures.counted
