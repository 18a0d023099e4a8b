use Rattle.std.proofs.Common.{◌+◌, ◌≡◌, refl, inr, arith}
use Rattle.std.proofs.lemmas.Result.{IfOk-weaker, IfErr-weaker}
use Rattle.resb_read.proofs.lists.VecDeserialize.deserialize.Goals as goal

pub returns-clause-read : goal.returns-clause-read
returns-clause-read g c =
    let first : c.read_seq.new.walk + 1 ≡ c.args.walk.now = c.in_ok-seq.ensures.read.2 in
    IfOk-weaker c.read_members.result _ _
    (λ v (n, each, paid). (
      1 + n,
      record {
        places = c.in_ok-seq.seq.rest;
        total = n;
        are = c.in_ok-seq.ensures.read.0;
        each = each;
        count = refl;
      },
      omega (arith, paid, first),
    ))
    c.read_members.ensures.read

pub returns-clause-says : goal.returns-clause-says
returns-clause-says g c =
    let first : c.read_seq.new.walk + 1 ≡ c.args.walk.now = c.in_ok-seq.ensures.read.2 in
    IfErr-weaker c.read_members.result _ _
    (λ e h. inr (record {
      places = c.in_ok-seq.seq.rest;
      inside = c.read_seq.new.walk;
      are = c.in_ok-seq.ensures.read.0;
      paid = first;
      refused = h;
    }))
    c.read_members.ensures.says
