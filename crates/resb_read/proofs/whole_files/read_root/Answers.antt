use Rattle.std.proofs.Common.{◌≡◌, ◌-◌, subst, arith}
use Rattle.resb_read.specs.Places.{place_of}
use Rattle.resb_read.proofs.whole_files.read_root.Goals as goal

pub returns-clause-read : goal.returns-clause-read
returns-clause-read g c =
    let (n, r, paid) = c.in_ok-value.ensures.read in
    let before : c.left-before.result ≡ c.args.walk = c.left-before.ensures in
    let after : c.left.result ≡ c.deserialize.new.walk = c.left.ensures in
    let e : n ≡ c.left-before.result - c.left.result = omega arith in (
      subst (λ k. g.T.Deserialize.reads (place_of c.args.root) c.in_ok-value.value k) e r,
      omega arith,
    )
