use Rattle.std.proofs.Common.{◌∙◌, refl, arith}
use Rattle.resb_text.proofs.DiscoveredLemmas.{left_of-less}
use Rattle.resb_text.proofs.discovered.count_before.Goals as goal

pub loop-count-preserved : goal.loop-count-preserved
loop-count-preserved c =
    let before = c.loop-count.invariant in
    record {
      left =
          λ ds h. left_of-less ds c.args.candidates.now c.loop-count.count _ c.args.group _
          c.loop-count-test.true before.within refl c.if-candidates-count.true h
          ∙ before.left ds h;
      within = omega (arith, before.within);
    }
