use Rattle.std.proofs.Common.{sym, arith}
use Rattle.resb_c.proofs.HandedLemmas.{words_whole}
use Rattle.resb_c.proofs.seen.whole.Goals as goal

pub returns-clause-words : goal.returns-clause-words
returns-clause-words c =
    sym (words_whole c.args.bytes.now c.requires (λ k. omega (arith, c.type_inv.bytes k)))
