use Rattle.std.proofs.Common.{arith}
use Rattle.resb_opened.proofs.TextLemmas.{words_small}
use Rattle.resb_opened.proofs.shown.spell_words.Goals as goal

pub returns : goal.returns
returns c = words_small c.args._bytes.now (λ k l. omega (arith, c.type_inv._bytes k))
