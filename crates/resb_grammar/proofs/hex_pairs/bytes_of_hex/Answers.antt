use Rattle.std.proofs.Common.{◌≡◌, sym, ◌∙◌, ⊎_elim}
use Rattle.std.specs.Prelude.{Err}
use Rattle.std.proofs.lemmas.Bool.{false≢true}
use Rattle.hex.specs.Hex.{decode_of}
use Rattle.hex.specs.declared.error.FromHexError.TheVariants.{OutOfMemory}
use Rattle.resb_grammar.proofs.HexPairs.{decoded, not_decoded}
use Rattle.resb_grammar.proofs.hex_pairs.bytes_of_hex.Goals as goal

pub returns-in-Ok-clause-found : goal.returns-in-Ok-clause-found
returns-in-Ok-clause-found c = decoded _ _ c.in-Ok.ensures.ok

pub returns-else-is_memory-clause-none : goal.returns-else-is_memory-clause-none
returns-else-is_memory-clause-none c =
    ⊎_elim (λ (h : c.in-Err.error ≡ OutOfMemory). absurd
    (false≢true (sym c.if-is_memory.false ∙ c.is_memory.ensures.1 h)))
    (λ (h : decode_of c.args.digits.now ≡ Err c.in-Err.error). not_decoded _ _ h)
    c.in-Err.ensures.err
