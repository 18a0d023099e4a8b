-- The refusal of upper bits that name no type is that of the descriptor.
use Rattle.std.proofs.Common.{◌≡◌, get_or, ap, sym, ◌∙◌, arith, rules}
use Rattle.std.specs.Prelude.{codes}
use Rattle.std.proofs.lemmas.Result.{err_from_is_err_and}
use Rattle.resb_format.specs.Error.{IsInvalid}
use Rattle.resb_format.specs.declared.error.ReadingError.{ReadingError}
use Rattle.resb_format.proofs.Unnamed.{upper_bits_over_9}
use Rattle.resb_walk.specs.Refusals.{IsFault}
use Rattle.resb_walk.proofs.types.readable.Goals as goal

unknown : (e : ReadingError) → IsInvalid e (codes "unrecognized value for ResourceReprType")
    → IsFault e
unknown e i = record {
  not_memory = λ m. (let k = i.kind_is in cc);
  not_spent = λ m.
      (let h : 117 ≡ 114 = ap (λ xs. get_or xs 0 0) (sym i.message_is ∙ m) in omega arith);
}

pub returns-in_err-descriptor-clause-unread : goal.returns-in_err-descriptor-clause-unread
returns-in_err-descriptor-clause-unread c =
    let p = err_from_is_err_and c.from_residual.result c.from_residual.ensures.1 in
    let h = upper_bits_over_9 c.args.word c.in_err-descriptor.ensures.0 in
    rw p.1 (search (rules, h.0, h.1))

pub returns-in_err-descriptor-clause-says : goal.returns-in_err-descriptor-clause-says
returns-in_err-descriptor-clause-says c =
    let p = err_from_is_err_and c.from_residual.result c.from_residual.ensures.1 in
    let h = upper_bits_over_9 c.args.word c.in_err-descriptor.ensures.0 in
    let i = c.in_err-descriptor.ensures.1 in
    rw (p.1, p.2) (search (rules, h.0, h.1, i.kind_is, i.message_is))

pub returns-in_err-descriptor-clause-fault : goal.returns-in_err-descriptor-clause-fault
returns-in_err-descriptor-clause-fault c =
    let p = err_from_is_err_and c.from_residual.result c.from_residual.ensures.1 in
    rw (p.1, p.2) (unknown _ c.in_err-descriptor.ensures.1)
