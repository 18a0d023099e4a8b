use Rattle.std.proofs.Common.{ap, ◌∙◌, Some}
use Rattle.std.proofs.lemmas.Result.{err_from_is_err_and}
use Rattle.resb.specs.Descriptor.{type_number}
use Rattle.resb.specs.Places.{place_of}
use Rattle.resb_zoneinfo.specs.Linked.{IsInteger}
use Rattle.resb_zoneinfo.proofs.Links.{link_refused}
use Rattle.resb_zoneinfo.proofs.linked.LinkedDeserialize.deserialize.Goals as goal

pub returns-in_err-deserialize-in-Int-clause-refused
    : goal.returns-in_err-deserialize-in-Int-clause-refused
returns-in_err-deserialize-in-Int-clause-refused g c =
    let e = err_from_is_err_and c.from_residual-in_err-deserialize-in-Int.result
    c.from_residual-in_err-deserialize-in-Int.ensures.1 in
    let h = c.in_err-deserialize-in-Int.ensures.refused in
    let p = place_of c.args.at in
    let is : IsInteger p =
    c.in_ok-resource_type.ensures ∙ ap (λ t. Some (type_number t)) c.in-Int.is in
    rw (e.1, e.2) (
      h.0,
      link_refused g.T.Deserialize.counts p c.args.walk.now
          c.in_err-deserialize-in-Int.field-0.0 is h.1,
    )
