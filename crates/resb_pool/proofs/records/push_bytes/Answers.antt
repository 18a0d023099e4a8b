use Rattle.std.proofs.Common.{rules, ◌++◌, ◌∙◌, ap, map-id}
use Rattle.std.proofs.lemmas.Iterator.{YieldsList-from_slice, YieldsList-from_map}
use Rattle.std.proofs.lemmas.Iterator.Consumers.{YieldsList-at}
use Rattle.std.proofs.lemmas.Iterator.Adapters.{items_from_extend}
use Rattle.indexmap.proofs.MapLemmas.{OnOk-map}
use Rattle.resb_pool.proofs.records.push_bytes.Goals as goal

pub returns : goal.returns
returns c =
    let bs = c.args.bytes.now in
    let us = c.args.units.now.items in
    let all = items_from_extend c.extend.result c.extend.ensures.ran
    (YieldsList-from_map _ (λ b. b) (YieldsList-at c.map.ensures.source (YieldsList-from_slice bs
    c.iter.ensures.rest)) c.map.ensures.closure (λ x r q k. search rules)) in
    OnOk-map c.extend.result _ _ (λ h. h.0 ∙ ap (λ l. us ++ l) (map-id bs)) all
