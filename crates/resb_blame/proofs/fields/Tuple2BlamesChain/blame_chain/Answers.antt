use Rattle.std.proofs.Common.{rules, ◌≡◌, ◌+◌, ◌∷◌, map, refl, subst, arith}
use Rattle.std.proofs.lemmas.Result.{IfOk-weaker}
use Rattle.resb_fields.specs.Fields.{CountsNext}
use Rattle.resb_read.specs.Tables.{view_entries}
use Rattle.resb_blame.proofs.fields.Tuple2BlamesChain.blame_chain.Goals as goal

pub returns-clause-counted : goal.returns-clause-counted
returns-clause-counted g c =
    let (a, first, paid) = c.in_ok-blame_field.ensures.counted in
    let named = subst (λ o. g.A.Field.counts o a) c.get.ensures first in
    let split : c.in-Some.name.now ∷ c.in-Some.later.now ≡ c.args.names.now = search rules in
    IfOk-weaker c.blame_chain.result _ _
    (λ u (b, rest, later). (
      a + b,
      subst (λ names. CountsNext g.A.Field.counts g.B.Chain.counts (map (λ s. s.now) names)
          (view_entries c.args.table) (a + b)) split (a, b, named, rest, refl),
      omega (arith, paid, later),
    ))
    c.blame_chain.ensures.counted
