-- An iteration moves a key from what is left to what is joined.
use Rattle.std.proofs.Common.{rules, ◌≡◌, [], ◌∷◌, ◌++◌, refl, sym, ◌∙◌, ap, append_assoc}
use Rattle.std.proofs.Common.{append-nil, fold}
use Rattle.std.specs.Map.{keys_of}
use Rattle.std.proofs.lemmas.List.Sums.{fold-append}
use Rattle.resb_tree.proofs.MapsLemmas.{entry_keys-entries_view}
use Rattle.resb_pool.specs.Plan.{nows}
use Rattle.resb_pool_maker.specs.PoolOf.{join_key}
use Rattle.resb_pool_maker.proofs.gathering.join_table.Goals as goal

pub loop-key-init : goal.loop-key-init
loop-key-init c =
    let all : c.into_iter-key-iterator.result ≡ keys_of c.args.table.now.entries = search rules in
    ([], all, refl)

pub loop-key-preserved : goal.loop-key-preserved
loop-key-preserved c =
    let key = c.in-Some.key.now in
    let rest = c.next.new.self in
    let split : c.loop-key.key-iterator ≡ key ∷ rest = search rules in
    let i = c.loop-key.invariant in
    let one = c.as_str.result.now in (
      i.0 ++ one ∷ [],
      append_assoc i.0 (one ∷ []) rest
          ∙ ap (λ k. i.0 ++ k ∷ rest) c.as_str.ensures.value
          ∙ ap (λ l. i.0 ++ l) (sym split) ∙ i.1,
      c.in_ok-join.ensures ∙ ap (λ z. join_key z one) i.2
          ∙ sym (fold-append join_key (nows c.args.set.now.keys) i.0 (one ∷ [])),
    )

pub returns : goal.returns
returns c =
    let none : c.loop-key.key-iterator ≡ [] = search rules in
    let i = c.loop-key.invariant in
    i.2 ∙ ap (fold join_key (nows c.args.set.now.keys))
    (sym (append-nil i.0) ∙ ap (λ l. i.0 ++ l) (sym none) ∙ i.1
    ∙ sym (entry_keys-entries_view c.args.table.now.entries))
