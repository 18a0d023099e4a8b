-- An iteration moves a key from what is left to what is there.
use Rattle.std.proofs.Common.{rules, ◌≡◌, [], ◌∷◌, ◌++◌, sym, ◌∙◌, ap, subst, append_assoc}
use Rattle.std.proofs.Common.{append-nil}
use Rattle.std.specs.Map.{keys_of}
use Rattle.resb_write.specs.Inner.Numbered.{NumbersKeys}
use Rattle.resb_write.proofs.nodes.add_table_keys.Goals as goal
use Rattle.resb_tree.proofs.MapsLemmas.{entry_keys-entries_view}

pub loop-key-init : goal.loop-key-init
loop-key-init c = λ ks h.
    let all : c.into_iter-key-iterator.result ≡ keys_of c.args.table.now.entries = search rules in
    ([], all, subst (NumbersKeys c.args.keys.now) (sym (append-nil ks)) h)

pub loop-key-preserved : goal.loop-key-preserved
loop-key-preserved c = λ ks h.
    let key = c.in-Some.key.now in
    let rest = c.next.new.self in
    let split : c.loop-key.key-iterator ≡ key ∷ rest = search rules in
    let i = c.loop-key.invariant ks h in
    let one = c.as_str.result.now in (
      i.0 ++ one ∷ [],
      append_assoc i.0 (one ∷ []) rest
          ∙ ap (λ k. i.0 ++ k ∷ rest) c.as_str.ensures.value
          ∙ ap (λ l. i.0 ++ l) (sym split) ∙ i.1,
      subst (NumbersKeys c.add.new.self) (append_assoc ks i.0 (one ∷ []))
          (c.in_ok-add.ensures (ks ++ i.0) i.2),
    )

pub returns : goal.returns
returns c = λ ks h.
    let none : c.loop-key.key-iterator ≡ [] = search rules in
    let i = c.loop-key.invariant ks h in
    subst (λ ls. NumbersKeys c.loop-key.keys (ks ++ ls))
    (sym (append-nil i.0) ∙ ap (λ l. i.0 ++ l) (sym none) ∙ i.1
    ∙ sym (entry_keys-entries_view c.args.table.now.entries)) i.2
