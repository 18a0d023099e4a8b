-- An iteration moves a key from what is left to what is listed.
use Rattle.std.proofs.Common.{rules, ◌≡◌, [], ◌∷◌, ◌++◌, sym, ◌∙◌, ap, append_assoc, append-nil}
use Rattle.std.specs.Map.{keys_of}
use Rattle.resb_tree.proofs.MapsLemmas.{entry_keys-entries_view}
use Rattle.resb_grammar.specs.BundleText.{first_places}
use Rattle.resb_grammar.proofs.KeyPlaces.{first_places-snoc}
use Rattle.resb_compile.proofs.keys.list_table.Goals as goal

pub loop-key-init : goal.loop-key-init
loop-key-init c = λ before h.
    let all : c.into_iter-key-iterator.result ≡ keys_of c.args.table.now.entries = search rules in
    ([], all, h ∙ ap first_places (sym (append-nil before)))

pub loop-key-preserved : goal.loop-key-preserved
loop-key-preserved c = λ before h.
    let key = c.in-Some.key.now in
    let rest = c.next.new.self in
    let split : c.loop-key.key-iterator ≡ key ∷ rest = search rules in
    let i = c.loop-key.invariant before h in
    let one = c.as_str.result.now in (
      i.0 ++ one ∷ [],
      append_assoc i.0 (one ∷ []) rest
          ∙ ap (λ k. i.0 ++ k ∷ rest) c.as_str.ensures.value
          ∙ ap (λ l. i.0 ++ l) (sym split) ∙ i.1,
      rw (← i.2) c.in_ok-list.ensures
          ∙ sym (first_places-snoc (before ++ i.0) one)
          ∙ ap first_places (append_assoc before i.0 (one ∷ [])),
    )

pub returns : goal.returns
returns c = λ before h.
    let none : c.loop-key.key-iterator ≡ [] = search rules in
    let i = c.loop-key.invariant before h in
    i.2 ∙ ap (λ ls. first_places (before ++ ls))
    (sym (append-nil i.0) ∙ ap (λ l. i.0 ++ l) (sym none) ∙ i.1
    ∙ sym (entry_keys-entries_view c.args.table.now.entries))
