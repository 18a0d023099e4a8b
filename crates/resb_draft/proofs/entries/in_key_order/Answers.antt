use Rattle.std.proofs.Common.{◌≡◌, ℕ, Bool, true, map, ap, ◌∙◌}
use Rattle.std.proofs.lemmas.Result.{IfOk-weaker}
use Rattle.resb_tree.specs.Borrowing.{all_true}
use Rattle.resb_tree.specs.Tree.{Tree, entries_of, map_of}
use Rattle.resb_draft.specs.Inner.Entries.{keys_ascend}
use Rattle.resb_draft.proofs.EntriesLemmas.{seen, made_seen, made_pass, made_ascend}
use Rattle.resb_draft.proofs.entries.in_key_order.Goals as goal

pub returns-clause-entries : goal.returns-clause-entries
returns-clause-entries c =
    IfOk-weaker c.entries_in_order.result (λ v. v.items ≡ c.in_ok-map.map.entries)
    (λ v. (tree : ℕ → Tree)
    → entries_of (seen tree v.items) ≡ map_of (seen tree c.args.entries.items))
    (λ v e tree. ap (λ ps. entries_of (seen tree ps)) e
    ∙ made_seen tree c.args.entries.items c.in_ok-map.map c.in_ok-map.ensures.ok)
    c.entries_in_order.ensures.ok

pub returns-clause-each : goal.returns-clause-each
returns-clause-each c =
    IfOk-weaker c.entries_in_order.result (λ v. v.items ≡ c.in_ok-map.map.entries)
    (λ v. (test : ℕ → Bool) → all_true (map (λ p. test p.1) c.args.entries.items) ≡ true
    → all_true (map (λ p. test p.1) v.items) ≡ true)
    (λ v e test h. ap (λ ps. all_true (map (λ p. test p.1) ps)) e
    ∙ made_pass test c.args.entries.items c.in_ok-map.map c.in_ok-map.ensures.ok h)
    c.entries_in_order.ensures.ok

pub returns-clause-ascend : goal.returns-clause-ascend
returns-clause-ascend c =
    IfOk-weaker c.entries_in_order.result (λ v. v.items ≡ c.in_ok-map.map.entries)
    (λ v. keys_ascend v.items ≡ true)
    (λ v e. ap keys_ascend e
    ∙ made_ascend c.args.entries.items c.in_ok-map.map c.in_ok-map.ensures.ok)
    c.entries_in_order.ensures.ok
