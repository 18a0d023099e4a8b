use Rattle.std.proofs.Common.{rules, ◌≡◌, Bor, List, ℕ, ap, ◌∙◌, subst, arith, reverse}
use Rattle.std.specs.List.Sorted.{IsPermutation}
use Rattle.std.specs.Ordering.{is_lt}
use Rattle.std.proofs.lemmas.Fn.{always_returns_same}
use Rattle.std.proofs.lemmas.List.{take_all}
use Rattle.std.proofs.lemmas.List.Sorted.{IsPermutation-map}
use Rattle.resb_tree.specs.Maps.{text_cmp}
use Rattle.resb_pool.specs.Plan.{nows}
use Rattle.resb_layout.specs.KeyEnds.{is_before}
use Rattle.resb_layout.proofs.KeyEndsLemmas.{end_order}
use Rattle.resb_layout.proofs.key_ends.in_end_order.Goals as goal

pub returns : goal.returns
returns c =
    let old = c.loop-key.sorted.items in
    let new = c.sort_unstable_by.new.self.items in
    let whole : nows old ≡ nows c.args.keys.now = c.loop-key.invariant
    ∙ ap nows (take_all c.loop-key.key-index c.args.keys.now
    (omega (arith, c.loop-key-test.false))) in
    record {
      all = subst (λ l. IsPermutation l (nows new)) whole
          (IsPermutation-map (λ (x : Bor (List ℕ)). x.now) old new
          c.sort_unstable_by.ensures.permutation);
      ascend = c.sort_unstable_by.ensures.sorted (λ (x y : Bor (List ℕ)). is_before x.now y.now)
          end_order (always_returns_same _ (λ a r. is_lt r ≡ is_before a.0.now.now a.1.0.now.now) _
          (λ a r f q. (let e : r ≡ text_cmp (reverse a.0.now.now) (reverse a.1.0.now.now) =
          search rules in
          (ap is_lt e, search rules))));
    }
