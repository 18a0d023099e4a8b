use Rattle.std.proofs.Common.{rules, ℕ, List, subst, ap, ◌≡◌, sym}
use Rattle.std.specs.List.{All}
use Rattle.std.specs.List.Sorted.{IsPermutation, IsSorted}
use Rattle.std.specs.Ordering.{is_lt}
use Rattle.std.proofs.lemmas.List.Sorted.{IsPermutation-map, All-permutation}
use Rattle.std.proofs.lemmas.Fn.{always_returns_same}
use Rattle.resb_pool.specs.Plan.{nows}
use Rattle.resb_pool.specs.Inner.Suffixes.{IsRowOf, AreInOrder, row_text, row_texts, row_cmp}
use Rattle.resb_pool.specs.Inner.Suffixes.{keyed_cmp}
use Rattle.resb_pool.specs.declared.packing.Packing.{Packing}
use Rattle.resb_pool.specs.declared.packing.Packing.TheVariants.{Compact}
use Rattle.resb_pool.specs.declared.suffix_order.Row.{Row}
use Rattle.resb_pool.proofs.EndKeys.{keyed_order, in_suffix_order, letters_order, near_rows}
use Rattle.resb_pool.proofs.suffix_order.in_suffix_order.Goals as goal

-- rows of all texts, moved and sorted, are the texts in order
ordered : (way : Packing) (T : List (List ℕ)) (rows sorted : List Row)
    → row_texts T rows ≡ T → All (IsRowOf T) rows → IsPermutation rows sorted
    → IsSorted (row_cmp way T) sorted → AreInOrder way T sorted
ordered way T rows sorted texts each moved up = record {
  all = subst (λ (z : List (List ℕ)). IsPermutation z (row_texts T sorted)) texts
      (IsPermutation-map (row_text T) rows sorted moved);
  each = All-permutation (IsRowOf T) rows sorted moved each;
  ascend = up;
}

pub returns-then-are_compared_by_units : goal.returns-then-are_compared_by_units
returns-then-are_compared_by_units c =
    let rows = c.in_ok-rows.rows.items in
    let sorted = c.sort_unstable_by.new.self.items in
    let moved = c.sort_unstable_by.ensures.permutation in
    let T = nows c.args.texts.now in
    ordered c.args.packing T rows sorted c.in_ok-rows.ensures.texts c.in_ok-rows.ensures.each moved
    (subst (λ w. IsSorted (row_cmp w T) sorted)
    (sym (c.are_compared_by_units.ensures.yes c.if-are_compared_by_units.true))
    (c.sort_unstable_by.ensures.sorted (λ (x y : Row). is_lt (row_cmp Compact T x y))
    (letters_order Compact T)
    (always_returns_same _ (λ a r. is_lt r ≡ is_lt (row_cmp Compact T a.0.now a.1.0.now)) _
    (λ a r f q. (let e : r ≡ row_cmp Compact T a.0.now a.1.0.now = search rules in
    (ap is_lt e, search rules))))))

pub returns : goal.returns
returns c =
    let rows = c.in_ok-rows.rows.items in
    let sorted = c.sort_unstable_by-2.new.self.items in
    let moved = c.sort_unstable_by-2.ensures.permutation in
    let T = nows c.args.texts.now in
    let each = All-permutation (IsRowOf T) rows sorted moved c.in_ok-rows.ensures.each in
    ordered c.args.packing T rows sorted c.in_ok-rows.ensures.texts c.in_ok-rows.ensures.each moved
    (near_rows c.args.packing T
    (c.are_compared_by_units.ensures.no c.if-are_compared_by_units.false) sorted each
    (in_suffix_order T c.requires.utf8 sorted each
    (c.sort_unstable_by-2.ensures.sorted (λ (x y : Row). is_lt (keyed_cmp T x y))
    (keyed_order T)
    (always_returns_same _ (λ a r. is_lt r ≡ is_lt (keyed_cmp T a.0.now a.1.0.now)) _
    (λ a r f q. (let e : r ≡ keyed_cmp T a.0.now a.1.0.now = search rules in
    (ap is_lt e, search rules)))))))
