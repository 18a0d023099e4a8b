-- All numbers, each at its own place, and then sorted.
use Rattle.std.proofs.Common.{rules, ◌≡◌, ◌<◌, ℕ, List, length, get_or}
use Rattle.std.proofs.Common.{ap, sym, ◌∙◌, arith, true≢false}
use Rattle.std.proofs.lemmas.Fn.{always_returns_same}
use Rattle.std.proofs.lemmas.List.{get_or_default}
use Rattle.std.proofs.lemmas.List.MinMax.{ranks_by}
use Rattle.std.proofs.lemmas.List.Sorted.{All-permutation, Contains-permutation, sorted_far}
use Rattle.std.specs.List.Sorted.{IsPermutation, IsSortedBy}
use Rattle.std.specs.Cmp.{IsStrictWeakOrder}
use Rattle.std.specs.Ordering.{is_lt}
use Rattle.resb_pool.specs.Order.{suffix_cmp}
use Rattle.resb_pool.specs.declared.packing.Packing.TheVariants.{Compact}
use Rattle.resb_pool.proofs.SuffixOrder.{end_last_total}
use Rattle.resb_lent.specs.Inner.Tops.{AreInOrder, numbered_text}
use Rattle.resb_lent.specs.declared.lent_record.LentRecord.{LentRecord}
use Rattle.resb_lent.proofs.TopsLemmas.{letters}
use Rattle.resb_lent.proofs.tops.in_order.Goals as goal

by_text : (es : List LentRecord)
    → IsStrictWeakOrder (λ x y. is_lt (suffix_cmp Compact (numbered_text es x)
    (numbered_text es y)))
by_text es = ranks_by end_last_total (λ n. letters (numbered_text es n))

ordered : (es : List LentRecord) (old new : List ℕ) → length old ≡ length es
    → ((n : ℕ) → n < length es → get_or old n 0 ≡ n) → IsPermutation old new
    → IsSortedBy (λ x y. is_lt (suffix_cmp Compact (numbered_text es x) (numbered_text es y))) new
    → AreInOrder es new
ordered es old new many each moved sorted = record {
  within = All-permutation (λ n. n < length es) old new moved (λ i d l.
      let m : i < length es = omega (arith, l, many) in
      omega (arith, m, sym (get_or_default old i 0 d l) ∙ each i m));
  all = λ n l.
      let m : n < length old = omega (arith, l, many) in
      Contains-permutation old new n moved (n, m, get_or_default old n _ 0 m ∙ each n l);
  ascend = λ i j l m e.
      true≢false (sym (ap is_lt e) ∙ sorted_far _ (by_text es) new sorted i j 0 l m);
}

pub returns : goal.returns
returns c = ordered c.args.records.now c.loop-number.numbers.items c.sort_unstable_by.new.self.items
    (omega (
      arith,
      c.loop-number.invariant.many,
      c.loop-number-test.false,
      c.loop-number.auto.number-end,
    ))
    (λ n l. c.loop-number.invariant.each n (omega (arith, l, c.loop-number-test.false)))
    c.sort_unstable_by.ensures.permutation
    (c.sort_unstable_by.ensures.sorted (λ x y. is_lt (suffix_cmp Compact
    (numbered_text c.args.records.now x) (numbered_text c.args.records.now y)))
    (by_text c.args.records.now)
    (always_returns_same _ (λ a r. is_lt r ≡ is_lt (suffix_cmp Compact
    (numbered_text c.args.records.now a.0.now) (numbered_text c.args.records.now a.1.0.now))) _
    (λ a r f q. (let e : r ≡ suffix_cmp Compact (numbered_text c.args.records.now a.0.now)
    (numbered_text c.args.records.now a.1.0.now) = search rules in (ap is_lt e, search rules)))))
