use Rattle.std.proofs.Common.{◌≡◌, ◌≤◌, ◌<◌, suc, length, take, drop, get_or, refl, sym}
use Rattle.std.proofs.Common.{◌∙◌, ap, subst, arith}
use Rattle.std.proofs.lemmas.Bool.{leb-true, leb-false}
use Rattle.std.proofs.lemmas.List.{take_all}
use Rattle.std.proofs.lemmas.Result.{err_from_is_err_and}
use Rattle.resb_format.specs.Units.{units}
use Rattle.resb_pool.specs.Plan.{nows, texts_size, too_large, no_memory}
use Rattle.resb_pool.specs.Inner.Placing.{AreTexts, AreTurns}
use Rattle.resb_pool.proofs.Interning.{length-nows, text_nows}
use Rattle.resb_pool.proofs.TextLoops.{blank, nows-take, nows-split, texts_size-push}
use Rattle.resb_pool.proofs.TextLoops.{texts_size-most}
use Rattle.resb_pool.proofs.ListingLemmas.{text_here, no_texts, no_turns}
use Rattle.resb_pool.proofs.listed_texts.by_firsts.Goals as goal

pub returns-in_err-measures-clause-err : goal.returns-in_err-measures-clause-err
returns-in_err-measures-clause-err c = let p =
    err_from_is_err_and c.from_residual.result c.from_residual.ensures.1 in rw (p.1, p.2) no_memory

pub returns-in_err-unit_count-clause-err : goal.returns-in_err-unit_count-clause-err
returns-in_err-unit_count-clause-err c = let p =
    err_from_is_err_and c.from_residual-in_err-unit_count.result
    c.from_residual-in_err-unit_count.ensures.1 in rw (p.1, p.2) no_memory

pub loop-number-init : goal.loop-number-init
loop-number-init c = record {
  listing = record {
    strings_len = refl;
    order_len = c.requires.firsts.len ∙ length-nows c.args.strings.items;
    firsts_len = c.requires.firsts.len ∙ length-nows c.args.strings.items;
    within = omega arith;
    left = refl;
    unread = refl;
    texts = rw c.in_ok-measures.ensures.items no_texts;
    turns = no_turns;
  };
  size = refl;
  small = omega arith;
}

pub list_next-requires-clause-given : goal.list_next-requires-clause-given
list_next-requires-clause-given c =
    let xs = c.args.strings.items in
    let i = c.loop-number.number in
    let v = c.loop-number.invariant in
    let l : i < length xs = omega (
      arith,
      c.loop-number-test.true,
      c.len-string_count.ensures,
      c.args.strings.ok,
    ) in (
      xs,
      c.args.firsts.items,
      v.listing,
      l,
      text_here xs c.args.firsts.items i c.loop-number.list v.listing l c.index-text.result.now
          c.index-text.ensures,
      omega (arith, v.size, v.small),
      c.requires.firsts.each i (omega (arith, l, length-nows xs)),
    )

pub returns-then-is_vast-clause-err : goal.returns-then-is_vast-clause-err
returns-then-is_vast-clause-err c =
    let xs = c.args.strings.items in
    let i = c.loop-number.number in
    let v = c.loop-number.invariant in
    let l : i < length xs = omega (
      arith,
      c.loop-number-test.true,
      c.len-string_count.ensures,
      c.args.strings.ok,
    ) in
    let is = text_here xs c.args.firsts.items i c.loop-number.list v.listing l
    c.index-text.result.now c.index-text.ensures in
    let t = (get_or xs i blank).now in
    let q : c.index-text.result.now.now ≡ t = is ∙ sym (text_nows xs i l) in
    let e = ap texts_size (nows-split xs i blank l) in
    let f = texts_size-most (nows (take i xs)) t (nows (drop (suc i) xs)) in
    let g : 268435456 ≤ length (units t) = subst (λ z. 268435456 ≤ length (units z)) q
    (leb-true 268435456 (length (units c.index-text.result.now.now)) (sym c.is_vast.ensures
    ∙ c.if-is_vast.true)) in
    too_large c.requires.short (omega (arith, e, f, g))

pub returns-in_err-size-clause-err : goal.returns-in_err-size-clause-err
returns-in_err-size-clause-err c =
    let xs = c.args.strings.items in
    let fs = c.args.firsts.items in
    let i = c.loop-number.number in
    let v = c.loop-number.invariant in
    let l : i < length xs = omega (
      arith,
      c.loop-number-test.true,
      c.len-string_count.ensures,
      c.args.strings.ok,
    ) in
    let is = text_here xs c.args.firsts.items i c.loop-number.list v.listing l
    c.index-text.result.now c.index-text.ensures in
    let t = (get_or xs i blank).now in
    let q : c.index-text.result.now.now ≡ t = is ∙ sym (text_nows xs i l) in
    let e = ap texts_size (nows-split xs i blank l) in
    let f = texts_size-most (nows (take i xs)) t (nows (drop (suc i) xs)) in
    let p = err_from_is_err_and c.from_residual-in_err-size.result
    c.from_residual-in_err-size.ensures.1 in
    rw (p.1, p.2, c.in_err-size.ensures.err.0) (too_large c.requires.short (omega (
      arith,
      e,
      f,
      c.in_ok-unit_count.ensures.count,
      ap (λ z. length (units z)) q,
      v.size,
      c.in_err-size.ensures.err.1,
    )))

pub loop-number-preserved : goal.loop-number-preserved
loop-number-preserved c =
    let xs = c.args.strings.items in
    let fs = c.args.firsts.items in
    let i = c.loop-number.number in
    let v = c.loop-number.invariant in
    let l : i < length xs = omega (
      arith,
      c.loop-number-test.true,
      c.len-string_count.ensures,
      c.args.strings.ok,
    ) in
    let is = text_here xs c.args.firsts.items i c.loop-number.list v.listing l
    c.index-text.result.now c.index-text.ensures in
    let t = (get_or xs i blank).now in
    let q : c.index-text.result.now.now ≡ t = is ∙ sym (text_nows xs i l) in
    record {
      listing = c.in_ok-unit_count.ensures.lists xs fs v.listing l is (c.requires.firsts.each i
          (omega (arith, l, length-nows xs)));
      size = omega (
        arith,
        v.size,
        c.in_ok-size.ensures.ok,
        c.in_ok-unit_count.ensures.count,
        ap (λ z. length (units z)) q,
        ap texts_size (nows-take xs i blank l),
        texts_size-push (nows (take i xs)) t,
      );
      small = c.in_ok-size.ensures.small;
    }

pub list_next-requires-clause-short : goal.list_next-requires-clause-short
list_next-requires-clause-short c =
    leb-false 268435456 (length (units c.index-text.result.now.now))
    (sym c.is_vast.ensures ∙ c.if-is_vast.false)

pub size_with-requires-clause-count : goal.size_with-requires-clause-count
size_with-requires-clause-count c = omega (
  arith,
  c.in_ok-unit_count.ensures.count,
  leb-false 268435456 (length (units c.index-text.result.now.now))
      (sym c.is_vast.ensures ∙ c.if-is_vast.false),
)

pub returns-clause-texts : goal.returns-clause-texts
returns-clause-texts c =
    let xs = c.args.strings.items in
    let i = c.loop-number.number in
    let l = c.loop-number.list in
    let made = c.listed.ensures in
    let full : take i xs ≡ xs = take_all i xs (omega (
      arith,
      c.loop-number-test.false,
      c.len-string_count.ensures,
      c.args.strings.ok,
    )) in
    subst (AreTexts (nows xs) (nows c.listed.result.texts.items)) (sym made.measures)
    (subst (λ z. AreTexts (nows z) (nows c.listed.result.texts.items) l.measures.items) full
    (subst (λ z. AreTexts (nows (take i xs)) (nows z) l.measures.items) (sym made.texts)
    c.loop-number.invariant.listing.texts))

pub returns-clause-turns : goal.returns-clause-turns
returns-clause-turns c =
    let xs = c.args.strings.items in
    let i = c.loop-number.number in
    let order = c.loop-number.list.order.items in
    let v = c.loop-number.invariant.listing in
    let long : length xs ≤ i = omega (
      arith,
      c.loop-number-test.false,
      c.len-string_count.ensures,
      c.args.strings.ok,
    ) in
    let made = c.listed.ensures in
    subst (AreTurns (nows xs) (nows c.listed.result.texts.items))
    (take_all i order (omega (arith, long, v.order_len)) ∙ sym made.order)
    (subst (λ z. AreTurns (nows z) (nows c.listed.result.texts.items) (take i order))
    (take_all i xs long)
    (subst (λ z. AreTurns (nows (take i xs)) (nows z) (take i order)) (sym made.texts)
    v.turns))

pub returns-clause-small : goal.returns-clause-small
returns-clause-small c =
    let xs = c.args.strings.items in
    let i = c.loop-number.number in
    let full : take i xs ≡ xs = take_all i xs (omega (
      arith,
      c.loop-number-test.false,
      c.len-string_count.ensures,
      c.args.strings.ok,
    )) in
    let e : texts_size (nows (take i xs)) ≡ texts_size (nows xs) =
    ap (λ z. texts_size (nows z)) full in
    omega (arith, e, c.loop-number.invariant.size, c.loop-number.invariant.small)
