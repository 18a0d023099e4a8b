use Rattle.std.proofs.Common.{rules, ◌≡◌, ◌<◌, ◌-◌, ℕ, [], length, get_or, ap, subst}
use Rattle.std.proofs.Common.{sym, ◌∙◌, arith, inl, inr, get_or-set_other, get_or-set_same}
use Rattle.std.specs.Prelude.{slice_set}
use Rattle.std.specs.List.{Contains}
use Rattle.std.proofs.lemmas.List.{length-set, get_or_default, get_or_past}
use Rattle.resb_pool.specs.Plan.{nows}
use Rattle.resb_pool.specs.Inner.Placing.{LiesAt, IsToldHidden, indexed_text}
use Rattle.resb_pool.specs.Inner.Suffixes.{AreInOrder, IsRowOf, row_text}
use Rattle.resb_pool.specs.Inner.Suffixes.{digits_backwards, key_of_digits}
use Rattle.resb_pool.specs.Inner.Tops.{IsTopOf}
use Rattle.resb_pool.specs.declared.packing.Packing.TheVariants.{Compact}
use Rattle.resb_pool.specs.declared.suffix_order.Row.{Row}
use Rattle.resb_pool.proofs.Interning.{length-nows}
use Rattle.resb_pool.proofs.SuffixRuns.{one_row, row_of}
use Rattle.resb_pool.proofs.TopRuns.{IsPreviousTop, step_made, hidden_more, told_keep}
use Rattle.resb_pool.proofs.containers.find_compact.Goals as goal
use Rattle.resb_pool.proofs.Numbers.{old_or_new}

abbrev no_row : Row
no_row = record { last = 0; before = 0; index = 0; left = 0 }

-- the row before the first is that of no text
pub loop-row-init : goal.loop-row-init
loop-row-init c =
    let xs = c.args.texts.now in
    let none : row_text (nows xs) c.row_of-previous.result ≡ [] =
    ap (indexed_text (nows xs)) c.row_of-previous.ensures.index
    ∙ get_or_past (nows xs) (length xs) [] (omega (arith, length-nows xs)) in
    record {
      len = search rules;
      keyed = record {
        key_is = c.row_of-previous.ensures.key
            ∙ ap (λ t. key_of_digits 0 16 (digits_backwards t)) (sym none);
        small = c.row_of-previous.ensures.small;
        left_is = c.row_of-previous.ensures.left
            ∙ ap (λ t. 16 - length (digits_backwards t)) (sym none);
      };
      first = λ e. none;
      last = λ k d e. absurd (omega (arith, e));
      lies = λ j d l. absurd (omega (arith, l));
      told = λ j d l. absurd (omega (arith, l));
      only = λ h d x. absurd (omega (arith, x.1, ap length c.new-hidden.ensures.items));
    }

pub loop-row-preserved : goal.loop-row-preserved
loop-row-preserved c =
    let T = nows c.args.texts.now in
    let rows = c.deref-row-items.result.now in
    let i = c.loop-row.row-index in
    let v = c.loop-row.invariant in
    let l : i < length rows = c.loop-row-test.true in
    let o : AreInOrder Compact T rows =
    subst (AreInOrder Compact T) (sym c.deref-row-items.ensures.value) c.in_ok-rows.ensures in
    let u = c.requires.utf8 in
    let once = c.requires.distinct in
    let r = get_or rows i no_row in
    let p = row_text T c.loop-row.previous in
    let before : IsPreviousTop T u once rows o i no_row p c.loop-row.top = record {
      first = v.first;
      last = λ k e. v.last k no_row e;
    } in
    let is_row : (d : Row) → r ≡ get_or rows i d = (λ d. get_or_default rows i no_row d l) in
    let apart : (j : ℕ) (d : Row) → j < i → (get_or rows j d).index ≡ r.index → ⊥ = (λ j d b e.
    let f = one_row Compact T u once rows o j i d (omega (arith, b, l)) l
    (e ∙ ap (λ (z : Row). z.index) (is_row d)) in
    omega (arith, b, f)) in
    let hs = c.loop-row.hidden.items in
    let fresh : Contains hs r.index → ⊥ = (λ x. let y = v.only r.index no_row x in
    apart y.0 no_row y.1 y.2) in
    let step = c.in_ok-next_top.ensures in
    let made = step_made T u once rows o i no_row l before fresh step in
    let es = c.loop-row.of.items in
    let new = c.in_ok-next_top.container in
    let row : IsRowOf T r = o.each i no_row l in
    let within : r.index < length es =
    omega (arith, row.within, length-nows c.args.texts.now, v.len) in
    record {
      len = length-set es r.index new ∙ v.len;
      keyed = row.keyed;
      first = λ e. absurd (omega (arith, e));
      last = λ k d e.
          let q = is_row d ∙ ap (λ z. get_or rows z d) (omega (arith, e)) in (
            ap (row_text T) q,
            subst (λ (z : Row). 0 < length (row_text T z)
                → (c.in_ok-next_top.next_top < length T)
                × IsTopOf T (row_text T z) (indexed_text T c.in_ok-next_top.next_top)) q made.next,
          );
      lies = λ j d m. elim (old_or_new i j m) [
        | inl b ↦
            let k = (get_or rows j d).index in
            subst (LiesAt Compact T k)
            (sym (get_or-set_other es r.index k new 0 (apart j d b))) (v.lies j d b)
        | inr e ↦
            let q = is_row d ∙ ap (λ z. get_or rows z d) (sym e) in
            subst (λ (z : Row).
            LiesAt Compact T z.index (get_or (slice_set es r.index new) z.index 0)) q
            (subst (LiesAt Compact T r.index) (sym (get_or-set_same es r.index new 0 within))
            made.lies)
      ];
      told = λ j d m. elim (old_or_new i j m) [
        | inl b ↦
            told_keep T step (get_or rows j d).index (λ e. apart j d b (sym e)) (v.told j d b)
        | inr e ↦
            let q = is_row d ∙ ap (λ z. get_or rows z d) (sym e) in
            subst (λ (z : Row). IsToldHidden (Contains T) T c.step.new.hidden.items z.index)
            q made.told
      ];
      only = λ h d x. elim (hidden_more step h x) [
        | inl w ↦ (let y = v.only h d w in (y.0, omega (arith, y.1), y.2))
        | inr e ↦ (i, omega arith, ap (λ (z : Row). z.index) (sym (is_row d)) ∙ e)
      ];
    }

pub returns-clause-containers : goal.returns-clause-containers
returns-clause-containers c =
    let T = nows c.args.texts.now in
    let rows = c.deref-row-items.result.now in
    let o : AreInOrder Compact T rows =
    subst (AreInOrder Compact T) (sym c.deref-row-items.ensures.value) c.in_ok-rows.ensures in
    let es = c.loop-row.of.items in
    let n = length-nows c.args.texts.now in
    record {
      len = c.loop-row.invariant.len ∙ sym n;
      lies = λ i l.
          let r = row_of Compact T c.requires.utf8 c.requires.distinct rows o i no_row l in
          subst (λ z. LiesAt Compact T z (get_or es z 0)) r.2
          (c.loop-row.invariant.lies r.0 no_row (omega (arith, r.1, c.loop-row-test.false)));
    }

pub returns-clause-hidden : goal.returns-clause-hidden
returns-clause-hidden c =
    let T = nows c.args.texts.now in
    let rows = c.deref-row-items.result.now in
    let o : AreInOrder Compact T rows =
    subst (AreInOrder Compact T) (sym c.deref-row-items.ensures.value) c.in_ok-rows.ensures in
    let hs = c.loop-row.hidden.items in
    let v = c.loop-row.invariant in
    record {
      within = λ i d l.
          let y = v.only (get_or hs i d) no_row (i, l, get_or_default hs i (get_or hs i d) d l) in
          let w = o.each y.0 no_row (omega (arith, y.1, c.loop-row.auto.row-index-end)) in
          omega (arith, w.within, y.2);
      each = λ i l.
          let r = row_of Compact T c.requires.utf8 c.requires.distinct rows o i no_row l in
          subst (IsToldHidden (Contains T) T hs) r.2
          (v.told r.0 no_row (omega (arith, r.1, c.loop-row-test.false)));
    }
