use Rattle.std.proofs.Common.{rules, ◌≡◌, ◌<◌, ◌-◌, [], length, get_or, ap, subst}
use Rattle.std.proofs.Common.{sym, ◌∙◌, arith, inl, inr, get_or-set_other, get_or-set_same}
use Rattle.std.proofs.lemmas.Bool.{MatchBool-at_true, MatchBool-at_false}
use Rattle.std.specs.Prelude.{slice_set}
use Rattle.std.proofs.lemmas.List.{length-set, get_or_default, get_or_past}
use Rattle.resb_pool.specs.Plan.{nows}
use Rattle.resb_pool.specs.Inner.Placing.{LiesAt, indexed_text}
use Rattle.resb_pool.specs.Inner.Suffixes.{AreInOrder, IsRowOf, IsSharedEnd, row_text}
use Rattle.resb_pool.specs.Inner.Suffixes.{digits_backwards, key_of_digits}
use Rattle.resb_pool.specs.declared.suffix_order.Row.{Row}
use Rattle.resb_pool.specs.declared.packing.Packing.TheVariants.{Plain}
use Rattle.resb_pool.proofs.Interning.{length-nows}
use Rattle.resb_pool.proofs.SuffixRuns.{IsPrevious, step_alone, step_shared, one_row, row_of}
use Rattle.resb_pool.proofs.containers.find_plain.Goals.{then-not-lies_with}
use Rattle.resb_pool.proofs.containers.find_plain.Goals.{else-not-lies_with}
use Rattle.resb_pool.proofs.containers.find_plain.Goals as goal
use Rattle.resb_pool.proofs.Numbers.{old_or_new}

abbrev no_row : Row
no_row = record { last = 0; before = 0; index = 0; left = 0 }

-- the row before the first is that of no text
pub loop-row-init : goal.loop-row-init
loop-row-init c =
    let xs = c.args.texts.now in
    let none : row_text (nows xs) c.row_of-previous.result ≡ [] =
    ap (indexed_text (nows xs)) c.row_of-previous.ensures.index
    ∙ get_or_past (nows xs) (length xs) [] (omega (arith, length-nows xs)) in
    record {
      len = search rules;
      keyed = record {
        key_is = c.row_of-previous.ensures.key
            ∙ ap (λ t. key_of_digits 0 16 (digits_backwards t)) (sym none);
        small = c.row_of-previous.ensures.small;
        left_is = c.row_of-previous.ensures.left
            ∙ ap (λ t. 16 - length (digits_backwards t)) (sym none);
      };
      first = λ e. none;
      last = λ k d e. absurd (omega (arith, e));
      lies = λ j d l. absurd (omega (arith, l));
    }

pub loop-row-preserved : goal.loop-row-preserved
loop-row-preserved c =
    let T = nows c.args.texts.now in
    let rows = c.deref-row-items.result.now in
    let i = c.loop-row.row-index in
    let v = c.loop-row.invariant in
    let l : i < length rows = c.loop-row-test.true in
    let o : AreInOrder Plain T rows =
    subst (AreInOrder Plain T) (sym c.deref-row-items.ensures.value) c.in_ok-rows.ensures in
    let u = c.requires.utf8 in
    let once = c.requires.distinct in
    let r = get_or rows i no_row in
    let h = c.loop-row.container in
    let p = row_text T c.loop-row.previous in
    let before : IsPrevious T u once rows o i no_row p h = record {
      first = v.first;
      last = λ k e. v.last k no_row e;
    } in
    let S : Type 0 = IsSharedEnd p (row_text T r) in
    let lies : LiesAt Plain T r.index c.if-not-lies_with.container =
    elim c.if-not-lies_with.branch [
      | then-not-lies_with w ↦ subst (LiesAt Plain T r.index) (sym w.container-is)
          (step_alone T u once rows o i no_row l p h before
          (MatchBool-at_false S (S → ⊥) w.if-not-lies_with.true c.lies_with.ensures))
      | else-not-lies_with w ↦ subst (LiesAt Plain T r.index) (sym w.container-is)
          (step_shared T u once rows o i no_row l p h before
          (MatchBool-at_true S (S → ⊥) w.if-not-lies_with.false c.lies_with.ensures))
    ] in
    let es = c.loop-row.containers.items in
    let new = c.if-not-lies_with.container in
    let is_row : (d : Row) → r ≡ get_or rows i d = (λ d. get_or_default rows i no_row d l) in
    let row : IsRowOf T r = o.each i no_row l in
    let within : r.index < length es =
    omega (arith, row.within, length-nows c.args.texts.now, v.len) in
    record {
      len = length-set es r.index new ∙ v.len;
      keyed = row.keyed;
      first = λ e. absurd (omega (arith, e));
      last = λ k d e.
          let q = is_row d ∙ ap (λ z. get_or rows z d) (omega (arith, e)) in
          (ap (row_text T) q, subst (λ (z : Row). LiesAt Plain T z.index new) q lies);
      lies = λ j d m. elim (old_or_new i j m) [
        | inl b ↦
            let k = (get_or rows j d).index in
            let ne : k ≡ r.index → ⊥ = (λ e.
            let f = one_row Plain T u once rows o j i d (omega (arith, b, l)) l
            (e ∙ ap (λ (z : Row). z.index) (is_row d)) in
            omega (arith, b, f)) in
            subst (LiesAt Plain T k) (sym (get_or-set_other es r.index k new 0 ne)) (v.lies j d b)
        | inr e ↦
            let q = is_row d ∙ ap (λ z. get_or rows z d) (sym e) in
            subst (λ (z : Row).
            LiesAt Plain T z.index (get_or (slice_set es r.index new) z.index 0)) q
            (subst (LiesAt Plain T r.index) (sym (get_or-set_same es r.index new 0 within)) lies)
      ];
    }

pub returns : goal.returns
returns c =
    let T = nows c.args.texts.now in
    let rows = c.deref-row-items.result.now in
    let o : AreInOrder Plain T rows =
    subst (AreInOrder Plain T) (sym c.deref-row-items.ensures.value) c.in_ok-rows.ensures in
    let es = c.loop-row.containers.items in
    let n = length-nows c.args.texts.now in
    record {
      len = c.loop-row.invariant.len ∙ sym n;
      lies = λ i l.
          let r = row_of Plain T c.requires.utf8 c.requires.distinct rows o i no_row l in
          subst (λ z. LiesAt Plain T z (get_or es z 0)) r.2
          (c.loop-row.invariant.lies r.0 no_row (omega (arith, r.1, c.loop-row-test.false)));
    }
