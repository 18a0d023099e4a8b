use Rattle.std.proofs.Common.{◌≡◌, ◌<◌, ◌∷◌, ◌++◌, [], Bor, ℕ, List, length, get_or, inl, inr, sym}
use Rattle.std.proofs.Common.{◌∙◌, ap, subst, arith}
use Rattle.std.proofs.lemmas.List.{get_or-map, get_or_append_left, get_or_push}
use Rattle.std.proofs.lemmas.List.{length-map, length_push, map_push}
use Rattle.resb_pool.specs.Plan.{nows}
use Rattle.resb_pool.proofs.TextLoops.{blank}
use Rattle.resb_lent.specs.Inner.Chosen.{IsChosen}
use Rattle.resb_lent.specs.declared.texts.Standing.TheVariants.{Whole}
use Rattle.resb_lent.proofs.Others.{old_or_new, same_at, chosen_same}
use Rattle.resb_lent.proofs.answers_beside.find_others.Goals as goal

pub loop-at-init : goal.loop-at-init
loop-at-init c = record {
  len = ap length c.in_ok-others.ensures.items;
  each = λ i d l. absurd (omega (arith, l));
}

pub loop-at-preserved : goal.loop-at-preserved
loop-at-preserved c =
    let xs = c.args.strings.now in
    let ds = c.args.standings.now in
    let at = c.loop-at.at in
    let marks = c.end_marks-marks.result in
    let rs = c.loop-at.others.items in
    let r = c.chosen.result in
    let v = c.loop-at.invariant in
    let first = λ (y : Bor (List ℕ)). y.now in
    let more : nows c.push.new.self.items ≡ nows rs ++ r.now ∷ [] =
    ap nows c.in_ok-push.ensures.items ∙ map_push first rs r in
    record {
      len = omega (arith, ap length c.in_ok-push.ensures.items, length_push rs r, v.len);
      each = λ i d l. subst (λ z. IsChosen marks (get_or (nows xs) i []) (get_or ds i d)
          (get_or z i [])) (sym more) (elim (old_or_new at i l) [
            | inl m ↦
                let old : i < length (nows rs) = omega (arith, m, v.len, length-map rs first) in
                subst (IsChosen marks (get_or (nows xs) i []) (get_or ds i d))
                (sym (get_or_append_left (nows rs) (r.now ∷ []) [] i old)) (v.each i d m)
            | inr m ↦
                let within : i < length xs = omega (arith, m, c.loop-at-test.true) in
                let told : i < length ds = omega (arith, within, c.requires) in
                let text : get_or (nows xs) i [] ≡ (get_or xs at blank).now =
                get_or-map first xs i blank [] within ∙ ap (λ k. (get_or xs k blank).now) m in
                let last : get_or (nows rs ++ r.now ∷ []) i [] ≡ r.now =
                get_or_push (nows rs) r.now [] i
                (length-map rs first ∙ v.len ∙ sym m) in
                subst (IsChosen marks (get_or (nows xs) i []) (get_or ds i d)) (sym last)
                (chosen_same marks (get_or xs at blank).now (get_or (nows xs) i [])
                (get_or ds at (Whole 0)) (get_or ds i d) r.now (sym text)
                (same_at ds i at d (Whole 0) m told) c.chosen.ensures)
          ]);
    }

pub returns : goal.returns
returns c =
    let v = c.loop-at.invariant in
    let first = λ (y : Bor (List ℕ)). y.now in
    record {
      marks = c.end_marks-marks.result;
      marked = λ i d l e.
          c.end_marks-marks.ensures i d (omega (arith, l, length-map c.args.strings.now first)) e;
      len = omega (
        arith,
        v.len,
        length-map c.loop-at.others.items first,
        length-map c.args.strings.now first,
        c.loop-at-test.false,
      );
      each = λ i d l.
          v.each i d (omega (arith, l, length-map c.args.strings.now first, c.loop-at-test.false));
    }
