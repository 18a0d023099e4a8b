use Rattle.std.proofs.Common.{◌≡◌, ◌<◌, ℕ, List, length, get_or, take, ap, subst, sym, ◌∙◌}
use Rattle.std.proofs.Common.{arith, inl, inr, get_or-set_other, get_or-set_same}
use Rattle.std.specs.Prelude.{slice_set}
use Rattle.std.specs.List.{Contains}
use Rattle.std.proofs.lemmas.Bool.{cases_eq}
use Rattle.std.proofs.lemmas.List.{get_or_default, length-set, take_more, take_all}
use Rattle.std.proofs.lemmas.List.Elements.{Contains-push_cases}
use Rattle.resb_pool.specs.Inner.LaidRecords.{AreLyingIn}
use Rattle.resb_pool.specs.declared.measure.Measure.{Measure}
use Rattle.resb_pool.proofs.containers.find_sums.Goals as goal

abbrev no_measure : Measure
no_measure = record { unit_count = 0; size = 0; total = 0 }

pub loop-index-init : goal.loop-index-init
loop-index-init c =
    let lying = subst (λ (z : List ℕ). AreLyingIn z c.args.measures.now c.in_ok-sums.sums.items)
    c.deref.ensures.value c.in_ok-sums.ensures in
    record {
      len = lying.len;
      each = λ q l none. lying.each q l;
      hidden = λ q d l h. absurd (omega (arith, h.1));
    }

pub loop-index-preserved : goal.loop-index-preserved
loop-index-preserved c =
    let hidden = c.args.containers.now.hidden.items in
    let hs = c.deref-index-items.result.now in
    let same : hs ≡ hidden = c.deref-index-items.ensures.value in
    let ms = c.args.measures.now in
    let i = c.loop-index.index-index in
    let l : i < length hs = c.loop-index-test.true in
    let m : i < length hidden = omega (arith, l, ap length same) in
    let h = get_or hs i 0 in
    let there : get_or hidden i 0 ≡ h = ap (λ z. get_or z i 0) (sym same) in
    let within : h < length c.args.containers.now.of.items =
    omega (arith, c.requires.hidden i 0 m, there) in
    let es = c.loop-index.sums.items in
    let n = (get_or ms h no_measure).size in
    let v = c.loop-index.invariant in
    let fits : h < length es = omega (arith, within, v.len) in
    record {
      len = length-set es h n ∙ v.len;
      each = λ q lq none. get_or-set_other es h q n 0
          (λ e. none (i, m, get_or_default hidden i q 0 m ∙ there ∙ sym e))
          ∙ v.each q lq none;
      hidden = λ q d lq c'. elim (cases_eq q h) [
        | inl e ↦
            ap (λ z. get_or (slice_set es h n) z 0) e ∙ get_or-set_same es h n 0 fits
            ∙ ap (λ (z : Measure). z.size)
            (get_or_default ms h no_measure d (omega (arith, within, c.requires.len))
            ∙ ap (λ z. get_or ms z d) (sym e))
        | inr ne ↦
            let old : Contains (take i hidden) q =
            elim (Contains-push_cases (take i hidden) (get_or hidden i 0) q
            (subst (λ (z : List ℕ). Contains z q) (take_more hidden i 0 m) c')) [
              | inl o ↦ o
              | inr f ↦ absurd (ne (sym f ∙ there))
            ] in
            get_or-set_other es h q n 0 ne ∙ v.hidden q d lq old
      ];
    }

pub returns : goal.returns
returns c =
    let hidden = c.args.containers.now.hidden.items in
    let same = c.deref-index-items.ensures.value in
    let v = c.loop-index.invariant in
    let all : take c.loop-index.index-index hidden ≡ hidden =
    take_all c.loop-index.index-index hidden
    (omega (arith, c.loop-index-test.false, ap length same)) in
    record {
      len = v.len;
      each = v.each;
      hidden = λ q d l h. v.hidden q d l (subst (λ (z : List ℕ). Contains z q) (sym all) h);
    }
