use Rattle.std.proofs.Common.{rules, ◌≡◌, ℕ, ◌+◌, ◌-◌, ◌<◌, [], Bor, List, arith, ap, ◌∙◌, drop, length, get_or}
use Rattle.std.proofs.lemmas.Map.Text.{hash_map_updates_str}
use Rattle.resb_filter.specs.Collated.{form_of}
use Rattle.resb_filter.specs.View.{forms_view}
use Rattle.resb_filter.specs.declared.collation.CollationForm.{CollationForm}
use Rattle.resb_filter.proofs.CollationLemmas.{form_before}
use Rattle.resb_filter.proofs.collation.form_index.Goals as goal

pub loop-at-preserved : goal.loop-at-preserved
loop-at-preserved c = λ key.
    let fs = c.args.forms.now in
    let at = c.loop-at.at in
    let none : Bor (List ℕ) = record { ref_ptr = (0, 0); now = [] } in
    let d : CollationForm = record { key = none; bytes = none } in
    let more : at ≡ (at - 1) + 1 = omega (arith, c.loop-at-test.true) in
    let within : at - 1 < length fs = search rules in
    form_before c.loop-at.index c.insert.new.self fs (at - 1) d within
    (λ k. c.loop-at.invariant k ∙ ap (λ n. form_of (forms_view (drop n fs)) k) more)
    (hash_map_updates_str (get_or fs (at - 1) d).key.now c.loop-at.index c.insert.new.self _
    c.in_ok-insert.ensures.updates) key
