use Rattle.std.proofs.Common.{[], ◌++◌, ◌∙◌, ap, arith, sym, append-nil, get_or}
use Rattle.std.specs.Prelude.{map, nat_eq, true, false}
use Rattle.std.specs.Cmp.Lexicographic.{pointwise}
use Rattle.indexmap.specs.IndexSet.{insert_key}
use Rattle.std.proofs.lemmas.List.{take_all}
use Rattle.resb_grammar.specs.BundleText.{first_places}
use Rattle.resb_grammar.specs.KeyLists.{listed_keys}
use Rattle.resb_text.specs.Inner.Discovered.{text_in_group, left_of, texts}
use Rattle.resb_text.specs.declared.discovered.Candidate.{Candidate}
use Rattle.resb_text.proofs.DiscoveredLemmas.{listed_more}
use Rattle.resb_text.proofs.discovered.list_left.Goals as goal
use Rattle.resb_text.proofs.discovered.list_left.Goals.{then-not-dropped+in_ok-list}
use Rattle.resb_text.proofs.discovered.list_left.Goals.{else-not-dropped}

pub loop-candidate-init : goal.loop-candidate-init
loop-candidate-init c = record {
  keys = λ before h. h ∙ ap (λ xs. first_places (texts xs)) (sym (append-nil before));
}

pub loop-candidate-preserved : goal.loop-candidate-preserved
loop-candidate-preserved c =
    let d : Candidate = record { text = record { ref_ptr = (0, 0); now = [] }; group = 0 } in
    let lt = c.loop-candidate-test.true in
    let test = c.is_set-dropped.ensures in
    let one = get_or c.args.candidates.now c.loop-candidate.candidate-index d in
    record {
      keys = λ front h.
          let was = c.loop-candidate.invariant.keys front h in
          elim c.if-not-dropped.branch [
            | then-not-dropped+in_ok-list w ↦
                ap listed_keys w.list-is ∙ w.in_ok-list.ensures
                ∙ ap (λ ks. insert_key (pointwise nat_eq) ks one.text.now) was
                ∙ sym (listed_more front _ _ _ d lt false (sym w.if-not-dropped.true ∙ test))
            | else-not-dropped w ↦
                ap listed_keys w.list-is ∙ was
                ∙ sym (listed_more front _ _ _ d lt true (sym w.if-not-dropped.false ∙ test))
          ];
    }

pub returns-clause-ok : goal.returns-clause-ok
returns-clause-ok c = λ before h.
    c.loop-candidate.invariant.keys before h
    ∙ ap (λ cs. first_places (texts (before ++ left_of c.args.is_dropped.now
    (map text_in_group cs))))
    (take_all c.loop-candidate.candidate-index c.args.candidates.now
    (omega (arith, c.loop-candidate-test.false, c.loop-candidate.auto.candidate-index-end)))
