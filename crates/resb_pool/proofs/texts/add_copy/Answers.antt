use Rattle.std.proofs.Common.{◌≡◌, ◌<◌, ℕ, List, [], ◌∷◌, ◌++◌, Bor, length, sym, ◌∙◌, ap, subst}
use Rattle.std.proofs.Common.{arith, refl}
use Rattle.std.specs.Cmp.Lexicographic.{bytes_decides}
use Rattle.std.proofs.lemmas.List.{length_push, length-map}
use Rattle.resb_pool.specs.Plan.{nows}
use Rattle.resb_pool.specs.Inner.Placing.{indexed_text, AreTexts, AreTurns}
use Rattle.resb_pool.specs.declared.texts.Texts.{Texts}
use Rattle.resb_pool.proofs.Interning.{IsReady, taken_known, taken_new, count_is, count_fits}
use Rattle.resb_pool.proofs.Interning.{counted, stored_at, length-nows}
use Rattle.resb_pool.proofs.Turns.{turn_more, strings_few}
use Rattle.resb_pool.proofs.texts.add_copy.Goals as goal
use Rattle.resb_pool.proofs.texts.add_copy.Goals.{After-index_mut-measure, then-is_new+in_ok-push}
use Rattle.resb_pool.proofs.texts.add_copy.Goals.{else-is_new}

ready : (c : After-index_mut-measure) (done : List (List ℕ))
    → AreTexts done (nows c.args.texts.now.distinct.keys) c.args.texts.now.measures.items
    → IsReady done c.args.text.now (nows c.if-is_new.texts.distinct.keys)
    c.if-is_new.texts.measures.items
ready c done h = elim c.if-is_new.branch [
  | then-is_new+in_ok-push w ↦ subst (λ (x : Texts). IsReady done c.args.text.now
      (nows x.distinct.keys) x.measures.items) (sym w.texts-is)
      (subst (IsReady done c.args.text.now (nows c.insert_full.new.self.keys))
      (sym w.in_ok-push.ensures.items)
      (taken_new done c.args.texts.now.distinct.keys c.insert_full.new.self.keys c.args.text
      c.args.texts.now.measures.items h c.utf8.text c.in_ok-index.ensures.keys
      c.in_ok-index.is_new c.in_ok-index.ensures.added
      w.if-is_new.true w.of.result w.of.ensures.count w.of.ensures.size w.of.ensures.total))
  | else-is_new w ↦ subst (λ (x : Texts). IsReady done c.args.text.now (nows x.distinct.keys)
      x.measures.items) (sym w.texts-is)
      (taken_known done c.args.texts.now.distinct.keys c.insert_full.new.self.keys c.args.text
      c.args.texts.now.measures.items h c.utf8.text c.in_ok-index.ensures.keys
      c.in_ok-index.is_new c.in_ok-index.ensures.added w.if-is_new.false)
]

set_is : (c : After-index_mut-measure)
    → c.if-is_new.texts.distinct.keys ≡ c.insert_full.new.self.keys
set_is c = elim c.if-is_new.branch [
  | then-is_new+in_ok-push w ↦ ap (λ (x : Texts). x.distinct.keys) w.texts-is
  | else-is_new w ↦ ap (λ (x : Texts). x.distinct.keys) w.texts-is
]

within : (c : After-index_mut-measure)
    → c.in_ok-index.index < length (nows c.if-is_new.texts.distinct.keys)
within c = omega (
  arith,
  c.in_ok-index.ensures.within,
  length-nows c.if-is_new.texts.distinct.keys,
  ap length (set_is c),
)

stands : (c : After-index_mut-measure)
    → indexed_text (nows c.if-is_new.texts.distinct.keys) c.in_ok-index.index ≡ c.args.text.now
stands c =
    let k = c.in_ok-index.ensures.stored in
    ap (λ (z : List (Bor (List ℕ))). indexed_text (nows z) c.in_ok-index.index) (set_is c)
    ∙ stored_at c.insert_full.new.self.keys c.in_ok-index.index k.0 k.1
    ∙ sym ((bytes_decides c.args.text.now k.0.now).0 k.2)

order_is : (c : After-index_mut-measure)
    → c.if-is_new.texts.order.items ≡ c.args.texts.now.order.items
order_is c = elim c.if-is_new.branch [
  | then-is_new+in_ok-push w ↦ ap (λ (x : Texts). x.order.items) w.texts-is
  | else-is_new w ↦ ap (λ (x : Texts). x.order.items) w.texts-is
]

turned : (c : After-index_mut-measure) (done : List (List ℕ)) (turns : List ℕ)
    → AreTurns done (nows c.args.texts.now.distinct.keys) turns
    → AreTurns (done ++ c.args.text.now ∷ []) (nows c.if-is_new.texts.distinct.keys)
    (turns ++ c.in_ok-index.index ∷ [])
turned c done turns h = turn_more done c.args.texts.now.distinct.keys
    c.if-is_new.texts.distinct.keys c.args.text turns h c.in_ok-index.index (within c) (stands c)
    (set_is c ∙ c.in_ok-index.ensures.keys)

pub overflow_add-measure : goal.overflow_add-measure
overflow_add-measure c =
    let a = (goal.at.overflow_add-measure c).After-index_mut-measure in
    let g = c.requires.given in
    let small = count_fits g.0 c.args.text.now (nows c.if-is_new.texts.distinct.keys)
    c.if-is_new.texts.measures.items (ready a g.0 g.2) c.in_ok-index.index (within a) (stands a)
    c.index_mut-measure.result.now c.index_mut-measure.ensures.value c.requires.short g.1 in
    omega (arith, small)

pub returns-clause-count : goal.returns-clause-count
returns-clause-count c =
    let a = (goal.at.returns-clause-count c).After-index_mut-measure in
    let g = c.requires.given in
    count_is g.0 c.args.text.now (nows c.if-is_new.texts.distinct.keys)
    c.if-is_new.texts.measures.items (ready a g.0 g.2) c.in_ok-index.index (within a) (stands a)
    c.index_mut-measure.result.now c.index_mut-measure.ensures.value

pub returns-clause-texts : goal.returns-clause-texts
returns-clause-texts c = λ done h.
    let a = (goal.at.returns-clause-texts c).After-index_mut-measure in
    counted done c.args.text.now (nows c.if-is_new.texts.distinct.keys)
    c.if-is_new.texts.measures.items (ready a done h) c.in_ok-index.index (within a) (stands a)
    c.index_mut-measure.result.now c.index_mut-measure.ensures.value _ refl refl refl

pub overflow_cast-index : goal.overflow_cast-index
overflow_cast-index c =
    let a = (goal.at.overflow_cast-index c).After-index_mut-measure in
    let g = c.requires.given in
    let more = turned a g.0 c.args.texts.now.order.items g.3 in
    omega (
      arith,
      within a,
      more.few,
      length_push c.args.texts.now.order.items c.in_ok-index.index,
      ap length g.3.texts,
      length-map c.args.texts.now.order.items
          (indexed_text (nows c.args.texts.now.distinct.keys)),
      strings_few g.0,
      g.1,
    )

pub returns-clause-turns : goal.returns-clause-turns
returns-clause-turns c = λ done h.
    let a = (goal.at.returns-clause-turns c).After-index_mut-measure in
    subst (AreTurns (done ++ c.args.text.now ∷ []) (nows c.if-is_new.texts.distinct.keys))
    (sym (c.in_ok-push-2.ensures.items
    ∙ (λ j. order_is a j ++ c.in_ok-index.index ∷ [])))
    (turned a done c.args.texts.now.order.items h)
