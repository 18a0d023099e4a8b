use Rattle.std.proofs.Common.{◌≡◌, ◌<◌, ℕ, List, Bor, length, get_or, take, sym, ◌∙◌, ap, subst}
use Rattle.std.proofs.Common.{arith}
use Rattle.std.proofs.Common.{refl}
use Rattle.std.specs.Prelude.{slice_index}
use Rattle.std.proofs.lemmas.List.{get_or_default}
use Rattle.resb_pool.specs.Plan.{nows}
use Rattle.resb_pool.specs.Inner.Firsts.{IsFirst}
use Rattle.resb_pool.specs.Inner.Placing.{indexed_text}
use Rattle.resb_pool.specs.Inner.Listing.{IsListing}
use Rattle.resb_pool.specs.declared.listed_texts.Listing.{Listing}
use Rattle.resb_pool.proofs.Interning.{count_is, count_fits}
use Rattle.resb_pool.proofs.ListingLemmas.{IsNext, known_next, new_next, listed_on}
use Rattle.resb_pool.proofs.listed_texts.list_next.Goals as goal
use Rattle.resb_pool.proofs.listed_texts.list_next.Goals.{After-index_mut-measure}
use Rattle.resb_pool.proofs.listed_texts.list_next.Goals.{then-first-number}
use Rattle.resb_pool.proofs.listed_texts.list_next.Goals.{else-first-number+in_ok-push}

first_is : (c : After-index_mut-measure) (xs : List (Bor (List ℕ))) (fs : List ℕ)
    → IsListing xs fs c.args.number c.args.list.now → c.args.number < length xs
    → c.index.result.now ≡ get_or c.args.list.now.order.items c.args.number 0
first_is c xs fs h less =
    c.index.ensures
    ∙ get_or_default c.args.list.now.order.items c.args.number c.index.result.now 0
    (omega (arith, less, h.order_len))

next : (c : After-index_mut-measure) (xs : List (Bor (List ℕ))) (fs : List ℕ)
    → IsListing xs fs c.args.number c.args.list.now → c.args.number < length xs
    → c.args.text.now ≡ indexed_text (nows xs) c.args.number
    → IsFirst (nows xs) c.args.number (slice_index fs c.args.number)
    → IsNext xs fs c.args.number c.args.text.now c.if-first-number.list c.if-first-number.index
next c xs fs h less is first =
    let n = c.args.number in
    let l = c.args.list.now in
    let os = l.order.items in
    let t = c.args.text in
    let k = first_is c xs fs h less in
    elim c.if-first-number.branch [
      | then-first-number w ↦
          let b : get_or os n 0 < n = omega (arith, w.if-first-number.true, k) in
          let i : c.if-first-number.index ≡ get_or os (get_or os n 0) 0 = w.index-is
          ∙ w.index-then-first-number.ensures
          ∙ get_or_default os c.index.result.now w.index-then-first-number.result.now 0
          (omega (arith, w.if-first-number.true, less, h.order_len))
          ∙ ap (λ j. get_or os j 0) k in
          subst (λ (z : Listing). IsNext xs fs n t.now z c.if-first-number.index) (sym w.list-is)
          (subst (IsNext xs fs n t.now l) (sym i)
          (known_next xs fs n l h less first t c.utf8.text is b))
      | else-first-number+in_ok-push w ↦
          let r = w.of.ensures in
          subst (IsNext xs fs n t.now c.if-first-number.list) (sym w.index-is)
          (new_next xs fs n l h less first t c.utf8.text is
          (omega (arith, w.if-first-number.false, k)) w.of.result r.count r.size r.total
          c.if-first-number.list (ap (λ (z : Listing). z.strings.items) w.list-is)
          (ap (λ (z : Listing). z.count) w.list-is)
          (ap (λ (z : Listing). z.measures.items) w.list-is ∙ w.in_ok-push.ensures.items)
          (ap (λ (z : Listing). z.order.items) w.list-is))
    ]

pub overflow_add-measure : goal.overflow_add-measure
overflow_add-measure c =
    let a = (goal.at.overflow_add-measure c).After-index_mut-measure in
    let g = c.requires.given in
    let is = (next a g.0 g.1 g.2 g.3 g.4 g.6).taken in
    let small = count_fits (nows (take c.args.number g.0)) c.args.text.now
    (nows (take c.if-first-number.list.count c.if-first-number.list.strings.items))
    c.if-first-number.list.measures.items is.ready c.if-first-number.index is.within is.stands
    c.index_mut-measure.result.now c.index_mut-measure.ensures.value c.requires.short g.5 in
    omega (arith, small)

pub returns-clause-count : goal.returns-clause-count
returns-clause-count c =
    let a = (goal.at.returns-clause-count c).After-index_mut-measure in
    let g = c.requires.given in
    let is = (next a g.0 g.1 g.2 g.3 g.4 g.6).taken in
    count_is (nows (take c.args.number g.0)) c.args.text.now
    (nows (take c.if-first-number.list.count c.if-first-number.list.strings.items))
    c.if-first-number.list.measures.items is.ready c.if-first-number.index is.within is.stands
    c.index_mut-measure.result.now c.index_mut-measure.ensures.value

pub returns-clause-lists : goal.returns-clause-lists
returns-clause-lists c = λ xs fs h less is first.
    let a = (goal.at.returns-clause-lists c).After-index_mut-measure in
    listed_on xs fs c.args.number c.args.text.now c.if-first-number.list c.if-first-number.index
    less is h.firsts_len (next a xs fs h less is first) c.index_mut-measure.result.now _
    c.index_mut-measure.ensures.value refl refl refl
