use Rattle.std.proofs.Common.{◌≡◌, ◌<◌, ◌∷◌, ◌++◌, [], filter, ap, sym, ◌∙◌, take, arith, List}
use Rattle.std.proofs.Common.{ℕ, Bor, get_or, ◌+◌, true, false, Bool, cond, append-nil, length}
use Rattle.std.proofs.lemmas.List.{take_all, map_push, get_or-map, length-map, get_or_default}
use Rattle.std.proofs.lemmas.List.Elements.{filter-append}
use Rattle.resb_pool.specs.Plan.{nows}
use Rattle.resb_pool.proofs.TextLoops.{blank, nows-take}
use Rattle.resb_write.specs.Inner.KeyEnds.{is_own}
use Rattle.resb_write.proofs.EndKeys.{numbered_end, many_numbers}
use Rattle.resb_write.proofs.end_keys.own_keys.Goals as goal
use Rattle.resb_write.proofs.end_keys.own_keys.Goals.{then-is_own+in_ok-push, else-is_own}

pub loop-at-preserved : goal.loop-at-preserved
loop-at-preserved c = λ js T place h n.
    let xs = c.args.used.now.keys.items in
    let items = c.deref-key-items.result.now in
    let ns = c.args.used.now.numbers.items in
    let first = λ (y : Bor (List ℕ)). y.now in
    let i = c.loop-at.at in
    let is : items ≡ xs = c.deref-key-items.ensures.value in
    let l : i < length xs = omega (arith, c.loop-at-test.true, ap length is) in
    let m : i < length (nows xs) = omega (arith, l, length-map xs first) in
    let k = (get_or items i blank).now in
    let here : k ≡ get_or (nows xs) i [] =
    ap (λ (z : List (Bor (List ℕ))). (get_or z i blank).now) is
    ∙ sym (get_or-map first xs i blank [] l) in
    let passes = is_own place js in
    let old = filter passes (nows (take i xs)) in
    let tells = c.is_own.ensures js place (numbered_end place js T c.args.ends.now ns (nows xs) h n
    i m _ (c.index.ensures ∙ get_or_default ns i c.index.result.now 0
    (omega (arith, m, many_numbers T ns (nows xs) n))) _ here _) in
    let grown = λ (z : List (Bor (List ℕ))). nows (take i xs) ++ (get_or z i blank).now ∷ [] in
    let next : filter passes (grown items) ≡ filter passes (nows (take (i + 1) xs)) =
    ap (λ (z : List (Bor (List ℕ))). filter passes (grown z)) is
    ∙ ap (filter passes) (sym (nows-take xs i blank l)) in
    let more : (b : Bool) → passes k ≡ b
    → old ++ cond b (k ∷ []) [] ≡ filter passes (nows (take (i + 1) xs)) =
    λ b e. ap (λ a. old ++ cond a (k ∷ []) []) (sym e)
    ∙ sym (filter-append passes (nows (take i xs)) (k ∷ [])) ∙ next in
    elim c.if-is_own.branch [
      | then-is_own+in_ok-push w ↦ ap (λ v. nows v.items) w.own-is
          ∙ ap nows w.in_ok-push.ensures.items
          ∙ map_push first c.loop-at.own.items (get_or items i blank)
          ∙ ap (λ l. l ++ k ∷ []) (c.loop-at.invariant js T place h n)
          ∙ more true (sym tells ∙ w.if-is_own.true)
      | else-is_own w ↦ ap (λ v. nows v.items) w.own-is ∙ c.loop-at.invariant js T place h n
          ∙ sym (append-nil old) ∙ more false (sym tells ∙ w.if-is_own.false)
    ]

pub returns : goal.returns
returns c = λ js T place h n. c.loop-at.invariant js T place h n
    ∙ ap (λ l. filter (is_own place js) (nows l))
    (take_all c.loop-at.at c.args.used.now.keys.items
    (omega (arith, c.loop-at-test.false, ap length c.deref-key-items.ensures.value)))
