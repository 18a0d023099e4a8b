-- An iteration keeps the next key where the set has it.
use Rattle.std.proofs.Common.{◌≡◌, ◌+◌, ℕ, List, [], ◌∷◌, ◌++◌, true, false, cond, filter, take}
use Rattle.std.proofs.Common.{get_or, sym, ◌∙◌, ap, Bool, length, ◌<◌, append-nil}
use Rattle.std.specs.String.{string_bytes}
use Rattle.std.proofs.lemmas.List.{map_push}
use Rattle.std.proofs.lemmas.List.Elements.{filter_more}
use Rattle.resb_layout.specs.KeyBlock.{is_among}
use Rattle.resb_pool.specs.Plan.{nows}
use Rattle.resb_pool_maker.specs.Holding.{bytes_each}
use Rattle.resb_pool_maker.proofs.gathering.keys_among.Goals as goal
use Rattle.resb_pool_maker.proofs.gathering.keys_among.Goals.{then-is_in+in_ok-copy+in_ok-push}
use Rattle.resb_pool_maker.proofs.gathering.keys_among.Goals.{else-is_in}

-- what a key more adds
kept : (p : List ℕ → Bool) (xs : List (List ℕ)) (i : ℕ) (x : List ℕ) → x ≡ get_or xs i x
    → i < length xs → p x ≡ true → filter p (take (i + 1) xs) ≡ filter p (take i xs) ++ x ∷ []
kept p xs i x is l t =
    filter_more p xs i x l
    ∙ ap (λ y. filter p (take i xs) ++ cond (p y) (y ∷ []) []) (sym is)
    ∙ ap (λ b. filter p (take i xs) ++ cond b (x ∷ []) []) t

left : (p : List ℕ → Bool) (xs : List (List ℕ)) (i : ℕ) (x : List ℕ) → x ≡ get_or xs i x
    → i < length xs → p x ≡ false → filter p (take (i + 1) xs) ≡ filter p (take i xs)
left p xs i x is l t =
    filter_more p xs i x l
    ∙ ap (λ y. filter p (take i xs) ++ cond (p y) (y ∷ []) []) (sym is)
    ∙ ap (λ b. filter p (take i xs) ++ cond b (x ∷ []) []) t ∙ append-nil (filter p (take i xs))

pub loop-key-preserved : goal.loop-key-preserved
loop-key-preserved c =
    let xs = c.args.list.now in
    let i = c.loop-key.key-index in
    let x = c.key-item.result in
    let p = is_among (nows c.args.set.now.keys) in
    let tells = sym (c.is_in.ensures ∙ ap p c.as_str-text.ensures.value) in
    elim c.if-is_in.branch [
      | then-is_in+in_ok-copy+in_ok-push w ↦
          ap bytes_each (ap (λ v. v.items) w.found-is ∙ w.in_ok-push.ensures.items)
          ∙ map_push string_bytes c.loop-key.found.items w.in_ok-copy.copy
          ∙ (λ j. c.loop-key.invariant j
          ++ (w.in_ok-copy.ensures.ok ∙ c.as_str-text.ensures.value) j ∷ [])
          ∙ sym (kept p xs i x c.key-item.is c.loop-key-test.true (tells ∙ w.if-is_in.true))
      | else-is_in w ↦
          ap (λ v. bytes_each v.items) w.found-is ∙ c.loop-key.invariant
          ∙ sym (left p xs i x c.key-item.is c.loop-key-test.true (tells ∙ w.if-is_in.false))
    ]
