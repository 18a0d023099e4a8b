use Rattle.std.proofs.Common.{◌≡◌, refl, sym, ◌∙◌, ap, inl, inr, false, true, ℕ}
use Rattle.std.proofs.lemmas.Bool.{false≢true, cases_Bool}
use Rattle.resb_swap.specs.Numbers.{Numbered}
use Rattle.std.proofs.lemmas.Result.{err_from_is_err_and}
use Rattle.std.proofs.lemmas.List.Elements.{Contains-push}
use Rattle.resb_swap.specs.Bodies.{is_start}
use Rattle.resb_swap.specs.Collation.{is_collation, is_whole}
use Rattle.resb_swap.specs.Roles.{role_at}
use Rattle.resb_swap.specs.Inner.Seen.{seen}
use Rattle.resb_swap.proofs.WalkLemmas.{enters, passes, owning_fails, first_inside, members_inside}
use Rattle.resb_swap.proofs.WalkLemmas.{binary_inside, starts}
use Rattle.resb_swap.proofs.walk.enter.Goals as goal

whole_else : (f : Numbered) (p : ℕ) → (is_whole f p ≡ false → ⊥) → is_whole f p ≡ true
whole_else f p h = elim (cases_Bool (is_whole f p)) [ inl e ↦ e | inr e ↦ absurd (h e) ]

pub returns-then-is_free-clause-ok : goal.returns-then-is_free-clause-ok
returns-then-is_free-clause-ok c = let t = sym c.has_type.ensures ∙ c.if-not-has_type.false in
    passes _ _ _ c.args.word c.requires (
      t,
      inl (sym c.of_word-role.ensures ∙
          c.if-is_free.ensures.0 refl),
    )

pub returns-then-is_claimed-clause-ok : goal.returns-then-is_claimed-clause-ok
returns-then-is_claimed-clause-ok c =
    let h = c.if-is_claimed.ensures.0 refl in
    passes _ _ _ c.args.word c.requires (
      sym c.has_type.ensures ∙ c.if-not-has_type.false,
      inr (ap (role_at c.args.roles.now) (sym c.place_of-place.ensures) ∙ h ∙
          c.of_word-role.ensures),
    )

pub own-requires-clause-start : goal.own-requires-clause-start
own-requires-clause-start c =
    ap is_start c.of_word-role.ensures ∙ starts c.args.word (λ e. false≢true
    (c.if-is_free.ensures.1 (c.of_word-role.ensures ∙ e)))

pub returns-in_err-own-clause-err : goal.returns-in_err-own-clause-err
returns-in_err-own-clause-err c =
    let p = err_from_is_err_and c.from_residual.result c.from_residual.ensures.1 in
    rw (p.1, p.2) (owning_fails _ _ _ c.args.word _ _ c.in_err-own.field-0.0 c.of_word-role.ensures
    c.place_of-place.ensures c.requires c.in_err-own.ensures.err)

pub is_broken-requires-clause-first : goal.is_broken-requires-clause-first
is_broken-requires-clause-first c =
    first_inside _ _ _ _ _ c.requires.each c.in_ok-own.ensures.ok (λ e. false≢true
    (c.if-is_free.ensures.1 e))

pub is_broken-requires-clause-inside : goal.is_broken-requires-clause-inside
is_broken-requires-clause-inside c = λ is long.
    binary_inside _ _ _ _ _ c.requires.each c.in_ok-own.ensures.ok is long

pub returns-then-is_broken-clause-err : goal.returns-then-is_broken-clause-err
returns-then-is_broken-clause-err c =
    let h = c.if-is_broken.ensures.0 refl in (
      c.args.word,
      (
        c.requires.waiting c.args.word (Contains-push _ _),
        sym c.of_word-role.ensures ∙
            h.0,
        ap (is_collation (seen c.args.body)) (sym c.place_of-place.ensures) ∙ h.1,
        ap (is_whole (seen c.args.body)) (sym c.place_of-place.ensures) ∙ h.2,
      ),
    )

pub add_members-requires-clause-first : goal.add_members-requires-clause-first
add_members-requires-clause-first c =
    first_inside _ _ _ _ _ c.requires.each c.in_ok-own.ensures.ok (λ e. false≢true
    (c.if-is_free.ensures.1 e))

pub add_members-requires-clause-inside : goal.add_members-requires-clause-inside
add_members-requires-clause-inside c = λ k lt.
    members_inside _ _ _ _ _ c.requires.each c.in_ok-own.ensures.ok k lt

pub returns-clause-ok : goal.returns-clause-ok
returns-clause-ok c = enters _ _ _ _ _ c.args.word _ _ c.of_word-role.ensures
    c.place_of-place.ensures c.requires (sym c.has_type.ensures ∙ c.if-not-has_type.false) (λ e.
    false≢true (c.if-is_free.ensures.1 e))
    c.in_ok-own.ensures.ok (λ is t. whole_else _ _ (λ w. false≢true (c.if-is_broken.ensures.1
    (is, t, w)))) c.in_ok-add_members.ensures.added
