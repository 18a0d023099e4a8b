use Rattle.std.proofs.Common.{◌≡◌, ◌<◌, Bool, true, false, nat_lt, reverse, sym, ◌∙◌, arith, refl}
use Rattle.std.proofs.lemmas.Bool.Decides.{nat_tests}
use Rattle.std.specs.Bool.{MatchBool}
use Rattle.std.specs.declared.cmp.Ordering.TheVariants.{Less, Greater}
use Rattle.resb_pool.specs.Order.{end_last_cmp}
use Rattle.resb_lent.proofs.NumberedEnds.{less_ends, greater_ends}
use Rattle.resb_lent.proofs.ends.is_behind.Goals as goal

pub returns-then-left_number-right_number : goal.returns-then-left_number-right_number
returns-then-left_number-right_number c = by (nat_lt c.args.right_number c.args.left_number) refl
  where
    by : (b : Bool) → nat_lt c.args.right_number c.args.left_number ≡ b
        → MatchBool b (end_last_cmp (reverse c.args.left.now) (reverse c.args.right.now) ≡ Greater)
        (end_last_cmp (reverse c.args.left.now) (reverse c.args.right.now) ≡ Greater → ⊥)
    by true e =
        let more : c.args.right_number < c.args.left_number = grind (arith, nat_tests, e) in
        greater_ends c.args.left.now c.args.right.now c.requires.left.1 c.requires.right.1
        (omega (arith, more, c.requires.left.0, c.requires.right.0))
    by false e = λ g.
        let less : c.args.left_number < c.args.right_number =
        grind (arith, nat_tests, e, c.if-left_number-right_number.true) in
        let f : Less ≡ Greater =
        sym (less_ends c.args.left.now c.args.right.now c.requires.left.1 c.requires.right.1
        (omega (arith, less, c.requires.left.0, c.requires.right.0))) ∙ g in cc
