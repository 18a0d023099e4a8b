use Rattle.std.proofs.Common.{sym, subst, ◌++◌, ◌∷◌, []}
use Rattle.resb_write.specs.Inner.Numbered.{AreNumberedKeys}
use Rattle.resb_write.proofs.numbered_keys.NumberedKeys.add.Goals as goal

pub returns : goal.returns
returns c = λ ks h.
    subst (λ ns. AreNumberedKeys c.join.new.distinct ns (ks ++ c.args.key.now ∷ []))
    (sym c.in_ok-push.ensures.items) (c.in_ok-number.ensures _ ks h)
