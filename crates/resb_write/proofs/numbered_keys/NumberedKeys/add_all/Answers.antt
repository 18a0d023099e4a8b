-- An iteration adds the next key.
use Rattle.std.proofs.Common.{List, ℕ, [], ◌∷◌, ◌++◌, ◌∙◌, Bor, take, get_or, sym, ap, subst, arith}
use Rattle.std.proofs.Common.{append_assoc, append-nil}
use Rattle.resb_pool.specs.Plan.{nows}
use Rattle.resb_pool.proofs.TextLoops.{nows-take}
use Rattle.resb_write.specs.Inner.Numbered.{NumbersKeys}
use Rattle.resb_write.proofs.numbered_keys.NumberedKeys.add_all.Goals as goal

pub loop-key-init : goal.loop-key-init
loop-key-init c = λ ks h. subst (NumbersKeys c.args.self.now) (sym (append-nil ks)) h

pub loop-key-preserved : goal.loop-key-preserved
loop-key-preserved c = λ ks h.
    let xs = c.args.list.now in
    let i = c.loop-key.key-index in
    let d : Bor (List ℕ) = record { ref_ptr = (0, 0); now = [] } in
    let k = get_or xs i d in
    subst (NumbersKeys c.add.new.self)
    (append_assoc ks (nows (take i xs)) (k.now ∷ [])
    ∙ ap (λ l. ks ++ l) (sym (nows-take xs i d (omega arith))))
    (c.in_ok-add.ensures (ks ++ nows (take i xs)) (c.loop-key.invariant ks h))
