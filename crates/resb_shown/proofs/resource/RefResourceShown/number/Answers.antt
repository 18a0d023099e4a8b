-- A vector's numbers are its tree's.
use Rattle.std.specs.Prelude.{◌≡◌, slice_get}
use Rattle.std.proofs.Common.{rules, ◌∙◌, ap, sym}
use Rattle.resb_tree.specs.Tree.{int_vector}
use Rattle.resb_tree.specs.View.{tree_of}
use Rattle.resb_tree.specs.declared.resource.Resource.{the_lemmas}
use Rattle.resb_shown.specs.Shown.{numbers_in}
use Rattle.resb_shown.proofs.NumbersLemmas.{looked_up}
use Rattle.resb_shown.proofs.resource.RefResourceShown.number.Goals as goal

pub returns-in-IntVector-clause-number : goal.returns-in-IntVector-clause-number
returns-in-IntVector-clause-number c =
    let own = c.deref.result.now in
    let e : tree_of c.args.self.now ≡ int_vector own = search (rules, the_lemmas) in
    c.copied.ensures ∙ looked_up own c.args.at c.get.result _ c.get.ensures.lookup.3
    c.get.ensures.lookup.1
    ∙ ap (λ t. slice_get (numbers_in t) c.args.at) (sym e)
