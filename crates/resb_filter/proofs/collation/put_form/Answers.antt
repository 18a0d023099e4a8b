use Rattle.std.proofs.Common.{rules, ◌≡◌, ◌∙◌, IfOk, refl, subst}
use Rattle.std.specs.declared.borrow.CowSlice.TheVariants.{Borrowed}
use Rattle.resb_tree.specs.Tree.{binary}
use Rattle.resb_tree.specs.View.{tree_of}
use Rattle.resb_tree.specs.declared.resource.Resource.TheVariants.{Binary}
use Rattle.resb_tree.specs.declared.resource.Resource.{the_lemmas}
use Rattle.resb_draft.specs.Drafts.{IsMade}
use Rattle.resb_filter.specs.Inner.Entries.{AreEntries}
use Rattle.resb_filter.proofs.CollationLemmas.{formed}
use Rattle.resb_filter.proofs.collation.put_form.Goals as goal

pub returns-clause-made : goal.returns-clause-made
returns-clause-made c =
    let d = c.args.draft.now in
    let n = c.args.number in
    let are : AreEntries d n c.in-Some.entries.items =
    rw c.in-Some.is at c.in_ok-entries.ensures in
    let is : tree_of (Binary (Borrowed c.args.form)) ≡ binary c.args.form.now =
    search (rules, the_lemmas) in
    let made = c.in_ok-leaf.ensures.made in
    let both = formed d c.push_leaf.new.self n c.in-Some.entries.items c.deref.result.now _
    c.in_ok-leaf.leaf c.args.form.now are c.in_ok-leaf.ensures.keeps (made.0 ∙ is, made.1) refl
    (c.deref.ensures.value ∙ c.in_ok-push.ensures.items) in
    subst (λ u. IfOk c.push_table.result (λ m. IsMade c.push_table.new.draft m u)) both.0
    (c.push_table.ensures.made both.1)
