-- Each resource is known by its node; a table's keys ascend, as its map says.
use Rattle.std.specs.Cow.{cow_str_bytes}
use Rattle.std.proofs.Common.{rules, subst}
use Rattle.resb_tree.specs.declared.resource.Resource.{the_lemmas}
use Rattle.resb_tree.proofs.MapsLemmas.{IsMap-view}
use Rattle.resb_shown.specs.Shown.{AreWords}
use Rattle.resb_shown.proofs.resource.RefResourceShown.node.Goals as goal

pub returns-in-String : goal.returns-in-String
returns-in-String c = (cow_str_bytes c.in-String.field-0, search (rules, the_lemmas))

pub returns-in-Alias : goal.returns-in-Alias
returns-in-Alias c = (cow_str_bytes c.in-Alias.field-0, search (rules, the_lemmas))

pub returns-in-Table : goal.returns-in-Table
returns-in-Table c = (
  search (rules, the_lemmas, c.iter-in-Table.ensures),
  rw c.iter-in-Table.ensures.rest
      (IsMap-view c.in-Table.table.entries c.iter-in-Table.ensures.ordered),
)

pub returns-in-IntVector : goal.returns-in-IntVector
returns-in-IntVector c = (
  c.in-IntVector.numbers.items,
  search (rules, the_lemmas),
  subst AreWords c.deref-in-IntVector.ensures.value c.are_words.ensures,
)
