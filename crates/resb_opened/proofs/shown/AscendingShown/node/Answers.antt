use Rattle.std.proofs.Common.{rules, ◌∙◌, ap, sym, subst, Bor, List, ℕ}
use Rattle.resb_tree.specs.Tree.{array}
use Rattle.resb_format.specs.Bytes.{words_of}
use Rattle.resb_format.specs.Parts.{parts_in}
use Rattle.resb_walk.specs.Inner.Members.{member_of, members_of, keyed_members}
use Rattle.resb_shown.specs.Shown.{AreWords}
use Rattle.resb_opened.specs.Handles.{tree_at, members_in}
use Rattle.resb_opened.proofs.AheadLemmas.{table_pairs, table_is, table_is_map}
use Rattle.resb_opened.proofs.InsideLemmas.{members_ordered, values_ordered, keys_ordered}
use Rattle.resb_opened.proofs.InsideLemmas.{array_again}
use Rattle.resb_opened.proofs.shown.AscendingShown.node.Goals as goal

pub at-requires-clause-ordered : goal.at-requires-clause-ordered
at-requires-clause-ordered c =
    let self = c.args.self.handle in
    members_ordered (parts_in self.file.now.parts) (member_of self.at) (tree_at self)
    self.stands.1 (members_of c.in-List.rest) c.in-List.ensures.content c.in-List.ensures.holds
    (self.ordered c.args.self.ascends)

pub at-requires-in-Table-clause-stand : goal.at-requires-in-Table-clause-stand
at-requires-in-Table-clause-stand c =
    let self = c.args.self.handle in
    let p = parts_in self.file.now.parts in
    let es = keyed_members c.in-Table.rest in
    table_pairs p es (tree_at self) c.in-Table.ensures.holds.1
    (keys_ordered p (member_of self.at) (tree_at self) self.stands.1 es
    c.in-Table.ensures.content c.in-Table.ensures.holds (self.ordered c.args.self.ascends))

pub at-requires-in-Table-clause-ordered : goal.at-requires-in-Table-clause-ordered
at-requires-in-Table-clause-ordered c =
    let self = c.args.self.handle in
    values_ordered (parts_in self.file.now.parts) (member_of self.at) (tree_at self)
    self.stands.1 (keyed_members c.in-Table.rest) c.in-Table.ensures.content
    c.in-Table.ensures.holds (self.ordered c.args.self.ascends)

pub returns-in-List : goal.returns-in-List
returns-in-List c =
    let self = c.args.self.handle in
    let holds = c.in-List.ensures.holds in
    array_again (tree_at self) holds.0
    ∙ ap array (sym (c.at.ensures (members_in (tree_at self)) holds.1))

pub returns-in-Table : goal.returns-in-Table
returns-in-Table c =
    let self = c.args.self.handle in
    let p = parts_in self.file.now.parts in
    let es = keyed_members c.in-Table.rest in
    let holds = c.in-Table.ensures.holds in
    let ascend = keys_ordered p (member_of self.at) (tree_at self) self.stands.1 es
    c.in-Table.ensures.content holds (self.ordered c.args.self.ascends) in
    let pairs = table_pairs p es (tree_at self) holds.1 ascend in
    rw (c.at-in-Table.ensures pairs.0 pairs.1) (
      table_is p es (tree_at self) holds.1 ascend holds.0,
      table_is_map p es (tree_at self) holds.1 ascend,
    )

pub returns-in-Leaf-Numbers : goal.returns-in-Leaf-Numbers
returns-in-Leaf-Numbers c = (
  words_of c.in-Leaf-Numbers.bytes.now,
  search rules,
  subst (λ (b : Bor (List ℕ)). AreWords (words_of b.now)) c.in-Leaf-Numbers.bytes-is
      c.spell_words.ensures,
)
