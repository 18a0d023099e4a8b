use Rattle.std.proofs.Common.{sym, ◌∙◌, ap}
use Rattle.resb_tree.specs.Tree.{string, alias}
use Rattle.resb_walk.specs.Inner.Members.{text_of_bytes, leaf_tree}
use Rattle.resb_opened.specs.Handles.{tree_at}
use Rattle.resb_opened.proofs.Utf16Lemmas.{string_leaf, alias_leaf}
use Rattle.resb_opened.proofs.handle.Handle.utf16.Goals as goal

pub returns-in-Leaf-Text : goal.returns-in-Leaf-Text
returns-in-Leaf-Text c =
    string_leaf c.spelled.result.now (tree_at c.args.self) c.spelled.ensures.units
    (c.in-Leaf-Text.ensures.holds ∙ ap leaf_tree c.in-Leaf-Text.field-0-is
    ∙ ap (λ bs. string (text_of_bytes bs)) (sym c.spelled.ensures.is))

pub returns-in-Leaf-Alias : goal.returns-in-Leaf-Alias
returns-in-Leaf-Alias c =
    alias_leaf c.spelled-in-Leaf-Alias.result.now (tree_at c.args.self)
    c.spelled-in-Leaf-Alias.ensures.units
    (c.in-Leaf-Alias.ensures.holds ∙ ap leaf_tree c.in-Leaf-Alias.field-0-is
    ∙ ap (λ bs. alias (text_of_bytes bs)) (sym c.spelled-in-Leaf-Alias.ensures.is))
