-- What a bundle is: its name, its root's tree and its flag.
use Rattle.std.specs.Prelude.{ℕ, List}
use Rattle.std.specs.Cow.{cow_str_bytes}
use Rattle.std.specs.declared.alloc.Global.{Global}
use Rattle.std.specs.declared.borrow.CowStr.{CowStr}
use Rattle.resb_tree.specs.Tree.{Tree}
use Rattle.resb_tree.specs.View.{tree_of}
use Rattle.resb_tree.specs.declared.bundle.ResourceBundle.{ResourceBundle}
use Rattle.resb_tree.specs.declared.resource.Resource.{Resource}

-- a bundle's name, as bytes
abbrev pub name_of : ResourceBundle → List ℕ
name_of b = cow_str_bytes b.name

-- the tree that a bundle's root stands for
abbrev pub root_of : ResourceBundle → Tree
root_of b = tree_of b.root

-- its name and its root as they were given, borrowed or owned
abbrev pub name_part : ResourceBundle → CowStr Global
name_part b = b.name

-- a bundle's root, as the resource that it is
abbrev pub root_part : ResourceBundle → Resource
root_part b = b.root
