-- Which strings are slices of the text, so that none of them was copied, and which bytes are their
-- own, since no text holds the bytes that its hex digits spell.
use Rattle.std.specs.Prelude.{◌≡◌, Bool, true, not}
use Rattle.resb_tree.specs.Borrowing.{is_slice, are_slice, each_leaf}
use Rattle.resb_tree.specs.Bundle.{name_part, root_part}
use Rattle.resb_tree.specs.declared.resource.Resource.{Resource}
use Rattle.resb_tree.specs.declared.bundle.ResourceBundle.{ResourceBundle}

-- each String in the resource is borrowed, and each Binary is owned
abbrev pub borrows_strings : Resource → Bool
borrows_strings = each_leaf is_slice (λ b. not (are_slice b))

-- a bundle's name and each String of its tree are borrowed, and each Binary of it is owned
pub record IsBorrowed (b : ResourceBundle) : Type 0 where
  pub name : is_slice (name_part b) ≡ true
  pub strings : borrows_strings (root_part b) ≡ true
