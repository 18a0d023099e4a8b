-- Which strings of a bundle are slices of the text that it was read from, among them the paths of
-- aliases: all but those that the text says in several pieces or with an escape. These are put
-- together, since what they say doesn't stand where they stand.
use Rattle.std.specs.Prelude.{◌≡◌, ℕ, Bool, true, not, List}
use Rattle.std.specs.Cow.{cow_str_bytes}
use Rattle.std.specs.declared.alloc.Global.{Global}
use Rattle.std.specs.declared.borrow.CowStr.{CowStr}
use Rattle.resb_tree.specs.Borrowing.{is_slice, are_slice, each_leaf}
use Rattle.resb_tree.specs.Bundle.{name_part, root_part}
use Rattle.resb_tree.specs.declared.resource.Resource.{Resource}
use Rattle.resb_tree.specs.declared.bundle.ResourceBundle.{ResourceBundle}
use Rattle.resb_icu_grammar.specs.Words.{Text, Verbatim}

-- the text says these bytes somewhere in several pieces or with an escape
pub record IsPutTogether (text bytes : List ℕ) : Type 0 where
  pub from : ℕ
  pub to : ℕ
  pub says : Text text from to bytes
  pub not_verbatim : Verbatim text from to bytes → ⊥

-- a test that each slice passes, and each string that the text puts together
pub record PassesWhatIsSaid (text : List ℕ) (test : CowStr Global → Bool) : Type 0 where
  pub slices : (s : CowStr Global) → is_slice s ≡ true → test s ≡ true
  pub built : (s : CowStr Global) → IsPutTogether text (cow_str_bytes s) → test s ≡ true

-- each String and each Alias's path in the resource passes the test; each Binary is owned
abbrev pub passes : (CowStr Global → Bool) → Resource → Bool
passes test = each_leaf test (λ b. not (are_slice b))

-- each String and each Alias's path in the resource is a slice, or the text puts it together: it
-- passes each test that those pass; and each Binary is owned
abbrev pub KeepsSlices : List ℕ → Resource → Type 0
KeepsSlices text r =
    (test : CowStr Global → Bool) → PassesWhatIsSaid text test → passes test r ≡ true

-- a bundle's name is a slice; so is each String and each Alias's path in its tree that the text
-- doesn't put together
pub record IsBorrowedFrom (text : List ℕ) (b : ResourceBundle) : Type 0 where
  pub name : is_slice (name_part b) ≡ true
  pub root : KeepsSlices text (root_part b)
