-- What the laws of the text form say, and those of each form, over what a text of it is.
use Rattle.std.specs.Prelude.{◌≡◌, ℕ, Bool, true, false, nat_eq, List, length, Contains}
use Rattle.std.specs.List.{IsDistinct}
use Rattle.std.specs.Cmp.Lexicographic.{pointwise}
use Rattle.resb_tree.specs.Tree.{Tree}
use Rattle.resb_tree.specs.Keys.{is_key}
use Rattle.resb_tree.specs.Aliases.{has_alias}
use Rattle.resb_grammar.specs.Items.{Item, a_table, tree_in, keys_in}
use Rattle.resb_grammar.specs.BundleText.{BundleText, first_places}
use Rattle.resb_grammar.specs.Machine.{Title, At, finished}
use Rattle.resb_grammar.specs.Limit.{Makes}
use Rattle.resb_grammar.specs.declared.limit.Limit.{Limit}
use Rattle.resb_grammar.specs.declared.limit.Weights.{Weights}

-- which texts are bundles of a form, each of a name, a flag, a tree and its keys
abbrev pub Texts : Type 1
Texts = List ℕ → List ℕ → Bool → Tree → List (List ℕ) → Type 0

-- at which place a reading of a text gets stuck, by what is expected there
abbrev pub Sticking : Type 0 → Type 1
Sticking X = List ℕ → ℕ → X → Type 0

-- a text has at most one name, fallback, tree and list of keys
abbrev pub OneText : Texts → Type 0
OneText IsText =
    (text name other : List ℕ) (fallback enabled : Bool) (tree root : Tree)
    (keys ks : List (List ℕ))
    → IsText text name fallback tree keys → IsText text other enabled root ks
    → (name ≡ other) × (fallback ≡ enabled) × (tree ≡ root) × (keys ≡ ks)

-- a reading that gets stuck does so at one place, where one thing is expected
abbrev pub StuckInOneWay : {X : Type 0} → Sticking X → Type 0
StuckInOneWay {X} IsStuck =
    (text : List ℕ) (at place : ℕ) (x y : X) → IsStuck text at x → IsStuck text place y
    → (at ≡ place) × (x ≡ y)

-- a text is no bundle of a form, of any name, fallback, tree and keys
abbrev pub IsNone : Texts → List ℕ → Type 0
IsNone IsText text =
    (name : List ℕ) (fallback : Bool) (tree : Tree) (keys : List (List ℕ))
    → IsText text name fallback tree keys → ⊥

-- a text whose reading gets stuck is no bundle
abbrev pub StuckIsNoText : {X : Type 0} → Sticking X → Texts → Type 0
StuckIsNoText {X} IsStuck IsText =
    (text : List ℕ) (at : ℕ) (x : X) → IsStuck text at x → IsNone IsText text

-- a text whose reading goes on to its end is the bundle of the entries read
abbrev pub ReadToTheEndIsABundle : Type 0
ReadToTheEndIsABundle =
    (text name : List ℕ) (fallback : Bool) (items : List Item)
    → At text (length text) (finished (record { name = name; fallback = fallback }) items)
    → BundleText text name fallback (tree_in a_table items) (first_places (keys_in a_table items))

-- the reading of a bundle's text goes on to its end
abbrev pub ABundleIsReadToTheEnd : Type 0
ABundleIsReadToTheEnd =
    (text name : List ℕ) (fallback : Bool) (tree : Tree) (keys : List (List ℕ))
    → BundleText text name fallback tree keys
    → (items : List Item)
    × At text (length text) (finished (record { name = name; fallback = fallback }) items)

-- no two of a text's keys are equal
abbrev pub KeysAreDistinct : Texts → Type 0
KeysAreDistinct IsText =
    (text name : List ℕ) (fallback : Bool) (tree : Tree) (keys : List (List ℕ))
    → IsText text name fallback tree keys → IsDistinct (pointwise nat_eq) keys

-- each key of a table of a text's tree is among the text's keys
abbrev pub KeysAreListed : Texts → Type 0
KeysAreListed IsText =
    (text name : List ℕ) (fallback : Bool) (t : Tree) (ks : List (List ℕ))
    → IsText text name fallback t ks → (k : List ℕ) → is_key k t ≡ true → Contains ks k

-- the tree of a bundle's text has no alias, since this form has no way to write one
abbrev pub BundleTextsHaveNoAlias : Type 0
BundleTextsHaveNoAlias =
    (text name : List ℕ) (fallback : Bool) (tree : Tree) (keys : List (List ℕ))
    → BundleText text name fallback tree keys → has_alias tree ≡ false

-- what the whole reading of a text makes is one number of bytes, whatever the weights
abbrev pub OneMaking : Type 0
OneMaking =
    (w : Weights) (text : List ℕ) (n m : ℕ) (title other : Title) (xs ys : List Item)
    → Makes w text n (length text) (finished title xs)
    → Makes w text m (length text) (finished other ys) → n ≡ m

-- a bundle's text is read to its end, and its reading makes some number of bytes
abbrev pub BundlesAreMade : Type 0
BundlesAreMade =
    (w : Weights) (text name : List ℕ) (fallback : Bool) (tree : Tree) (keys : List (List ℕ))
    → BundleText text name fallback tree keys
    → (items : List Item) × (n : ℕ)
    × Makes w text n (length text) (finished (record { name = name; fallback = fallback }) items)

-- where the whole reading of a text makes no more than a limit, no part of it makes more
abbrev pub WithinIsNeverMore : (List ℕ → Limit → Type 0) → (List ℕ → Limit → Type 0) → Type 0
WithinIsNeverMore IsWithin IsMore =
    (text : List ℕ) (limit : Limit) → IsWithin text limit → IsMore text limit → ⊥
