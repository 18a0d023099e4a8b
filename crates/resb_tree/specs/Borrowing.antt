-- Whether what a resource holds is borrowed or owned, by tests of its strings and its binaries.
--     is_slice s              the text is borrowed
--     are_slice b             the bytes are borrowed
--     each_leaf f g r         each String and Alias in the resource passes f, each Binary g
--     each_entry f g es       so does what stands in these entries
use Rattle.std.specs.Prelude.{ℕ, Bool, true, false, List, map}
use Rattle.std.specs.List.{list_all}
use Rattle.std.specs.declared.alloc.Global.{Global}
use Rattle.std.specs.declared.borrow.CowStr.{CowStr}
use Rattle.std.specs.declared.borrow.CowStr.TheVariants as text
use Rattle.std.specs.declared.borrow.CowSlice.{CowSlice}
use Rattle.std.specs.declared.borrow.CowSlice.TheVariants as bytes
use Rattle.resb_tree.specs.declared.resource.Resource.{Resource, fold-Resource}
use Rattle.resb_tree.specs.declared.resource.Resource.TheOpen.{Resource-F}

-- the text is borrowed
abbrev pub is_slice : CowStr Global → Bool
is_slice (text.Borrowed r) = true
is_slice (text.Owned s) = false

-- the bytes are borrowed
abbrev pub are_slice : CowSlice ℕ Global → Bool
are_slice (bytes.Borrowed r) = true
are_slice (bytes.Owned v) = false

-- each of them is true
abbrev pub all_true : List Bool → Bool
all_true = list_all (λ b. b)

-- one level, where it is known of each resource inside
abbrev pub leaf_step : (CowStr Global → Bool) → (CowSlice ℕ Global → Bool) → Resource-F Bool → Bool
leaf_step on_text on_bytes (Resource-F.String s) = on_text s
leaf_step on_text on_bytes (Resource-F.Alias s) = on_text s
leaf_step on_text on_bytes (Resource-F.Array v) = all_true v.items
leaf_step on_text on_bytes (Resource-F.Table m) = all_true (map (λ p. p.1) m.entries)
leaf_step on_text on_bytes (Resource-F.Binary b) = on_bytes b
leaf_step on_text on_bytes (Resource-F.Integer n) = true
leaf_step on_text on_bytes (Resource-F.IntVector v) = true

-- each String and each Alias in the resource passes the one test, each Binary the other
abbrev pub each_leaf : (CowStr Global → Bool) → (CowSlice ℕ Global → Bool) → Resource → Bool
each_leaf on_text on_bytes = fold-Resource Bool (leaf_step on_text on_bytes)

-- so does what stands in these entries
abbrev pub each_entry : (CowStr Global → Bool) → (CowSlice ℕ Global → Bool)
    → List (List ℕ × Resource) → Bool
each_entry on_text on_bytes es =
    all_true (map (λ (e : List ℕ × Bool). e.1)
    (map (λ e. (e.0, each_leaf on_text on_bytes e.1)) es))
