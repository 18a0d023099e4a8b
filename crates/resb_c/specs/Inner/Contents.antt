-- What a content of a file holds: a leaf of one kind, or what is inside it.
use Rattle.std.specs.Prelude.{◌≡◌, ℕ, Bool, true, false, List, map, Option, Some, None, Result}
use Rattle.std.specs.Prelude.{Ok, Err, option_map, slice_get, is_some}
use Rattle.std.specs.Option.{option_and_then}
use Rattle.resb_format.specs.Content.{Content, Member, leaf, list, entry_list}
use Rattle.resb_format.specs.Parts.{Parts}
use Rattle.resb_path.specs.Finding.{number_said}
use Rattle.resb_read.specs.Places as places
use Rattle.resb_read.specs.Sequences.{at_spot, at_entry}
use Rattle.resb_read.specs.Tables.{last_named}
use Rattle.resb_read.specs.declared.cursor.Spot.{Spot}
use Rattle.resb_read.specs.declared.cursor.Spot.TheVariants as spot
use Rattle.resb_c.specs.Opened.{spot_of}
use Rattle.resb_c.specs.declared.fault.Fault.{Fault}
use Rattle.resb_c.specs.declared.fault.Fault.TheVariants.{NotFound, OtherKind}
use Rattle.resb_c.specs.declared.resource.ResbResource.{ResbResource}
use Rattle.resb_c.specs.Shown.{tree_text, tree_bytes, tree_numbers, tree_integer}

-- the text of a string
abbrev pub content_text : Content → Option (List ℕ)
content_text (leaf t) = tree_text t
content_text (list ms) = None
content_text (entry_list es) = None

-- the bytes of a binary
abbrev pub content_bytes : Content → Option (List ℕ)
content_bytes (leaf t) = tree_bytes t
content_bytes (list ms) = None
content_bytes (entry_list es) = None

-- the numbers of a vector
abbrev pub content_numbers : Content → Option (List ℕ)
content_numbers (leaf t) = tree_numbers t
content_numbers (list ms) = None
content_numbers (entry_list es) = None

-- the 28 bits of an integer
abbrev pub content_integer : Content → Option ℕ
content_integer (leaf t) = tree_integer t
content_integer (list ms) = None
content_integer (entry_list es) = None

-- the spot of what has this number inside, from 0 on
abbrev pub spot_inside : Content → ℕ → Option Spot
spot_inside (list ms) k = option_map places.spot_of (slice_get ms k)
spot_inside (entry_list es) k = option_map (λ e. places.spot_of e.1) (slice_get es k)
spot_inside (leaf t) k =
    option_map spot.Word (option_and_then (λ ns. slice_get ns k) (tree_numbers t))

-- something may be inside: members, entries or numbers
abbrev pub has_inside : Content → Bool
has_inside (list ms) = true
has_inside (entry_list es) = true
has_inside (leaf t) = is_some (tree_numbers t)

-- what has this number inside; that nothing has; or that nothing is ever inside
abbrev pub IsInside : Content → ℕ → Result ResbResource Fault → Type 0
IsInside c k (Ok r) = (spot_inside c k ≡ Some (spot_of r)) × (has_inside c ≡ true)
IsInside c k (Err NotFound) = (spot_inside c k ≡ None) × (has_inside c ≡ true)
IsInside c k (Err OtherKind) = (spot_inside c k ≡ None) × (has_inside c ≡ false)
IsInside c k (Err e) = ⊥

-- what has the number inside that a name says, or that nothing has
abbrev pub IsNumbered : Content → List ℕ → Result ResbResource Fault → Type 0
IsNumbered c name (Ok r) = option_and_then (spot_inside c) (number_said name) ≡ Some (spot_of r)
IsNumbered c name (Err e) =
    (option_and_then (spot_inside c) (number_said name) ≡ None) × (e ≡ NotFound)

-- the value of the last entry of a name, or that there is none
abbrev pub IsNamed : Parts → List (ℕ × Member) → List ℕ → Result ResbResource Fault → Type 0
IsNamed p es name (Ok r) =
    last_named name (map (at_entry p) es) ≡ Some (at_spot p (spot_of r))
IsNamed p es name (Err e) = (last_named name (map (at_entry p) es) ≡ None) × (e ≡ NotFound)
