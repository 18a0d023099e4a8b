-- The state that a token leads to, if it may stand.
use Rattle.std.specs.Prelude.{ℕ, ◌%◌, ◌^◌, Bool, true, false, List, [], ◌∷◌, ◌++◌, Option, Some}
use Rattle.std.specs.Prelude.{None, if◌then◌else◌}
use Rattle.std.specs.Option.{option_map}
use Rattle.resb_tree.specs.Tree.{Tree, string, binary, integer, int_vector}
use Rattle.resb_grammar.specs.Items.{Term, string_term, group_term, Item, plain, before_comma}
use Rattle.resb_grammar.specs.Items.{Shape, a_table, an_array, shape_of, tree_in, keys_in}
use Rattle.resb_grammar.specs.GroupTypes.{Kind, string_kind, array_kind, table_kind, binary_kind}
use Rattle.resb_grammar.specs.GroupTypes.{integer_kind, vector_kind}
use Rattle.resb_grammar.specs.Group.{hex_bytes}
use Rattle.resb_grammar.specs.Token.{Token, a_text, a_number, opening, closing, a_comma, a_type}
use Rattle.resb_grammar.specs.Token.{a_root_type}
use Rattle.resb_grammar.specs.State.{Body, table_body, array_body, untyped_body, Frame, Title, Open}
use Rattle.resb_grammar.specs.State.{VectorStage, at_start, after_lone_comma, after_number}
use Rattle.resb_grammar.specs.State.{after_comma, State, start, named, titled, inside, typed}
use Rattle.resb_grammar.specs.State.{in_string, in_binary, in_integer, filled, in_vector, finished}

-- the shape of a group with this body and these items
abbrev pub shape_in : Body → List Item → Shape
shape_in table_body items = a_table
shape_in array_body items = an_array
shape_in untyped_body items = shape_of items

-- a closed group as a term of the group around it
abbrev pub closed : Frame → Term
closed f =
    group_term (tree_in (shape_in f.body f.items) f.items)
    (keys_in (shape_in f.body f.items) f.items)

-- one item more, without a comma
abbrev pub with_item : Term → Frame → Frame
with_item m f = record { body = f.body; items = plain m ∷ f.items }

-- one item more in the innermost group
abbrev pub with_term : Term → Open → Open
with_term m o = record { title = o.title; frame = with_item m o.frame; around = o.around }

-- a group without items yet
abbrev pub new_frame : Body → Frame
new_frame body = record { body = body; items = [] }

-- the root is open, without entries yet
abbrev pub at_root : Title → Open
at_root title = record { title = title; frame = new_frame table_body; around = [] }

-- a group is open within those that were
abbrev pub within : Body → Open → Open
within body o = record { title = o.title; frame = new_frame body; around = o.frame ∷ o.around }

-- the innermost group is closed
abbrev pub leave : Title → Frame → List Frame → State
leave title frame [] = finished title frame.items
leave title frame (outer ∷ around) =
    inside (record { title = title; frame = with_item (closed frame) outer; around = around })

-- the term is a group, and no string
abbrev pub is_group : Term → Bool
is_group (string_term s) = false
is_group (group_term t ks) = true

-- whether a key may stand after these items of a table body
abbrev pub is_key_place : List Item → Bool
is_key_place [] = true
is_key_place (x ∷ xs) = is_group x.term

-- a comma after the last item, if there is one without
abbrev pub with_comma : Open → List Item → Option State
with_comma o [] = None
with_comma o (x ∷ xs) =
    if x.comma then None else Some (inside (record {
      title = o.title;
      frame = record { body = o.frame.body; items = before_comma x.term ∷ xs };
      around = o.around;
    }))

-- in a table body: a key or `}` where a key may stand, and else, behind a key, a type or `{`
abbrev pub in_table : Open → Token → Bool → Option State
in_table o (a_text s) true = Some (inside (with_term (string_term s) o))
in_table o closing true = Some (leave o.title o.frame o.around)
in_table o opening false = Some (inside (within untyped_body o))
in_table o (a_type kind) false = Some (typed kind o)
in_table o _ _ = None

-- in an array's body or an untyped group: any item, `}`, and one comma after an item
abbrev pub in_list : Open → Token → Option State
in_list o (a_text s) = Some (inside (with_term (string_term s) o))
in_list o closing = Some (leave o.title o.frame o.around)
in_list o opening = Some (inside (within untyped_body o))
in_list o (a_type kind) = Some (typed kind o)
in_list o a_comma = with_comma o o.frame.items
in_list o _ = None

-- what a token leads to among the items of a table, an array or a group without a type
abbrev pub in_body : Body → Open → Token → Option State
in_body table_body o t = in_table o t (is_key_place o.frame.items)
in_body _ o t = in_list o t

-- a typed group begins
abbrev pub begun_as : Kind → Open → State
begun_as string_kind o = in_string o
begun_as array_kind o = inside (within array_body o)
begun_as table_kind o = inside (within table_body o)
begun_as binary_kind o = in_binary o
begun_as integer_kind o = in_integer o
begun_as vector_kind o = in_vector at_start [] o

-- a group without keys is closed
abbrev pub with_leaf : Tree → Open → State
with_leaf t o = inside (with_term (group_term t []) o)

-- in `:intvector{..}`, with the numbers so far
abbrev pub next_in_vector : VectorStage → List ℕ → Open → Token → Option State
next_in_vector at_start ns o (a_number v) = Some (in_vector after_number (ns ++ v ∷ []) o)
next_in_vector at_start ns o a_comma = Some (in_vector after_lone_comma ns o)
next_in_vector at_start ns o closing = Some (with_leaf (int_vector ns) o)
next_in_vector after_lone_comma ns o closing = Some (with_leaf (int_vector ns) o)
next_in_vector after_number ns o a_comma = Some (in_vector after_comma ns o)
next_in_vector after_number ns o closing = Some (with_leaf (int_vector ns) o)
next_in_vector after_comma ns o (a_number v) = Some (in_vector after_number (ns ++ v ∷ []) o)
next_in_vector after_comma ns o closing = Some (with_leaf (int_vector ns) o)
next_in_vector _ ns o _ = None

-- the state after a token, if it may stand there
abbrev pub next : State → Token → Option State
next start (a_text s) = Some (named s)
next (named name) opening = Some (inside (at_root (record { name = name; fallback = true })))
next (named name) (a_root_type fallback) =
    Some (titled (record { name = name; fallback = fallback }))
next (titled title) opening = Some (inside (at_root title))
next (inside o) t = in_body o.frame.body o t
next (typed kind o) opening = Some (begun_as kind o)
next (in_string o) (a_text s) = Some (filled (string s) o)
next (in_binary o) (a_text s) = option_map (λ bytes. filled (binary bytes) o) (hex_bytes s)
next (in_integer o) (a_number v) = Some (filled (integer (v % 2 ^ 28)) o)
next (filled t o) closing = Some (with_leaf t o)
next (in_vector place ns o) t = next_in_vector place ns o t
next _ _ = None
