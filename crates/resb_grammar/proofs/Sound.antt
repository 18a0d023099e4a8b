-- What is read to its end is in the grammar.
use Rattle.std.proofs.Common.{◌≡◌, ℕ, zero, suc, ◌+◌, Bool, true, false, List, [], ◌∷◌, ◌++◌}
use Rattle.std.proofs.Common.{length, refl, sym, ◌∙◌, ap, subst, Option, Some, None}
use Rattle.std.specs.Prelude.{slice_index, IfSome, if◌then◌else◌}
use Rattle.std.specs.Option.{option_map}
use Rattle.resb_grammar.specs.Ascii as ascii
use Rattle.resb_tree.specs.Tree.{Tree, binary, int_vector}
use Rattle.resb_grammar.specs.Lexical.{Skip, Text, Number}
use Rattle.resb_grammar.specs.Items as items
use Rattle.resb_grammar.specs.Items.{Item, Term, before_comma, is_pairs, a_table, tree_in, keys_in}
use Rattle.resb_grammar.specs.GroupTypes.{Kind, string_kind, array_kind, table_kind, binary_kind}
use Rattle.resb_grammar.specs.GroupTypes.{integer_kind, vector_kind, GroupType, TypedOpening}
use Rattle.resb_grammar.specs.GroupTypes.{RootType}
use Rattle.resb_grammar.specs.Group.{hex_bytes, Numbers, first_number, next_number, Vector, empty}
use Rattle.resb_grammar.specs.Group.{lone_comma, numbers, numbers_comma, LeafContent}
use Rattle.resb_grammar.specs.Group.{string_content, binary_content, integer_content}
use Rattle.resb_grammar.specs.Group.{vector_content, Items, nothing, string_item, group_item, comma}
use Rattle.resb_grammar.specs.Group.{Group, untyped, typed_table, typed_array, typed_leaf}
use Rattle.resb_grammar.specs.BundleText.{first_places, without, with, Header, BundleText}
use Rattle.resb_grammar.specs.Machine as machine
use Rattle.resb_grammar.specs.Machine.{Token, a_text, a_number, opening, closing, a_comma, a_type}
use Rattle.resb_grammar.specs.Machine.{a_root_type, Body, table_body, array_body, untyped_body}
use Rattle.resb_grammar.specs.Machine.{Frame, Title, Open, VectorStage, at_start, after_lone_comma}
use Rattle.resb_grammar.specs.Machine.{after_number, after_comma, State, start, named, titled}
use Rattle.resb_grammar.specs.Machine.{inside, typed, in_string, in_binary, in_integer, filled}
use Rattle.resb_grammar.specs.Machine.{in_vector, finished, is_key_place, leave}
use Rattle.resb_grammar.specs.Machine.{with_term, begun_as, next_in_vector}
use Rattle.resb_grammar.specs.Machine.{in_body, next, TokenStep, Path, begun, went, At}
use Rattle.resb_grammar.specs.Inner.Half.{is_half}
use Rattle.resb_grammar.proofs.HalfLemmas.{pairs-half, group-half}
use Rattle.resb_grammar.specs.Token.{Means}
use Rattle.resb_grammar.proofs.Moves.{move_means}
use Rattle.resb_grammar.proofs.Complete.{MayOpen, open_at}

module _ (text : List ℕ) where
  -- a group of this body begins, and its first item may stand at `first`
  abbrev Begins : Body → ℕ → ℕ → Type 0
  Begins table_body from first = TypedOpening text from table_kind first
  Begins array_body from first = TypedOpening text from array_kind first
  Begins untyped_body from first =
      (slice_index text from ≡ ascii.left_brace) × Skip text (from + 1) first

  -- the items may go on to be what the body asks for
  abbrev Suits : Body → List Item → Type 0
  Suits table_body xs = is_half xs ≡ true
  Suits array_body xs = Unit {0}
  Suits untyped_body xs = Unit {0}

  -- the groups that are open, as far as they are spelled
  abbrev Spelled : Title → ℕ → Body → List Item → List Frame → Type 0
  Spelled title at body xs [] =
      (first : ℕ) × (body ≡ table_body) × Header text title.name title.fallback first
      × Items text first at xs × (is_half xs ≡ true)
  Spelled title at body xs (outer ∷ around) =
      (from : ℕ) × (first : ℕ) × Spelled title from outer.body outer.items around
      × MayOpen outer.body outer.items × Begins body from first × Items text first at xs
      × Suits body xs

  abbrev IsOpen : Open → ℕ → Type 0
  IsOpen o at = Spelled o.title at o.frame.body o.frame.items o.around

  -- a vector's content up to here
  abbrev Counted : VectorStage → ℕ → ℕ → List ℕ → Type 0
  Counted at_start first at ns = (first ≡ at) × (ns ≡ [])
  Counted after_lone_comma first at ns =
      (slice_index text first ≡ ascii.comma) × Skip text (first + 1) at × (ns ≡ [])
  Counted after_number first at ns = Numbers text first at ns
  Counted after_comma first at ns =
      (i : ℕ) × Numbers text first i ns × (slice_index text i ≡ ascii.comma) × Skip text (i + 1) at

  -- a typed group has begun here
  abbrev Began : Kind → Open → ℕ → Type 0
  Began kind o first =
      (from : ℕ) × IsOpen o from × MayOpen o.frame.body o.frame.items
      × TypedOpening text from kind first

  -- what a state says of the text before its place
  abbrev Good : State → ℕ → Type 0
  Good start at = Skip text 0 at
  Good (named name) at =
      (from : ℕ) × (ends : ℕ) × Skip text 0 from × Text text from ends name × Skip text ends at
  Good (titled t) at =
      (from : ℕ) × (ends : ℕ) × (place : ℕ) × (i : ℕ) × Skip text 0 from
      × Text text from ends t.name × Skip text ends place × RootType text place i t.fallback
      × Skip text i at
  Good (inside o) at = IsOpen o at
  Good (typed kind o) at =
      (from : ℕ) × (ends : ℕ) × IsOpen o from × MayOpen o.frame.body o.frame.items
      × GroupType text from ends kind × Skip text ends at
  Good (in_string o) at = Began string_kind o at
  Good (in_binary o) at = Began binary_kind o at
  Good (in_integer o) at = Began integer_kind o at
  Good (filled t o) at =
      (kind : Kind) × (first : ℕ) × Began kind o first × LeafContent text first at kind t
  Good (in_vector place ns o) at =
      (first : ℕ) × Began vector_kind o first × Counted place first at ns
  Good (finished t xs) at =
      (first : ℕ) × (last : ℕ) × Header text t.name t.fallback first × Items text first last xs
      × (is_pairs xs ≡ true) × (slice_index text last ≡ ascii.right_brace) × Skip text (last + 1) at

  abbrev GoodNext : Option State → ℕ → Type 0
  GoodNext o at = IfSome o (λ s. Good s at)

  after_one : (from ends to : ℕ) → ends ≡ from + 1 → Skip text ends to → Skip text (from + 1) to
  after_one from ends to e skip = subst (λ n. Skip text n to) e skip

  suits_group : (body : Body) (xs : List Item) (t : Tree) (ks : List (List ℕ)) → Suits body xs
      → MayOpen body xs → Suits body (items.plain (items.group_term t ks) ∷ xs)
  suits_group table_body xs t ks h may = group-half xs h may
  suits_group array_body xs t ks h may = tt
  suits_group untyped_body xs t ks h may = tt

  -- a group is one more item
  add_group : (title : Title) (from ends to : ℕ) (body : Body) (xs : List Item)
      (around : List Frame) (t : Tree) (ks : List (List ℕ))
      → Spelled title from body xs around → MayOpen body xs → Group text from ends t ks
      → Skip text ends to
      → Spelled title to body (items.plain (items.group_term t ks) ∷ xs) around
  add_group title from ends to body xs [] t ks (first, e, header, inner, h) may g skip = (
    first,
    e,
    header,
    group_item first from ends to xs t ks inner g skip,
    suits_group table_body xs t ks h (subst (λ (b : Body). MayOpen b xs) e may),
  )
  add_group title from ends to body xs (outer ∷ around) t ks
      (q, first, below, may', begins, inner, h) may g skip = (
        q,
        first,
        below,
        may',
        begins,
        group_item first from ends to xs t ks inner g skip,
        suits_group body xs t ks h may,
      )

  suits_string : (body : Body) (xs : List Item) (s : List ℕ) → Suits body xs
      → (body ≡ table_body → is_key_place xs ≡ true)
      → Suits body (items.plain (items.string_term s) ∷ xs)
  suits_string table_body xs s h k = pairs-half xs h (k refl)
  suits_string array_body xs s h k = tt
  suits_string untyped_body xs s h k = tt

  -- a string is one more item
  add_string : (title : Title) (from ends to : ℕ) (body : Body) (xs : List Item)
      (around : List Frame) (s : List ℕ)
      → Spelled title from body xs around → (body ≡ table_body → is_key_place xs ≡ true)
      → Text text from ends s → Skip text ends to
      → Spelled title to body (items.plain (items.string_term s) ∷ xs) around
  add_string title from ends to body xs [] s (first, e, header, inner, h) k w skip = (
    first,
    e,
    header,
    string_item first from ends to xs s inner w skip,
    suits_string table_body xs s h (λ _. k e),
  )
  add_string title from ends to body xs (outer ∷ around) s
      (q, first, below, may', begins, inner, h) k w skip = (
        q,
        first,
        below,
        may',
        begins,
        string_item first from ends to xs s inner w skip,
        suits_string body xs s h k,
      )

  -- the innermost group is closed
  group_made : (body : Body) (from first at ends : ℕ) (xs : List Item) → Begins body from first
      → Items text first at xs → Suits body xs → (body ≡ table_body → is_key_place xs ≡ true)
      → slice_index text at ≡ ascii.right_brace → ends ≡ at + 1
      → Group text from ends (tree_in (machine.shape_in body xs) xs)
      (keys_in (machine.shape_in body xs) xs)
  group_made table_body from first at ends xs head inner h k b e =
      subst (λ n. Group text from n (tree_in a_table xs) (keys_in a_table xs)) (sym e)
      (typed_table from first at xs head inner (pairs-half xs h (k refl)) b)
  group_made array_body from first at ends xs head inner h k b e =
      subst (λ n. Group text from n (tree_in items.an_array xs) (keys_in items.an_array xs)) (sym e)
      (typed_array from first at xs head inner b)
  group_made untyped_body from first at ends xs (b', skip) inner h k b e =
      subst
      (λ n. Group text from n (tree_in (items.shape_of xs) xs) (keys_in (items.shape_of xs) xs))
      (sym e) (untyped from first at xs b' skip inner b)

  left : (title : Title) (at ends to : ℕ) (body : Body) (xs : List Item) (around : List Frame)
      → Spelled title at body xs around → (body ≡ table_body → is_key_place xs ≡ true)
      → slice_index text at ≡ ascii.right_brace → ends ≡ at + 1 → Skip text ends to
      → Good (leave title (record { body = body; items = xs }) around) to
  left title at ends to body xs [] (first, e, header, inner, h) k b is skip =
      (first, at, header, inner, pairs-half xs h (k e), b, after_one at ends to is skip)
  left title at ends to body xs (outer ∷ around)
      (q, first, below, may, begins, inner, h) k b is skip =
      add_group title q ends to outer.body outer.items around _ _ below may
      (group_made body q first at ends xs begins inner h k b is) skip

  array_no : array_body ≡ table_body → ⊥
  array_no e = cc

  untyped_no : untyped_body ≡ table_body → ⊥
  untyped_no e = cc

  table_next : (title : Title) (xs : List Item) (around : List Frame) (from ends to : ℕ) (t : Token)
      (key : Bool) → is_key_place xs ≡ key
      → Spelled title from table_body xs around → Means text from ends t → Skip text ends to
      → GoodNext (machine.in_table (open_at title table_body xs around) t key) to
  table_next title xs around from ends to (a_text s) true k good m skip =
      add_string title from ends to table_body xs around s good (λ _. k) m skip
  table_next title xs around from ends to (a_text s) false k good m skip = tt
  table_next title xs around from ends to closing true k good m skip =
      left title from ends to table_body xs around good (λ _. k) m.0 m.1 skip
  table_next title xs around from ends to closing false k good m skip = tt
  table_next title xs around from ends to opening true k good m skip = tt
  table_next title xs around from ends to opening false k good m skip =
      (from, to, good, k, (m.0, after_one from ends to m.1 skip), nothing to, tt)
  table_next title xs around from ends to (a_type kind) true k good m skip = tt
  table_next title xs around from ends to (a_type kind) false k good m skip =
      (from, ends, good, k, m, skip)
  table_next title xs around from ends to a_comma key k good m skip = tt
  table_next title xs around from ends to (a_number v) key k good m skip = tt
  table_next title xs around from ends to (a_root_type fallback) key k good m skip = tt

  list_may : (body : Body) (xs : List Item) → (body ≡ table_body → ⊥) → MayOpen body xs
  list_may table_body xs h = absurd (h refl)
  list_may array_body xs h = tt
  list_may untyped_body xs h = tt

  comma_suits : (body : Body) (xs : List Item) → (body ≡ table_body → ⊥) → Suits body xs
  comma_suits table_body xs h = absurd (h refl)
  comma_suits array_body xs h = tt
  comma_suits untyped_body xs h = tt

  add_comma : (title : Title) (body : Body) (m : Term) (xs : List Item) (around : List Frame)
      (from to : ℕ)
      → (body ≡ table_body → ⊥) → Spelled title from body (items.plain m ∷ xs) around
      → slice_index text from ≡ ascii.comma → Skip text (from + 1) to
      → Spelled title to body (before_comma m ∷ xs) around
  add_comma title body m xs [] from to other (first, e, header, inner, h) b skip = absurd (other e)
  add_comma title body m xs (outer ∷ around) from to other
      (q, first, below, may, begins, inner, h) b skip = (
        q,
        first,
        below,
        may,
        begins,
        comma first from to xs m inner b skip,
        comma_suits body (before_comma m ∷ xs) other,
      )

  comma_good : (title : Title) (body : Body) (m : Term) (f : Bool) (xs : List Item)
      (around : List Frame) (from to : ℕ)
      → (body ≡ table_body → ⊥)
      → Spelled title from body (record { term = m; comma = f } ∷ xs) around
      → slice_index text from ≡ ascii.comma → Skip text (from + 1) to
      → GoodNext (if f then None else Some (inside (open_at title body (before_comma m ∷ xs)
      around))) to
  comma_good title body m true xs around from to other good b skip = tt
  comma_good title body m false xs around from to other good b skip =
      add_comma title body m xs around from to other good b skip

  list_next : (title : Title) (body : Body) (xs : List Item) (around : List Frame)
      (from ends to : ℕ) (t : Token)
      → (body ≡ table_body → ⊥) → Spelled title from body xs around → Means text from ends t
      → Skip text ends to → GoodNext (machine.in_list (open_at title body xs around) t) to
  list_next title body xs around from ends to (a_text s) other good m skip =
      add_string title from ends to body xs around s good (λ e. absurd (other e)) m skip
  list_next title body xs around from ends to closing other good m skip =
      good_left (left title from ends to body xs around good (λ e. absurd (other e)) m.0 m.1 skip)
    where
      good_left : Good (leave title (record { body = body; items = xs }) around) to
          → GoodNext (Some (leave title (record { body = body; items = xs }) around)) to
      good_left g = g
  list_next title body xs around from ends to opening other good m skip = (
    from,
    to,
    good,
    list_may body xs other,
    (m.0, after_one from ends to m.1 skip),
    nothing to,
    tt,
  )
  list_next title body xs around from ends to (a_type kind) other good m skip =
      (from, ends, good, list_may body xs other, m, skip)
  list_next title body [] around from ends to a_comma other good m skip = tt
  list_next title body (x ∷ xs) around from ends to a_comma other good m skip =
      comma_good title body x.term x.comma xs around from to other good m.0
      (after_one from ends to m.1 skip)
  list_next title body xs around from ends to (a_number v) other good m skip = tt
  list_next title body xs around from ends to (a_root_type fallback) other good m skip = tt

  body_next : (body : Body) (title : Title) (xs : List Item) (around : List Frame)
      (from ends to : ℕ) (t : Token)
      → Spelled title from body xs around → Means text from ends t → Skip text ends to
      → GoodNext (in_body body (open_at title body xs around) t) to
  body_next table_body title xs around from ends to t good m skip =
      table_next title xs around from ends to t (is_key_place xs) refl good m skip
  body_next array_body title xs around from ends to t good m skip =
      list_next title array_body xs around from ends to t array_no good m skip
  body_next untyped_body title xs around from ends to t good m skip =
      list_next title untyped_body xs around from ends to t untyped_no good m skip

  head_of : (kind : Kind) (from ends brace end to : ℕ) → GroupType text from ends kind
      → Skip text ends brace → slice_index text brace ≡ ascii.left_brace → end ≡ brace + 1
      → Skip text end to → TypedOpening text from kind to
  head_of kind from ends brace end to type between b e skip =
      record {
        ends = ends;
        brace = brace;
        named = type;
        between = between;
        opens = b;
        after = after_one brace end to e skip;
      }

  typed_next : (kind : Kind) (o : Open) (at end to : ℕ) → Good (typed kind o) at
      → slice_index text at ≡ ascii.left_brace → end ≡ at + 1 → Skip text end to
      → Good (begun_as kind o) to
  typed_next string_kind o at end to (from, ends, below, may, type, between) b e skip =
      (from, below, may, head_of string_kind from ends at end to type between b e skip)
  typed_next binary_kind o at end to (from, ends, below, may, type, between) b e skip =
      (from, below, may, head_of binary_kind from ends at end to type between b e skip)
  typed_next integer_kind o at end to (from, ends, below, may, type, between) b e skip =
      (from, below, may, head_of integer_kind from ends at end to type between b e skip)
  typed_next vector_kind o at end to (from, ends, below, may, type, between) b e skip = (
    to,
    (from, below, may, head_of vector_kind from ends at end to type between b e skip),
    (refl, refl),
  )
  typed_next array_kind o at end to (from, ends, below, may, type, between) b e skip = (
    from,
    to,
    below,
    may,
    head_of array_kind from ends at end to type between b e skip,
    nothing to,
    tt,
  )
  typed_next table_kind o at end to (from, ends, below, may, type, between) b e skip = (
    from,
    to,
    below,
    may,
    head_of table_kind from ends at end to type between b e skip,
    nothing to,
    refl,
  )

  -- a group without items is closed
  leaf_closed : (kind : Kind) (t : Tree) (o : Open) (first at end to : ℕ) → Began kind o first
      → LeafContent text first at kind t → slice_index text at ≡ ascii.right_brace → end ≡ at + 1
      → Skip text end to → IsOpen (with_term (items.group_term t []) o) to
  leaf_closed kind t o first at end to (from, below, may, head) content b e skip =
      add_group o.title from end to o.frame.body o.frame.items o.around t [] below may (subst
      (λ n. Group text from n t []) (sym e)
      (typed_leaf from first at kind t head content b)) skip

  binary_next : (s : List ℕ) (o : Open) (from ends to : ℕ) (r : Option (List ℕ)) → hex_bytes s ≡ r
      → Began binary_kind o from → Text text from ends s → Skip text ends to
      → GoodNext (option_map (λ bytes. filled (binary bytes) o) r) to
  binary_next s o from ends to None e good m skip = tt
  binary_next s o from ends to (Some bytes) e good m skip =
      (binary_kind, from, good, binary_content ends s bytes m e skip)

  vector_closed : (o : Open) (ns : List ℕ) (first at end to : ℕ) → Began vector_kind o first
      → Vector text first at ns → slice_index text at ≡ ascii.right_brace → end ≡ at + 1
      → Skip text end to → IsOpen (with_term (items.group_term (int_vector ns) []) o) to
  vector_closed o ns first at end to began v b e skip =
      leaf_closed vector_kind (int_vector ns) o first at end to began (vector_content ns v) b e skip

  vector_next : (place : VectorStage) (ns : List ℕ) (o : Open) (from ends to : ℕ) (t : Token)
      → Good (in_vector place ns o) from → Means text from ends t → Skip text ends to
      → GoodNext (next_in_vector place ns o t) to
  vector_next at_start ns o from ends to (a_number v) (first, began, (e, is)) m skip = (
    first,
    began,
    subst (λ (ms : List ℕ). Numbers text first to (ms ++ v ∷ [])) (sym is)
        (first_number ends to v (subst (λ n. Number text n ends v) (sym e) m) skip),
  )
  vector_next at_start ns o from ends to a_comma (first, began, (e, is)) m skip = (
    first,
    began,
    (
      ap (slice_index text) e ∙ m.0,
      subst (λ n. Skip text (n + 1) to) (sym e) (after_one from ends to m.1 skip),
      is,
    ),
  )
  vector_next at_start ns o from ends to closing (first, began, (e, is)) m skip =
      vector_closed o ns first from ends to began (subst (λ n. Vector text first n ns) e
      (subst (λ (ms : List ℕ). Vector text first first ms) (sym is) empty)) m.0 m.1 skip
  vector_next at_start ns o from ends to (a_text s) good m skip = tt
  vector_next at_start ns o from ends to opening good m skip = tt
  vector_next at_start ns o from ends to (a_type kind) good m skip = tt
  vector_next at_start ns o from ends to (a_root_type fallback) good m skip = tt
  vector_next after_lone_comma ns o from ends to closing (first, began, (c, s, is)) m skip =
      vector_closed o ns first from ends to began (subst
      (λ (ms : List ℕ). Vector text first from ms) (sym is) (lone_comma from c s)) m.0 m.1 skip
  vector_next after_lone_comma ns o from ends to (a_number v) good m skip = tt
  vector_next after_lone_comma ns o from ends to a_comma good m skip = tt
  vector_next after_lone_comma ns o from ends to (a_text s) good m skip = tt
  vector_next after_lone_comma ns o from ends to opening good m skip = tt
  vector_next after_lone_comma ns o from ends to (a_type kind) good m skip = tt
  vector_next after_lone_comma ns o from ends to (a_root_type fallback) good m skip = tt
  vector_next after_number ns o from ends to closing (first, began, n) m skip =
      vector_closed o ns first from ends to began (numbers from ns n) m.0 m.1 skip
  vector_next after_number ns o from ends to a_comma (first, began, n) m skip =
      (first, began, (from, n, m.0, after_one from ends to m.1 skip))
  vector_next after_number ns o from ends to (a_number v) good m skip = tt
  vector_next after_number ns o from ends to (a_text s) good m skip = tt
  vector_next after_number ns o from ends to opening good m skip = tt
  vector_next after_number ns o from ends to (a_type kind) good m skip = tt
  vector_next after_number ns o from ends to (a_root_type fallback) good m skip = tt
  vector_next after_comma ns o from ends to (a_number v) (first, began, (i, n, c, s)) m skip =
      (first, began, next_number i from ends to v ns n c s m skip)
  vector_next after_comma ns o from ends to closing (first, began, (i, n, c, s)) m skip =
      vector_closed o ns first from ends to began (numbers_comma i from ns n c s) m.0 m.1 skip
  vector_next after_comma ns o from ends to a_comma good m skip = tt
  vector_next after_comma ns o from ends to (a_text s) good m skip = tt
  vector_next after_comma ns o from ends to opening good m skip = tt
  vector_next after_comma ns o from ends to (a_type kind) good m skip = tt
  vector_next after_comma ns o from ends to (a_root_type fallback) good m skip = tt

  good_next : (s : State) (from ends to : ℕ) (t : Token) → Good s from → Means text from ends t
      → Skip text ends to → GoodNext (next s t) to
  good_next start from ends to (a_text s) good m skip = (from, ends, good, m, skip)
  good_next start from ends to (a_number v) good m skip = tt
  good_next start from ends to opening good m skip = tt
  good_next start from ends to closing good m skip = tt
  good_next start from ends to a_comma good m skip = tt
  good_next start from ends to (a_type kind) good m skip = tt
  good_next start from ends to (a_root_type fallback) good m skip = tt
  good_next (named name) from ends to opening (i, j, before, title, between) m skip = (
    to,
    refl,
    record {
      start = i;
      ends = j;
      place = from;
      brace = from;
      before = before;
      named = title;
      between = between;
      typed = without refl;
      opens = m.0;
      after = after_one from ends to m.1 skip;
    },
    nothing to,
    refl,
  )
  good_next (named name) from ends to (a_root_type fallback) (i, j, before, title, between) m skip =
      (i, j, from, ends, before, title, between, m, skip)
  good_next (named name) from ends to (a_text s) good m skip = tt
  good_next (named name) from ends to (a_number v) good m skip = tt
  good_next (named name) from ends to closing good m skip = tt
  good_next (named name) from ends to a_comma good m skip = tt
  good_next (named name) from ends to (a_type kind) good m skip = tt
  good_next (titled t) from ends to opening
      (i, j, place, k, before, title, between, type, after) m skip = (
        to,
        refl,
        record {
          start = i;
          ends = j;
          place = place;
          brace = from;
          before = before;
          named = title;
          between = between;
          typed = with k t.fallback type after;
          opens = m.0;
          after = after_one from ends to m.1 skip;
        },
        nothing to,
        refl,
      )
  good_next (titled t) from ends to (a_root_type fallback) good m skip = tt
  good_next (titled t) from ends to (a_text s) good m skip = tt
  good_next (titled t) from ends to (a_number v) good m skip = tt
  good_next (titled t) from ends to closing good m skip = tt
  good_next (titled t) from ends to a_comma good m skip = tt
  good_next (titled t) from ends to (a_type kind) good m skip = tt
  good_next (inside o) from ends to t good m skip =
      body_next o.frame.body o.title o.frame.items o.around from ends to t good m skip
  good_next (typed kind o) from ends to opening good m skip =
      good_begun (typed_next kind o from ends to good m.0 m.1 skip)
    where
      good_begun : Good (begun_as kind o) to → GoodNext (Some (begun_as kind o)) to
      good_begun g = g
  good_next (typed kind o) from ends to (a_text s) good m skip = tt
  good_next (typed kind o) from ends to (a_number v) good m skip = tt
  good_next (typed kind o) from ends to closing good m skip = tt
  good_next (typed kind o) from ends to a_comma good m skip = tt
  good_next (typed kind o) from ends to (a_type other) good m skip = tt
  good_next (typed kind o) from ends to (a_root_type fallback) good m skip = tt
  good_next (in_string o) from ends to (a_text s) good m skip =
      (string_kind, from, good, string_content ends s m skip)
  good_next (in_string o) from ends to (a_number v) good m skip = tt
  good_next (in_string o) from ends to opening good m skip = tt
  good_next (in_string o) from ends to closing good m skip = tt
  good_next (in_string o) from ends to a_comma good m skip = tt
  good_next (in_string o) from ends to (a_type kind) good m skip = tt
  good_next (in_string o) from ends to (a_root_type fallback) good m skip = tt
  good_next (in_binary o) from ends to (a_text s) good m skip =
      binary_next s o from ends to (hex_bytes s) refl good m skip
  good_next (in_binary o) from ends to (a_number v) good m skip = tt
  good_next (in_binary o) from ends to opening good m skip = tt
  good_next (in_binary o) from ends to closing good m skip = tt
  good_next (in_binary o) from ends to a_comma good m skip = tt
  good_next (in_binary o) from ends to (a_type kind) good m skip = tt
  good_next (in_binary o) from ends to (a_root_type fallback) good m skip = tt
  good_next (in_integer o) from ends to (a_number v) good m skip =
      (integer_kind, from, good, integer_content ends v m skip)
  good_next (in_integer o) from ends to (a_text s) good m skip = tt
  good_next (in_integer o) from ends to opening good m skip = tt
  good_next (in_integer o) from ends to closing good m skip = tt
  good_next (in_integer o) from ends to a_comma good m skip = tt
  good_next (in_integer o) from ends to (a_type kind) good m skip = tt
  good_next (in_integer o) from ends to (a_root_type fallback) good m skip = tt
  good_next (filled t o) from ends to closing (kind, first, began, content) m skip =
      leaf_closed kind t o first from ends to began content m.0 m.1 skip
  good_next (filled t o) from ends to (a_text s) good m skip = tt
  good_next (filled t o) from ends to (a_number v) good m skip = tt
  good_next (filled t o) from ends to opening good m skip = tt
  good_next (filled t o) from ends to a_comma good m skip = tt
  good_next (filled t o) from ends to (a_type kind) good m skip = tt
  good_next (filled t o) from ends to (a_root_type fallback) good m skip = tt
  good_next (in_vector place ns o) from ends to t good m skip =
      vector_next place ns o from ends to t good m skip
  good_next (finished t xs) from ends to token good m skip = tt

  good_step : (from to : ℕ) (s u : State) → Good s from → TokenStep text from s to u → Good u to
  good_step from to s u good x =
      subst (λ (o : Option State). GoodNext o to) x.move.moves
      (good_next s from x.ends to x.move.token good
      (move_means text from x.ends s u x.move) x.after)

  pub good_path : (n at : ℕ) (s : State) → Path text n at s → Good s at
  good_path zero at s (begun _ h) = h
  good_path (suc n) at s (went _ i _ u _ p x) = good_step i at u s (good_path n i u p) x

  -- what is read to the text's end is a bundle
  pub sound : (name : List ℕ) (fallback : Bool) (xs : List Item)
      → At text (length text) (finished (record { name = name; fallback = fallback }) xs)
      → BundleText text name fallback (tree_in a_table xs) (first_places (keys_in a_table xs))
  sound name fallback xs at =
      made (good_path at.tokens (length text)
      (finished (record { name = name; fallback = fallback }) xs) at.path)
    where
      made : Good (finished (record { name = name; fallback = fallback }) xs) (length text)
          → BundleText text name fallback (tree_in a_table xs) (first_places (keys_in a_table xs))
      made (first, last, header, inner, h, b, skip) =
          record {
            first = first;
            last = last;
            items = xs;
            header = header;
            body = inner;
            pairs = h;
            closes = b;
            after = skip;
            means = refl;
            lists = refl;
          }

  -- an open table's items may go on to be a table's
  pub open_half : (o : Open) (at : ℕ) → At text at (inside o) → o.frame.body ≡ table_body
      → is_half o.frame.items ≡ true
  open_half o at reached table =
      go o.around o.frame.body o.frame.items table
      (good_path reached.tokens at (inside o) reached.path)
    where
      suits : (b : Body) (xs : List Item) → b ≡ table_body → Suits b xs → is_half xs ≡ true
      suits table_body xs e h = h
      suits array_body xs e h = cc
      suits untyped_body xs e h = cc

      go : (fs : List Frame) (b : Body) (xs : List Item) → b ≡ table_body
          → Spelled o.title at b xs fs → is_half xs ≡ true
      go [] b xs e (first, table, header, inner, h) = h
      go (f ∷ fs) b xs e (from, first, outer, may, begins, inner, h) = suits b xs e h

  -- the root is a table
  pub open_root : (o : Open) (at : ℕ) → At text at (inside o) → o.around ≡ []
      → o.frame.body ≡ table_body
  open_root o at reached alone =
      go o.around alone (good_path reached.tokens at (inside o) reached.path)
    where
      go : (fs : List Frame) → fs ≡ [] → Spelled o.title at o.frame.body o.frame.items fs
          → o.frame.body ≡ table_body
      go [] e (first, table, header, inner, h) = table
      go (f ∷ fs) e h = cc

  -- the header of the bundle that is open
  pub open_header : (o : Open) (at : ℕ) → At text at (inside o)
      → (first : ℕ) × Header text o.title.name o.title.fallback first
  open_header o at reached =
      go o.around o.frame.body o.frame.items at
      (good_path reached.tokens at (inside o) reached.path)
    where
      go : (fs : List Frame) (b : Body) (xs : List Item) (i : ℕ) → Spelled o.title i b xs fs
          → (first : ℕ) × Header text o.title.name o.title.fallback first
      go [] b xs i (first, table, header, inner, h) = (first, header)
      go (f ∷ fs) b xs i (from, first, outer, may, begins, inner, h) =
          go fs f.body f.items from outer
