-- What is in the grammar is read to its end.
use Rattle.std.proofs.Common.{◌≡◌, ℕ, ◌+◌, ◌%◌, ◌^◌, Bool, true, false, List, [], ◌∷◌, length, refl}
use Rattle.std.proofs.Common.{ap, Some}
use Rattle.std.specs.Prelude.{slice_index}
use Rattle.std.specs.Option.{option_map}
use Rattle.resb_grammar.specs.Ascii as ascii
use Rattle.resb_tree.specs.Tree.{Tree, string, binary, integer, int_vector}
use Rattle.resb_grammar.specs.Lexical.{Skip}
use Rattle.resb_grammar.specs.Items as items
use Rattle.resb_grammar.specs.Items.{Item, Term, before_comma}
use Rattle.resb_grammar.specs.GroupTypes.{Kind, array_kind, table_kind, TypedOpening}
use Rattle.resb_grammar.specs.Group.{Numbers, first_number, next_number, Vector, empty, lone_comma}
use Rattle.resb_grammar.specs.Group.{numbers, numbers_comma, LeafContent, string_content}
use Rattle.resb_grammar.specs.Group.{binary_content, integer_content, vector_content, Items}
use Rattle.resb_grammar.specs.Group.{nothing, string_item, group_item, comma, Group, untyped}
use Rattle.resb_grammar.specs.Group.{typed_table, typed_array, typed_leaf}
use Rattle.resb_grammar.specs.BundleText.{BundleText}
use Rattle.resb_grammar.proofs.Lex as lex
use Rattle.resb_grammar.specs.Machine.{a_text, a_number, opening, closing, a_comma, a_type, Body}
use Rattle.resb_grammar.specs.Machine.{table_body, array_body, untyped_body, Frame, Title, Open}
use Rattle.resb_grammar.specs.Machine.{at_start, after_lone_comma, after_number, after_comma}
use Rattle.resb_grammar.specs.Machine.{inside, typed, in_binary, filled, in_vector, finished}
use Rattle.resb_grammar.specs.Machine.{is_key_place, in_table, with_term, within, begun_as}
use Rattle.resb_grammar.specs.Machine.{next, At}
use Rattle.resb_grammar.proofs.Lex.{neither, text_class, number_class, open_class}
use Rattle.resb_grammar.proofs.Lex.{close_class, comma_class, type_class}
use Rattle.resb_grammar.specs.Inner.Half.{is_half}
use Rattle.resb_grammar.proofs.HalfLemmas.{half-pairs, key_place-pairs, half-group, no_comma}
use Rattle.resb_grammar.proofs.Moves.{further, byte_class, class_text, class_number}
use Rattle.resb_grammar.proofs.HeaderPath.{header_at}

-- what is open, by its parts
abbrev pub open_at : Title → Body → List Item → List Frame → Open
open_at title body xs around =
    record { title = title; frame = record { body = body; items = xs }; around = around }

-- where a group may stand
abbrev pub MayOpen : Body → List Item → Type 0
MayOpen table_body xs = is_key_place xs ≡ false
MayOpen array_body xs = Unit {0}
MayOpen untyped_body xs = Unit {0}

-- a body that takes any items
abbrev pub IsList : Body → Type 0
IsList table_body = ⊥
IsList array_body = Unit {0}
IsList untyped_body = Unit {0}

list_may_open : (body : Body) (xs : List Item) → IsList body → MayOpen body xs
list_may_open table_body xs h = absurd h
list_may_open array_body xs h = tt
list_may_open untyped_body xs h = tt

pub opens_next : (title : Title) (body : Body) (xs : List Item) (around : List Frame)
    → MayOpen body xs
    → next (inside (open_at title body xs around)) opening ≡ Some
    (inside (within untyped_body (open_at title body xs around)))
opens_next title table_body xs around h =
    ap (in_table (open_at title table_body xs around) opening) h
opens_next title array_body xs around h = refl
opens_next title untyped_body xs around h = refl

-- where a group may open, its type may stand first
pub type_next : (title : Title) (body : Body) (xs : List Item) (around : List Frame) (kind : Kind)
    → MayOpen body xs
    → next (inside (open_at title body xs around)) (a_type kind) ≡ Some
    (typed kind (open_at title body xs around))
type_next title table_body xs around kind h =
    ap (in_table (open_at title table_body xs around) (a_type kind)) h
type_next title array_body xs around kind h = refl
type_next title untyped_body xs around kind h = refl

string_next : (title : Title) (body : Body) (xs : List Item) (around : List Frame) (s : List ℕ)
    → IsList body
    → next (inside (open_at title body xs around)) (a_text s) ≡ Some
    (inside (open_at title body (items.plain (items.string_term s) ∷ xs) around))
string_next title table_body xs around s h = absurd h
string_next title array_body xs around s h = refl
string_next title untyped_body xs around s h = refl

comma_next : (title : Title) (body : Body) (xs : List Item) (around : List Frame) (m : Term)
    → IsList body
    → next (inside (open_at title body (items.plain m ∷ xs) around)) a_comma ≡ Some
    (inside (open_at title body (before_comma m ∷ xs) around))
comma_next title table_body xs around m h = absurd h
comma_next title array_body xs around m h = refl
comma_next title untyped_body xs around m h = refl

module _ (text : List ℕ) where
  -- the numbers of a vector
  pub run_numbers : (from to : ℕ) (ns : List ℕ) (o : Open) → Numbers text from to ns
      → At text from (in_vector at_start [] o) → At text to (in_vector after_number ns o)
  run_numbers from to ns o (first_number i _ v n skip) at =
      further text from i to _ _ (a_number v) number_class at (class_number text from i v n)
      (v, n, refl) refl skip
  run_numbers from to ns o (next_number i j k _ v ms rest h skip n skip') at =
      let here : At text i (in_vector after_number ms o) = run_numbers from i ms o rest at in
      let comma : At text j (in_vector after_comma ms o) = further text i
      (i + 1) j _ _ a_comma comma_class here
      (byte_class text neither i ascii.comma comma_class h refl)
      (refl, refl) refl skip in
      further text j k to _ _ (a_number v) number_class comma (class_number text j k v n)
      (v, n, refl) refl skip'

  -- a vector and its `}`
  run_vector : (from to last : ℕ) (ns : List ℕ) (o : Open) → Vector text from to ns
      → At text from (in_vector at_start [] o) → slice_index text to ≡ ascii.right_brace
      → Skip text (to + 1) last
      → At text last (inside (with_term (items.group_term (int_vector ns) []) o))
  run_vector from to last ns o empty at h skip =
      further text from (from + 1) last _ _ closing close_class at
      (byte_class text lex.numbers from ascii.right_brace close_class h refl) (refl, refl) refl skip
  run_vector from to last ns o (lone_comma _ c skip') at h skip =
      let here : At text to (in_vector after_lone_comma [] o) = further text from
      (from + 1) to _ _ a_comma comma_class at
      (byte_class text lex.numbers from ascii.comma comma_class c refl) (refl, refl) refl skip' in
      further text to (to + 1) last _ _ closing close_class here
      (byte_class text neither to ascii.right_brace close_class h refl) (refl, refl) refl skip
  run_vector from to last ns o (numbers _ _ n) at h skip =
      further text to (to + 1) last _ _ closing close_class (run_numbers from to ns o n at)
      (byte_class text neither to ascii.right_brace close_class h refl) (refl, refl) refl skip
  run_vector from to last ns o (numbers_comma i _ _ n c skip') at h skip =
      let here : At text to (in_vector after_comma ns o) = further text i
      (i + 1) to _ _ a_comma comma_class (run_numbers from i ns o n at)
      (byte_class text neither i ascii.comma comma_class c refl) (refl, refl) refl skip' in
      further text to (to + 1) last _ _ closing close_class here
      (byte_class text lex.numbers to ascii.right_brace close_class h refl) (refl, refl) refl skip

  close_filled : (to last : ℕ) (t : Tree) (o : Open) → At text to (filled t o)
      → slice_index text to ≡ ascii.right_brace → Skip text (to + 1) last
      → At text last (inside (with_term (items.group_term t []) o))
  close_filled to last t o at h skip =
      further text to (to + 1) last _ _ closing close_class at
      (byte_class text neither to ascii.right_brace close_class h refl) (refl, refl) refl skip

  -- the content of a typed group and its `}`
  pub run_content : (from to last : ℕ) (kind : Kind) (t : Tree) (o : Open)
      → LeafContent text from to kind t → At text from (begun_as kind o)
      → slice_index text to ≡ ascii.right_brace → Skip text (to + 1) last
      → At text last (inside (with_term (items.group_term t []) o))
  run_content from to last kind t o (string_content i s w skip') at h skip =
      close_filled to last (string s) o (further text from i to _ _ (a_text s) text_class at
      (class_text text from i s w) (s, w, refl) refl skip') h skip
  run_content from to last kind t o (binary_content i s bytes w e skip') at h skip =
      close_filled to last (binary bytes) o (further text from i to (in_binary o)
      (filled (binary bytes) o) (a_text s) text_class at (class_text text from i s w)
      (s, w, refl) (ap (option_map (λ bs. filled (binary bs) o)) e) skip') h skip
  run_content from to last kind t o (integer_content i v n skip') at h skip =
      close_filled to last (integer (v % 2 ^ 28)) o (further text from i to _ _
      (a_number v) number_class at (class_number text from i v n)
      (v, n, refl) refl skip') h skip
  run_content from to last kind t o (vector_content ns v) at h skip =
      run_vector from to last ns o v at h skip

  -- a type and its `{`
  pub run_opening : (from to : ℕ) (kind : Kind) (title : Title) (body : Body) (xs : List Item)
      (around : List Frame)
      → TypedOpening text from kind to → MayOpen body xs
      → At text from (inside (open_at title body xs around))
      → At text to (begun_as kind (open_at title body xs around))
  run_opening from to kind title body xs around head may at =
      let type : At text head.brace
      (typed kind (open_at title body xs around)) = further text from head.ends head.brace _ _
      (a_type kind) type_class at
      (byte_class text neither from ascii.colon type_class head.named.stands.colon refl)
      (kind, head.named, refl) (type_next title body xs around kind may) head.between in
      further text head.brace (head.brace + 1) to _ _ opening open_class type
      (byte_class text neither head.brace ascii.left_brace open_class head.opens refl)
      (refl, refl) refl head.after

  mutual
    run_list : (from to : ℕ) (xs : List Item) → Items text from to xs → (body : Body) → IsList body
        → (title : Title) (around : List Frame)
        → At text from (inside (open_at title body [] around))
        → At text to (inside (open_at title body xs around))
    run_list from to xs (nothing _) body list title around at = at
    run_list from to xs (string_item _ i j _ ys s rest w skip) body list title around at =
        further text i j to _ _ (a_text s) text_class
        (run_list from i ys rest body list title around at) (class_text text i j s w)
        (s, w, refl) (string_next title body ys around s list) skip
    run_list from to xs (group_item _ i j _ ys t ks rest g skip) body list title around at =
        run_group i j t ks g title body ys around (list_may_open body ys list)
        (run_list from i ys rest body list title around at) to skip
    run_list from to xs (comma _ i _ ys m rest h skip) body list title around at =
        further text i (i + 1) to _ _ a_comma comma_class
        (run_list from i (items.plain m ∷ ys) rest body list title around at)
        (byte_class text neither i ascii.comma comma_class h refl) (refl, refl)
        (comma_next title body ys around m list) skip

    run_table : (from to : ℕ) (xs : List Item) → Items text from to xs → is_half xs ≡ true
        → (title : Title) (around : List Frame)
        → At text from (inside (open_at title table_body [] around))
        → At text to (inside (open_at title table_body xs around))
    run_table from to xs (nothing _) h title around at = at
    run_table from to xs (string_item _ i j _ ys s rest w skip) h title around at =
        further text i j to _ _ (a_text s) text_class
        (run_table from i ys rest (half-pairs ys h) title around at)
        (class_text text i j s w) (
          s,
          w,
          refl,
        ) (ap (in_table (open_at title table_body ys around) (a_text s))
        (key_place-pairs ys h)) skip
    run_table from to xs (group_item _ i j _ ys t ks rest g skip) h title around at =
        run_group i j t ks g title table_body ys around (half-group ys h).1
        (run_table from i ys rest (half-group ys h).0 title around at) to skip
    run_table from to xs (comma _ i _ ys m rest k skip) h title around at = absurd (no_comma m ys h)

    pub run_group : (from to : ℕ) (t : Tree) (ks : List (List ℕ)) → Group text from to t ks
        → (title : Title) (body : Body) (ys : List Item) (around : List Frame) → MayOpen body ys
        → At text from (inside (open_at title body ys around))
        → (last : ℕ) → Skip text to last
        → At text last
        (inside (open_at title body (items.plain (items.group_term t ks) ∷ ys) around))
    run_group from to t ks
        (untyped _ i k xs h skip inner h') title body ys around may at last after =
        let opened : At text i
        (inside (within untyped_body (open_at title body ys around))) = further text from
        (from + 1) i _ _ opening open_class at
        (byte_class text neither from ascii.left_brace open_class h refl) (refl, refl)
        (opens_next title body ys around may) skip in
        let full : At text k (inside (open_at title untyped_body xs (record {
          body = body;
          items = ys;
        } ∷ around))) = run_list i k xs inner untyped_body tt title
        (record {
          body = body;
          items = ys;
        } ∷ around) opened in
        further text k (k + 1) last _ _ closing close_class full
        (byte_class text neither k ascii.right_brace close_class h' refl) (refl, refl) refl after
    run_group from to t ks
        (typed_table _ i k xs head inner pairs h') title body ys around may at last after =
        let opened : At text i (inside (within table_body (open_at title body ys around))) =
        run_opening from i table_kind title body ys around head may at in
        let full : At text k (inside (open_at title table_body xs (record {
          body = body;
          items = ys;
        } ∷ around))) = run_table i k xs inner (half-pairs xs pairs) title
        (record {
          body = body;
          items = ys;
        } ∷ around) opened in
        further text k (k + 1) last _ _ closing close_class full
        (byte_class text neither k ascii.right_brace close_class h' refl) (
          refl,
          refl,
        ) (ap (in_table (open_at title table_body xs (record { body = body; items = ys } ∷ around))
        closing) (key_place-pairs xs pairs)) after
    run_group from to t ks
        (typed_array _ i k xs head inner h') title body ys around may at last after =
        let opened : At text i (inside (within array_body (open_at title body ys around))) =
        run_opening from i array_kind title body ys around head may at in
        let full : At text k (inside (open_at title array_body xs (record {
          body = body;
          items = ys;
        } ∷ around))) = run_list i k xs inner array_body tt title
        (record {
          body = body;
          items = ys;
        } ∷ around) opened in
        further text k (k + 1) last _ _ closing close_class full
        (byte_class text neither k ascii.right_brace close_class h' refl) (refl, refl) refl after
    run_group from to t ks
        (typed_leaf _ i k kind _ head content h') title body ys around may at last after =
        run_content i k last kind t (open_at title body ys around) content
        (run_opening from i kind title body ys around head may at) h' after

  pub complete : (name : List ℕ) (fallback : Bool) (tree : Tree) (keys : List (List ℕ))
      → (b : BundleText text name fallback tree keys)
      → At text (length text) (finished (record { name = name; fallback = fallback }) b.items)
  complete name fallback tree keys b =
      let opened : At text b.first (inside (open_at
      (record { name = name; fallback = fallback }) table_body []
      [])) = header_at text name fallback b.first b.header in
      let full : At text b.last (inside (open_at (record {
        name = name;
        fallback = fallback;
      }) table_body b.items [])) = run_table b.first b.last b.items
      b.body (half-pairs b.items b.pairs) (record {
        name = name;
        fallback = fallback;
      }) [] opened in
      further text b.last (b.last + 1) (length text) _ _ closing close_class full
      (byte_class text neither b.last ascii.right_brace close_class b.closes refl) (
        refl,
        refl,
      ) (ap (in_table (open_at (record { name = name; fallback = fallback }) table_body b.items [])
      closing) (key_place-pairs b.items b.pairs)) b.after
