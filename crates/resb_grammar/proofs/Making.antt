-- What a reading makes, token by token.
use Rattle.std.proofs.Common.{◌≡◌, ℕ, suc, ◌+◌, ◌%◌, ◌^◌, ◌<◌, Bool, true, List, [], ◌∷◌, refl}
use Rattle.std.proofs.Common.{◌∙◌, ap, subst, arith, Some, length-append}
use Rattle.std.specs.Option.{option_map}
use Rattle.resb_tree.specs.Tree.{Tree, string, int_vector, binary, integer}
use Rattle.resb_grammar.specs.Lexical.{Skip}
use Rattle.resb_grammar.specs.GroupTypes.{Kind, TypedOpening}
use Rattle.resb_grammar.specs.Group.{Numbers, first_number, next_number, Vector, empty, lone_comma}
use Rattle.resb_grammar.specs.Group.{numbers, numbers_comma, LeafContent, string_content}
use Rattle.resb_grammar.specs.Group.{binary_content, integer_content, vector_content}
use Rattle.resb_grammar.specs.BundleText.{Typing, without, with, Header}
use Rattle.resb_grammar.specs.Machine.{Token, a_text, a_number, opening, closing, a_comma, a_type}
use Rattle.resb_grammar.specs.Machine.{a_root_type, Means, Open, State, start, named, titled}
use Rattle.resb_grammar.specs.Machine.{inside}
use Rattle.resb_grammar.specs.Machine.{typed, in_binary, filled, in_vector, at_start, after_number}
use Rattle.resb_grammar.specs.Machine.{after_lone_comma, after_comma, next, begun_as, with_leaf}
use Rattle.resb_grammar.specs.Machine.{at_root, begun, went, At}
use Rattle.resb_grammar.specs.Limit.{made_by, leaf_bytes, begun_bytes, Makes, MakesMore}
use Rattle.resb_grammar.specs.declared.limit.Limit.{Limit}
use Rattle.resb_grammar.specs.declared.limit.Weights.{Weights}
use Rattle.resb_grammar.specs.Inner.Content.{content_bytes}
use Rattle.resb_grammar.proofs.Numbers.{plus_no_bytes}

-- a reading that makes something is a reading
pub reading_of : {w : Weights} (text : List ℕ) (n at : ℕ) (s : State) → Makes w text n at s
    → At text at s
reading_of text n at s m = record { tokens = m.tokens; path = m.path }

module _ (w : Weights) (text : List ℕ) where
  -- before the `}` of a group that holds no items, whose content is made
  pub record BeforeBrace (n to : ℕ) (t : Tree) (o : Open) : Type 0 where
    pub state : State
    pub made : Makes w text (n + content_bytes t) to state
    pub moves : next state closing ≡ Some (with_leaf t o)
    pub adds : made_by w state closing ≡ leaf_bytes w t

module _ {w : Weights} (text : List ℕ) where
  -- one more token
  pub makes_on : (n m from ends to : ℕ) (s u : State) (t : Token) → Makes w text n from s
      → m ≡ n + made_by w s t → Means text from ends t → next s t ≡ Some u → Skip text ends to
      → Makes w text m to u
  makes_on n m from ends to s u t made e means moves after = record {
    tokens = suc made.tokens;
    path = went made.tokens from to s u made.path (record {
      ends = ends;
      move = record { token = t; means = means; moves = moves };
      after = after;
    });
    sum = e ∙ ap (λ k. k + made_by w s t) made.sum;
  }

  -- the numbers of a vector, for each of which 4 bytes are made
  pub makes_numbers : (n from to : ℕ) (ns : List ℕ) (o : Open) → Numbers text from to ns
      → Makes w text n from (in_vector at_start [] o)
      → Makes w text (n + content_bytes (int_vector ns)) to (in_vector after_number ns o)
  makes_numbers n from to ns o (first_number i _ v number skip) made =
      makes_on n (n + 8) from i to _ _ (a_number v) made refl number refl skip
  makes_numbers n from to ns o (next_number i j k _ v ms rest h skip number skip') made =
      let before = n + content_bytes (int_vector ms) in
      let here : Makes w text before i (in_vector after_number ms o) =
      makes_numbers n from i ms o rest made in
      let comma : Makes w text before j (in_vector after_comma ms o) = makes_on before before i
      (i + 1) j _ _ a_comma here (plus_no_bytes before) (h, refl) refl skip in
      makes_on before (n + content_bytes (int_vector ns)) j k to _ _ (a_number v) comma
      (omega (arith, length-append ms (v ∷ []))) number refl skip'

  vector_made : (n from to : ℕ) (ns : List ℕ) (o : Open) → Vector text from to ns
      → Makes w text n from (in_vector at_start [] o) → BeforeBrace w text n to (int_vector ns) o
  vector_made n from to ns o empty made = record {
    state = in_vector at_start [] o;
    made = subst (λ k. Makes w text k from (in_vector at_start [] o)) (plus_no_bytes n) made;
    moves = refl;
    adds = refl;
  }
  vector_made n from to ns o (lone_comma _ c skip) made = record {
    state = in_vector after_lone_comma [] o;
    made = makes_on n (n + 0) from (from + 1) to _ _ a_comma made refl (c, refl) refl skip;
    moves = refl;
    adds = refl;
  }
  vector_made n from to ns o (numbers _ _ rest) made = record {
    state = in_vector after_number ns o;
    made = makes_numbers n from to ns o rest made;
    moves = refl;
    adds = refl;
  }
  vector_made n from to ns o (numbers_comma i _ _ rest c skip) made = record {
    state = in_vector after_comma ns o;
    made =
        makes_on _ _ i (i + 1) to _ _ a_comma (makes_numbers n from i ns o rest made)
        (plus_no_bytes (n + content_bytes (int_vector ns))) (c, refl) refl skip;
    moves = refl;
    adds = refl;
  }

  -- the content of a typed group
  pub content_made : (n from to : ℕ) (kind : Kind) (t : Tree) (o : Open)
      → LeafContent text from to kind t → Makes w text n from (begun_as kind o)
      → BeforeBrace w text n to t o
  content_made n from to kind t o (string_content i s w skip) made = record {
    state = filled (string s) o;
    made = makes_on n (n + 0) from i to _ _ (a_text s) made refl w refl skip;
    moves = refl;
    adds = refl;
  }
  content_made n from to kind t o (binary_content i s bytes w e skip) made = record {
    state = filled (binary bytes) o;
    made =
        makes_on n (n + 0) from i to (in_binary o) _ (a_text s) made refl w
        (ap (option_map (λ bs. filled (binary bs) o)) e) skip;
    moves = refl;
    adds = refl;
  }
  content_made n from to kind t o (integer_content i v w skip) made = record {
    state = filled (integer (v % 2 ^ 28)) o;
    made = makes_on n (n + 0) from i to _ _ (a_number v) made refl w refl skip;
    moves = refl;
    adds = refl;
  }
  content_made n from to kind t o (vector_content ns v) made = vector_made n from to ns o v made

  -- a type and its `{`: up to the `{`, and what it leads to
  pub opening_made : (n from to : ℕ) (kind : Kind) (o : Open) → (h : TypedOpening text from kind to)
      → next (inside o) (a_type kind) ≡ Some (typed kind o) → Makes w text n from (inside o)
      → Makes w text n h.brace (typed kind o)
  opening_made n from to kind o h may made =
      makes_on n n from h.ends h.brace _ _ (a_type kind) made
      (plus_no_bytes n) h.named may h.between

  -- a group with a type is begun, and what it takes is counted
  pub begun_made : (n m from to : ℕ) (kind : Kind) (o : Open) → (h : TypedOpening text from kind to)
      → next (inside o) (a_type kind) ≡ Some (typed kind o) → Makes w text n from (inside o)
      → m ≡ n + begun_bytes w kind → Makes w text m to (begun_as kind o)
  begun_made n m from to kind o h may made e =
      makes_on n m h.brace (h.brace + 1) to _ _ opening (opening_made n from to kind o h may made) e
      (h.opens, refl) refl h.after

module _ (w : Weights) (text : List ℕ) where
  -- before the first token nothing is made
  pub makes_none : (at : ℕ) → Skip text 0 at → Makes w text 0 at start
  makes_none at skip = record { tokens = 0; path = begun at skip; sum = refl }

  -- before the root's `{`
  pub record BeforeRoot (brace : ℕ) (name : List ℕ) (fallback : Bool) : Type 0 where
    pub state : State
    pub made : Makes w text 0 brace state
    pub moves : next state opening ≡ Some
        (inside (at_root (record { name = name; fallback = fallback })))
    pub adds : made_by w state opening ≡ w.group

  root_made : (name : List ℕ) (fallback : Bool) (to : ℕ) → (h : Header text name fallback to)
      → BeforeRoot h.brace name fallback
  root_made name fallback to h =
      go fallback h.brace h.typed
      (makes_on text 0 0 h.start h.ends h.place _ (named name) (a_text name)
      (makes_none h.start h.before) refl h.named refl h.between)
    where
      go : (f : Bool) (brace : ℕ) → Typing text h.place brace f
          → Makes w text 0 h.place (named name) → BeforeRoot brace name f
      go true brace (without e) made = record {
        state = named name;
        made = subst (λ n. Makes w text 0 n (named name)) e made;
        moves = refl;
        adds = refl;
      }
      go f brace (with i _ t skip) made = record {
        state = titled (record { name = name; fallback = f });
        made = makes_on text 0 0 h.place i brace _ _ (a_root_type f) made refl t refl skip;
        moves = refl;
        adds = refl;
      }

  -- the root is open, for which a group is counted
  pub root_opened : (name : List ℕ) (fallback : Bool) (to : ℕ) → Header text name fallback to
      → Makes w text w.group to (inside (at_root (record { name = name; fallback = fallback })))
  root_opened name fallback to h =
      let b = root_made name fallback to h in
      let adds = b.adds in
      makes_on text 0 w.group h.brace (h.brace + 1) to _ _ opening b.made (omega (arith, adds))
      (h.opens, refl) b.moves h.after

module _ (text : List ℕ) where
  -- more than the limit by this token
  pub makes_more : (n : ℕ) (limit : Limit) (from ends : ℕ) (s u : State) (t : Token)
      → Makes limit.weights text n from s → Means text from ends t → next s t ≡ Some u
      → limit.bytes < n + made_by limit.weights s t → MakesMore text limit
  makes_more n limit from ends s u t made means moves more = record {
    at = from;
    state = s;
    bytes = n;
    ends = ends;
    after = u;
    made = made;
    move = record { token = t; means = means; moves = moves };
    more = more;
  }

  -- a limit below the root's own group is passed at once
  pub root_over : (name : List ℕ) (fallback : Bool) (to : ℕ) (limit : Limit)
      → Header text name fallback to → limit.bytes < limit.weights.group → MakesMore text limit
  root_over name fallback to limit h less =
      let b = root_made limit.weights text name fallback to h in
      let adds = b.adds in
      makes_more 0 limit h.brace (h.brace + 1) _ _ opening b.made (h.opens, refl) b.moves
      (omega (arith, adds, less))
