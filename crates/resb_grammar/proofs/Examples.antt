-- Accepted and refused texts, by the definitions alone.
use Rattle.std.proofs.Common.{◌≡◌, ◌≢◌, ℕ, zero, suc, ◌+◌, ◌<◌, ◌≤◌, Bool, true, false, List, []}
use Rattle.std.proofs.Common.{◌∷◌, length, refl, sym, subst, ◌∙◌, arith, inl, inr, Some, None, lit≤}
use Rattle.std.specs.Prelude.{◌&&◌, ◌==◌, not, slice_index, slice_range, codes}
use Rattle.std.proofs.lemmas.Bool.{false≢true, and_parts}
use Rattle.std.proofs.lemmas.Bool.Decides.{nat_tests}
use Rattle.std.specs.Char.{is_ascii_digit}
use Rattle.resb_tree.specs.Tree.{Tree, string, array, table, binary, integer, trees_of, map_of}
use Rattle.resb_grammar.specs.ByteRuns.{is_white, is_word, Run}
use Rattle.resb_grammar.specs.Lexical.{Comment, line, block, none, comment, Skip, Text, quoted}
use Rattle.resb_grammar.specs.Lexical.{unquoted, Number, unsigned, plus, minus}
use Rattle.resb_grammar.specs.Items as items
use Rattle.resb_grammar.specs.GroupTypes.{string_kind, integer_kind, vector_kind, GroupType}
use Rattle.resb_grammar.specs.GroupTypes.{RootType}
use Rattle.resb_grammar.specs.GroupTypes.{no_fallback_type}
use Rattle.resb_grammar.specs.Group.{hex_bytes, first_number, Vector, numbers_comma, nothing}
use Rattle.resb_grammar.specs.Group.{string_item, group_item, Group, untyped}
use Rattle.resb_grammar.specs.BundleText.{first_places, without, BundleText}
use Rattle.resb_grammar.specs.Machine.{Token, a_text, a_number, opening, closing, a_comma}
use Rattle.resb_grammar.specs.Machine.{table_body, array_body, untyped_body, Frame, Title, Open}
use Rattle.resb_grammar.specs.Machine.{at_start, after_lone_comma, after_number, after_comma, start}
use Rattle.resb_grammar.specs.Machine.{named, titled, inside, typed, in_string, in_binary}
use Rattle.resb_grammar.specs.Machine.{in_integer, filled, in_vector, finished, with_term}
use Rattle.resb_grammar.specs.Machine.{at_root, within, next, At}
use Rattle.resb_grammar.specs.Stuck.{expectation, NoToken, Stuck, blocked}
use Rattle.resb_grammar.specs.Limit.{made_by, tree_limit}
use Rattle.resb_grammar.specs.declared.limit.Weights.{Weights}
use Rattle.resb_grammar.specs.declared.expected.Expected.TheVariants as expect
use Rattle.resb_grammar.proofs.ByteRunsLemmas.{Run-one}
use Rattle.resb_grammar.proofs.FirstBytes.{lex_of}
use Rattle.resb_grammar.proofs.Moves.{begin, further, none_some}

-- in the root of a bundle of this name, after these items
abbrev in_root : List ℕ → List items.Item → Rattle.resb_grammar.specs.Machine.State
in_root name xs =
    inside (record {
      title = record { name = name; fallback = true };
      frame = record { body = table_body; items = xs };
      around = [];
    })

-- n bytes pass, and the next does not
abbrev passes : (ℕ → Bool) → List ℕ → ℕ → ℕ → Bool
passes p text from zero = true
passes p text from (suc n) = p (slice_index text from) && passes p text (suc from) n

each_passes : (p : ℕ → Bool) (text : List ℕ) (from n k : ℕ) → passes p text from n ≡ true → from ≤ k
    → k < from + n → p (slice_index text k) ≡ true
each_passes p text from zero k h low high = absurd (omega arith)
each_passes p text from (suc n) k h low high =
    cases (k == from) refl
    (λ low' high'. each_passes p text (suc from) n k (and_parts _ _ h).1 low' high')
  where
    cases : (b : Bool) → (k == from) ≡ b
        → (suc from ≤ k → k < suc from + n → p (slice_index text k) ≡ true)
        → p (slice_index text k) ≡ true
    cases true e more =
        let same : from ≡ k = grind (arith, nat_tests) in
        subst (λ i. p (slice_index text i) ≡ true) same (and_parts _ _ h).0
    cases false e more =
        let other : k ≢ from = grind (arith, nat_tests) in more (omega arith) (omega arith)

run_of : (p : ℕ → Bool) (text : List ℕ) (from n : ℕ) → passes p text from n ≡ true
    → p (slice_index text (from + n)) ≡ false → from + n ≤ length text → Run p text from (from + n)
run_of p text from n h stop fits =
    record {
      order = omega arith;
      fits = fits;
      each = λ k low high. each_passes p text from n k h low high;
      longest = stop;
    }

-- nothing is discarded where a byte other than white and `/` stands
stays : (text : List ℕ) (at : ℕ) → is_white (slice_index text at) ≡ false → slice_index text at ≢ 47
    → Skip text at at
stays text at h ne =
    record { blanks = none at; solid = record { no_white = h; no_comment = never } }
  where
    never : (k : ℕ) → Comment text at k → ⊥
    never k (line a b c) = ne a
    never k (block i a b c d) = ne a

-- a run of n word characters
word_at : (text : List ℕ) (from n : ℕ) → passes is_word text from n ≡ true
    → is_word (slice_index text (from + n)) ≡ false → from + n ≤ length text → 0 < n
    → Text text from (from + n) (slice_range text from (from + n))
word_at text from n h stop fits some =
    unquoted (run_of is_word text from n h stop fits) (omega arith) refl

-- words, white characters
white_examples : (is_white 32 ≡ true) × (is_white 10 ≡ true) × (is_white 11 ≡ false)
    × (is_word 45 ≡ true) × (is_word 95 ≡ false) × (is_ascii_digit 57 ≡ true)
    × (is_ascii_digit 47 ≡ false)
white_examples = (refl, refl, refl, refl, refl, refl, refl)

-- hex digits come in pairs, of either case
hex_examples : (hex_bytes (codes "00fF") ≡ Some (0 ∷ 255 ∷ [])) × (hex_bytes [] ≡ Some [])
    × (hex_bytes (codes "0") ≡ None) × (hex_bytes (codes "1g") ≡ None)
    × (hex_bytes (codes "00 ff") ≡ None)
hex_examples = (refl, refl, refl, refl, refl)

-- one string without a comma is a string, with one an array; pairs are a table
shape_examples : (x y : List ℕ) (t : Tree) (ks : List (List ℕ)) →
    (items.shape_of (items.plain (items.string_term x) ∷ []) ≡ items.a_string x)
    × (items.shape_of (items.before_comma (items.string_term x) ∷ []) ≡ items.an_array)
    × (items.shape_of [] ≡ items.a_table)
    × (items.shape_of (items.plain (items.group_term t ks) ∷ items.plain (items.string_term x) ∷
    []) ≡ items.a_table)
    × (items.shape_of (items.before_comma (items.group_term t ks) ∷ items.plain
    (items.string_term x) ∷ []) ≡ items.an_array)
    × (items.shape_of (items.plain (items.string_term y) ∷ items.plain (items.string_term x) ∷
    []) ≡ items.an_array)
    × (items.shape_of (items.plain (items.group_term t ks) ∷ []) ≡ items.an_array)
shape_examples x y t ks = (refl, refl, refl, refl, refl, refl, refl)

-- a later pair of an equal key stands; keys of arrays are those of their groups
tree_examples :
    (items.tree_in items.a_table (items.plain
    (items.group_term (string (codes "2")) []) ∷ items.plain
    (items.string_term (codes "a")) ∷ items.plain
    (items.group_term (string (codes "1")) []) ∷ items.plain
    (items.string_term (codes "a")) ∷ []) ≡ table (map_of
    ((codes "a", string (codes "2")) ∷ [])))
    × (items.tree_in items.an_array (items.plain (items.string_term (codes "z")) ∷ items.plain
    (items.string_term (codes "x")) ∷ []) ≡ array (trees_of
    (string (codes "x") ∷ string (codes "z") ∷ [])))
    × (items.keys_in items.an_array (items.before_comma
    (items.group_term (string []) (codes "k" ∷ [])) ∷ items.plain
    (items.string_term (codes "x")) ∷ []) ≡ codes "k" ∷ [])
    × (items.keys_in items.a_table (items.plain
    (items.group_term (string []) (codes "k" ∷ [])) ∷ items.plain
    (items.string_term (codes "x")) ∷ []) ≡ codes "x" ∷ codes "k" ∷ [])
    × (first_places (codes "a" ∷ codes "x" ∷ codes "a" ∷ []) ≡ codes "a" ∷ codes "x" ∷ [])
tree_examples = (refl, refl, refl, refl, refl)

-- 4294967295 is a number, one more is none, and -1 is 4294967295
number_accepted : Number (codes "4294967295") 0 10 4294967295
number_accepted =
    unsigned (record {
      run = run_of is_ascii_digit (codes "4294967295") 0 10 refl refl (lit≤ tt);
      some = omega arith;
      means = refl;
    }) (lit≤ tt)

number_minus : Number (codes "-1") 0 2 4294967295
number_minus =
    minus 1 refl (record {
      run = run_of is_ascii_digit (codes "-1") 1 1 refl refl (lit≤ tt);
      some = omega arith;
      means = refl;
    }) (lit≤ tt) refl

number_refused : (to v : ℕ) → Number (codes "4294967296") 0 to v → ⊥
number_refused to v (plus h d low) = absurd (omega arith)
number_refused to v (minus n h d low is) = absurd (omega arith)
number_refused to v (unsigned d low) =
    let e : to ≡ 10 = Run-one is_ascii_digit (codes "4294967296") 0 to 10 d.run
    (run_of is_ascii_digit (codes "4294967296") 0 10 refl refl (lit≤ tt)) in
    let is : v ≡ 4294967296 = rw e at d.means in
    omega arith

-- a comment up to the first closer is skipped, an open one is not
comment_accepted : Skip (codes "/**/*/") 0 4
comment_accepted = record {
  blanks =
      comment 0 4 4 (block 2 refl refl (record {
        order = omega arith;
        closer = record { star = refl; slash = refl };
        first = λ k low high h. absurd (omega arith);
      }) refl) (none 4);
  solid = (stays (codes "/**/*/") 4 refl (λ h. absurd (omega arith))).solid;
}

comment_refused : (to : ℕ) → Comment (codes "/*/") 0 to → ⊥
comment_refused to (line a b c) = absurd (omega arith)
comment_refused to (block at a b f e) = never at f.order f.closer.star f.closer.slash
  where
    never : (at : ℕ) → 2 ≤ at → slice_index (codes "/*/") at ≡ 42
        → slice_index (codes "/*/") (at + 1) ≡ 47 → ⊥
    never zero low h h' = absurd (omega arith)
    never (suc zero) low h h' = absurd (omega arith)
    never (suc (suc zero)) low h h' = absurd (omega arith)
    never (suc (suc (suc n))) low h h' = absurd (omega arith)

-- strings: quoted up to the next quote, or a longest run of word characters
text_quoted : Text (codes "\"x y\"z") 0 5 (codes "x y")
text_quoted =
    quoted 4 refl (record {
      order = omega arith;
      closes = refl;
      inner = λ k low high. no_quote k (r.each k low high);
    }) refl refl
  where
    r : Run (λ b. not (b == 34)) (codes "\"x y\"z") 1 4
    r = run_of (λ b. not (b == 34)) (codes "\"x y\"z") 1 3 refl refl (lit≤ tt)

    no_quote : (k : ℕ) → not (slice_index (codes "\"x y\"z") k == 34) ≡ true
        → slice_index (codes "\"x y\"z") k ≡ 34 → ⊥
    no_quote k h e = grind (arith, nat_tests)

text_refused : (to : ℕ) (s : List ℕ) → Text (codes "_") 0 to s → ⊥
text_refused to s (quoted last h q e is) = absurd (omega arith)
text_refused to s (unquoted r some is) = absurd (false≢true (r.each 0 (omega arith) some))

-- `:int` is a type before `{` and none before a letter
int_accepted : GroupType (codes ":int{") 0 4 integer_kind
int_accepted =
    record {
      name = codes "int";
      stands = record {
        colon = refl;
        run = run_of is_word (codes ":int{") 1 3 refl refl (lit≤ tt);
        means = refl;
      };
      names = inr refl;
    }

int_refused : (to : ℕ) → GroupType (codes ":intx{") 0 to integer_kind → ⊥
int_refused to g = elim g.names [ inl w ↦ wrong (w) | inr w ↦ short (w) ]
  where
    ends : to ≡ 5
    ends =
        Run-one is_word (codes ":intx{") 1 to 5 g.stands.run
        (run_of is_word (codes ":intx{") 1 4 refl refl (lit≤ tt))

    is : g.name ≡ codes "intx"
    is = rw ends at g.stands.means

    wrong : g.name ≡ codes "integer" → ⊥
    wrong e = no_eq (sym is ∙ e)
      where
        no_eq : codes "intx" ≡ codes "integer" → ⊥
        no_eq h = cc

    short : g.name ≡ codes "int" → ⊥
    short e = no_eq (sym is ∙ e)
      where
        no_eq : codes "intx" ≡ codes "int" → ⊥
        no_eq h = cc

-- `:table(nofallback)` at the root
root_type_accepted : RootType (codes ":table(nofallback){") 0 18 false
root_type_accepted =
    no_fallback_type 6 (record {
      colon = refl;
      run = run_of is_word (codes ":table(nofallback){") 1 5 refl refl (lit≤ tt);
      means = refl;
    }) (
      refl,
      (refl, (refl, (refl, (refl, (refl, (refl, (refl, (refl, (refl, (refl, (refl, tt))))))))))),
    ) refl

-- a name, and one entry of one string
bundle_accepted : BundleText (codes "b{k{v}}") (codes "b") true
    (table (map_of ((codes "k", string (codes "v")) ∷ []))) (codes "k" ∷ [])
bundle_accepted = record {
  first = 2;
  last = 6;
  items =
      items.plain (items.group_term (string (codes "v")) []) ∷ items.plain
      (items.string_term (codes "k")) ∷ [];
  header =
      record {
        start = 0;
        ends = 1;
        place = 1;
        brace = 1;
        before = here 0 refl (λ h. absurd (omega arith));
        named = word_at (codes "b{k{v}}") 0 1 refl refl (lit≤ tt) (omega arith);
        between = here 1 refl (λ h. absurd (omega arith));
        typed = without refl;
        opens = refl;
        after = here 2 refl (λ h. absurd (omega arith));
      };
  body =
      group_item 2 3 6 6 _ _ _ (string_item 2 2 3 3 [] (codes "k") (nothing 2)
      (word_at (codes "b{k{v}}") 2 1 refl refl (lit≤ tt) (omega arith))
      (here 3 refl (λ h. absurd (omega arith)))) inner (here 6 refl (λ h. absurd (omega arith)));
  pairs = refl;
  closes = refl;
  after = here 7 refl (λ h. absurd (omega arith));
  means = refl;
  lists = refl;
}
  where
    here : (at : ℕ) → is_white (slice_index (codes "b{k{v}}") at) ≡ false
        → slice_index (codes "b{k{v}}") at ≢ 47 → Skip (codes "b{k{v}}") at at
    here = stays (codes "b{k{v}}")

    inner : Group (codes "b{k{v}}") 3 6 (string (codes "v")) []
    inner =
        untyped 3 4 5 (items.plain (items.string_term (codes "v")) ∷ []) refl (here 4 refl
        (λ h. absurd (omega arith))) (string_item 4 4 5 5 [] (codes "v") (nothing 4)
        (word_at (codes "b{k{v}}") 4 1 refl refl (lit≤ tt) (omega arith))
        (here 5 refl (λ h. absurd (omega arith)))) refl

-- a key without a group is refused at the `}`
bundle_refused : Stuck (codes "b{\"x\"}") 5 expect.LeftBrace
bundle_refused =
    blocked (in_root (codes "b") (items.plain (items.string_term (codes "x")) ∷ []))
    (record { reached = keyed; none = never; no_end = λ h. h; no_digits = λ h. h })
  where
    here : (at : ℕ) → is_white (slice_index (codes "b{\"x\"}") at) ≡ false
        → slice_index (codes "b{\"x\"}") at ≢ 47 → Skip (codes "b{\"x\"}") at at
    here = stays (codes "b{\"x\"}")

    title : At (codes "b{\"x\"}") 1 (named (codes "b"))
    title =
        further (codes "b{\"x\"}") 0 1 1 start (named (codes "b")) (a_text (codes "b")) _
        (begin (codes "b{\"x\"}") 0 (here 0 refl (λ h. absurd (omega arith)))) refl
        (codes "b", word_at (codes "b{\"x\"}") 0 1 refl refl (lit≤ tt) (omega arith), refl) refl
        (here 1 refl (λ h. absurd (omega arith)))

    opened : At (codes "b{\"x\"}") 2 (in_root (codes "b") [])
    opened =
        further (codes "b{\"x\"}") 1 2 2 (named (codes "b"))
        (in_root (codes "b") []) opening _ title refl (refl, refl) refl
        (here 2 refl (λ h. absurd (omega arith)))

    key : Text (codes "b{\"x\"}") 2 5 (codes "x")
    key =
        quoted 4 refl (record {
          order = omega arith;
          closes = refl;
          inner = λ k low high h. absurd (inner k low high h);
        }) refl refl
      where
        inner : (k : ℕ) → 3 ≤ k → k < 4 → slice_index (codes "b{\"x\"}") k ≡ 34 → ⊥
        inner k low high h =
            let e : k ≡ 3 = omega arith in let h' = rw e at h in absurd (omega arith)

    keyed : At (codes "b{\"x\"}") 5
        (in_root (codes "b") (items.plain (items.string_term (codes "x")) ∷ []))
    keyed =
        further (codes "b{\"x\"}") 2 5 5 (in_root (codes "b") []) _
        (a_text (codes "x")) _ opened refl (codes "x", key, refl) refl
        (here 5 refl (λ h. absurd (omega arith)))

    never : NoToken (codes "b{\"x\"}") 5
        (in_root (codes "b") (items.plain (items.string_term (codes "x")) ∷ []))
    never to u m =
        none_some u (subst (λ (t : Token). next (in_root (codes "b")
        (items.plain (items.string_term (codes "x")) ∷ [])) t ≡ Some u) (lex_of (codes
        "b{\"x\"}") 5 to (in_root (codes "b")
        (items.plain (items.string_term (codes "x")) ∷ [])) u m.token m.means m.moves).1 m.moves)

-- `1,` is the content of a vector
vector_accepted : Vector (codes "1,}") 0 2 (1 ∷ [])
vector_accepted =
    numbers_comma 1 2 (1 ∷ [])
    (first_number 1 1 1 one (stays (codes "1,}") 1 refl (λ h. absurd (omega arith)))) refl
    (stays (codes "1,}") 2 refl (λ h. absurd (omega arith)))
  where
    one : Number (codes "1,}") 0 1 1
    one =
        unsigned (record {
          run = run_of is_ascii_digit (codes "1,}") 0 1 refl refl (lit≤ tt);
          some = omega arith;
          means = refl;
        }) (lit≤ tt)

-- two commas, a number after a lone comma, and a number after a number are no content
vector_refused : (ns : List ℕ) (o : Open) →
    (next (in_vector after_comma ns o) a_comma ≡ None)
    × (next (in_vector after_lone_comma ns o) (a_number 1) ≡ None)
    × (next (in_vector after_number ns o) (a_number 1) ≡ None)
    × (next (in_vector after_number ns o) a_comma ≡ Some (in_vector after_comma ns o))
vector_refused ns o = (refl, refl, refl, refl)

-- hex digits are looked at before the `}`; integers are taken modulo 2 ^ 28
leaf_examples : (o : Open) →
    (next (in_binary o) (a_text (codes "00fF")) ≡ Some (filled (binary (0 ∷ 255 ∷ [])) o))
    × (next (in_binary o) (a_text (codes "0")) ≡ None)
    × (next (in_integer o) (a_number 4294967295) ≡ Some (filled (integer 268435455) o))
    × (next (in_integer o) (a_text (codes "x")) ≡ None)
    × (next (typed vector_kind o) opening ≡ Some (in_vector at_start [] o))
    × (next (typed vector_kind o) closing ≡ None)
leaf_examples o = (refl, refl, refl, refl, refl, refl)

-- a list takes one comma after an item, a table none
comma_examples : (t : Title) (around : List Frame) →
    (next (inside (record {
      title = t;
      frame = record { body = array_body; items = [] };
      around = around;
    })) a_comma ≡ None)
    × (next (inside (record {
      title = t;
      frame = record { body = array_body; items = items.before_comma (items.string_term []) ∷ [] };
      around = around;
    })) a_comma ≡ None)
    × (next (inside (record {
      title = t;
      frame = record { body = array_body; items = items.plain (items.string_term []) ∷ [] };
      around = around;
    })) a_comma
    ≡ Some (inside (record {
      title = t;
      frame = record { body = array_body; items = items.before_comma (items.string_term []) ∷ [] };
      around = around;
    })))
    × (next (inside (record {
      title = t;
      frame = record
          { body = table_body; items = items.plain (items.group_term (string []) []) ∷ [] };
      around = around;
    })) a_comma ≡ None)
comma_examples t around = (refl, refl, refl, refl)

-- what tokens add: a root, a string of two bytes, a table with an entry and one without, a group
-- that turns out to be a string, one with a comma, a string of a type, a number of a vector and the
-- vector's `}`, and a type
making_examples : (w : Weights) (t : Title) (o : Open) (ns : List ℕ) (around : List Frame) →
    (made_by (tree_limit 0).weights (titled t) opening ≡ 72)
    × (made_by (tree_limit 0).weights (inside o) (a_text (codes "ab")) ≡ 198)
    × (made_by w (inside (record {
      title = t;
      frame = record {
        body = table_body;
        items =
            items.plain (items.group_term (string []) []) ∷ items.plain (items.string_term []) ∷ [];
      };
      around = around;
    })) closing ≡ w.table)
    × (made_by w (inside (at_root t)) closing ≡ 0)
    × (made_by w (inside (record {
      title = t;
      frame = record { body = untyped_body; items = items.plain (items.string_term []) ∷ [] };
      around = around;
    })) closing ≡ 0)
    × (made_by w (inside (record {
      title = t;
      frame = record
          { body = untyped_body; items = items.before_comma (items.string_term []) ∷ [] };
      around = around;
    })) closing ≡ 0)
    × (made_by w (filled (string (codes "ab")) o) closing ≡ w.group + 6)
    × (made_by w (in_vector after_comma (1 ∷ []) o) (a_number 2) ≡ 8)
    × (made_by w (in_vector after_number (1 ∷ 2 ∷ []) o) closing ≡ w.group + 32)
    × (made_by w (typed vector_kind o) opening ≡ 0)
    × (made_by w (inside o) a_comma ≡ 0)
making_examples w t o ns around = (refl, refl, refl, refl, refl, refl, refl, refl, refl, refl, refl)

-- what is expected, by state and byte: `:` 58, `"` 34, `1` 49, `}` 125, `)` 41
expected_examples : (name : List ℕ) (t : Title) (o : Open) (ns : List ℕ) (around : List Frame) →
    (expectation start 58 ≡ expect.Text)
    × (expectation (named name) 58 ≡ expect.TypeName)
    × (expectation (named name) 41 ≡ expect.LeftBrace)
    × (expectation (titled t) 58 ≡ expect.LeftBrace)
    × (expectation (inside (at_root t)) 34 ≡ expect.Text)
    × (expectation (inside (at_root t)) 58 ≡ expect.RightBrace)
    × (expectation (inside (with_term (items.string_term name) (at_root t))) 58 ≡ expect.TypeName)
    × (expectation (inside (with_term (items.string_term name) (at_root t))) 34 ≡ expect.LeftBrace)
    × (expectation (inside (within untyped_body o)) 34 ≡ expect.Text)
    × (expectation (inside (within untyped_body o)) 58 ≡ expect.TypeName)
    × (expectation (inside (within untyped_body o)) 44 ≡ expect.Item)
    × (expectation (typed string_kind o) 58 ≡ expect.LeftBrace)
    × (expectation (in_string o) 125 ≡ expect.Text)
    × (expectation (in_binary o) 125 ≡ expect.Text)
    × (expectation (in_integer o) 125 ≡ expect.Number)
    × (expectation (filled (string name) o) 34 ≡ expect.RightBrace)
    × (expectation (in_vector at_start ns o) 49 ≡ expect.Number)
    × (expectation (in_vector at_start ns o) 41 ≡ expect.RightBrace)
    × (expectation (in_vector after_lone_comma ns o) 49 ≡ expect.RightBrace)
    × (expectation (in_vector after_number ns o) 49 ≡ expect.RightBrace)
    × (expectation (in_vector after_comma ns o) 45 ≡ expect.Number)
    × (expectation (finished t []) 34 ≡ expect.EndOfText)
expected_examples name t o ns around = (
  refl,
  refl,
  refl,
  refl,
  refl,
  refl,
  refl,
  refl,
  refl,
  refl,
  refl,
  refl,
  refl,
  refl,
  refl,
  refl,
  refl,
  refl,
  refl,
  refl,
  refl,
  refl,
)
