-- A printed tree is a group of the grammar that means that tree.
use Rattle.std.proofs.Common.{◌≡◌, ℕ, ◌+◌, ◌%◌, ◌/◌, ◌*◌, ◌^◌, ◌<◌, Bool, true, false}
use Rattle.std.proofs.Common.{List, [], ◌∷◌}
use Rattle.std.proofs.Common.{◌++◌, refl, sym, ◌∙◌, ap, subst, arith, append_assoc, append-nil}
use Rattle.std.proofs.Common.{Some, inr, zero, suc}
use Rattle.std.specs.Prelude.{slice_index, codes, decimal, ◌==◌, ◌&&◌, not, nat_eq}
use Rattle.std.proofs.Common.{eqb-true}
use Rattle.std.specs.List.Sorted.{IsStrictlySortedBy}
use Rattle.hex.specs.Hex.{encode_lower, encode_with, lower_digits}
use Rattle.std.proofs.lemmas.Bool.{false≢true, and_parts, and_from, or_from}
use Rattle.std.proofs.lemmas.Bool.Decides.{nat_tests}
use Rattle.std.specs.Char.{digit_value}
use Rattle.resb_print.proofs.FreeTrees.{NoQuote, IsFree, AreFree, FreeIn}
use Rattle.resb_tree.specs.Tree.{Tree, string, alias, array, table, binary, integer, int_vector}
use Rattle.resb_tree.specs.Tree.{Trees, no_trees, more_trees, Entries, no_entries, entry, trees_of}
use Rattle.resb_tree.specs.Tree.{map_of}
use Rattle.resb_tree.specs.Maps.{text_cmp, keyed_trees}
use Rattle.resb_tree.specs.LayingOrder.{array_members, entry_keys}
use Rattle.resb_grammar.specs.declared.group_kind.Kind.{Kind}
use Rattle.resb_grammar.specs.declared.group_kind.Kind.TheVariants.{
  Array as array_kind,
  Table as table_kind,
  Binary as binary_kind,
  Integer as integer_kind,
  IntVector as vector_kind,
}
use Rattle.resb_grammar.specs.Ascii as ascii
use Rattle.resb_grammar.specs.ByteRuns.{is_white, is_word}
use Rattle.resb_grammar.specs.Lexical.{Blanks, Skip, IsSolid, Number}
use Rattle.resb_grammar.specs.Items.{Item, Term, string_term, group_term, plain, before_comma}
use Rattle.resb_grammar.specs.Items.{is_pairs, pairs_in, item_trees, term_tree, keys_in}
use Rattle.resb_grammar.specs.Items.{an_array, Shape, shape_of, tree_in}
use Rattle.resb_grammar.specs.GroupTypes.{TypedOpening}
use Rattle.resb_grammar.specs.Group.{is_hex, byte_before}
use Rattle.resb_grammar.specs.Group.{hex_bytes, Numbers, first_number, next_number, Vector, empty}
use Rattle.resb_grammar.specs.Group.{numbers, LeafContent, binary_content, integer_content}
use Rattle.resb_grammar.specs.Group.{vector_content, Items, nothing, string_item, group_item, comma}
use Rattle.resb_grammar.specs.Group.{Group, untyped, typed_table, typed_array, typed_leaf}
use Rattle.resb_print.specs.declared.place.Place.TheVariants.{InTable, InArray}
use Rattle.resb_print.specs.Printed.{deeper, line_on, quoted_on, name_on, numbers_on}
use Rattle.resb_print.specs.Printed.{more_numbers_on, trees_end, entries_end, tree_on, trees_on}
use Rattle.resb_print.specs.Printed.{entries_on, plain_spelling}
use Rattle.resb_print.specs.Held.{IsHeld, AreHeld, HeldIn, AreBelow}
use Rattle.resb_print.proofs.Places.{From, byte_at, from_next, solid_at, no_skip, line_blanks}
use Rattle.resb_print.proofs.Places.{quoted_text_at}
use Rattle.resb_print.proofs.Words.{name_text, opening_at, number_at}
use Rattle.resb_tree.proofs.MapsLemmas.{map_of-keyed_trees}
use Rattle.resb_tree.proofs.LayingOrderLemmas.{trees_of-array_members}
use Rattle.resb_tree.proofs.Numbers.{low_bits_kept}
use Rattle.resb_grammar.proofs.BothReaders.{pairs_are_table}

-- the first byte of a resource behind its key
pub record Starts (bytes : List ℕ) : Type 0 where
  pub b : ℕ
  pub more : List ℕ
  pub is : bytes ≡ b ∷ more
  pub no_word : is_word b ≡ false
  pub no_white : is_white b ≡ false
  pub no_slash : (b == ascii.slash) ≡ false

starts : (n : ℕ) (t : Tree) (rest : List ℕ) → Starts (tree_on plain_spelling InTable n t rest)
starts n (string s) rest = record {
  b = _;
  more = _;
  is = refl;
  no_word = refl;
  no_white = refl;
  no_slash = refl;
}
starts n (alias s) rest = record {
  b = _;
  more = _;
  is = refl;
  no_word = refl;
  no_white = refl;
  no_slash = refl;
}
starts n (array ts) rest = record {
  b = _;
  more = _;
  is = refl;
  no_word = refl;
  no_white = refl;
  no_slash = refl;
}
starts n (table no_entries) rest = record {
  b = _;
  more = _;
  is = refl;
  no_word = refl;
  no_white = refl;
  no_slash = refl;
}
starts n (table (entry k t es)) rest = record {
  b = _;
  more = _;
  is = refl;
  no_word = refl;
  no_white = refl;
  no_slash = refl;
}
starts n (binary bs) rest = record {
  b = _;
  more = _;
  is = refl;
  no_word = refl;
  no_white = refl;
  no_slash = refl;
}
starts n (integer v) rest = record {
  b = _;
  more = _;
  is = refl;
  no_word = refl;
  no_white = refl;
  no_slash = refl;
}
starts n (int_vector ns) rest = record {
  b = _;
  more = _;
  is = refl;
  no_word = refl;
  no_white = refl;
  no_slash = refl;
}

-- each number below passes a test
unfoldable pub all_below : (ℕ → Bool) → ℕ → Bool
all_below p zero = true
all_below p (suc n) = p n && all_below p n

-- a test that all numbers below a bound pass is passed by each of them
pub below_passes : (p : ℕ → Bool) (n d : ℕ) → all_below p n ≡ true → d < n → p d ≡ true
unfolding all_below
below_passes p zero d h l = absurd (omega arith)
below_passes p (suc n) d h l =
    by (nat_eq d n) refl (λ m. below_passes p n d (and_parts (p n) (all_below p n) h).1 m)
  where
    by : (b : Bool) → nat_eq d n ≡ b → (d < n → p d ≡ true) → p d ≡ true
    by true e f = ap p (eqb-true d n e) ∙ (and_parts (p n) (all_below p n) h).0
    by false e f = f (grind (arith, nat_tests))

-- the hex digit of a number below 16
abbrev pub digit_of : ℕ → ℕ
digit_of d = slice_index lower_digits d

is_read_back : ℕ → Bool
is_read_back d =
    is_hex (digit_of d)
    && (nat_eq (digit_value (digit_of d)) d && not (digit_of d == ascii.quote))

all_read_back : all_below is_read_back 16 ≡ true
unfolding all_below is_read_back
all_read_back = refl

pub record ReadsBack (d : ℕ) : Type 0 where
  pub hex : is_hex (digit_of d) ≡ true
  pub value : digit_value (digit_of d) ≡ d
  pub no_quote : (digit_of d == ascii.quote) ≡ false

-- the hex digit of a number below 16 is read back as this number, and is no quote
pub reads_back : (d : ℕ) → d < 16 → ReadsBack d
unfolding is_read_back
reads_back d l =
    let h = below_passes is_read_back 16 d all_read_back l in
    let (a, h2) = and_parts (is_hex (digit_of d)) _ h in
    let (b, c) = and_parts (nat_eq (digit_value (digit_of d)) d) _ h2 in
    record {
      hex = a;
      value = eqb-true (digit_value (digit_of d)) d b;
      no_quote = flip (digit_of d == ascii.quote) c;
    }
  where
    flip : (b : Bool) → not b ≡ true → b ≡ false
    flip true e = absurd (false≢true e)
    flip false e = refl

-- hex digits have no quote among them
pub hex_free : (bs : List ℕ) → AreBelow 256 bs → NoQuote (encode_lower bs)
unfolding encode_with
hex_free [] low = refl
hex_free (b ∷ bs) low =
    let l : b < 256 = low 0 (omega arith) in
    let x = reads_back (b / 16) (omega arith) in
    let y = reads_back (b % 16) (omega arith) in
    or_from (digit_of (b / 16) == ascii.quote) _ x.no_quote
    (or_from (digit_of (b % 16) == ascii.quote) _ y.no_quote
    (hex_free bs (λ k i. low (suc k) (omega arith))))

-- the hex digits of bytes are read back as these bytes
pub hex_read : (bs : List ℕ) → AreBelow 256 bs → hex_bytes (encode_lower bs) ≡ Some bs
unfolding encode_with
hex_read [] low = refl
hex_read (b ∷ bs) low =
    let l : b < 256 = low 0 (omega arith) in
    let x = reads_back (b / 16) (omega arith) in
    let y = reads_back (b % 16) (omega arith) in
    let e : digit_value (digit_of (b / 16)) * 16 + digit_value (digit_of (b % 16)) ≡ b =
    omega (arith, x.value, y.value) in
    let r = hex_read bs (λ k i. low (suc k) (omega arith)) in
    ap (λ t. byte_before t (digit_value (digit_of (b / 16)) * 16 + digit_value (digit_of (b % 16)))
    (hex_bytes (encode_lower bs)))
    (and_from (is_hex (digit_of (b / 16))) (is_hex (digit_of (b % 16))) x.hex y.hex)
    ∙ (λ i. byte_before true (e i) (r i))

module _ (text : List ℕ) where
  -- items behind a `{`, whose content begins at `b`, as far as they are printed
  pub record Gathered (b at : ℕ) (xs : List Item) : Type 0 where
    pub read : (to : ℕ) → Skip text at to → (first : ℕ) × Skip text b first × Items text first to xs

  pub nothing_gathered : (b : ℕ) → Gathered b b []
  nothing_gathered b = record { read = λ to skip. (to, skip, nothing to) }

  pub record GroupAt (at : ℕ) (t : Tree) (rest : List ℕ) : Type 0 where
    pub to : ℕ
    pub keys : List (List ℕ)
    pub group : Group text at to t keys
    pub after : From text to rest

  -- the items of a table or an array are behind those that were read
  pub record EntriesAt (b : ℕ) (xs : List Item) (es : Entries) (rest : List ℕ) : Type 0 where
    pub at : ℕ
    pub items : List Item
    pub gathered : Gathered b at items
    pub pairs : is_pairs items ≡ true
    pub means : pairs_in items ≡ pairs_in xs ++ keyed_trees es
    pub after : From text at rest

  pub record TreesAt (b : ℕ) (xs : List Item) (ts : Trees) (rest : List ℕ) : Type 0 where
    pub at : ℕ
    pub items : List Item
    pub gathered : Gathered b at items
    pub means : item_trees items ≡ item_trees xs ++ array_members ts
    pub after : From text at rest

  -- a `}`, perhaps on a line of its own
  pub record Closes (at : ℕ) (rest : List ℕ) : Type 0 where
    pub place : ℕ
    pub skip : Skip text at place
    pub brace : slice_index text place ≡ ascii.right_brace
    pub after : From text (place + 1) rest

  close_here : {at : ℕ} {rest : List ℕ} → From text at (ascii.right_brace ∷ rest) → Closes at rest
  close_here {at} {rest} h = record {
    place = at;
    skip = no_skip text (solid_at text h refl refl);
    brace = byte_at text h;
    after = from_next text h;
  }

  pub close_line : (n : ℕ) {at : ℕ} {rest : List ℕ}
      → From text at (line_on n (ascii.right_brace ∷ rest)) → Closes at rest
  close_line n {at} {rest} h =
      let (p, blanks, f) = line_blanks text n h in
      record {
        place = p;
        skip = record { blanks = blanks; solid = solid_at text f refl refl };
        brace = byte_at text f;
        after = from_next text f;
      }

  close_trees : (ts : Trees) (n : ℕ) {at : ℕ} {rest : List ℕ} → From text at (trees_end ts n rest)
      → Closes at rest
  close_trees no_trees n h = close_here h
  close_trees (more_trees t ts) n h = close_line n h

  close_entries : (es : Entries) (n : ℕ) {at : ℕ} {rest : List ℕ}
      → From text at (entries_end es n rest) → Closes at rest
  close_entries no_entries n h = close_here h
  close_entries (entry k t es) n h = close_line n h

  -- a number, and what follows it in a vector
  number_read : (n : ℕ) (ns : List ℕ) {at : ℕ} (rest : List ℕ) → n < 2 ^ 32
      → From text at (decimal n ++ more_numbers_on ns (ascii.right_brace ∷ rest))
      → IsSolid text at × ((to : ℕ) × Number text at to n × Skip text to to
      × From text to (more_numbers_on ns (ascii.right_brace ∷ rest)))
  number_read n [] {at} rest low h =
      let (solid, (to, number, f)) = number_at text n ascii.right_brace rest low h refl in
      (solid, (to, number, no_skip text (solid_at text f refl refl), f))
  number_read n (m ∷ ms) {at} rest low h =
      let (solid, (to, number, f)) = number_at text n ascii.comma _ low h refl in
      (solid, (to, number, no_skip text (solid_at text f refl refl), f))

  -- numbers, each behind a comma
  more_read : (ns : List ℕ) {from at : ℕ} {seen : List ℕ} (rest : List ℕ) → AreBelow (2 ^ 32) ns
      → Numbers text from at seen
      → From text at (more_numbers_on ns (ascii.right_brace ∷ rest))
      → (to : ℕ) × Numbers text from to (seen ++ ns) × From text to (ascii.right_brace ∷ rest)
  more_read [] {from} {at} {seen} rest low read h =
      (at, subst (Numbers text from at) (sym (append-nil seen)) read, h)
  more_read (n ∷ ns) {from} {at} {seen} rest low read h =
      let f = from_next text h in
      let (solid, (to, number, skip, f2)) = number_read n ns rest (low 0 (omega arith)) f in
      let (end, all, f3) = more_read ns rest (λ k i. low (suc k) (omega arith))
      (next_number at (at + 1) to to n seen read (byte_at text h) (no_skip text solid) number skip)
      f2 in
      (end, subst (Numbers text from end) (append_assoc seen (n ∷ []) ns) all, f3)

  vector_read : (ns : List ℕ) {at : ℕ} (rest : List ℕ) → AreBelow (2 ^ 32) ns
      → From text at (numbers_on ns (ascii.right_brace ∷ rest))
      → IsSolid text at
      × ((to : ℕ) × Vector text at to ns × From text to (ascii.right_brace ∷ rest))
  vector_read [] {at} rest low h = (solid_at text h refl refl, (at, empty, h))
  vector_read (n ∷ ns) {at} rest low h =
      let (solid, (to, number, skip, f)) = number_read n ns rest (low 0 (omega arith)) h in
      let (end, all, f2) = more_read ns rest (λ k i. low (suc k) (omega arith))
      (first_number to to n number skip) f in
      (solid, (end, numbers end (n ∷ ns) all, f2))

  entry_more : (n : ℕ) (k : List ℕ) (t : Tree) {b at : ℕ} {xs : List Item} {rest : List ℕ}
      → NoQuote k
      → ((p : ℕ) → From text p (tree_on plain_spelling InTable n t rest) → GroupAt p t rest)
      → Gathered b at xs → is_pairs xs ≡ true
      → From text at (line_on n (name_on k (tree_on plain_spelling InTable n t rest)))
      → EntriesAt b xs (entry k t no_entries) rest
  entry_more n k t {b} {at} {xs} {rest} free group g pairs h =
      let (p, blanks, f) = line_blanks text n h in
      let s = starts n t rest in
      let f2 : From text p (name_on k (s.b ∷ s.more)) =
      subst (λ l. From text p (name_on k l)) s.is f in
      let (solid, (q, named, f3)) = name_text text k s.b s.more free f2 s.no_word in
      let (first, skip, items) = g.read p (record { blanks = blanks; solid = solid }) in
      let there : IsSolid text q = solid_at text f3 s.no_white s.no_slash in
      let own = group q (subst (From text q) (sym s.is) f3) in
      record {
        at = own.to;
        items = plain (group_term t own.keys) ∷ plain (string_term k) ∷ xs;
        gathered = record {
          read = λ to after. (
            first,
            skip,
            group_item first q own.to to (plain (string_term k) ∷ xs) t own.keys
                (string_item first p q q xs k items named (no_skip text there)) own.group after,
          );
        };
        pairs = pairs;
        means = refl;
        after = own.after;
      }

  -- the item m stands from p to q, where its comma is
  item_done : {b q : ℕ} {xs : List Item} {rest : List ℕ} (m : Term) (first : ℕ) → Skip text b first
      → Items text first q (plain m ∷ xs) → From text q (ascii.comma ∷ rest)
      → TreesAt b xs (more_trees (term_tree m) no_trees) rest
  item_done {b} {q} {xs} {rest} m first skip items h = record {
    at = q + 1;
    items = before_comma m ∷ xs;
    gathered = record {
      read = λ to after. (first, skip, comma first q to xs m items (byte_at text h) after);
    };
    means = refl;
    after = from_next text h;
  }

  group_done : (t : Tree) {b at p : ℕ} {xs : List Item} {rest : List ℕ} → Gathered b at xs
      → Blanks text at p → IsSolid text p → GroupAt p t (ascii.comma ∷ rest)
      → TreesAt b xs (more_trees t no_trees) rest
  group_done t {b} {at} {p} {xs} {rest} g blanks solid own =
      let (first, skip, items) = g.read p (record { blanks = blanks; solid = solid }) in
      let there : IsSolid text own.to = solid_at text own.after refl refl in
      item_done (group_term t own.keys) first skip
      (group_item first p own.to own.to xs t own.keys items own.group (no_skip text there))
      own.after

  item_more : (n : ℕ) (t : Tree) {b at : ℕ} {xs : List Item} {rest : List ℕ} → IsFree t
      → ((p : ℕ) → From text p (tree_on plain_spelling InTable n t (ascii.comma ∷ rest))
      → GroupAt p t (ascii.comma ∷ rest))
      → Gathered b at xs → From text at (line_on n (tree_on plain_spelling InArray n t rest))
      → TreesAt b xs (more_trees t no_trees) rest
  item_more n (string s) {b} {at} {xs} {rest} free group g h =
      let (p, blanks, f) = line_blanks text n h in
      let (q, named, f2) = quoted_text_at text s free f in
      let (first, skip, items) = g.read p (record {
        blanks = blanks;
        solid = solid_at text f refl refl;
      }) in
      item_done (string_term s) first skip
      (string_item first p q q xs s items named (no_skip text (solid_at text f2 refl refl))) f2
  item_more n (alias s) free group g h = absurd free
  item_more n (array ts) free group g h =
      let (p, blanks, f) = line_blanks text n h in
      group_done (array ts) g blanks (solid_at text f refl refl) (group p f)
  item_more n (table no_entries) free group g h =
      let (p, blanks, f) = line_blanks text n h in
      group_done (table no_entries) g blanks (solid_at text f refl refl) (group p f)
  item_more n (table (entry k t es)) free group g h =
      let (p, blanks, f) = line_blanks text n h in
      group_done (table (entry k t es)) g blanks (solid_at text f refl refl) (group p f)
  item_more n (binary bs) free group g h =
      let (p, blanks, f) = line_blanks text n h in
      group_done (binary bs) g blanks (solid_at text f refl refl) (group p f)
  item_more n (integer v) free group g h =
      let (p, blanks, f) = line_blanks text n h in
      group_done (integer v) g blanks (solid_at text f refl refl) (group p f)
  item_more n (int_vector ns) free group g h =
      let (p, blanks, f) = line_blanks text n h in
      group_done (int_vector ns) g blanks (solid_at text f refl refl) (group p f)

  leaf_done : (kind : Kind) (t : Tree) {at first k : ℕ} {rest : List ℕ}
      → TypedOpening text at kind first
      → LeafContent text first k kind t → From text k (ascii.right_brace ∷ rest)
      → GroupAt at t rest
  leaf_done kind t {at} {first} {k} {rest} head content h = record {
    to = k + 1;
    keys = [];
    group = typed_leaf at first k kind t head content (byte_at text h);
    after = from_next text h;
  }

  string_group : (s : List ℕ) {at : ℕ} {rest : List ℕ} → NoQuote s
      → From text at (ascii.left_brace ∷ quoted_on s (ascii.right_brace ∷ rest))
      → GroupAt at (string s) rest
  string_group s {at} {rest} free h =
      let f = from_next text h in
      let (q, named, f2) = quoted_text_at text s free f in
      let i = at + 1 in
      record {
        to = q + 1;
        keys = [];
        group = untyped at i q (plain (string_term s) ∷ []) (byte_at text h)
            (no_skip text (solid_at text f refl refl))
            (string_item i i q q [] s (nothing i) named (no_skip text (solid_at text f2 refl refl)))
            (byte_at text f2);
        after = from_next text f2;
      }

  table_group : (n : ℕ) (es : Entries) (at : ℕ) (rest : List ℕ)
      → IsStrictlySortedBy text_cmp (entry_keys es)
      → ((b : ℕ) → From text b (entries_on plain_spelling (deeper n) es (entries_end es n rest))
      → EntriesAt b [] es (entries_end es n rest))
      → From text at (tree_on plain_spelling InTable n (table es) rest) → GroupAt at (table es) rest
  table_group n no_entries at rest ascend inner h =
      let (brace, f, head) = opening_at text table_kind (codes "table") refl refl h in
      let c = close_here f in
      record {
        to = c.place + 1;
        keys = [];
        group = typed_table at c.place c.place [] (head c.place c.skip) (nothing c.place) refl
            c.brace;
        after = c.after;
      }
  table_group n (entry k t es) at rest ascend inner h =
      let r = inner (at + 1) (from_next text h) in
      let c = close_entries (entry k t es) n r.after in
      let (first, skip, items) = r.gathered.read c.place c.skip in
      let e : tree_in (shape_of r.items) r.items ≡ table (entry k t es) =
      ap (λ (s : Shape). tree_in s r.items) (pairs_are_table r.items r.pairs)
      ∙ ap (λ l. table (map_of l)) r.means ∙ ap table (map_of-keyed_trees (entry k t es) ascend) in
      record {
        to = c.place + 1;
        keys = keys_in (shape_of r.items) r.items;
        group = subst
            (λ (t : Tree). Group text at (c.place + 1) t (keys_in (shape_of r.items) r.items)) e
            (untyped at first c.place r.items (byte_at text h) skip items c.brace);
        after = c.after;
      }

  mutual
    pub group_at : (n : ℕ) (t : Tree) (at : ℕ) (rest : List ℕ) → IsHeld t → IsFree t
        → From text at (tree_on plain_spelling InTable n t rest) → GroupAt at t rest
    group_at n (string s) at rest held free h = string_group s free h
    group_at n (alias s) at rest held free h = absurd free
    group_at n (array ts) at rest held free h =
        let (brace, f, head) = opening_at text array_kind (codes "array") refl refl h in
        let r = trees_at (deeper n) ts (brace + 1) (brace + 1) [] (trees_end ts n rest) held free
        (nothing_gathered (brace + 1)) f in
        let c = close_trees ts n r.after in
        let (first, skip, items) = r.gathered.read c.place c.skip in
        let e : array (trees_of (item_trees r.items)) ≡ array ts =
        ap (λ l. array (trees_of l)) r.means ∙ ap array (trees_of-array_members ts) in
        record {
          to = c.place + 1;
          keys = keys_in an_array r.items;
          group = subst (λ (t : Tree). Group text at (c.place + 1) t (keys_in an_array r.items)) e
              (typed_array at first c.place r.items (head first skip) items c.brace);
          after = c.after;
        }
    group_at n (table es) at rest held free h =
        table_group n es at rest held.0 (λ b f. entries_at (deeper n) es b b []
        (entries_end es n rest) held.1 free (nothing_gathered b) refl f) h
    group_at n (binary bs) at rest held free h =
        let (brace, f, head) = opening_at text binary_kind (codes "bin") (inr refl) refl h in
        let (q, digits, f2) = quoted_text_at text (encode_lower bs) (hex_free bs held) f in
        leaf_done binary_kind (binary bs)
        (head (brace + 1) (no_skip text (solid_at text f refl refl)))
        (binary_content q (encode_lower bs) bs digits (hex_read bs held)
        (no_skip text (solid_at text f2 refl refl))) f2
    group_at n (integer v) at rest held free h =
        let (brace, f, head) = opening_at text integer_kind (codes "int") (inr refl) refl h in
        let (solid, (q, number, f2)) = number_at text v ascii.right_brace rest (omega arith) f refl
        in
        let content : LeafContent text (brace + 1) q integer_kind (integer v) =
        subst (λ n. LeafContent text (brace + 1) q integer_kind (integer n)) (low_bits_kept v held)
        (integer_content q v number (no_skip text (solid_at text f2 refl refl))) in
        leaf_done integer_kind (integer v) (head (brace + 1) (no_skip text solid)) content f2
    group_at n (int_vector ns) at rest held free h =
        let (brace, f, head) = opening_at text vector_kind (codes "intvector") refl refl h in
        let (solid, (q, vector, f2)) = vector_read ns rest held f in
        leaf_done vector_kind (int_vector ns) (head (brace + 1) (no_skip text solid))
        (vector_content ns vector) f2

    trees_at : (n : ℕ) (ts : Trees) (b at : ℕ) (xs : List Item) (rest : List ℕ) → AreHeld ts
        → AreFree ts → Gathered b at xs → From text at (trees_on plain_spelling n ts rest)
        → TreesAt b xs ts rest
    trees_at n no_trees b at xs rest held free g h = record {
      at = at;
      items = xs;
      gathered = g;
      means = sym (append-nil (item_trees xs));
      after = h;
    }
    trees_at n (more_trees t ts) b at xs rest held free g h =
        let one = item_more n t free.0 (λ p f. group_at n t p _ held.0 free.0 f) g h in
        let r = trees_at n ts b one.at one.items rest held.1 free.1 one.gathered one.after in
        record {
          at = r.at;
          items = r.items;
          gathered = r.gathered;
          means = r.means ∙ ap (λ l. l ++ array_members ts) one.means
              ∙ append_assoc (item_trees xs) (t ∷ []) (array_members ts);
          after = r.after;
        }

    pub entries_at : (n : ℕ) (es : Entries) (b at : ℕ) (xs : List Item) (rest : List ℕ) → HeldIn es
        → FreeIn es → Gathered b at xs → is_pairs xs ≡ true
        → From text at (entries_on plain_spelling n es rest)
        → EntriesAt b xs es rest
    entries_at n no_entries b at xs rest held free g pairs h = record {
      at = at;
      items = xs;
      gathered = g;
      pairs = pairs;
      means = sym (append-nil (pairs_in xs));
      after = h;
    }
    entries_at n (entry k t es) b at xs rest held free g pairs h =
        let one = entry_more n k t free.0 (λ p f. group_at n t p _ held.0 free.1 f) g pairs h in
        let r = entries_at n es b one.at one.items rest held.1 free.2 one.gathered one.pairs
        one.after in
        record {
          at = r.at;
          items = r.items;
          gathered = r.gathered;
          pairs = r.pairs;
          means = r.means ∙ ap (λ l. l ++ keyed_trees es) one.means
              ∙ append_assoc (pairs_in xs) ((k, t) ∷ []) (keyed_trees es);
          after = r.after;
        }
