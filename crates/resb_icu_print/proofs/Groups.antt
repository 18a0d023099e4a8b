-- A printed tree is a group of ICU's form that means that tree.
use Rattle.std.proofs.Common.{◌≡◌, ℕ, ◌+◌, Bool, true, false, List, []}
use Rattle.std.proofs.Common.{◌∷◌, refl, sym, ◌∙◌, ap, subst, arith, inl, inr, ⊎_elim}
use Rattle.std.specs.Prelude.{slice_index, codes, ◌==◌, ◌||◌, not, nat_eq, ◌⊎◌, Some}
use Rattle.resb_grammar.specs.Group.{hex_bytes}
use Rattle.resb_icu_grammar.specs.declared.group_kind.IcuKind.{IcuKind as Kind}
use Rattle.resb_icu_grammar.specs.declared.group_kind.IcuKind.TheVariants.{
  Alias as alias_kind,
  Array as array_kind,
  Table as table_kind,
  Binary as binary_kind,
  Integer as integer_kind,
  IntVector as vector_kind,
}
use Rattle.resb_icu_grammar.specs.Pieces.{Joined}
use Rattle.resb_icu_grammar.proofs.Lexical.{joined_first}
use Rattle.std.proofs.Common.{Less}
use Rattle.std.specs.Cmp.Lexicographic.{pointwise, texts_ties}
use Rattle.std.specs.List.{list_any, AllByRecursion}
use Rattle.std.specs.List.Sorted.{IsStrictlySortedBy}
use Rattle.std.specs.Ordering.{is_eq}
use Rattle.hex.specs.Hex.{encode_lower}
use Rattle.std.proofs.lemmas.Bool.{and_parts}
use Rattle.std.proofs.lemmas.Bool.Decides.{nat_tests}
use Rattle.resb_icu_print.proofs.TakenTrees.{IsTaken, AreTaken, TakenIn}
use Rattle.resb_tree.specs.Tree.{Tree, string, alias, array, table, binary, integer, int_vector}
use Rattle.resb_tree.specs.Tree.{Trees, no_trees, more_trees, Entries, no_entries, entry}
use Rattle.resb_tree.specs.Maps.{text_cmp, keyed_trees}
use Rattle.resb_tree.specs.LayingOrder.{array_members as members_in, entry_keys}
use Rattle.resb_grammar.specs.Ascii as ascii
use Rattle.resb_icu_grammar.specs.Blanks.{Blanks, Skip, IsSolid}
use Rattle.resb_icu_grammar.specs.Words as words
use Rattle.resb_icu_grammar.specs.Groups.{TypedOpening, LeafContent, alias_content, binary_content}
use Rattle.resb_icu_grammar.specs.Groups.{integer_content}
use Rattle.resb_icu_grammar.specs.Groups.{Last, nothing, a_string, a_group, a_comma, ends_in_string}
use Rattle.resb_icu_grammar.specs.Groups.{is_new, Members, no_member, string_member, group_member}
use Rattle.resb_icu_grammar.specs.Groups.{comma_behind, no_entry, one_entry}
use Rattle.resb_icu_grammar.specs.Groups as groups
use Rattle.resb_icu_grammar.specs.Groups.{Untyped, one_string, a_table, Typed, leaf, Group, untyped}
use Rattle.resb_icu_grammar.specs.Groups.{typed}
use Rattle.resb_print.specs.declared.place.Place.TheVariants.{InTable, InArray}
use Rattle.resb_print.specs.Printed.{deeper, line_on, trees_end, entries_end, root_type_on}
use Rattle.resb_print.specs.Held.{IsHeld, AreHeld, HeldIn}
use Rattle.resb_print.proofs.Places.{From, byte_at, from_next}
use Rattle.resb_print.proofs.Groups.{hex_read, hex_free}
use Rattle.resb_tree.proofs.MapsLemmas.{map_of-keyed_trees}
use Rattle.resb_tree.proofs.LayingOrderLemmas.{trees_of-array_members}
use Rattle.resb_tree.proofs.Numbers.{low_bits_kept}
use Rattle.resb_print.specs.Printed.{tree_on, trees_on, entries_on}
use Rattle.resb_icu_print.specs.Printed.{piece_on, key_on, icu_spelling}
use Rattle.resb_icu_print.specs.Causes.{is_icu_key}
use Rattle.resb_icu_grammar.specs.Bytes.{are_key_bytes}
use Rattle.resb_print.specs.Quotes.{has_quote}
use Rattle.resb_icu_print.proofs.Places.{solid_at, no_skip, line_blanks}
use Rattle.resb_icu_print.proofs.Strings.{IsStop, piece_read, quoted_read, whole_read, key_read, hex_key}
use Rattle.resb_icu_print.proofs.Numbers.{number_read, vector_read, opening_at}
use Rattle.resb_icu_print.proofs.Lists.{false_from_not}

-- a key is new among those that it is below
less_new : (k : List ℕ) (es : Entries) → AllByRecursion (λ y. text_cmp k y ≡ Less) (entry_keys es)
    → is_new k (keyed_trees es) ≡ true
less_new k no_entries h = refl
less_new k (entry l u es) h =
    let e : pointwise nat_eq k l ≡ false = texts_ties k l ∙ ap is_eq h.0 in
    ap (λ b. not (b || list_any (λ f. pointwise nat_eq k f.0) (keyed_trees es))) e
    ∙ less_new k es h.1

sorted_new : (k : List ℕ) (t : Tree) (es : Entries)
    → IsStrictlySortedBy text_cmp (entry_keys (entry k t es)) → is_new k (keyed_trees es) ≡ true
unfolding IsStrictlySortedBy
sorted_new k t es h = less_new k es h.0

sorted_rest : (k : List ℕ) (t : Tree) (es : Entries)
    → IsStrictlySortedBy text_cmp (entry_keys (entry k t es))
    → IsStrictlySortedBy text_cmp (entry_keys es)
unfolding IsStrictlySortedBy
sorted_rest k t es h = h.1

-- behind a key stands `{` or `:`
opens : ℕ → Bool
opens b = b == ascii.left_brace || b == ascii.colon

-- what quoted digits say
quoted_digits : (text : List ℕ) (from to : ℕ) (s bytes : List ℕ) → Joined text from to s
    → hex_bytes s ≡ Some bytes → groups.digit_bytes text from s ≡ Some bytes
quoted_digits text from to s bytes j e =
    let t : (slice_index text from == ascii.quote) ≡ true =
    ap (λ b. b == ascii.quote) (joined_first text from to s j) in
    rw t e

opens_stop : (b : ℕ) → opens b ≡ true → IsStop b
unfolding opens
opens_stop b h = ⊎_elim (λ e. subst IsStop (sym e) brace) (λ e. subst IsStop (sym e) colon)
    (cases b h)
  where
    brace : IsStop ascii.left_brace
    brace = record {
      no_word = refl;
      no_string = refl;
      no_white = refl;
      no_slash = refl;
      no_quote = λ e. absurd (omega (arith, e));
    }

    colon : IsStop ascii.colon
    colon = record {
      no_word = refl;
      no_string = refl;
      no_white = refl;
      no_slash = refl;
      no_quote = λ e. absurd (omega (arith, e));
    }

    cases : (b : ℕ) → (b == ascii.left_brace || b == ascii.colon) ≡ true
        → (b ≡ ascii.left_brace) ⊎ (b ≡ ascii.colon)
    cases b h = by (b == ascii.left_brace) refl
      where
        by : (t : Bool) → (b == ascii.left_brace) ≡ t
            → (b ≡ ascii.left_brace) ⊎ (b ≡ ascii.colon)
        by true e = let f : b ≡ ascii.left_brace = grind (arith, nat_tests) in inl f
        by false e = let f : b ≡ ascii.colon = grind (arith, nat_tests) in inr f

-- the first byte of a resource behind its key
pub record Starts (bytes : List ℕ) : Type 0 where
  pub b : ℕ
  pub more : List ℕ
  pub is : bytes ≡ b ∷ more
  pub stop : IsStop b

starts_with : (b : ℕ) (more : List ℕ) → opens b ≡ true → Starts (b ∷ more)
starts_with b more h = record { b = b; more = more; is = refl; stop = opens_stop b h }

starts : (n : ℕ) (t : Tree) (rest : List ℕ) → Starts (tree_on icu_spelling InTable n t rest)
unfolding opens
starts n (string s) rest = starts_with _ _ refl
starts n (alias s) rest = starts_with _ _ refl
starts n (array ts) rest = starts_with _ _ refl
starts n (table no_entries) rest = starts_with _ _ refl
starts n (table (entry k t es)) rest = starts_with _ _ refl
starts n (binary bs) rest = starts_with _ _ refl
starts n (integer v) rest = starts_with _ _ refl
starts n (int_vector ns) rest = starts_with _ _ refl

pub root_starts : (fallback : Bool) (rest : List ℕ)
    → Starts (root_type_on fallback (ascii.left_brace ∷ rest))
unfolding opens
root_starts true rest = starts_with _ _ refl
root_starts false rest = starts_with _ _ refl

-- `}` and `,` end a string
brace_stop : IsStop ascii.right_brace
brace_stop = record {
  no_word = refl;
  no_string = refl;
  no_white = refl;
  no_slash = refl;
  no_quote = λ e. absurd (omega (arith, e));
}

comma_stop : IsStop ascii.comma
comma_stop = record {
  no_word = refl;
  no_string = refl;
  no_white = refl;
  no_slash = refl;
  no_quote = λ e. absurd (omega (arith, e));
}

module _ (text : List ℕ) where
  pub record GroupAt (at : ℕ) (t : Tree) (rest : List ℕ) : Type 0 where
    pub to : ℕ
    pub keys : List (List ℕ)
    pub group : Group text at to t keys
    pub after : From text to rest

  -- a `}`, perhaps on a line of its own
  pub record Closes (at : ℕ) (rest : List ℕ) : Type 0 where
    pub place : ℕ
    pub skip : Skip text at place
    pub brace : slice_index text place ≡ ascii.right_brace
    pub after : From text (place + 1) rest

  close_here : {at : ℕ} {rest : List ℕ} → From text at (ascii.right_brace ∷ rest) → Closes at rest
  close_here {at} {rest} h = record {
    place = at;
    skip = no_skip text (solid_at text h refl refl);
    brace = byte_at text h;
    after = from_next text h;
  }

  pub close_line : (n : ℕ) {at : ℕ} {rest : List ℕ}
      → From text at (line_on n (ascii.right_brace ∷ rest)) → Closes at rest
  close_line n {at} {rest} h =
      let (p, blanks, f) = line_blanks text n h in
      record {
        place = p;
        skip = record { blanks = blanks; solid = solid_at text f refl refl };
        brace = byte_at text f;
        after = from_next text f;
      }

  close_trees : (ts : Trees) (n : ℕ) {at : ℕ} {rest : List ℕ} → From text at (trees_end ts n rest)
      → Closes at rest
  close_trees no_trees n h = close_here h
  close_trees (more_trees t ts) n h = close_line n h

  close_entries : (es : Entries) (n : ℕ) {at : ℕ} {rest : List ℕ}
      → From text at (entries_end es n rest) → Closes at rest
  close_entries no_entries n h = close_here h
  close_entries (entry k t es) n h = close_line n h

  -- entries and the `}` behind them
  pub record EntriesAt (at : ℕ) (es : Entries) (rest : List ℕ) : Type 0 where
    pub first : ℕ
    pub to : ℕ
    pub keys : List (List ℕ)
    pub skip : Skip text at first
    pub entries : groups.Entries text first to (keyed_trees es) keys
    pub brace : slice_index text to ≡ ascii.right_brace
    pub after : From text (to + 1) rest

  -- members, behind no string, and the `}` behind them
  pub record TreesAt (at : ℕ) (ts : Trees) (rest : List ℕ) : Type 0 where
    pub first : ℕ
    pub to : ℕ
    pub keys : List (List ℕ)
    pub skip : Skip text at first
    pub members : (last : Last) → ends_in_string last ≡ false
        → Members text last first to (members_in ts) keys
    pub brace : slice_index text to ≡ ascii.right_brace
    pub after : From text (to + 1) rest

  entry_more : (n : ℕ) (k : List ℕ) (t : Tree) (es : Entries) (tail : List ℕ) {at : ℕ}
      {rest : List ℕ} → is_icu_key k ≡ true → is_new k (keyed_trees es) ≡ true
      → ((p : ℕ) → From text p (tree_on icu_spelling InTable n t tail) → GroupAt p t tail)
      → ((p : ℕ) → From text p tail → EntriesAt p es rest)
      → From text at (line_on n (key_on k (tree_on icu_spelling InTable n t tail)))
      → EntriesAt at (entry k t es) rest
  entry_more n k t es tail {at} {rest} key new group more h =
      let (p, blanks, f) = line_blanks text n h in
      let s = starts n t tail in
      let f2 : From text p (key_on k (s.b ∷ s.more)) =
      subst (λ l. From text p (key_on k l)) s.is f in
      let own_key = and_parts (are_key_bytes k) (not (has_quote k)) key in
      let (solid, (q, named, f3)) =
      key_read text k s.b s.more s.stop own_key.0 (false_from_not (has_quote k) own_key.1) f2 in
      let there : IsSolid text q = solid_at text f3 s.stop.no_white s.stop.no_slash in
      let own = group q (subst (From text q) (sym s.is) f3) in
      let others = more own.to own.after in
      record {
        first = p;
        to = others.to;
        keys = _;
        skip = record { blanks = blanks; solid = solid };
        entries = one_entry p q q own.to others.first others.to k t (keyed_trees es) own.keys
            others.keys named (no_skip text there) own.group others.skip others.entries new;
        brace = others.brace;
        after = others.after;
      }

  -- the members behind a comma
  group_done : (t : Tree) (ts : Trees) (tail : List ℕ) {at p : ℕ} {rest : List ℕ}
      → Blanks text at p → IsSolid text p → GroupAt p t (ascii.comma ∷ tail)
      → ((p : ℕ) → From text p tail → TreesAt p ts rest) → TreesAt at (more_trees t ts) rest
  group_done t ts tail {at} {p} {rest} blanks solid own more =
      let others = more (own.to + 1) (from_next text own.after) in
      let there : IsSolid text own.to = solid_at text own.after refl refl in
      record {
        first = p;
        to = others.to;
        keys = _;
        skip = record { blanks = blanks; solid = solid };
        members = λ last no_string.
            group_member last p own.to own.to others.to t own.keys others.keys (members_in ts)
            own.group (no_skip text there)
            (comma_behind a_group own.to others.first others.to (members_in ts) others.keys refl
            (byte_at text own.after) others.skip (others.members a_comma refl));
        brace = others.brace;
        after = others.after;
      }

  string_done : (s : List ℕ) (ts : Trees) (tail : List ℕ) {at p : ℕ} {rest : List ℕ}
      → Blanks text at p → From text p (piece_on s (ascii.comma ∷ tail))
      → ((p : ℕ) → From text p tail → TreesAt p ts rest)
      → TreesAt at (more_trees (string s) ts) rest
  string_done s ts tail {at} {p} {rest} blanks f more =
      let (q, joined, piece, g) = piece_read text s ascii.comma tail comma_stop f in
      let others = more (q + 1) (from_next text g) in
      let there : IsSolid text q = solid_at text g refl refl in
      record {
        first = p;
        to = others.to;
        keys = others.keys;
        skip = record { blanks = blanks; solid = solid_at text f refl refl };
        members = λ last no_string.
            string_member last p q q others.to s (members_in ts) others.keys no_string
            (whole_read text s ascii.comma tail comma_stop (words.quoted joined) g)
            (no_skip text there)
            (comma_behind a_string q others.first others.to (members_in ts) others.keys refl
            (byte_at text g) others.skip (others.members a_comma refl));
        brace = others.brace;
        after = others.after;
      }

  member_more : (n : ℕ) (t : Tree) (ts : Trees) (tail : List ℕ) {at : ℕ} {rest : List ℕ}
      → ((p : ℕ) → From text p (tree_on icu_spelling InTable n t (ascii.comma ∷ tail))
      → GroupAt p t (ascii.comma ∷ tail))
      → ((p : ℕ) → From text p tail → TreesAt p ts rest)
      → From text at (line_on n (tree_on icu_spelling InArray n t tail))
      → TreesAt at (more_trees t ts) rest
  member_more n (string s) ts tail group more h =
      let (p, blanks, f) = line_blanks text n h in string_done s ts tail blanks f more
  member_more n (alias s) ts tail group more h =
      let (p, blanks, f) = line_blanks text n h in
      group_done (alias s) ts tail blanks (solid_at text f refl refl) (group p f) more
  member_more n (array us) ts tail group more h =
      let (p, blanks, f) = line_blanks text n h in
      group_done (array us) ts tail blanks (solid_at text f refl refl) (group p f) more
  member_more n (table no_entries) ts tail group more h =
      let (p, blanks, f) = line_blanks text n h in
      group_done (table no_entries) ts tail blanks (solid_at text f refl refl) (group p f) more
  member_more n (table (entry k t es)) ts tail group more h =
      let (p, blanks, f) = line_blanks text n h in
      group_done (table (entry k t es)) ts tail blanks (solid_at text f refl refl) (group p f) more
  member_more n (binary bs) ts tail group more h =
      let (p, blanks, f) = line_blanks text n h in
      group_done (binary bs) ts tail blanks (solid_at text f refl refl) (group p f) more
  member_more n (integer v) ts tail group more h =
      let (p, blanks, f) = line_blanks text n h in
      group_done (integer v) ts tail blanks (solid_at text f refl refl) (group p f) more
  member_more n (int_vector ns) ts tail group more h =
      let (p, blanks, f) = line_blanks text n h in
      group_done (int_vector ns) ts tail blanks (solid_at text f refl refl) (group p f) more

  leaf_done : (kind : Kind) (t : Tree) {at first k : ℕ} {rest : List ℕ}
      → TypedOpening text at kind first
      → LeafContent text first k kind t → From text k (ascii.right_brace ∷ rest)
      → GroupAt at t rest
  leaf_done kind t {at} {first} {k} {rest} head content h = record {
    to = k + 1;
    keys = [];
    group = typed at first k kind t [] head (leaf kind first k t content) (byte_at text h);
    after = from_next text h;
  }

  string_group : (s : List ℕ) {at : ℕ} {rest : List ℕ}
      → From text at (ascii.left_brace ∷ piece_on s (ascii.right_brace ∷ rest))
      → GroupAt at (string s) rest
  string_group s {at} {rest} h =
      let f = from_next text h in
      let (q, joined, piece, g) = piece_read text s ascii.right_brace rest brace_stop f in
      let i = at + 1 in
      record {
        to = q + 1;
        keys = [];
        group = untyped at i q (string s) [] (byte_at text h)
            (no_skip text (solid_at text f refl refl))
            (one_string i q q s
            (whole_read text s ascii.right_brace rest brace_stop (words.quoted joined) g)
            (no_skip text (solid_at text g refl refl)))
            (byte_at text g);
        after = from_next text g;
      }

  table_group : (n : ℕ) (es : Entries) (at : ℕ) (rest : List ℕ)
      → IsStrictlySortedBy text_cmp (entry_keys es)
      → ((b : ℕ) → From text b (entries_on icu_spelling (deeper n) es (entries_end es n rest))
      → EntriesAt b es rest)
      → From text at (tree_on icu_spelling InTable n (table es) rest) → GroupAt at (table es) rest
  table_group n no_entries at rest ascend inner h =
      let (brace, f, head) = opening_at text table_kind (codes "table") refl refl h in
      let c = close_here f in
      record {
        to = c.place + 1;
        keys = [];
        group = typed at c.place c.place table_kind (table no_entries) [] (head c.place c.skip)
            (groups.entries c.place c.place [] [] (no_entry c.place)) c.brace;
        after = c.after;
      }
  table_group n (entry k t es) at rest ascend inner h =
      let r = inner (at + 1) (from_next text h) in
      record {
        to = r.to + 1;
        keys = r.keys;
        group = untyped at r.first r.to (table (entry k t es)) r.keys (byte_at text h) r.skip
            (subst (λ (m : Entries). Untyped text r.first r.to (table m) r.keys)
            (map_of-keyed_trees (entry k t es) ascend)
            (a_table r.first r.to (k, t) (keyed_trees es) r.keys r.entries)) r.brace;
        after = r.after;
      }

  mutual
    pub group_at : (n : ℕ) (t : Tree) (at : ℕ) (rest : List ℕ) → IsHeld t → IsTaken t
        → From text at (tree_on icu_spelling InTable n t rest) → GroupAt at t rest
    group_at n (string s) at rest held taken h = string_group s h
    group_at n (alias s) at rest held taken h =
        let (brace, f, head) = opening_at text alias_kind (codes "alias") refl refl h in
        let (q, joined, piece, g) = piece_read text s ascii.right_brace rest brace_stop f in
        leaf_done alias_kind (alias s)
        (head (brace + 1) (no_skip text (solid_at text f refl refl)))
        (alias_content q s
        (whole_read text s ascii.right_brace rest brace_stop (words.quoted joined) g)
        (no_skip text (solid_at text g refl refl))) g
    group_at n (array ts) at rest held taken h =
        let (brace, f, head) = opening_at text array_kind (codes "array") refl refl h in
        let r = trees_at (deeper n) ts (trees_end ts n rest) (brace + 1) rest held taken
        (λ p g. close_trees ts n g) f in
        record {
          to = r.to + 1;
          keys = r.keys;
          group = typed at r.first r.to array_kind (array ts) r.keys (head r.first r.skip)
              (subst (λ (m : Trees). Typed text array_kind r.first r.to (array m) r.keys)
              (trees_of-array_members ts)
              (groups.members r.first r.to (members_in ts) r.keys (r.members nothing refl)))
              r.brace;
          after = r.after;
        }
    group_at n (table es) at rest held taken h =
        table_group n es at rest held.0 (λ b f. entries_at (deeper n) es (entries_end es n rest) b
        rest held.0 held.1 taken (λ p g. close_entries es n g) f) h
    group_at n (binary bs) at rest held taken h =
        let (brace, f, head) = opening_at text binary_kind (codes "bin") (inr refl) refl h in
        let (q, joined, piece, no_escape, g) =
        quoted_read text (encode_lower bs) ascii.right_brace rest brace_stop (hex_key bs held)
        (hex_free bs held) f in
        leaf_done binary_kind (binary bs)
        (head (brace + 1) (no_skip text (solid_at text f refl refl)))
        (binary_content q (encode_lower bs) bs
        (whole_read text (encode_lower bs) ascii.right_brace rest brace_stop
        (words.quoted joined) g)
        (quoted_digits text (brace + 1) q (encode_lower bs) bs joined (hex_read bs held))
        (no_skip text (solid_at text g refl refl))) g
    group_at n (integer v) at rest held taken h =
        let (brace, f, head) = opening_at text integer_kind (codes "int") (inr refl) refl h in
        let (solid, (q, number, g)) =
        number_read text v ascii.right_brace rest (omega arith) f refl in
        let content : LeafContent text (brace + 1) q integer_kind (integer v) =
        subst (λ n. LeafContent text (brace + 1) q integer_kind (integer n)) (low_bits_kept v held)
        (integer_content q v number (no_skip text (solid_at text g refl refl))) in
        leaf_done integer_kind (integer v) (head (brace + 1) (no_skip text solid)) content g
    group_at n (int_vector ns) at rest held taken h =
        let (brace, f, head) = opening_at text vector_kind (codes "intvector") refl refl h in
        let (solid, (q, content, g)) = vector_read text ns rest held f in
        leaf_done vector_kind (int_vector ns) (head (brace + 1) (no_skip text solid)) content g

    trees_at : (n : ℕ) (ts : Trees) (end : List ℕ) (at : ℕ) (rest : List ℕ) → AreHeld ts
        → AreTaken ts → ((p : ℕ) → From text p end → Closes p rest)
        → From text at (trees_on icu_spelling n ts end) → TreesAt at ts rest
    trees_at n no_trees end at rest held taken close h =
        let c = close at h in
        record {
          first = c.place;
          to = c.place;
          keys = [];
          skip = c.skip;
          members = λ last no_string. no_member last c.place;
          brace = c.brace;
          after = c.after;
        }
    trees_at n (more_trees t ts) end at rest held taken close h =
        member_more n t ts (trees_on icu_spelling n ts end)
        (λ p f. group_at n t p _ held.0 taken.0 f)
        (λ p f. trees_at n ts end p rest held.1 taken.1 close f) h

    pub entries_at : (n : ℕ) (es : Entries) (end : List ℕ) (at : ℕ) (rest : List ℕ)
        → IsStrictlySortedBy text_cmp (entry_keys es) → HeldIn es → TakenIn es
        → ((p : ℕ) → From text p end → Closes p rest)
        → From text at (entries_on icu_spelling n es end)
        → EntriesAt at es rest
    entries_at n no_entries end at rest ascend held taken close h =
        let c = close at h in
        record {
          first = c.place;
          to = c.place;
          keys = [];
          skip = c.skip;
          entries = no_entry c.place;
          brace = c.brace;
          after = c.after;
        }
    entries_at n (entry k t es) end at rest ascend held taken close h =
        entry_more n k t es (entries_on icu_spelling n es end) taken.0 (sorted_new k t es ascend)
        (λ p f. group_at n t p _ held.0 taken.1 f)
        (λ p f. entries_at n es end p rest (sorted_rest k t es ascend) held.1 taken.2 close f) h
