-- What a text of ICU's form gives as keys may be keys.
use Rattle.std.proofs.Common.{◌≡◌, ◌≢◌, ℕ, ◌+◌, ◌-◌, ◌≤◌, ◌<◌, Bool, true, false, List, [], ◌∷◌}
use Rattle.std.proofs.Common.{refl, sym, ◌∙◌, ap, length, arith, suc}
use Rattle.std.proofs.Common.{Ordering, Less, Equal, Greater, Option, Some, None, drop, ◌++◌}
use Rattle.std.specs.Prelude.{slice_index, slice_range, not, ◌==◌, cond}
use Rattle.std.specs.Ordering.{match_ordering}
use Rattle.std.proofs.lemmas.Bool.{false≢true, and_from, and_parts, or_from}
use Rattle.std.proofs.lemmas.Bool.Decides.{nat_tests}
use Rattle.std.proofs.lemmas.Option.{none-some}
use Rattle.std.proofs.lemmas.List.{length-take, get_or-take, get_or-drop}
use Rattle.std.specs.List.{list_all}
use Rattle.resb_icu_print.proofs.TakenTrees.{IsTaken, AreTaken, TakenIn}
use Rattle.resb_print.proofs.FreeTrees.{NoQuote}
use Rattle.resb_tree.specs.Tree.{Tree, string, alias, array, table, binary, integer, int_vector}
use Rattle.resb_tree.specs.Tree.{Trees, no_trees, more_trees, Entries, no_entries, entry, trees_of}
use Rattle.resb_tree.specs.Tree.{put}
use Rattle.resb_tree.specs.Tree.{put_all, map_of}
use Rattle.resb_tree.specs.Maps.{text_cmp}
use Rattle.resb_grammar.specs.Ascii as ascii
use Rattle.resb_icu_grammar.specs.declared.group_kind.IcuKind.{IcuKind as Kind}
use Rattle.resb_icu_grammar.specs.Bytes.{is_word, is_unquoted, are_key_bytes, backslash}
use Rattle.resb_icu_grammar.specs.Escapes.{Escape, itself, letter, four_digits, pair, eight_digits}
use Rattle.resb_icu_grammar.specs.Escapes.{control, short_hex, octal}
use Rattle.resb_icu_grammar.specs.Pieces.{QuotedBytes, ends, byte, escape}
use Rattle.resb_icu_grammar.specs.Unquoted.{Unquoted}
use Rattle.resb_icu_grammar.specs.Words.{KeyText, Verbatim, a_word, a_piece}
use Rattle.resb_icu_grammar.specs.Groups as groups
use Rattle.resb_icu_grammar.specs.Groups.{LeafContent, string_content, alias_content}
use Rattle.resb_icu_grammar.specs.Groups.{binary_content}
use Rattle.resb_icu_grammar.specs.Groups.{integer_content, no_numbers, numbers, Last, Members}
use Rattle.resb_icu_grammar.specs.Groups.{no_member, string_member, group_member, comma_behind}
use Rattle.resb_icu_grammar.specs.Groups.{no_entry, one_entry, Untyped, an_empty_array, one_string}
use Rattle.resb_icu_grammar.specs.Groups.{an_array, a_table, Typed, members, entries, leaf, Group}
use Rattle.resb_icu_grammar.specs.Groups.{untyped, typed}
use Rattle.resb_icu_grammar.specs.Bundle.{IcuText}
use Rattle.resb_print.specs.Quotes.{has_quote}
use Rattle.resb_print.specs.Paths.{Step, by_key, by_number, found_else, found_at, found_among}
use Rattle.resb_print.specs.Paths.{found_in, first_cause}
use Rattle.resb_print.proofs.Tracing.{cause_in}
use Rattle.resb_print.specs.declared.cause.Cause.{Cause}
use Rattle.resb_print.specs.declared.cause.Cause.TheVariants.{NameIsNoWord}
use Rattle.resb_print.specs.declared.cause.Cause.TheVariants.{KeyHasOtherBytes}
use Rattle.resb_icu_print.specs.Printed.{is_bare}
use Rattle.resb_icu_print.specs.Causes.{is_icu_key}
use Rattle.resb_icu_print.specs.Causes.{icu_tests}
use Rattle.resb_icu_print.proofs.Lists.{true_from_not}

-- what is found from a place on
abbrev Found : Type 0
Found = Option (List Step × Cause)

-- a test that finds no cause
missed_if : (b : Bool) (x : Cause) (path : List Step) (later : Found) → b ≡ false
    → found_else (cond b (Some x) None) path later ≡ later
missed_if b x path later h = ap (λ c. found_else (cond c (Some x) None) path later) h

-- a key that is no cause
key_passed : (k : List ℕ) (path : List Step) (later : Found) → is_icu_key k ≡ true
    → found_else (icu_tests.of_key k) path later ≡ later
key_passed k path later q = missed_if (not (is_icu_key k)) KeyHasOtherBytes path later (ap not q)

-- a byte that is no quote, before others
free_more : (b : ℕ) (s : List ℕ) → b ≢ ascii.quote → NoQuote s → NoQuote (b ∷ s)
free_more b s h free = or_from (b == ascii.quote) (has_quote s) (by (b == ascii.quote) refl) free
  where
    by : (t : Bool) → (b == ascii.quote) ≡ t → (b == ascii.quote) ≡ false
    by false e = e
    by true e = let f : b ≡ ascii.quote = grind (arith, nat_tests) in absurd (h f)

free_by_each : (s : List ℕ) → ((k : ℕ) → k < length s → slice_index s k ≢ ascii.quote) → NoQuote s
free_by_each [] h = refl
free_by_each (b ∷ s) h =
    free_more b s (h 0 (omega arith)) (free_by_each s (λ k l. h (suc k) (omega arith)))

word_no_quote : (b : ℕ) → is_unquoted b ≡ true → b ≢ ascii.quote
word_no_quote b h e = false≢true (sym (ap is_unquoted e) ∙ h)

word_free : (text : List ℕ) (from to : ℕ) (k : List ℕ) → Unquoted text from to k → NoQuote k
word_free text from to k w = free_by_each k (λ i l e.
    let long : length (slice_range text from to) ≤ to - from =
    omega (arith, length-take (to - from) (drop from text)) in
    let m : i < to - from = omega (arith, ap length w.means, long) in
    let part : slice_index (slice_range text from to) i ≡ slice_index text (from + i) =
    get_or-take (to - from) (drop from text) i 0 m ∙ get_or-drop from text i 0 in
    word_no_quote (slice_index text (from + i))
    (and_parts _ _ (w.each (from + i) (omega arith) (omega arith))).0
    (sym part ∙ ap (λ l. slice_index l i) (sym w.means) ∙ e))

escape_order : (text : List ℕ) (at to : ℕ) (s : List ℕ) → Escape text at to s → at ≤ to
escape_order text at to s (itself _ _ _) = omega arith
escape_order text at to s (letter _) = omega arith
escape_order text at to s (four_digits _ _ _ _) = omega arith
escape_order text at to s (pair _ _ _ _ _ _ _) = omega arith
escape_order text at to s (eight_digits _ _ _ _ _ _) = omega arith
escape_order text at to s (control _ _ _) = omega arith
escape_order text at to s (short_hex _ _ _ p _) = omega (arith, p.some)
escape_order text at to s (octal _ _ p _) = omega (arith, p.some)

inside_order : (text : List ℕ) (at to : ℕ) (s : List ℕ) → QuotedBytes text at to s → at ≤ to
inside_order text at to s (ends _ h) = omega arith
inside_order text at to s (byte _ _ bytes l q b r) =
    omega (arith, inside_order text (at + 1) to bytes r)
inside_order text at to s (escape _ next _ first bytes b x r) =
    omega (arith, escape_order text (at + 1) next first x, inside_order text next to bytes r)

-- where no escape stands, a piece gives no quote
inside_free : (text : List ℕ) (at to : ℕ) (s : List ℕ) → QuotedBytes text at to s
    → ((k : ℕ) → at ≤ k → k < to + 1 → slice_index text k ≢ backslash) → NoQuote s
inside_free text at to s (ends _ e) none = refl
inside_free text at to s (byte _ _ bytes l q b r) none =
    free_more (slice_index text at) bytes q
    (inside_free text (at + 1) to bytes r (λ k low high. none k (omega (arith, low)) high))
inside_free text at to s (escape _ next _ first bytes e x r) none =
    absurd (none at (omega arith) (omega (
      arith,
      escape_order text (at + 1) next first x,
      inside_order text next to bytes r,
    )) e)

key_taken : (text : List ℕ) (from to : ℕ) (k : List ℕ) → KeyText text from to k
    → is_icu_key k ≡ true
key_taken text from to k key =
    and_from (are_key_bytes k) (not (has_quote k)) key.fits (ap not (free key.verbatim))
  where
    free : Verbatim text from to k → has_quote k ≡ false
    free (a_word r w) = word_free text from to k w
    free (a_piece j p n) =
        inside_free text (from + 1) p.last k p.inside
        (λ i low high. n i (omega arith) (omega (arith, p.ends, high)))

-- what may stand under a key
record IsTakenPair (k : List ℕ) (t : Tree) : Type 0 where
  key : is_icu_key k ≡ true
  tree : IsTaken t

abbrev TakenPairs : List (List ℕ × Tree) → Type 0
TakenPairs [] = Unit {0}
TakenPairs (p ∷ ps) = IsTakenPair p.0 p.1 × TakenPairs ps

ordering_taken : (o : Ordering) (a b c : Entries) → (o ≡ Less → TakenIn a)
    → (o ≡ Equal → TakenIn b) → (o ≡ Greater → TakenIn c) → TakenIn (match_ordering o a b c)
ordering_taken Less a b c h k l = h refl
ordering_taken Equal a b c h k l = k refl
ordering_taken Greater a b c h k l = l refl

put_taken : (k : List ℕ) (t : Tree) (es : Entries) → IsTakenPair k t → TakenIn es
    → TakenIn (put k t es)
put_taken k t no_entries h taken = (h.key, h.tree, tt)
put_taken k t (entry l u es) h taken =
    ordering_taken (text_cmp k l) (entry k t (entry l u es)) (entry l t es) (entry l u (put k t es))
    (λ e. (h.key, h.tree, taken)) (λ e. (taken.0, h.tree, taken.2))
    (λ e. (taken.0, taken.1, put_taken k t es h taken.2))

put_all_taken : (es : Entries) (ps : List (List ℕ × Tree)) → TakenIn es → TakenPairs ps
    → TakenIn (put_all es ps)
put_all_taken es [] taken h = taken
put_all_taken es (p ∷ ps) taken h =
    put_all_taken (put p.0 p.1 es) ps (put_taken p.0 p.1 es h.0 taken) h.1

map_taken : (ps : List (List ℕ × Tree)) → TakenPairs ps → TakenIn (map_of ps)
map_taken ps h = put_all_taken no_entries ps tt h

leaf_taken : (text : List ℕ) (from to : ℕ) (kind : Kind) (t : Tree)
    → LeafContent text from to kind t → IsTaken t
leaf_taken text from to kind t (string_content i s x y) = tt
leaf_taken text from to kind t (alias_content i s x y) = tt
leaf_taken text from to kind t (binary_content i s bytes x y z) = tt
leaf_taken text from to kind t (integer_content i v x y) = tt
leaf_taken text from to kind t (no_numbers e) = tt
leaf_taken text from to kind t (numbers ns x) = tt

mutual
  members_taken : (text : List ℕ) (last : Last) (from to : ℕ) (ts : List Tree)
      (ks : List (List ℕ)) → Members text last from to ts ks → AreTaken (trees_of ts)
  members_taken text last from to ts ks (no_member _ _) = tt
  members_taken text last from to ts ks (string_member _ _ i j _ s us js n x y m) =
      (tt, members_taken text _ j to us js m)
  members_taken text last from to ts ks (group_member _ _ i j _ t js ls us g y m) =
      (group_taken text from i t js g, members_taken text _ j to us ls m)
  members_taken text last from to ts ks (comma_behind _ _ j _ us js n x y m) =
      members_taken text _ j to us js m

  entries_taken : (text : List ℕ) (from to : ℕ) (es : List (List ℕ × Tree)) (ks : List (List ℕ))
      → groups.Entries text from to es ks → TakenPairs es
  entries_taken text from to es ks (no_entry _) = tt
  entries_taken text from to es ks (one_entry _ i j m n _ k t fs js ls key x g y more new) = (
    record { key = key_taken text from i k key; tree = group_taken text j m t js g },
    entries_taken text n to fs ls more,
  )

  untyped_taken : (text : List ℕ) (from to : ℕ) (t : Tree) (ks : List (List ℕ))
      → Untyped text from to t ks → IsTaken t
  untyped_taken text from to t ks (an_empty_array _) = tt
  untyped_taken text from to t ks (one_string _ i _ s x y) = tt
  untyped_taken text from to t ks (an_array _ _ ts js b m) =
      members_taken text _ from to ts js m
  untyped_taken text from to t ks (a_table _ _ e es js m) =
      map_taken (e ∷ es) (entries_taken text from to (e ∷ es) js m)

  typed_taken : (text : List ℕ) (kind : Kind) (from to : ℕ) (t : Tree) (ks : List (List ℕ))
      → Typed text kind from to t ks → IsTaken t
  typed_taken text kind from to t ks (members _ _ ts js m) = members_taken text _ from to ts js m
  typed_taken text kind from to t ks (entries _ _ es js m) =
      map_taken es (entries_taken text from to es js m)
  typed_taken text kind from to t ks (leaf _ _ _ u x) = leaf_taken text from to kind u x

  group_taken : (text : List ℕ) (from to : ℕ) (t : Tree) (ks : List (List ℕ))
      → Group text from to t ks → IsTaken t
  group_taken text from to t ks (untyped _ i k u js x y m z) = untyped_taken text i k u js m
  group_taken text from to t ks (typed _ i k kind u js x m z) = typed_taken text kind i k u js m

-- there is no cause where everything is taken
mutual
  taken_no_cause : (path : List Step) (t : Tree) (later : Found) → IsTaken t
      → found_at icu_tests path t later ≡ later
  taken_no_cause path (string s) later h = refl
  taken_no_cause path (alias s) later h = refl
  taken_no_cause path (array ts) later h = taken_no_causes path 0 ts later h
  taken_no_cause path (table es) later h = taken_none_in path es later h
  taken_no_cause path (binary bs) later h = refl
  taken_no_cause path (integer n) later h = refl
  taken_no_cause path (int_vector ns) later h = refl

  taken_no_causes : (path : List Step) (n : ℕ) (ts : Trees) (later : Found) → AreTaken ts
      → found_among icu_tests path n ts later ≡ later
  taken_no_causes path n no_trees later h = refl
  taken_no_causes path n (more_trees t ts) later h =
      taken_no_cause (path ++ by_number n ∷ []) t (found_among icu_tests path (suc n) ts later)
      h.0
      ∙ taken_no_causes path (suc n) ts later h.1

  taken_none_in : (path : List Step) (es : Entries) (later : Found) → TakenIn es
      → found_in icu_tests path es later ≡ later
  taken_none_in path no_entries later h = refl
  taken_none_in path (entry k t es) later h =
      let here = path ++ by_key k ∷ [] in
      let rest = found_in icu_tests path es later in
      key_passed k here (found_at icu_tests here t rest) h.0
      ∙ taken_no_cause here t rest h.1 ∙ taken_none_in path es later h.2

-- and where there is none, everything is
none_if : (b : Bool) (x : Cause) (path : List Step) (later : Found)
    → found_else (cond b (Some x) None) path later ≡ None → (b ≡ false) × (later ≡ None)
none_if true x path later e = absurd (none-some (path, x) (sym e))
none_if false x path later e = (refl, e)

mutual
  no_cause_taken : (path : List Step) (t : Tree) (later : Found)
      → found_at icu_tests path t later ≡ None → IsTaken t × (later ≡ None)
  no_cause_taken path (string s) later h = (tt, h)
  no_cause_taken path (alias s) later h = (tt, h)
  no_cause_taken path (array ts) later h = no_causes_taken path 0 ts later h
  no_cause_taken path (table es) later h = none_in_taken path es later h
  no_cause_taken path (binary bs) later h = (tt, h)
  no_cause_taken path (integer n) later h = (tt, h)
  no_cause_taken path (int_vector ns) later h = (tt, h)

  no_causes_taken : (path : List Step) (n : ℕ) (ts : Trees) (later : Found)
      → found_among icu_tests path n ts later ≡ None → AreTaken ts × (later ≡ None)
  no_causes_taken path n no_trees later h = (tt, h)
  no_causes_taken path n (more_trees t ts) later h =
      let rest = found_among icu_tests path (suc n) ts later in
      let a = no_cause_taken (path ++ by_number n ∷ []) t rest h in
      let b = no_causes_taken path (suc n) ts later a.1 in
      ((a.0, b.0), b.1)

  pub none_in_taken : (path : List Step) (es : Entries) (later : Found)
      → found_in icu_tests path es later ≡ None → TakenIn es × (later ≡ None)
  none_in_taken path no_entries later h = (tt, h)
  none_in_taken path (entry k t es) later h =
      let here = path ++ by_key k ∷ [] in
      let rest = found_in icu_tests path es later in
      let a = none_if (not (is_icu_key k)) KeyHasOtherBytes here (found_at icu_tests here t rest) h
      in
      let b = no_cause_taken here t rest a.1 in
      let c = none_in_taken path es later b.1 in
      ((true_from_not (is_icu_key k) a.0, b.0, c.0), c.1)

pub none_named : (name : List ℕ) (path : List Step) (later : Found)
    → found_else (icu_tests.of_name name) path later ≡ None
    → (is_bare name ≡ true) × (later ≡ None)
none_named name path later h =
    let a = none_if (not (is_bare name)) NameIsNoWord path later h in
    (true_from_not (is_bare name) a.0, a.1)

-- a name of word characters
run_words : (name : List ℕ) → ((k : ℕ) → k < length name → is_word (slice_index name k) ≡ true)
    → list_all is_word name ≡ true
run_words [] h = refl
run_words (b ∷ name) h =
    and_from (is_word b) (list_all is_word name) (h 0 (omega arith))
    (run_words name (λ k l. h (suc k) (omega arith)))

bare_from : (name : List ℕ) → 0 < length name → list_all is_word name ≡ true → is_bare name ≡ true
bare_from [] l h = absurd (omega (arith, l))
bare_from (b ∷ name) l h = h

-- a text of ICU's form gives no cause
pub no_cause : (text name : List ℕ) (fallback : Bool) (t : Tree) (keys : List (List ℕ))
    → IcuText text name fallback t keys → first_cause icu_tests name t ≡ None
no_cause text name fallback t keys b =
    let named = b.header.named in
    let bare = bare_from name named.some
    (run_words name (λ k l. named.word.each k (omega arith) l)) in
    let es = map_of b.entries in
    ap (first_cause icu_tests name) b.means
    ∙ ap cause_in (missed_if (not (is_bare name)) NameIsNoWord [] (found_in icu_tests [] es None)
    (ap not bare)
    ∙ taken_none_in [] es None
    (map_taken b.entries (entries_taken text b.first b.last b.entries b.places b.body)))
