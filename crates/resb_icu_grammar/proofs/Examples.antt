-- Accepted and refused texts of ICU's form, by the definitions alone; and one that gets stuck.
use Rattle.std.proofs.Common.{◌≡◌, ◌≢◌, ℕ, zero, suc, ◌+◌, ◌≤◌, true, false, List, [], inl, inr}
use Rattle.std.proofs.Common.{◌∷◌, length, refl, sym, ap, arith, lit≤, subst, encode_utf8, ◌<◌, ◌∙◌}
use Rattle.std.specs.Prelude.{slice_index, slice_range, codes, ◌&&◌, ◌==◌, not, if◌then◌else◌}
use Rattle.std.proofs.lemmas.Bool.{false≢true}
use Rattle.std.specs.Char.Utf16.{is_high_surrogate}
use Rattle.resb_tree.specs.Tree.{Tree, string, alias, array, table, trees_of, map_of}
use Rattle.resb_grammar.specs.ByteRuns.{is_white, Run}
use Rattle.resb_icu_grammar.specs.Kinds.{Kind, Names, string_kind, alias_kind, array_kind}
use Rattle.resb_icu_grammar.specs.Kinds.{table_kind, binary_kind, integer_kind, vector_kind}
use Rattle.resb_icu_grammar.specs.Bytes.{is_word, is_key_byte, are_key_bytes}
use Rattle.resb_icu_grammar.specs.Blanks.{Comment, line, block, none, white, Skip, without_a_mark}
use Rattle.resb_icu_grammar.specs.Escapes.{Escape, itself, letter, four_digits, pair, eight_digits}
use Rattle.resb_icu_grammar.specs.Escapes.{control, short_hex, octal}
use Rattle.resb_icu_grammar.specs.Pieces.{QuotedBytes, ends, byte, escape, Joined, last_piece}
use Rattle.resb_icu_grammar.specs.Pieces.{one_more}
use Rattle.resb_icu_grammar.specs.Faults.{NoEscapeAt, StringFault, this_part, this_piece}
use Rattle.resb_icu_grammar.specs.Faults.{later_piece}
use Rattle.resb_icu_grammar.specs.Faults as fault
use Rattle.resb_icu_grammar.specs.Words as words
use Rattle.resb_icu_grammar.specs.Unquoted.{Unquoted, UnquotedRow, last_one, goes_on, may_begin}
use Rattle.resb_icu_grammar.specs.Unquoted as rows
use Rattle.resb_icu_grammar.specs.Words.{a_row, quoted}
use Rattle.resb_icu_grammar.specs.Words.{TypeName}
use Rattle.resb_icu_grammar.specs.Groups.{Group, untyped, an_empty_array, one_string, no_entry}
use Rattle.resb_icu_grammar.specs.Groups.{one_entry, Entries, typed, leaf, alias_content}
use Rattle.resb_icu_grammar.specs.Groups.{a_string, a_comma}
use Rattle.resb_icu_grammar.specs.Bundle.{without, IcuText, Header, Ending, is_barred}
use Rattle.resb_icu_grammar.specs.Machine.{in_table, among_entries, before_group, reading_at}
use Rattle.resb_icu_grammar.specs.Machine.{BeginsGroup, key_of_entry, Standing, among_members}
use Rattle.resb_icu_grammar.specs.Machine.{in_untyped, behind_group, Reading, Move, group_opens}
use Rattle.resb_icu_grammar.specs.Machine.{begins_with_string, comma_behind, string_member}
use Rattle.resb_icu_grammar.specs.Machine.{array_ends, table_ends, was_value, here, moves, leaves}
use Rattle.resb_grammar.specs.Limit.{tree_limit}
use Rattle.resb_icu_grammar.specs.Limit.{IcuMakes, IcuMadeWithin, IcuMakesMore, by_a_step}
use Rattle.resb_icu_grammar.specs.Stuck.{Stuck, in_root, inside, no_group, TypeStuck, no_tree}
use Rattle.resb_icu_grammar.specs.declared.expected.IcuExpected.{IcuExpected}
use Rattle.resb_icu_grammar.specs.declared.expected.IcuExpected.TheVariants as expect
use Rattle.resb_icu_grammar.proofs.FewDigitsLemmas.{said_none, said_more, few_said, few_first}
use Rattle.resb_icu_grammar.proofs.Lexical.{half_no_scalar}
use Rattle.resb_icu_grammar.proofs.Moves.{one_move}
use Rattle.resb_icu_grammar.proofs.OneRefusal.{stuck_in_one_way}
use Rattle.resb_icu_grammar.proofs.RestRoot.{nothing_behind}

-- nothing is skipped where a byte other than white and `/` stands
stays : (text : List ℕ) (at : ℕ) → is_white (slice_index text at) ≡ false → slice_index text at ≢ 47
    → Skip text at at
stays text at h ne =
    record { blanks = none at; solid = record { no_white = h; no_comment = never } }
  where
    never : (k : ℕ) → Comment text at k → ⊥
    never k (line a b c) = ne a
    never k (block i a b c d) = ne a

-- words may have `_`, `.`, `%` and signs; keys no brackets
byte_examples : (is_word 95 ≡ true) × (is_word 37 ≡ true) × (is_word 46 ≡ true)
    × (is_word 43 ≡ true)
    × (is_word 47 ≡ false) × (is_key_byte 47 ≡ true) × (is_key_byte 91 ≡ false)
    × (is_key_byte 32 ≡ true) × (is_key_byte 127 ≡ false)
byte_examples = (refl, refl, refl, refl, refl, refl, refl, refl, refl)

-- two pieces in a row are one string, and an escape is one character of it
joined : Joined (codes "\"a\\n\" \"b\"") 0 9 (97 ∷ 10 ∷ 98 ∷ [])
joined =
    one_more 0 5 6 9 (97 ∷ 10 ∷ []) (98 ∷ [])
    (record {
      last = 4;
      opens = refl;
      inside = byte 1 4 (10 ∷ []) (lit≤ tt) (λ h. absurd (omega arith)) (λ h. absurd (omega arith))
          (escape 2 4 4 (10 ∷ []) [] refl (letter refl) (ends 4 refl));
      ends = refl;
    })
    (record {
      blanks = white 5 6 refl (none 6);
      solid = (stays _ 6 refl (λ h. absurd (omega arith))).solid;
    })
    (last_piece 6 9 9 (98 ∷ [])
    (record {
      last = 8;
      opens = refl;
      inside = byte 7 8 [] (lit≤ tt) (λ h. absurd (omega arith)) (λ h. absurd (omega arith))
          (ends 8 refl);
      ends = refl;
    })
    (stays _ 9 refl (λ h. absurd (omega arith))) (λ h. absurd (omega arith)))

-- `/**/` is still open
comment_refused : (to : ℕ) → Comment (codes "/**/") 0 to → ⊥
comment_refused to (line a b c) = absurd (omega arith)
comment_refused to (block at a b f e) = never at f.order f.closer.star
  where
    never : (at : ℕ) → 3 ≤ at → slice_index (codes "/**/") at ≡ 42 → ⊥
    never zero low h = absurd (omega arith)
    never (suc zero) low h = absurd (omega arith)
    never (suc (suc zero)) low h = absurd (omega arith)
    never (suc (suc (suc zero))) low h = absurd (omega arith)
    never (suc (suc (suc (suc n)))) low h = absurd (omega arith)

-- `\u00e9` is é, in its two bytes
escape_accepted : Escape (codes "u00e9") 0 5 (encode_utf8 0xe9)
escape_accepted =
    four_digits 0xe9 (record { letter = refl; digits = refl; means = refl }) refl
    (λ h. absurd (omega arith))

-- `\q` is q, `\8` is 8, and `\a` is U+0007
unknown_accepted : Escape (codes "q") 0 1 (codes "q")
unknown_accepted = itself (lit≤ tt) refl refl

eight_accepted : Escape (codes "8") 0 1 (codes "8")
eight_accepted = itself (lit≤ tt) refl refl

bell_accepted : Escape (codes "a") 0 1 (7 ∷ [])
bell_accepted = letter refl

-- `\uD83D\uDE00` is U+1F600, one character
pair_accepted : Escape (codes "uD83D\\uDE00") 0 11 (encode_utf8 0x1f600)
pair_accepted =
    pair 0xd83d 0xde00 (record { letter = refl; digits = refl; means = refl }) refl refl
    (record { letter = refl; digits = refl; means = refl }) refl

-- `\U00000000` is U+0000, and `\c'` is U+0007
zero_accepted : Escape (codes "U00000000") 0 9 (encode_utf8 0)
zero_accepted = eight_digits 0 refl refl refl refl refl

control_accepted : Escape (codes "c'") 0 2 (7 ∷ [])
control_accepted = control refl (lit≤ tt) (lit≤ tt)

-- `\x41` is A, and so is `\101`
hex_accepted : Escape (codes "x41") 0 3 (encode_utf8 65)
hex_accepted =
    short_hex 65 3 refl (few_said (said_more (said_more said_none 1 52 4 refl refl refl refl)
    2 49 1 refl refl refl refl) (lit≤ tt) (lit≤ tt) refl refl (inl refl)) refl

octal_accepted : Escape (codes "101") 0 3 (encode_utf8 65)
octal_accepted =
    octal 65 3 (few_said (said_more (said_more (said_more said_none 0 49 1 refl refl refl refl)
    1 48 0 refl refl refl refl) 2 49 1 refl refl refl refl) (lit≤ tt) (lit≤ tt) refl refl
    (inl refl)) refl

-- `\u005C` would be a backslash, and is none
escape_refused : (to : ℕ) (s : List ℕ) → Escape (codes "u005C") 0 to s → ⊥
escape_refused to s (itself f l o) = false≢true (sym o)
escape_refused to s (letter h) = false≢true h
escape_refused to s (four_digits c w y z) = z w.means
escape_refused to s (pair m n w p d x q) =
    half_refused m w.means p
  where
    half_refused : (m : ℕ) → m ≡ 92 → is_high_surrogate m ≡ true → ⊥
    half_refused m e p = false≢true (ap is_high_surrogate (sym e) ∙ p)
escape_refused to s (eight_digits c h x e y z) = absurd (omega arith)
escape_refused to s (control h l m) = absurd (omega arith)
escape_refused to s (short_hex c _ h p o) = absurd (omega arith)
escape_refused to s (octal c _ p o) = false≢true (few_first p)

-- `"a\uD83D"` has a fault at the backslash, where the other half of a pair is expected
escape_told : StringFault (codes "\"a\\uD83D\"") 0 2 expect.WholePair
escape_told =
    this_part 0 2 _ (this_piece 0 2 _ refl
    (fault.byte 1 2 _ (lit≤ tt) (λ h. absurd (omega arith)) (λ h. absurd (omega arith))
    (fault.no_escape 2 refl never)))
  where
    never : NoEscapeAt (codes "\"a\\uD83D\"") 3
    never to s (itself f l o) = false≢true (sym o)
    never to s (letter h) = false≢true h
    never to s (four_digits c w y z) = half_no_scalar c 0xd83d w.means y refl
    never to s (pair m n w p d x q) = absurd (omega arith)
    never to s (eight_digits c h x e y z) = absurd (omega arith)
    never to s (control h l m) = absurd (omega arith)
    never to s (short_hex c _ h p o) = absurd (omega arith)
    never to s (octal c _ p o) = false≢true (few_first p)

-- `"a" "b` has one at its second piece, which no quote closes
open_quote_told : StringFault (codes "\"a\" \"b") 0 4 expect.ClosingQuote
open_quote_told =
    this_part 0 4 _ (later_piece 0 3 4 4 (97 ∷ []) _
    (record {
      last = 2;
      opens = refl;
      inside = byte 1 2 [] (lit≤ tt) (λ h. absurd (omega arith)) (λ h. absurd (omega arith))
          (ends 2 refl);
      ends = refl;
    })
    (record {
      blanks = white 3 4 refl (none 4);
      solid = (stays _ 4 refl (λ h. absurd (omega arith))).solid;
    })
    (this_piece 4 4 _ refl
    (fault.byte 5 4 _ (lit≤ tt) (λ h. absurd (omega arith)) (λ h. absurd (omega arith))
    (fault.no_end 6 (lit≤ tt)))))

-- an empty group is an array
empty_group : Group (codes "{}") 0 2 (array (trees_of [])) []
empty_group =
    untyped 0 1 1 _ [] refl (stays _ 1 refl (λ h. absurd (omega arith))) (an_empty_array 1) refl

-- an unquoted string of one byte
word_of_one : (text : List ℕ) (from : ℕ) → may_begin (slice_index text from) ≡ true
    → goes_on text from ≡ true
    → goes_on text (from + 1) ≡ false → from + 1 ≤ length text
    → Unquoted text from (from + 1) (slice_range text from (from + 1))
word_of_one text from first h stop fits =
    record {
      begins = first;
      some = omega arith;
      fits = fits;
      each = λ k low high.
          (let e : from ≡ k = omega arith in subst (λ i. goes_on text i ≡ true) e h);
      longest = stop;
      means = refl;
    }

-- it is a row of one where no white character stands behind it
row_of_one : (text : List ℕ) (from : ℕ) → may_begin (slice_index text from) ≡ true
    → goes_on text from ≡ true
    → goes_on text (from + 1) ≡ false → from + 1 ≤ length text
    → is_white (slice_index text (from + 1)) ≡ false → slice_index text (from + 1) ≢ 47
    → UnquotedRow text from (from + 1) (slice_range text from (from + 1))
row_of_one text from first h stop fits no_white other =
    last_one from (from + 1) (from + 1) _ (word_of_one text from first h stop fits)
    (stays text (from + 1) no_white other)
    (ap (λ b. b && rows.begins_unquoted text (from + 1)) no_white)

-- two unquoted strings are joined by a blank
row_of_two : UnquotedRow (codes "a\t\nb}") 0 4 (codes "a b")
row_of_two =
    rows.one_more 0 1 3 4 (codes "a") (codes "b")
    (word_of_one (codes "a\t\nb}") 0 refl refl refl (lit≤ tt)) refl
    (record {
      blanks = white 1 3 refl (white 2 3 refl (none 3));
      solid = (stays (codes "a\t\nb}") 3 refl (λ h. absurd (omega arith))).solid;
    })
    (row_of_one (codes "a\t\nb}") 3 refl refl refl (lit≤ tt) refl (λ h. absurd (omega arith)))

-- as a string it is one part where no quote stands behind it
abbrev one_word : (text : List ℕ) (from to : ℕ) (s : List ℕ) → UnquotedRow text from to s
    → (slice_index text from == 34) ≡ false → is_white (slice_index text to) ≡ false
    → slice_index text to ≢ 47 → (slice_index text to == 34) ≡ false → words.Text text from to s
one_word text from to s r first no_white slash quote =
    words.one_part from to to s (a_row r) (stays text to no_white slash)
    (ap (λ b. if b then not (length s == 0) && rows.begins_unquoted text to
    else slice_index text to == 34) first ∙ quote)

-- and then may be a key
a_key : (text : List ℕ) (from : ℕ) → may_begin (slice_index text from) ≡ true
    → goes_on text from ≡ true
    → goes_on text (from + 1) ≡ false → from + 1 ≤ length text
    → is_white (slice_index text (from + 1)) ≡ false → slice_index text (from + 1) ≢ 47
    → are_key_bytes (slice_range text from (from + 1)) ≡ true
    → (slice_index text from == 34) ≡ false → (slice_index text (from + 1) == 34) ≡ false
    → words.KeyText text from (from + 1) (slice_range text from (from + 1))
a_key text from first h stop fits no_white other is no_quote no_piece =
    record {
      whole = one_word text from (from + 1) _ (row_of_one text from first h stop fits no_white other)
          no_quote no_white other no_piece;
      verbatim = words.a_word (row_of_one text from first h stop fits no_white other)
          (word_of_one text from first h stop fits);
      fits = is;
    }

-- the name `b` is a word
b_is_word : Run is_word (codes "b") 0 1
b_is_word = record { order = lit≤ tt; fits = lit≤ tt; each = each; longest = refl }
  where
    each : (k : ℕ) → 0 ≤ k → k < 1 → is_word (slice_index (codes "b") k) ≡ true
    each zero low high = refl
    each (suc n) low high = absurd (omega arith)

-- a slash is of an unquoted string, also at its start, but not where it begins a comment
slash_accepted : (goes_on (codes "a/b") 1 ≡ true) × (goes_on (codes "a//b") 1 ≡ false)
    × (goes_on (codes "a/*b") 1 ≡ false) × (goes_on (codes "a/") 1 ≡ true)
    × (rows.begins_unquoted (codes "/a") 0 ≡ true)
slash_accepted = (refl, refl, refl, refl, refl)

-- é is of one, U+2029 and U+FEFF are not, and none begins inside é
beyond_accepted : (goes_on (0xc3 ∷ 0xa9 ∷ []) 0 ≡ true) × (goes_on (0xc3 ∷ 0xa9 ∷ []) 1 ≡ true)
    × (goes_on (0xe2 ∷ 0x80 ∷ 0xa9 ∷ []) 0 ≡ false)
    × (goes_on (0xe2 ∷ 0x80 ∷ 0xa8 ∷ []) 0 ≡ true)
    × (goes_on (0xef ∷ 0xbb ∷ 0xbf ∷ []) 0 ≡ false) × (may_begin 0xa9 ≡ false)
beyond_accepted = (refl, refl, refl, refl, refl, refl)

-- a bundle named b with the string x at the key k
bundle_accepted : IcuText (codes "b{k{x}}") (codes "b") true
    (table (map_of ((codes "k", string (codes "x")) ∷ []))) (codes "k" ∷ [])
bundle_accepted = record {
  first = 2;
  last = 6;
  entries = (codes "k", string (codes "x")) ∷ [];
  places = codes "k" ∷ [];
  header = record {
    begin = 0;
    start = 0;
    ends = 1;
    place = 1;
    brace = 1;
    begins = without_a_mark refl refl;
    before = stays _ 0 refl (λ h. absurd (omega arith));
    named = record {
      key = a_key _ 0 refl refl refl (lit≤ tt) refl (λ h. absurd (omega arith)) refl refl refl;
      some = lit≤ tt;
      word = b_is_word;
    };
    between = stays _ 1 refl (λ h. absurd (omega arith));
    typed = without refl;
    opens = refl;
    after = stays _ 2 refl (λ h. absurd (omega arith));
  };
  body = one_entry 2 3 3 6 6 6 (codes "k") (string (codes "x")) [] [] []
      (a_key _ 2 refl refl refl (lit≤ tt) refl (λ h. absurd (omega arith)) refl refl refl)
      (stays _ 3 refl (λ h. absurd (omega arith)))
      (untyped 3 4 5 _ [] refl (stays _ 4 refl (λ h. absurd (omega arith)))
      (one_string 4 5 5 (codes "x")
      (one_word _ 4 5 _
      (row_of_one _ 4 refl refl refl (lit≤ tt) refl (λ h. absurd (omega arith)))
      refl refl (λ h. absurd (omega arith)) refl)
      (stays _ 5 refl (λ h. absurd (omega arith)))) refl)
      (stays _ 6 refl (λ h. absurd (omega arith))) (no_entry 6) refl;
  closes = refl;
  after = nothing_behind _ 7 (stays _ 7 refl (λ h. absurd (omega arith)));
  means = refl;
  lists = refl;
}

-- behind a bundle `/}` may stand, but neither a backslash nor `/*`
behind_accepted : Ending (codes "b{}x/}") 3
    × (is_barred (codes "b{}x/*") 4 ≡ true) × (is_barred (codes "b{}\\") 3 ≡ true)
behind_accepted = (
  record {
    to = 3;
    before = stays _ 3 refl (λ h. absurd (omega arith));
    free = free;
  },
  refl,
  refl,
)
  where
    free : (k : ℕ) → 3 ≤ k → k < 6 → is_barred (codes "b{}x/}") k ≡ false
    free zero low high = absurd (omega (arith, low))
    free (suc zero) low high = absurd (omega (arith, low))
    free (suc (suc zero)) low high = absurd (omega (arith, low))
    free (suc (suc (suc zero))) low high = refl
    free (suc (suc (suc (suc zero)))) low high = refl
    free (suc (suc (suc (suc (suc zero))))) low high = refl
    free (suc (suc (suc (suc (suc (suc k)))))) low high = absurd (omega (arith, high))

-- `b{a}` gets stuck at the `}`: behind the key a group is expected
stuck_there : Stuck (codes "b{a}") 3 expect.Group
stuck_there =
    in_root (codes "b") true 2
    (record {
      begin = 0;
      start = 0;
      ends = 1;
      place = 1;
      brace = 1;
      begins = without_a_mark refl refl;
      before = stays _ 0 refl (λ h. absurd (omega arith));
      named = record {
        key = a_key _ 0 refl refl refl (lit≤ tt) refl (λ h. absurd (omega arith)) refl refl refl;
        some = lit≤ tt;
        word = b_is_word;
      };
      between = stays _ 1 refl (λ h. absurd (omega arith));
      typed = without refl;
      opens = refl;
      after = stays _ 2 refl (λ h. absurd (omega arith));
    })
    (record {
      last = reading_at (in_table [] (codes "a") ∷ []) (codes "a" ∷ []) before_group 3;
      comes = one_move (codes "b{a}") [] [] (among_entries []) 2
          (reading_at (in_table [] (codes "a") ∷ []) (codes "a" ∷ []) before_group 3)
          (key_of_entry [] 2 3 3 (codes "a")
          (a_key _ 2 refl refl refl (lit≤ tt) refl (λ h. absurd (omega arith)) refl refl refl)
          (stays _ 3 refl (λ h. absurd (omega arith))));
      there = inside (in_table [] (codes "a") ∷ []) (codes "a" ∷ []) before_group 3 3 expect.Group
          (no_group 3 never);
    })
  where
    never : BeginsGroup (codes "b{a}") 3 → ⊥
    never (inl h) = absurd (omega arith)
    never (inr h) = absurd (omega arith)

-- and nowhere else, and nothing else is expected
stuck_nowhere_else : (at : ℕ) (x : IcuExpected) → Stuck (codes "b{a}") at x
    → (at ≡ 3) × (x ≡ expect.Group)
stuck_nowhere_else at x s = stuck_in_one_way (codes "b{a}") at 3 x expect.Group s stuck_there

-- the entry of an alias, whose path is a string
alias_accepted : Entries (codes "x:alias{\"/a/b\"}") 0 15
    ((codes "x", alias (codes "/a/b")) ∷ []) (codes "x" ∷ [])
alias_accepted =
    one_entry 0 1 1 15 15 15 (codes "x") (alias (codes "/a/b")) [] [] []
    (a_key _ 0 refl refl refl (lit≤ tt) refl (λ h. absurd (omega arith)) refl refl refl)
    (stays _ 1 refl (λ h. absurd (omega arith)))
    (typed 1 8 14 alias_kind (alias (codes "/a/b")) []
    (record {
      ends = 7;
      brace = 7;
      named = record { name = codes "alias"; stands = type_stands; names = refl };
      between = stays _ 7 refl (λ h. absurd (omega arith));
      opens = refl;
      after = stays _ 8 refl (λ h. absurd (omega arith));
    })
    (leaf alias_kind 8 14 (alias (codes "/a/b"))
    (alias_content 14 (codes "/a/b")
    (words.one_part 8 14 14 (codes "/a/b") (quoted (last_piece 8 14 14 (codes "/a/b")
    (record { last = 13; opens = refl; inside = path; ends = refl })
    (stays _ 14 refl (λ h. absurd (omega arith))) (λ h. absurd (omega arith))))
    (stays _ 14 refl (λ h. absurd (omega arith))) refl)
    (stays _ 14 refl (λ h. absurd (omega arith)))))
    refl)
    (stays _ 15 refl (λ h. absurd (omega arith))) (no_entry 15) refl
  where
    each : (k : ℕ) → 2 ≤ k → k < 7 → is_word (slice_index (codes "x:alias{\"/a/b\"}") k) ≡ true
    each zero low high = absurd (omega arith)
    each (suc zero) low high = absurd (omega arith)
    each (suc (suc zero)) low high = refl
    each (suc (suc (suc zero))) low high = refl
    each (suc (suc (suc (suc zero)))) low high = refl
    each (suc (suc (suc (suc (suc zero))))) low high = refl
    each (suc (suc (suc (suc (suc (suc zero)))))) low high = refl
    each (suc (suc (suc (suc (suc (suc (suc n))))))) low high = absurd (omega arith)

    type_stands : TypeName (codes "x:alias{\"/a/b\"}") 1 7 (codes "alias")
    type_stands = record {
      place = 2;
      colon = refl;
      between = stays _ 2 refl (λ h. absurd (omega arith));
      word = record {
        run = record { order = lit≤ tt; fits = lit≤ tt; each = each; longest = refl };
        some = lit≤ tt;
        means = refl;
      };
    }

    path : QuotedBytes (codes "x:alias{\"/a/b\"}") 9 13 (codes "/a/b")
    path =
        byte 9 13 (codes "a/b") (lit≤ tt) (λ h. absurd (omega arith)) (λ h. absurd (omega arith))
        (byte 10 13 (codes "/b") (lit≤ tt) (λ h. absurd (omega arith)) (λ h. absurd (omega arith))
        (byte 11 13 (codes "b") (lit≤ tt) (λ h. absurd (omega arith)) (λ h. absurd (omega arith))
        (byte 12 13 [] (lit≤ tt) (λ h. absurd (omega arith)) (λ h. absurd (omega arith))
        (ends 13 refl))))

-- `: import` is no type of a tree, and that is told by its name
import_refused : TypeStuck (codes ": import{") 0 expect.NoImport
import_refused = no_tree 8 (codes "import") (record {
  place = 2;
  colon = refl;
  between = record {
    blanks = white 1 2 refl (none 2);
    solid = (stays _ 2 refl (λ h. absurd (omega arith))).solid;
  };
  word = record {
    run = record { order = lit≤ tt; fits = lit≤ tt; each = each; longest = refl };
    some = lit≤ tt;
    means = refl;
  };
}) never
  where
    each : (k : ℕ) → 2 ≤ k → k < 8 → is_word (slice_index (codes ": import{") k) ≡ true
    each zero low high = absurd (omega arith)
    each (suc zero) low high = absurd (omega arith)
    each (suc (suc zero)) low high = refl
    each (suc (suc (suc zero))) low high = refl
    each (suc (suc (suc (suc zero)))) low high = refl
    each (suc (suc (suc (suc (suc zero))))) low high = refl
    each (suc (suc (suc (suc (suc (suc zero)))))) low high = refl
    each (suc (suc (suc (suc (suc (suc (suc zero))))))) low high = refl
    each (suc (suc (suc (suc (suc (suc (suc (suc n)))))))) low high = absurd (omega arith)

    second : (w : List ℕ) → codes "import" ≡ w → slice_index w 1 ≡ 109
    second w e = ap (λ (v : List ℕ). slice_index v 1) (sym e)

    never : (kind : Kind) → Names (codes "import") kind → ⊥
    never string_kind e = let h = second (codes "string") e in absurd (omega arith)
    never alias_kind e = let h = second (codes "alias") e in absurd (omega arith)
    never array_kind e = let h = second (codes "array") e in absurd (omega arith)
    never table_kind e = let h = second (codes "table") e in absurd (omega arith)
    never binary_kind (inl e) = let h = second (codes "binary") e in absurd (omega arith)
    never binary_kind (inr e) = let h = second (codes "bin") e in absurd (omega arith)
    never integer_kind (inl e) = let h = second (codes "integer") e in absurd (omega arith)
    never integer_kind (inr e) = let h = second (codes "int") e in absurd (omega arith)
    never vector_kind e = let h = second (codes "intvector") e in absurd (omega arith)

-- nothing is skipped inside `b{a{x,y}}`
blanks_end : (at : ℕ) → is_white (slice_index (codes "b{a{x,y}}") at) ≡ false
    → slice_index (codes "b{a{x,y}}") at ≢ 47 → Skip (codes "b{a{x,y}}") at at
blanks_end = stays (codes "b{a{x,y}}")

-- its header ends at its first key
header_before_a : Header (codes "b{a{x,y}}") (codes "b") true 2
header_before_a = record {
  begin = 0;
  start = 0;
  ends = 1;
  place = 1;
  brace = 1;
  begins = without_a_mark refl refl;
  before = blanks_end 0 refl (λ h. absurd (omega arith));
  named = record {
    key = a_key _ 0 refl refl refl (lit≤ tt) refl (λ h. absurd (omega arith)) refl refl refl;
    some = lit≤ tt;
    word = b_is_word;
  };
  between = blanks_end 1 refl (λ h. absurd (omega arith));
  typed = without refl;
  opens = refl;
  after = blanks_end 2 refl (λ h. absurd (omega arith));
}

-- where its strings are read, the array is open that is the value of the entry `a`
abbrev InValue : Standing → ℕ → Reading
InValue s at = reading_at (in_table [] (codes "a") ∷ []) (codes "a" ∷ []) s at

-- before its second string 1438 bytes are made: 72 for the root, 1024 and 195 for the key, 72 for
-- the group, 75 for the first string
abbrev before_y : IcuMakes (tree_limit 0).weights (codes "b{a{x,y}}") 1438
    (InValue (among_members a_comma (string (codes "x") ∷ [])) 6)
before_y = record {
  name = codes "b";
  fallback = true;
  first = 2;
  header = header_before_a;
  comes =
      moves _ _ _ _ _ _
      (moves _ (InValue (among_members a_string (string (codes "x") ∷ [])) 5) _ _ _ _
      (moves _ (InValue in_untyped 4) _ _ _ _
      (moves _ (InValue before_group 3) [] [] (among_entries []) 2 (here _)
      (key_of_entry [] 2 3 3 (codes "a")
      (a_key _ 2 refl refl refl (lit≤ tt) refl (λ h. absurd (omega arith)) refl refl refl)
      (blanks_end 3 refl (λ h. absurd (omega arith)))))
      (group_opens 3 4 refl (blanks_end 4 refl (λ h. absurd (omega arith)))))
      (begins_with_string 4 5 5 (codes "x")
      (one_word _ 4 5 _
      (row_of_one _ 4 refl refl refl (lit≤ tt) refl (λ h. absurd (omega arith)))
      refl refl (λ h. absurd (omega arith)) refl)
      (blanks_end 5 refl (λ h. absurd (omega arith))) refl))
      (comma_behind a_string _ 5 6 refl refl (blanks_end 6 refl (λ h. absurd (omega arith))));
  sum = refl;
}

-- its second string is a member
abbrev y_follows : Move (codes "b{a{x,y}}") (in_table [] (codes "a") ∷ []) (codes "a" ∷ [])
    (among_members a_comma (string (codes "x") ∷ [])) 6
    (InValue (among_members a_string (string (codes "x") ∷ string (codes "y") ∷ [])) 7)
y_follows =
    string_member a_comma _ 6 7 7 (codes "y") refl
    (one_word _ 6 7 _
    (row_of_one _ 6 refl refl refl (lit≤ tt) refl (λ h. absurd (omega arith)))
    refl refl (λ h. absurd (omega arith)) refl)
    (blanks_end 7 refl (λ h. absurd (omega arith)))

-- the text is read within 1513 bytes, of which 75 are its second string's
two_strings_within : IcuMadeWithin (codes "b{a{x,y}}") (tree_limit 1513)
two_strings_within = record {
  tree = table (map_of ((codes "a", in_array) ∷ []));
  places = codes "a" ∷ [];
  end = 9;
  bytes = 1513;
  made = record {
    name = codes "b";
    fallback = true;
    first = 2;
    header = header_before_a;
    comes =
        moves _ _ _ _ _ _
        (leaves _ (reading_at [] (codes "a" ∷ []) (among_entries ((codes "a", in_array) ∷ [])) 8)
        _ _ _ _
        (moves _ (InValue (behind_group in_array) 8) _ _ _ _
        (moves _ _ _ _ _ _ before_y.comes y_follows)
        (array_ends a_string _ 7 refl))
        (was_value [] [] (codes "a") 8 (blanks_end 8 refl (λ h. absurd (omega arith)))))
        (table_ends _ 8 refl (refl, tt));
    sum = refl;
  };
  after = nothing_behind _ 9 (blanks_end 9 refl (λ h. absurd (omega arith)));
  within = lit≤ tt;
}
  where
    in_array : Tree
    in_array = array (trees_of (string (codes "x") ∷ string (codes "y") ∷ []))

-- and makes more than 1512
two_strings_more : IcuMakesMore (codes "b{a{x,y}}") (tree_limit 1512)
two_strings_more = by_a_step 1438 _ _ _ 6 _ before_y y_follows (lit≤ tt)
