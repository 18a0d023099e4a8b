-- What a string stands for isn't longer than its text.
use Rattle.std.proofs.Common.{◌≡◌, ℕ, ◌+◌, ◌-◌, ◌<◌, ◌≤◌, true, List, ◌∷◌, length, arith, ap, sym}
use Rattle.std.proofs.Common.{◌∙◌, encode_utf8, lit≤, length-drop, ◌⊎◌, inl, inr, ⊎_elim, refl}
use Rattle.std.proofs.Common.{◌==◌, ◌&&◌, not, if◌then◌else◌, eqb-true}
use Rattle.std.specs.Prelude.{slice_index, nat_lt, Bool, false, cond}
use Rattle.std.proofs.lemmas.Bool.{false≢true, cases_lt, and_parts}
use Rattle.resb_grammar.specs.ByteRuns.{is_white}
use Rattle.std.proofs.lemmas.List.{length-append, length-take-le}
use Rattle.std.proofs.lemmas.Str.{length-encode, len_utf8_bounds, len_utf8_ascii}
use Rattle.std.proofs.lemmas.Bool.Decides.{nat_tests}
use Rattle.std.specs.Char.Utf16.{surrogate_pair_char}
use Rattle.resb_icu_grammar.specs.Escapes.{Escape, itself, letter, four_digits, pair, eight_digits}
use Rattle.resb_icu_grammar.specs.Escapes.{control, short_hex, octal}
use Rattle.std.specs.Char.{len_utf8, digit_value, is_digit}
use Rattle.resb_grammar.specs.Lexical.{digits_value}
use Rattle.resb_icu_grammar.specs.Escapes.{FewDigits}
use Rattle.resb_icu_grammar.specs.Pieces.{QuotedBytes, ends, byte, escape, Joined, last_piece}
use Rattle.resb_icu_grammar.specs.Pieces.{one_more}
use Rattle.resb_icu_grammar.specs.Blanks.{Comment, line, block, Blanks, none, white, comment}
use Rattle.resb_icu_grammar.specs.Blanks.{IsSolid, Skip}
use Rattle.resb_icu_grammar.specs.Unquoted.{Unquoted, UnquotedRow, last_one}
use Rattle.resb_icu_grammar.specs.Unquoted as rows
use Rattle.resb_icu_grammar.specs.Unquoted.{begins_unquoted}
use Rattle.resb_icu_grammar.specs.Words.{Part, a_row, quoted, another_follows, Text, one_part}
use Rattle.resb_icu_grammar.specs.Words.{more_parts}
use Rattle.resb_icu_grammar.proofs.Lexical.{no_quote_row, joined_first, Part-one}
use Rattle.resb_grammar.specs.Ascii as ascii

comment_moves : (text : List ℕ) (from to : ℕ) → Comment text from to → from < to
comment_moves text from to (line h k r) = omega (arith, r.order)
comment_moves text from to (block at h k f e) = omega (arith, f.order, e)

-- blanks end no earlier than they begin
pub blanks_order : (text : List ℕ) (from to : ℕ) → Blanks text from to → from ≤ to
blanks_order text from to (none _) = omega arith
blanks_order text from to (white _ _ w r) = omega (arith, blanks_order text (from + 1) to r)
blanks_order text from to (comment _ k _ c r) =
    omega (arith, comment_moves text from k c, blanks_order text k to r)

encoded : (c : ℕ) → length (encode_utf8 c) ≤ 4
encoded c = omega (arith, length-encode c, (len_utf8_bounds c).1)

-- a character below U+0080 is one byte, one below U+0400 at most three
encoded_low : (c : ℕ) → c < 128 → length (encode_utf8 c) ≤ 1
encoded_low c l = omega (arith, length-encode c, len_utf8_ascii c l)

encoded_most : (c : ℕ) → c < 1024 → length (encode_utf8 c) ≤ 3
encoded_most c l = omega (arith, length-encode c, three)
  where
    three : len_utf8 c ≤ 3
    three = by (nat_lt c 0x80) (nat_lt c 0x800)
      where
        low : nat_lt c 0x1_0000 ≡ true
        low = grind (arith, nat_tests, l)

        by : (x y : Bool) → cond x 1 (cond y 2 (cond (nat_lt c 0x1_0000) 3 4)) ≤ 3
        by true y = omega arith
        by false true = omega arith
        by false false = rw low (lit≤ tt)

hex_low : (b : ℕ) → is_digit b 16 ≡ true → digit_value b < 16
hex_low b h = grind (arith, nat_tests, h)

octal_low : (b : ℕ) → is_digit b 8 ≡ true → digit_value b < 8
octal_low b h = grind (arith, nat_tests, h)

-- what so many digits say
said_by : {radix most : ℕ} {text : List ℕ} {from to c : ℕ} (n : ℕ)
    → FewDigits radix most text from to c → to ≡ from + n → c ≡ digits_value radix text from n
said_by {radix = radix} {text = text} {from = from} {to = to} n p e =
    let count : to - from ≡ n = omega (arith, e) in
    p.means ∙ ap (digits_value radix text from) count

-- one hex digit says a character of ASCII, and two say one below U+0400
hex_short : (text : List ℕ) (from to c : ℕ) → FewDigits 16 2 text from to c
    → (c < 128) ⊎ ((to ≡ from + 2) × (c < 1024))
hex_short text from to c p = ⊎_elim
    (λ (l : from + 1 < to).
    let e : to ≡ from + 2 = omega (arith, l, p.few) in
    let first = hex_low (slice_index text (from + 0))
    (p.each (from + 0) (omega arith) (omega (arith, p.some))) in
    let second = hex_low (slice_index text (from + 1)) (p.each (from + 1) (omega arith) l) in
    inr (e, omega (arith, said_by 2 p e, first, second)))
    (λ (l : to ≤ from + 1).
    let first = hex_low (slice_index text (from + 0))
    (p.each (from + 0) (omega arith) (omega (arith, p.some))) in
    inl (omega (arith, said_by 1 p (omega (arith, l, p.some)), first)))
    (cases_lt (from + 1) to)

-- one octal digit and two say a character of ASCII, and three say one below U+0400
octal_short : (text : List ℕ) (from to c : ℕ) → FewDigits 8 3 text from to c
    → (c < 128) ⊎ ((to ≡ from + 3) × (c < 1024))
octal_short text from to c p =
    let first = octal_low (slice_index text (from + 0))
    (p.each (from + 0) (omega arith) (omega (arith, p.some))) in
    ⊎_elim
    (λ (l : from + 1 < to).
    let second = octal_low (slice_index text (from + 1)) (p.each (from + 1) (omega arith) l) in
    ⊎_elim
    (λ (m : from + 2 < to).
    let e : to ≡ from + 3 = omega (arith, m, p.few) in
    let third = octal_low (slice_index text (from + 2)) (p.each (from + 2) (omega arith) m) in
    inr (e, omega (arith, said_by 3 p e, first, second, third)))
    (λ (m : to ≤ from + 2). inl (omega (arith, said_by 2 p (omega (arith, l, m)), first, second)))
    (cases_lt (from + 2) to))
    (λ (l : to ≤ from + 1). inl (omega (arith, said_by 1 p (omega (arith, l, p.some)), first)))
    (cases_lt (from + 1) to)

pub escape_short : (text : List ℕ) (at to : ℕ) (s : List ℕ) → Escape text at to s
    → length s + at ≤ to
escape_short text at to s (itself f l o) = omega arith
escape_short text at to s (letter h) = omega arith
escape_short text at to s (four_digits c w f g) = omega (arith, encoded c)
escape_short text at to s (pair m n w p d x q) = omega (arith, encoded (surrogate_pair_char m n))
escape_short text at to s (eight_digits c h k e f g) = omega (arith, encoded c)
escape_short text at to s (control h l m) = omega arith
escape_short text at to s (short_hex c _ h p o) = ⊎_elim
    (λ (l : c < 128). omega (arith, encoded_low c l, p.some))
    (λ (m : (to ≡ at + 1 + 2) × (c < 1024)). omega (arith, encoded_most c m.1, m.0))
    (hex_short text (at + 1) to c p)
escape_short text at to s (octal c _ p o) = ⊎_elim
    (λ (l : c < 128). omega (arith, encoded_low c l, p.some))
    (λ (m : (to ≡ at + 3) × (c < 1024)). omega (arith, encoded_most c m.1, m.0))
    (octal_short text at to c p)

-- nor is what a piece says
pub inside_short : (text : List ℕ) (at to : ℕ) (s : List ℕ) → QuotedBytes text at to s
    → length s + at ≤ to
inside_short text at to s (ends _ h) = omega arith
inside_short text at to s (byte _ _ vs l q b r) =
    omega (arith, inside_short text (at + 1) to vs r)
inside_short text at to s (escape _ n _ xs vs b x r) =
    omega (
      arith,
      escape_short text (at + 1) n xs x,
      inside_short text n to vs r,
      length-append xs vs,
    )

-- what quoted pieces say has two bytes less at least
pub joined_short : (text : List ℕ) (from to : ℕ) (s : List ℕ) → Joined text from to s
    → length s + from + 2 ≤ to
joined_short text from to s (last_piece _ _ n _ p t h) =
    omega (arith, inside_short text (from + 1) p.last s p.inside, p.ends)
joined_short text from to s (one_more _ m n _ us vs p t j) =
    omega (
      arith,
      inside_short text (from + 1) p.last us p.inside,
      p.ends,
      blanks_order text m n t.blanks,
      joined_short text n to vs j,
      length-append us vs,
    )

pub word_short : (text : List ℕ) (from to : ℕ) (s : List ℕ) → Unquoted text from to s
    → length s + from ≤ to
word_short text from to s w =
    omega (
      arith,
      ap length w.means ∙ length-take-le (to - from) _
          (omega (arith, length-drop from text, w.fits)),
    )

blanks_move : (text : List ℕ) (from to : ℕ) → Blanks text from to → IsSolid text to
    → is_white (slice_index text from) ≡ true → from < to
blanks_move text from to (none _) s w = absurd (false≢true (sym s.no_white ∙ w))
blanks_move text from to (white _ _ _ r) s w = omega (arith, blanks_order text (from + 1) to r)
blanks_move text from to (comment _ k _ c r) s w =
    omega (arith, comment_moves text from k c, blanks_order text k to r)

-- behind a white character blanks go on
pub white_moves : (text : List ℕ) (from to : ℕ) → is_white (slice_index text from) ≡ true
    → Skip text from to → from < to
white_moves text from to w k = blanks_move text from to k.blanks k.solid w

pub row_short : (text : List ℕ) (from to : ℕ) (s : List ℕ) → UnquotedRow text from to s
    → length s + from ≤ to
row_short text from to s (last_one _ _ n _ p k h) = word_short text from to s p
row_short text from to s (rows.one_more _ m n _ us vs p w k r) =
    omega (
      arith,
      word_short text from m us p,
      white_moves text m n w k,
      row_short text n to vs r,
      length-append us (32 ∷ vs),
    )

-- a row ends behind its first byte
pub row_order : (text : List ℕ) (from to : ℕ) (s : List ℕ) → UnquotedRow text from to s → from < to
row_order text from to s (last_one _ _ n _ p k h) = p.some
row_order text from to s (rows.one_more _ m n _ us vs p w k r) =
    omega (arith, p.some, white_moves text m n w k, row_order text n to vs r)

-- what a part stands for has at most as many bytes as its text, which has one
pub part_short : (text : List ℕ) (from to : ℕ) (s : List ℕ) → Part text from to s
    → (length s + from ≤ to) × (from < to)
part_short text from to s (a_row r) = (row_short text from to s r, row_order text from to s r)
part_short text from to s (quoted j) =
    let short = joined_short text from to s j in (omega (arith, short), omega (arith, short))

-- behind a row in which another part follows stands a quote
pub follows_row : (text : List ℕ) (from mid n : ℕ) (u : List ℕ) → UnquotedRow text from mid u
    → another_follows text from u n ≡ true → slice_index text n ≡ ascii.quote
follows_row text from mid n u r h = by (slice_index text from == ascii.quote) refl h
  where
    by : (b : Bool) → (slice_index text from == ascii.quote) ≡ b
        → (if b then not (length u == 0) && begins_unquoted text n
        else slice_index text n == ascii.quote) ≡ true → slice_index text n ≡ ascii.quote
    by true e g = absurd (no_quote_row text from mid u (eqb-true _ _ e) r)
    by false e g = eqb-true _ _ g

-- behind quoted pieces an unquoted string begins
pub follows_pieces : (text : List ℕ) (from mid n : ℕ) (u : List ℕ) → Joined text from mid u
    → another_follows text from u n ≡ true → begins_unquoted text n ≡ true
follows_pieces text from mid n u j h = by (slice_index text from == ascii.quote) refl h
  where
    by : (b : Bool) → (slice_index text from == ascii.quote) ≡ b
        → (if b then not (length u == 0) && begins_unquoted text n
        else slice_index text n == ascii.quote) ≡ true → begins_unquoted text n ≡ true
    by true e g = (and_parts _ _ g).1
    by false e g =
        absurd (false≢true (sym e ∙ ap (λ b. b == ascii.quote) (joined_first text from mid u j)))

-- a string has as many bytes as it says, and if it begins with a quote at least one more, and two
record IsLong (text : List ℕ) (from to : ℕ) (s : List ℕ) : Type 0 where
  pub short : length s + from ≤ to
  pub order : from < to
  pub quoted : slice_index text from ≡ ascii.quote → length s + from + 1 ≤ to
  pub two : slice_index text from ≡ ascii.quote → from + 2 ≤ to

string_long : (text : List ℕ) (from to : ℕ) (s : List ℕ) → Text text from to s
    → IsLong text from to s
string_long text from to s (one_part _ _ n _ (a_row r) k h) = record {
  short = row_short text from to s r;
  order = row_order text from to s r;
  quoted = λ q. absurd (no_quote_row text from to s q r);
  two = λ q. absurd (no_quote_row text from to s q r);
}
string_long text from to s (one_part _ _ n _ (quoted j) k h) =
    let short = joined_short text from to s j in record {
      short = omega (arith, short);
      order = omega (arith, short);
      quoted = λ q. omega (arith, short);
      two = λ q. omega (arith, short);
    }
string_long text from to _ (more_parts _ m n _ u v (a_row r) k h t) =
    let rest = string_long text n to v t in
    let skip = blanks_order text m n k.blanks in
    let first = row_short text from m u r in
    let longer = rest.quoted (follows_row text from m n u r h) in
    record {
      short = omega (arith, first, skip, longer, length-append u (32 ∷ v));
      order = omega (arith, row_order text from m u r, skip, rest.order);
      quoted = λ q. absurd (no_quote_row text from m u q r);
      two = λ q. absurd (no_quote_row text from m u q r);
    }
string_long text from to _ (more_parts _ m n _ u v (quoted j) k h t) =
    let rest = string_long text n to v t in
    let skip = blanks_order text m n k.blanks in
    let first = joined_short text from m u j in
    record {
      short = omega (arith, first, skip, rest.short, length-append u (32 ∷ v));
      order = omega (arith, first, skip, rest.order);
      quoted = λ q. omega (arith, first, skip, rest.short, length-append u (32 ∷ v));
      two = λ q. omega (arith, first, skip, rest.order);
    }

-- what a string stands for has at most as many bytes as its text, which has one
pub string_short : (text : List ℕ) (from to : ℕ) (s : List ℕ) → Text text from to s
    → (length s + from ≤ to) × (from < to)
string_short text from to s t =
    let l = string_long text from to s t in (l.short, l.order)

-- one of several parts has three bytes at least
pub several_long : (text : List ℕ) (from mid n to : ℕ) (u v : List ℕ) → Part text from mid u
    → Skip text mid n → another_follows text from u n ≡ true → Text text n to v → from + 3 ≤ to
several_long text from mid n to u v (a_row r) k h t =
    omega (
      arith,
      row_order text from mid u r,
      blanks_order text mid n k.blanks,
      (string_long text n to v t).two (follows_row text from mid n u r h),
    )
several_long text from mid n to u v (quoted j) k h t =
    omega (
      arith,
      joined_short text from mid u j,
      blanks_order text mid n k.blanks,
      (string_long text n to v t).order,
    )

-- a string that ends with its first part has no other
pub ends_alone : (text : List ℕ) (from mid n to : ℕ) (s u v : List ℕ) → Part text from to s
    → Part text from mid u → Skip text mid n → Text text n to v → ⊥
ends_alone text from mid n to s u v p q k t =
    omega (
      arith,
      (Part-one text from to mid s u p q).0,
      blanks_order text mid n k.blanks,
      (string_short text n to v t).1,
    )
