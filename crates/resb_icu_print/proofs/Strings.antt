-- Strings and keys, as they are printed and as ICU's form reads them.
use Rattle.std.proofs.Common.{◌≡◌, ◌≢◌, ℕ, zero, suc, ◌+◌, ◌-◌, ◌/◌, ◌%◌, ◌<◌, ◌≤◌, Bool, true}
use Rattle.std.proofs.Common.{false, List, [], ◌∷◌, ◌++◌, length, refl, sym, ◌∙◌, ap, arith, subst}
use Rattle.std.proofs.Common.{append_assoc, append-nil, encode_utf8, inl, inr}
use Rattle.std.specs.Prelude.{slice_index, ◌==◌, cond, codes, not, ◌&&◌, ◌||◌, nat_le, nat_lt}
use Rattle.std.specs.Prelude.{if◌then◌else◌}
use Rattle.std.specs.Char.{digit_value, is_ascii_control}
use Rattle.std.specs.List.{list_any, list_all}
use Rattle.std.proofs.lemmas.Bool.{false≢true, and_parts, and_from, or_from, cases_lt, or_parts}
use Rattle.std.proofs.lemmas.Bool.Decides.{nat_tests}
use Rattle.std.proofs.lemmas.Str.{encode_ascii, inside_one}
use Rattle.resb_print.proofs.FreeTrees.{NoQuote}
use Rattle.resb_grammar.specs.Lexical.{digits_value}
use Rattle.hex.specs.Hex.{encode_lower, encode_with}
use Rattle.resb_grammar.specs.Ascii as ascii
use Rattle.resb_grammar.specs.ByteRuns.{is_white}
use Rattle.resb_grammar.specs.Group.{is_hex}
use Rattle.resb_icu_grammar.specs.Bytes.{backslash, is_word, is_unquoted, is_key_byte}
use Rattle.resb_icu_grammar.specs.Bytes.{are_key_bytes}
use Rattle.resb_icu_grammar.specs.Blanks.{IsSolid}
use Rattle.resb_icu_grammar.specs.Escapes.{Escape, itself, four_digits, are_hex}
use Rattle.resb_icu_grammar.specs.Escapes.{is_letter, begins_longer}
use Rattle.resb_icu_grammar.specs.Pieces.{QuotedBytes, ends, byte, escape, QuotedPiece, Joined}
use Rattle.resb_icu_grammar.specs.Pieces.{last_piece}
use Rattle.resb_icu_grammar.specs.Unquoted.{Unquoted, UnquotedRow, last_one, goes_on, may_begin}
use Rattle.resb_icu_grammar.specs.Unquoted.{begins_unquoted}
use Rattle.resb_icu_grammar.specs.Words as words
use Rattle.resb_icu_grammar.specs.Words.{Word, HasNoEscape, Part, another_follows, Text, one_part}
use Rattle.resb_icu_grammar.specs.Words.{KeyText, a_word, a_piece}
use Rattle.resb_print.specs.Printed.{quoted_on}
use Rattle.resb_print.specs.Held.{AreBelow}
use Rattle.resb_print.specs.Quotes.{has_quote}
use Rattle.resb_print.proofs.Places.{From, byte_at, from_next, from_behind, from_inside, from_among}
use Rattle.resb_print.proofs.Places.{range_is, run_at}
use Rattle.resb_print.proofs.Groups.{digit_of, reads_back, all_below, below_passes}
use Rattle.resb_icu_print.specs.Printed.{is_marked, escaped_on, inside_on, piece_on}
use Rattle.resb_icu_print.specs.Printed.{is_bare, key_on}
use Rattle.resb_icu_print.specs.Inner.Escapes.{is_escaped, has_escape}
use Rattle.resb_icu_print.proofs.Places.{byte_near, same_place, solid_at, no_skip}
use Rattle.resb_icu_print.proofs.Lists.{and_not_parts, false_from_not}

-- a byte behind which a string or key ends
pub record IsStop (b : ℕ) : Type 0 where
  pub no_word : is_word b ≡ false
  pub no_string : is_unquoted b ≡ false
  pub no_white : is_white b ≡ false
  pub no_slash : (b == ascii.slash) ≡ false
  pub no_quote : b ≢ ascii.quote

-- word characters may stand in keys
word_is_key : ℕ → Bool
word_is_key b = not (is_word b) || is_key_byte b

words_are_keys : all_below word_is_key 128 ≡ true
unfolding all_below word_is_key
words_are_keys = refl

pub word_key : (b : ℕ) → is_word b ≡ true → is_key_byte b ≡ true
unfolding word_is_key
word_key b h =
    let l : b < 128 = grind (arith, nat_tests) in
    let e = below_passes word_is_key 128 b words_are_keys l in
    sym (ap (λ t. not t || is_key_byte b) h) ∙ e

-- and in unquoted strings
word_is_unquoted : ℕ → Bool
word_is_unquoted b = not (is_word b) || is_unquoted b

words_are_unquoted : all_below word_is_unquoted 128 ≡ true
unfolding all_below word_is_unquoted
words_are_unquoted = refl

word_unquoted : (b : ℕ) → is_word b ≡ true → is_unquoted b ≡ true
unfolding word_is_unquoted
word_unquoted b h =
    let l : b < 128 = grind (arith, nat_tests) in
    let e = below_passes word_is_unquoted 128 b words_are_unquoted l in
    sym (ap (λ t. not t || is_unquoted b) h) ∙ e

-- at a word character one goes on, and may begin
word_goes_on : (text : List ℕ) (at : ℕ) → is_word (slice_index text at) ≡ true
    → goes_on text at ≡ true
word_goes_on text at h =
    let b = slice_index text at in
    let slash : (b == ascii.slash) ≡ false = grind (arith, nat_tests, h) in
    let first : (b == 0xe2) ≡ false = grind (arith, nat_tests, h) in
    let second : (b == 0xef) ≡ false = grind (arith, nat_tests, h) in
    rw (word_unquoted b h, slash, first, second) refl

word_begins : (b : ℕ) → is_word b ≡ true → may_begin b ≡ true
word_begins b h =
    let low : nat_lt b 128 ≡ true = grind (arith, nat_tests, h) in
    rw low refl

pub key_bytes_more : (b : ℕ) (k : List ℕ) → is_key_byte b ≡ true → are_key_bytes k ≡ true
    → are_key_bytes (b ∷ k) ≡ true
key_bytes_more b k h t = ap (λ a. not (not a || list_any (λ b. not (is_key_byte b)) k)) h ∙ t

pub words_key : (w : List ℕ) → list_all is_word w ≡ true → are_key_bytes w ≡ true
words_key [] h = refl
words_key (b ∷ w) h =
    let p = and_parts (is_word b) (list_all is_word w) h in
    key_bytes_more b w (word_key b p.0) (words_key w p.1)

pub word_each : (s : List ℕ) → list_all is_word s ≡ true → (k : ℕ) → k < length s
    → is_word (slice_index s k) ≡ true
word_each [] h k l = absurd (omega arith)
word_each (b ∷ s) h zero l = (and_parts (is_word b) (list_all is_word s) h).0
word_each (b ∷ s) h (suc k) l =
    word_each s (and_parts (is_word b) (list_all is_word s) h).1 k (omega arith)

and_false : (a b : Bool) → a ≡ false → (a && b) ≡ false
and_false a b h = ap (λ t. t && b) h

word_solid : (b : ℕ) → is_word b ≡ true → (is_white b ≡ false) × ((b == ascii.slash) ≡ false)
word_solid b h = (grind (arith, nat_tests), grind (arith, nat_tests))

pub bare_words : (s : List ℕ) → is_bare s ≡ true → list_all is_word s ≡ true
bare_words [] h = refl
bare_words (b ∷ s) h = h

pub bare_some : (s : List ℕ) → is_bare s ≡ true → 0 < length s
bare_some [] h = absurd (false≢true h)
bare_some (b ∷ s) h = omega arith

hex_word : (b : ℕ) → is_hex b ≡ true → is_word b ≡ true
hex_word b h = grind (arith, nat_tests)

-- hex digits may stand in keys
pub hex_key : (bs : List ℕ) → AreBelow 256 bs → are_key_bytes (encode_lower bs) ≡ true
unfolding encode_with
hex_key [] low = refl
hex_key (b ∷ bs) low =
    let l : b < 256 = low 0 (omega arith) in
    let x = reads_back (b / 16) (omega arith) in
    let y = reads_back (b % 16) (omega arith) in
    let high = digit_of (b / 16) in
    let last = digit_of (b % 16) in
    key_bytes_more high (last ∷ encode_lower bs) (word_key high (hex_word high x.hex))
    (key_bytes_more last (encode_lower bs) (word_key last (hex_word last y.hex))
    (hex_key bs (λ k i. low (suc k) (omega arith))))

-- what may stand in a key needs no escape
key_is_plain : ℕ → Bool
key_is_plain b =
    not (is_key_byte b) || ((b == ascii.quote) || (not (is_marked b) && not (is_ascii_control b)))

keys_are_plain : all_below key_is_plain 128 ≡ true
unfolding all_below key_is_plain
keys_are_plain = refl

key_byte_low : (b : ℕ) → is_key_byte b ≡ true → b < 128
key_byte_low b h =
    let p = and_parts (nat_le 32 b && nat_le b 126) _ h in
    let q : nat_le b 126 ≡ true = (and_parts (nat_le 32 b) (nat_le b 126) p.0).1 in
    grind (arith, nat_tests)

key_byte_plain : (b : ℕ) → is_key_byte b ≡ true → (b == ascii.quote) ≡ false
    → (is_marked b ≡ false) × (is_ascii_control b ≡ false)
unfolding key_is_plain
key_byte_plain b h q =
    let e = below_passes key_is_plain 128 b keys_are_plain (key_byte_low b h) in
    let f : not (is_marked b) && not (is_ascii_control b) ≡ true =
    sym (ap (λ t. not t || ((b == ascii.quote)
    || (not (is_marked b) && not (is_ascii_control b)))) h
    ∙ ap (λ t. t || (not (is_marked b) && not (is_ascii_control b))) q) ∙ e in
    let p = and_parts (not (is_marked b)) (not (is_ascii_control b)) f in
    (false_from_not (is_marked b) p.0, false_from_not (is_ascii_control b) p.1)

pub plain_key_inside : (k rest : List ℕ) → are_key_bytes k ≡ true → NoQuote k
    → inside_on k rest ≡ k ++ rest
plain_key_inside [] rest h free = refl
plain_key_inside (b ∷ k) rest h free =
    let p = and_not_parts (is_key_byte b) _ h in
    let f = or_parts (b == ascii.quote) (has_quote k) free in
    let q = key_byte_plain b p.0 f.0 in
    rw (q.0, q.1) (ap (λ l. b ∷ l) (plain_key_inside k rest p.1 f.1))

key_no_escape : (k : List ℕ) → are_key_bytes k ≡ true → (i : ℕ)
    → slice_index (k ++ ascii.quote ∷ []) i ≡ backslash → ⊥
key_no_escape [] h zero e = absurd (omega (arith, e))
key_no_escape [] h (suc i) e = absurd (omega (arith, e))
key_no_escape (b ∷ k) h zero e =
    false≢true (sym (ap is_key_byte e) ∙ (and_not_parts (is_key_byte b) _ h).0)
key_no_escape (b ∷ k) h (suc i) e = key_no_escape k (and_not_parts (is_key_byte b) _ h).1 i e

module _ (text : List ℕ) where
  -- a control character by its number
  control_read : (b : ℕ) {at : ℕ} (rest : List ℕ) → is_ascii_control b ≡ true
      → From text at (codes "\\u00" ++ (encode_lower (b ∷ []) ++ rest))
      → Escape text (at + 1) (at + 1 + 5) (b ∷ []) × From text (at + 1 + 5) rest
  unfolding encode_with
  control_read b {at} rest c h =
      let low : b < 128 = grind (arith, nat_tests) in
      let x = reads_back (b / 16) (omega arith) in
      let y = reads_back (b % 16) (omega arith) in
      let f = from_next text h in
      let g = from_next text f in
      let p = at + 1 in
      let e0 : slice_index text (p + 1 + 0) ≡ 48 = byte_near text 0 g in
      let e1 : slice_index text (p + 1 + 1) ≡ 48 = byte_near text 1 g in
      let e2 = byte_near text 2 g in
      let e3 = byte_near text 3 g in
      let v0 : digit_value (slice_index text (p + 1 + 0)) ≡ 0 = ap digit_value e0 in
      let v1 : digit_value (slice_index text (p + 1 + 1)) ≡ 0 = ap digit_value e1 in
      let v2 : digit_value (slice_index text (p + 1 + 2)) ≡ b / 16 = ap digit_value e2 ∙ x.value in
      let v3 : digit_value (slice_index text (p + 1 + 3)) ≡ b % 16 = ap digit_value e3 ∙ y.value in
      let hex : are_hex text (p + 1) 4 ≡ true =
      and_from _ _ (and_from _ _ (and_from _ _ (ap is_hex e0) (ap is_hex e1))
      (ap is_hex e2 ∙ x.hex)) (ap is_hex e3 ∙ y.hex) in
      let n : b ≡ digits_value 16 text (p + 1) 4 = omega (arith, v0, v1, v2, v3) in (
        subst (Escape text p (p + 5)) (encode_ascii b low)
            (four_digits b (record { letter = byte_at text f; digits = hex; means = n })
            (grind (arith, nat_tests))
            (λ e. false≢true (sym (ap is_ascii_control e) ∙ c))),
        from_behind text (117 ∷ 48 ∷ 48 ∷ slice_index (encode_lower (b ∷ [])) 0
            ∷ slice_index (encode_lower (b ∷ [])) 1 ∷ []) rest f,
      )

  -- what stands in quotes, up to the closing one
  pub inside_read : (s : List ℕ) {at : ℕ} {rest : List ℕ}
      → From text at (inside_on s (ascii.quote ∷ rest))
      → (last : ℕ) × QuotedBytes text at last s × From text last (ascii.quote ∷ rest)
  inside_read [] {at} {rest} h = (at, ends at (byte_at text h), h)
  inside_read (b ∷ s) {at} {rest} h =
      by (is_marked b) (is_ascii_control b) refl refl (λ p f. inside_read s f) h
    where
      by : (m c : Bool) → is_marked b ≡ m → is_ascii_control b ≡ c
          → ((p : ℕ) → From text p (inside_on s (ascii.quote ∷ rest))
          → (last : ℕ) × QuotedBytes text p last s × From text last (ascii.quote ∷ rest))
          → From text at (cond m (backslash ∷ b ∷ inside_on s (ascii.quote ∷ rest))
          (cond c (codes "\\u00" ++ (encode_lower (b ∷ []) ++ inside_on s (ascii.quote ∷ rest)))
          (b ∷ inside_on s (ascii.quote ∷ rest))))
          → (last : ℕ) × QuotedBytes text at last (b ∷ s) × From text last (ascii.quote ∷ rest)
      by true c m k more f =
          let g = from_next text f in
          let (last, r, q) = more (at + 1 + 1) (from_next text g) in
          let e : slice_index text (at + 1) ≡ b = byte_at text g in
          let plain : is_letter b ≡ false = grind (arith, nat_tests) in
          let short : begins_longer b ≡ false = grind (arith, nat_tests) in (
            last,
            subst (λ n. QuotedBytes text at last (n ∷ s)) e
                (escape at (at + 1 + 1) last (slice_index text (at + 1) ∷ []) s (byte_at text f)
                (itself (from_inside text g) (ap is_letter e ∙ plain) (ap begins_longer e ∙ short))
                r),
            q,
          )
      by false true m k more f =
          let (x, g) = control_read b (inside_on s (ascii.quote ∷ rest)) k f in
          let (last, r, q) = more (at + 1 + 5) g in
          (last, escape at (at + 1 + 5) last (b ∷ []) s (byte_at text f) x r, q)
      by false false m k more f =
          let (last, r, q) = more (at + 1) (from_next text f) in
          let e : slice_index text at ≡ b = byte_at text f in
          let no_quote : b ≢ ascii.quote = λ e. false≢true (sym m ∙ ap is_marked e) in
          let no_backslash : b ≢ backslash = λ e. false≢true (sym m ∙ ap is_marked e) in (
            last,
            subst (λ n. QuotedBytes text at last (n ∷ s)) e
                (byte at last s (from_inside text f) (λ w. no_quote (sym e ∙ w))
                (λ w. no_backslash (sym e ∙ w)) r),
            q,
          )

  -- a piece with no other behind it
  pub piece_read : (s : List ℕ) {at : ℕ} (b : ℕ) (rest : List ℕ) → IsStop b
      → From text at (piece_on s (b ∷ rest))
      → (to : ℕ) × Joined text at to s × QuotedPiece text at to s × From text to (b ∷ rest)
  piece_read s {at} b rest stop h =
      let (last, r, f) = inside_read s (from_next text h) in
      let g = from_next text f in
      let piece : QuotedPiece text at (last + 1) s = record {
        last = last;
        opens = byte_at text h;
        inside = r;
        ends = refl;
      } in (
        last + 1,
        last_piece at (last + 1) (last + 1) s piece
            (no_skip text (solid_at text g stop.no_white stop.no_slash))
            (λ e. stop.no_quote (sym (byte_at text g) ∙ e)),
        piece,
        g,
      )

  -- a piece of bytes that may stand in keys
  pub quoted_read : (k : List ℕ) {at : ℕ} (b : ℕ) (rest : List ℕ) → IsStop b
      → are_key_bytes k ≡ true → NoQuote k → From text at (quoted_on k (b ∷ rest))
      → (to : ℕ) × Joined text at to k × QuotedPiece text at to k × HasNoEscape text at to
      × From text to (b ∷ rest)
  quoted_read k {at} b rest stop key free h =
      let e : piece_on k (b ∷ rest) ≡ quoted_on k (b ∷ rest) =
      ap (λ l. ascii.quote ∷ l) (plain_key_inside k (ascii.quote ∷ b ∷ rest) key free) in
      let (to, joined, piece, f) = piece_read k b rest stop (subst (From text at) (sym e) h) in
      let w = k ++ ascii.quote ∷ [] in
      let g : From text (at + 1) (w ++ (b ∷ rest)) = record {
        is = (from_next text h).is ∙ sym (append_assoc k (ascii.quote ∷ []) (b ∷ rest));
      } in
      let same : to ≡ at + 1 + length w = same_place text f (from_behind text w (b ∷ rest) g) in (
        to,
        joined,
        piece,
        λ j low high c.
            no_escape w (key_no_escape k key) (b ∷ rest) g (byte_at text h) j low
            (omega (arith, same)) c,
        f,
      )
    where
      no_escape : (w : List ℕ) → ((i : ℕ) → slice_index w i ≡ backslash → ⊥) → (more : List ℕ)
          → From text (at + 1) (w ++ more) → slice_index text at ≡ ascii.quote → (j : ℕ) → at ≤ j
          → j < at + 1 + length w → slice_index text j ≡ backslash → ⊥
      no_escape w none more g first j low high c = by (j == at) refl
        where
          by : (t : Bool) → (j == at) ≡ t → ⊥
          by true e =
              let s : j ≡ at = grind (arith, nat_tests) in
              let d : slice_index text j ≡ ascii.quote = ap (slice_index text) s ∙ first in
              absurd (omega (arith, c, d))
          by false e =
              let s : at + 1 ≤ j = grind (arith, nat_tests) in
              none (j - (at + 1)) (sym (from_among text w more j g s high) ∙ c)

  bare_solid : (w : List ℕ) {at : ℕ} (rest : List ℕ) → is_bare w ≡ true
      → From text at (w ++ rest) → IsSolid text at
  bare_solid [] rest e f = absurd (false≢true e)
  bare_solid (c ∷ w) rest e f =
      let g = word_solid c (and_parts (is_word c) (list_all is_word w) e).0 in
      solid_at text f g.0 g.1

  -- word characters where none follows
  pub word_read : (w : List ℕ) {at : ℕ} (b : ℕ) (rest : List ℕ) → is_bare w ≡ true
      → is_word b ≡ false → From text at (w ++ b ∷ rest)
      → IsSolid text at × Word text at (at + length w) w × From text (at + length w) (b ∷ rest)
  word_read w {at} b rest e other f = (
    bare_solid w (b ∷ rest) e f,
    record {
      run = run_at text is_word w b rest f (word_each w (bare_words w e)) other;
      some = (let l = bare_some w e in omega arith);
      means = sym (range_is text w (b ∷ rest) f);
    },
    from_behind text w (b ∷ rest) f,
  )

  -- an unquoted string of word characters
  pub bare_read : (w : List ℕ) {at : ℕ} (b : ℕ) (rest : List ℕ) → is_bare w ≡ true
      → IsStop b → From text at (w ++ b ∷ rest)
      → IsSolid text at × UnquotedRow text at (at + length w) w
      × Unquoted text at (at + length w) w × From text (at + length w) (b ∷ rest)
  bare_read w {at} b rest e stop f =
      let (solid, word, g) = word_read w b rest e stop.no_word f in
      let to = at + length w in
      let one : Unquoted text at to w = record {
        begins = word_begins (slice_index text at) (word.run.each at (omega arith) word.some);
        some = word.some;
        fits = word.run.fits;
        each = λ k low high. word_goes_on text k (word.run.each k low high);
        longest = and_false _ _ (ap is_unquoted (byte_at text g) ∙ stop.no_string);
        means = word.means;
      } in (
        solid,
        last_one at to to w one (no_skip text (solid_at text g stop.no_white stop.no_slash))
            (and_false _ (begins_unquoted text to)
            (ap is_white (byte_at text g) ∙ stop.no_white)),
        one,
        g,
      )

  -- behind a part no other follows
  pub no_more : (at to : ℕ) (s : List ℕ) (b : ℕ) → slice_index text to ≡ b → IsStop b
      → another_follows text at s to ≡ false
  no_more at to s b e stop = by (slice_index text at == ascii.quote)
    where
      never : (c : Bool) → (c && false) ≡ false
      never true = refl
      never false = refl

      unequal : (c : ℕ) → (c ≡ ascii.quote → ⊥) → (c == ascii.quote) ≡ false
      unequal c n = grind (arith, nat_tests, n)

      none_begins : begins_unquoted text to ≡ false
      none_begins =
          ap (λ c. may_begin (slice_index text to) && c)
          (and_false _ _ (ap is_unquoted e ∙ stop.no_string))
          ∙ never (may_begin (slice_index text to))

      by : (q : Bool) → (if q then not (length s == 0) && begins_unquoted text to
          else slice_index text to == ascii.quote) ≡ false
      by true = ap (λ c. not (length s == 0) && c) none_begins ∙ never (not (length s == 0))
      by false = unequal (slice_index text to) (λ q. stop.no_quote (sym e ∙ q))

  -- so it is a whole string
  abbrev pub whole_read : (s : List ℕ) {at to : ℕ} (b : ℕ) (rest : List ℕ) → IsStop b
      → Part text at to s → From text to (b ∷ rest) → Text text at to s
  whole_read s {at} {to} b rest stop part g =
      one_part at to to s part (no_skip text (solid_at text g stop.no_white stop.no_slash))
      (no_more at to s b (byte_at text g) stop)

  -- a key
  pub key_read : (k : List ℕ) {at : ℕ} (b : ℕ) (rest : List ℕ) → IsStop b
      → are_key_bytes k ≡ true → NoQuote k → From text at (key_on k (b ∷ rest))
      → IsSolid text at × ((to : ℕ) × KeyText text at to k × From text to (b ∷ rest))
  key_read k {at} b rest stop key free h = go (is_bare k) refl h
    where
      go : (t : Bool) → is_bare k ≡ t
          → From text at (cond t (k ++ b ∷ rest) (quoted_on k (b ∷ rest)))
          → IsSolid text at × ((to : ℕ) × KeyText text at to k × From text to (b ∷ rest))
      go true e f =
          let (solid, row, word, g) = bare_read k b rest e stop f in (
            solid,
            (
              at + length k,
              record {
                whole = whole_read k b rest stop (words.a_row row) g;
                verbatim = a_word row word;
                fits = key;
              },
              g,
            ),
          )
      go false e f =
          let (to, joined, piece, no_escape, g) = quoted_read k b rest stop key free f in (
            solid_at text f refl refl,
            (
              to,
              record {
                whole = whole_read k b rest stop (words.quoted joined) g;
                verbatim = a_piece joined piece no_escape;
                fits = key;
              },
              g,
            ),
          )

-- what is written of a text in two parts
pub inside_append : (s t rest : List ℕ) → inside_on (s ++ t) rest ≡ inside_on s (inside_on t rest)
inside_append [] t rest = refl
inside_append (b ∷ s) t rest = ap (escaped_on b) (inside_append s t rest)

-- a byte that is neither marked nor a control character is written as it is
pub escaped_plain : (b : ℕ) (rest : List ℕ) → is_marked b ≡ false → is_ascii_control b ≡ false
    → escaped_on b rest ≡ b ∷ rest
escaped_plain b rest m c = rw (m, c) refl

-- a string in which nothing is escaped is written as it is
pub plain_inside : (s rest : List ℕ) → has_escape s ≡ false → inside_on s rest ≡ s ++ rest
plain_inside [] rest h = refl
plain_inside (b ∷ s) rest h =
    let p = or_parts (is_escaped b) (has_escape s) h in
    let q = or_parts (is_marked b) (is_ascii_control b) p.0 in
    escaped_plain b (inside_on s rest) q.0 q.1 ∙ ap (λ l. b ∷ l) (plain_inside s rest p.1)

-- bytes that are no ASCII need no escape
high_plain : (b : ℕ) (rest : List ℕ) → 128 ≤ b → escaped_on b rest ≡ b ∷ rest
high_plain b rest h =
    escaped_plain b rest
    (or_from (b == ascii.quote) (b == backslash) (unequal 34 (omega arith))
    (unequal 92 (omega arith)))
    (grind (arith, nat_tests))
  where
    unequal : (n : ℕ) → n < b → (b == n) ≡ false
    unequal n l = grind (arith, nat_tests)

all_high : (w rest : List ℕ) → ((k : ℕ) → k < length w → 128 ≤ slice_index w k)
    → inside_on w rest ≡ w ++ rest
all_high [] rest h = refl
all_high (b ∷ w) rest h =
    high_plain b (inside_on w rest) (h 0 (omega arith))
    ∙ ap (λ l. b ∷ l) (all_high w rest (λ k l. h (suc k) (omega arith)))

-- a character that needs no escape
pub plain_character : (c : ℕ) (rest : List ℕ) → is_marked c ≡ false → is_ascii_control c ≡ false
    → inside_on (encode_utf8 c) rest ≡ encode_utf8 c ++ rest
plain_character c rest m k = elim (cases_lt c 128) [
  | inl small ↦
      ap (λ l. inside_on l rest) (encode_ascii c small) ∙ escaped_plain c rest m k
      ∙ ap (λ l. l ++ rest) (sym (encode_ascii c small))
  | inr big ↦ all_high (encode_utf8 c) rest (high big)
]
  where
    high : 128 ≤ c → (k : ℕ) → k < length (encode_utf8 c) → 128 ≤ slice_index (encode_utf8 c) k
    high big k below = elim (cases_lt (slice_index (encode_utf8 c) k) 128) [
      | inl low ↦
          let e = inside_one c [] (encode_utf8 c) k (sym (append-nil (encode_utf8 c))) below low in
          absurd (omega (arith, big, low, e))
      | inr h ↦ h
    ]

-- what tests of a character told
pub no_control : (b : ℕ) → 32 ≤ b → (b ≡ 127 → ⊥) → is_ascii_control b ≡ false
no_control b l h = grind (arith, nat_tests, l, h)
