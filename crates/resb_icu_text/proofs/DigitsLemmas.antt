-- Laws of the hex digits that a string says.
use Rattle.std.proofs.Common.{◌≡◌, ◌≢◌, ℕ, ◌+◌, ◌*◌, ◌%◌, ◌<◌, ◌≤◌, Bool, true, false, List, []}
use Rattle.std.proofs.Common.{◌∷◌, ◌++◌, ◌-◌, length, arith, subst, sym, refl, ap, ◌∙◌}
use Rattle.std.proofs.Common.{encode_utf8, append-nil}
use Rattle.std.specs.Prelude.{slice_index, Option, Some, None, ◌&&◌, ◌||◌, ◌==◌}
use Rattle.std.proofs.lemmas.Bool.{false≢true, and_parts}
use Rattle.std.proofs.lemmas.Bool.Decides.{nat_tests}
use Rattle.std.proofs.lemmas.List.Folds.{list_all-append}
use Rattle.std.proofs.lemmas.Str.{encode_ascii, char_from_byte, length-encode, len_utf8_bounds}
use Rattle.std.specs.Char.{digit_value, is_digit}
use Rattle.resb_icu_grammar.proofs.FewDigitsLemmas.{few_first}
use Rattle.resb_grammar.specs.Ascii as ascii
use Rattle.resb_grammar.specs.Group.{is_hex, hex_bytes, byte_before}
use Rattle.resb_icu_grammar.specs.Bytes.{backslash}
use Rattle.resb_icu_grammar.specs.Blanks.{Skip}
use Rattle.resb_icu_grammar.specs.Escapes.{Escape, itself, letter, four_digits, pair, eight_digits}
use Rattle.resb_icu_grammar.specs.Escapes.{control, short_hex, octal}
use Rattle.resb_icu_grammar.specs.Escapes.{is_lost}
use Rattle.resb_icu_grammar.specs.Pieces.{QuotedBytes, ends, byte, escape, Joined, last_piece}
use Rattle.resb_icu_grammar.specs.Pieces.{one_more}
use Rattle.resb_icu_grammar.proofs.Lexical.{Skip-one}
use Rattle.resb_icu_text.proofs.EscapesLemmas.{hex_ascii}
use Rattle.resb_icu_text.proofs.PiecesLemmas.{rest_escape, inside_order}
use Rattle.resb_icu_text.proofs.PartsLemmas.{one_alone, and_others}
use Rattle.resb_icu_text.proofs.StringsLemmas.{Row, row}
use Rattle.resb_icu_text.specs.Inner.Digits.{are_digits, DigitAt}

-- digits that come in pairs say bytes, one for each pair
pub pairs_say : (s : List ℕ) (n : ℕ) → are_digits s ≡ true → length s ≡ 2 * n
    → (bytes : List ℕ) × (hex_bytes s ≡ Some bytes) × (length bytes ≡ n)
pairs_say [] n h e = ([], refl, omega arith)
pairs_say (a ∷ []) n h e = absurd (omega arith)
pairs_say (a ∷ b ∷ s) n h e =
    let p = and_parts (is_hex a) _ h in
    let q = and_parts (is_hex b) _ p.1 in
    let r = pairs_say s (n - 1) q.1 (omega arith) in
    ((digit_value a * 16 + digit_value b) ∷ r.0, said p.0 q.0 r.1, omega (arith, r.2))
  where
    said : {bytes : List ℕ} → is_hex a ≡ true → is_hex b ≡ true → hex_bytes s ≡ Some bytes
        → hex_bytes (a ∷ b ∷ s) ≡ Some ((digit_value a * 16 + digit_value b) ∷ bytes)
    said x y z = rw (x, y, z) refl

-- and what says bytes is digits in pairs
pub pairs_are : (s bytes : List ℕ) → hex_bytes s ≡ Some bytes
    → (are_digits s ≡ true) × (length s ≡ 2 * length bytes)
pairs_are [] bytes e =
    let same : [] ≡ bytes = cc in (refl, omega (arith, ap length same))
pairs_are (a ∷ []) bytes e = absurd cc
pairs_are (a ∷ b ∷ s) bytes e =
    by (is_hex a) (is_hex b) (hex_bytes s) refl refl e (λ bs f. pairs_are s bs f)
  where
    by : (x y : Bool) (o : Option (List ℕ)) → is_hex a ≡ x → is_hex b ≡ y
        → byte_before (x && y) (digit_value a * 16 + digit_value b) o ≡ Some bytes
        → ((bs : List ℕ) → o ≡ Some bs → (are_digits s ≡ true) × (length s ≡ 2 * length bs))
        → (are_digits (a ∷ b ∷ s) ≡ true) × (length (a ∷ b ∷ s) ≡ 2 * length bytes)
    by true true (Some bs) h k g f =
        let r = f bs refl in
        let same : (digit_value a * 16 + digit_value b) ∷ bs ≡ bytes = cc in
        (rw (h, k, r.0) refl, omega (arith, r.1, ap length same))
    by true true None h k g f = absurd cc
    by true false o h k g f = absurd cc
    by false y o h k g f = absurd cc

-- what says no bytes by any, says none
pub none_say : (s : List ℕ) → ((bytes : List ℕ) → hex_bytes s ≡ Some bytes → ⊥)
    → hex_bytes s ≡ None
none_say s f = by (hex_bytes s) refl
  where
    by : (o : Option (List ℕ)) → hex_bytes s ≡ o → o ≡ None
    by None e = refl
    by (Some bs) e = absurd (f bs e)

-- a character's bytes are hex digits where it is one
pub hex_encoded : (c : ℕ) → is_hex c ≡ false → are_digits (encode_utf8 c) ≡ false
hex_encoded c h = by (encode_utf8 c) refl
  where
    first : (b : ℕ) (t : List ℕ) (x : Bool) → encode_utf8 c ≡ b ∷ t → is_hex b ≡ x
        → (x && are_digits t) ≡ false
    first b t false e k = refl
    first b t true e k =
        let low = (hex_ascii b k).1 in
        let same : c ≡ b = char_from_byte (b ∷ t) [] c (sym (append-nil (encode_utf8 c) ∙ e)) low
        (omega arith) in
        absurd (false≢true (sym h ∙ ap is_hex same ∙ k))

    by : (s : List ℕ) → encode_utf8 c ≡ s → are_digits s ≡ false
    by [] e = absurd (omega (arith, length-encode c, (len_utf8_bounds c).0, ap length e))
    by (b ∷ t) e = first b t (is_hex b) e refl

module _ {text : List ℕ} where
  -- an escape of a character
  pub escaped_digit : (at last : ℕ) (bytes : List ℕ) (to c : ℕ) → slice_index text at ≡ backslash
      → Escape text (at + 1) to (encode_utf8 c) → is_hex c ≡ true → QuotedBytes text at last bytes
      → DigitAt text last bytes to
  escaped_digit at last bytes to c s x h i =
      let r = rest_escape text at to last (encode_utf8 c) bytes s x i in
      record {
        digit = c;
        rest = r.0;
        whole = r.1 ∙ ap (λ l. l ++ r.0) (encode_ascii c (hex_ascii c h).1);
        is_digit = h;
        on = r.2;
      }

  -- an escape that says no digit
  pub escaped_none : (at last : ℕ) (bytes : List ℕ) (to : ℕ) (first : List ℕ)
      → slice_index text at ≡ backslash → Escape text (at + 1) to first
      → are_digits first ≡ false → QuotedBytes text at last bytes → are_digits bytes ≡ false
  escaped_none at last bytes to first s x h i =
      let r = rest_escape text at to last first bytes s x i in
      ap are_digits r.1 ∙ list_all-append is_hex first r.0 ∙ ap (λ b. b && are_digits r.0) h

  -- an escape of a byte that stands for itself, which may be a digit
  pub escaped_itself : (at last : ℕ) (bytes : List ℕ) (to b : ℕ) → slice_index text at ≡ backslash
      → Escape text (at + 1) to (slice_index text (at + 1) ∷ []) → b ≡ slice_index text (at + 1)
      → is_hex b ≡ true → QuotedBytes text at last bytes → DigitAt text last bytes to
  escaped_itself at last bytes to b s x e h i =
      let r = rest_escape text at to last (slice_index text (at + 1) ∷ []) bytes s x i in
      record {
        digit = slice_index text (at + 1);
        rest = r.0;
        whole = r.1;
        is_digit = ap is_hex (sym e) ∙ h;
        on = r.2;
      }

  -- or none
  pub escaped_other : (at last : ℕ) (bytes : List ℕ) (to b : ℕ) → slice_index text at ≡ backslash
      → Escape text (at + 1) to (slice_index text (at + 1) ∷ []) → b ≡ slice_index text (at + 1)
      → is_hex b ≡ false → QuotedBytes text at last bytes → are_digits bytes ≡ false
  escaped_other at last bytes to b s x e h =
      escaped_none at last bytes to (slice_index text (at + 1) ∷ []) s x
      (ap (λ b. b && true) (ap is_hex (sym e) ∙ h))

-- what stands from a place inside a piece on, up to the end of the row of pieces
pub record Onward (text : List ℕ) (at end : ℕ) (said : List ℕ) : Type 0 where
  pub last : ℕ
  pub inside : List ℕ
  pub stands : QuotedBytes text at last inside
  pub others : Row text (last + 1) end inside said

-- the bytes that are left of what a row says are digits just where all are
pub record DigitsLeft (text : List ℕ) (at end : ℕ) (said : List ℕ) : Type 0 where
  pub rest : List ℕ
  pub onward : Onward text at end rest
  pub same : are_digits said ≡ are_digits rest

enter : (text : List ℕ) (from end : ℕ) (said : List ℕ) → Joined text from end said
    → Onward text (from + 1) end said
enter text from end said (last_piece _ _ n _ p t h) = record {
  last = p.last;
  inside = said;
  stands = p.inside;
  others = row text from p.last end said said p.inside (last_piece from end n said p t h);
}
enter text from end _ (one_more _ m n _ us vs p t j) = record {
  last = p.last;
  inside = us;
  stands = p.inside;
  others = row text from p.last end us (us ++ vs) p.inside (one_more from m n end us vs p t j);
}

pub digits_first : (text : List ℕ) (from end : ℕ) (said : List ℕ) → Joined text from end said
    → DigitsLeft text (from + 1) end said
digits_first text from end said j =
    record { rest = said; onward = enter text from end said j; same = refl }

-- the place is inside the row
pub onward_fits : (text : List ℕ) (at end : ℕ) (said : List ℕ) → Onward text at end said → at < end
onward_fits text at end said o =
    let low = inside_order text at o.last o.inside o.stands in by o.others (omega arith)
  where
    by : {last : ℕ} {first s : List ℕ} → Row text (last + 1) end first s → at ≤ last → at < end
    by (one_alone e) low = omega arith
    by (and_others n later k j h i) low = omega arith

-- where a quote stands, the piece ends
at_quote : (text : List ℕ) (at last : ℕ) (s : List ℕ) → slice_index text at ≡ ascii.quote
    → QuotedBytes text at last s → (last ≡ at) × (s ≡ [])
at_quote text at last s q (ends _ h) = (refl, refl)
at_quote text at last s q (byte _ _ vs l n b r) = absurd (n q)
at_quote text at last s q (escape _ n _ xs vs b x r) = absurd (omega arith)

-- and nothing is left where the row ends
pub digits_over : (text : List ℕ) (at end : ℕ) (said : List ℕ) → slice_index text at ≡ ascii.quote
    → at + 1 ≡ end → DigitsLeft text at end said → are_digits said ≡ true
digits_over text at end said q e d =
    let o = d.onward in
    let z = at_quote text at o.last o.inside q o.stands in
    d.same ∙ ap are_digits (by o.others z.0 z.1)
  where
    by : {last : ℕ} {first s : List ℕ} → Row text (last + 1) end first s → last ≡ at → first ≡ []
        → s ≡ []
    by (one_alone same) l f = f
    by (and_others n later k j h i) l f = absurd (omega arith)

-- else the next piece is
pub digits_on : (text : List ℕ) (at end next : ℕ) (said : List ℕ)
    → slice_index text at ≡ ascii.quote → at + 1 ≢ end → Skip text (at + 1) next
    → DigitsLeft text at end said → DigitsLeft text (next + 1) end said
digits_on text at end next said q e k d =
    let o = d.onward in
    let z = at_quote text at o.last o.inside q o.stands in
    record {
      rest = d.rest;
      onward = by o.others z.0 z.1;
      same = d.same;
    }
  where
    by : {last : ℕ} {first s : List ℕ} → Row text (last + 1) end first s → last ≡ at → first ≡ []
        → Onward text (next + 1) end s
    by (one_alone same) l f = absurd (e (omega arith))
    by {last} {first} (and_others n later t j h i) l f =
        let there = Skip-one text (at + 1) n next (subst (λ i. Skip text (i + 1) n) l t) k in
        subst (λ u. Onward text (next + 1) end (u ++ later)) (sym f)
        (enter text next end later (subst (λ i. Joined text i end later) there j))

-- behind a digit the others are left
pub digits_more : (text : List ℕ) (at end to : ℕ) (said : List ℕ)
    → ((last : ℕ) (bytes : List ℕ) → QuotedBytes text at last bytes → DigitAt text last bytes to)
    → DigitsLeft text at end said → DigitsLeft text to end said
digits_more text at end to said f d =
    let o = d.onward in
    let a = f o.last o.inside o.stands in
    let m = by o.others a.whole in
    record {
      rest = m.0;
      onward = record { last = o.last; inside = a.rest; stands = a.on; others = m.2 };
      same = d.same ∙ ap are_digits m.1 ∙ ap (λ b. b && are_digits m.0) a.is_digit;
    }
  where
    by : {mid c : ℕ} {first more s : List ℕ} → Row text mid end first s → first ≡ c ∷ more
        → (left : List ℕ) × (s ≡ c ∷ left) × Row text mid end more left
    by {more = more} (one_alone same) e = (more, e, one_alone same)
    by {more = more} (and_others n later k j h i) e =
        (more ++ later, ap (λ u. u ++ later) e, and_others n later k j h i)

-- where none is a digit, not all are
pub digits_none : (text : List ℕ) (at end : ℕ) (said : List ℕ)
    → ((last : ℕ) (bytes : List ℕ) → QuotedBytes text at last bytes → are_digits bytes ≡ false)
    → DigitsLeft text at end said → are_digits said ≡ false
digits_none text at end said f d =
    let o = d.onward in
    d.same ∙ by o.others (f o.last o.inside o.stands)
  where
    by : {mid : ℕ} {first s : List ℕ} → Row text mid end first s → are_digits first ≡ false
        → are_digits s ≡ false
    by (one_alone same) h = h
    by {first = first} (and_others n later k j l i) h =
        list_all-append is_hex first later ∙ ap (λ b. b && are_digits later) h
