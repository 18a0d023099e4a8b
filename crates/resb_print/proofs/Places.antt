-- A text from a place on: what stands at that place, and where something else begins.
use Rattle.std.proofs.Common.{◌≡◌, ℕ, zero, suc, ◌+◌, ◌-◌, ◌<◌, ◌≤◌, Bool, true, false, List, []}
use Rattle.std.proofs.Common.{◌∷◌, ◌++◌, length, drop, take, get_or, refl, sym, ◌∙◌, ap, arith}
use Rattle.std.proofs.Common.{add-zero}
use Rattle.std.specs.Prelude.{slice_index, slice_range, ◌==◌, ◌||◌}
use Rattle.std.proofs.lemmas.List.{drop-drop, drop_at, take_at, get_or-drop, get_or_append_left}
use Rattle.std.proofs.lemmas.List.{length-drop}
use Rattle.std.proofs.lemmas.Bool.{false≢true}
use Rattle.resb_print.proofs.FreeTrees.{NoQuote}
use Rattle.resb_grammar.specs.Ascii as ascii
use Rattle.resb_grammar.specs.ByteRuns.{is_white, Run}
use Rattle.resb_grammar.specs.Lexical.{Comment, line, block, Blanks, none, white}
use Rattle.resb_grammar.specs.Lexical.{IsSolid, Skip, Text}
use Rattle.resb_grammar.specs.Lexical.{quoted}
use Rattle.resb_print.specs.Printed.{indent_on, line_on, quoted_on}
use Rattle.resb_print.specs.Quotes.{has_quote}

-- these bytes are the text from this place on
pub record From (text : List ℕ) (at : ℕ) (rest : List ℕ) : Type 0 where
  pub is : drop at text ≡ rest

pub no_quote : (s : List ℕ) → NoQuote s → (k : ℕ) → k < length s → slice_index s k ≡ ascii.quote
    → ⊥
no_quote [] h k l e = absurd (omega arith)
no_quote (b ∷ s) h zero l e =
    let f : (b == ascii.quote) ≡ true = ap (λ n. n == ascii.quote) e in
    false≢true (sym h ∙ ap (λ t. t || has_quote s) f)
no_quote (b ∷ s) h (suc k) l e = no_quote s (grind (arith)) k (omega arith) e

module _ (text : List ℕ) where
  -- the byte that stands at a place is the first of what the text goes on with there
  pub byte_at : {at b : ℕ} {rest : List ℕ} → From text at (b ∷ rest) → slice_index text at ≡ b
  byte_at {at} {b} {rest} h =
      ap (λ n. get_or text n 0) (sym (add-zero at)) ∙ sym (get_or-drop at text 0 0)
      ∙ ap (λ l. get_or l 0 0) h.is

  -- behind some bytes, the text goes on with what follows them
  pub from_behind : (w : List ℕ) {at : ℕ} (rest : List ℕ) → From text at (w ++ rest)
      → From text (at + length w) rest
  from_behind w {at} rest h = record {
    is = sym (drop-drop (length w) at text) ∙ ap (drop (length w)) h.is
        ∙ drop_at w rest (length w) refl;
  }

  -- behind one byte, the text goes on with what follows it
  pub from_next : {at b : ℕ} {rest : List ℕ} → From text at (b ∷ rest) → From text (at + 1) rest
  from_next {at} {b} {rest} h = from_behind (b ∷ []) rest h

  -- where a byte is left, the text has not ended
  pub from_inside : {at b : ℕ} {rest : List ℕ} → From text at (b ∷ rest) → at < length text
  from_inside {at} {b} {rest} h = omega (arith, length-drop at text, ap length h.is)

  -- where nothing is left, the text has ended
  pub at_end : {at : ℕ} → From text at [] → length text ≤ at
  at_end {at} h = omega (arith, length-drop at text, ap length h.is)

  -- a byte among those that stand here
  pub from_among : (w : List ℕ) {at : ℕ} (rest : List ℕ) (k : ℕ) → From text at (w ++ rest) → at ≤ k
      → k < at + length w → slice_index text k ≡ slice_index w (k - at)
  from_among w {at} rest k h low high =
      let e : at + (k - at) ≡ k = omega arith in
      let l : k - at < length w = omega arith in
      ap (λ n. get_or text n 0) (sym e) ∙ sym (get_or-drop at text (k - at) 0)
      ∙ ap (λ l. get_or l (k - at) 0) h.is ∙ get_or_append_left w rest 0 (k - at) l

  -- the part of the text between a place and the end of the bytes that stand there is these bytes
  pub range_is : (w : List ℕ) {at : ℕ} (rest : List ℕ) → From text at (w ++ rest)
      → slice_range text at (at + length w) ≡ w
  range_is w {at} rest h =
      let e : at + length w - at ≡ length w = omega arith in
      ap (λ n. take n (drop at text)) e ∙ ap (take (length w)) h.is
      ∙ take_at w rest (length w) refl

  -- neither white nor a slash
  pub solid_byte : (at b : ℕ) → slice_index text at ≡ b → is_white b ≡ false
      → (b == ascii.slash) ≡ false → IsSolid text at
  solid_byte at b e w s = record {
    no_white = ap is_white e ∙ w;
    no_comment = no_comment;
  }
    where
      no_slash : slice_index text at ≡ ascii.slash → ⊥
      no_slash f = false≢true (sym s ∙ ap (λ n. n == ascii.slash) (sym e ∙ f))

      no_comment : (k : ℕ) → Comment text at k → ⊥
      no_comment k (line f g r) = no_slash f
      no_comment k (block i f g c r) = no_slash f

  pub solid_at : {at b : ℕ} {rest : List ℕ} → From text at (b ∷ rest) → is_white b ≡ false
      → (b == ascii.slash) ≡ false → IsSolid text at
  solid_at {at} {b} {rest} h w s = solid_byte at b (byte_at h) w s

  pub no_skip : {at : ℕ} → IsSolid text at → Skip text at at
  no_skip {at} h = record { blanks = none at; solid = h }

  pub white_on : {at b : ℕ} {rest : List ℕ} {to : ℕ} → From text at (b ∷ rest) → is_white b ≡ true
      → Blanks text (at + 1) to → Blanks text at to
  white_on {at} {b} {rest} {to} h w bs = white at to (ap is_white (byte_at h) ∙ w) bs

  indent_blanks : (n : ℕ) {at : ℕ} {rest : List ℕ} → From text at (indent_on n rest)
      → (to : ℕ) × Blanks text at to × From text to rest
  indent_blanks zero {at} {rest} h = (at, none at, h)
  indent_blanks (suc n) {at} {rest} h =
      let a = from_next h in
      let b = from_next a in
      let c = from_next b in
      let (to, bs, r) = indent_blanks n (from_next c) in
      (to, white_on h refl (white_on a refl (white_on b refl (white_on c refl bs))), r)

  -- a new line, and its indentation
  pub line_blanks : (n : ℕ) {at : ℕ} {rest : List ℕ} → From text at (line_on n rest)
      → (to : ℕ) × Blanks text at to × From text to rest
  line_blanks n {at} {rest} h =
      let (to, bs, r) = indent_blanks n (from_next h) in
      (to, white_on h refl bs, r)

  -- a longest run
  pub run_at : (p : ℕ → Bool) (w : List ℕ) {at : ℕ} (b : ℕ) (rest : List ℕ)
      → From text at (w ++ b ∷ rest) → ((k : ℕ) → k < length w → p (slice_index w k) ≡ true)
      → p b ≡ false → Run p text at (at + length w)
  run_at p w {at} b rest h each other =
      let r : From text (at + length w) (b ∷ rest) = from_behind w (b ∷ rest) h in
      let i : at + length w < length text = from_inside r in
      record {
        order = omega arith;
        fits = omega arith;
        each = λ k low high. ap p (from_among w (b ∷ rest) k h low high)
            ∙ each (k - at) (omega arith);
        longest = ap p (byte_at r) ∙ other;
      }

  pub quoted_text_at : (s : List ℕ) {at : ℕ} {rest : List ℕ} → NoQuote s
      → From text at (quoted_on s rest) → (to : ℕ) × Text text at to s × From text to rest
  quoted_text_at s {at} {rest} free h =
      let a = from_next h in
      let b = from_behind s (ascii.quote ∷ rest) a in
      let last = at + 1 + length s in (
        last + 1,
        quoted last (byte_at h) (record {
          order = omega arith;
          closes = byte_at b;
          inner = λ k low high e. no_quote s free (k - (at + 1)) (omega arith)
              (sym (from_among s (ascii.quote ∷ rest) k a low high) ∙ e);
        }) refl (sym (range_is s (ascii.quote ∷ rest) a)),
        from_next b,
      )
