-- What stands at a place of a text of ICU's form: blanks, and where none begin.
use Rattle.std.proofs.Common.{◌≡◌, ℕ, zero, suc, ◌+◌, true, false, List, ◌∷◌, length}
use Rattle.std.proofs.Common.{sym, ◌∙◌, ap, arith, refl, get_or}
use Rattle.std.specs.Prelude.{slice_index, ◌==◌}
use Rattle.std.proofs.lemmas.List.{get_or-drop, length-drop}
use Rattle.std.proofs.lemmas.Bool.{false≢true}
use Rattle.resb_grammar.specs.Ascii as ascii
use Rattle.resb_grammar.specs.ByteRuns.{is_white}
use Rattle.resb_icu_grammar.specs.Blanks.{Comment, line, block, Blanks, none, white, IsSolid, Skip}
use Rattle.resb_print.specs.Printed.{indent_on, line_on}
use Rattle.resb_print.proofs.Places.{From, byte_at, from_next}

module _ (text : List ℕ) where
  -- a byte some way behind a place
  pub byte_near : {at : ℕ} {rest : List ℕ} (k : ℕ) → From text at rest
      → slice_index text (at + k) ≡ slice_index rest k
  byte_near {at} {rest} k h = sym (get_or-drop at text k 0) ∙ ap (λ l. get_or l k 0) h.is

  -- the same bytes up to the end stand at one place
  pub same_place : {p q b : ℕ} {rest : List ℕ} → From text p (b ∷ rest) → From text q (b ∷ rest)
      → p ≡ q
  same_place {p} {q} {b} {rest} f g =
      omega (arith, length-drop p text, ap length f.is, length-drop q text, ap length g.is)

  -- neither white nor a slash
  pub solid_byte : (at b : ℕ) → slice_index text at ≡ b → is_white b ≡ false
      → (b == ascii.slash) ≡ false → IsSolid text at
  solid_byte at b e w s = record {
    no_white = ap is_white e ∙ w;
    no_comment = no_comment;
  }
    where
      no_slash : slice_index text at ≡ ascii.slash → ⊥
      no_slash f = false≢true (sym s ∙ ap (λ n. n == ascii.slash) (sym e ∙ f))

      no_comment : (k : ℕ) → Comment text at k → ⊥
      no_comment k (line f g r) = no_slash f
      no_comment k (block i f g c r) = no_slash f

  pub solid_at : {at b : ℕ} {rest : List ℕ} → From text at (b ∷ rest) → is_white b ≡ false
      → (b == ascii.slash) ≡ false → IsSolid text at
  solid_at {at} {b} {rest} h w s = solid_byte at b (byte_at text h) w s

  pub no_skip : {at : ℕ} → IsSolid text at → Skip text at at
  no_skip {at} h = record { blanks = none at; solid = h }

  pub white_on : {at b : ℕ} {rest : List ℕ} {to : ℕ} → From text at (b ∷ rest) → is_white b ≡ true
      → Blanks text (at + 1) to → Blanks text at to
  white_on {at} {b} {rest} {to} h w bs = white at to (ap is_white (byte_at text h) ∙ w) bs

  indent_blanks : (n : ℕ) {at : ℕ} {rest : List ℕ} → From text at (indent_on n rest)
      → (to : ℕ) × Blanks text at to × From text to rest
  indent_blanks zero {at} {rest} h = (at, none at, h)
  indent_blanks (suc n) {at} {rest} h =
      let a = from_next text h in
      let b = from_next text a in
      let c = from_next text b in
      let (to, bs, r) = indent_blanks n (from_next text c) in
      (to, white_on h refl (white_on a refl (white_on b refl (white_on c refl bs))), r)

  -- a new line, and its indentation
  pub line_blanks : (n : ℕ) {at : ℕ} {rest : List ℕ} → From text at (line_on n rest)
      → (to : ℕ) × Blanks text at to × From text to rest
  line_blanks n {at} {rest} h =
      let (to, bs, r) = indent_blanks n (from_next text h) in
      (to, white_on h refl bs, r)
