use Rattle.std.proofs.Common.{sym, ◌∙◌, arith, ◌≡◌, ℕ, ◌+◌, true}
use Rattle.std.specs.Prelude.{slice_index}
use Rattle.std.specs.Char.Utf16.{is_low_surrogate}
use Rattle.resb_icu_grammar.specs.Bytes.{backslash}
use Rattle.resb_icu_grammar.specs.Escapes.{FourDigits}
use Rattle.resb_icu_text.proofs.EscapesLemmas.{four_behind, no_low, low_digits}
use Rattle.resb_icu_text.proofs.Lists.{IfNone_from}
use Rattle.resb_icu_text.proofs.escapes.low_half.Goals as goal

pub returns-then-byte-ne92-clause-none : goal.returns-then-byte-ne92-clause-none
returns-then-byte-ne92-clause-none c =
    let never : (low : ℕ) → slice_index c.args.text.now c.args.at ≡ backslash
    → FourDigits c.args.text.now (c.args.at + 1) low → is_low_surrogate low ≡ true → ⊥ =
    λ low d x q. c.if-byte-ne92.true (c.byte.ensures.byte ∙ d) in
    never

pub returns-then-byte-ne117-clause-none : goal.returns-then-byte-ne117-clause-none
returns-then-byte-ne117-clause-none c =
    let never : (low : ℕ) → slice_index c.args.text.now c.args.at ≡ backslash
    → FourDigits c.args.text.now (c.args.at + 1) low → is_low_surrogate low ≡ true → ⊥ =
    λ low d x q. c.if-byte-ne117.true (c.byte-2.ensures.byte ∙ x.letter) in
    never

pub returns-in_err-number-clause-none : goal.returns-in_err-number-clause-none
returns-in_err-number-clause-none c =
    let never : (low : ℕ) → slice_index c.args.text.now c.args.at ≡ backslash
    → FourDigits c.args.text.now (c.args.at + 1) low → is_low_surrogate low ≡ true → ⊥ =
    low_digits c.args.text.now c.args.at c.in_err-number.ensures.none in
    IfNone_from {A = ℕ} _ _ never

pub returns-then-is_low-clause-found : goal.returns-then-is_low-clause-found
returns-then-is_low-clause-found c =
    let f = c.in_ok-number.ensures.found in (
      sym c.byte.ensures.byte ∙ c.if-byte-ne92.false,
      four_behind c.args.text.now c.args.at _
          (sym c.byte-2.ensures.byte ∙ c.if-byte-ne117.false) f.0 f.1,
      sym c.is_low.ensures ∙ c.if-is_low.true,
      omega (arith, f.3),
    )

pub returns-else-is_low-clause-none : goal.returns-else-is_low-clause-none
returns-else-is_low-clause-none c =
    let f = c.in_ok-number.ensures.found in
    let never : (low : ℕ) → slice_index c.args.text.now c.args.at ≡ backslash
    → FourDigits c.args.text.now (c.args.at + 1) low → is_low_surrogate low ≡ true → ⊥ =
    no_low c.args.text.now c.args.at c.in_ok-number.number
    (four_behind c.args.text.now c.args.at c.in_ok-number.number
    (sym c.byte-2.ensures.byte ∙ c.if-byte-ne117.false) f.0 f.1)
    (sym c.is_low.ensures ∙ c.if-is_low.false) in
    never
