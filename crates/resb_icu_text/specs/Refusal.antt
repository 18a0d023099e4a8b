-- What a refusal prints, and the refusal for want of memory.
use Rattle.std.specs.Prelude.{ℕ, List, ◌∷◌, ◌++◌, codes, decimal}
use Rattle.resb_grammar.specs.Ascii as ascii
use Rattle.resb_icu_grammar.specs.Expected.{item_of}
use Rattle.resb_icu_grammar.specs.declared.expected.IcuExpected.TheVariants as expect
use Rattle.resb_icu_text.specs.declared.error.IcuTextError.{IcuTextError}
use Rattle.resb_icu_text.specs.declared.error.IcuLimitError.{IcuLimitError}
use Rattle.resb_icu_text.specs.declared.error.IcuLimitError.TheVariants as limited

-- two lines: what failed, then where and what was expected
abbrev pub message_of : IcuTextError → List ℕ
message_of e =
    codes "Parse error while reading ICU text:"
    ++ (ascii.line_feed ∷ codes "at byte "
    ++ (decimal e.position ++ (codes ": expected " ++ item_of e.expected)))

-- no place of the text is to blame
abbrev pub want_of_memory : IcuTextError
want_of_memory = record { position = 0; expected = expect.Memory }

-- the text's own refusal, or that its reading makes more than the limit
abbrev pub limit_message_of : IcuLimitError → List ℕ
limit_message_of (limited.Text e) = message_of e
limit_message_of limited.Larger = codes "text larger than the limit"
