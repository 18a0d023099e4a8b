-- Why the bytes of a text have no file.
use Rattle.std.specs.Prelude.{◌≡◌, List, ℕ, Bool, true, false, Option, Some, None, length, nat_lt}
use Rattle.std.specs.Prelude.{IsUtf8}
use Rattle.std.specs.Prelude.{if◌then◌else◌}
use Rattle.std.specs.Str.{IsValidUpTo}
use Rattle.std.specs.Str.Lossy.{utf8_valid_len}
use Rattle.resb_diagnostics.specs.Braces.{innermost_open, innermost_icu_open}
use Rattle.resb_grammar.specs.declared.expected.Expected.{Expected}
use Rattle.resb_grammar.specs.declared.expected.Expected.TheVariants.{Memory}
use Rattle.resb_text.specs.declared.error.TextParserError.{TextParserError}
use Rattle.resb_icu_grammar.specs.declared.expected.IcuExpected.{IcuExpected}
use Rattle.resb_icu_grammar.specs.declared.expected.IcuExpected.TheVariants as icu_expect
use Rattle.resb_icu_text.specs.declared.error.IcuTextError.{IcuTextError}
use Rattle.resb_compile.specs.Compiling.{IsRefused}
use Rattle.resb_compile.specs.declared.error.CompileError.TheVariants.{Reading, ReadingIcu}
use Rattle.resb_compile.specs.declared.error.CompileError.TheVariants.{Writing, Larger}
use Rattle.resb_program.specs.declared.sources.Blame.{Blame}
use Rattle.resb_program.specs.declared.sources.Blame.TheVariants.{At, Open, Nowhere}
use Rattle.resb_program.specs.declared.errors.SourceError.{SourceError}
use Rattle.resb_program.specs.declared.errors.SourceError.TheVariants.{NotUtf8, Refused}

-- the bytes aren't UTF-8, and this is how long their longest front is that is
abbrev pub IsNotUtf8 : List ℕ → ℕ → Type 0
IsNotUtf8 bytes n = (IsUtf8 bytes → ⊥) × IsValidUpTo bytes n × (n ≡ utf8_valid_len bytes)

-- these bytes have no file, for this reason: they are no UTF-8, and the place is the first that
-- isn't; or they are, and the text is refused
abbrev pub IsNoSource : List ℕ → SourceError → Type 0
IsNoSource source (NotUtf8 place) = (IsUtf8 source → ⊥) × IsValidUpTo source place
IsNoSource source (Refused e) = IsUtf8 source × IsRefused source e

-- memory was wanted, and nothing of the text
abbrev pub is_memory : Expected → Bool
is_memory Memory = true
is_memory _ = false

-- the innermost brace that is open where the text ends, or else that place
abbrev pub brace_or_end : ℕ → Option ℕ → Blame
brace_or_end place (Some brace) = Open brace
brace_or_end place None = At place

-- where a reading got stuck, with the innermost brace that is open where the text ends: the end of
-- the text is to blame only where no brace is open
abbrev pub place_or_brace : List ℕ → ℕ → Option ℕ → Blame
place_or_brace source place brace =
    if nat_lt place (length source) then At place else brace_or_end place brace

-- where to look after a reading; memory is to blame for nothing in the text
abbrev pub stuck_at : List ℕ → TextParserError → Blame
stuck_at source e =
    if is_memory e.expected then Nowhere
    else place_or_brace source e.position (innermost_open source)

-- memory was wanted, and nothing of a text of ICU's form
abbrev pub is_icu_memory : IcuExpected → Bool
is_icu_memory icu_expect.Memory = true
is_icu_memory _ = false

-- where to look after a reading of ICU's form
abbrev pub icu_stuck_at : List ℕ → IcuTextError → Blame
icu_stuck_at source e =
    if is_icu_memory e.expected then Nowhere
    else place_or_brace source e.position (innermost_icu_open source)

-- where to look for the cause of a refusal
abbrev pub blame_of : List ℕ → SourceError → Blame
blame_of source (NotUtf8 place) = At place
blame_of source (Refused (Reading e)) = stuck_at source e
blame_of source (Refused (ReadingIcu e)) = icu_stuck_at source e
blame_of source (Refused (Writing e)) = Nowhere
blame_of source (Refused (Larger limit)) = Nowhere
