-- What is told where a string or a key is none.
use Rattle.std.specs.Prelude.{◌≡◌, ◌≢◌, ℕ, false, List, slice_index}
use Rattle.resb_grammar.specs.Ascii as ascii
use Rattle.resb_icu_grammar.specs.Faults.{PiecesFault, Told}
use Rattle.resb_icu_grammar.specs.Unquoted.{Unquoted, begins_unquoted}
use Rattle.resb_icu_grammar.specs.Stuck.{NoStringAt, NoKeyAt}
use Rattle.resb_icu_grammar.specs.declared.expected.IcuExpected.{IcuExpected}
use Rattle.resb_icu_text.specs.declared.error.IcuTextError.{IcuTextError}

-- no unquoted string begins there
abbrev pub NoneBegins : List ℕ → ℕ → Type 0
NoneBegins text at =
    ((to : ℕ) (s : List ℕ) → Unquoted text at to s → ⊥) × (begins_unquoted text at ≡ false)

-- no part of a string stands there, where this was expected, and the error says so: it tells the
-- fault of quoted pieces, or else just this
pub data PartFails (text : List ℕ) (at : ℕ) (x : IcuExpected) (e : IcuTextError) : Type 0 where
  in_pieces : PiecesFault text at e.position e.expected → PartFails text at x e
  nothing : slice_index text at ≢ ascii.quote → NoneBegins text at
      → e ≡ record { position = at; expected = x } → PartFails text at x e

-- no string stands there, where this was expected, and the error says so
abbrev pub StringFails : List ℕ → ℕ → IcuExpected → IcuTextError → Type 0
StringFails text at x e = NoStringAt text at × Told text at x e.position e.expected

-- no key stands there, where this was expected, and the error says so
abbrev pub KeyFails : List ℕ → ℕ → IcuExpected → IcuTextError → Type 0
KeyFails text at x e = NoKeyAt text at × Told text at x e.position e.expected
