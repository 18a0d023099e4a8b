-- What a refusal says of a text.
use Rattle.std.specs.Prelude.{◌≡◌, ◌⊎◌, ℕ, List}
use Rattle.resb_grammar.specs.declared.limit.Limit.{Limit}
use Rattle.resb_grammar.specs.Laws.{IsNone}
use Rattle.resb_icu_grammar.specs.Bundle.{IcuText}
use Rattle.resb_icu_grammar.specs.Stuck.{Stuck}
use Rattle.resb_icu_grammar.specs.Limit.{IcuMadeWithin, IcuMakesMore}
use Rattle.resb_icu_text.specs.Refusal.{want_of_memory}
use Rattle.resb_icu_text.specs.declared.error.IcuTextError.{IcuTextError}
use Rattle.resb_icu_text.specs.declared.error.IcuLimitError.{IcuLimitError}
use Rattle.resb_icu_text.specs.declared.error.IcuLimitError.TheVariants as limited

-- memory was wanted, or a reading gets stuck at the error's place, where its item was expected
abbrev pub IcuFails : List ℕ → IcuTextError → Type 0
IcuFails text e = (e ≡ want_of_memory) ⊎ Stuck text e.position e.expected

-- the text is no bundle in ICU's form, of any name, fallback, tree and keys
abbrev pub IsNoIcuText : List ℕ → Type 0
IsNoIcuText = IsNone IcuText

-- memory was wanted, or no reading of the text makes more than the limit
abbrev pub IcuNeverMore : List ℕ → Limit → IcuTextError → Type 0
IcuNeverMore text limit e = (e ≡ want_of_memory) ⊎ (IcuMakesMore text limit → ⊥)

-- the text's own refusal, and no reading makes more than the limit, unless memory was wanted; or a
-- reading comes to a token by which more than the limit is made
abbrev pub IcuFailsWithin : List ℕ → Limit → IcuLimitError → Type 0
IcuFailsWithin text limit (limited.Text e) = IcuFails text e × IcuNeverMore text limit e
IcuFailsWithin text limit limited.Larger = IcuMakesMore text limit

-- memory was wanted, or the text is no bundle in ICU's form, or its whole reading doesn't stay
-- within the limit
abbrev pub IsNoIcuTextWithin : List ℕ → Limit → IcuLimitError → Type 0
IsNoIcuTextWithin text limit (limited.Text e) = (e ≡ want_of_memory) ⊎ IsNoIcuText text
IsNoIcuTextWithin text limit limited.Larger = IcuMadeWithin text limit → ⊥
