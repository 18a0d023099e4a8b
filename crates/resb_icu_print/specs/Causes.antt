-- What keeps a bundle from having a text of ICU's form: its root, its name, or a key. No string
-- does, and no alias.
use Rattle.std.specs.Prelude.{◌&&◌, not, ℕ, Bool, List, Option, Some}
use Rattle.std.specs.Prelude.{None, if◌then◌else◌}
use Rattle.resb_icu_grammar.specs.Bytes.{are_key_bytes}
use Rattle.resb_print.specs.Paths.{Tests}
use Rattle.resb_print.specs.Quotes.{has_quote}
use Rattle.resb_icu_print.specs.Printed.{is_bare}
use Rattle.resb_print.specs.declared.cause.Cause.{Cause}
use Rattle.resb_print.specs.declared.cause.Cause.TheVariants as cause

-- each byte may stand in a key, and none is a quote, which would end it
abbrev pub is_icu_key : List ℕ → Bool
is_icu_key k = are_key_bytes k && not (has_quote k)

-- what keeps a bundle from having a text of ICU's form: a root that is no table, a name that is no
-- word, or a key that may not be one; no string does, and no alias
abbrev pub icu_tests : Tests Cause
icu_tests = record {
  of_root = cause.RootIsNoTable;
  of_name = λ name. if not (is_bare name) then Some cause.NameIsNoWord else None;
  of_key = λ k. if not (is_icu_key k) then Some cause.KeyHasOtherBytes else None;
  of_string = λ s. None;
  of_alias = None;
}
