-- What telling the warnings of a text answers, and leaves in the buffer.
--     AreWarnings form text ws    these are the warnings of a text of this form, by their places
--     TellsWarnings o text lines  the lines tell those of a text of the form that is asked for
--     WarnsInto o text old new r  what telling them by options answers, and leaves in the buffer
use Rattle.std.specs.Prelude.{◌≡◌, ℕ, true, false, List, length, Some, None, Result, Ok, Err}
use Rattle.std.specs.Prelude.{IsPermutation, IsUtf8}
use Rattle.std.specs.List.Sorted.{IsSortedByKey}
use Rattle.std.specs.Ordering.{nat_cmp}
use Rattle.resb_compile.specs.declared.compiling.TextForm.{TextForm}
use Rattle.resb_compile.specs.declared.compiling.TextForm.TheVariants.{Plain, Icu}
use Rattle.resb_diagnostics.specs.IcuMarks.{icu_found}
use Rattle.resb_diagnostics.specs.Told.{is_over, warning_lines}
use Rattle.resb_diagnostics.specs.Warnings.{warned}
use Rattle.resb_diagnostics.specs.declared.warning.Warning.{Warning}
use Rattle.resb_print.specs.declared.error.PrintError.{PrintError}
use Rattle.resb_print.specs.declared.error.PrintError.TheVariants.{NotPrintable, Larger}
use Rattle.resb_print.specs.declared.error.PrintError.TheVariants.{OutOfMemory}
use Rattle.resb_c.specs.Calls.{Fills, IsNotUtf8}
use Rattle.resb_c.specs.Options.{limit_in, text_form_in}
use Rattle.resb_c.specs.declared.fault.Fault.{Fault}
use Rattle.resb_c.specs.declared.fault.Fault.TheVariants.{TooShort, NotUtf8, Printing, BadOptions}
use Rattle.resb_c.specs.declared.options.ResbOptions.{ResbOptions}

-- the warnings of a text of a form
abbrev pub warned_in : TextForm → List ℕ → List Warning
warned_in Plain text = warned text (length text)
warned_in Icu text = icu_found text

-- these are they, by their places
pub record AreWarnings (form : TextForm) (text : List ℕ) (ws : List Warning) : Type 0 where
  pub exact : IsPermutation (warned_in form text) ws
  pub order : IsSortedByKey (λ w. w.place) nat_cmp ws

-- the lines tell the warnings of a text, which is UTF-8 and of the form of the options
pub record AreLines (o : ResbOptions) (text lines : List ℕ) : Type 0 where
  pub form : TextForm
  pub asked : text_form_in o ≡ Some form
  pub utf8 : IsUtf8 text
  pub found : List Warning
  pub are : AreWarnings form text found
  pub exact : lines ≡ warning_lines text found

-- and they have no more bytes than the limit of the options, if they set one
abbrev pub TellsWarnings : ResbOptions → List ℕ → List ℕ → Type 0
TellsWarnings o text lines =
    AreLines o text lines × (is_over (limit_in o) (length lines) ≡ false)

-- there are lines, but they have more bytes than this limit, which is that of the options; or
-- memory is wanted
abbrev pub IsNotTold : ResbOptions → List ℕ → PrintError → Type 0
IsNotTold o text (Larger limit) =
    (lines : List ℕ) × AreLines o text lines × (limit ≡ o.limit)
    × (is_over (limit_in o) (length lines) ≡ true)
IsNotTold o text OutOfMemory = Unit {0}
IsNotTold o text (NotPrintable cause) = ⊥

-- why nothing is told: the options, then the text are refused, or the lines aren't made
abbrev pub TellsNone : ResbOptions → List ℕ → Fault → Type 0
TellsNone o text BadOptions = text_form_in o ≡ None
TellsNone o text (NotUtf8 n) = IsNotUtf8 text n
TellsNone o text (Printing e) = IsNotTold o text e
TellsNone o text _ = ⊥

-- the lines are in the buffer, or would be if it had room; or there are none, and the buffer is as
-- it was
abbrev pub WarnsInto : ResbOptions → List ℕ → List ℕ → List ℕ → Result ℕ Fault → Type 0
WarnsInto o text old new (Ok n) =
    (lines : List ℕ) × TellsWarnings o text lines × Fills lines old new (Ok n)
WarnsInto o text old new (Err (TooShort n)) =
    (lines : List ℕ) × TellsWarnings o text lines × Fills lines old new (Err n)
WarnsInto o text old new (Err fault) = TellsNone o text fault × (new ≡ old)
