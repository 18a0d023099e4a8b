-- What a bundle is printed as in each form, and why it isn't printed.
--     printed_as form name fallback t  the bytes of the bundle of this name, flag and root
--     cause_in form name t             the first cause that keeps it from being printed
--     IsTextOf form text name fallback t   the text is of the form, and of this bundle
--     IsNotPrinted print name fallback t e  the error says why the bundle isn't printed
use Rattle.std.specs.Prelude.{◌≡◌, ◌<◌, ℕ, List, Bool, Option, Some, None, length, option_map}
use Rattle.std.specs.Prelude.{unwrap_or, ◌^◌, ◌-◌, ⊤}
use Rattle.serde_json.specs.Written.{compact_text}
use Rattle.resb_tree.specs.Tree.{Tree}
use Rattle.resb_grammar.specs.BundleText.{BundleText}
use Rattle.resb_icu_grammar.specs.Bundle.{IcuText}
use Rattle.resb_print.specs.Held.{IsHeld}
use Rattle.resb_print.specs.Laws.{HasNoText}
use Rattle.resb_print.specs.Paths.{Step, first_found, plain_tests}
use Rattle.resb_print.specs.Printed.{plain_spelling}
use Rattle.resb_print.specs.declared.cause.Cause.{Cause}
use Rattle.resb_print.specs.declared.error.PrintError.{PrintError}
use Rattle.resb_print.specs.declared.error.PrintError.TheVariants as error
use Rattle.resb_icu_print.specs.Causes.{icu_tests}
use Rattle.resb_icu_print.specs.Printed.{icu_spelling}
use Rattle.resb_json.specs.Json.{json_of}
use Rattle.resb_lines.specs.Lines.{lines_of}
use Rattle.resb_lines.specs.declared.printing.Print.{Print}
use Rattle.resb_lines.specs.declared.printing.PrintForm.{PrintForm}
use Rattle.resb_lines.specs.declared.printing.PrintForm.TheVariants.{Plain, Icu, Json}

-- the bytes that the bundle of this name, flag and root is printed as; JSON has the root alone
abbrev pub printed_as : PrintForm → List ℕ → Bool → Tree → List ℕ
printed_as Plain name fallback t = lines_of plain_spelling name fallback t
printed_as Icu name fallback t = lines_of icu_spelling name fallback t
printed_as Json name fallback t = compact_text (json_of t)

-- the first cause, in the order of the text, that keeps the bundle from being printed, with the
-- path to it; nothing keeps one from having JSON
abbrev pub cause_in : PrintForm → List ℕ → Tree → Option (List Step × Cause)
cause_in Plain name t = first_found plain_tests name t
cause_in Icu name t = first_found icu_tests name t
cause_in Json name t = None

-- the text is one of the form, by the form's own grammar, and its bundle is this one
abbrev pub IsTextOf : PrintForm → List ℕ → List ℕ → Bool → Tree → Type 0
IsTextOf Plain text name fallback t = (keys : List (List ℕ)) × BundleText text name fallback t keys
IsTextOf Icu text name fallback t = (keys : List (List ℕ)) × IcuText text name fallback t keys
IsTextOf Json text name fallback t = text ≡ compact_text (json_of t)

-- no text of the form has this bundle
abbrev pub HasNoTextOf : PrintForm → List ℕ → Bool → Tree → Type 0
HasNoTextOf form name fallback t = (text : List ℕ) → IsTextOf form text name fallback t → ⊥

-- the most bytes that are printed: 2^64 - 1 where no limit was set
abbrev pub most_of : Print → ℕ
most_of p = unwrap_or p.limit (2 ^ 64 - 1)

-- why a bundle isn't printed: the first cause, and then no text of the form has the bundle; or it
-- is printed as more bytes than the limit that was set; or memory was wanted
abbrev pub IsNotPrinted : Print → List ℕ → Bool → Tree → PrintError → Type 0
IsNotPrinted p name fallback t (error.NotPrintable x) =
    (option_map (λ found. found.1) (cause_in p.form name t) ≡ Some x)
    × HasNoTextOf p.form name fallback t
IsNotPrinted p name fallback t (error.Larger limit) =
    (p.limit ≡ Some limit) × (limit < length (printed_as p.form name fallback t))
    × (cause_in p.form name t ≡ None)
IsNotPrinted p name fallback t error.OutOfMemory = ⊤

-- what is true of each tree that a program holds, as far as the form looks at it
abbrev pub IsHeldFor : PrintForm → Tree → Type 0
IsHeldFor Plain t = IsHeld t
IsHeldFor Icu t = IsHeld t
IsHeldFor Json t = ⊤

-- printing in this form, with no limit
abbrev pub unlimited : PrintForm → Print
unlimited form = record { form = form; limit = None }

-- printing like this, within a limit
abbrev pub limited : Print → ℕ → Print
limited p limit = record { form = p.form; limit = Some limit }
