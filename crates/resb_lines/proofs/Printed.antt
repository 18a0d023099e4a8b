-- What is found keeps a bundle from having a text, and where nothing is, its lines are a text.
use Rattle.std.specs.Prelude.{◌≡◌, ℕ, List, Bool, Some, None, option_map}
use Rattle.std.proofs.Common.{sym, ap, subst, ◌∙◌}
use Rattle.resb_tree.specs.Tree.{Tree, Entries, table}
use Rattle.resb_grammar.specs.BundleText.{BundleText}
use Rattle.resb_grammar.specs.Laws.{Texts}
use Rattle.resb_icu_grammar.specs.Bundle.{IcuText}
use Rattle.resb_print.specs.Held.{IsHeld}
use Rattle.resb_print.specs.Laws.{PrintedIsABundle}
use Rattle.resb_print.specs.Paths.{Step, Tests, first_found, first_cause, plain_tests}
use Rattle.resb_print.specs.Printed.{printed_bundle, plain_spelling}
use Rattle.resb_print.specs.Spelling.{Spelling}
use Rattle.resb_print.specs.declared.cause.Cause.{Cause}
use Rattle.resb_print.specs.declared.error.PrintError.TheVariants.{NotPrintable}
use Rattle.resb_print.proofs.Bundles as plain
use Rattle.resb_print.proofs.Tracing.{root_without_cause}
use Rattle.resb_icu_print.specs.Causes.{icu_tests}
use Rattle.resb_icu_print.specs.Printed.{icu_spelling}
use Rattle.resb_icu_print.proofs.Bundles as icu
use Rattle.resb_lines.specs.Lines.{lines_of}
use Rattle.resb_lines.specs.Printing.{printed_as, cause_in, IsTextOf, HasNoTextOf, IsHeldFor}
use Rattle.resb_lines.specs.Printing.{IsNotPrinted}
use Rattle.resb_lines.specs.declared.printing.Print.{Print}
use Rattle.resb_lines.specs.declared.printing.PrintForm.{PrintForm}
use Rattle.resb_lines.specs.declared.printing.PrintForm.TheVariants.{Plain, Icu, Json}

-- the lines of a bundle without a cause are a text of a form, since what is printed there is one
module _ (tests : Tests Cause) (f : Spelling) (IsText : Texts)
    (law : PrintedIsABundle tests f IsText) where
  lines_are_text : (name : List ℕ) (fallback : Bool) (t : Tree) (text : List ℕ)
      → first_found tests name t ≡ None → IsHeld t → text ≡ lines_of f name fallback t
      → (keys : List (List ℕ)) × IsText text name fallback t keys
  lines_are_text name fallback t text none held is =
      let no_cause : first_cause tests name t ≡ None = ap (option_map (λ f. f.1)) none in
      let (es, root) = root_without_cause tests name t no_cause in
      let (keys, b) = law name fallback es (subst IsHeld root held)
      (sym (ap (first_cause tests name) root) ∙ no_cause) in (
        keys,
        subst (λ (u : Tree). IsText text name fallback u keys) (sym root)
            (subst (λ w. IsText w name fallback (table es) keys)
            (sym (is ∙ ap (lines_of f name fallback) root)) b),
      )

-- so in each form
pub is_text : (form : PrintForm) (name : List ℕ) (fallback : Bool) (t : Tree) (text : List ℕ)
    → cause_in form name t ≡ None → IsHeldFor form t → text ≡ printed_as form name fallback t
    → IsTextOf form text name fallback t
is_text Plain name fallback t text none held is =
    lines_are_text plain_tests plain_spelling BundleText plain.printed_without_cause name fallback t
    text none held is
is_text Icu name fallback t text none held is =
    lines_are_text icu_tests icu_spelling IcuText icu.printed_without_cause name fallback t text
    none held is
is_text Json name fallback t text none held is = is

none_some : {A : Type 0} {x : A} → None ≡ Some x → ⊥
none_some e = absurd (cc)

-- a cause keeps each text of the form from having the bundle
pub has_no_text : (form : PrintForm) (name : List ℕ) (fallback : Bool) (t : Tree) (path : List Step)
    (x : Cause) → Some (path, x) ≡ cause_in form name t → HasNoTextOf form name fallback t
has_no_text Plain name fallback t path x e = λ text (keys, b).
    plain.no_text name fallback t x (ap (option_map (λ f. f.1)) (sym e)) text keys b
has_no_text Icu name fallback t path x e = λ text (keys, b).
    icu.no_text name fallback t x (ap (option_map (λ f. f.1)) (sym e)) text keys b
has_no_text Json name fallback t path x e = λ text is. none_some (sym e)

-- so a cause is why the bundle isn't printed
pub refuses : (p : Print) (name : List ℕ) (fallback : Bool) (t : Tree) (path : List Step) (x : Cause)
    → Some (path, x) ≡ cause_in p.form name t → IsNotPrinted p name fallback t (NotPrintable x)
refuses p name fallback t path x e =
    (ap (option_map (λ f. f.1)) (sym e), has_no_text p.form name fallback t path x e)
