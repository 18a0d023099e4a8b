-- Laws of what is written for a group.
use Rattle.std.proofs.Common.{◌≡◌, ℕ, true, List, ◌++◌, Some, None, subst, sym, ap, ◌∙◌}
use Rattle.std.specs.Prelude.{codes}
use Rattle.std.specs.Str.{IsUtf8}
use Rattle.std.specs.String.{string_bytes}
use Rattle.hex.specs.Hex.{encode_lower}
use Rattle.resb_icu_print.specs.Printed.{piece_on}
use Rattle.resb_print.specs.Printed.{quoted_on}
use Rattle.resb_icu_files.specs.Inner.Making.{WriteFails, IsWithoutRules}
use Rattle.resb_icu_files.specs.Ways.{bytes_named, takes_text}
use Rattle.resb_icu_files.specs.Writing.{Written, a_dependency, a_text, some_bytes, behind_mark}
use Rattle.resb_icu_files.specs.Writing.{HasFault, Fault, no_text, not_a_text, not_rules, fault_of}
use Rattle.resb_icu_files.specs.Writing.{said_of}
use Rattle.resb_icu_files.specs.declared.error.FilesError.{FilesError}
use Rattle.resb_icu_files.specs.declared.error.FilesError.TheVariants as fails
use Rattle.resb_icu_files.specs.declared.file.TextFile.{TextFile}
use Rattle.resb_icu_files.specs.declared.file.FileNamed.{FileNamed}
use Rattle.resb_icu_files.specs.declared.way.Way.{Way}
use Rattle.resb_icu_files.specs.declared.way.Way.TheVariants as way

-- a file has no text
pub text_lacks : (files : List TextFile) (name bytes behind : List ℕ) (kind : Way)
    → takes_text kind ≡ true → bytes_named files name ≡ Some bytes → behind ≡ behind_mark bytes
    → (IsUtf8 behind → ⊥) → HasFault files name kind no_text
text_lacks files name bytes behind kind takes found same never =
    not_a_text bytes takes found (λ u. never (subst (λ (l : List ℕ). IsUtf8 l) (sym same) u))

-- what a group takes of a file's text is written
pub said_written : (files : List TextFile) (inside name bytes text said out : List ℕ) (kind : Way)
    → takes_text kind ≡ true → bytes_named files name ≡ Some bytes
    → (text ≡ behind_mark bytes) × IsUtf8 (behind_mark bytes) → Some said ≡ said_of kind text
    → out ≡ codes ":string{" ++ piece_on said (codes "}") → Written files inside name kind out
said_written files inside name bytes text said out kind takes found is left same =
    subst (λ (l : List ℕ). Written files inside name kind l) (sym same)
    (a_text kind bytes said takes found is.1 (sym (left ∙ ap (λ l. said_of kind l) is.0)))

-- a file has no rules
pub rules_lack : (files : List TextFile) (name bytes text : List ℕ) (kind : Way)
    → takes_text kind ≡ true → bytes_named files name ≡ Some bytes
    → (text ≡ behind_mark bytes) × IsUtf8 (behind_mark bytes) → None ≡ said_of kind text
    → HasFault files name kind (fault_of kind)
rules_lack files name bytes text kind takes found is none =
    not_rules bytes takes found is.1 (sym (none ∙ ap (λ l. said_of kind l) is.0))

-- which is said by the error of the group's type
pub rules_fail : (files : List TextFile) (name : List ℕ) (kind : Way) (at : ℕ) (file : FileNamed)
    (e : FilesError) → HasFault files name kind (fault_of kind) → file.place ≡ at
    → string_bytes file.name ≡ name → IsWithoutRules kind file e → WriteFails files name kind at e
rules_fail files name kind at file (fails.NoRules f) has place named is = (
  subst (λ (x : Fault). HasFault files name kind x) is.0 has,
  ap (λ (g : FileNamed). g.place) is.1 ∙ place,
  ap (λ (g : FileNamed). string_bytes g.name) is.1 ∙ named,
)
rules_fail files name kind at file (fails.NoCollationRules f) has place named is = (
  subst (λ (x : Fault). HasFault files name kind x) is.0 has,
  ap (λ (g : FileNamed). g.place) is.1 ∙ place,
  ap (λ (g : FileNamed). string_bytes g.name) is.1 ∙ named,
)
rules_fail files name kind at file (fails.Missing f) has place named is = absurd is
rules_fail files name kind at file (fails.NotUtf8 f) has place named is = absurd is
rules_fail files name kind at file fails.OutOfMemory has place named is = absurd is

-- a dependency's string is written
pub dependency_written : (files : List TextFile) (inside name out : List ℕ) (kind : Way)
    → kind ≡ way.Dependency → out ≡ codes ":string{" ++ (inside ++ codes "}")
    → Written files inside name kind out
dependency_written files inside name out kind is said =
    subst (λ (k : Way). Written files inside name k out) (sym is)
    (subst (λ (l : List ℕ). Written files inside name way.Dependency l) (sym said) a_dependency)

-- a file's bytes are written
pub bytes_written : (files : List TextFile) (inside name bytes out : List ℕ) (kind : Way)
    → kind ≡ way.Import → bytes_named files name ≡ Some bytes
    → out ≡ codes ":bin{" ++ quoted_on (encode_lower bytes) (codes "}")
    → Written files inside name kind out
bytes_written files inside name bytes out kind is found said =
    subst (λ (k : Way). Written files inside name k out) (sym is)
    (subst (λ (l : List ℕ). Written files inside name way.Import l) (sym said)
    (some_bytes bytes found))
