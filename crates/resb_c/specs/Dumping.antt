-- What printing a file's tree to a buffer answers, beside the bytes of a pool bundle.
--     IsBundleToDump pool file name limit b  the bundle is the file's tree, under that name
--     print_of o form                        how the options have a bundle printed in a form
--     DumpsInto o file old new r             what printing it to a buffer answers, and leaves there
use Rattle.std.specs.Prelude.{◌≡◌, ◌≤◌, ℕ, List, length, Option, Some, None, Result, Ok, Err}
use Rattle.std.specs.Prelude.{IfSome, IsUtf8}
use Rattle.resb_tree.specs.Bundle.{name_of, root_of}
use Rattle.resb_tree.specs.declared.bundle.ResourceBundle.{ResourceBundle}
use Rattle.resb_print.specs.declared.error.PrintError.{PrintError}
use Rattle.resb_lines.specs.Printing.{printed_as, IsNotPrinted, IsTextOf}
use Rattle.resb_lines.specs.declared.printing.Print.{Print}
use Rattle.resb_lines.specs.declared.printing.PrintForm.{PrintForm}
use Rattle.resb_read.specs.WithPool.{over}
use Rattle.resb_program.specs.Files.{LacksPool, RefusesReading, IsBundleOf, RefusesSize}
use Rattle.resb_program.specs.declared.errors.FileError.TheVariants as file_error
use Rattle.resb_c.specs.Calls.{Fills, IsNotUtf8}
use Rattle.resb_c.specs.Options.{limit_in, print_form_in}
use Rattle.resb_c.specs.Pools.{given, IsGiven, RefusesPool}
use Rattle.resb_c.specs.declared.fault.Fault.{Fault}
use Rattle.resb_c.specs.declared.fault.Fault.TheVariants.{TooShort, NotUtf8, Reading, UsesPool}
use Rattle.resb_c.specs.declared.fault.Fault.TheVariants.{Pool, Larger, LongKeys, BadOptions}
use Rattle.resb_c.specs.declared.fault.Fault.TheVariants.{Printing}
use Rattle.resb_c.specs.declared.options.ResbOptions.{ResbOptions}

-- the bundle has this name, the file's tree beside the pool bundle of these bytes, which takes no
-- more bytes than the limit, if there is one, nor do the keys of its entries, and the fallback flag
-- of the file's head
abbrev pub IsBundleToDump : List ℕ → List ℕ → List ℕ → Option ℕ → ResourceBundle → Type 0
IsBundleToDump pool file name limit b =
    IsGiven pool × IsBundleOf (over (given pool) file) file name limit b

-- the bytes are no pool bundle, the file lacks one, the reader refuses it, or its tree or the keys
-- of its entries take so many bytes, more than the limit
abbrev pub HasNoBundle : List ℕ → List ℕ → Option ℕ → Fault → Type 0
HasNoBundle pool file limit UsesPool = LacksPool (given pool) file
HasNoBundle pool file limit (Pool e) = RefusesPool pool e
HasNoBundle pool file limit (Reading e) = IsGiven pool × RefusesReading (given pool) file e
HasNoBundle pool file limit (Larger n most) =
    IsGiven pool × RefusesSize (over (given pool) file) limit (file_error.Larger n most)
HasNoBundle pool file limit (LongKeys n most) =
    IsGiven pool × RefusesSize (over (given pool) file) limit (file_error.LongKeys n most)
HasNoBundle pool file limit _ = ⊥

-- a bundle is printed in a form, within the limit of the options, if they set one
abbrev pub print_of : ResbOptions → PrintForm → Print
print_of o form = record { form = form; limit = limit_in o }

-- a file's bundle, under the name of the options, which is UTF-8
pub record IsDumped (o : ResbOptions) (file : List ℕ) (b : ResourceBundle) : Type 0 where
  pub named : IsUtf8 o.name.now
  pub of_file : IsBundleToDump o.pool.now file o.name.now (limit_in o) b

-- the text is what the file's bundle is printed as in the form of the options, so that it is a text
-- of that bundle in this form; and it has no more bytes than their limit, if they set one
pub record IsDump (o : ResbOptions) (file text : List ℕ) : Type 0 where
  pub form : PrintForm
  pub asked : print_form_in o ≡ Some form
  pub bundle : ResourceBundle
  pub dumped : IsDumped o file bundle
  pub exact : text ≡ printed_as form (name_of bundle) bundle.is_locale_fallback_enabled
      (root_of bundle)
  pub texts : IsTextOf form text (name_of bundle) bundle.is_locale_fallback_enabled
      (root_of bundle)
  pub fits : IfSome (limit_in o) (λ most. length text ≤ most)

-- why the file's bundle isn't printed in the form of the options
pub record HasNoDump (o : ResbOptions) (file : List ℕ) (e : PrintError) : Type 0 where
  pub form : PrintForm
  pub asked : print_form_in o ≡ Some form
  pub bundle : ResourceBundle
  pub dumped : IsDumped o file bundle
  pub none : IsNotPrinted (print_of o form) (name_of bundle) bundle.is_locale_fallback_enabled
      (root_of bundle) e

-- why there is no text to print: the options, then the name, then the pool bundle and the file are
-- refused; or the bundle isn't printed
abbrev pub HasNoText : ResbOptions → List ℕ → Fault → Type 0
HasNoText o file BadOptions = print_form_in o ≡ None
HasNoText o file (NotUtf8 n) = IsNotUtf8 o.name.now n
HasNoText o file (Printing e) = HasNoDump o file e
HasNoText o file fault =
    IsUtf8 o.name.now × HasNoBundle o.pool.now file (limit_in o) fault

-- a text of the file's bundle is in the buffer, or would be if it had room; or there is none, and
-- the buffer is as it was
abbrev pub DumpsInto : ResbOptions → List ℕ → List ℕ → List ℕ → Result ℕ Fault → Type 0
DumpsInto o file old new (Ok n) =
    (text : List ℕ) × IsDump o file text × Fills text old new (Ok n)
DumpsInto o file old new (Err (TooShort n)) =
    (text : List ℕ) × IsDump o file text × Fills text old new (Err n)
DumpsInto o file old new (Err fault) = HasNoText o file fault × (new ≡ old)
