-- The text that was printed is that of the file's bundle.
use Rattle.std.proofs.Common.{◌≡◌, ◌≤◌, ℕ, List, Bool, Option, Some, length, subst}
use Rattle.std.specs.Prelude.{IfSome, IsUtf8}
use Rattle.resb_tree.specs.Bundle.{name_of, root_of}
use Rattle.resb_tree.specs.Tree.{Tree}
use Rattle.resb_tree.specs.declared.bundle.ResourceBundle.{ResourceBundle}
use Rattle.resb_print.specs.declared.error.PrintError.{PrintError}
use Rattle.resb_lines.specs.Printing.{printed_as, IsNotPrinted, IsTextOf}
use Rattle.resb_lines.specs.declared.printing.Print.{Print}
use Rattle.resb_lines.specs.declared.printing.PrintForm.{PrintForm}
use Rattle.resb_c.specs.Dumping.{print_of, HasNoBundle, HasNoDump, HasNoText, IsDump, IsDumped}
use Rattle.resb_c.specs.Dumping.{IsBundleToDump}
use Rattle.resb_c.specs.Options.{limit_in, print_form_in}
use Rattle.resb_c.specs.declared.fault.Fault.{Fault}
use Rattle.resb_c.specs.declared.fault.Fault.TheVariants as fault
use Rattle.resb_c.specs.declared.options.ResbOptions.{ResbOptions}

module _ (o : ResbOptions) (file : List ℕ) where
  -- no bundle is had, so there is no text
  pub no_text : (f : Fault) → IsUtf8 o.name.now → HasNoBundle o.pool.now file (limit_in o) f
      → HasNoText o file f
  no_text fault.UsesPool is h = (is, h)
  no_text (fault.Pool e) is h = (is, h)
  no_text (fault.Reading e) is h = (is, h)
  no_text (fault.Larger n most) is h = (is, h)
  no_text (fault.LongKeys n most) is h = (is, h)
  no_text (fault.TooShort n) is h = absurd h
  no_text (fault.NotUtf8 n) is h = absurd h
  no_text (fault.Compiling e) is h = absurd h
  no_text fault.NotFound is h = absurd h
  no_text fault.OtherKind is h = absurd h
  no_text (fault.Printing e) is h = absurd h
  no_text (fault.Zone e) is h = absurd h
  no_text (fault.Swapping e) is h = absurd h
  no_text fault.BadOptions is h = absurd h

  -- so where the limit is that of the options
  pub no_text_within : (f : Fault) (limit : Option ℕ) → limit ≡ limit_in o → IsUtf8 o.name.now
      → HasNoBundle o.pool.now file limit f → HasNoText o file f
  no_text_within f limit l is h =
      no_text f is (subst (λ most. HasNoBundle o.pool.now file most f) l h)

  module _ (form : PrintForm) (asked : print_form_in o ≡ Some form) (b : ResourceBundle)
      (own : List ℕ) (limit : Option ℕ) (m : own ≡ o.name.now) (l : limit ≡ limit_in o)
      (named : IsUtf8 o.name.now) (had : IsBundleToDump o.pool.now file own limit b) where
    -- the bundle is the file's, under the name of the options
    dumped : IsDumped o file b
    dumped = record {
      named = named;
      of_file = subst (λ most. IsBundleToDump o.pool.now file o.name.now most b) l
          (subst (λ n. IsBundleToDump o.pool.now file n limit b) m had);
    }

    module _ (p : Print) (name : List ℕ) (flag : Bool) (t : Tree) (is : p ≡ print_of o form)
        (n : name ≡ name_of b) (f : flag ≡ b.is_locale_fallback_enabled) (r : t ≡ root_of b) where
      -- what is so of what is printed is so of the bundle
      of_bundle : (P : Print → List ℕ → Bool → Tree → Type 0) → P p name flag t
          → P (print_of o form) (name_of b) b.is_locale_fallback_enabled (root_of b)
      of_bundle P h =
          subst (P (print_of o form) (name_of b) b.is_locale_fallback_enabled) r
          (subst (λ x. P (print_of o form) (name_of b) x t) f
          (subst (λ x. P (print_of o form) x flag t) n (subst (λ x. P x name flag t) is h)))

      -- the text that was printed is that of the bundle
      pub is_dump : (text : List ℕ) → text ≡ printed_as p.form name flag t
          → IsTextOf p.form text name flag t → IfSome p.limit (λ most. length text ≤ most)
          → IsDump o file text
      is_dump text exact texts fits = record {
        form = form;
        asked = asked;
        bundle = b;
        dumped = dumped;
        exact = of_bundle (λ q x y u. text ≡ printed_as q.form x y u) exact;
        texts = of_bundle (λ q x y u. IsTextOf q.form text x y u) texts;
        fits = of_bundle (λ q x y u. IfSome q.limit (λ most. length text ≤ most)) fits;
      }

      -- or it isn't printed
      pub has_no_dump : (e : PrintError) → IsNotPrinted p name flag t e → HasNoDump o file e
      has_no_dump e none = record {
        form = form;
        asked = asked;
        bundle = b;
        dumped = dumped;
        none = of_bundle (λ q x y u. IsNotPrinted q x y u e) none;
      }
