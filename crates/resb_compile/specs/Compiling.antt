-- What a compiled text is, and why a text isn't compiled, for each way of compiling.
--     IsText form text name f t ks    the bundle that a text of this form is
--     IsReadWithin form limit text    the whole reading makes no more bytes than a limit
--     ReadsMore form limit text       some reading makes more
--     new form; compact, over, by_rules and within of a way     the ways of compiling
--     left_by rules t         what rules leave of a tree, if there are some
--     IsCompiledBy way text bytes     the bytes are a file of the text, made in this way
--     IsRefusedBy way text e  the error has its reason in the text
--     IsCompiled text bytes, IsRefused text e     the same of the plain form, with no option
use Rattle.std.specs.Prelude.{◌≡◌, ◌⊎◌, ℕ, List, Bool, Option, Some, None}
use Rattle.std.specs.Borrow.{Bor}
use Rattle.resb_tree.specs.Tree.{Tree}
use Rattle.resb_grammar.specs.BundleText.{BundleText}
use Rattle.resb_grammar.specs.Limit.{draft_limit, MadeWithin, MakesMore}
use Rattle.resb_icu_grammar.specs.Bundle.{IcuText}
use Rattle.resb_icu_grammar.specs.Limit.{IcuMadeWithin, IcuMakesMore}
use Rattle.resb_text.specs.Answer.{Fails, IsNoBundle}
use Rattle.resb_text.specs.Refusal as refusal
use Rattle.resb_text.specs.declared.error.TextParserError.{TextParserError}
use Rattle.resb_icu_text.specs.Answer.{IcuFails, IsNoIcuText}
use Rattle.resb_icu_text.specs.Refusal as icu_refusal
use Rattle.resb_icu_text.specs.declared.error.IcuTextError.{IcuTextError}
use Rattle.resb_filter.specs.Filtered.{filtered}
use Rattle.resb_filter.specs.View.{rules_of}
use Rattle.resb_filter.specs.declared.rules.Rules.{Rules}
use Rattle.resb_layout.specs.Written.{Written}
use Rattle.resb_pool_bundle.specs.declared.pool_bundle.PoolBundle.{PoolBundle}
use Rattle.resb_write.specs.Layouts.{plain, compacted, laid_over, IsFileOver, RefusesOver}
use Rattle.resb_compile.specs.Compiled.{TextBundle, Compiled, Unwritable}
use Rattle.resb_compile.specs.declared.compiling.TextForm.{TextForm}
use Rattle.resb_compile.specs.declared.compiling.TextForm.TheVariants.{Plain, Icu}
use Rattle.resb_compile.specs.declared.compiling.Compile.{Compile}
use Rattle.resb_compile.specs.declared.error.CompileError.{CompileError}
use Rattle.resb_compile.specs.declared.error.CompileError.TheVariants.{Reading, ReadingIcu}
use Rattle.resb_compile.specs.declared.error.CompileError.TheVariants.{Writing, Larger}

-- the text is a bundle in this form, of this name, flag, tree and keys
abbrev pub IsText : TextForm → List ℕ → List ℕ → Bool → Tree → List (List ℕ) → Type 0
IsText Plain text = BundleText text
IsText Icu text = IcuText text

-- the bundle that a text of this form is
abbrev pub IsBundle : TextForm → List ℕ → Type 0
IsBundle form text = TextBundle (IsText form text)

-- the whole reading of a text of this form makes no more bytes than the limit, if there is one,
-- counted as a draft's
abbrev pub IsReadWithin : TextForm → Option ℕ → List ℕ → Type 0
IsReadWithin form None text = Unit {0}
IsReadWithin Plain (Some limit) text = MadeWithin text (draft_limit limit)
IsReadWithin Icu (Some limit) text = IcuMadeWithin text (draft_limit limit)

-- there is a limit, and a reading of a text of this form comes to a token by which more bytes are
-- made, counted as a draft's
abbrev pub ReadsMore : TextForm → Option ℕ → List ℕ → Type 0
ReadsMore form None text = ⊥
ReadsMore Plain (Some limit) text = MakesMore text (draft_limit limit)
ReadsMore Icu (Some limit) text = IcuMakesMore text (draft_limit limit)

-- plain files over no pool bundle of texts of this form, with no rules and no limit
abbrev pub new : TextForm → Compile
new form = record { form = form; layout = plain; rules = None; limit = None }

-- the same way with compact files
abbrev pub compact : Compile → Compile
compact c = record { form = c.form; layout = compacted c.layout; rules = c.rules; limit = c.limit }

-- the same way over this pool bundle
abbrev pub over : Compile → Bor PoolBundle → Compile
over c pool =
    record { form = c.form; layout = laid_over c.layout pool; rules = c.rules; limit = c.limit }

-- the same way without what these rules leave out
abbrev pub by_rules : Compile → Bor Rules → Compile
by_rules c rules =
    record { form = c.form; layout = c.layout; rules = Some rules; limit = c.limit }

-- the same way within this limit of bytes
abbrev pub within : Compile → ℕ → Compile
within c limit =
    record { form = c.form; layout = c.layout; rules = c.rules; limit = Some limit }

-- what rules leave of a tree: all of it where there are none
abbrev pub left_by : Option (Bor Rules) → Tree → Tree
left_by None t = t
left_by (Some rules) t = filtered (rules_of rules.now) t

-- the text is a bundle of the way's form, which is read within the way's limit, and the bytes are
-- the file, laid out in this way, of what the way's rules leave of its tree, with its flag and keys
pub record IsCompiledBy (c : Compile) (text bytes : List ℕ) : Type 0 where
  pub within : IsReadWithin c.form c.limit text
  pub compiled : Compiled (IsText c.form text) (λ t. IsFileOver c.layout bytes (left_by c.rules t))

-- memory was wanted, or the text is no bundle, and a reading gets stuck at the error's place
pub record IsUnreadable (text : List ℕ) (e : TextParserError) : Type 0 where
  pub fails : Fails text e
  pub no_bundle : (e ≡ refusal.want_of_memory) ⊎ IsNoBundle text

-- memory was wanted, or the text is no bundle in ICU's form, and a reading gets stuck at the
-- error's place
pub record IsIcuUnreadable (text : List ℕ) (e : IcuTextError) : Type 0 where
  pub fails : IcuFails text e
  pub no_bundle : (e ≡ icu_refusal.want_of_memory) ⊎ IsNoIcuText text

-- why a text of this form isn't read within a limit, if there is one: the form's reader refuses it,
-- and no reading makes more bytes than the limit, unless memory was wanted; or a reading comes to a
-- token by which more are made, and the whole reading is not within the limit
abbrev pub IsUnread : TextForm → Option ℕ → List ℕ → CompileError → Type 0
IsUnread form limit text (Reading e) =
    (form ≡ Plain) × IsUnreadable text e
    × ((e ≡ refusal.want_of_memory) ⊎ (ReadsMore form limit text → ⊥))
IsUnread form limit text (ReadingIcu e) =
    (form ≡ Icu) × IsIcuUnreadable text e
    × ((e ≡ icu_refusal.want_of_memory) ⊎ (ReadsMore form limit text → ⊥))
IsUnread form limit text (Larger n) =
    (limit ≡ Some n) × ReadsMore form limit text × (IsReadWithin form limit text → ⊥)
IsUnread form limit text (Writing e) = ⊥

-- why a text isn't compiled in this way: it isn't read; or it is a bundle, no reading of which
-- makes more bytes than the limit, and the writer refuses what the rules leave of its tree
abbrev pub IsRefusedBy : Compile → List ℕ → CompileError → Type 0
IsRefusedBy c text (Writing e) =
    Unwritable (IsText c.form text) (λ t. RefusesOver c.layout (left_by c.rules t)) e
    × (ReadsMore c.form c.limit text → ⊥)
IsRefusedBy c text (Reading e) = IsUnread c.form c.limit text (Reading e)
IsRefusedBy c text (ReadingIcu e) = IsUnread c.form c.limit text (ReadingIcu e)
IsRefusedBy c text (Larger n) = IsUnread c.form c.limit text (Larger n)

-- the text is a bundle of the plain form, and the bytes are a written file of its tree, flag and
-- keys
abbrev pub IsCompiled : List ℕ → List ℕ → Type 0
IsCompiled text bytes = Compiled (BundleText text) (Written bytes)

-- why a text of the plain form isn't compiled with no option
abbrev pub IsRefused : List ℕ → CompileError → Type 0
IsRefused = IsRefusedBy (new Plain)
