-- What the laws of the whole way say.
--     ReadsAsTree w r         what `from_bytes::<Resource>` and `File::read::<Resource>` promise of
--                             their answers, by what the file comes to
--     WrittenIsRead           a file of a tree is read back as that tree, memory aside
--     WrittenIsReadWithPool   so it is by the calls that take a pool, aliases too
--     WrittenOverPoolIsRead   a file over a pool is read back beside it, memory aside
--     PlainIsCompiled         what is compiled with no option is a compiled text
--     CompiledIsRead          a compiled text is read back as its tree, memory aside
--     CompiledByIsRead        so is a text that is compiled in any way
--     TextIsRead IsText IsNone e      a text of a form's bundle is read back as that bundle, unless
--                             memory is wanted, which the error e says
use Rattle.std.specs.Prelude.{◌≡◌, ◌≤◌, ◌⊎◌, ℕ, Bool, false, List, Option, Some, None, Result}
use Rattle.std.specs.Prelude.{Ok, Err}
use Rattle.std.specs.declared.vec.Vec.{Vec}
use Rattle.std.specs.declared.alloc.Global.{Global}
use Rattle.resb_tree.specs.Aliases.{has_alias}
use Rattle.resb_tree.specs.Tree.{Tree}
use Rattle.resb_tree.specs.View.{tree_of}
use Rattle.resb_tree.specs.Bundle.{name_of, root_of}
use Rattle.resb_tree.specs.declared.bundle.ResourceBundle.{ResourceBundle}
use Rattle.resb_tree.specs.declared.key.Key.{Key}
use Rattle.resb_tree.specs.declared.resource.Resource.{Resource}
use Rattle.resb_grammar.specs.BundleText.{BundleText}
use Rattle.resb_grammar.specs.Laws.{Texts}
use Rattle.resb_icu_grammar.specs.Bundle.{IcuText}
use Rattle.resb_format.specs.Error.{IsWantOfMemory}
use Rattle.resb_format.specs.declared.error.ReadingError.{ReadingError}
use Rattle.resb_read.specs.Reading.{LacksOrMemory}
use Rattle.resb_read.specs.Leaves.{CountsOf}
use Rattle.resb_read.specs.Resources.{DenPlace, ReadsTree}
use Rattle.resb_pool_bundle.specs.Pool.{Pool}
use Rattle.resb_read.specs.Roots.{HoldsAt, Whole, alone}
use Rattle.resb_read.specs.WithPool.{over}
use Rattle.resb_pool.specs.declared.packing.Packing.{Packing}
use Rattle.resb_layout.specs.Written.{WrittenBy, LacksEmpty}
use Rattle.resb_write.specs.WrittenWith.{WrittenWithBy}
use Rattle.resb_write.specs.Layouts.{pool_of}
use Rattle.resb_compile.specs.Compiling.{IsCompiled, IsCompiledBy, left_by, new}
use Rattle.resb_compile.specs.declared.compiling.Compile.{Compile}
use Rattle.resb_compile.specs.declared.compiling.TextForm.TheVariants.{Plain}

-- what reading a file as a tree promises: a tree at the root, paid for, or memory, or no such tree
abbrev pub ReadsAsTree : Whole → Result Resource ReadingError → Type 0
ReadsAsTree w (Ok r) = (n : ℕ) × HoldsAt (λ p. ReadsTree p r n) w × (n ≤ w.budget)
ReadsAsTree w (Err e) =
    LacksOrMemory (λ n. HoldsAt (λ p. CountsOf DenPlace p n) w) w.budget e

-- the answer is this tree, or memory was wanted
abbrev pub IsTree : Tree → Result Resource ReadingError → Type 0
IsTree t (Ok r) = tree_of r ≡ t
IsTree t (Err e) = IsWantOfMemory e

-- what was written of a tree without aliases, and without an empty string where the file is
-- compact, is read back as that tree, whoever wrote the file and in whatever order its keys were
-- listed
abbrev pub WrittenIsRead : Type 0
WrittenIsRead =
    (q : Packing) (bytes : List ℕ) (t : Tree) (fallback : Bool) (ks : List (List ℕ))
    (r : Result Resource ReadingError)
    → has_alias t ≡ false → LacksEmpty q t → WrittenBy q bytes t fallback ks
    → ReadsAsTree (alone bytes) r → IsTree t r

-- what was written of any tree, compact or not, is read back as that tree by the calls that take a
-- pool bundle, whether one is given or not
abbrev pub WrittenIsReadWithPool : Type 0
WrittenIsReadWithPool =
    (q : Packing) (pool : Option Pool) (bytes : List ℕ) (t : Tree) (fallback : Bool)
    (ks : List (List ℕ)) (r : Result Resource ReadingError)
    → WrittenBy q bytes t fallback ks → ReadsAsTree (over pool bytes) r → IsTree t r

-- what was written of any tree over a pool bundle, compact or not, is read back as that tree by the
-- calls that are given this pool bundle
abbrev pub WrittenOverPoolIsRead : Type 0
WrittenOverPoolIsRead =
    (q : Packing) (pool : Pool) (bytes : List ℕ) (t : Tree) (fallback : Bool) (ks : List (List ℕ))
    (r : Result Resource ReadingError)
    → WrittenWithBy q pool bytes t fallback ks → ReadsAsTree (over (Some pool) bytes) r
    → IsTree t r

-- the file that is compiled of a text of the plain form, with no option, is a written file of the
-- bundle that the text is
abbrev pub PlainIsCompiled : Type 0
PlainIsCompiled =
    (text bytes : List ℕ) → IsCompiledBy (new Plain) text bytes → IsCompiled text bytes

-- whatever reads a compiled file as a tree answers the text's tree, memory aside
abbrev pub CompiledIsRead : Type 0
CompiledIsRead =
    (text bytes : List ℕ) (c : IsCompiled text bytes) (r : Result Resource ReadingError)
    → ReadsAsTree (alone bytes) r → IsTree c.bundle.tree r

-- whatever reads a file that was compiled in this way as a tree, by the calls that take a pool
-- bundle, answers what the way's rules leave of the text's tree, memory aside: given the way's pool
-- bundle, or any or none where the way has none
abbrev pub CompiledByIsRead : Type 0
CompiledByIsRead =
    (way : Compile) (pool : Option Pool) (text bytes : List ℕ) (c : IsCompiledBy way text bytes)
    (r : Result Resource ReadingError) → (pool_of way.layout ≡ None) ⊎ (pool_of way.layout ≡ pool)
    → ReadsAsTree (over pool bytes) r → IsTree (left_by way.rules c.compiled.bundle.tree) r

-- what reading a text promises: the bundle that it is, or want of memory, or that it is none
abbrev pub ReadsAsBundle : {E : Type 0} → Texts → (List ℕ → Type 0) → E → List ℕ
    → Result (ResourceBundle × Vec Key Global) E → Type 0
ReadsAsBundle IsText IsNone memory text (Ok r) =
    IsText text (name_of r.0) r.0.is_locale_fallback_enabled (root_of r.0) r.1.items
ReadsAsBundle IsText IsNone memory text (Err e) = (e ≡ memory) ⊎ IsNone text

-- the answer is a bundle of this name, flag and tree, or memory was wanted
abbrev pub IsBundleOf : {E : Type 0} → List ℕ → Bool → Tree → E
    → Result (ResourceBundle × Vec Key Global) E → Type 0
IsBundleOf name fallback t memory (Ok r) =
    (name_of r.0 ≡ name) × (r.0.is_locale_fallback_enabled ≡ fallback) × (root_of r.0 ≡ t)
IsBundleOf name fallback t memory (Err e) = e ≡ memory

-- whatever reads a text of a form's bundle answers that bundle, memory aside
abbrev pub TextIsRead : {E : Type 0} → Texts → (List ℕ → Type 0) → E → Type 0
TextIsRead {E} IsText IsNone memory =
    (text name : List ℕ) (fallback : Bool) (t : Tree) (keys : List (List ℕ))
    → IsText text name fallback t keys
    → (r : Result (ResourceBundle × Vec Key Global) E) → ReadsAsBundle IsText IsNone memory text r
    → IsBundleOf name fallback t memory r
