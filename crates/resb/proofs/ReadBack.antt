-- A written file is read back as its tree, and so is a compiled text; a text of a bundle, in either
-- form, is read back as that bundle; and what isn't read as a tree denotes none.
use Rattle.std.proofs.Common.{◌⊎◌, ◌≤◌, ◌<◌, ◌≡◌, ℕ, Result, Ok, Err, inl, inr, Bool, true, false}
use Rattle.std.proofs.Common.{List, Option, Some, None, refl, sym, ap, ◌∙◌, subst, arith, ◌==◌}
use Rattle.std.specs.Prelude.{◌/◌, ◌%◌, ◌^◌, ◌&&◌, ◌||◌, nat_le, if◌then◌else◌}
use Rattle.std.specs.Result.{IfErr}
use Rattle.resb_tree.specs.declared.resource.Resource.{Resource}
use Rattle.resb_format.specs.Error.{IsWantOfMemory}
use Rattle.resb_head.specs.File.{parts_of}
use Rattle.resb_format.specs.Denotes.{Den}
use Rattle.resb_format.specs.declared.error.ReadingError.{ReadingError}
use Rattle.resb_read.specs.Reading.{LacksOrMemory}
use Rattle.resb_read.specs.Leaves.{CountsOf}
use Rattle.resb_read.specs.Resources.{DenPlace}
use Rattle.resb_read.specs.Roots.{Whole, HoldsAt}
use Rattle.resb_read.specs.WithPool.{over}
use Rattle.resb_tree.specs.Tree.{Tree, tree_count}
use Rattle.resb_format.proofs.Denoting.{unique}
use Rattle.resb_pool.specs.declared.packing.Packing.{Packing}
use Rattle.resb_pool.specs.declared.packing.Packing.TheVariants.{Plain}
use Rattle.resb_layout.specs.Written.{WrittenBy}
use Rattle.resb_pool_bundle.specs.Fields.{index_length, major, minor}
use Rattle.resb_pool_bundle.specs.Laws.{IsOwnFile}
use Rattle.resb_pool_bundle.specs.Pool.{Pool, parts_with}
use Rattle.resb_pool_bundle.proofs.OwnFiles.{own_files_denote_the_same}
use Rattle.resb_grammar.specs.BundleText.{BundleText}
use Rattle.resb_icu_grammar.specs.Bundle.{IcuText}
use Rattle.resb_text.specs.Answer.{IsNoBundle}
use Rattle.resb_text.specs.Refusal.{want_of_memory}
use Rattle.resb_icu_text.specs.Answer.{IsNoIcuText}
use Rattle.resb_icu_text.specs.Refusal as icu
use Rattle.resb_grammar.proofs.GrammarLaws.{one_bundle}
use Rattle.resb_grammar.proofs.NoAlias.{bundle_none}
use Rattle.resb_icu_grammar.proofs.Groups.{one_icu_text}
use Rattle.resb.specs.Laws.{WrittenIsRead, CompiledIsRead, TextIsRead}
use Rattle.resb.specs.Laws.{WrittenIsReadWithPool, WrittenOverPoolIsRead, CompiledByIsRead}
use Rattle.resb.specs.Laws.{ReadsAsTree, IsTree}
use Rattle.resb_write.specs.Layouts.{IsFileBy, pool_of}
use Rattle.resb_compile.specs.Compiling.{left_by}

pub written_is_read : WrittenIsRead
written_is_read q bytes t f ks (Ok r) none lacks w h =
    (unique (parts_of bytes) h.1.root.0 (w.alone none lacks).root).0
written_is_read q bytes t f ks (Err e) none lacks w (inl m) = m
written_is_read q bytes t f ks (Err e) none lacks w (inr no_tree) =
    let d = w.alone none lacks in
    absurd (no_tree (tree_count t) (record { head = d.head; root = (t, d.root) }) w.within_budget)

pub compiled_is_read : CompiledIsRead
compiled_is_read text bytes c r h =
    let b = c.bundle in
    let none = bundle_none text b.name b.fallback b.tree b.keys b.is in
    written_is_read Plain bytes b.tree b.fallback b.keys r none tt c.file h

-- the attributes of a written file tell no pool
no_second_bit : (b fallback : Bool)
    → ((if b then (if fallback then 0 else 1) else 0) / 2 % 2 == 1) ≡ false
no_second_bit true true = refl
no_second_bit true false = refl
no_second_bit false fallback = refl

no_third_bit : (b fallback : Bool)
    → ((if b then (if fallback then 0 else 1) else 0) / 4 % 2 == 1) ≡ false
no_third_bit true true = refl
no_third_bit true false = refl
no_third_bit false fallback = refl

-- a written file has nothing to do with pools
pub own_file : {q : Packing} {bytes : List ℕ} {t : Tree} {fallback : Bool} {ks : List (List ℕ)}
    → WrittenBy q bytes t fallback ks → IsOwnFile bytes
own_file {q} {bytes} {t} {fallback} {ks} w =
    let has = nat_le 6 (index_length bytes) && (nat_le 2 (major bytes) || nat_le 2 (minor bytes)) in
    let few : 7 < 2 ^ 8 = omega arith in
    record {
      version = w.tree.head.version;
      few = subst (λ n. n < 2 ^ 8) (sym w.index.fields) few;
      no_pool =
          ap (λ a. (if has then a else 0) / 2 % 2 == 1) w.index.no_fallback
          ∙ no_second_bit has fallback;
      uses_none =
          ap (λ a. (if has then a else 0) / 4 % 2 == 1) w.index.no_fallback
          ∙ no_third_bit has fallback;
    }

pub written_is_read_with_pool : WrittenIsReadWithPool
written_is_read_with_pool q pool bytes t f ks (Ok r) w h =
    let d = (own_files_denote_the_same pool bytes (own_file w) t (tree_count t)).0 w.tree in
    (unique (parts_with pool bytes) h.1.root.0 d.root).0
written_is_read_with_pool q pool bytes t f ks (Err e) w (inl m) = m
written_is_read_with_pool q pool bytes t f ks (Err e) w (inr lacks) =
    let d = (own_files_denote_the_same pool bytes (own_file w) t (tree_count t)).0 w.tree in
    absurd (lacks (tree_count t) (record { head = d.head; root = (t, d.root) }) w.within_budget)

pub written_over_pool_is_read : WrittenOverPoolIsRead
written_over_pool_is_read q pool bytes t f ks (Ok r) w h =
    (unique (parts_with (Some pool) bytes) h.1.root.0 w.tree.root).0
written_over_pool_is_read q pool bytes t f ks (Err e) w (inl m) = m
written_over_pool_is_read q pool bytes t f ks (Err e) w (inr lacks) =
    absurd (lacks (tree_count t) (record { head = w.tree.head; root = (t, w.tree.root) })
    w.within_budget)

-- a file that is laid out over a pool bundle or over none is read back beside that, or beside any
file_is_read : (q : Packing) (lent pool : Option Pool) (bytes : List ℕ) (t : Tree) (fallback : Bool)
    (ks : List (List ℕ)) (r : Result Resource ReadingError)
    → IsFileBy q lent bytes t fallback ks → (lent ≡ None) ⊎ (lent ≡ pool)
    → ReadsAsTree (over pool bytes) r → IsTree t r
file_is_read q None pool bytes t f ks r w is h =
    written_is_read_with_pool q pool bytes t f ks r w h
file_is_read q (Some lent) pool bytes t f ks r w (inl none) h =
    absurd (let no : Some lent ≡ None = none in cc)
file_is_read q (Some lent) pool bytes t f ks r w (inr is) h =
    written_over_pool_is_read q lent bytes t f ks r w
    (subst (λ p. ReadsAsTree (over p bytes) r) (sym is) h)

pub compiled_by_is_read : CompiledByIsRead
compiled_by_is_read way pool text bytes c r is h =
    let b = c.compiled.bundle in
    file_is_read way.layout.packing (pool_of way.layout) pool bytes (left_by way.rules b.tree)
    b.fallback b.keys r c.compiled.file is h

-- where no tree is counted, none is denoted
pub tree_or_none : (w : Whole)
    → ((t : Tree) (n : ℕ) → w.denotes t n → w.is_file × Den w.parts w.root t n)
    → (r : Result Resource ReadingError)
    → IfErr r (LacksOrMemory (λ n. HoldsAt (λ p. CountsOf DenPlace p n) w) w.budget)
    → IfErr r (λ e. IsWantOfMemory e
    ⊎ ((t : Tree) → ((n : ℕ) × w.denotes t n × (n ≤ w.budget)) → ⊥))
tree_or_none w stands (Ok r) h = tt
tree_or_none w stands (Err e) (inl m) = inl m
tree_or_none w stands (Err e) (inr lacks) =
    inr (λ t d.
    let s = stands t d.0 d.1 in
    lacks d.0 (record { head = s.0; root = (t, s.1) }) d.2)

pub bundle_text_is_read : TextIsRead BundleText IsNoBundle want_of_memory
bundle_text_is_read text name f t ks b (Ok r) h =
    let e = one_bundle text _ _ _ _ _ _ _ _ h b in
    (e.0, e.1, e.2)
bundle_text_is_read text name f t ks b (Err e) (inl m) = m
bundle_text_is_read text name f t ks b (Err e) (inr none) = absurd (none name f t ks b)

pub icu_text_is_read : TextIsRead IcuText IsNoIcuText icu.want_of_memory
icu_text_is_read text name f t ks b (Ok r) h =
    let e = one_icu_text text _ _ _ _ _ _ _ _ h b in
    (e.0, e.1, e.2)
icu_text_is_read text name f t ks b (Err e) (inl m) = m
icu_text_is_read text name f t ks b (Err e) (inr none) = absurd (none name f t ks b)
