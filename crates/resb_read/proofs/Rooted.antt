-- What is answered at the place of a root, as what the file comes to.
use Rattle.std.proofs.Common.{ℕ, List, ◌≡◌, ◌≤◌, ◌+◌, inl, inr, Result, Ok, Err, Some, None}
use Rattle.std.proofs.Common.{subst, sym, refl, ap, ◌∙◌, arith}
use Rattle.std.specs.Prelude.{◌-◌}
use Rattle.std.specs.Result.{IfOk, IfErr}
use Rattle.resb_tree.specs.Tree.{Tree}
use Rattle.resb_tree.specs.declared.resource.Resource.{Resource}
use Rattle.resb_format.specs.Denotes.{Den}
use Rattle.resb_format.specs.Error.{Refusal}
use Rattle.resb_format.specs.Parts.{parts_in}
use Rattle.resb_format.specs.declared.error.ReadingError.{ReadingError}
use Rattle.resb_head.specs.File.{IsBundleFile}
use Rattle.resb_head.specs.HeadChecks.{file_refusal}
use Rattle.resb_head.specs.declared.checked_file.CheckedFile.{CheckedFile}
use Rattle.resb_head.proofs.FileSteps.{bundle_file_passes}
use Rattle.resb_walk.specs.Meets.{Blames}
use Rattle.resb_walk.specs.Refusals.{Refuses}
use Rattle.resb_read.specs.Inner.AtRoot.{IsRoot, RefusesHere, TreeHere, CountHere}
use Rattle.resb_read.specs.Places.{Place, place_of}
use Rattle.resb_read.specs.Reading.{LacksOrMemory}
use Rattle.resb_read.specs.Resources.{DenPlace, ReachesPlace, ReadsTree, MeetsPlace}
use Rattle.resb_read.specs.Roots.{Whole, alone, place_of_root, HoldsAt, RefusesAt, RefusesWhole}
use Rattle.resb_read.specs.Roots.{OpensRoot, AnswersTreeOf, AnswersCountOf}
use Rattle.resb_read.specs.declared.cursor.Cursor.{Cursor}
use Rattle.resb_read.specs.declared.cursor.Spot.TheVariants as spot

-- what the words of a whole file have to do with one another
pub record IsLinked (w : Whole) : Type 0 where
  pub passes : w.refusal ≡ None → w.is_file
  pub holds : w.is_file → w.refusal ≡ None
  pub denotes : (t : Tree) (n : ℕ) → w.is_file → Den w.parts w.root t n → w.denotes t n
  pub heads : (t : Tree) (n : ℕ) → w.denotes t n → w.is_file
  pub roots : (t : Tree) (n : ℕ) → w.denotes t n → Den w.parts w.root t n

-- of a file that is read alone
pub alone_linked : (bytes : List ℕ) → IsLinked (alone bytes)
alone_linked bytes = record {
  passes = (bundle_file_passes bytes).0;
  holds = (bundle_file_passes bytes).1;
  denotes = λ t n h d. record { head = h; root = d };
  heads = λ t n d. d.head;
  roots = λ t n d. d.root;
}

-- what has a fault in its head is no file
pub no_file : (w : Whole) (f : Refusal) → IsLinked w → w.refusal ≡ Some f → w.is_file → ⊥
no_file w f l e h = let k : w.refusal ≡ None = l.holds h in apart e k
  where
    apart : w.refusal ≡ Some f → w.refusal ≡ None → ⊥
    apart a b = cc

-- a file with a fault is no bundle
pub no_bundle : (bytes : List ℕ) (f : Refusal) → file_refusal bytes ≡ Some f → IsBundleFile bytes
    → ⊥
no_bundle bytes f e h = no_file (alone bytes) f (alone_linked bytes) e h

-- a cursor at the root of the parts of a file
pub opened : (w : Whole) (f : CheckedFile) (s : Cursor × ℕ) → w.refusal ≡ None
    → parts_in f.file ≡ w.parts → f.root ≡ w.root
    → place_of s.0 ≡ record { parts = parts_in f.file; at = spot.Descriptor f.root }
    → s.1 ≡ w.budget → OpensRoot w (Ok s)
opened w f s none parts root place all = (
  none,
  place
      ∙ ap (λ p. record { parts = p; at = spot.Descriptor f.root }) parts
      ∙ ap (λ r. record { parts = w.parts; at = spot.Descriptor r }) root,
  all,
)

-- this holds of the place of the root
pub holds_there : (P : Place → Type 0) (w : Whole) (p : Place) → IsLinked w → w.refusal ≡ None
    → p ≡ place_of_root w → P p → HoldsAt P w
holds_there P w p l none same h = record { head = l.passes none; root = subst P same h }

-- a root is at a descriptor
pub root_stands : (w : Whole) (p : Place) → p ≡ place_of_root w → IsRoot p
root_stands w p same = subst IsRoot (sym same) (w.root, refl)

-- a value that is read at the root
pub read_there : {X : Type 0} (reads : Place → X → ℕ → Type 0) (w : Whole) (p : Place) (left : ℕ)
    (r : Result (X × ℕ) ReadingError)
    → IsLinked w → w.refusal ≡ None → p ≡ place_of_root w → left ≡ w.budget
    → IfOk r (λ x. reads p x.0 x.1 × (x.1 ≤ left))
    → IfOk r (λ x. HoldsAt (λ q. reads q x.0 x.1) w × (x.1 ≤ w.budget))
read_there reads w p left (Ok x) l none same all (h, fits) =
    (holds_there (λ q. reads q x.0 x.1) w p l none same h, omega (arith, all, fits))
read_there reads w p left (Err e) l none same all h = tt

-- no count that can be paid for stands at the root
pub lacks_there : {X : Type 0} (counts : Place → ℕ → Type 0) (w : Whole) (p : Place) (left : ℕ)
    (r : Result X ReadingError) → p ≡ place_of_root w → left ≡ w.budget
    → IfErr r (LacksOrMemory (counts p) left)
    → IfErr r (LacksOrMemory (λ n. HoldsAt (λ q. counts q n) w) w.budget)
lacks_there counts w p left (Ok x) same all h = tt
lacks_there counts w p left (Err e) same all (inl m) = inl m
lacks_there counts w p left (Err e) same all (inr lacks) =
    inr (λ n h paid. lacks n (subst (λ q. counts q n) (sym same) h.root) (omega (arith, all, paid)))

-- what a type answers at the root
pub refused_there : {X : Type 0} (refuses : Place → ℕ → ℕ → ReadingError → Type 0) (w : Whole)
    (p : Place) (left : ℕ) (r : Result X ReadingError)
    → IsLinked w → w.refusal ≡ None → p ≡ place_of_root w → left ≡ w.budget
    → IfErr r (λ e. (left' : ℕ) × refuses p left left' e) → IfErr r (RefusesAt refuses w)
refused_there refuses w p left (Ok x) l none same all h = tt
refused_there refuses w p left (Err e) l none same all (left', h) =
    inr (
      left',
      holds_there (λ q. refuses q w.budget left' e) w p l none same
          (subst (λ n. refuses p n left' e) all h),
    )

-- where the head has a fault no count stands at the root
pub lacking_head : (counts : Place → ℕ → Type 0) (w : Whole) (f : Refusal) (e : ReadingError)
    → IsLinked w → w.refusal ≡ Some f → LacksOrMemory (λ n. HoldsAt (λ q. counts q n) w) w.budget e
lacking_head counts w f e l fault = inr (λ n h paid. no_file w f l fault h.head)

pub refused_root : (w : Whole) (p : Place) (left : ℕ) (e : ReadingError)
    → IsLinked w → w.refusal ≡ None → p ≡ place_of_root w → left ≡ w.budget
    → RefusesHere p left e → RefusesWhole w e
refused_root w p left e l none same all (h, met) =
    inr (
      l.passes none,
      subst (λ n. Refuses (DenPlace (place_of_root w)) (ReachesPlace (place_of_root w)) n e) all
          (subst (λ q. Refuses (DenPlace q) (ReachesPlace q) left e) same h),
      subst (λ q. Blames (MeetsPlace q) e) same met,
    )

-- what is denoted at the root is what the file denotes
pub denoted_root : (w : Whole) (p : Place) (t : Tree) (n : ℕ) → IsLinked w → w.refusal ≡ None
    → p ≡ place_of_root w → DenPlace p t n → w.denotes t n
denoted_root w p t n l none same d =
    l.denotes t n (l.passes none) (subst (λ q. DenPlace q t n) same d)

pub tree_root : (w : Whole) (p : Place) (left : ℕ) (r : Result Resource ReadingError)
    → IsLinked w → w.refusal ≡ None → p ≡ place_of_root w → left ≡ w.budget
    → TreeHere p left r → AnswersTreeOf w r
tree_root w p left (Ok x) l none same all (n, (d, b), paid) =
    (n, denoted_root w p _ n l none same d, omega (arith, all, paid), b)
tree_root w p left (Err e) l none same all h = refused_root w p left e l none same all h

pub count_root : (w : Whole) (p : Place) (left : ℕ) (r : Result ℕ ReadingError)
    → IsLinked w → w.refusal ≡ None → p ≡ place_of_root w → left ≡ w.budget
    → CountHere p left r → AnswersCountOf w r
count_root w p left (Ok n) l none same all (t, d, paid) =
    (t, denoted_root w p t n l none same d, omega (arith, all, paid))
count_root w p left (Err e) l none same all h = refused_root w p left e l none same all h

-- what the reading of a tree answers, which takes what it costs from what is left
pub tree_here : (p : Place) (left left' : ℕ) (r : Result Resource ReadingError)
    → IfOk r (λ x. (n : ℕ) × ReadsTree p x n × (left' + n ≡ left))
    → IfErr r (λ e. (left' ≤ left) × Refuses (DenPlace p) (ReachesPlace p) left e)
    → IfErr r (Blames (MeetsPlace p)) → TreeHere p left r
tree_here p left left' (Ok x) (n, h, paid) refused met = (n, h, omega (arith, paid))
tree_here p left left' (Err e) read (falls, r) met = (r, met)

-- what was taken from what was left is the count
pub count_here : (p : Place) (left left' : ℕ) (t : Tree) (n : ℕ) → DenPlace p t n
    → left' + n ≡ left → CountHere p left (Ok (left - left'))
count_here p left left' t n d paid =
    let e : n ≡ left - left' = omega (arith, paid) in
    (t, subst (λ k. DenPlace p t k) e d, omega arith)
