-- What stands at a member is what its tree has.
use Rattle.std.proofs.Common.{◌≡◌, ℕ, zero, suc, List, Option, Some, None, refl, sym, ap}
use Rattle.std.proofs.Common.{subst, ◌∙◌, slice_get}
use Rattle.std.proofs.Math.Logic.{∥∥₁_elim}
use Rattle.std.proofs.lemmas.Option.{same_Some}
use Rattle.std.proofs.Props.{props}
use Rattle.std.specs.Coded.{Σ_prop}
use Rattle.resb_tree.proofs.LayingOrderLemmas.{members-trees_of}
use Rattle.resb_tree.specs.Tree.{Tree, string}
use Rattle.resb_format.specs.Content.{Member, word, Content, leaf, list, entry_list}
use Rattle.resb_format.specs.Denotes.{Den, den_leaf, den_list, den_entries, DenMember, den_word}
use Rattle.resb_format.specs.Denotes.{den_unit, DenEach, each_none, each_more}
use Rattle.resb_format.specs.Parts.{Parts}
use Rattle.resb_walk.specs.Inner.MemberContent.{member_content}
use Rattle.resb_opened.specs.FieldLaws.{Tree-set, Stands-prop}
use Rattle.resb_opened.specs.Standing.{Denoted, Stands}
use Rattle.resb_opened.specs.Ahead.{EachDenotes}
use Rattle.resb_opened.specs.Inner.Holding.{Holds}

-- what denotes a tree has a content, whose insides are those of the tree
abbrev Has : Parts → Member → Tree → Type 0
Has p m t = (c : Content) × (member_content p m ≡ Some c) × Holds p c t

word_has : {p : Parts} {w n : ℕ} {t : Tree} → Den p w t n → Has p (word w) t
word_has (den_leaf {t = t'} e) = (leaf t', e, refl)
word_has {p = p'} (den_list {n = n'} {ms = ms'} {ts = ts'} e d) = (
  list ms',
  e,
  (refl, ∣ (n', subst (λ us. DenEach p' ms' us n') (sym (members-trees_of ts')) d) ∣₁),
)
word_has (den_entries {n = n'} {es = es'} {ts = ts'} e d) =
    (entry_list es', e, (refl, ∣ (ts', n', d, refl) ∣₁))

member_has : {p : Parts} {m : Member} {t : Tree} {n : ℕ} → DenMember p m t n → Has p m t
member_has (den_word d) = word_has d
member_has (den_unit {s = s'} e) = (leaf (string s'), rw e refl, refl)

pub none_some : {A : Type 0} {x : A} {o : Option A} → o ≡ None → o ≡ Some x → ⊥
none_some {A} {x} h k = subst IsNone (sym h ∙ k) tt
  where
    IsNone : Option A → Type 0
    IsNone None = Unit {0}
    IsNone (Some y) = ⊥

holds_prop : (p : Parts) (c : Content) (t : Tree) → IsProp (Holds p c t)
holds_prop p (leaf u) t = Tree-set t u
holds_prop p (list ms) t = hlevel (Tree-set, props)
holds_prop p (entry_list es) t = hlevel (Tree-set, props)

module _ (p : Parts) (m : Member) (t : Tree) where
  -- a content that is found holds what the tree has
  pub holds : (c : Content) → member_content p m ≡ Some c → Denoted p m t → Holds p c t
  holds c e d = ∥∥₁_elim d (holds_prop p c t) (λ x. let (y, is, h) = member_has x.1 in
      subst (λ z. Holds p z t) (same_Some _ _ (sym is ∙ e)) h)

  -- something is found
  pub never_none : member_content p m ≡ None → Denoted p m t → ⊥
  never_none e d =
      ∥∥₁_elim d (λ x. absurd x) (λ x. none_some e (member_has x.1).1)

pub option_tree-set : IsSet (Option Tree)
option_tree-set = hlevel (Tree-set, props)

-- two trees that stand at a member are one
pub same_tree : (p : Parts) (m : Member) (x y : Stands p m) → x.0 ≡ y.0
same_tree p m x y = ap (λ s. s.0) (Stands-prop p m x y)

each_at : {p : Parts} {ms : List Member} {ts : List Tree} {n : ℕ} → DenEach p ms ts n → (k : ℕ)
    (x : Member) → slice_get ms k ≡ Some x → (s : Stands p x) × (slice_get ts k ≡ Some s.0)
each_at each_none zero x h = absurd (none_some refl h)
each_at each_none (suc k) x h = absurd (none_some refl h)
each_at {p = p'} (each_more {j = j'} {t = t'} d ds) zero x h =
    ((t', ∣ (j', subst (λ y. DenMember p' y t' j') (same_Some _ _ h) d) ∣₁), refl)
each_at (each_more d ds) (suc k) x h = each_at ds k x h

each_past : {p : Parts} {ms : List Member} {ts : List Tree} {n : ℕ} → DenEach p ms ts n → (k : ℕ)
    → slice_get ms k ≡ None → slice_get ts k ≡ None
each_past each_none zero h = refl
each_past each_none (suc k) h = refl
each_past (each_more d ds) zero h = absurd (none_some h refl)
each_past (each_more d ds) (suc k) h = each_past ds k h

module _ (p : Parts) (ms : List Member) (ts : List Tree) (each : EachDenotes p ms ts) (k : ℕ) where
  -- at a member that is there, its tree stands
  pub stands_at : (x : Member) → slice_get ms k ≡ Some x
      → (s : Stands p x) × (slice_get ts k ≡ Some s.0)
  stands_at x h =
      ∥∥₁_elim each (Σ_prop (Stands-prop p x) (λ s. option_tree-set _ _))
      (λ d. each_at d.1 k x h)

  -- behind the last member there is none
  pub nothing_at : slice_get ms k ≡ None → slice_get ts k ≡ None
  nothing_at h = ∥∥₁_elim each (option_tree-set _ _) (λ d. each_past d.1 k h)
