-- The laws of the ghost fields: each says in one way which tree stands there, since one does.
use Rattle.std.specs.Prelude.{◌≡◌, ℕ, Bool, true, false, refl, List, ◌∷◌}
use Rattle.std.proofs.Common.{sym, ◌∙◌, true≢false}
use Rattle.std.proofs.Math.Logic.{∥∥₁_prop, ∥∥₁_elim}
use Rattle.std.proofs.Props.{props}
use Rattle.resb_tree.specs.Equality.{tree_eq}
use Rattle.resb_tree.specs.Inner.EqualityLemmas.{tree_eq_decides}
use Rattle.resb_tree.specs.Tree.{Tree}
use Rattle.resb_format.specs.Content.{Member, word}
use Rattle.resb_format.specs.Denotes.{DenEach, each_none, each_more, DenEntries}
use Rattle.resb_format.specs.Denotes.{entries_none, entries_more}
use Rattle.resb_format.specs.Parts.{Parts, parts_in}
use Rattle.resb_format.specs.declared.file_blocks.FileBlocks.{FileBlocks}
use Rattle.resb_walk.specs.Inner.Members.{member_of, members_of, keyed_members}
use Rattle.resb_walk.specs.declared.members.Member as walk
use Rattle.resb_walk.specs.declared.members.Members.{Members}
use Rattle.resb_walk.specs.declared.members.TableParts.{TableParts}
use Rattle.resb_format.proofs.Denoting.{unique_member}
use Rattle.resb_format.proofs.Lists.{same_some}
use Rattle.resb_opened.specs.Ahead.{EachDenotes, EachStands, PairsDenote, PairsStand}
use Rattle.resb_opened.specs.Ahead.{MembersStand, EntriesStand}
use Rattle.resb_opened.specs.Standing.{Denoted, Stands, StandsAt, RootStands}
use mathlib.Core.HLevel.{hedberg, Σ_prop_path}

-- two trees are equal or they are not, as the test of it says
same_or_not : (s t : Tree) (b : Bool) → tree_eq s t ≡ b → Dec (s ≡ t)
same_or_not s t true e = yes ((tree_eq_decides s t).0 e)
same_or_not s t false e = no (λ h. true≢false (sym ((tree_eq_decides s t).1 h) ∙ e))

-- two trees are equal in one way
pub Tree-set : IsSet Tree
Tree-set = hedberg (λ s t. same_or_not s t (tree_eq s t) refl)

-- a member denotes one tree
pub one_denoted : (p : Parts) (m : Member) (s t : Tree) → Denoted p m s → Denoted p m t → s ≡ t
one_denoted p m s t d e =
    ∥∥₁_elim d (Tree-set s t)
    (λ x. ∥∥₁_elim e (Tree-set s t) (λ y. (unique_member p x.1 y.1).0))

-- at a member one tree stands
pub Stands-prop : (p : Parts) (m : Member) → IsProp (Stands p m)
Stands-prop p m x y = Σ_prop_path (λ t. ∥∥₁_prop) (one_denoted p m x.0 y.0 x.1 y.1)

-- at a member of a file, as the code holds both, one tree stands
pub StandsAt-prop : (f : FileBlocks) (m : walk.Member) → IsProp (StandsAt f m)
StandsAt-prop f m = Stands-prop (parts_in f) (member_of m)

-- at the root of a file one tree stands
pub RootStands-prop : (f : FileBlocks) (w : ℕ) → IsProp (RootStands f w)
RootStands-prop f w = Stands-prop (parts_in f) (word w)

-- two lists of trees are equal in one way
pub trees-set : IsSet (List Tree)
trees-set = hlevel (Tree-set, props)

-- two lists of keys and trees are equal in one way
pub pairs-set : IsSet (List (List ℕ × Tree))
pairs-set = hlevel (Tree-set, props)

-- members that are denoted with counts have one list of trees
one_each : {p : Parts} {ms : List Member} {m n : ℕ} {ts us : List Tree} → DenEach p ms ts m
    → DenEach p ms us n → ts ≡ us
one_each each_none each_none = refl
one_each {p = p'} (each_more d ds) (each_more e es) =
    let h = (unique_member p' d e).0 in let k = one_each ds es in λ i. h i ∷ k i

-- entries that are denoted with counts have one list of keys and trees
one_entries : {p : Parts} {es : List (ℕ × Member)} {m n : ℕ} {ts us : List (List ℕ × Tree)}
    → DenEntries p es ts m → DenEntries p es us n → ts ≡ us
one_entries entries_none entries_none = refl
one_entries {p = p'} (entries_more j d ds) (entries_more k e es) =
    let h = (unique_member p' d e).0 in
    let key = same_some j k in
    let rest = one_entries ds es in
    λ i. (key i, h i) ∷ rest i

-- members denote one list of trees
pub same_trees : (p : Parts) (ms : List Member) (ts us : List Tree) → EachDenotes p ms ts
    → EachDenotes p ms us → ts ≡ us
same_trees p ms ts us d e =
    ∥∥₁_elim d (trees-set _ _) (λ x. ∥∥₁_elim e (trees-set _ _) (λ y. one_each x.1 y.1))

-- entries denote one list of keys and trees
pub same_pairs : (p : Parts) (es : List (ℕ × Member)) (ts us : List (List ℕ × Tree))
    → PairsDenote p es ts → PairsDenote p es us → ts ≡ us
same_pairs p es ts us d e =
    ∥∥₁_elim d (pairs-set _ _) (λ x. ∥∥₁_elim e (pairs-set _ _) (λ y. one_entries x.1 y.1))

-- at members one list of trees stands
pub EachStands-prop : (p : Parts) (ms : List Member) → IsProp (EachStands p ms)
EachStands-prop p ms x y = Σ_prop_path (λ ts. ∥∥₁_prop) (same_trees p ms x.0 y.0 x.1 y.1)

-- at entries one list of keys and trees stands
pub PairsStand-prop : (p : Parts) (es : List (ℕ × Member)) → IsProp (PairsStand p es)
PairsStand-prop p es x y = Σ_prop_path (λ ts. ∥∥₁_prop) (same_pairs p es x.0 y.0 x.1 y.1)

-- at the members of a file, as the code holds both, one list of trees stands
pub members-prop : (f : FileBlocks) (ms : Members) → IsProp (MembersStand f ms)
members-prop f ms = EachStands-prop (parts_in f) (members_of ms)

-- at the entries of a file, as the code holds both, one list of keys and trees stands
pub entries-prop : (f : FileBlocks) (es : TableParts) → IsProp (EntriesStand f es)
entries-prop f es = PairsStand-prop (parts_in f) (keyed_members es)
