-- What a resource of an opened file stands for is told by what stands there.
use Rattle.std.proofs.Common.{◌≡◌, ℕ, zero, suc, List, [], Option, Some, None, refl, sym, ap}
use Rattle.std.proofs.Common.{subst, ◌∙◌, length, slice_get}
use Rattle.std.specs.Prelude.{option_map}
use Rattle.std.proofs.lemmas.Option.{same_Some}
use Rattle.resb_tree.specs.Inner.Dropping.{IsNoCollection}
use Rattle.resb_tree.specs.LayingOrder.{array_members}
use Rattle.resb_tree.specs.Tree.{Tree, string, array, table, trees_of, map_of}
use Rattle.resb_format.specs.Content.{Content, Member, leaf, list, entry_list, content_at}
use Rattle.resb_format.specs.Denotes.{Den, den_leaf, den_list, den_entries, DenMember, den_word}
use Rattle.resb_format.specs.Denotes.{den_unit, DenEach, each_none, each_more, DenEntries}
use Rattle.resb_format.specs.Denotes.{entries_none, entries_more}
use Rattle.resb_format.specs.Lookups.{key_in}
use Rattle.resb_format.specs.Parts.{Parts}
use Rattle.resb_format.proofs.Mapped.{content_leaf}
use Rattle.resb_read.specs.Places as places
use Rattle.resb_read.specs.Resources.{DenSpot}
use Rattle.resb_read.specs.declared.cursor.Spot as cursor
use Rattle.resb_read.specs.declared.cursor.Spot.TheVariants as spot
use Rattle.resb_path.specs.Finding.{Spot, tree_spot, number_spot}
use Rattle.resb_c.specs.AtPlaces.{content_from}
use Rattle.resb_c.specs.Opened.{parts_of, spot_of, Shows}
use Rattle.resb_c.specs.declared.opened.ResbOpened.{ResbOpened}
use Rattle.resb_c.specs.declared.resource.ResbResource.{ResbResource}

pub none_some : {A : Type 0} {x : A} → None ≡ Some x → ⊥
none_some {A} e = subst IsNone e tt
  where
    IsNone : Option A → Type 0
    IsNone None = Unit {0}
    IsNone (Some y) = ⊥

-- a content is that of a tree: the leaf itself, or members or entries with the trees inside
abbrev pub Fits : Parts → Content → Tree → Type 0
Fits p (leaf u) t = (t ≡ u) × IsNoCollection u
Fits p (list ms) t =
    (ts : List Tree) × (n : ℕ) × DenEach p ms ts n × (t ≡ array (trees_of ts))
Fits p (entry_list es) t =
    (ts : List (List ℕ × Tree)) × (n : ℕ) × DenEntries p es ts n × (t ≡ table (map_of ts))

-- where a word denotes a tree, a content of it stands there
word_fits : (p : Parts) (w : ℕ) (t : Tree) (n : ℕ) → Den p w t n
    → (c : Content) × (content_at p w ≡ Some c) × Fits p c t
word_fits p w t n (den_leaf {t = u} e) = (leaf u, e, (refl, content_leaf p w u e))
word_fits p w t n (den_list {n = k} {ms = ms} {ts = ts} e each) = (list ms, e, (ts, k, each, refl))
word_fits p w t n (den_entries {n = k} {es = es} {ts = ts} e each) =
    (entry_list es, e, (ts, k, each, refl))

-- and so at a spot
pub spot_fits : (p : Parts) (s : cursor.Spot) (t : Tree) (n : ℕ) → DenSpot p s t n
    → (c : Content) × (content_from p s ≡ Some c) × Fits p c t
spot_fits p (spot.Descriptor w) t n d = word_fits p w t n d
spot_fits p (spot.Unit u) t n (den_unit {s = s} e) =
    (leaf (string s), ap (option_map (λ x. leaf (string x))) e, (refl, tt))
spot_fits p (spot.Word m) t n d = absurd d
spot_fits p (spot.Key m) t n d = absurd d

-- so what stands there is of the tree
pub fits_there : (p : Parts) (s : cursor.Spot) (t : Tree) (n : ℕ) (c : Content) → DenSpot p s t n
    → content_from p s ≡ Some c → Fits p c t
fits_there p s t n c d h =
    let (x, e, fits) = spot_fits p s t n d in
    subst (λ y. Fits p y t) (same_Some x c (sym e ∙ h)) fits

pub stands_there : (p : Parts) (s : cursor.Spot) (t : Tree) (n : ℕ) → DenSpot p s t n
    → content_from p s ≡ None → ⊥
stands_there p s t n d h =
    let (c, e, fits) = spot_fits p s t n d in none_some (sym h ∙ e)

-- what a resource stands for is a tree whose content stands there, or the resource is a number
module _ (o : ResbOpened) (r : ResbResource) (c : Content)
    (h : content_from (parts_of o) (spot_of r) ≡ Some c) where
  pub shown_fits : (s : Spot) → Shows o r s → (t : Tree) × (s ≡ tree_spot t) × Fits (parts_of o) c t
  shown_fits (tree_spot t) ((n, d), asc) = (t, refl, fits_there (parts_of o) (spot_of r) t n c d h)
  shown_fits (number_spot m) (is, asc) =
      absurd (none_some (sym (ap (content_from (parts_of o)) is) ∙ h))

-- where nothing stands, the resource is a number
pub nothing_shown : (o : ResbOpened) (r : ResbResource)
    → content_from (parts_of o) (spot_of r) ≡ None → (s : Spot) → Shows o r s
    → (m : ℕ) × (s ≡ number_spot m) × (spot_of r ≡ spot.Word m)
nothing_shown o r h (tree_spot t) ((n, d), asc) =
    absurd (stands_there (parts_of o) (spot_of r) t n d h)
nothing_shown o r h (number_spot m) (is, asc) = (m, refl, is)

-- a number denotes no tree
pub number_shown : (o : ResbOpened) (r : ResbResource) (n : ℕ) → spot_of r ≡ spot.Word n
    → (s : Spot) → Shows o r s → s ≡ number_spot n
number_shown o r n is (tree_spot t) ((m, d), asc) =
    absurd (subst (λ x. DenSpot (parts_of o) x t m) is d)
number_shown o r n is (number_spot m) (at, asc) = ap number_spot (word_same (sym at ∙ is))
  where
    word_of : cursor.Spot → ℕ
    word_of (spot.Word k) = k
    word_of (spot.Descriptor k) = 0
    word_of (spot.Unit k) = 0
    word_of (spot.Key k) = 0

    word_same : {j k : ℕ} → spot.Word j ≡ spot.Word k → j ≡ k
    word_same e = ap word_of e

-- a member's spot denotes what the member does
pub member_denotes : {p : Parts} {m : Member} {t : Tree} {n : ℕ} → DenMember p m t n
    → DenSpot p (places.spot_of m) t n
member_denotes (den_word d) = d
member_denotes (den_unit e) = den_unit e

-- a member and its tree, or neither
abbrev pub MemberAs : Parts → Option Member → Option Tree → Type 0
MemberAs p (Some m) (Some t) = (n : ℕ) × DenSpot p (places.spot_of m) t n
MemberAs p (Some m) None = ⊥
MemberAs p None (Some t) = ⊥
MemberAs p None None = Unit {0}

-- each number of an array has a member and its tree, or neither
pub each_at : {p : Parts} {ms : List Member} {ts : List Tree} {n : ℕ} → DenEach p ms ts n → (k : ℕ)
    → MemberAs p (slice_get ms k) (slice_get (array_members (trees_of ts)) k)
each_at each_none zero = tt
each_at each_none (suc k) = tt
each_at (each_more {j = j} d ds) zero = (j, member_denotes d)
each_at (each_more d ds) (suc k) = each_at ds k

-- an entry with its key and tree, or neither
abbrev pub EntryAs : Parts → Option (ℕ × Member) → Option (List ℕ × Tree) → Type 0
EntryAs p (Some x) (Some e) =
    (key_in p x.0 ≡ Some e.0) × (n : ℕ) × DenSpot p (places.spot_of x.1) e.1 n
EntryAs p (Some x) None = ⊥
EntryAs p None (Some e) = ⊥
EntryAs p None None = Unit {0}

pub entries_at : {p : Parts} {es : List (ℕ × Member)} {ts : List (List ℕ × Tree)} {n : ℕ}
    → DenEntries p es ts n → (k : ℕ) → EntryAs p (slice_get es k) (slice_get ts k)
entries_at entries_none zero = tt
entries_at entries_none (suc k) = tt
entries_at (entries_more {j = j} is d ds) zero = (is, j, member_denotes d)
entries_at (entries_more is d ds) (suc k) = entries_at ds k

-- there are as many of the one as of the other
pub each_length : {p : Parts} {ms : List Member} {ts : List Tree} {n : ℕ} → DenEach p ms ts n
    → length ms ≡ length (array_members (trees_of ts))
each_length each_none = refl
each_length (each_more d ds) = ap suc (each_length ds)

pub entries_length : {p : Parts} {es : List (ℕ × Member)} {ts : List (List ℕ × Tree)} {n : ℕ}
    → DenEntries p es ts n → length es ≡ length ts
entries_length entries_none = refl
entries_length (entries_more is d ds) = ap suc (entries_length ds)

-- the entries of a content
abbrev entries_of : Content → List (ℕ × Member)
entries_of (entry_list es) = es
entries_of (list ms) = []
entries_of (leaf t) = []

pub same_entries : (fs es : List (ℕ × Member)) → entry_list fs ≡ entry_list es → fs ≡ es
same_entries fs es h = ap entries_of h
