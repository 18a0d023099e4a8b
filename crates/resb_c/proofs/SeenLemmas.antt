-- What is told of a resource of an opened file is so of its tree.
use Rattle.std.proofs.Common.{◌≡◌, ◌≤◌, ℕ, List, [], Option, Some, None, refl, sym, ap, subst, ◌∙◌}
use Rattle.std.proofs.Common.{length, slice_get}
use Rattle.std.specs.Prelude.{option_map}
use Rattle.std.specs.Char.Utf16.{utf16_chars}
use Rattle.std.proofs.lemmas.Option.{same_Some}
use Rattle.resb_tree.specs.Inner.Dropping.{IsNoCollection}
use Rattle.resb_tree.specs.Int28.{signed}
use Rattle.resb_tree.specs.Tree.{Tree, string, alias, array, table, binary, integer, int_vector}
use Rattle.resb_tree.specs.Tree.{Entries, Trees, map_of}
use Rattle.resb_format.specs.Bytes.{units_of}
use Rattle.resb_format.specs.Content.{Content, Member, leaf, list, entry_list}
use Rattle.resb_format.specs.Denotes.{DenEntries}
use Rattle.resb_format.specs.Lookups.{key_in}
use Rattle.resb_format.specs.Parts.{Parts}
use Rattle.resb_walk.specs.Inner.Members.{text_of_bytes}
use Rattle.resb_path.specs.Finding.{Spot, tree_spot, number_spot}
use Rattle.resb_c.specs.AtPlaces.{content_from, found_kind, kind_number, leaf_size, size_in}
use Rattle.resb_c.specs.AtPlaces.{tree_kind, HasKey}
use Rattle.resb_c.specs.Inner.Contents.{content_bytes, content_integer, content_numbers}
use Rattle.resb_c.specs.Inner.Contents.{content_text}
use Rattle.resb_c.specs.Inner.Keys.{HasNoKeyIn}
use Rattle.resb_c.specs.Opened.{parts_of, spot_of, Shows, HoldsEntries}
use Rattle.resb_c.specs.Shown.{bytes_shown, numbers_shown, signed_shown, text_shown}
use Rattle.resb_c.specs.Shown.{tree_bytes, tree_integer, tree_numbers, tree_text, unsigned_shown}
use Rattle.resb_c.specs.Shown.{GivesKeyOf, HasSize, LacksKeyOf}
use Rattle.resb_c.specs.declared.fault.Fault.{Fault}
use Rattle.resb_c.specs.declared.fault.Fault.TheVariants.{NotFound, OtherKind, Reading}
use Rattle.resb_c.specs.declared.opened.ResbOpened.{ResbOpened}
use Rattle.resb_c.specs.declared.resource.ResbResource.{ResbResource}
use Rattle.resb_c.proofs.OpenedLemmas.{shown_fits, spot_fits, none_some, Fits, EntryAs, entries_at}
use Rattle.resb_c.proofs.OpenedLemmas.{each_length, entries_length, same_entries}
use Rattle.resb_c.proofs.WithinLemmas.{get_first, get_past}

-- no units are the empty text
pub empty_text : text_of_bytes [] ≡ []
unfolding utf16_chars units_of
empty_text = refl

module _ (o : ResbOpened) (r : ResbResource) (c : Content)
    (h : content_from (parts_of o) (spot_of r) ≡ Some c) (s : Spot) (shows : Shows o r s) where
  -- what is told alike of leaves, of arrays and of tables
  told : {A : Type 0} (f : Tree → A) (g : Content → A) → ((u : Tree) → f u ≡ g (leaf u))
      → ((ms : List Member) (ts : Trees) → f (array ts) ≡ g (list ms))
      → ((es : List (ℕ × Member)) (us : Entries) → f (table us) ≡ g (entry_list es))
      → (t : Tree) × (s ≡ tree_spot t) × (f t ≡ g c)
  told {A} f g of_leaf of_list of_table =
      let (t, e, fits) = shown_fits o r c h s shows in (t, e, by c t fits)
    where
      by : (c : Content) (t : Tree) → Fits (parts_of o) c t → f t ≡ g c
      by (leaf u) t (e, none) = ap f e ∙ of_leaf u
      by (list ms) t (ts, n, d, e) = ap f e ∙ of_list ms _
      by (entry_list es) t (ts, n, d, e) = ap f e ∙ of_table es _

  pub text_told : text_shown s ≡ content_text c
  text_told =
      let (t, e, same) = told tree_text content_text (λ u. refl) (λ ms ts. refl) (λ es us. refl) in
      ap text_shown e ∙ same

  pub bytes_told : bytes_shown s ≡ content_bytes c
  bytes_told =
      let (t, e, same) = told tree_bytes content_bytes (λ u. refl) (λ ms ts. refl) (λ es us. refl)
      in
      ap bytes_shown e ∙ same

  pub numbers_told : numbers_shown s ≡ content_numbers c
  numbers_told =
      let (t, e, same) = told tree_numbers content_numbers (λ u. refl) (λ ms ts. refl)
      (λ es us. refl) in
      ap numbers_shown e ∙ same

  pub unsigned_told : unsigned_shown s ≡ content_integer c
  unsigned_told =
      let (t, e, same) = told tree_integer content_integer (λ u. refl) (λ ms ts. refl)
      (λ es us. refl) in
      ap unsigned_shown e ∙ same

  pub signed_told : signed_shown s ≡ option_map signed (content_integer c)
  signed_told =
      let (t, e, same) = told tree_integer content_integer (λ u. refl) (λ ms ts. refl)
      (λ es us. refl) in
      ap signed_shown e ∙ ap (option_map signed) same

  pub kind_told : kind_number c ≡ found_kind s
  kind_told =
      let (t, e, same) = told tree_kind kind_number (λ u. refl) (λ ms ts. refl) (λ es us. refl) in
      sym (ap found_kind e ∙ same)

  leaf_has : (u : Tree) → IsNoCollection u → HasSize o r (tree_spot u) (leaf_size u)
  leaf_has (string x) none = refl
  leaf_has (alias x) none = refl
  leaf_has (binary x) none = refl
  leaf_has (integer x) none = refl
  leaf_has (int_vector x) none = refl
  leaf_has (array x) none = absurd none
  leaf_has (table x) none = absurd none

  pub size_told : HasSize o r s (size_in c)
  size_told =
      let (t, e, fits) = shown_fits o r c h s shows in
      subst (λ x. HasSize o r x (size_in c)) (sym e) (by c h t fits)
    where
      by : (c : Content) → content_from (parts_of o) (spot_of r) ≡ Some c → (t : Tree)
          → Fits (parts_of o) c t → HasSize o r (tree_spot t) (size_in c)
      by (leaf u) h t (e, none) =
          subst (λ x. HasSize o r (tree_spot x) (leaf_size u)) (sym e) (leaf_has u none)
      by (list ms) h t (ts, n, d, e) =
          subst (λ x. HasSize o r (tree_spot x) (length ms)) (sym e) (each_length d)
      by (entry_list es) h t (ts, n, d, e) =
          subst (λ x. HasSize o r (tree_spot x) (length es)) (sym e) (λ us holds.
          let (fs, m, there, each) = holds in
          ap length (sym (same_entries fs es (same_Some _ _ (sym there ∙ h))))
          ∙ entries_length each)

-- the key of an entry is that of the entry of the tree
entry_key_is : (p : Parts) (x : Option (ℕ × Member)) (e : Option (List ℕ × Tree)) → EntryAs p x e
    → (y : ℕ × Member) → x ≡ Some y → (key : List ℕ) → key_in p y.0 ≡ Some key
    → option_map (λ (z : List ℕ × Tree). z.0) e ≡ Some key
entry_key_is p (Some x) (Some e) (k, n, d) y is key h =
    sym k ∙ ap (λ z. key_in p z.0) (same_Some x y is) ∙ h
entry_key_is p (Some x) None d y is key h = absurd d
entry_key_is p None e d y is key h = absurd (none_some is)

-- so it can be read
entry_has_key : (p : Parts) (x : Option (ℕ × Member)) (e : Option (List ℕ × Tree)) → EntryAs p x e
    → (y : ℕ × Member) → x ≡ Some y → key_in p y.0 ≡ None → ⊥
entry_has_key p (Some x) (Some e) (k, n, d) y is h =
    none_some (sym (ap (λ z. key_in p z.0) (same_Some x y is) ∙ h) ∙ k)
entry_has_key p (Some x) None d y is h = d
entry_has_key p None e d y is h = none_some is

module _ (o : ResbOpened) (r : ResbResource) (k : ℕ) where
  -- an entry that is held is one of the content's
  held_at : (es : List (ℕ × Member))
      → content_from (parts_of o) (spot_of r) ≡ Some (entry_list es)
      → (ts : List (List ℕ × Tree)) → HoldsEntries o r ts
      → EntryAs (parts_of o) (slice_get es k) (slice_get ts k) × (length es ≡ length ts)
  held_at es h ts (fs, m, there, each) =
      let same : fs ≡ es = same_entries fs es (same_Some _ _ (sym there ∙ h)) in
      let d = subst (λ x. DenEntries (parts_of o) x ts m) same each in
      (entries_at d k, entries_length d)

  table_shown : (es : List (ℕ × Member))
      → content_from (parts_of o) (spot_of r) ≡ Some (entry_list es) → (s : Spot) → Shows o r s
      → (us : Entries) × (s ≡ tree_spot (table us))
  table_shown es h s shows =
      let (t, e, fits) = shown_fits o r (entry_list es) h s shows in
      let (ts, n, each, is) = fits in (map_of ts, e ∙ ap tree_spot is)

  pub key_given : (es : List (ℕ × Member)) (key : List ℕ)
      → content_from (parts_of o) (spot_of r) ≡ Some (entry_list es)
      → HasKey (parts_of o) k key es → (s : Spot) → Shows o r s → GivesKeyOf o r k s key
  key_given es key h (at, (m, later, behind), is) s shows =
      let (us, e) = table_shown es h s shows in
      subst (λ x. GivesKeyOf o r k x key) (sym e) (λ ts holds.
      entry_key_is (parts_of o) (slice_get es k) (slice_get ts k) (held_at es h ts holds).0 (at, m)
      (get_first es k (at, m) later behind) key is)

  none_given : (es : List (ℕ × Member)) (e : Fault)
      → content_from (parts_of o) (spot_of r) ≡ Some (entry_list es)
      → HasNoKeyIn (parts_of o) k e es → (ts : List (List ℕ × Tree)) → HoldsEntries o r ts
      → (slice_get ts k ≡ None) × (e ≡ NotFound)
  none_given es NotFound h past ts holds =
      (get_past ts k (subst (λ n. n ≤ k) (held_at es h ts holds).1 past), refl)
  none_given es (Reading e) h (at, (m, later, behind), is, says) ts holds =
      absurd (entry_has_key (parts_of o) (slice_get es k) (slice_get ts k)
      (held_at es h ts holds).0 (at, m) (get_first es k (at, m) later behind) is)
  none_given es _ h none ts holds = absurd none

  pub key_lacking : (es : List (ℕ × Member)) (e : Fault)
      → content_from (parts_of o) (spot_of r) ≡ Some (entry_list es)
      → HasNoKeyIn (parts_of o) k e es → (s : Spot) → Shows o r s → LacksKeyOf o r k s e
  key_lacking es e h none s shows =
      let (us, is) = table_shown es h s shows in
      subst (λ x. LacksKeyOf o r k x e) (sym is) (none_given es e h none)

  no_key : (u : Tree) → IsNoCollection u → LacksKeyOf o r k (tree_spot u) OtherKind
  no_key (string s) is = refl
  no_key (alias s) is = refl
  no_key (binary s) is = refl
  no_key (integer n) is = refl
  no_key (int_vector ns) is = refl
  no_key (array ts) is = absurd is
  no_key (table es) is = absurd is

  pub leaf_no_key : (u : Tree) → content_from (parts_of o) (spot_of r) ≡ Some (leaf u) → (s : Spot)
      → Shows o r s → LacksKeyOf o r k s OtherKind
  leaf_no_key u h s shows =
      let (t, e, fits) = shown_fits o r (leaf u) h s shows in
      let (is, none) = fits in
      subst (λ x. LacksKeyOf o r k x OtherKind) (sym (e ∙ ap tree_spot is)) (no_key u none)

  pub list_no_key : (ms : List Member) → content_from (parts_of o) (spot_of r) ≡ Some (list ms)
      → (s : Spot) → Shows o r s → LacksKeyOf o r k s OtherKind
  list_no_key ms h s shows =
      let (t, e, fits) = shown_fits o r (list ms) h s shows in
      let (ts, n, each, is) = fits in
      subst (λ x. LacksKeyOf o r k x OtherKind) (sym (e ∙ ap tree_spot is)) refl

  pub number_no_key : (n : ℕ) (e : Fault) (s : Spot) → s ≡ number_spot n → e ≡ OtherKind
      → LacksKeyOf o r k s e
  number_no_key n e s is other = subst (λ x. LacksKeyOf o r k x e) (sym is) other

-- the entries of a table have its keys and trees
pub table_holds : (o : ResbOpened) (r : ResbResource) (us : Entries)
    → Shows o r (tree_spot (table us))
    → (ts : List (List ℕ × Tree)) × HoldsEntries o r ts × (us ≡ map_of ts)
table_holds o r us ((n, d), asc) =
    let (c, h, fits) = spot_fits (parts_of o) (spot_of r) (table us) n d in by c h fits
  where
    entries_of : Tree → Entries
    entries_of (table es) = es
    entries_of (string s) = us
    entries_of (alias s) = us
    entries_of (array ts) = us
    entries_of (binary s) = us
    entries_of (integer m) = us
    entries_of (int_vector ns) = us

    by : (c : Content) → content_from (parts_of o) (spot_of r) ≡ Some c
        → Fits (parts_of o) c (table us)
        → (ts : List (List ℕ × Tree)) × HoldsEntries o r ts × (us ≡ map_of ts)
    by (leaf u) h (e, none) = absurd (subst IsNoCollection (sym e) none)
    by (list ms) h (ts, m, each, e) = absurd cc
    by (entry_list es) h (ts, m, each, e) = (ts, (es, m, h, each), ap entries_of e)
