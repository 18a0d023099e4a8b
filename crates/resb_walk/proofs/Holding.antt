-- A word has one list of pieces, as many of them resources as its count, and no fewer than its
-- tree.
use Rattle.std.proofs.Common.{ℕ, List, [], ◌∷◌, ◌++◌, Option, Some, None, ◌≡◌, ◌≤◌, refl, sym}
use Rattle.std.proofs.Common.{ap, ◌∙◌, subst, arith}
use Rattle.std.specs.Prelude.{option_map}
use Rattle.std.proofs.lemmas.List.Sums.{sum_by-cons, sum_by-append}
use Rattle.resb_tree.specs.Tree.{Tree, string}
use Rattle.resb_format.specs.Lookups.{key_in, text_in, index_in}
use Rattle.resb_format.specs.Parts.{Parts}
use Rattle.resb_format.specs.Content.{Member, word, unit, leaf, list, entry_list}
use Rattle.resb_format.specs.Content.{content_at}
use Rattle.resb_format.specs.Content.{text_leaf, counted_text}
use Rattle.resb_format.specs.Denotes.{Den, den_leaf, den_list, den_entries, DenMember, den_word}
use Rattle.resb_format.specs.Denotes.{den_unit, DenEach, each_none, each_more, DenEntries}
use Rattle.resb_format.specs.Denotes.{entries_none}
use Rattle.resb_format.specs.Denotes.{entries_more}
use Rattle.resb_format.proofs.Denoting.{same_list, same_entries, leaf_list, leaf_entries}
use Rattle.resb_format.proofs.Denoting.{list_entries}
use Rattle.resb_format.proofs.Denoting.{same_leaf}
use Rattle.resb_walk.specs.Inner.MemberContent.{counted_leaf}
use Rattle.resb_walk.specs.Pieces.{Piece, leaf_piece, array_piece, table_piece, key_piece}
use Rattle.resb_walk.specs.Pieces.{Holds, holds_leaf, holds_list, holds_entries, HoldsMember}
use Rattle.resb_walk.specs.Pieces.{holds_word, holds_unit, HoldsEach, holds_none, holds_more}
use Rattle.resb_walk.specs.Pieces.{HoldsEachEntry, holds_no_entry, holds_entry}
use Rattle.resb_walk.specs.Sums.{resource_count_in}
use Rattle.resb_walk.specs.Sums.{count_of}
use Rattle.resb_format.proofs.Lists.{same_some, some_none}

-- a table is one resource
pub table_is_one : {A : Type 0} (es : List A) → resource_count_in (table_piece es) ≡ 1
table_is_one [] = refl
table_is_one (e ∷ es) = refl

module _ (p : Parts) where
  -- by what stands at the word
  pub leaf_holds : {w : ℕ} {t : Tree} {xs : List Piece} → content_at p w ≡ Some (leaf t)
      → Holds p w xs → xs ≡ leaf_piece t ∷ []
  leaf_holds e (holds_leaf f) = ap (λ t. leaf_piece t ∷ []) (same_leaf f e)
  leaf_holds e (holds_list f h) = absurd (leaf_list e f)
  leaf_holds e (holds_entries f h) = absurd (leaf_entries e f)

  pub list_holds : {w : ℕ} {ms : List Member} {xs : List Piece} → content_at p w ≡ Some (list ms)
      → Holds p w xs → (ys : List Piece) × (xs ≡ array_piece ∷ ys) × HoldsEach p ms ys
  list_holds e (holds_leaf f) = absurd (leaf_list f e)
  list_holds e (holds_list {xs = ys} f h) =
      (ys, refl, subst (λ ms. HoldsEach p ms ys) (same_list f e) h)
  list_holds e (holds_entries f h) = absurd (list_entries e f)

  pub entries_hold : {w : ℕ} {es : List (ℕ × Member)} {xs : List Piece}
      → content_at p w ≡ Some (entry_list es) → Holds p w xs
      → (ys : List Piece) × (xs ≡ table_piece es ∷ ys) × HoldsEachEntry p es ys
  entries_hold e (holds_leaf f) = absurd (leaf_entries f e)
  entries_hold e (holds_list f h) = absurd (list_entries f e)
  entries_hold e (holds_entries {xs = ys} f h) = (
    ys,
    ap (λ es. table_piece es ∷ ys) (same_entries f e),
    subst (λ es. HoldsEachEntry p es ys) (same_entries f e) h,
  )

  pub none_holds : {w : ℕ} {xs : List Piece} → content_at p w ≡ None → Holds p w xs → ⊥
  none_holds e (holds_leaf f) = some_none e f
  none_holds e (holds_list f h) = some_none e f
  none_holds e (holds_entries f h) = some_none e f

  -- a string or an alias, by its text
  with_text_holds : (is : List ℕ → Tree) (o : Option (List ℕ)) (w : ℕ) (xs : List Piece)
      → content_at p w ≡ option_map (λ s. leaf (is s)) o → Holds p w xs
      → (s : List ℕ) × (o ≡ Some s) × (xs ≡ leaf_piece (is s) ∷ [])
  with_text_holds is None w xs e h = absurd (none_holds e h)
  with_text_holds is (Some s) w xs e h = (s, refl, leaf_holds e h)

  pub text_holds : (w u : ℕ) (xs : List Piece) → content_at p w ≡ text_leaf p u → Holds p w xs
      → (s : List ℕ) × (text_in p u ≡ Some s) × (xs ≡ leaf_piece (string s) ∷ [])
  text_holds w u xs e h = with_text_holds string (text_in p u) w xs e h

  pub counted_holds : (is : List ℕ → Tree) (w v : ℕ) (xs : List Piece)
      → content_at p w ≡ counted_leaf is p v → Holds p w xs
      → (s : List ℕ) × (counted_text p v ≡ Some s) × (xs ≡ leaf_piece (is s) ∷ [])
  counted_holds is w v xs e h = with_text_holds is (counted_text p v) w xs e h

  pub unit_holds : (u : ℕ) (xs : List Piece) → HoldsMember p (unit u) xs
      → (s : List ℕ) × (text_in p (index_in p u) ≡ Some s) × (xs ≡ leaf_piece (string s) ∷ [])
  unit_holds u xs (holds_unit {s = t} e) = (t, e, refl)

  pub word_holds : {w : ℕ} {xs : List Piece} → HoldsMember p (word w) xs → Holds p w xs
  word_holds (holds_word h) = h

  -- the first member, and those behind it
  pub first_member_holds : (ms ns : List Member) (m : Member) (xs : List Piece) → ms ≡ m ∷ ns
      → HoldsEach p ms xs
      → (ys zs : List Piece) × (xs ≡ ys ++ zs) × HoldsMember p m ys × HoldsEach p ns zs
  first_member_holds ms ns m xs e h = first (subst (λ ls. HoldsEach p ls xs) e h)
    where
      first : {us : List Piece} → HoldsEach p (m ∷ ns) us
          → (ys zs : List Piece) × (us ≡ ys ++ zs) × HoldsMember p m ys × HoldsEach p ns zs
      first (holds_more {xs = ys} {ys = zs} g i) = (ys, zs, refl, g, i)

  pub first_entry_holds : (es fs : List (ℕ × Member)) (at : ℕ) (m : Member) (xs : List Piece)
      → es ≡ (at, m) ∷ fs → HoldsEachEntry p es xs
      → (k : List ℕ) × (ys zs : List Piece) × (key_in p at ≡ Some k)
      × (xs ≡ key_piece k ∷ ys ++ zs) × HoldsMember p m ys × HoldsEachEntry p fs zs
  first_entry_holds es fs at m xs e h = first (subst (λ ls. HoldsEachEntry p ls xs) e h)
    where
      first : {us : List Piece} → HoldsEachEntry p ((at, m) ∷ fs) us
          → (k : List ℕ) × (ys zs : List Piece) × (key_in p at ≡ Some k)
          × (us ≡ key_piece k ∷ ys ++ zs) × HoldsMember p m ys × HoldsEachEntry p fs zs
      first (holds_entry {key = k} {xs = ys} {ys = zs} f g i) = (k, ys, zs, f, refl, g, i)

  pub no_members_left : (ms : List Member) (xs : List Piece) → ms ≡ [] → HoldsEach p ms xs → xs ≡ []
  no_members_left ms xs e h = last (subst (λ ls. HoldsEach p ls xs) e h)
    where
      last : {us : List Piece} → HoldsEach p [] us → us ≡ []
      last holds_none = refl

  pub no_entries_left : (es : List (ℕ × Member)) (xs : List Piece) → es ≡ []
      → HoldsEachEntry p es xs
      → xs ≡ []
  no_entries_left es xs e h = last (subst (λ ls. HoldsEachEntry p ls xs) e h)
    where
      last : {us : List Piece} → HoldsEachEntry p [] us → us ≡ []
      last holds_no_entry = refl

  -- one list of pieces
  mutual
    -- a word has one list of pieces at most
    pub one_holding : {w : ℕ} {xs ys : List Piece} → Holds p w xs → Holds p w ys → xs ≡ ys
    one_holding (holds_leaf e) h = sym (leaf_holds e h)
    one_holding (holds_list e g) h =
        let i = list_holds e h in ap (λ zs. array_piece ∷ zs) (one_each g i.2) ∙ sym i.1
    one_holding (holds_entries {es = es'} e g) h =
        let i = entries_hold e h in ap (λ zs. table_piece es' ∷ zs) (one_entries g i.2) ∙ sym i.1

    one_member : {m : Member} {xs ys : List Piece} → HoldsMember p m xs → HoldsMember p m ys
        → xs ≡ ys
    one_member (holds_word g) (holds_word h) = one_holding g h
    one_member (holds_unit e) (holds_unit f) =
        ap (λ s. leaf_piece (string s) ∷ []) (same_some e f)

    one_each : {ms : List Member} {xs ys : List Piece} → HoldsEach p ms xs → HoldsEach p ms ys
        → xs ≡ ys
    one_each holds_none holds_none = refl
    one_each (holds_more g i) (holds_more h j) =
        let e = one_member g h in let f = one_each i j in λ k. e k ++ f k

    one_entries : {es : List (ℕ × Member)} {xs ys : List Piece} → HoldsEachEntry p es xs
        → HoldsEachEntry p es ys → xs ≡ ys
    one_entries holds_no_entry holds_no_entry = refl
    one_entries (holds_entry a g i) (holds_entry b h j) =
        let key = same_some a b in let e = one_member g h in let f = one_entries i j in
        λ k. key_piece (key k) ∷ e k ++ f k

  -- what denotes a tree has pieces, of which as many are resources as are counted
  mutual
    -- a denoted tree has its pieces, as many as its count
    pub denoted_is_held : {w n : ℕ} {t : Tree} → Den p w t n
        → (xs : List Piece) × Holds p w xs × (count_of xs ≡ n)
    denoted_is_held (den_leaf {t = t'} e) = (leaf_piece t' ∷ [], holds_leaf e, refl)
    denoted_is_held (den_list e d) =
        let h = held_each d in (
          array_piece ∷ h.0,
          holds_list e h.1,
          omega (arith, sum_by-cons resource_count_in array_piece h.0, h.2),
        )
    denoted_is_held (den_entries {es = es'} e d) =
        let h = held_entries d in (
          table_piece es' ∷ h.0,
          holds_entries e h.1,
          omega
              (arith, sum_by-cons resource_count_in (table_piece es') h.0, h.2, table_is_one es'),
        )

    held_member : {m : Member} {n : ℕ} {t : Tree} → DenMember p m t n
        → (xs : List Piece) × HoldsMember p m xs × (count_of xs ≡ n)
    held_member (den_word d) = let h = denoted_is_held d in (h.0, holds_word h.1, h.2)
    held_member (den_unit {s = s'} e) = (leaf_piece (string s') ∷ [], holds_unit e, refl)

    held_each : {ms : List Member} {ts : List Tree} {n : ℕ} → DenEach p ms ts n
        → (xs : List Piece) × HoldsEach p ms xs × (count_of xs ≡ n)
    held_each each_none = ([], holds_none, refl)
    held_each (each_more d ds) =
        let h = held_member d in let i = held_each ds in (
          h.0 ++ i.0,
          holds_more h.1 i.1,
          omega (arith, sum_by-append resource_count_in h.0 i.0, h.2, i.2),
        )

    held_entries : {es : List (ℕ × Member)} {ts : List (List ℕ × Tree)} {n : ℕ}
        → DenEntries p es ts n → (xs : List Piece) × HoldsEachEntry p es xs × (count_of xs ≡ n)
    held_entries entries_none = ([], holds_no_entry, refl)
    held_entries (entries_more {key = key'} e d ds) =
        let h = held_member d in let i = held_entries ds in (
          key_piece key' ∷ h.0 ++ i.0,
          holds_entry e h.1 i.1,
          omega (
            arith,
            sum_by-cons resource_count_in (key_piece key') (h.0 ++ i.0),
            sum_by-append resource_count_in h.0 i.0,
            h.2,
            i.2,
          ),
        )

  -- a member is one resource or more
  pub member_some : {m : Member} {xs : List Piece} → HoldsMember p m xs → 1 ≤ count_of xs
  member_some (holds_word h) = word_some h
    where
      word_some : {w : ℕ} {xs : List Piece} → Holds p w xs → 1 ≤ count_of xs
      word_some (holds_leaf e) = omega arith
      word_some (holds_list {xs = ys} e g) =
          omega (arith, sum_by-cons resource_count_in array_piece ys)
      word_some (holds_entries {es = es'} {xs = ys} e g) =
          omega (arith, sum_by-cons resource_count_in (table_piece es') ys, table_is_one es')
  member_some (holds_unit e) = omega arith
