-- What a reader makes of resources, one more at the end.
use Rattle.std.proofs.Common.{ℕ, List, [], ◌∷◌, ◌++◌, ◌≡◌, true, refl, ap}
use Rattle.std.proofs.Common.{◌∙◌, nat_cmp, BTreeMap}
use Rattle.std.proofs.lemmas.Bool.{and_parts, and_from}
use Rattle.std.proofs.lemmas.List.{map_push}
use Rattle.std.specs.BTreeMap.{insert_entry, IsFromIterResult}
use Rattle.std.specs.Cmp.Lexicographic.{slice_cmp}
use Rattle.resb_tree.specs.Tree.{Tree, Entries, put, put_all, map_of, no_entries}
use Rattle.resb_tree.specs.View.{tree_of, entries_view, pairs_view}
use Rattle.resb_tree.specs.declared.resource.Resource.{Resource}
use Rattle.resb_tree.proofs.AtOnce.{made_view}
use Rattle.resb_tree.proofs.ViewLemmas.{entries_view_insert}
use Rattle.resb_tree.proofs.BorrowingLemmas.{insert_passes, made_passes}
use Rattle.resb_tree.specs.Borrowing.{are_slice}
use Rattle.resb_walk.specs.Borrows.{borrows_binaries, all_borrow, entries_borrow}

put_all_snoc : (ps : List (List ℕ × Tree)) (es : Entries) (k : List ℕ) (t : Tree)
    → put_all es (ps ++ (k, t) ∷ []) ≡ put k t (put_all es ps)
put_all_snoc [] es k t = refl
put_all_snoc (p ∷ ps) es k t = put_all_snoc ps (put p.0 p.1 es) k t

pub put_snoc : (es : List (List ℕ × Resource)) (ps : List (List ℕ × Tree)) (k : List ℕ)
    (r : Resource)
    → entries_view es ≡ map_of ps
    → entries_view (insert_entry (slice_cmp nat_cmp) es k r) ≡ map_of (ps ++ (k, tree_of r) ∷ [])
put_snoc es ps k r e =
    entries_view_insert es k r ∙ ap (put k (tree_of r)) e
    ∙ sym_of (put_all_snoc ps no_entries k (tree_of r))
  where
    sym_of : {a b : Entries} → a ≡ b → b ≡ a
    sym_of e = cc

-- one more resource that copies nothing
pub borrow_snoc : (rs : List Resource) (r : Resource) → all_borrow rs ≡ true
    → borrows_binaries r ≡ true → all_borrow (rs ++ r ∷ []) ≡ true
borrow_snoc [] r h k = and_from _ _ k refl
borrow_snoc (s ∷ rs) r h k =
    let (first, later) = and_parts _ _ h in and_from _ _ first (borrow_snoc rs r later k)

-- one more pair, whose value copies nothing
pub borrow_entry : (es : List (List ℕ × Resource)) (k : List ℕ) (r : Resource)
    → entries_borrow es ≡ true → borrows_binaries r ≡ true
    → entries_borrow (es ++ (k, r) ∷ []) ≡ true
borrow_entry [] k r h b = and_from _ _ b refl
borrow_entry (e ∷ es) k r h b =
    let (first, later) = and_parts _ _ h in and_from _ _ first (borrow_entry es k r later b)

-- one more pair of a list
pub entry_made : (es : List (List ℕ × Resource)) (ps : List (List ℕ × Tree)) (k : List ℕ)
    (r : Resource) (t : Tree)
    → (pairs_view es ≡ ps) × (entries_borrow es ≡ true)
    → (tree_of r ≡ t) × (borrows_binaries r ≡ true)
    → (pairs_view (es ++ (k, r) ∷ []) ≡ ps ++ (k, t) ∷ [])
    × (entries_borrow (es ++ (k, r) ∷ []) ≡ true)
entry_made es ps k r t (v, b) (e, c) = (
  map_push (λ (p : List ℕ × Resource). (p.0, tree_of p.1)) es (k, r)
      ∙ ap (λ qs. qs ++ (k, tree_of r) ∷ []) v ∙ ap (λ u. ps ++ (k, u) ∷ []) e,
  borrow_entry es k r b c,
)

-- the map of a list
pub map_made : (ps : List (List ℕ × Resource)) (m : BTreeMap (List ℕ) Resource)
    (es : List (List ℕ × Tree))
    → IsFromIterResult (slice_cmp nat_cmp) ps m
    → (pairs_view ps ≡ es) × (entries_borrow ps ≡ true)
    → (entries_view m.entries ≡ map_of es) × (entries_borrow m.entries ≡ true)
map_made ps m es h (v, b) =
    (made_view ps m h ∙ ap map_of v, made_passes (λ s. true) are_slice ps m h b)

-- one more entry of a table
pub put_made : (es : List (List ℕ × Resource)) (ps : List (List ℕ × Tree)) (k : List ℕ)
    (r : Resource) (t : Tree)
    → (entries_view es ≡ map_of ps) × (entries_borrow es ≡ true)
    → (tree_of r ≡ t) × (borrows_binaries r ≡ true)
    → (entries_view (insert_entry (slice_cmp nat_cmp) es k r) ≡ map_of (ps ++ (k, t) ∷ []))
    × (entries_borrow (insert_entry (slice_cmp nat_cmp) es k r) ≡ true)
put_made es ps k r t (v, b) (e, c) = (
  put_snoc es ps k r v ∙ ap (λ t. map_of (ps ++ (k, t) ∷ [])) e,
  insert_passes (λ s. true) are_slice es k r c b,
)
