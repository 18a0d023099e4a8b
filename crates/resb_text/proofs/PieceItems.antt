-- Items whose groups are pieces of a draft, while the draft grows.
use Rattle.std.proofs.Common.{◌≡◌, ℕ, Bool, true, List, [], ◌∷◌, ◌++◌, map, refl, sym, ◌∙◌, ap}
use Rattle.std.proofs.Common.{append_assoc, append-nil, Bor, length}
use Rattle.std.specs.Prelude.{Option, Some, None}
use Rattle.std.proofs.lemmas.Bool.{and_from, and_parts}
use Rattle.std.proofs.lemmas.List.{map_push, map-append, nil_from_length}
use Rattle.resb_tree.specs.Borrowing.{all_true}
use Rattle.resb_draft.specs.Drafts.{tree_at, is_whole, Keeps}
use Rattle.resb_draft.specs.declared.draft.Draft.{Draft}
use Rattle.resb_draft.proofs.Lists.{all_append}
use Rattle.resb_draft.proofs.Standing.{keeps_on}
use Rattle.resb_text.specs.Inner.Build.{Represents}
use Rattle.resb_text.specs.Inner.Drafts.{piece_term_seen, piece_item_seen, entries_seen, are_whole}
use Rattle.resb_text.specs.Inner.Drafts.{key_after, entry_of_term, entries_after}
use Rattle.resb_text.specs.Inner.Shown.{shown_tree, shown_borrowed, pairs_after, waiting_key}
use Rattle.resb_text.specs.declared.items.Item.{Item}
use Rattle.resb_text.specs.declared.items.Term.{Term}
use Rattle.resb_text.specs.declared.items.Term.TheVariants as terms

-- a term that is whole shows the same tree, whole still
pub term_on : (old new : Draft) → Keeps old new → (m : Term ℕ) (f : Bool)
    → shown_borrowed (piece_term_seen old m f) ≡ true
    → (shown_tree (piece_term_seen new m f) ≡ shown_tree (piece_term_seen old m f))
    × (shown_borrowed (piece_term_seen new m f) ≡ true)
term_on old new k (terms.String s) f h = (refl, refl)
term_on old new k (terms.Group n) f h = k n h

-- pieces that are whole stand for the same trees, whole still
pub pieces_on : (old new : Draft) → Keeps old new → (ns : List ℕ)
    → all_true (map (is_whole old) ns) ≡ true
    → (map (tree_at new) ns ≡ map (tree_at old) ns)
    × (all_true (map (is_whole new) ns) ≡ true)
pieces_on old new k [] h = (refl, refl)
pieces_on old new k (n ∷ ns) h =
    let both = and_parts (is_whole old n) _ h in
    let first = k n both.0 in
    let rest = pieces_on old new k ns both.1 in
    ((λ i. first.0 i ∷ rest.0 i), and_from _ _ first.1 rest.1)

-- the numbers listed so far, and the items that are left, are all items
abbrev pub ListsNumbers : Draft → Draft → List ℕ → List (Item ℕ) → List (Item ℕ) → Type 0
ListsNumbers first d ns left xs =
    (map (tree_at d) ns ++ map shown_tree (map (piece_item_seen first) left)
    ≡ map shown_tree (map (piece_item_seen first) xs))
    × (all_true (map (is_whole d) ns) ≡ true)
    × (all_true (map shown_borrowed (map (piece_item_seen first) left)) ≡ true)

-- one number more, of a piece that is made first and put behind then
pub lists_more : (first old mid new : Draft) (ns ns' : List ℕ) (x : Item ℕ) (n : ℕ)
    (left rest xs : List (Item ℕ)) → Keeps first old → Keeps old mid → Keeps mid new
    → left ≡ x ∷ rest → ns' ≡ ns ++ n ∷ []
    → (shown_borrowed (piece_term_seen old x.term x.comma) ≡ true
    → Represents tree_at is_whole mid n (shown_tree (piece_term_seen old x.term x.comma)))
    → ListsNumbers first old ns left xs → ListsNumbers first new ns' rest xs
lists_more first old mid new ns ns' x n left rest xs before after put split pushed made h =
    let see = piece_item_seen first in
    let whole : all_true (map shown_borrowed (map see (x ∷ rest))) ≡ true =
    ap (λ l. all_true (map shown_borrowed (map see l))) (sym split) ∙ h.2 in
    let both = and_parts (shown_borrowed (see x)) _ whole in
    let seen = term_on first old before x.term x.comma both.0 in
    let one = made seen.1 in
    let stays = put n one.1 in
    let on = pieces_on old new (keeps_on old mid new after put) ns h.1 in
    let left_trees = map shown_tree (map see rest) in (
      ap (λ l. map (tree_at new) l ++ left_trees) pushed
          ∙ ap (λ l. l ++ left_trees) (map_push (tree_at new) ns n)
          ∙ (λ i. (on.0 i ++ (stays.0 ∙ one.0 ∙ seen.0) i ∷ []) ++ left_trees)
          ∙ append_assoc (map (tree_at old) ns) (shown_tree (see x) ∷ []) left_trees
          ∙ ap (λ l. map (tree_at old) ns ++ map shown_tree (map see l)) (sym split)
          ∙ h.0,
      ap (λ l. all_true (map (is_whole new) l)) pushed
          ∙ ap all_true (map_push (is_whole new) ns n)
          ∙ all_append (map (is_whole new) ns) (is_whole new n ∷ []) on.1
          (and_from _ _ stays.1 refl),
      both.1,
    )

-- the entries of items are their pairs
pub entries_show : (d : Draft) (waiting : Option (Bor (List ℕ))) (xs : List (Item ℕ))
    → entries_seen d (entries_after waiting xs)
    ≡ pairs_after (waiting_key waiting) (map (piece_item_seen d) xs)
entries_show d waiting [] = refl
entries_show d waiting (x ∷ xs) = go x.term x.comma waiting (λ w. entries_show d w xs)
  where
    go : (m : Term ℕ) (f : Bool) (w : Option (Bor (List ℕ)))
        → ((v : Option (Bor (List ℕ))) → entries_seen d (entries_after v xs)
        ≡ pairs_after (waiting_key v) (map (piece_item_seen d) xs))
        → entries_seen d (entry_of_term w m ++ entries_after (key_after m) xs)
        ≡ pairs_after (waiting_key w) (piece_term_seen d m f ∷ map (piece_item_seen d) xs)
    go (terms.String s) f w more = more (Some s)
    go (terms.Group n) f (Some k) more = ap (λ es. (k.now, tree_at d n) ∷ es) (more None)
    go (terms.Group n) f None more = more None

-- the entries of items that are whole
pub entries_whole : (d : Draft) (waiting : Option (Bor (List ℕ))) (xs : List (Item ℕ))
    → all_true (map shown_borrowed (map (piece_item_seen d) xs)) ≡ true
    → are_whole d (entries_after waiting xs) ≡ true
entries_whole d waiting [] h = refl
entries_whole d waiting (x ∷ xs) h = go x.term x.comma waiting (λ w. entries_whole d w xs) h
  where
    go : (m : Term ℕ) (f : Bool) (w : Option (Bor (List ℕ)))
        → ((v : Option (Bor (List ℕ)))
        → all_true (map shown_borrowed (map (piece_item_seen d) xs)) ≡ true
        → are_whole d (entries_after v xs) ≡ true)
        → all_true (shown_borrowed (piece_term_seen d m f)
        ∷ map shown_borrowed (map (piece_item_seen d) xs)) ≡ true
        → are_whole d (entry_of_term w m ++ entries_after (key_after m) xs) ≡ true
    go (terms.String s) f w more h = more (Some s) (and_parts true _ h).1
    go (terms.Group n) f (Some k) more h =
        let both = and_parts (is_whole d n) _ h in and_from _ _ both.0 (more None both.1)
    go (terms.Group n) f None more h = more None (and_parts (is_whole d n) _ h).1

-- where no items are left, nothing more is put behind a list
pub nothing_left : {X : Type 0} (part : Bor (List ℕ) × ℕ → X) (all : List X)
    (waiting : Option (Bor (List ℕ))) (xs : List (Item ℕ)) → length xs ≡ 0
    → all ≡ all ++ map part (entries_after waiting xs)
nothing_left part all waiting xs h =
    sym (append-nil all)
    ∙ ap (λ ys. all ++ map part (entries_after waiting ys)) (sym (nil_from_length xs h))

-- a part of one entry more, or of none
pub pushed_more : {X : Type 0} (part : Bor (List ℕ) × ℕ → X) (old new : List X)
    (waiting next : Option (Bor (List ℕ))) (x : Item ℕ) (left rest : List (Item ℕ))
    → left ≡ x ∷ rest → next ≡ key_after x.term
    → new ≡ old ++ map part (entry_of_term waiting x.term)
    → new ++ map part (entries_after next rest) ≡ old ++ map part (entries_after waiting left)
pushed_more part old new waiting next x left rest split is more =
    (λ i. more i ++ map part (entries_after (is i) rest))
    ∙ append_assoc old (map part (entry_of_term waiting x.term))
    (map part (entries_after (key_after x.term) rest))
    ∙ ap (λ es. old ++ es)
    (sym (map-append part (entry_of_term waiting x.term) (entries_after (key_after x.term) rest)))
    ∙ ap (λ xs. old ++ map part (entries_after waiting xs)) (sym split)
