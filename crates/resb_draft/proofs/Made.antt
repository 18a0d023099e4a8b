-- What the pieces of arrays and tables stand for once their members stand in the draft.
use Rattle.std.proofs.Common.{◌≡◌, ℕ, ◌+◌, true, List, ◌++◌, Bor, map, sym, ◌∙◌}
use Rattle.std.proofs.Common.{ap, arith, length}
use Rattle.std.specs.List.{zip}
use Rattle.std.proofs.lemmas.Bool.{and_from, le-leb}
use Rattle.std.proofs.lemmas.List.{length-append, length-map}
use Rattle.std.proofs.lemmas.Simd.{map-map}
use Rattle.resb_tree.specs.Borrowing.{all_true}
use Rattle.resb_tree.specs.Tree.{array, table, trees_of, entries_of}
use Rattle.resb_draft.specs.Drafts.{texts, texts_ascend, trees_at, all_whole, part, is_inside}
use Rattle.resb_draft.specs.Drafts.{piece_meaning, pieces_stand, tree_at, is_whole}
use Rattle.resb_draft.specs.Inner.Entries.{keys_ascend}
use Rattle.resb_draft.specs.declared.draft.Draft.{Draft}
use Rattle.resb_draft.specs.declared.draft.Members.{Members}
use Rattle.resb_draft.specs.declared.draft.Piece.TheVariants as piece
use Rattle.resb_draft.proofs.Lists.{part_behind, zip_maps, texts-append}
use Rattle.resb_draft.proofs.Standing.{Agrees, same_trees}

-- the part of a list that was put behind it
behind_is : {X : Type 0} (xs ys all : List X) (from : ℕ) (m : Members) → all ≡ xs ++ ys
    → from ≡ length xs → m.count ≡ length ys
    → (part all from m ≡ ys) × (is_inside all from m ≡ true)
behind_is xs ys all from m e at many = (
  ap (λ l. part l from m) e
      ∙ part_behind xs ys from (from + m.count) at (omega (arith, many)),
  le-leb (from + m.count) (length all)
      (omega (arith, ap length e, length-append xs ys, at, many)),
)

-- an array of members that stand in a draft behind others
pub array_made : (old mid : Draft) (front ns : List ℕ) (m : Members)
    → mid.members.items ≡ front ++ ns → m.from ≡ length front
    → m.count ≡ length ns → Agrees (pieces_stand old) (pieces_stand mid)
    → all_true (map (is_whole old) ns) ≡ true
    → piece_meaning mid.members.items (texts mid.keys.items) (pieces_stand mid) (piece.Array m)
    ≡ (array (trees_of (map (tree_at old) ns)), true)
array_made old mid front ns m e at many f h =
    let own = behind_is front ns mid.members.items m.from m e at many in
    let whole = same_trees (pieces_stand old) (pieces_stand mid) f ns h in
    let trees = ap (trees_at (pieces_stand mid)) own.0 ∙ whole.0 in
    let test = and_from _ _ own.1 (ap (all_whole (pieces_stand mid)) own.0 ∙ whole.1) in
    λ i. (array (trees_of (trees i)), test i)

-- a table of entries whose values stand in a draft behind others
pub table_made : (old mid : Draft) (front : List ℕ) (keys_before : List (Bor (List ℕ)))
    (es : List (Bor (List ℕ) × ℕ)) (m : Members) (k : ℕ)
    → mid.members.items ≡ front ++ map (λ e. e.1) es
    → mid.keys.items ≡ keys_before ++ map (λ e. e.0) es
    → m.from ≡ length front → k ≡ length keys_before → m.count ≡ length es
    → Agrees (pieces_stand old) (pieces_stand mid) → keys_ascend es ≡ true
    → all_true (map (λ e. is_whole old e.1) es) ≡ true
    → piece_meaning mid.members.items (texts mid.keys.items) (pieces_stand mid) (piece.Table m k)
    ≡ (table (entries_of (map (λ e. (e.0.now, tree_at old e.1)) es)), true)
table_made old mid front keys_before es m k e f at first many agrees ascend h =
    let value : Bor (List ℕ) × ℕ → ℕ = λ e. e.1 in
    let key : Bor (List ℕ) × ℕ → Bor (List ℕ) = λ e. e.0 in
    let ns = map value es in
    let ks = texts keys_before in
    let now : Bor (List ℕ) → List ℕ = λ b. b.now in
    let own = behind_is front ns mid.members.items m.from m e at
    (many ∙ sym (length-map es value)) in
    let keys = behind_is ks (texts (map key es)) (texts mid.keys.items) k m
    (ap texts f ∙ texts-append keys_before (map key es))
    (first ∙ sym (length-map keys_before now))
    (many ∙ sym (length-map es key) ∙ sym (length-map (map key es) now)) in
    let whole = same_trees (pieces_stand old) (pieces_stand mid) agrees ns
    (ap all_true (map-map (is_whole old) value es) ∙ h) in
    let trees = ap (trees_at (pieces_stand mid)) own.0 ∙ whole.0
    ∙ map-map (tree_at old) value es in
    let names = keys.0 ∙ map-map now key es in
    let test = and_from _ _ (and_from _ _ own.1 keys.1)
    (and_from _ _ (ap texts_ascend names ∙ ascend)
    (ap (all_whole (pieces_stand mid)) own.0 ∙ whole.1)) in
    (λ i. (table (entries_of (zip (names i) (trees i))), test i))
    ∙ ap (λ l. (table (entries_of l), true))
    (zip_maps (λ (e : Bor (List ℕ) × ℕ). e.0.now) (λ (e : Bor (List ℕ) × ℕ). tree_at old e.1) es)
