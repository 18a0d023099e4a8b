-- Texts by their indexes among others, and pieces by their numbers.
--     AreNumbered T ns us     us are the texts that stand in T at the indexes ns
--     AreNumberedKeys m ns ks a map has each of the keys ks once, and ns are their indexes there
--     NumbersKeys n ks        so have numbered keys
--     TakesPieces ps ns ts    the pieces of these numbers stand for the trees ts
use Rattle.std.specs.Prelude.{◌≡◌, ℕ, ◌<◌, true, List, [], length, map, All, slice_index_or}
use Rattle.std.specs.Borrow.{Bor}
use Rattle.std.specs.Map.{keys_of}
use Rattle.std.specs.Option.{is_some}
use Rattle.indexmap.specs.IndexMap.{IndexMap}
use Rattle.resb_pool.specs.Plan.{nows, at_text}
use Rattle.resb_layout.specs.KeyBlock.{is_among}
use Rattle.resb_tree.specs.Borrowing.{all_true}
use Rattle.resb_tree.specs.Tree.{Tree}
use Rattle.resb_draft.specs.Drafts.{tree_at, is_whole}
use Rattle.resb_draft.specs.declared.draft.Draft.{Draft}
use Rattle.resb_draft.specs.declared.draft.Piece.{Piece}
use Rattle.resb_write.specs.declared.numbered_keys.NumberedKeys.{NumberedKeys}

-- each index is one of T, and the texts there are us
pub record AreNumbered (T : List (List ℕ)) (ns : List ℕ) (us : List (List ℕ)) : Type 0 where
  pub within : All (λ n. n < length T) ns
  pub are : map (λ n. slice_index_or T n []) ns ≡ us

-- a map has each of some keys once, and each index is that of the key at its place
pub record AreNumberedKeys {V H : Type 0} (m : IndexMap (Bor (List ℕ)) V H) (ns : List ℕ)
    (ks : List (List ℕ)) : Type 0 where
  pub among : (q : List ℕ) → is_some (at_text m q) ≡ is_among ks q
  pub numbers : AreNumbered (nows (keys_of m.entries)) ns ks

abbrev pub NumbersKeys : NumberedKeys → List (List ℕ) → Type 0
NumbersKeys n ks = AreNumberedKeys n.distinct n.numbers.items ks

-- the pieces of some draft, of which those of these numbers are whole and stand for these trees
pub record TakesPieces (ps : List Piece) (ns : List ℕ) (ts : List Tree) : Type 0 where
  pub draft : Draft
  pub pieces : draft.pieces.items ≡ ps
  pub trees : map (tree_at draft) ns ≡ ts
  pub whole : all_true (map (is_whole draft) ns) ≡ true
