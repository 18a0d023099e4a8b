-- Pieces of a draft that is read into: which of them are tables, and what is put behind them.
use Rattle.std.proofs.Common.{◌≡◌, ℕ, Bool, List, [], Bor, length, sym, ◌∙◌, ap, ◌++◌, map}
use Rattle.std.proofs.lemmas.List.{length-map}
use Rattle.resb_tree.specs.LayingOrder.{own_keys}
use Rattle.resb_tree.specs.Tree.{table, map_of}
use Rattle.resb_tree.proofs.AtOnce.{inserted}
use Rattle.resb_draft.specs.Drafts.{tree_at, is_whole, Keeps, IsMade, texts, EndsInEntries}
use Rattle.resb_draft.specs.declared.draft.Draft.{Draft}
use Rattle.resb_icu_text.specs.Inner.Build.{Grows, PutsBehind, pairs_by}
use Rattle.resb_icu_text.specs.Inner.Kept.{Test}
use Rattle.resb_icu_text.proofs.DistinctLemmas.{keyed, keys_count}

-- whether a piece is whole, whatever its strings pass
abbrev pub whole_in : Draft → ℕ → Test → Bool
whole_in d n t = is_whole d n

-- what a draft keeps stays while it grows
pub keeps_grow : (old new : Draft) → Keeps old new → Grows tree_at whole_in old new
keeps_grow old new k n t h = k n h

-- how many keys a table has that was made of entries
pub keys_made : (d new : Draft) (n : ℕ) (es : List (Bor (List ℕ) × ℕ)) (ks : List (Bor (List ℕ)))
    → IsMade new n (table (map_of (pairs_by (tree_at d) es)))
    → texts ks ≡ own_keys (tree_at new n) → length ks ≡ length (inserted [] (keyed es))
keys_made d new n es ks made is =
    sym (length-map ks (λ (k : Bor (List ℕ)). k.now)) ∙ ap length is
    ∙ ap (λ t. length (own_keys t)) made.0 ∙ keys_count (tree_at d) es

-- a draft with these entries behind its members and keys, by other words
pub ends_at : (d new : Draft) (m k : ℕ) (ps es : List (Bor (List ℕ) × ℕ)) → PutsBehind d ps new
    → m ≡ length d.members.items → k ≡ length d.keys.items → ps ≡ es → EndsInEntries d m k es new
ends_at d new m k ps es p e f g = (
  e,
  f,
  p.2,
  p.3 ∙ ap (λ ps. d.members.items ++ map (λ (e : Bor (List ℕ) × ℕ). e.1) ps) g,
  p.4 ∙ ap (λ ps. d.keys.items ++ map (λ (e : Bor (List ℕ) × ℕ). e.0) ps) g,
)
