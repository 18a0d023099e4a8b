-- Entries of a table that stand behind a draft's own members and keys.
use Rattle.std.proofs.Common.{◌≡◌, ℕ, ◌-◌, true, List, [], ◌∷◌, map, refl, sym, ◌∙◌}
use Rattle.std.proofs.Common.{ap, subst, Bor, length, take, drop}
use Rattle.std.specs.List.{zip}
use Rattle.std.proofs.lemmas.Bool.{and_from, and_parts}
use Rattle.std.proofs.lemmas.List.{take_rest}
use Rattle.resb_tree.specs.Borrowing.{all_true}
use Rattle.resb_draft.specs.Drafts.{texts, all_stand, pieces_stand, tree_at, is_whole}
use Rattle.resb_draft.specs.Drafts.{Keeps, EndsInEntries}
use Rattle.resb_draft.specs.declared.draft.Draft.{Draft}
use Rattle.resb_draft.proofs.EntriesLemmas.{seen}
use Rattle.resb_draft.proofs.Lists.{drop_to_put, take_before_put}
use Rattle.resb_draft.proofs.Standing.{Agrees, agrees_same, grown, agrees_keeps, more_entries}

-- what is whole without the entries stays so with them
pub entries_keep : (before d : Draft) (m k : ℕ) (ps : List (Bor (List ℕ) × ℕ))
    → EndsInEntries before m k ps d → Keeps before d
entries_keep before d m k ps h =
    agrees_keeps before d (grown before d (more_entries before d _ _ h.2 h.3 h.4))

-- the members behind are the entries' values
pub members_behind : (before d : Draft) (m k : ℕ) (ps : List (Bor (List ℕ) × ℕ))
    → EndsInEntries before m k ps d → drop m d.members.items ≡ map (λ p. p.1) ps
members_behind before d m k ps h =
    drop_to_put before.members.items (map (λ (p : Bor (List ℕ) × ℕ). p.1) ps) d.members.items m
    h.0 h.3

-- and the keys theirs
pub keys_behind : (before d : Draft) (m k : ℕ) (ps : List (Bor (List ℕ) × ℕ))
    → EndsInEntries before m k ps d → drop k d.keys.items ≡ map (λ p. p.0) ps
keys_behind before d m k ps h =
    drop_to_put before.keys.items (map (λ (p : Bor (List ℕ) × ℕ). p.0) ps) d.keys.items k
    h.1 h.4

-- entries whose values are whole show the same while a draft grows
pub entries_on : (old new : Draft) → Keeps old new → (ps : List (Bor (List ℕ) × ℕ))
    → all_true (map (λ p. is_whole old p.1) ps) ≡ true
    → (seen (tree_at new) ps ≡ seen (tree_at old) ps)
    × (all_true (map (λ p. is_whole new p.1) ps) ≡ true)
entries_on old new k [] h = (refl, refl)
entries_on old new k (p ∷ ps) h =
    let both = and_parts (is_whole old p.1) _ h in
    let first = k p.1 both.0 in
    let rest = entries_on old new k ps both.1 in
    ((λ i. (p.0.now, first.0 i) ∷ rest.0 i), and_from _ _ first.1 rest.1)

zip_parts : {X Y : Type 0} (ps : List (X × Y))
    → zip (map (λ (p : X × Y). p.0) ps) (map (λ (p : X × Y). p.1) ps) ≡ ps
zip_parts [] = refl
zip_parts (p ∷ ps) = ap (λ l. p ∷ l) (zip_parts ps)

-- the keys and members behind, side by side, are the entries
pub pairs_behind : (before d : Draft) (m k : ℕ) (ps : List (Bor (List ℕ) × ℕ))
    → EndsInEntries before m k ps d → (ks : List (Bor (List ℕ))) (ns : List ℕ)
    → ks ≡ d.keys.items → ns ≡ d.members.items
    → zip (take (length ks - k) (drop k ks)) (take (length ns - m) (drop m ns)) ≡ ps
pairs_behind before d m k ps h ks ns names values =
    let keys = take_rest ks k ∙ ap (drop k) names ∙ keys_behind before d m k ps h in
    let members = take_rest ns m ∙ ap (drop m) values ∙ members_behind before d m k ps h in
    (λ i. zip (keys i) (members i)) ∙ zip_parts ps

-- pieces stand for what they did where the entries are taken away
pub stand_before : (before d cut : Draft) (m k : ℕ) (ps : List (Bor (List ℕ) × ℕ))
    → EndsInEntries before m k ps d → cut.pieces.items ≡ d.pieces.items
    → cut.members.items ≡ take m d.members.items → cut.keys.items ≡ take k d.keys.items
    → pieces_stand cut ≡ pieces_stand before
stand_before before d cut m k ps h pieces members keys =
    let ns = members ∙ take_before_put before.members.items _ d.members.items m h.0 h.3 in
    let ks = keys ∙ take_before_put before.keys.items _ d.keys.items k h.1 h.4 in
    λ i. all_stand (ns i) (texts (ks i)) [] ((pieces ∙ h.2) i)

-- what stands for the same is whole still
pub same_keeps : (old new : Draft) → pieces_stand new ≡ pieces_stand old → Keeps old new
same_keeps old new e =
    agrees_keeps old new
    (subst (Agrees (pieces_stand old)) (sym e) (agrees_same (pieces_stand old)))
