-- Borrowed strings, level by level.
use Rattle.std.proofs.Common.{◌≡◌, ℕ, Bool, true, not, List, [], ◌∷◌, BTreeMap, nat_cmp, refl, ap}
use Rattle.std.proofs.Common.{◌∙◌}
use Rattle.std.specs.Prelude.{map}
use Rattle.std.proofs.lemmas.List.{map_push}
use Rattle.std.specs.BTreeMap.{insert_entry, IsFromIterResult}
use Rattle.std.specs.Cmp.Lexicographic.{slice_cmp}
use Rattle.resb_tree.specs.declared.resource.Resource.{Resource, Table}
use Rattle.resb_tree.specs.Borrowing.{all_true, is_slice, are_slice}
use Rattle.resb_tree.specs.Tree.{Tree}
use Rattle.resb_tree.proofs.BorrowingLemmas.{all_snoc, table_passes, insert_passes, made_passes}
use Rattle.resb_grammar.specs.Items as spec
use Rattle.resb_grammar.specs.Machine as machine
use Rattle.resb_text.specs.Inner.Frames.{FrameView, view_of_code, view_of_frame, with_number}
use Rattle.resb_text.specs.declared.frames.Frame.{Frame}
use Rattle.resb_text.specs.Borrowed.{borrows_strings}
use Rattle.resb_text.specs.Inner.Shown.{shown_by, items_seen, shown_borrowed, entries_borrowed}
use Rattle.resb_text.specs.Inner.Shown.{term_seen}

-- a table's strings are borrowed where its entries' are
pub borrowed_table : (m : BTreeMap (List ℕ) Resource)
    → borrows_strings (Table m) ≡ entries_borrowed m.entries
borrowed_table = table_passes is_slice (λ b. not (are_slice b))

-- an entry more in a table
pub insert_borrowed : (es : List (List ℕ × Resource)) (k : List ℕ) (v : Resource)
    → borrows_strings v ≡ true → entries_borrowed es ≡ true
    → entries_borrowed (insert_entry (slice_cmp nat_cmp) es k v) ≡ true
insert_borrowed = insert_passes is_slice (λ b. not (are_slice b))

-- a table that is made at once of borrowed entries
pub made_borrowed : (ps : List (List ℕ × Resource)) (m : BTreeMap (List ℕ) Resource)
    → IsFromIterResult (slice_cmp nat_cmp) ps m → entries_borrowed ps ≡ true
    → entries_borrowed m.entries ≡ true
made_borrowed = made_passes is_slice (λ b. not (are_slice b))

term_borrowed : (m : spec.Term) (f : Bool) → shown_borrowed (term_seen m f) ≡ true
term_borrowed (spec.string_term s) f = refl
term_borrowed (spec.group_term t ks) f = refl

-- what the machine's items show is borrowed
pub shows_borrowed : (xs : List spec.Item) → all_true (map shown_borrowed (items_seen xs)) ≡ true
shows_borrowed [] = refl
shows_borrowed (x ∷ xs) =
    ap all_true (map_push shown_borrowed (items_seen xs) (term_seen x.term x.comma))
    ∙ all_snoc (map shown_borrowed (items_seen xs)) (shown_borrowed (term_seen x.term x.comma))
    (shows_borrowed xs) (term_borrowed x.term x.comma)

-- what an open group of the code holds is borrowed
pub items_borrowed : {X : Type 0} (tree : X → Tree) (held : X → Bool) (f : Frame X) (n : ℕ)
    (g : machine.Frame) → view_of_code tree held f ≡ view_of_frame (with_number n g)
    → all_true (map shown_borrowed (map (shown_by tree held) f.items.items)) ≡ true
items_borrowed tree held f n g e =
    ap (λ (l : FrameView). all_true (map shown_borrowed l.items)) e ∙ shows_borrowed g.items
