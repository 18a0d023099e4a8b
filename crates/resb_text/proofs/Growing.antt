-- What an open group shows stays while more is made of other groups.
use Rattle.std.proofs.Common.{◌≡◌, ℕ, Bool, true, List, [], ◌∷◌, ◌++◌, refl, sym, ◌∙◌, ap}
use Rattle.std.specs.Prelude.{map, Result, Ok, Err, IfOk}
use Rattle.std.proofs.lemmas.Bool.{and_parts}
use Rattle.std.proofs.lemmas.List.{map_push}
use Rattle.resb_tree.specs.Tree.{Tree}
use Rattle.resb_tree.specs.Borrowing.{all_true}
use Rattle.resb_grammar.specs.Items.{Shape}
use Rattle.resb_grammar.specs.Machine as machine
use Rattle.resb_grammar.specs.Machine.{shape_in}
use Rattle.resb_text.specs.Inner.Build.{Grows, Adds}
use Rattle.resb_text.specs.Inner.Shown.{group_shown, shown_by, shown_term_by, items_seen}
use Rattle.resb_text.specs.Inner.Shown.{shown_borrowed}
use Rattle.resb_text.specs.Inner.Frames.{view_of_code, view_of_frame, views_of_frames, FrameView}
use Rattle.resb_text.specs.Inner.Frames.{NumberedFrame, with_number, tree_shown_in}
use Rattle.resb_text.specs.declared.frames.Frame.{Frame}
use Rattle.resb_text.specs.declared.items.Item.{Item}
use Rattle.resb_text.specs.declared.items.Term.{Term}
use Rattle.resb_text.specs.declared.items.Term.TheVariants as terms
use Rattle.resb_text.proofs.BorrowedLemmas.{items_borrowed}

-- the groups in the order in which the code lists them
in_order : (gs : List NumberedFrame)
    → (hs : List NumberedFrame) × (views_of_frames gs ≡ map view_of_frame hs)
in_order [] = ([], refl)
in_order (g ∷ gs) =
    let rest = in_order gs in (
      rest.0 ++ g ∷ [],
      ap (λ vs. vs ++ view_of_frame g ∷ []) rest.1 ∙ sym (map_push view_of_frame rest.0 g),
    )

module _ {B X : Type 0} (tree : B → X → Tree) (held : B → X → Bool) (b d : B)
    (grows : Grows tree held b d) where
  grown_term : (m : Term X) (f : Bool)
      → shown_borrowed (shown_term_by (tree b) (held b) m f) ≡ true
      → shown_term_by (tree d) (held d) m f ≡ shown_term_by (tree b) (held b) m f
  grown_term (terms.String s) f h = refl
  grown_term (terms.Group x) f h =
      let g = grows x h in
      ap (λ t. group_shown t (held d x) f) g.0
      ∙ ap (λ k. group_shown (tree b x) k f) (g.1 ∙ sym h)

  -- items that are whole
  pub grown_items : (xs : List (Item X))
      → all_true (map shown_borrowed (map (shown_by (tree b) (held b)) xs)) ≡ true
      → map (shown_by (tree d) (held d)) xs ≡ map (shown_by (tree b) (held b)) xs
  grown_items [] h = refl
  grown_items (x ∷ xs) h =
      let parts = and_parts (shown_borrowed (shown_by (tree b) (held b) x)) _ h in
      ap (λ y. y ∷ map (shown_by (tree d) (held d)) xs) (grown_term x.term x.comma parts.0)
      ∙ ap (λ ys. shown_by (tree b) (held b) x ∷ ys) (grown_items xs parts.1)

  -- an open group
  pub grown : (f : Frame X) (g : NumberedFrame) → view_of_code (tree b) (held b) f ≡ view_of_frame g
      → view_of_code (tree d) (held d) f ≡ view_of_frame g
  grown f g e =
      (λ i. record {
        body = (e i).body;
        items = (grown_items f.items.items (items_borrowed (tree b) (held b) f g.number g.frame e)
            ∙ ap (λ (l : FrameView). l.items) e) i;
        alternates = (e i).alternates;
        number = (e i).number;
      })

  each_grown : (fs : List (Frame X)) (gs : List NumberedFrame)
      → map (view_of_code (tree b) (held b)) fs ≡ map view_of_frame gs
      → map (view_of_code (tree d) (held d)) fs ≡ map view_of_frame gs
  each_grown [] [] e = refl
  each_grown [] (g ∷ gs) e = cc
  each_grown (f ∷ fs) [] e = cc
  each_grown (f ∷ fs) (g ∷ gs) e = λ i. grown f g (cc) i ∷ each_grown fs gs (cc) i

  -- the open groups around it
  pub all_grown : (fs : List (Frame X)) (gs : List NumberedFrame)
      → map (view_of_code (tree b) (held b)) fs ≡ views_of_frames gs
      → map (view_of_code (tree d) (held d)) fs ≡ views_of_frames gs
  all_grown fs gs e = let s = in_order gs in each_grown fs s.0 (e ∙ s.1) ∙ sym s.1

-- what is made of a closed group
pub closed_made : {B X E : Type 0} (tree : B → X → Tree) (held : B → X → Bool)
    (r : Result X E) (b d : B) (c : Frame X) (sh : Shape)
    → ((n : ℕ) (f : machine.Frame)
    → view_of_code (tree b) (held b) c ≡ view_of_frame (with_number n f)
    → sh ≡ shape_in f.body f.items)
    → (all_true (map shown_borrowed (map (shown_by (tree b) (held b)) c.items.items)) ≡ true
    → IfOk r (λ x. Adds tree held b d x
    (tree_shown_in sh (map (shown_by (tree b) (held b)) c.items.items))))
    → IfOk r (λ x. (n : ℕ) (f : machine.Frame)
    → view_of_code (tree b) (held b) c ≡ view_of_frame (with_number n f)
    → Adds tree held b d x (tree_shown_in (shape_in f.body f.items) (items_seen f.items)))
closed_made tree held (Ok x) b d c sh is made = λ n f e.
    let h = made (items_borrowed (tree b) (held b) c n f e) in (
      (
        h.0.0
            ∙ ap (λ ys. tree_shown_in sh ys) (ap (λ (l : FrameView). l.items) e)
            ∙ ap (λ k. tree_shown_in k (items_seen f.items)) (is n f e),
        h.0.1,
      ),
      h.1,
    )
closed_made tree held (Err e) b d c sh is made = tt
