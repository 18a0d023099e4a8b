-- What each step does to all open groups beside their code.
use Rattle.std.proofs.Common.{◌≡◌, ℕ, ◌+◌, Bool, true, false, List, [], ◌∷◌, ◌++◌, get_or, length}
use Rattle.std.proofs.Common.{take, refl, sym, ◌∙◌, ap, subst, arith}
use Rattle.std.specs.Prelude.{map, slice_set, Some}
use Rattle.std.proofs.lemmas.Bool.{false_from_ne_true}
use Rattle.std.proofs.lemmas.List.{map_push, same_from_push, take_all, take_more_set, length-set}
use Rattle.std.proofs.lemmas.List.{length_push}
use Rattle.resb_tree.specs.Borrowing.{all_true}
use Rattle.resb_tree.specs.Tree.{Tree, table, map_of}
use Rattle.resb_grammar.specs.Items.{Term, Item, a_table, tree_in, is_pairs}
use Rattle.resb_grammar.specs.Machine as machine
use Rattle.resb_grammar.specs.Machine.{new_frame, shape_in, with_item, with_term}
use Rattle.resb_grammar.proofs.HalfLemmas.{no_comma as comma_ends}
use Rattle.resb_text.specs.declared.discovered.Keys.{Keys}
use Rattle.resb_text.specs.declared.frames.Body.{Body as CodeBody}
use Rattle.resb_text.specs.declared.frames.Frame.{Frame}
use Rattle.resb_text.specs.declared.frames.Open.{Open}
use Rattle.resb_text.specs.declared.items.Item.{Item as CodeItem}
use Rattle.resb_text.specs.declared.items.Term.{Term as CodeTerm}
use Rattle.resb_text.specs.declared.items.Term.TheVariants as terms
use Rattle.resb_text.specs.Inner.Build.{Represents, Grows, Adds}
use Rattle.resb_text.specs.Inner.Discovered.{group_count, OpensGroup, ListsCandidates}
use Rattle.resb_text.specs.Inner.Frames.{view_of_code, view_of_frame, views_of_frames, frames_in}
use Rattle.resb_text.specs.Inner.Frames.{FrameView, NumberedFrame, with_number, group_body_of}
use Rattle.resb_text.specs.Inner.Frames.{StandsFor, HoldsKeys, ClosesKeys, TakesComma, ClosesTo}
use Rattle.resb_text.specs.Inner.Frames.{IsTableWhole, tree_shown_in}
use Rattle.resb_text.specs.Inner.Shown.{shown_term_by, shown_by, shown_borrowed, shown_pairs}
use Rattle.resb_text.specs.Inner.Shown.{SeenItem, group_shown, items_seen, term_seen}
use Rattle.resb_text.proofs.BorrowedLemmas.{items_borrowed}
use Rattle.resb_text.proofs.Candidates.{keys_changed, keys_open, keys_close, keys_settle}
use Rattle.resb_text.proofs.Candidates.{comma_frame, from_comma}
use Rattle.resb_text.proofs.FramesLemmas.{Pushes, tree_same, last_is, shown_some, comma_shown}
use Rattle.resb_text.proofs.Growing.{grown, all_grown}
use Rattle.resb_text.proofs.ShownLemmas.{pairs_shown}

-- the groups with another innermost one, other candidates and more that is made
abbrev pub now : {B X : Type 0} → Open B X → Frame X → Keys → B → Open B X
now c f k b = record { frame = f; around = c.around; keys = k; spare = c.spare; build = b }

module _ {B X : Type 0} {tree : B → X → Tree} {held : B → X → Bool} where
  -- one item more
  pub shows_term : (c : Open B X) {o : machine.Open} (m : Term) {f : Frame X} {k : Keys} {b : B}
      (term : CodeTerm X) (x : StandsFor tree held c o)
      → shown_term_by (tree b) (held b) term false ≡ term_seen m false
      → Grows tree held c.build b → Pushes (tree b) (held b) c.frame f term
      → HoldsKeys k (with_number x.number (with_item m o.frame)) x.around
      → StandsFor tree held (now c f k b) (with_term m o)
  shows_term c {o} m {b = b} term x is grow push keys = record {
    number = x.number;
    around = x.around;
    frame = push x.number o.frame m
        (grown tree held c.build b grow c.frame (with_number x.number o.frame) x.frame) is;
    outer = all_grown tree held c.build b grow c.around.items x.around x.outer;
    frames = x.frames;
    keys = keys;
  }

  -- an open group within
  pub shows_open : (c d : Open B X) (o : machine.Open) (b : CodeBody) → d.build ≡ c.build
      → (x : StandsFor tree held c o)
      → view_of_code (tree d.build) (held d.build) d.frame
      ≡ view_of_frame (with_number (group_count c.keys) (new_frame (group_body_of b)))
      → d.around.items ≡ c.around.items ++ c.frame ∷ []
      → {g : ℕ} → OpensGroup g c.keys d.keys
      → StandsFor tree held d (machine.within (group_body_of b) o)
  shows_open c d o b same x e a keys =
      let view = view_of_code (tree c.build) (held c.build) in
      record {
        number = group_count c.keys;
        around = with_number x.number o.frame ∷ x.around;
        frame = e;
        outer = (λ i. map (view_of_code (tree (same i)) (held (same i))) (a i))
            ∙ map_push view c.around.items c.frame ∙ (λ i. x.outer i ++ x.frame i ∷ []);
        frames = ap (λ fs. o.frame ∷ fs) x.frames;
        keys = keys_open c.keys d.keys _ x.around (group_body_of b) keys x.keys;
      }

  -- the innermost group is closed
  pub shows_close : (c d : Open B X) (o : machine.Open) (outer : Frame X) (made : X)
      → (x : StandsFor tree held c o) → IsTableWhole o.frame
      → c.around.items ≡ d.around.items ++ outer ∷ []
      → Pushes (tree d.build) (held d.build) outer d.frame (terms.Group made)
      → ((n : ℕ) (f : machine.Frame)
      → view_of_code (tree c.build) (held c.build) c.frame ≡ view_of_frame (with_number n f)
      → Adds tree held c.build d.build made
      (tree_shown_in (shape_in f.body f.items) (items_seen f.items)))
      → ClosesKeys (view_of_code (tree c.build) (held c.build) c.frame) c.keys d.keys
      → ClosesTo tree held d o o.around
  shows_close c d o outer made x whole a push stands closes =
      subst (λ fs. ClosesTo tree held d o fs) x.frames
      (go x.around (all_grown tree held c.build d.build added.1 c.around.items x.around x.outer)
      x.keys)
    where
      added : Adds tree held c.build d.build made
          (tree_shown_in (shape_in o.frame.body o.frame.items) (items_seen o.frame.items))
      added = stands x.number o.frame x.frame

      is : shown_term_by (tree d.build) (held d.build) (terms.Group made) false
          ≡ term_seen (machine.closed o.frame) false
      is =
          let same = tree_same o.frame.body o.frame.items _ refl whole in
          (λ i. group_shown ((added.0.0 ∙ same) i) (added.0.1 i) false)

      go : (gs : List NumberedFrame)
          → map (view_of_code (tree d.build) (held d.build)) c.around.items ≡ views_of_frames gs
          → HoldsKeys c.keys (with_number x.number o.frame) gs
          → ClosesTo tree held d o (frames_in gs)
      go [] e keys = tt
      go (h ∷ gs) e keys =
          let view = view_of_code (tree d.build) (held d.build) in
          let parts = same_from_push _ _ _ _
          (sym (map_push view d.around.items outer) ∙ sym (ap (map view) a) ∙ e) in
          record {
            number = h.number;
            around = gs;
            frame = push h.number h.frame (machine.closed o.frame) parts.1 is;
            outer = parts.0;
            frames = refl;
            keys =
                keys_close c.keys d.keys h.number o.frame h.frame gs x.frame closes whole keys;
          }

  -- where the root alone is open, all candidates that are left are keys
  pub shows_settled : (c : Open B X) {k : Keys} (o : machine.Open) → c.around.items ≡ []
      → ListsCandidates c.keys k → StandsFor tree held c o
      → StandsFor tree held (now c c.frame k c.build) o
  shows_settled c {k} o alone lists x = record {
    number = x.number;
    around = x.around;
    frame = x.frame;
    outer = x.outer;
    frames = x.frames;
    keys = go x.around (sym x.outer ∙ ap (map (view_of_code (tree c.build) (held c.build))) alone)
        x.keys;
  }
    where
      go : (gs : List NumberedFrame) → views_of_frames gs ≡ []
          → HoldsKeys c.keys (with_number x.number o.frame) gs
          → HoldsKeys k (with_number x.number o.frame) gs
      go [] e keys = keys_settle c.keys k _ lists keys
      go (g ∷ gs) e keys =
          absurd (omega (arith, ap length e, length_push (views_of_frames gs) (view_of_frame g)))

  -- so too where a group is closed
  pub closes_settled : (c d : Open B X) (o : machine.Open)
      → ((u : machine.Open) → StandsFor tree held c u → StandsFor tree held d u)
      → (fs : List machine.Frame) → ClosesTo tree held c o fs → ClosesTo tree held d o fs
  closes_settled c d o on [] h = tt
  closes_settled c d o on (f ∷ fs) h = on _ h

  -- the root is closed
  pub root_made : (c : Open B X) (o : machine.Open) (b : B) (made : X)
      → StandsFor tree held c o
      → is_pairs o.frame.items ≡ true
      → (all_true (map shown_borrowed (map (shown_by (tree c.build)
      (held c.build)) c.frame.items.items)) ≡ true
      → Adds tree held c.build b made
      (table (map_of (shown_pairs (map (shown_by (tree c.build)
      (held c.build)) c.frame.items.items)))))
      → Represents tree held b made (tree_in a_table o.frame.items)
  root_made c o b made x table_is_pairs stands =
      let h = (stands (items_borrowed (tree c.build)
      (held c.build) c.frame x.number o.frame x.frame)).0 in (
        h.0
            ∙ ap (λ ys. table (map_of (shown_pairs ys))) (ap (λ (k : FrameView). k.items) x.frame)
            ∙ ap (λ ps. table (map_of ps)) (pairs_shown o.frame.items table_is_pairs),
        h.1,
      )

  -- a comma behind the last item
  pub shows_comma : (c : Open B X) {f : Frame X} (o : machine.Open) (x y : CodeItem X) (k : ℕ)
      → (s : StandsFor tree held c o) → k + 1 ≡ length c.frame.items.items
      → x ≡ get_or c.frame.items.items k x → x.comma ≡ false → y ≡ get_or c.frame.items.items k y
      → f.body ≡ c.frame.body → f.number ≡ c.frame.number → f.alternates ≡ false
      → f.items.items
      ≡ slice_set c.frame.items.items k (record { term = y.term; comma = true })
      → TakesComma tree held (now c f c.keys c.build) o
  shows_comma c {f} o x y k s long xs no_comma ys b n t i = go o.frame.items refl
    where
      see : CodeItem X → SeenItem
      see = shown_by (tree c.build) (held c.build)

      items : map see c.frame.items.items ≡ items_seen o.frame.items
      items = ap (λ (l : FrameView). l.items) s.frame

      go : (ws : List Item) → o.frame.items ≡ ws
          → (u : machine.Open) × (machine.with_comma o ws ≡ Some (machine.inside u))
          × StandsFor tree held (now c f c.keys c.build) u
      go [] w = absurd (omega (arith, long, shown_some _ _ _ [] (items ∙ ap items_seen w)))
      go (v ∷ vs) w =
          let last = λ (d : CodeItem X). last_is see c.frame.items.items k d _ _ long
          (items ∙ ap items_seen w) in
          let was = comma_shown _ _ x.term v.term x.comma v.comma (ap see xs ∙ (last x).1) in
          let is = comma_shown _ _ y.term v.term y.comma v.comma (ap see ys ∙ (last y).1) in
          let set : CodeItem X = record { term = y.term; comma = true } in (
            record { title = o.title; frame = comma_frame o.frame v.term vs; around = o.around },
            rw (sym was.0 ∙ no_comma) refl,
            record {
              number = s.number;
              around = s.around;
              frame =
                  (λ j. record {
                    body = (ap group_body_of b ∙ ap (λ (l : FrameView). l.body) s.frame) j;
                    items =
                        (ap (map see) (i ∙ sym (take_all (k + 1) (slice_set _ k set)
                        (omega (arith, length-set c.frame.items.items k set)))
                        ∙ take_more_set _ k set (omega arith))
                        ∙ map_push see (take k c.frame.items.items) set
                        ∙ (λ h. (last x).0 h ++ is.1 h ∷ [])) j;
                    alternates = (t ∙ sym (false_from_ne_true _ (comma_ends v.term vs))) j;
                    number = (n ∙ ap (λ (l : FrameView). l.number) s.frame) j;
                  });
              outer = s.outer;
              frames = s.frames;
              keys = keys_changed (from_comma s.number o.frame v.term v.comma vs w) s.keys;
            },
          )
