-- Open collections: steps forward, and refusals carried from a member to the collection's word.
use Rattle.std.proofs.Common.{inl, inr, ℕ, List, [], ◌∷◌, ◌++◌, ◌≡◌, ◌+◌, Some}
use Rattle.std.proofs.Common.{None, refl, sym, ◌∙◌, ap, subst, arith, append_assoc, append-nil}
use Rattle.resb_tree.specs.Tree.{Tree, array, table, trees_of, map_of}
use Rattle.resb_format.specs.Parts.{Parts}
use Rattle.resb_format.specs.Lookups.{key_in}
use Rattle.resb_format.specs.Content.{Member, list, entry_list, content_at}
use Rattle.resb_format.specs.Denotes.{Den, den_list, den_entries, DenMember, each_none}
use Rattle.resb_format.specs.Denotes.{entries_none, Reaches, reaches_list, reaches_entries}
use Rattle.resb_format.specs.Denotes.{ReachesMember, each_here}
use Rattle.resb_format.specs.Denotes.{entries_here}
use Rattle.resb_walk.specs.Inner.Members.{members_of, keyed_members}
use Rattle.resb_walk.specs.Inner.Frames.{OpenedList, OpenedTable, ListWaits, TableWaits}
use Rattle.resb_walk.specs.Inner.Frames.{Waits}
use Rattle.resb_walk.specs.Refusals.{DenotesNothing, Refuses}
use Rattle.resb_walk.specs.declared.members.Members.{Members}
use Rattle.resb_walk.specs.declared.members.TableParts.{TableParts}
use Rattle.resb_walk.specs.declared.frame.Waiting.{Waiting}
use Rattle.resb_walk.specs.declared.frame.Waiting.TheVariants as waiting
use Rattle.resb_format.specs.declared.error.ReadingError.{ReadingError}
use Rattle.resb_walk.proofs.DenotesLemmas.{each_snoc, reach_after, none_each, stuck_each}
use Rattle.resb_walk.proofs.Entries.{entries_snoc, reach_after_entries, none_entries, stuck_entries}
use Rattle.resb_walk.proofs.Lift.{stuck_list, stuck_entries_of}
use Rattle.resb_format.proofs.Lists.{some_none}

module _ {L T : Type 0} (lists : L → List Tree → Type 0)
    (tables : T → List (List ℕ × Tree) → Type 0) (p : Parts) where
  -- begun
  pub waiting_list_begins : (rest : Members) (made : L) (w : ℕ)
      → content_at p w ≡ Some (list (members_of rest)) → lists made []
      → OpenedList lists tables p rest made w 0
  waiting_list_begins rest made w e h =
      record { done = []; trees = []; stands = e; each = each_none; is_made = h }

  pub waiting_table_begins : (rest : TableParts) (made : T) (w : ℕ)
      → content_at p w ≡ Some (entry_list (keyed_members rest))
      → tables made [] → OpenedTable lists tables p rest made w 0
  waiting_table_begins rest made w e h =
      record { done = []; entries = []; stands = e; each = entries_none; is_made = h }

  -- a member is put in
  pub list_puts : (rest : Members) (made made' : L) (w n k : ℕ) (x : Member) (t : Tree)
      → (h : ListWaits lists tables p rest made w x n) → DenMember p x t k
      → ((ts : List Tree) → lists made ts → lists made' (ts ++ t ∷ []))
      → OpenedList lists tables p rest made' w (n + k)
  list_puts rest made made' w n k x t h d f = record {
    done = h.done ++ x ∷ [];
    trees = h.trees ++ t ∷ [];
    stands =
        h.stands ∙ ap (λ ms. Some (list ms)) (sym (append_assoc h.done (x ∷ []) (members_of rest)));
    each = each_snoc p x t k h.each d;
    is_made = f h.trees h.is_made;
  }

  pub table_puts : (rest : TableParts) (made made' : T) (key : List ℕ) (w n k : ℕ) (x : Member)
      (t : Tree)
      → (h : TableWaits lists tables p rest made key w x n) → DenMember p x t k
      → ((es : List (List ℕ × Tree)) → tables made es → tables made' (es ++ (key, t) ∷ []))
      → OpenedTable lists tables p rest made' w (n + k)
  table_puts rest made made' key w n k x t h d f = record {
    done = h.done ++ (h.position, x) ∷ [];
    entries = h.entries ++ (key, t) ∷ [];
    stands =
        h.stands
        ∙ ap (λ es. Some (entry_list es))
        (sym (append_assoc h.done ((h.position, x) ∷ []) (keyed_members rest)));
    each = entries_snoc p h.position x key t k h.each h.keyed d;
    is_made = f h.entries h.is_made;
  }

  -- all members are read
  pub waiting_list_ends : (rest : Members) (made : L) (w n : ℕ)
      (h : OpenedList lists tables p rest made w n)
      → members_of rest ≡ [] → Den p w (array (trees_of h.trees)) (1 + n)
  waiting_list_ends rest made w n h e =
      den_list (h.stands ∙ ap (λ ms. Some (list (h.done ++ ms))) e
      ∙ ap (λ ms. Some (list ms)) (append-nil h.done)) h.each

  pub waiting_table_ends : (rest : TableParts) (made : T) (w n : ℕ)
      (h : OpenedTable lists tables p rest made w n)
      → keyed_members rest ≡ [] → Den p w (table (map_of h.entries)) (1 + n)
  waiting_table_ends rest made w n h e =
      den_entries (h.stands ∙ ap (λ es. Some (entry_list (h.done ++ es))) e
      ∙ ap (λ es. Some (entry_list es)) (append-nil h.done)) h.each

  -- an entry has no key
  pub table_no_key : (rest later : TableParts) (place : ℕ) (x : Member) (made : T) (w n : ℕ)
      → OpenedTable lists tables p rest made w n
      → keyed_members rest ≡ (place, x) ∷ keyed_members later
      → key_in p place ≡ None → (left : ℕ)
      → DenotesNothing (Den p w) (Reaches p w) (left + (1 + n))
  table_no_key rest later place x made w n h e k left =
      let stands = h.stands ∙ ap (λ es. Some (entry_list (h.done ++ es))) e in
      let sum : n + left + 1 ≡ left + (1 + n) = omega arith in
      stuck_entries_of p w (n + left) (left + (1 + n))
      (h.done ++ (place, x) ∷ keyed_members later) stands sum (
        (λ ts i d. none_entries p h.done place x (keyed_members later)
            (λ key t j g m. some_none k g) ts i d),
        (λ r. stuck_entries p place x (keyed_members later) left (n + left + 1)
            (λ key t j g m. some_none k g) (λ key g m. some_none k g) h.each refl r),
      )

  -- a member is refused
  pub list_stuck : (rest : Members) (made : L) (w n left before : ℕ) (x : Member)
      → ListWaits lists tables p rest made w x n → left + (1 + n) ≡ before
      → DenotesNothing (DenMember p x) (ReachesMember p x) left
      → DenotesNothing (Den p w) (Reaches p w) before
  list_stuck rest made w n left before x h e s =
      let sum : n + left + 1 ≡ before = omega arith in
      stuck_list p w (n + left) before (h.done ++ x ∷ members_of rest) h.stands sum (
        (λ ts i d. none_each p h.done x (members_of rest) s.0 ts i d),
        (λ r. stuck_each p x (members_of rest) left (n + left + 1) s.0 s.1 h.each refl r),
      )

  pub list_reaches : (rest : Members) (made : L) (w n left before : ℕ) (x : Member)
      → ListWaits lists tables p rest made w x n → left + (1 + n) ≡ before
      → ReachesMember p x (left + 1) → Reaches p w (before + 1)
  list_reaches rest made w n left before x h e r =
      let sum : 1 + (n + (left + 1)) ≡ before + 1 = omega arith in
      subst (λ i. Reaches p w i) sum (reaches_list h.stands
      (reach_after p (x ∷ members_of rest) (left + 1) h.each (each_here r)))

  pub table_stuck : (rest : TableParts) (made : T) (key : List ℕ) (w n left before : ℕ) (x : Member)
      → TableWaits lists tables p rest made key w x n → left + (1 + n) ≡ before
      → DenotesNothing (DenMember p x) (ReachesMember p x) left
      → DenotesNothing (Den p w) (Reaches p w) before
  table_stuck rest made key w n left before x h e s =
      let sum : n + left + 1 ≡ before = omega arith in
      stuck_entries_of p w (n + left) before
      (h.done ++ (h.position, x) ∷ keyed_members rest) h.stands sum (
        (λ ts i d. none_entries p h.done h.position x (keyed_members rest)
            (λ k t j g m. s.0 t j m) ts i d),
        (λ r. stuck_entries p h.position x (keyed_members rest) left (n + left + 1)
            (λ k t j g m. s.0 t j m)
            (λ k g m. s.1 m) h.each refl r),
      )

  pub table_reaches : (rest : TableParts) (made : T) (key : List ℕ) (w n left before : ℕ)
      (x : Member)
      → TableWaits lists tables p rest made key w x n → left + (1 + n) ≡ before
      → ReachesMember p x (left + 1) → Reaches p w (before + 1)
  table_reaches rest made key w n left before x h e r =
      let sum : 1 + (n + (left + 1)) ≡ before + 1 = omega arith in
      subst (λ i. Reaches p w i) sum (reaches_entries h.stands (reach_after_entries p
      ((h.position, x) ∷ keyed_members rest) (left + 1) h.each (entries_here h.keyed r)))

  pub waits_refused : (f : Waiting L T) (w n left before : ℕ) (x : Member) (d : ReadingError)
      → Waits lists tables p f w x n → left + (1 + n) ≡ before
      → Refuses (DenMember p x) (ReachesMember p x) left d
      → Refuses (Den p w) (Reaches p w) before d
  waits_refused f w n left before x d h e (inl m) = inl m
  waits_refused (waiting.List rest made) w n left before x d h e (inr (inl (s, r))) =
      inr (inl (s, list_reaches rest made w n left before x h e r))
  waits_refused (waiting.Table rest made key) w n left before x d h e (inr (inl (s, r))) =
      inr (inl (s, table_reaches rest made key.now w n left before x h e r))
  waits_refused (waiting.List rest made) w n left before x d h e (inr (inr (f, r))) =
      inr (inr (f, list_stuck rest made w n left before x h e r))
  waits_refused (waiting.Table rest made key) w n left before x d h e (inr (inr (f, r))) =
      inr (inr (f, table_stuck rest made key.now w n left before x h e r))
