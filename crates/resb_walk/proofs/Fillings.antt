-- Members that are read where they stand, one behind the other.
use Rattle.std.proofs.Common.{ℕ, List, [], ◌∷◌, ◌++◌, ◌≡◌, ◌+◌, Some, ◌∙◌, ap, subst, arith}
use Rattle.resb_tree.specs.Tree.{Tree}
use Rattle.resb_format.specs.Parts.{Parts}
use Rattle.resb_format.specs.Lookups.{key_in}
use Rattle.resb_format.specs.Content.{Member, list, entry_list}
use Rattle.resb_format.specs.Denotes.{DenMember}
use Rattle.resb_walk.specs.Inner.Members.{members_of, keyed_members}
use Rattle.resb_walk.specs.Inner.Frames.{OpenedList, OpenedTable, FillsList, FillsTable}
use Rattle.resb_walk.specs.declared.members.Members.{Members}
use Rattle.resb_walk.specs.declared.members.TableParts.{TableParts}
use Rattle.resb_walk.proofs.Waits.{list_puts, table_puts}

module _ {L T : Type 0} (lists : L → List Tree → Type 0)
    (tables : T → List (List ℕ × Tree) → Type 0) (p : Parts) where
  -- one member more
  pub list_fills : (r s later : Members) (m m' m'' : L) (left paid left' : ℕ) (x : Member)
      (t : Tree)
      → FillsList lists tables p r m left s m' paid
      → members_of s ≡ x ∷ members_of later → DenMember p x t 1
      → ((ts : List Tree) → lists m' ts → lists m'' (ts ++ t ∷ []))
      → left' + 1 ≡ paid → FillsList lists tables p r m left later m'' left'
  list_fills r s later m m' m'' left paid left' x t fills e d adds pays w n opened =
      let so_far = fills w n opened in
      let o = so_far.1 in
      let sum : so_far.0 + left' + 1 ≡ left = omega (arith, so_far.2, pays) in
      let more : (n + so_far.0) + 1 ≡ n + (so_far.0 + 1) = omega arith in
      let put = list_puts lists tables p later m' m'' w (n + so_far.0) 1 x t (record {
        done = o.done;
        trees = o.trees;
        stands = o.stands ∙ ap (λ ms. Some (list (o.done ++ ms))) e;
        each = o.each;
        is_made = o.is_made;
      }) d adds in (
        so_far.0 + 1,
        subst (λ k. OpenedList lists tables p later m'' w k) more put,
        omega (arith, sum),
      )

  pub table_fills : (r s later : TableParts) (m m' m'' : T) (left paid left' place : ℕ)
      (key : List ℕ) (x : Member) (t : Tree)
      → FillsTable lists tables p r m left s m' paid
      → keyed_members s ≡ (place, x) ∷ keyed_members later → key_in p place ≡ Some key
      → DenMember p x t 1
      → ((es : List (List ℕ × Tree)) → tables m' es → tables m'' (es ++ (key, t) ∷ []))
      → left' + 1 ≡ paid → FillsTable lists tables p r m left later m'' left'
  table_fills r s later m m' m'' left paid left' place key x t fills e keyed d adds pays w n
      opened =
      let so_far = fills w n opened in
      let o = so_far.1 in
      let sum : so_far.0 + left' + 1 ≡ left = omega (arith, so_far.2, pays) in
      let more : (n + so_far.0) + 1 ≡ n + (so_far.0 + 1) = omega arith in
      let put = table_puts lists tables p later m' m'' key w (n + so_far.0) 1 x t (record {
        done = o.done;
        entries = o.entries;
        position = place;
        stands = o.stands ∙ ap (λ es. Some (entry_list (o.done ++ es))) e;
        keyed = keyed;
        each = o.each;
        is_made = o.is_made;
      }) d adds in (
        so_far.0 + 1,
        subst (λ k. OpenedTable lists tables p later m'' w k) more put,
        omega (arith, sum),
      )

  -- none yet
  pub list_unfilled : (r : Members) (m : L) (left : ℕ) → FillsList lists tables p r m left r m left
  list_unfilled r m left w n opened =
      let same : n ≡ n + 0 = omega arith in (
        0,
        subst (λ k. OpenedList lists tables p r m w k) same opened,
        omega arith,
      )

  pub table_unfilled : (r : TableParts) (m : T) (left : ℕ)
      → FillsTable lists tables p r m left r m left
  table_unfilled r m left w n opened =
      let same : n ≡ n + 0 = omega arith in (
        0,
        subst (λ k. OpenedTable lists tables p r m w k) same opened,
        omega arith,
      )
