-- Open collections: what of them has been read.
--     Opened f w n            the collection f stands at the word w, its members so far denote n
--                             resources, and it has made what they denote
--     Waits f w x n           the same, where the member x is being read
--     Fills f left f' left'   some of its members were read and paid for
use Rattle.std.specs.Prelude.{ℕ, List, ◌∷◌, ◌++◌, ◌+◌, Some, ◌≡◌}
use Rattle.resb_tree.specs.Tree.{Tree}
use Rattle.resb_format.specs.Lookups.{key_in}
use Rattle.resb_format.specs.Parts.{Parts}
use Rattle.resb_format.specs.Content.{Member, list, entry_list, content_at}
use Rattle.resb_format.specs.Denotes.{DenEach, DenEntries}
use Rattle.resb_walk.specs.Inner.Members.{members_of, keyed_members}
use Rattle.resb_walk.specs.declared.members.Members.{Members}
use Rattle.resb_walk.specs.declared.members.TableParts.{TableParts}
use Rattle.resb_walk.specs.declared.frame.Open.{Open}
use Rattle.resb_walk.specs.declared.frame.Open.TheVariants as open_
use Rattle.resb_walk.specs.declared.frame.Waiting.{Waiting}
use Rattle.resb_walk.specs.declared.frame.Waiting.TheVariants as waiting

module _ {L T : Type 0} (lists : L → List Tree → Type 0)
    (tables : T → List (List ℕ × Tree) → Type 0) (p : Parts) where
  pub record OpenedList (rest : Members) (made : L) (w n : ℕ) : Type 0 where
    pub done : List Member
    pub trees : List Tree
    pub stands : content_at p w ≡ Some (list (done ++ members_of rest))
    pub each : DenEach p done trees n
    pub is_made : lists made trees

  pub record OpenedTable (rest : TableParts) (made : T) (w n : ℕ) : Type 0 where
    pub done : List (ℕ × Member)
    pub entries : List (List ℕ × Tree)
    pub stands : content_at p w ≡ Some (entry_list (done ++ keyed_members rest))
    pub each : DenEntries p done entries n
    pub is_made : tables made entries

  pub record ListWaits (rest : Members) (made : L) (w : ℕ) (x : Member) (n : ℕ) : Type 0 where
    pub done : List Member
    pub trees : List Tree
    pub stands : content_at p w ≡ Some (list (done ++ x ∷ members_of rest))
    pub each : DenEach p done trees n
    pub is_made : lists made trees

  pub record TableWaits (rest : TableParts) (made : T) (key : List ℕ) (w : ℕ) (x : Member)
      (n : ℕ) : Type 0 where
    pub done : List (ℕ × Member)
    pub entries : List (List ℕ × Tree)
    pub position : ℕ
    pub stands : content_at p w ≡ Some (entry_list (done ++ (position, x) ∷ keyed_members rest))
    pub keyed : key_in p position ≡ Some key
    pub each : DenEntries p done entries n
    pub is_made : tables made entries

  abbrev pub Opened : Open L T → ℕ → ℕ → Type 0
  Opened (open_.List rest made) w n = OpenedList rest made w n
  Opened (open_.Table rest made) w n = OpenedTable rest made w n

  abbrev pub Waits : Waiting L T → ℕ → Member → ℕ → Type 0
  Waits (waiting.List rest made) w x n = ListWaits rest made w x n
  Waits (waiting.Table rest made key) w x n = TableWaits rest made key.now w x n

  -- members of an array were read, k resources, and as many were paid for
  abbrev pub FillsList : Members → L → ℕ → Members → L → ℕ → Type 0
  FillsList r m left r' m' left' =
      (w n : ℕ) → OpenedList r m w n
      → (k : ℕ) × OpenedList r' m' w (n + k) × (left' + k ≡ left)

  -- entries of a table were read, k resources, and as many were paid for
  abbrev pub FillsTable : TableParts → T → ℕ → TableParts → T → ℕ → Type 0
  FillsTable r m left r' m' left' =
      (w n : ℕ) → OpenedTable r m w n
      → (k : ℕ) × OpenedTable r' m' w (n + k) × (left' + k ≡ left)

  -- members of a collection were read, k resources, and as many were paid for
  abbrev pub Fills : Open L T → ℕ → Open L T → ℕ → Type 0
  Fills f left f' left' =
      (w n : ℕ) → Opened f w n → (k : ℕ) × Opened f' w (n + k) × (left' + k ≡ left)
