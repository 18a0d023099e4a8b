-- Collections whose members are counted, and those that wait until a member is.
--     IsOpenedAt p o w n      o is to come of the collection at the word w, and what was before
--                             denotes n resources
--     Awaits p o w x n        the same, where the member x stands before o
--     AreLastMembers p w k o  o is the last k members of the collection at the word w
use Rattle.std.specs.Prelude.{ℕ, List, [], ◌∷◌, ◌++◌, ◌≡◌, ◌+◌, ◌-◌, ◌≤◌, ◌⊎◌, length, drop, Some}
use Rattle.std.specs.Prelude.{None}
use Rattle.std.specs.Prelude.{Option, Result, Ok, Err}
use Rattle.resb_tree.specs.Tree.{Tree}
use Rattle.resb_format.specs.Content.{Member, word, leaf, list, entry_list, content_at}
use Rattle.resb_format.specs.Content.{counted_text}
use Rattle.resb_format.specs.Denotes.{Den, DenMember, Reaches, ReachesMember}
use Rattle.resb_format.specs.Error.{IsWantOfMemory}
use Rattle.resb_format.specs.Parts.{Parts}
use Rattle.resb_format.specs.declared.error.ReadingError.{ReadingError}
use Rattle.resb_format.specs.Lookups.{text_in, key_in}
use Rattle.resb_walk.specs.BlockRefusals.{Says, text_refusal_in, key_refusal_in, counted_refusal}
use Rattle.resb_walk.specs.Inner.Frames.{OpenedList, OpenedTable, ListWaits, TableWaits}
use Rattle.resb_walk.specs.Inner.MemberContent.{member_content, content_refusal}
use Rattle.resb_walk.specs.Inner.Members.{member_of, members_of, keyed_members, rest_length}
use Rattle.resb_walk.specs.Refusals.{IsFault, DenotesNothing, Refuses}
use Rattle.resb_walk.specs.declared.count.Inner.{Inner}
use Rattle.resb_walk.specs.declared.count.Outer.{Outer}
use Rattle.resb_walk.specs.declared.members.Member.{Member as Stood}
use Rattle.resb_walk.specs.declared.members.Rest.{Rest}
use Rattle.resb_walk.specs.declared.members.Rest.TheVariants as rest

-- nothing is made of members or entries
abbrev pub no_list : ℕ → List Tree → Type 0
no_list _ _ = Unit {0}

abbrev pub no_table : ℕ → List (List ℕ × Tree) → Type 0
no_table _ _ = Unit {0}

-- some key stands there, or the fault of it is said
abbrev pub LooksKey : {A : Type 0} → Parts → ℕ → Result A ReadingError → Type 0
LooksKey p k (Ok _) = (key : List ℕ) × (key_in p k ≡ Some key)
LooksKey p k (Err e) =
    IsWantOfMemory e ⊎ ((key_in p k ≡ None) × IsFault e × Says (key_refusal_in p k) e)

-- some text stands there, or the fault of it is said
abbrev pub LooksText : {A : Type 0} → Parts → ℕ → Result A ReadingError → Type 0
LooksText p u (Ok _) = (text : List ℕ) × (text_in p u ≡ Some text)
LooksText p u (Err e) =
    IsWantOfMemory e ⊎ ((text_in p u ≡ None) × IsFault e × Says (text_refusal_in p u) e)

-- some text stands in the body behind its count, or the fault of it is said
abbrev pub LooksCounted : {A : Type 0} → Parts → ℕ → Result A ReadingError → Type 0
LooksCounted p v (Ok _) = (text : List ℕ) × (counted_text p v ≡ Some text)
LooksCounted p v (Err e) =
    IsWantOfMemory e ⊎ ((counted_text p v ≡ None) × IsFault e × Says (counted_refusal p v) e)

-- the collection waits, by its word and by how many members are still to come
abbrev pub KeepsOuter : Inner → Outer → Type 0
KeepsOuter i c = (c.word ≡ i.word) × (c.left ≡ rest_length i.rest)

module _ (p : Parts) where
  -- what is still to come stands at the end of the collection, and what was before is denoted
  abbrev pub IsOpenedAt : Rest → ℕ → ℕ → Type 0
  IsOpenedAt (rest.List ms) w n = OpenedList no_list no_table p ms 0 w n
  IsOpenedAt (rest.Table es) w n = OpenedTable no_list no_table p es 0 w n

  -- the same, with one member between that is being counted
  abbrev pub Awaits : Rest → ℕ → Member → ℕ → Type 0
  Awaits (rest.List ms) w x n = ListWaits no_list no_table p ms 0 w x n
  Awaits (rest.Table es) w x n =
      (key : List ℕ) × TableWaits no_list no_table p es 0 key w x n

  -- the last k members of the collection
  abbrev pub AreLastMembers : ℕ → ℕ → Rest → Type 0
  AreLastMembers w k (rest.List r) =
      (ms : List Member) × (content_at p w ≡ Some (list ms))
      × (members_of r ≡ drop (length ms - k) ms)
  AreLastMembers w k (rest.Table r) =
      (es : List (ℕ × Member)) × (content_at p w ≡ Some (entry_list es))
      × (keyed_members r ≡ drop (length es - k) es)

  -- a collection of at least k members stands there
  abbrev pub HasLast : ℕ → ℕ → Type 0
  HasLast w k =
      ((ms : List Member) × (content_at p w ≡ Some (list ms)) × (k ≤ length ms))
      ⊎ ((es : List (ℕ × Member)) × (content_at p w ≡ Some (entry_list es)) × (k ≤ length es))

  -- what stands at a member: a leaf, or the members of a collection
  abbrev pub LooksAt : Member → Result (Option Rest) ReadingError → Type 0
  LooksAt m (Ok None) = (t : Tree) × (member_content p m ≡ Some (leaf t))
  LooksAt m (Ok (Some (rest.List r))) = member_content p m ≡ Some (list (members_of r))
  LooksAt m (Ok (Some (rest.Table r))) = member_content p m ≡ Some (entry_list (keyed_members r))
  LooksAt m (Err e) =
      IsWantOfMemory e
      ⊎ ((member_content p m ≡ None) × IsFault e × Says (content_refusal p m) e)

  -- a member is paid for; one with members of its own has all of them to come
  abbrev pub EntersMember : Member → ℕ → ℕ → Result (Option Inner) ReadingError → Type 0
  EntersMember m left left' (Ok None) = (t : Tree) × DenMember p m t 1 × (left' + 1 ≡ left)
  EntersMember m left left' (Ok (Some i)) =
      (m ≡ word i.word) × IsOpenedAt i.rest i.word 0 × (left' + 1 ≡ left)
  EntersMember m left left' (Err e) = (left' ≤ left)
      × Refuses (DenMember p m) (ReachesMember p m) left e

  -- the next member of a collection, of which n resources are counted
  abbrev pub TakesNext : ℕ → ℕ → Result (Option (Stood × Rest)) ReadingError → Type 0
  TakesNext w n (Ok None) = (t : Tree) × Den p w t (1 + n)
  TakesNext w n (Ok (Some r)) = Awaits r.1 w (member_of r.0) n
  TakesNext w n (Err e) =
      IsWantOfMemory e
      ⊎ (IsFault e × ((k : ℕ) → DenotesNothing (Den p w) (Reaches p w) (k + (1 + n))))

  -- a member is paid for: it is counted, or its members are counted next
  abbrev pub EnteredMember : Inner → Member → ℕ → List Outer → List Outer → ℕ → ℕ
      → Result Inner ReadingError → Type 0
  EnteredMember i m n cs cs' left left' (Ok j) =
      (left' + 1 ≡ left)
      × ((cs' ≡ cs) × (j.word ≡ i.word) × IsOpenedAt j.rest j.word (n + 1)
      ⊎ (c : Outer) × KeepsOuter i c × (cs' ≡ cs ++ c ∷ []) × (m ≡ word j.word)
      × IsOpenedAt j.rest j.word 0)
  EnteredMember i m n cs cs' left left' (Err e) =
      (left' ≤ left) × Refuses (DenMember p m) (ReachesMember p m) left e
