-- What the rounds of a reader answer.
use Rattle.std.specs.Prelude.{ℕ, List, [], ◌∷◌, ◌++◌, Result, Ok, Err, ◌≡◌, ◌⊎◌, ◌≤◌, ◌+◌}
use Rattle.resb_tree.specs.Tree.{Tree}
use Rattle.resb_format.specs.Parts.{Parts}
use Rattle.resb_format.specs.Content as at
use Rattle.resb_format.specs.Denotes.{Den, DenMember, Reaches, ReachesMember}
use Rattle.resb_walk.specs.Inner.Members.{member_of, leaf_tree}
use Rattle.resb_walk.specs.Inner.Frames.{Opened, Waits}
use Rattle.resb_walk.specs.Refusals.{IsFault, DenotesNothing, Refuses}
use Rattle.resb_format.specs.Error.{IsWantOfMemory}
use Rattle.resb_format.specs.declared.error.ReadingError.{ReadingError}
use Rattle.resb_walk.specs.declared.members.Leaf.{Leaf}
use Rattle.resb_walk.specs.declared.members.Standing.{Standing}
use Rattle.resb_walk.specs.declared.members.Standing.TheVariants as stands
use Rattle.resb_walk.specs.declared.frame.Open.{Open}
use Rattle.resb_walk.specs.declared.frame.Open.TheVariants as open_
use Rattle.resb_walk.specs.declared.frame.Progress.{Progress}
use Rattle.resb_walk.specs.declared.frame.Progress.TheVariants.{Wants, Done}
use Rattle.resb_walk.specs.declared.frame.Read.{Read}
use Rattle.resb_walk.specs.declared.frame.Read.TheVariants.{Made, Begun}
use Rattle.resb_walk.specs.declared.frame.Waiting.{Waiting}

module _ {X L T : Type 0} (is : X → Tree → Type 0) (lists : L → List Tree → Type 0)
    (tables : T → List (List ℕ × Tree) → Type 0) where
  -- a leaf is made, or a collection begun whose members are all still to come
  abbrev pub Starts : Standing → Read X L T → Type 0
  Starts s (Made x) = (l : Leaf) × (s ≡ stands.Leaf l) × is x (leaf_tree l)
  Starts s (Begun (open_.List rest made)) = (s ≡ stands.List rest) × lists made []
  Starts s (Begun (open_.Table rest made)) = (s ≡ stands.Table rest) × tables made []

module _ {X L T : Type 0} (is : X → Tree → Type 0) (lists : L → List Tree → Type 0)
    (tables : T → List (List ℕ × Tree) → Type 0) (p : Parts) where
  -- how a collection goes on that stands at w and whose members so far denote n resources
  abbrev pub Progresses : ℕ → ℕ → Result (Progress X L T) ReadingError → Type 0
  Progresses w n (Ok (Wants m f)) = Waits lists tables p f w (member_of m) n
  Progresses w n (Ok (Done x)) = (t : Tree) × Den p w t (1 + n) × is x t
  Progresses w n (Err e) =
      IsWantOfMemory e
      ⊎ (IsFault e × ((k : ℕ) → DenotesNothing (Den p w) (Reaches p w) (k + (1 + n))))

  -- a member is read, up to its own members, and paid for
  abbrev pub ReadsMember : at.Member → ℕ → ℕ → Result (Read X L T) ReadingError → Type 0
  ReadsMember m left left' (Ok (Made x)) = (t : Tree) × DenMember p m t 1 × is x t
      × (left' + 1 ≡ left)
  ReadsMember m left left' (Ok (Begun f)) =
      (w : ℕ) × (m ≡ at.word w) × Opened lists tables p f w 0 × (left' + 1 ≡ left)
  ReadsMember m left left' (Err e) = (left' ≤ left)
      × Refuses (DenMember p m) (ReachesMember p m) left e

module _ {L T : Type 0} (lists : L → List Tree → Type 0)
    (tables : T → List (List ℕ × Tree) → Type 0) (p : Parts) where
  -- the member that was waited for is put in, and the collection at w denotes n resources so far
  abbrev pub PutsMember : ℕ → ℕ → Result (Open L T) ReadingError → Type 0
  PutsMember w n (Ok f) = Opened lists tables p f w n
  PutsMember w n (Err e) = IsWantOfMemory e

  -- the member that f waited for is paid for: it is put in, or it is the innermost collection
  abbrev pub PutsOrOpens : Waiting L T → at.Member → ℕ → ℕ → List (Waiting L T)
      → List (Waiting L T) → ℕ → ℕ → Result (Open L T) ReadingError → Type 0
  PutsOrOpens f m w n fs fs' left left' (Ok o) =
      (left' + 1 ≡ left)
      × ((fs' ≡ fs) × Opened lists tables p o w (n + 1)
      ⊎ (fs' ≡ fs ++ f ∷ []) × (v : ℕ) × (m ≡ at.word v) × Opened lists tables p o v 0)
  PutsOrOpens f m w n fs fs' left left' (Err e) =
      (left' ≤ left) × Refuses (DenMember p m) (ReachesMember p m) left e
