-- Collections whose pieces are summed, and those that wait until the pieces of a member are.
--     RestHolds r xs          xs are the pieces of the members that are still to come
--     IsEndOf r w             these members are the end of the collection at the word w
--     WaitingPieces cs xs     xs are the pieces still to come of collections that wait, the inmost
--                             one's first
use Rattle.std.specs.Prelude.{◌≡◌, ℕ, ◌+◌, ◌≤◌, List, [], ◌∷◌, ◌++◌, length, Option, Some, None}
use Rattle.resb_format.specs.Content.{Member, list, entry_list, content_at}
use Rattle.resb_format.specs.Parts.{Parts}
use Rattle.resb_walk.specs.Inner.Members.{member_of, members_of, keyed_members, rest_length}
use Rattle.resb_walk.specs.Pieces.{Piece, Holds, HoldsMember, HoldsEach, HoldsEachEntry}
use Rattle.resb_walk.specs.Sums.{AddsUp, resource_count_in, count_of}
use Rattle.resb_walk.specs.declared.count.Inner.{Inner}
use Rattle.resb_walk.specs.declared.count.Outer.{Outer}
use Rattle.resb_walk.specs.declared.members.Member.{Member as Stood}
use Rattle.resb_walk.specs.declared.members.Rest.{Rest}
use Rattle.resb_walk.specs.declared.members.Rest.TheVariants as rest
use Rattle.resb_walk.specs.declared.sums.Sums.{Sums}

module _ (p : Parts) where
  abbrev pub RestHolds : Rest → List Piece → Type 0
  RestHolds (rest.List ms) xs = HoldsEach p (members_of ms) xs
  RestHolds (rest.Table es) xs = HoldsEachEntry p (keyed_members es) xs

  abbrev pub IsEndOf : Rest → ℕ → Type 0
  IsEndOf (rest.List ms) w =
      (front : List Member) × (content_at p w ≡ Some (list (front ++ members_of ms)))
  IsEndOf (rest.Table es) w =
      (front : List (ℕ × Member)) × (content_at p w ≡ Some (entry_list (front ++ keyed_members es)))

  -- a collection of which these pieces are still to come
  pub record ToCome (i : Inner) (xs : List Piece) : Type 0 where
    pub ends : IsEndOf i.rest i.word
    pub holds : RestHolds i.rest xs

  pub data WaitingPieces : List Outer → List Piece → Type 0 where
    waits_none : WaitingPieces [] []
    waits_more : {c : Outer} {cs : List Outer} {ys : List Piece} (xs : List Piece) (r : Rest)
        → c.left ≡ rest_length r → IsEndOf r c.word → RestHolds r xs → WaitingPieces cs ys
        → WaitingPieces (c ∷ cs) (ys ++ xs)

  -- A member of the pieces xs is looked at, behind the pieces zs: it is summed, up to the pieces of
  -- its own members.
  abbrev pub Looked : List Piece → List Piece → Option Inner → Sums → Type 0
  Looked xs zs None s = (count_of xs ≡ 1) × AddsUp s (zs ++ xs)
  Looked xs zs (Some i) s =
      (x : Piece) × (ys : List Piece) × (xs ≡ x ∷ ys) × (resource_count_in x ≡ 1)
      × AddsUp s (zs ++ x ∷ []) × ToCome i ys

  -- The next member of a collection of which xs are still to come is taken, behind the pieces zs:
  -- a key before it is summed.
  abbrev pub TakenPieces : List Piece → List Piece → Option (Stood × Inner) → Sums → Type 0
  TakenPieces xs zs None s = (xs ≡ []) × AddsUp s zs
  TakenPieces xs zs (Some r) s =
      (ks ys ts : List Piece) × (xs ≡ ks ++ (ys ++ ts)) × (count_of ks ≡ 0) × AddsUp s (zs ++ ks)
      × HoldsMember p (member_of r.0) ys × ToCome r.1 ts

  -- A member is entered, behind the pieces zs and before the pieces of its collection and of those
  -- that wait: xs in all. It is summed, or its members are still to come.
  pub record EnteredPieces (xs zs : List Piece) (before after : List Outer) (i : Inner)
      (s : Sums) : Type 0 where
    pub new : List Piece
    pub inner : List Piece
    pub outer : List Piece
    pub split : new ++ (inner ++ outer) ≡ xs
    pub paid : count_of (inner ++ outer) + 1 ≡ count_of xs
    pub sums : AddsUp s (zs ++ new)
    pub to_come : ToCome i inner
    pub waiting : WaitingPieces after outer
    pub one_more : length after ≤ length before + 1

  -- between rounds: what is summed, what is to come, and how many resources that is
  pub record Weighing (root : ℕ) (cs : List Outer) (i : Inner) (s : Sums) (left : ℕ) : Type 0 where
    pub done : List Piece
    pub inner : List Piece
    pub outer : List Piece
    pub whole : Holds p root (done ++ (inner ++ outer))
    pub sums : AddsUp s done
    pub to_come : ToCome i inner
    pub waiting : WaitingPieces cs outer
    pub left_is : left ≡ count_of (inner ++ outer) + 1
