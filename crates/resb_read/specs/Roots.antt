-- What is read at a file's root, with the whole budget: once for whatever a file's bytes come to.
--     Whole                   what a file comes to
--     HoldsAt P w             it is a file, and P holds of the place of its root
--     StandsAtRoot w s, OpensRoot w r     a cursor at its root; what opening that answers
--     RefusesAt refuses w e   what a type that refuses so answers of it
--     IsRefusedOnce w         memory aside, it is refused in one way
--     AnswersTreeOf, AnswersCountOf   what reading and counting its tree answer
--     alone bytes             what the bytes of a file come to that is read alone
use Rattle.std.specs.Prelude.{◌≡◌, ◌≤◌, ◌⊎◌, ℕ, List, Option, Some, None, Result, Ok, Err}
use Rattle.std.specs.Prelude.{MatchResult}
use Rattle.resb_tree.specs.Tree.{Tree}
use Rattle.resb_tree.specs.View.{tree_of}
use Rattle.resb_tree.specs.declared.resource.Resource.{Resource}
use Rattle.resb_format.specs.Content.{word}
use Rattle.resb_format.specs.Denotes.{Den, Reaches}
use Rattle.resb_format.specs.Error.{Refusal, IsWantOfMemory, refusal_of}
use Rattle.resb_format.specs.Parts.{Parts}
use Rattle.resb_format.specs.declared.error.ReadingError.{ReadingError}
use Rattle.resb_head.specs.File.{IsBundleFile, parts_of, root_word, Denotes, budget}
use Rattle.resb_head.specs.HeadChecks.{file_refusal}
use Rattle.resb_walk.specs.Meets.{Meets, Blames}
use Rattle.resb_walk.specs.Refusals.{Refuses}
use Rattle.resb_walk.specs.Borrows.{Borrows}
use Rattle.resb_read.specs.Places.{Place, place_of}
use Rattle.resb_read.specs.declared.cursor.Cursor.{Cursor}
use Rattle.resb_read.specs.declared.cursor.Spot.TheVariants as spot

-- what a file comes to: its parts, its root's word, how many resources may be read, the first check
-- of its head that fails, when it is a file, and which tree of how many resources it denotes
pub record Whole : Type 1 where
  pub parts : Parts
  pub root : ℕ
  pub budget : ℕ
  pub refusal : Option Refusal
  pub is_file : Type 0
  pub denotes : Tree → ℕ → Type 0

-- the place of the root
abbrev pub place_of_root : Whole → Place
place_of_root w = record { parts = w.parts; at = spot.Descriptor w.root }

-- it is a file, and this holds of the place of its root
pub record HoldsAt (P : Place → Type 0) (w : Whole) : Type 0 where
  pub head : w.is_file
  pub root : P (place_of_root w)

-- no check of the head fails, and a cursor is at the root, with the whole budget
abbrev pub StandsAtRoot : Whole → Cursor × ℕ → Type 0
StandsAtRoot w s =
    (w.refusal ≡ None) × (place_of s.0 ≡ place_of_root w) × (s.1 ≡ w.budget)

-- a cursor at the root, with the whole budget; or the first check of the head that fails
abbrev pub OpensRoot : Whole → Result (Cursor × ℕ) ReadingError → Type 0
OpensRoot w r = MatchResult r (StandsAtRoot w) (λ e. w.refusal ≡ Some (refusal_of e))

-- the first check of the head that fails, or what the type answers at the root, with the whole
-- budget
abbrev pub RefusesAt : (Place → ℕ → ℕ → ReadingError → Type 0) → Whole → ReadingError → Type 0
RefusesAt refuses w e =
    (w.refusal ≡ Some (refusal_of e))
    ⊎ ((left : ℕ) × HoldsAt (λ p. refuses p w.budget left e) w)

-- the first check of the head that fails, or what is refused at the root, by the first fault there
abbrev pub RefusesWhole : Whole → ReadingError → Type 0
RefusesWhole w e =
    (w.refusal ≡ Some (refusal_of e))
    ⊎ (w.is_file
    × Refuses (Den w.parts w.root) (Reaches w.parts w.root) w.budget e
    × Blames (Meets w.parts (word w.root)) e)

-- two refusals of what a file comes to are equal, by kind and message, unless one is want of memory
abbrev pub IsRefusedOnce : Whole → Type 0
IsRefusedOnce w =
    (d e : ReadingError) → RefusesWhole w d → RefusesWhole w e
    → (IsWantOfMemory d ⊎ IsWantOfMemory e) ⊎ (refusal_of d ≡ refusal_of e)

-- what reading the tree answers: a tree that is denoted within the budget and borrows, or its
-- refusal
abbrev pub AnswersTreeOf : Whole → Result Resource ReadingError → Type 0
AnswersTreeOf w (Ok r) = (n : ℕ) × w.denotes (tree_of r) n × (n ≤ w.budget) × Borrows r
AnswersTreeOf w (Err e) = RefusesWhole w e

-- what counting the tree answers: the count of a tree within the budget, or its refusal
abbrev pub AnswersCountOf : Whole → Result ℕ ReadingError → Type 0
AnswersCountOf w (Ok n) = (t : Tree) × w.denotes t n × (n ≤ w.budget)
AnswersCountOf w (Err e) = RefusesWhole w e

-- what the bytes of a file come to that is read alone
abbrev pub alone : List ℕ → Whole
alone bytes = record {
  parts = parts_of bytes;
  root = root_word bytes;
  budget = budget bytes;
  refusal = file_refusal bytes;
  is_file = IsBundleFile bytes;
  denotes = Denotes bytes;
}
