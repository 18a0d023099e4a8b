-- Which texts get a record in the 16-bit block, and what else could hold the texts. (ICU's
-- `reslist.cpp`: shared suffixes.)
--     IsRecord S s            s gets a record among the texts S
--     IsRecords S Q           Q lists those texts, each once
--     IsLayout S R            records of the texts R, each once, can hold the texts S
use Rattle.std.specs.Prelude.{◌≡◌, ℕ, ◌<◌, ◌≤◌, List, [], ◌∷◌, ◌++◌, length, true, false, ◌⊎◌, ◌↔◌}
use Rattle.std.specs.Prelude.{All, Contains}
use Rattle.std.specs.Str.{IsUtf8}
use Rattle.resb_format.specs.Units.{units, is_unmarked}

-- t ends with s, or is s
pub record EndsWith (t s : List ℕ) : Type 0 where
  pub front : List ℕ
  pub is : t ≡ front ++ s

-- each text once
abbrev pub EachOnce : List (List ℕ) → Type 0
EachOnce [] = Unit {0}
EachOnce (x ∷ xs) = (Contains xs x → ⊥) × EachOnce xs

-- a non-empty text of S that has a marker, or that no other text of S ends with
pub record IsRecord (S : List (List ℕ)) (s : List ℕ) : Type 0 where
  pub given : Contains S s
  pub nonempty : 0 < length s
  pub alone : (is_unmarked s ≡ false) ⊎ ((t : List ℕ) → Contains S t → EndsWith t s → t ≡ s)

-- the list has each record of the strings once, and nothing else
pub record IsRecords (S Q : List (List ℕ)) : Type 0 where
  pub once : EachOnce Q
  pub just : (s : List ℕ) → Contains Q s ↔ IsRecord S s

-- s lies, unmarked, at the end of another text r
pub record IsHeldBy (s r : List ℕ) : Type 0 where
  pub unmarked : is_unmarked s ≡ true
  pub ends : EndsWith r s
  pub proper : r ≡ s → ⊥

-- whatever texts R a writer could choose: each text of S is one of them or held by one
pub record IsLayout (S R : List (List ℕ)) : Type 0 where
  pub once : EachOnce R
  pub texts : All IsUtf8 R
  pub short : All (λ r. length (units r) ≤ 4294967295) R
  pub holds : (s : List ℕ) → Contains S s → 0 < length s → Contains R s
      ⊎ ((r : List ℕ) × Contains R r × IsHeldBy s r)
