-- A table of two named fields, and what each of them is read as.
--     ReadsField name reads e x n     the entry's key is the name, and its value is read as x
--     ReadsBoth, CountsBoth           the table has the entries i and v alone, in this order
use Rattle.std.specs.Prelude.{◌≡◌, ◌+◌, ◌-◌, ◌^◌, ℕ, ℤ, pos, negsuc, List, [], ◌∷◌, Some}
use Rattle.std.specs.Prelude.{codes}
use Rattle.resb_read.specs.Places.{Place}
use Rattle.resb_read.specs.Leaves.{CountsOf, ReadsKey, ReadsSigned}
use Rattle.resb_read.specs.Sequences.{entries_at}

-- the place of a key, and of its value
abbrev pub Entry : Type 0
Entry = Place × Place

-- the entry's key is this name, and its value is read as x
abbrev pub ReadsField : {X : Type 0} → List ℕ → (Place → X → ℕ → Type 0) → Entry → X → ℕ → Type 0
ReadsField name reads e x n = (k : ℕ) × (a : ℕ) × ReadsKey e.0 name k × reads e.1 x a × (n ≡ k + a)

-- the entry's key is this name, and some value is read there
abbrev pub CountsField : List ℕ → (Place → ℕ → Type 0) → Entry → ℕ → Type 0
CountsField name counts e n = (k : ℕ) × (a : ℕ) × ReadsKey e.0 name k × counts e.1 a × (n ≡ k + a)

-- the first of the entries is such a field
abbrev pub CountsFirst : List ℕ → (Place → ℕ → Type 0) → List Entry → ℕ → Type 0
CountsFirst name counts [] n = ⊥
CountsFirst name counts (e ∷ es) n = CountsField name counts e n

-- a table of the entries i and v alone, in this order, which are read so
pub record ReadsBoth {I V : Type 0} (ri : Place → I → ℕ → Type 0) (rv : Place → V → ℕ → Type 0)
    (p : Place) (i : I) (v : V) (n : ℕ) : Type 0 where
  pub at_i : Entry
  pub at_v : Entry
  pub of_i : ℕ
  pub of_v : ℕ
  pub are : entries_at p ≡ Some (at_i ∷ at_v ∷ [])
  pub read_i : ReadsField (codes "i") ri at_i i of_i
  pub read_v : ReadsField (codes "v") rv at_v v of_v
  pub count : n ≡ 1 + (of_i + of_v)

-- a table of the entries i and v alone, in this order, each of which some value is read of
pub record CountsBoth (ci cv : Place → ℕ → Type 0) (p : Place) (n : ℕ) : Type 0 where
  pub at_i : Entry
  pub at_v : Entry
  pub of_i : ℕ
  pub of_v : ℕ
  pub are : entries_at p ≡ Some (at_i ∷ at_v ∷ [])
  pub read_i : CountsField (codes "i") ci at_i of_i
  pub read_v : CountsField (codes "v") cv at_v of_v
  pub count : n ≡ 1 + (of_i + of_v)

-- a number of 32 bits with a sign is read
abbrev pub ReadsI32 : Place → ℤ → ℕ → Type 0
ReadsI32 = ReadsSigned (negsuc (2 ^ 31 - 1)) (pos (2 ^ 31 - 1))

-- some number of 32 bits with a sign is read
abbrev pub CountsI32 : Place → ℕ → Type 0
CountsI32 = CountsOf ReadsI32
