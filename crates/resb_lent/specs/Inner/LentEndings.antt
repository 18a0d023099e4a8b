-- Which of some texts a text of the pool ends with.
--     IsLentEnd block s           a text of the pool ends with s
--     StandsAs block s standing   how the text s stands beside the pool's
--     AreStandingsBy way block S ds   ds is how each of S stands so
--     NotesEnd block s n es fs    fs are es, and the number n if a text of the pool ends with s
--     AreLentEndsBy way block S es    es are the numbers of these texts of S
use Rattle.std.specs.Prelude.{◌≡◌, ℕ, ◌<◌, List, [], ◌∷◌, ◌++◌, length, ◌⊎◌, Contains}
use Rattle.std.specs.Prelude.{slice_index_or}
use Rattle.resb_pool.specs.Records.{EndsWith}
use Rattle.resb_pool.specs.declared.packing.Packing.{Packing}
use Rattle.resb_pool.specs.declared.packing.Packing.TheVariants.{Plain, Compact}
use Rattle.resb_lent.specs.LentBeside.{IsLent}
use Rattle.resb_lent.specs.Inner.Within.{NoneHolds, StandsWithin}
use Rattle.resb_lent.specs.declared.texts.Standing.{Standing}
use Rattle.resb_lent.specs.declared.texts.Standing.TheVariants.{Whole, End, Apart}

-- a text of the pool ends with s
abbrev pub IsLentEnd : List ℕ → List ℕ → Type 0
IsLentEnd block s = (t : List ℕ) × IsLent block t × EndsWith t s

-- the pool has a first record of s at this unit; or it has none, but one of a text that ends with
-- s; or no text of the pool ends with s
abbrev pub StandsAs : List ℕ → List ℕ → Standing → Type 0
StandsAs block s (Whole i) = StandsWithin block s s i
StandsAs block s End = NoneHolds block s s × IsLentEnd block s
StandsAs block s Apart = IsLentEnd block s → ⊥

-- how each text of the list stands
pub data AreStandings (block : List ℕ) : List (List ℕ) → List Standing → Type 0 where
  standing_none : AreStandings block [] []
  standing_more : {s : List ℕ} {d : Standing} {ss : List (List ℕ)} {ds : List Standing}
      → StandsAs block s d → AreStandings block ss ds → AreStandings block (s ∷ ss) (d ∷ ds)

-- it isn't told of the texts of a plain file
abbrev pub AreStandingsBy : Packing → List ℕ → List (List ℕ) → List Standing → Type 0
AreStandingsBy Plain block S ds = ds ≡ []
AreStandingsBy Compact block S ds = AreStandings block S ds

-- the number of a text is added to those before, if a text of the pool ends with it
abbrev pub NotesEnd : List ℕ → List ℕ → ℕ → List ℕ → List ℕ → Type 0
NotesEnd block s n es fs = (IsLentEnd block s × (fs ≡ es ++ n ∷ []))
    ⊎ ((IsLentEnd block s → ⊥) × (fs ≡ es))

-- each text of the list, by its number
abbrev pub AreLentEnds : List ℕ → List (List ℕ) → List ℕ → Type 0
AreLentEnds block S es = (i : ℕ) → i < length S
    → (IsLentEnd block (slice_index_or S i []) × Contains es i)
    ⊎ ((IsLentEnd block (slice_index_or S i []) → ⊥) × (Contains es i → ⊥))

-- none in a plain file
abbrev pub AreLentEndsBy : Packing → List ℕ → List (List ℕ) → List ℕ → Type 0
AreLentEndsBy Plain block S es = es ≡ []
AreLentEndsBy Compact block S es = AreLentEnds block S es
