-- What the functions that go through a text answer.
use Rattle.std.specs.Prelude.{◌≡◌, ◌<◌, ◌≤◌, ℕ, Option, Some, None, List, length}
use Rattle.resb_icu_text.specs.Lexemes.{bytes_said}
use Rattle.resb_icu_files.specs.Ways.{FileGroup}
use Rattle.resb_icu_files.specs.Stretches.{Passes, Stretch, Ends}
use Rattle.resb_icu_files.specs.declared.group.Group.{Group}
use Rattle.resb_icu_files.specs.declared.stretch.Step.{Step}
use Rattle.resb_icu_files.specs.declared.stretch.Step.TheVariants as step
use Rattle.resb_icu_files.specs.declared.stretch.Passed.{Passed}

-- the group that takes a file in stands there, whole
pub record IsGroup (text : List ℕ) (g : Group) : Type 0 where
  pub stands : FileGroup text g.at g.kind g.brace g.last (bytes_said g.name)
  pub order : g.at < g.brace
  pub inside : g.brace < g.last
  pub fits : g.last < length text

-- the group begins at this place
pub record IsGroupAt (text : List ℕ) (at : ℕ) (g : Group) : Type 0 where
  pub group : IsGroup text g
  pub here : g.at ≡ at

-- what stands at a place where so many groups are open: something is passed, a group begins, or a
-- reader ends there
abbrev pub IsStep : List ℕ → ℕ → ℕ → Step → Type 0
IsStep text at depth (step.Past to behind) =
    Passes text at depth to behind × (at < to) × (to ≤ length text) × (behind ≤ to)
IsStep text at depth (step.Group g) = IsGroupAt text at g
IsStep text at depth step.End = Ends text at depth

-- what stands at a place where a group begins or a reader ends
abbrev pub IsStop : List ℕ → ℕ → ℕ → Option Group → Type 0
IsStop text at depth None = Ends text at depth
IsStop text at depth (Some g) = IsGroupAt text at g

-- a stretch was passed from a place on, where so many groups are open, up to a group or the end
pub record IsPassed (text : List ℕ) (from depth : ℕ) (p : Passed) : Type 0 where
  pub stretch : Stretch text from depth p.to p.depth
  pub order : from ≤ p.to
  pub fits : p.to ≤ length text
  pub low : p.depth ≤ p.to
  pub stop : IsStop text p.to p.depth p.group
