-- How far the bytes of a text were looked at, for warnings that they tell by what each stands in.
use Rattle.std.specs.Prelude.{◌≡◌, ◌≤◌, ℕ, List}
use Rattle.resb_diagnostics.specs.Braces.{mode_in, depth_at, icu_form}
use Rattle.resb_diagnostics.specs.IcuMarks.{has_ended, is_behind_piece}
use Rattle.resb_diagnostics.specs.declared.icu_marks.Marks.{Marks}

-- what is kept of the first n bytes
pub record IsMarkedTo (text : List ℕ) (n : ℕ) (m : Marks) : Type 0 where
  pub mode : m.mode ≡ mode_in icu_form text n
  pub depth : m.depth ≡ depth_at icu_form text n
  pub low : m.depth ≤ n
  pub ended : m.has_ended ≡ has_ended text n
  pub piece : m.has_piece ≡ is_behind_piece text n
