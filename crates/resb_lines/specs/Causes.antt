-- What is found to keep a bundle from having a text of a form.
use Rattle.std.specs.Prelude.{◌≡◌, ◌<◌, ℕ, nat_eq, List, Option, Some, None, if◌then◌else◌}
use Rattle.std.specs.Prelude.{option_map}
use Rattle.std.specs.List.{list_any}
use Rattle.std.specs.declared.alloc.Global.{Global}
use Rattle.std.specs.declared.vec.Vec.{Vec}
use Rattle.resb_print.specs.Paths.{Step, Tests, steps_in}
use Rattle.resb_print.specs.declared.path.PathStep.{PathStep}

-- a string is this cause exactly where it has this character, which is of ASCII
pub record IsCauseByItself {C : Type 0} (c : Tests C) (character : ℕ) (cause : C) : Type 0 where
  pub small : character < 128
  pub is : (text : List ℕ)
      → c.of_string text ≡ (if list_any (λ b. nat_eq b character) text then Some cause else None)

-- the path and the cause that were found, if there is one
abbrev pub found_as : {C : Type 0} → Option (Vec PathStep Global × C) → Option (List Step × C)
found_as found = option_map (λ f. (steps_in f.0.items, f.1)) found
