-- What is known of a text that something was written to.
use Rattle.std.specs.Prelude.{◌≡◌, ℕ, List, ◌++◌}
use Rattle.std.specs.String.{string_bytes}
use Rattle.std.specs.declared.alloc.Global.{Global}
use Rattle.std.specs.declared.string.String.{String}

-- this is written behind what stands
abbrev pub Appends : String Global → String Global → (List ℕ → List ℕ) → Type 0
Appends old new f = (rest : List ℕ) → string_bytes new ++ rest ≡ string_bytes old ++ f rest
