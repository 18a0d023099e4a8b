-- Which bytes are escaped in a string of JSON.
use Rattle.std.specs.Prelude.{ℕ, Bool, ◌||◌, ◌==◌, nat_lt}

-- a control character, a quote or a backslash
abbrev pub is_escaped : ℕ → Bool
is_escaped b = nat_lt b 32 || b == 34 || b == 92
