-- A key in its block, looked at no further than a name is long, and one byte.
use Rattle.std.specs.Prelude.{ℕ, List, [], ◌∷◌, ◌==◌, Bool, true, false, if◌then◌else◌}
use Rattle.std.specs.Ordering.{nat_cmp, ordering_then}
use Rattle.std.specs.declared.cmp.Ordering.{Ordering}
use Rattle.std.specs.declared.cmp.Ordering.TheVariants.{Less, Equal, Greater}

-- the bytes begin with these, none of them zero, and a zero byte behind them
abbrev pub is_ended : List ℕ → List ℕ → Bool
is_ended [] [] = false
is_ended [] (w ∷ ws) = false
is_ended (b ∷ bs) [] = b == 0
is_ended (b ∷ bs) (w ∷ ws) = if b == 0 then false else if b == w then is_ended bs ws else false

-- the bytes are these, none of them zero
abbrev pub is_plain : List ℕ → List ℕ → Bool
is_plain [] [] = true
is_plain [] (w ∷ ws) = false
is_plain (b ∷ bs) [] = false
is_plain (b ∷ bs) (w ∷ ws) = if b == 0 then false else if b == w then is_plain bs ws else false

-- how bytes stand to those before the first zero byte of others, where these have one
abbrev pub order_ended : List ℕ → List ℕ → Ordering
order_ended ws [] = Greater
order_ended [] (b ∷ bs) = if b == 0 then Equal else Less
order_ended (w ∷ ws) (b ∷ bs) =
    if b == 0 then Greater else ordering_then (nat_cmp w b) (order_ended ws bs)
