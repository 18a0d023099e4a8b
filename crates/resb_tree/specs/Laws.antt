-- What the laws of trees say.
use Rattle.std.specs.Prelude.{◌≡◌, ℕ, ◌<◌, ◌%◌, ◌^◌, List, Some, cond}
use Rattle.std.specs.Ordering.{eq_by_cmp}
use Rattle.std.specs.Int.{cast_unsigned, w32}
use Rattle.resb_tree.specs.Tree.{Tree, Entries, put}
use Rattle.resb_tree.specs.Maps.{text_cmp, get, IsMap}
use Rattle.resb_tree.specs.Int28.{signed}

-- what was put at a key is found there, and every other key keeps its tree
abbrev pub PutIsFound : Type 0
PutIsFound =
    (q k : List ℕ) (t : Tree) (es : Entries)
    → get q (put k t es) ≡ cond (eq_by_cmp text_cmp q k) (Some t) (get q es)

-- putting keeps the keys strictly ascending
abbrev pub PutKeepsOrder : Type 0
PutKeepsOrder = (k : List ℕ) (t : Tree) (es : Entries) → IsMap es → IsMap (put k t es)

-- entries that answer alike at every key are equal
abbrev pub MapsAreTheirAnswers : Type 0
MapsAreTheirAnswers =
    (es fs : Entries) → IsMap es → IsMap fs → ((q : List ℕ) → get q es ≡ get q fs) → es ≡ fs

-- a number below 2 ^ 28 is kept modulo 2 ^ 28, and by its signed reading
abbrev pub IntegersSurvive : Type 0
IntegersSurvive =
    (n : ℕ) → n < 2 ^ 28 → (n % 2 ^ 28 ≡ n) × (cast_unsigned w32 (signed n) % 2 ^ 28 ≡ n)
