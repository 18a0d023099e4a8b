-- Long tails of keys.
--     IsTail keys t           the text of t is the key at its place
use Rattle.std.specs.Prelude.{◌≡◌, ℕ, List, Some}
use Rattle.resb_format.specs.Strings.{key_at}
use Rattle.resb_blocks.specs.declared.tails.Tail.{Tail}

-- the text is the key that stands where the tail begins
abbrev pub IsTail : List ℕ → Tail → Type 0
IsTail keys t = key_at keys t.from ≡ Some t.text.now
