-- The words for what a reading expects.
use Rattle.std.specs.Prelude.{ℕ, List, codes}
use Rattle.resb_grammar.specs.declared.expected.Expected.{Expected}
use Rattle.resb_grammar.specs.declared.expected.Expected.TheVariants as expect

-- the words for what was expected
abbrev pub item_of : Expected → List ℕ
item_of expect.Text = codes "a string"
item_of expect.LeftBrace = codes "'{'"
item_of expect.RightBrace = codes "'}'"
item_of expect.TypeName = codes "a type"
item_of expect.Number = codes "a number"
item_of expect.HexPairs = codes "pairs of hex digits"
item_of expect.Item = codes "a resource"
item_of expect.EndOfText = codes "the end of the text"
item_of expect.Memory = codes "memory"
