-- The words for what a reading of ICU's text form expects, and what it expects in place of a type.
use Rattle.std.specs.Prelude.{ℕ, List, codes, nat_eq, if◌then◌else◌}
use Rattle.std.specs.Cmp.Lexicographic.{pointwise}
use Rattle.resb_icu_grammar.specs.declared.expected.IcuExpected.{IcuExpected}
use Rattle.resb_icu_grammar.specs.declared.expected.IcuExpected.TheVariants as expect

-- the words for what was expected
abbrev pub item_of : IcuExpected → List ℕ
item_of expect.Name = codes "the name of the bundle"
item_of expect.RootType = codes "'table' or 'table(nofallback)'"
item_of expect.GroupType = codes "a type"
item_of expect.NoImport = codes "a type of a tree, and 'import' is none"
item_of expect.NoInclude = codes "a type of a tree, and 'include' is none"
item_of expect.NoProcess = codes "a type of a tree, and 'process' is none"
item_of expect.LeftBrace = codes "'{'"
item_of expect.RightBrace = codes "'}'"
item_of expect.CommaOrRightBrace = codes "a comma or '}'"
item_of expect.Group = codes "'{' or a type"
item_of expect.String = codes "a string"
item_of expect.Escape = codes "a known escape"
item_of expect.WholePair = codes "both halves of a surrogate pair, since a string is text"
item_of expect.ClosingQuote = codes "a quote that closes this string"
item_of expect.Key = codes "a string that may be a key"
item_of expect.HexPairs = codes "pairs of hex digits"
item_of expect.Number = codes "a number"
item_of expect.NumberOrRightBrace = codes "a number or '}'"
item_of expect.Member = codes "a resource or '}'"
item_of expect.CommaOrMember = codes "a comma, a resource or '}'"
item_of expect.Entry = codes "a key or '}'"
item_of expect.Comma = codes "a comma between two strings"
item_of expect.AfterString = codes "'}', a comma, '{' or a type"
item_of expect.KeysOnce = codes "each key once in the table that ends here"
item_of expect.EndOfText = codes "the end of the text"
item_of expect.Memory = codes "memory"

-- what was expected where a type has this name, which no tree has: where the compiler of ICU knows
-- such a type, another than that
abbrev pub instead_of : List ℕ → IcuExpected
instead_of name =
    if pointwise nat_eq name (codes "import") then expect.NoImport
    else (if pointwise nat_eq name (codes "include") then expect.NoInclude
    else (if pointwise nat_eq name (codes "process") then expect.NoProcess
    else expect.GroupType))
