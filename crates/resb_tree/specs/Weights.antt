-- How many bytes of memory a tree is counted for, where there is a limit for them.
use Rattle.std.specs.Prelude.{ℕ}

-- a resource of its own is 72 bytes
abbrev pub resource_weight : ℕ
resource_weight = 72

-- a table that has entries is 1024 bytes more
abbrev pub table_weight : ℕ
table_weight = 1024

-- an entry of a table is 192 bytes, beside its value
abbrev pub entry_weight : ℕ
entry_weight = 192

-- each byte of a text is 3 bytes
abbrev pub text_byte_weight : ℕ
text_byte_weight = 3

-- each number of a vector is 4 bytes
abbrev pub number_weight : ℕ
number_weight = 4
