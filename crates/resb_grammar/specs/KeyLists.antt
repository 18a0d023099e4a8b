-- Keys that are listed in the order in which each came first.
--     listed_keys l     the keys of a list
use Rattle.std.specs.Prelude.{ℕ, List}
use Rattle.resb_grammar.specs.declared.key_list.KeyList.{KeyList}

-- the keys of a list, in the order in which each was first listed
abbrev pub listed_keys : KeyList → List (List ℕ)
listed_keys l = l.seen.keys
