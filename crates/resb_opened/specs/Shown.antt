-- What is shown of an opened file.
--     members_ahead m         the trees of the members that are still to come
--     entries_ahead e         the entries that are still to come
use Rattle.resb_tree.specs.Tree.{Tree, Trees, Entries, trees_of, entries_of}
use Rattle.resb_opened.specs.Handles.{tree_at}
use Rattle.resb_opened.specs.declared.ahead.EntriesAhead.{EntriesAhead}
use Rattle.resb_opened.specs.declared.ahead.MembersAhead.{MembersAhead}
use Rattle.resb_opened.specs.declared.ascending.Ascending.{Ascending}

-- the tree of a resource of a file whose tables ascend
abbrev pub shown_tree : Ascending → Tree
shown_tree a = tree_at a.handle

-- the trees of the members that are still to come
abbrev pub members_ahead : MembersAhead → Trees
members_ahead m = trees_of m.stand.0

-- the keys and the trees of the entries that are still to come
abbrev pub entries_ahead : EntriesAhead → Entries
entries_ahead e = entries_of e.stand.0
