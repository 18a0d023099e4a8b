-- Bundles and the texts that they are printed as, and what keeps others from having one, by the
-- definitions alone.
use Rattle.std.proofs.Common.{◌≡◌, true, false, [], ◌∷◌, ◌++◌, refl, Some, None}
use Rattle.std.specs.Prelude.{codes}
use Rattle.hex.specs.Hex.{encode_with}
use Rattle.resb_tree.specs.Tree.{string, alias, array, table, binary}
use Rattle.resb_tree.specs.Tree.{no_trees, more_trees, no_entries, entry}
use Rattle.resb_print.specs.declared.cause.Cause.TheVariants as cause
use Rattle.resb_print.specs.Paths.{first_cause}
use Rattle.resb_print.specs.Printed.{printed_bundle}
use Rattle.resb_icu_print.specs.Printed.{icu_spelling}
use Rattle.resb_icu_print.specs.Causes.{icu_tests}

-- a bundle without entries
empty_bundle : printed_bundle icu_spelling (codes "b") true no_entries ≡ codes "b{\n}\n"
empty_bundle = refl

-- a key with a space stands in quotes; a quote and a control character of a string by an escape
escapes : printed_bundle icu_spelling (codes "de_AT") false
    (entry (codes "a b") (string (codes "x\"\n\\")) (entry (codes "k%") (string []) no_entries))
    ≡ codes "de_AT:table(nofallback){\n    \"a b\"{\"x\\\"\\u000a\\\\\"}\n    k%{\"\"}\n}\n"
unfolding encode_with
escapes = refl

-- an alias has its path in quotes, as a string
aliases : printed_bundle icu_spelling (codes "b") true
    (entry (codes "x") (alias (codes "/a/b"))
    (entry (codes "y") (array (more_trees (alias (codes "\"")) no_trees)) no_entries))
    ≡ codes "b{\n    x:alias{\"/a/b\"}\n    y:array{\n        :alias{\"\\\"\"},\n    }\n}\n"
aliases = refl

-- each item of an array has a comma behind it, and an entry none
groups : printed_bundle icu_spelling (codes "b") true
    (entry (codes "l")
    (array (more_trees (string (codes "x")) (more_trees (table no_entries) no_trees)))
    (entry (codes "m") (array no_trees)
    (entry (codes "t") (table (entry [] (binary (10 ∷ [])) no_entries)) no_entries)))
    ≡ codes "b{\n    l:array{\n        \"x\",\n        :table{},\n    }\n    m:array{}\n"
    ++ codes "    t{\n        \"\":bin{\"0a\"}\n    }\n}\n"
unfolding encode_with
groups = refl

-- the root is a table
root_refused : first_cause icu_tests (codes "b") (string []) ≡ Some cause.RootIsNoTable
root_refused = refl

-- a name is a word; an empty one isn't
name_refused : (first_cause icu_tests (codes "a b") (table no_entries) ≡ Some cause.NameIsNoWord)
    × (first_cause icu_tests [] (table no_entries) ≡ Some cause.NameIsNoWord)
name_refused = (refl, refl)

-- no key has a quote or a bracket, but may be empty or have a space
key_refused : (first_cause icu_tests (codes "b")
    (table (entry (codes "a\"") (string []) no_entries))
    ≡ Some cause.KeyHasOtherBytes)
    × (first_cause icu_tests (codes "b") (table (entry (codes "[") (string []) no_entries))
    ≡ Some cause.KeyHasOtherBytes)
    × (first_cause icu_tests (codes "b") (table (entry [] (string []) no_entries)) ≡ None)
    × (first_cause icu_tests (codes "b") (table (entry (codes "a b") (string []) no_entries))
    ≡ None)
key_refused = (refl, refl, refl, refl)
