-- Where causes stand in bundles, by the definitions alone.
use Rattle.std.proofs.Common.{◌≡◌, ◌∙◌, ℕ, List, [], ◌∷◌, refl, ap, Some, arith}
use Rattle.std.specs.Prelude.{codes}
use Rattle.std.proofs.lemmas.Option.{none-some, same_Some}
use Rattle.resb_tree.specs.Maps.{AreMaps}
use Rattle.resb_tree.specs.Tree.{Tree, string, array, table, integer}
use Rattle.resb_tree.specs.Tree.{no_trees, more_trees, no_entries, entry}
use Rattle.resb_print.specs.declared.cause.Cause.{Cause}
use Rattle.resb_print.specs.declared.cause.Cause.TheVariants as cause
use Rattle.resb_print.specs.Paths.{Step, by_key, by_number, plain_tests, cause_path, first_cause}
use Rattle.resb_print.specs.Standing.{at_path, bundle_cause, Stands, IsFirst}
use Rattle.resb_print.specs.Standing.{IsBefore, goes_on, one_way, parts}

-- a table whose key holds a quote, and its string another one
abbrev quoted : Tree
quoted = table (entry (codes "\"") (string (codes "\"")) no_entries)

-- in an array, behind a number; and behind that one string more that holds a quote
abbrev bundle : Tree
bundle =
    table (entry (codes "a") (array (more_trees (integer 1) (more_trees quoted no_trees)))
    (entry (codes "b") (string (codes "\"")) no_entries))

-- the path to the key that holds a quote
abbrev to_key : List Step
to_key = by_key (codes "a") ∷ by_number 1 ∷ by_key (codes "\"") ∷ []

-- the key is the cause, not the string behind it
at_key : (cause_path plain_tests (codes "n") bundle ≡ Some to_key)
    × Stands plain_tests (codes "n") bundle to_key cause.QuoteInKey
at_key = (
  refl,
  record { resource = string (codes "\""); leads = refl; is_cause = refl },
)

-- the other string stands behind it, and is a cause too
behind : IsBefore to_key (by_key (codes "b") ∷ [])
    × Stands plain_tests (codes "n") bundle (by_key (codes "b") ∷ []) cause.QuoteInString
behind = (
  parts (by_key (codes "a")) (by_key (codes "b")) (by_number 1 ∷ by_key (codes "\"") ∷ []) []
      refl,
  record { resource = string (codes "\""); leads = refl; is_cause = refl },
)

-- a collection stands before what is in it, and a member before the next
order : IsBefore (by_key (codes "a") ∷ []) to_key
    × IsBefore (by_key (codes "a") ∷ by_number 0 ∷ []) to_key
order = (
  one_way (by_key (codes "a")) [] (by_number 1 ∷ by_key (codes "\"") ∷ [])
      (goes_on (by_number 1) (by_key (codes "\"") ∷ [])),
  one_way (by_key (codes "a")) (by_number 0 ∷ []) (by_number 1 ∷ by_key (codes "\"") ∷ [])
      (parts (by_number 0) (by_number 1) [] (by_key (codes "\"") ∷ []) (omega arith)),
)

-- the root is the cause where it is no table, and else the name
at_root : Stands plain_tests (codes "n") (integer 1) [] cause.RootIsNoTable
    × Stands plain_tests (codes "\"") bundle [] cause.QuoteInName
at_root = (
  record { resource = integer 1; leads = refl; is_cause = refl },
  record { resource = bundle; leads = refl; is_cause = refl },
)

-- a table that is no map: one key has two values
abbrev twice : Tree
twice = table (entry (codes "k") (integer 1) (entry (codes "k") (string (codes "\"")) no_entries))

-- there the first cause stands where no path leads, so that the law asks for maps
needs_maps : ((name : List ℕ) (t : Tree) (path : List Step) (x : Cause)
    → cause_path plain_tests name t ≡ Some path → first_cause plain_tests name t ≡ Some x
    → IsFirst plain_tests name t path x) → ⊥
needs_maps law =
    let h = law (codes "n") twice (by_key (codes "k") ∷ []) cause.QuoteInString refl refl in
    no h.stands.resource h.stands.leads h.stands.is_cause
  where
    no : (t : Tree) → at_path (by_key (codes "k") ∷ []) twice ≡ Some t
        → bundle_cause plain_tests (codes "n") (by_key (codes "k") ∷ []) t
        ≡ Some cause.QuoteInString → ⊥
    no t e f =
        none-some cause.QuoteInString
        (ap (bundle_cause plain_tests (codes "n") (by_key (codes "k") ∷ []))
        (same_Some (integer 1) t e) ∙ f)

-- other causes may stand behind the first: that none does is no law
needs_before : ((name : List ℕ) (t : Tree) (path p : List Step) (y : Cause) → AreMaps t
    → cause_path plain_tests name t ≡ Some path → IsBefore path p
    → Stands plain_tests name t p y → ⊥) → ⊥
needs_before law =
    law (codes "n") bundle to_key (by_key (codes "b") ∷ []) cause.QuoteInString
    (tt, ((tt, ((tt, (tt, tt)), tt)), (tt, tt))) refl behind.0 behind.1
