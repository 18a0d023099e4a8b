-- Where the first cause stands that keeps a bundle from having a text: the keys and numbers that
-- lead there from the root. What is a cause, and which, differs by the form of the text.
use Rattle.std.specs.Prelude.{ℕ, suc, List, [], ◌∷◌, ◌++◌, Option, Some, None}
use Rattle.std.specs.Prelude.{if◌then◌else◌, map, option_map}
use Rattle.std.specs.declared.alloc.Global.{Global}
use Rattle.std.specs.declared.vec.Vec.{Vec}
use Rattle.resb_tree.specs.Tree.{Tree, string, alias, array, table}
use Rattle.resb_tree.specs.Tree.{Trees, no_trees, more_trees, Entries, no_entries, entry}
use Rattle.resb_print.specs.Quotes.{has_quote}
use Rattle.resb_print.specs.declared.cause.Cause.{Cause}
use Rattle.resb_print.specs.declared.cause.Cause.TheVariants as cause
use Rattle.resb_print.specs.declared.path.PathStep.{PathStep}
use Rattle.resb_print.specs.declared.path.PathStep.TheVariants as step

-- into a table by a key, or into an array by a number from 0
pub data Step : Type 0 where
  by_key : List ℕ → Step
  by_number : ℕ → Step

-- what a step of the code stands for
abbrev pub step_of : PathStep → Step
step_of (step.Key k) = by_key k.now
step_of (step.Member n) = by_number n

-- the same of the steps of a path
abbrev pub steps_in : List PathStep → List Step
steps_in ps = map step_of ps

-- the path that was found, if there is one, as its steps
abbrev pub path_found : Option (Vec PathStep Global) → Option (List Step)
path_found found = option_map (λ v. steps_in v.items) found

-- what keeps a bundle from having a text of a form, with causes C: which cause a root is that is no
-- table, and which, if any, a name, a key, a string, and each alias
pub record Tests (C : Type 0) : Type 0 where
  pub of_root : C
  pub of_name : List ℕ → Option C
  pub of_key : List ℕ → Option C
  pub of_string : List ℕ → Option C
  pub of_alias : Option C

-- this cause where the text holds a quote
abbrev pub quote_cause : Cause → List ℕ → Option Cause
quote_cause x s = if has_quote s then Some x else None

-- what keeps a bundle from having a text of the plain form: a root that is no table, a name, a key
-- or a string that holds a quote, and each alias
abbrev pub plain_tests : Tests Cause
plain_tests = record {
  of_root = cause.RootIsNoTable;
  of_name = quote_cause cause.QuoteInName;
  of_key = quote_cause cause.QuoteInKey;
  of_string = quote_cause cause.QuoteInString;
  of_alias = Some cause.Alias;
}

-- a cause at this path where there is one, and else what comes later
abbrev pub found_else : {C : Type 0} → Option C → List Step → Option (List Step × C)
    → Option (List Step × C)
found_else None path later = later
found_else (Some x) path later = Some (path, x)

-- the first cause in the order of the text, with the path to it, and else what comes later
abbrev mutual
  -- the first cause in a tree that stands at a path, a string or an alias that is a cause or what
  -- is found inside, and else what comes later
  pub found_at : {C : Type 0} → Tests C → List Step → Tree → Option (List Step × C)
      → Option (List Step × C)
  found_at c path (string s) later = found_else (c.of_string s) path later
  found_at c path (alias s) later = found_else c.of_alias path later
  found_at c path (array ts) later = found_among c path 0 ts later
  found_at c path (table es) later = found_in c path es later
  found_at c path _ later = later

  -- the same in the members of an array that stands at a path, the first of which has this number
  pub found_among : {C : Type 0} → Tests C → List Step → ℕ → Trees → Option (List Step × C)
      → Option (List Step × C)
  found_among c path n no_trees later = later
  found_among c path n (more_trees t ts) later =
      found_at c (path ++ by_number n ∷ []) t (found_among c path (suc n) ts later)

  -- the same in the entries of a table that stands at a path, each key before its tree
  pub found_in : {C : Type 0} → Tests C → List Step → Entries → Option (List Step × C)
      → Option (List Step × C)
  found_in c path no_entries later = later
  found_in c path (entry k t es) later =
      found_else (c.of_key k) (path ++ by_key k ∷ [])
      (found_at c (path ++ by_key k ∷ []) t (found_in c path es later))

-- the first cause of a bundle of this name and root, if it has one, with the path to it: no step
-- where the root or the name is the cause
abbrev pub first_found : {C : Type 0} → Tests C → List ℕ → Tree → Option (List Step × C)
first_found c name (table es) = found_else (c.of_name name) [] (found_in c [] es None)
first_found c name _ = Some ([], c.of_root)

-- the path to the first cause of a bundle of this name and root, if it has one: no step where the
-- root or the name is the cause
abbrev pub cause_path : {C : Type 0} → Tests C → List ℕ → Tree → Option (List Step)
cause_path c name t = option_map (λ found. found.0) (first_found c name t)

-- the first cause itself, if the bundle has one: why it has no text of the form
abbrev pub first_cause : {C : Type 0} → Tests C → List ℕ → Tree → Option C
first_cause c name t = option_map (λ found. found.1) (first_found c name t)
