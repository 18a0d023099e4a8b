-- Where a path leads in a tree, and which cause stands there.
--     at_path path t                the resource to which a path leads from a tree
--     Stands c name root path x     a cause stands where a path leads in a bundle
--     IsBefore p q                  what one path leads to stands before what another leads to
--     IsFirst c name root path x    a cause stands there, and none before it
use Rattle.std.specs.Prelude.{◌≡◌, ◌<◌, ℕ, List, [], ◌∷◌, Option, Some, None, slice_get}
use Rattle.std.specs.Option.{option_and_then, option_or}
use Rattle.std.specs.declared.cmp.Ordering.TheVariants.{Less}
use Rattle.resb_tree.specs.Tree.{Tree, string, alias, array, table}
use Rattle.resb_tree.specs.LayingOrder.{array_members}
use Rattle.resb_tree.specs.Maps.{text_cmp, get}
use Rattle.resb_print.specs.Paths.{Step, by_key, by_number, Tests}

-- where a step leads from a tree: a key to its value in a table that has it, a number to the member
-- of an array that is long enough
abbrev pub after_step : Step → Tree → Option Tree
after_step (by_key k) (table es) = get k es
after_step (by_number n) (array ts) = slice_get (array_members ts) n
after_step s t = None

-- what stands in a tree where a path leads, if it leads anywhere
abbrev pub at_path : List Step → Tree → Option Tree
at_path [] t = Some t
at_path (s ∷ path) t = option_and_then (at_path path) (after_step s t)

-- which cause a resource is by itself, if it is one: a string, or an alias
abbrev pub own_cause : {C : Type 0} → Tests C → Tree → Option C
own_cause c (string s) = c.of_string s
own_cause c (alias s) = c.of_alias
own_cause c t = None

-- which cause stands at the end of a path that leads to a resource: the last step, if it is a key
-- that is one, or else the resource itself
abbrev pub end_cause : {C : Type 0} → Tests C → List Step → Tree → Option C
end_cause c [] t = own_cause c t
end_cause c (by_key k ∷ []) t = option_or (c.of_key k) (own_cause c t)
end_cause c (s ∷ path) t = end_cause c path t

-- the same in a bundle of this name, where a path from the root leads to a resource: without steps
-- it is the root, which is a cause if it is no table, or else for the name
abbrev pub bundle_cause : {C : Type 0} → Tests C → List ℕ → List Step → Tree → Option C
bundle_cause c name [] (table es) = c.of_name name
bundle_cause c name [] t = Some c.of_root
bundle_cause c name (s ∷ path) t = end_cause c (s ∷ path) t

-- a path leads to a resource of a bundle of this name and root, and this cause stands there
pub record Stands {C : Type 0} (c : Tests C) (name : List ℕ) (root : Tree) (path : List Step)
    (x : C) : Type 0 where
  pub resource : Tree
  pub leads : at_path path root ≡ Some resource
  pub is_cause : bundle_cause c name path resource ≡ Some x

-- one step leads to what stands before what another leads to in a collection: a smaller key, or a
-- smaller number
abbrev pub IsStepBefore : Step → Step → Type 0
IsStepBefore (by_key k) (by_key l) = text_cmp k l ≡ Less
IsStepBefore (by_number n) (by_number m) = n < m
IsStepBefore s r = ⊥

-- what one path leads to stands before what another leads to, in the order of the text: the other
-- goes on from where the one ends; or they go one way up to two steps of which the one is before
-- the other
pub data IsBefore : List Step → List Step → Type 0 where
  goes_on : (s : Step) (path : List Step) → IsBefore [] (s ∷ path)
  one_way : (s : Step) (p q : List Step) → IsBefore p q → IsBefore (s ∷ p) (s ∷ q)
  parts : (s r : Step) (p q : List Step) → IsStepBefore s r → IsBefore (s ∷ p) (r ∷ q)

-- this cause stands where a path leads in a bundle, and none stands before it
pub record IsFirst {C : Type 0} (c : Tests C) (name : List ℕ) (root : Tree) (path : List Step)
    (x : C) : Type 0 where
  pub stands : Stands c name root path x
  pub none_before : (p : List Step) (y : C) → IsBefore p path → Stands c name root p y → ⊥
