-- What is still to be looked at for the first cause, and what is known of it. The last look comes
-- first, and the path leads to what it looks into.
use Rattle.std.specs.Prelude.{◌≡◌, ℕ, ◌+◌, ◌<◌, List, [], ◌∷◌, map, Option, Some, None}
use Rattle.resb_tree.specs.Tree.{Tree, Trees, Entries as TableEntries, tree_count, trees_count}
use Rattle.resb_tree.specs.Tree.{entries_count}
use Rattle.resb_print.specs.Held.{IsHeld, AreHeld, HeldIn}
use Rattle.resb_print.specs.Paths.{Step, Tests, found_at, found_among, found_in}
use Rattle.resb_lines.specs.declared.inside.Inside.{Inside}
use Rattle.resb_lines.specs.declared.inside.Inside.TheVariants.{Members, Entries}

pub data Look : Type 0 where
  members_look : ℕ → Trees → Look
  entries_look : TableEntries → Look

abbrev pub look_of : {M E : Type 0} → (M → Trees) → (E → TableEntries) → Inside M E → Look
look_of m e (Members ahead n) = members_look n (m ahead)
look_of m e (Entries ahead) = entries_look (e ahead)

abbrev pub looks_in : {M E : Type 0} → (M → Trees) → (E → TableEntries) → List (Inside M E)
    → List Look
looks_in m e is = map (look_of m e) is

-- a path without its last step
abbrev pub without_last : List Step → List Step
without_last [] = []
without_last (p ∷ []) = []
without_last (p ∷ q ∷ ps) = p ∷ without_last (q ∷ ps)

-- what is found from a path on
abbrev pub Finding : Type 0 → Type 0
Finding C = List Step → Option (List Step × C)

abbrev pub look_found : {C : Type 0} → Tests C → Look → Finding C → Finding C
look_found c (members_look n ts) later path = found_among c path n ts (later (without_last path))
look_found c (entries_look es) later path = found_in c path es (later (without_last path))

abbrev pub nowhere : {C : Type 0} → Finding C
nowhere path = None

-- the looks in turn, the last one outermost
abbrev pub fold_looks : {X : Type 0} → (Look → X → X) → List Look → X → X
fold_looks f [] x = x
fold_looks f (l ∷ ls) x = fold_looks f ls (f l x)

abbrev pub looks_found : {C : Type 0} → Tests C → List Look → Finding C
looks_found c ls = fold_looks (look_found c) ls nowhere

abbrev pub IsHeldLook : Look → Type 0
IsHeldLook (members_look n ts) = AreHeld ts
IsHeldLook (entries_look es) = HeldIn es

abbrev pub AreHeldLooks : List Look → Type 0
AreHeldLooks [] = Unit {0}
AreHeldLooks (l ∷ ls) = AreHeldLooks ls × IsHeldLook l

-- a bound on the turns that are left: one for each resource, and one for each collection
abbrev pub look_turns : Look → ℕ
look_turns (members_look n ts) = trees_count ts + trees_count ts + 1
look_turns (entries_look es) = entries_count es + entries_count es + 1

abbrev pub looks_turns : List Look → ℕ
looks_turns [] = 0
looks_turns (l ∷ ls) = looks_turns ls + look_turns l

-- a resource at a path is a cause itself, or what is in it is to be looked at; where nothing is,
-- the last step is taken back
pub record Enters {C : Type 0} (c : Tests C) (before after : List Look) (path next : List Step)
    (t : Tree) (found : Option C) : Type 0 where
  pub same : (x : C) → found ≡ Some x → next ≡ path
  pub met : (x : C) → found ≡ Some x → (later : Option (List Step × C))
      → found_at c path t later ≡ Some (path, x)
  pub passed : found ≡ None
      → looks_found c after next ≡ found_at c path t (looks_found c before (without_last path))
  pub held : found ≡ None → AreHeldLooks after → AreHeldLooks before × IsHeld t
  pub fewer : looks_turns after < looks_turns before + tree_count t + tree_count t

-- one look finds the cause, to which the path then leads, or leaves what is still to be looked at
pub record LooksOnce {C : Type 0} (c : Tests C) (before after : List Look) (path next : List Step)
    (l : Look) (found : Option C) : Type 0 where
  pub met : (x : C) → found ≡ Some x → (later : Finding C)
      → look_found c l later path ≡ Some (next, x)
  pub passed : found ≡ None
      → looks_found c after next ≡ look_found c l (looks_found c before) path
  pub held : found ≡ None → AreHeldLooks after → AreHeldLooks before × IsHeldLook l
  pub fewer : looks_turns after < looks_turns before + look_turns l
