-- Tests of the strings in what a reading holds.
use Rattle.std.specs.Prelude.{◌≡◌, ◌&&◌, ℕ, Bool, true, List, map}
use Rattle.std.specs.Borrow.{Bor}
use Rattle.std.specs.declared.alloc.Global.{Global}
use Rattle.std.specs.declared.borrow.CowStr.{CowStr}
use Rattle.resb_tree.specs.Borrowing.{all_true}
use Rattle.resb_icu_text.specs.Borrowed.{PassesWhatIsSaid, passes}
use Rattle.resb_icu_text.specs.declared.steps.Waiting.{Waiting as Open}
use Rattle.resb_icu_text.specs.declared.steps.Waiting.TheVariants as waiting
use Rattle.resb_icu_text.specs.declared.steps.Step.{Step}
use Rattle.resb_icu_text.specs.declared.steps.Step.TheVariants as step
use Rattle.resb_icu_text.specs.declared.steps.Read.{Read}
use Rattle.resb_icu_text.specs.declared.steps.Read.TheVariants as read
use Rattle.resb_icu_text.specs.declared.open.OpenGroups.{OpenGroups}
use Rattle.resb_icu_text.specs.declared.open.Next.{Next}
use Rattle.resb_icu_text.specs.declared.open.Next.TheVariants as next

-- a test of a string
abbrev pub Test : Type 0
Test = CowStr Global → Bool

-- the test that each string passes
abbrev pub anything : Test
anything s = true

-- whether what is made of groups passes a test
abbrev pub Passing : Type 0 → Type 0
Passing X = X → Test → Bool

-- each of the members passes
abbrev pub members_pass : {X : Type 0} → List X → Passing X → Test → Bool
members_pass members pass test = all_true (map (λ x. pass x test) members)

-- the value of each of the entries passes
abbrev pub entries_pass : {X : Type 0} → List (Bor (List ℕ) × X) → Passing X → Test → Bool
entries_pass entries pass test = all_true (map (λ e. pass e.1 test) entries)

-- what is open around a group passes
abbrev pub open_passes : {X : Type 0} → Open X → Passing X → Test → Bool
open_passes (waiting.Array members) pass test = members_pass members.items pass test
open_passes (waiting.Table entries key) pass test = entries_pass entries.items pass test

-- what a reading holds where it stands passes
abbrev pub step_passes : {X : Type 0} → Step X → Passing X → Test → Bool
step_passes (step.Members members last at) pass test = members_pass members.items pass test
step_passes (step.Entries entries at) pass test = entries_pass entries.items pass test
step_passes (step.Group w at) pass test = open_passes w pass test
step_passes (step.Ended x at) pass test = pass x test

-- what a step has read passes, and what was made before it
abbrev pub read_passes : {X : Type 0} → Read X → Passing X → Test → Bool
read_passes (read.Step s) pass test = step_passes s pass test
read_passes (read.Member members r at) pass test =
    members_pass members.items pass test && passes test r
read_passes (read.Array members at) pass test = members_pass members.items pass test
read_passes (read.Table entries at next) pass test = entries_pass entries.items pass test
read_passes (read.Leaf r at) pass test = passes test r
read_passes (read.Root x at) pass test = pass x test

-- what is open passes
abbrev pub groups_pass : {B X : Type 0} → OpenGroups B X → Passing X → Test → Bool
groups_pass groups pass test = all_true (map (λ w. open_passes w pass test) groups.waiting.items)

-- what comes next, or the root, passes
abbrev pub next_passes : {X : Type 0} → Next X → Passing X → Test → Bool
next_passes (next.Step s) pass test = step_passes s pass test
next_passes (next.Root x at) pass test = pass x test

-- what is there passes each test that passes what the text says
abbrev pub IsKept : List ℕ → (Test → Bool) → Type 0
IsKept text passing = (test : Test) → PassesWhatIsSaid text test → passing test ≡ true

-- what is there passes each test that passes what the text says, if what was there before does
abbrev pub Keeps : {X : Type 0} → List ℕ → (Passing X → Test → Bool) → (Passing X → Test → Bool)
    → Type 0
Keeps {X} text before after =
    (pass : Passing X) (test : Test) → PassesWhatIsSaid text test → before pass test ≡ true
    → after pass test ≡ true

-- nothing was there before
abbrev pub nothing_before : {X : Type 0} → Passing X → Test → Bool
nothing_before pass test = true
