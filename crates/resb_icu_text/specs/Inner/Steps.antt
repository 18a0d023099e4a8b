-- Where a reading of a text stands, and how it goes on from there.
use Rattle.std.specs.Prelude.{◌≡◌, ◌≤◌, ◌<◌, ◌+◌, ◌*◌, ℕ, List, [], ◌∷◌, ◌++◌, length, map}
use Rattle.std.specs.Prelude.{Bool, true, slice_index}
use Rattle.std.specs.Borrow.{Bor}
use Rattle.resb_grammar.specs.Ascii as ascii
use Rattle.resb_tree.specs.Tree.{Tree, array, trees_of}
use Rattle.resb_tree.specs.View.{tree_of}
use Rattle.resb_draft.specs.Drafts.{is_leaf}
use Rattle.resb_icu_grammar.specs.declared.group_kind.IcuKind.{IcuKind as Kind}
use Rattle.resb_icu_grammar.specs.Blanks.{Skip}
use Rattle.resb_icu_grammar.specs.Groups as spec
use Rattle.resb_icu_grammar.specs.Words.{KeyText}
use Rattle.resb_icu_grammar.specs.Machine.{Waiting, in_array, in_table, Reading, reading_at}
use Rattle.resb_icu_grammar.specs.Machine.{among_members, among_entries, before_group, in_untyped}
use Rattle.resb_icu_grammar.specs.Machine.{in_typed, behind_group}
use Rattle.resb_icu_text.specs.Inner.Reach.{reach}
use Rattle.resb_icu_text.specs.declared.error.IcuTextError.{IcuTextError}
use Rattle.resb_icu_text.specs.declared.steps.Last.{Last}
use Rattle.resb_icu_text.specs.declared.steps.Last.TheVariants as last
use Rattle.resb_icu_text.specs.declared.steps.Waiting.{Waiting as Open}
use Rattle.resb_icu_text.specs.declared.steps.Waiting.TheVariants as waiting
use Rattle.resb_icu_text.specs.declared.steps.Step.{Step}
use Rattle.resb_icu_text.specs.declared.steps.Step.TheVariants as step
use Rattle.resb_icu_text.specs.declared.steps.Read.{Read}
use Rattle.resb_icu_text.specs.declared.steps.Read.TheVariants as read
use Rattle.resb_icu_text.specs.declared.turns.IcuTurns.{IcuTurns}
use Rattle.resb_icu_text.specs.declared.quota.Quota.{Quota}
use Rattle.resb_icu_text.specs.Inner.Build.{pairs_by}
use Rattle.resb_icu_text.specs.Inner.Kept.{Test, Passing, Keeps, members_pass, entries_pass}
use Rattle.resb_icu_text.specs.Inner.Kept.{open_passes, step_passes, read_passes, nothing_before}
use Rattle.resb_icu_text.specs.Inner.Quota.{GoesOn, StopsAt}

-- what stands last among the members, as the form says it
abbrev pub last_of : Last → spec.Last
last_of last.Nothing = spec.nothing
last_of last.String = spec.a_string
last_of last.Group = spec.a_group
last_of last.Comma = spec.a_comma

-- what is open around a group, as the form says it
abbrev pub shown : {X : Type 0} → (X → Tree) → Open X → Waiting
shown tree (waiting.Array members) = in_array (map tree members.items)
shown tree (waiting.Table entries key) = in_table (pairs_by tree entries.items) key.now

-- the keys with the one that a group stands under
abbrev pub with_key : {X : Type 0} → List (List ℕ) → Open X → List (List ℕ)
with_key ks (waiting.Array members) = ks
with_key ks (waiting.Table entries key) = ks ++ key.now ∷ []

-- where a reading stands, inside these groups and with these keys before it
abbrev pub now : {X : Type 0} → (X → Tree) → List Waiting → List (List ℕ) → Step X → Reading
now tree ws ks (step.Members members last at) =
    reading_at ws ks (among_members (last_of last) (map tree members.items)) at
now tree ws ks (step.Entries entries at) =
    reading_at ws ks (among_entries (pairs_by tree entries.items)) at
now tree ws ks (step.Group w at) =
    reading_at (shown tree w ∷ ws) (with_key ks w) before_group at
now tree ws ks (step.Ended x at) = reading_at ws ks (behind_group (tree x)) at

-- where a reading stands that has read this, of which nothing is made yet
abbrev pub read_now : {X : Type 0} → (X → Tree) → List Waiting → List (List ℕ) → Read X → Reading
read_now tree ws ks (read.Step s) = now tree ws ks s
read_now tree ws ks (read.Member members r at) =
    reading_at ws ks (among_members spec.a_string (map tree members.items ++ tree_of r ∷ [])) at
read_now tree ws ks (read.Array members at) =
    reading_at ws ks (behind_group (array (trees_of (map tree members.items)))) at
read_now tree ws ks (read.Table entries at next) =
    reading_at ws ks (among_entries (pairs_by tree entries.items)) at
read_now tree ws ks (read.Leaf r at) = reading_at ws ks (behind_group (tree_of r)) at
read_now tree ws ks (read.Root x at) = reading_at [] ks (behind_group (tree x)) at

-- where a string or a group without items was read, nothing is inside it
abbrev pub has_leaf : {X : Type 0} → Read X → Bool
has_leaf (read.Member members r at) = is_leaf (tree_of r)
has_leaf (read.Leaf r at) = is_leaf (tree_of r)
has_leaf _ = true

-- where a table was read, its `}` stands before the next place
abbrev pub Ends : {X : Type 0} → List ℕ → Read X → Type 0
Ends text (read.Table entries at next) =
    (slice_index text at ≡ ascii.right_brace) × (next ≡ at + 1)
Ends text _ = Unit {0}

-- how far a reading is: three for each byte before its place, and up to two for what follows there
abbrev pub progress : {X : Type 0} → Step X → ℕ
progress (step.Members members last at) = 3 * at + 1
progress (step.Entries entries at) = 3 * at + 1
progress (step.Group w at) = 3 * at + 2
progress (step.Ended x at) = 3 * at

-- the place where a reading stands
abbrev pub stands_at : {X : Type 0} → Step X → ℕ
stands_at (step.Members members last at) = at
stands_at (step.Entries entries at) = at
stands_at (step.Group w at) = at
stands_at (step.Ended x at) = at

-- how far a reading is that has read this
abbrev pub read_progress : {X : Type 0} → Read X → ℕ
read_progress (read.Step s) = progress s
read_progress (read.Member members r at) = 3 * at + 1
read_progress (read.Array members at) = 3 * at
read_progress (read.Table entries at next) = 3 * next
read_progress (read.Leaf r at) = 3 * at
read_progress (read.Root x at) = 3 * at + 1

-- the place behind what was read
abbrev pub read_to : {X : Type 0} → Read X → ℕ
read_to (read.Step s) = stands_at s
read_to (read.Member members r at) = at
read_to (read.Array members at) = at
read_to (read.Table entries at next) = next
read_to (read.Leaf r at) = at
read_to (read.Root x at) = at

-- a reading stands in the text, and further than it was
abbrev pub Goes : {X : Type 0} → List ℕ → ℕ → Read X → Type 0
Goes text before r = (read_to r ≤ length text) × (before < read_progress r)

-- how far a reading has looked, eight for each byte, and up to three for what follows there
abbrev pub spent : {X : Type 0} → List ℕ → Step X → ℕ
spent text (step.Members members last at) = 8 * reach text at + 2
spent text (step.Entries entries at) = 8 * reach text at + 2
spent text (step.Group w at) = 8 * reach text at + 3
spent text (step.Ended x at) = 8 * at

-- how far a reading has looked that has read this
abbrev pub spent_reading : {X : Type 0} → List ℕ → Read X → ℕ
spent_reading text (read.Step s) = spent text s
spent_reading text (read.Member members r at) = 8 * reach text at + 2
spent_reading text (read.Array members at) = 8 * at
spent_reading text (read.Table entries at next) = 8 * next
spent_reading text (read.Leaf r at) = 8 * at
spent_reading text (read.Root x at) = 8 * at + 1

-- a place of a reading, inside some groups and with some keys before it, where what was made stands
-- for some trees; which strings in what was made before it pass a test; and how far it is
pub record Place (X : Type 0) : Type 0 where
  pub there : (X → Tree) → List Waiting → List (List ℕ) → Reading
  pub passes : Passing X → Test → Bool
  pub progress : ℕ

-- among members
abbrev pub members_place : {X : Type 0} → List X → Last → ℕ → Place X
members_place members last at = record {
  there = λ tree ws ks. reading_at ws ks (among_members (last_of last) (map tree members)) at;
  passes = members_pass members;
  progress = 3 * at + 1;
}

-- among entries
abbrev pub entries_place : {X : Type 0} → List (Bor (List ℕ) × X) → ℕ → Place X
entries_place entries at = record {
  there = λ tree ws ks. reading_at ws ks (among_entries (pairs_by tree entries)) at;
  passes = entries_pass entries;
  progress = 3 * at + 1;
}

-- before a group
abbrev pub group_place : (X : Type 0) → ℕ → Place X
group_place X at = record {
  there = λ tree ws ks. reading_at ws ks before_group at;
  passes = nothing_before;
  progress = 3 * at + 2;
}

-- behind the `{` of a group without a type
abbrev pub untyped_place : (X : Type 0) → ℕ → Place X
untyped_place X at = record {
  there = λ tree ws ks. reading_at ws ks in_untyped at;
  passes = nothing_before;
  progress = 3 * at;
}

-- behind the `{` of a group of this type
abbrev pub typed_place : (X : Type 0) → Kind → ℕ → Place X
typed_place X kind at = record {
  there = λ tree ws ks. reading_at ws ks (in_typed kind) at;
  passes = nothing_before;
  progress = 3 * at;
}

-- a reading goes on from a place to where it has read this, with nothing inside a string or a group
-- without items; what was read passes what was before, and stands further on in the text
pub record StepsTo {X : Type 0} (text : List ℕ) (place : Place X) (p q : Quota) (r : Read X)
    : Type 0 where
  pub leaf : has_leaf r ≡ true
  pub ends : Ends text r
  pub comes : (tree : X → Tree) (ws : List Waiting) (ks : List (List ℕ))
      → GoesOn text p q (place.there tree ws ks) (read_now tree ws ks r)
  pub keeps : Keeps text place.passes (read_passes r)
  pub goes : Goes text place.progress r

-- a reading stops that stands at a place
abbrev pub StepFails : {X : Type 0} → List ℕ → Place X → Quota → Quota → IcuTextError → Type 0
StepFails {X} text place p q e =
    (tree : X → Tree) (ws : List Waiting) (ks : List (List ℕ))
    → StopsAt text p q (place.there tree ws ks) e

-- a reading comes from behind a group to among what was open around it, and makes nothing; that
-- passes what was open and the group, and stands further on in the text
pub record Resumes {X : Type 0} (text : List ℕ) (w : Open X) (x : X) (at : ℕ) (s : Step X)
    : Type 0 where
  pub comes : (tree : X → Tree) (ws : List Waiting) (ks : List (List ℕ)) (q : Quota)
      → GoesOn text q q (reading_at (shown tree w ∷ ws) ks (behind_group (tree x)) at)
      (now tree ws ks s)
  pub keeps : (pass : Passing X) (test : Test) → open_passes w pass test ≡ true
      → pass x test ≡ true → step_passes s pass test ≡ true
  pub within : stands_at s ≤ length text
  pub goes : 3 * at + 1 ≤ progress s

-- a reading goes on from a place to where it has read this: fewer turns are counted than 8 for each
-- byte that it has looked at since, by so many at least
abbrev pub Proceeds : {X : Type 0} → List ℕ → ℕ → ℕ → IcuTurns → IcuTurns → Read X → Type 0
Proceeds text spare at t u r = u.count + 8 * reach text at + spare ≤ t.count + spent_reading text r

-- a string that may be a key stands there, up to whose place a reading has looked, and blanks up to
-- the next place; it says no more bytes than it has
pub record KeyAhead (text : List ℕ) (from next : ℕ) (key : List ℕ) : Type 0 where
  pub to : ℕ
  pub stands : KeyText text from to key
  pub after : Skip text to next
  pub order : from < next
  pub fits : next ≤ length text
  pub short : length key + from ≤ next
  pub here : reach text from ≡ from
