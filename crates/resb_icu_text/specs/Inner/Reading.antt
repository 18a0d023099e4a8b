-- What is open where a reading stands, and what a bundle's text is up to its root.
use Rattle.std.specs.Prelude.{◌≡◌, ◌≢◌, ◌≤◌, ◌<◌, ◌+◌, ◌*◌, ℕ, Bool, true, List, [], ◌∷◌}
use Rattle.std.specs.Prelude.{length, slice_index, ◌&&◌}
use Rattle.std.specs.Prelude.{map}
use Rattle.resb_grammar.specs.Ascii as ascii
use Rattle.resb_grammar.specs.declared.limit.Limit.{Limit}
use Rattle.resb_tree.specs.Tree.{Tree}
use Rattle.resb_icu_grammar.specs.Blanks.{Skip}
use Rattle.resb_icu_grammar.specs.Bundle.{Ending}
use Rattle.resb_icu_grammar.specs.Machine.{Reading, reading_at, at_root, behind_group}
use Rattle.resb_icu_grammar.specs.Faults.{Told}
use Rattle.resb_icu_grammar.specs.Stuck.{HeaderStuck}
use Rattle.resb_icu_grammar.specs.declared.expected.IcuExpected.TheVariants as expect
use Rattle.resb_icu_grammar.specs.Words.{Name, RootType}
use Rattle.resb_icu_grammar.specs.Machine.{Waiting, AreDistinct}
use Rattle.resb_icu_text.specs.declared.error.IcuTextError.{IcuTextError}
use Rattle.resb_icu_text.specs.declared.steps.Waiting.{Waiting as Open}
use Rattle.resb_icu_text.specs.declared.steps.Step.{Step}
use Rattle.resb_icu_text.specs.declared.steps.Read.{Read}
use Rattle.resb_icu_text.specs.declared.steps.Read.TheVariants as read
use Rattle.resb_icu_text.specs.declared.open.OpenGroups.{OpenGroups}
use Rattle.resb_icu_text.specs.declared.open.Next.{Next}
use Rattle.resb_icu_text.specs.declared.open.Next.TheVariants as next
use Rattle.resb_icu_text.specs.declared.quota.Quota.{Quota}
use Rattle.resb_icu_text.specs.Inner.Build.{pairs_by, Grows}
use Rattle.resb_icu_text.specs.Inner.Kept.{Test, Passing, IsKept, groups_pass, read_passes}
use Rattle.resb_icu_text.specs.Inner.Kept.{next_passes}
use Rattle.resb_icu_text.specs.Inner.Quota.{IsAt, GoesOn}
use Rattle.resb_icu_text.specs.Inner.Steps.{shown, now, read_now, Ends, stands_at, progress, spent}
use Rattle.resb_icu_text.specs.Inner.Steps.{has_leaf, Goes, spent_reading}

-- what is open, the innermost first, around what is open already
abbrev pub around : {X : Type 0} → (X → Tree) → List Waiting → List (Open X) → List Waiting
around tree ws [] = ws
around tree ws (o ∷ os) = around tree (shown tree o ∷ ws) os

-- the groups that are open, the innermost first
abbrev pub groups : {B X : Type 0} → (X → Tree) → OpenGroups B X → List Waiting
groups tree g = around tree [] g.waiting.items

-- the keys so far, in order of place
abbrev pub keys : {B X : Type 0} → OpenGroups B X → List (List ℕ)
keys g = map (λ k. k.now) g.keys.items

-- where a reading goes on inside these groups, or behind its root
abbrev pub coming_to : {X : Type 0} → (X → Tree) → List Waiting → List (List ℕ) → Next X → Reading
coming_to tree ws ks (next.Step s) = now tree ws ks s
coming_to tree ws ks (next.Root x at) = reading_at [] ks (behind_group (tree x)) at

-- where a reading goes on, or behind its root
abbrev pub coming : {B X : Type 0} → (X → Tree) → OpenGroups B X → Next X → Reading
coming tree g n = coming_to tree (groups tree g) (keys g) n

-- where a reading stands inside what is open
abbrev pub stands : {B X : Type 0} → (X → Tree) → OpenGroups B X → Step X → Reading
stands tree g s = now tree (groups tree g) (keys g) s

-- where this was read and that is made, a reading goes on from the one to the other
abbrev pub Makes : {X : Type 0} → (X → Tree) → (X → Tree) → Read X → Next X → Type 0
Makes before after r n =
    (text : List ℕ) (ws : List Waiting) (ks : List (List ℕ)) (q : Quota) → Ends text r
    → GoesOn text q q (read_now before ws ks r) (coming_to after ws ks n)

-- a table was read in which a key stands twice, and the error says so at its `}`
abbrev pub IsDouble : {X : Type 0} → (X → Tree) → Read X → IcuTextError → Type 0
IsDouble tree (read.Table entries at next) e =
    (AreDistinct (pairs_by tree entries.items) → ⊥)
    × (e ≡ record { position = at; expected = expect.KeysOnce })
IsDouble tree _ e = ⊥

-- a reading stands in the text and further than it was, or behind its root
abbrev pub Advances : {X : Type 0} → List ℕ → Step X → Next X → Type 0
Advances text before (next.Step s) = (stands_at s ≤ length text) × (progress before < progress s)
Advances text before (next.Root x at) = at ≤ length text

-- how far a reading has looked where it goes on, or behind its root
abbrev pub spent_before : {X : Type 0} → List ℕ → Next X → ℕ
spent_before text (next.Step s) = spent text s
spent_before text (next.Root x at) = 8 * at + 1

-- a reading goes on to where it has read this inside what is open then, with nothing inside a
-- string or a group without items; it passes what the text says, and stands further on in the text
pub record IsRead {B X : Type 0} (tree : X → Tree) (pass : Passing X) (text : List ℕ)
    (from : Reading) (before : ℕ) (g : OpenGroups B X) (p q : Quota) (r : Read X) : Type 0 where
  pub leaf : has_leaf r ≡ true
  pub ends : Ends text r
  pub comes : GoesOn text p q from (read_now tree (groups tree g) (keys g) r)
  pub kept : IsKept text (λ t. groups_pass g pass t && read_passes r pass t)
  pub goes : Goes text before r

-- a reading goes on to what comes next inside what is open then; it passes what the text says, and
-- stands further on in the text
pub record IsAdvanced {B X : Type 0} (tree : X → Tree) (pass : Passing X) (text : List ℕ)
    (from : Reading) (before : Step X) (g : OpenGroups B X) (p q : Quota) (next : Next X)
    : Type 0 where
  pub comes : GoesOn text p q from (coming tree g next)
  pub kept : IsKept text (λ t. groups_pass g pass t && next_passes next pass t)
  pub goes : Advances text before next

-- this is made of what was read, and what was made before stays; it passes what was read, and
-- stands as far on in the text
pub record IsMade {B X : Type 0} (tree : B → X → Tree) (held : B → X → Test → Bool) (b d : B)
    (r : Read X) (n : Next X) : Type 0 where
  pub comes : Makes (tree b) (tree d) r n
  pub grows : Grows tree held b d
  pub kept : (t : Test) → read_passes r (held b) t ≡ true → next_passes n (held d) t ≡ true
  pub goes : (text : List ℕ) (before : Step X) → Goes text (progress before) r
      → Advances text before n
  pub spent : (text : List ℕ) → spent_before text n ≡ spent_reading text r

-- a bundle's name stands there, and blanks up to the next place
pub record NameAhead (text : List ℕ) (from next : ℕ) (name : List ℕ) : Type 0 where
  pub to : ℕ
  pub stands : Name text from to name
  pub after : Skip text to next
  pub fits : next ≤ length text

-- no bundle's name stands there, and the error says so
abbrev pub NameFails : List ℕ → ℕ → IcuTextError → Type 0
NameFails text at e =
    ((to : ℕ) (name : List ℕ) → Name text at to name → ⊥)
    × Told text at expect.Name e.position e.expected

-- the root's type and the blanks behind it, or no `:`
pub data TypingThere (text : List ℕ) (from to : ℕ) : Bool → Type 0 where
  no_colon : slice_index text from ≢ ascii.colon → to ≡ from → TypingThere text from to true
  a_type : (i : ℕ) (fallback : Bool) → RootType text from i fallback → Skip text i to
      → TypingThere text from to fallback

-- where the error says, no type of a root stands, or no `{` does
pub data OpeningFails (text : List ℕ) (from : ℕ) (e : IcuTextError) : Type 0 where
  no_type : slice_index text from ≡ ascii.colon
      → ((to : ℕ) (fallback : Bool) → RootType text from to fallback → ⊥)
      → e ≡ record { position = from; expected = expect.RootType } → OpeningFails text from e
  no_brace : (brace : ℕ) (fallback : Bool) → TypingThere text from brace fallback
      → slice_index text brace ≢ ascii.left_brace
      → e ≡ record { position = brace; expected = expect.LeftBrace } → OpeningFails text from e

-- perhaps a type, and the `{` of the root
pub record Opening (text : List ℕ) (from brace : ℕ) (fallback : Bool) : Type 0 where
  pub typed : TypingThere text from brace fallback
  pub opens : slice_index text brace ≡ ascii.left_brace

-- a reading gets stuck before the first entry where the error says
abbrev pub HeaderFails : List ℕ → IcuTextError → Type 0
HeaderFails text e = HeaderStuck text e.position e.expected

-- a reading that keeps to a limit stands behind the root, which is this tree and has these keys in
-- order of place, and what follows may stand behind a bundle
pub record IsWhole (text : List ℕ) (limit : Limit) (q : Quota) (tree : Tree)
    (places : List (List ℕ)) : Type 0 where
  pub end : ℕ
  pub stands : IsAt text limit q (reading_at [] places (behind_group tree) end)
  pub after : Ending text end

-- whatever the limit, a reading that stands at the root's first entry is whole then
abbrev pub RootThere : List ℕ → ℕ → Quota → Quota → Tree → List (List ℕ) → Type 0
RootThere text first p q tree places =
    (limit : Limit) → IsAt text limit p (at_root first) → IsWhole text limit q tree places
