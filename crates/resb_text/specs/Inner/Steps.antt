-- What one token does to the open groups.
use Rattle.std.specs.Prelude.{◌≡◌, ◌≢◌, ℕ, ◌+◌, ◌*◌, ◌<◌, ◌≤◌, Bool, true, false, List, []}
use Rattle.std.specs.Prelude.{not, ◌||◌, length, slice_index}
use Rattle.resb_grammar.specs.Ascii as ascii
use Rattle.resb_tree.specs.Tree.{Tree}
use Rattle.resb_grammar.specs.Machine as machine
use Rattle.resb_grammar.specs.Machine.{Body, table_body, array_body, untyped_body, named, inside}
use Rattle.resb_grammar.specs.Limit.{Makes, closing_bytes}
use Rattle.resb_grammar.specs.declared.limit.Limit.{Limit}
use Rattle.resb_grammar.specs.declared.limit.Weights.{Weights}
use Rattle.resb_grammar.specs.Lexical.{Skip, Text}
use Rattle.resb_grammar.specs.Inner.Reach.{reach}
use Rattle.resb_text.specs.Inner.Frames.{StandsFor, owed}
use Rattle.resb_text.specs.Inner.Quota.{KeepsQuota}
use Rattle.resb_text.specs.Inner.Failing.{StuckAfter, FailsAfter}
use Rattle.resb_text.specs.declared.frames.Open.{Open}
use Rattle.resb_text.specs.declared.quota.Quota.{Quota}
use Rattle.resb_text.specs.declared.ticks.Ticks.{Ticks}
use Rattle.resb_text.specs.declared.error.TextParserError.{TextParserError}

-- a list of items, where commas may stand
abbrev pub lists_items : Body → Bool
lists_items table_body = false
lists_items array_body = true
lists_items untyped_body = true

-- a string, or `}`, may stand in such a body; for a table: where a key may stand
abbrev pub takes_string : Body → Bool → Bool
takes_string b key = lists_items b || key

-- `{` or a type may stand in such a body; for a table: where no key may
abbrev pub takes_group : Body → Bool → Bool
takes_group b key = lists_items b || not key

-- no brace, comma or colon
pub record IsNoMark (b : ℕ) : Type 0 where
  pub comma : b ≢ ascii.comma
  pub left_brace : b ≢ ascii.left_brace
  pub right_brace : b ≢ ascii.right_brace
  pub colon : b ≢ ascii.colon

-- a reading that keeps its quota stands at this place and byte, among the items of these groups
pub record Among {B X : Type 0} (tree : B → X → Tree) (held : B → X → Bool) (text : List ℕ)
    (limit : Limit) (here : ℕ × ℕ) (c : Open B X) (q : Quota) : Type 0 where
  pub open_groups : machine.Open
  pub shows : StandsFor tree held c open_groups
  pub made : Makes limit.weights text q.made here.0 (inside open_groups)
  pub within : here.0 ≤ length text
  pub byte : here.1 ≡ slice_index text here.0
  pub keeps : KeepsQuota text limit q

-- some reading does
abbrev pub IsAmongItems : {B X : Type 0} → (B → X → Tree) → (B → X → Bool) → List ℕ → ℕ × ℕ
    → Open B X → Type 0
IsAmongItems tree held text here c = (q : Quota) × Among tree held text q.limit here c q

-- each reading that stands at the one place among the one groups comes to the other, and makes
-- nothing
abbrev pub GoesOn : {B X : Type 0} → (B → X → Tree) → (B → X → Bool) → List ℕ → ℕ × ℕ → Open B X
    → ℕ × ℕ → Open B X → Type 0
GoesOn tree held text here c next d =
    (q : Quota) → Among tree held text q.limit here c q → Among tree held text q.limit next d q

-- the reading fails so, having made what the quota says, and has kept its quota
pub record Stops (text : List ℕ) (limit : Limit) (q : Quota) (e : TextParserError) : Type 0 where
  pub fails : FailsAfter limit.weights text q.made e
  pub keeps : KeepsQuota text limit q

-- each reading that stands at this place among these groups fails so, and makes nothing
abbrev pub FailsAmong : {B X : Type 0} → (B → X → Tree) → (B → X → Bool) → List ℕ → ℕ × ℕ
    → Open B X → TextParserError → Type 0
FailsAmong tree held text here c e =
    (q : Quota) → Among tree held text q.limit here c q → Stops text q.limit q e

-- a reading goes on from one place to another: fewer turns are counted and owed than 8 for each
-- byte that it has looked at since
abbrev pub StepsOn : {B X : Type 0} → List ℕ → ℕ → Ticks → Open B X → ℕ → Ticks → Open B X
    → Type 0
StepsOn text at t c next u d =
    (at < next)
    × (u.count + owed d + 8 * reach text at + 1 ≤ t.count + owed c + 8 * reach text next)

-- a reading that keeps its quota stands here, in the root without items of such a title
pub record InRoot (text : List ℕ) (at : ℕ) (title : machine.Title) (q : Quota) : Type 0 where
  pub within : at ≤ length text
  pub made : Makes q.limit.weights text q.made at (inside (machine.at_root title))
  pub keeps : KeepsQuota text q.limit q

-- wherever a typed group may stand there, a reading gets stuck so, and makes nothing before
abbrev pub TypedOpeningFails : List ℕ → ℕ → TextParserError → Type 0
TypedOpeningFails text at e =
    (o : machine.Open) → takes_group o.frame.body (machine.is_key_place o.frame.items) ≡ true
    → (w : Weights) (n : ℕ) → Makes w text n at (inside o) → StuckAfter w text n e

-- a bundle's text up to what follows its name
pub record HasBundleName (text name : List ℕ) (to : ℕ) : Type 0 where
  pub start : ℕ
  pub ends : ℕ
  pub before : Skip text 0 start
  pub named : Text text start ends name
  pub after : Skip text ends to

-- wherever the root's type may stand there, a reading gets stuck so, and makes nothing before
abbrev pub TypingFails : List ℕ → ℕ → TextParserError → Type 0
TypingFails text at e =
    (w : Weights) (name : List ℕ) (n : ℕ) → Makes w text n at (named name)
    → StuckAfter w text n e

-- the root may be closed here, by which as much is made as the quota says
pub record ClosesRoot {B X : Type 0} (tree : B → X → Tree) (held : B → X → Bool) (text : List ℕ)
    (limit : Limit) (at : ℕ) (c : Open B X) (q : Quota) : Type 0 where
  pub open_groups : machine.Open
  pub shows : StandsFor tree held c open_groups
  pub before : ℕ
  pub made : Makes limit.weights text before at (inside open_groups)
  pub sum : q.made ≡ before + closing_bytes limit.weights open_groups.frame
  pub keeps : KeepsQuota text limit q
  pub root : open_groups.around ≡ []
  pub key_place : machine.is_key_place open_groups.frame.items ≡ true
  pub closes : slice_index text at ≡ ascii.right_brace
