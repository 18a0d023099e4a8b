-- What the code's open groups show of a machine's, and which candidates are theirs.
use Rattle.std.specs.Prelude.{◌≡◌, ◌≢◌, ℕ, ◌+◌, ◌<◌, ◌≤◌, Bool, true, false, List, [], ◌∷◌, ◌++◌}
use Rattle.std.specs.Prelude.{map, length, Some}
use Rattle.std.specs.List.{sum_by}
use Rattle.resb_tree.specs.Tree.{Tree, string, array, table, trees_of, map_of}
use Rattle.resb_grammar.specs.Items as spec
use Rattle.resb_grammar.specs.Items.{is_pairs, item_keys, term_keys, inner_keys}
use Rattle.resb_grammar.specs.Inner.Half.{is_half}
use Rattle.resb_grammar.specs.Machine as machine
use Rattle.resb_grammar.specs.BundleText.{first_places}
use Rattle.resb_grammar.specs.KeyLists.{listed_keys}
use Rattle.resb_text.specs.Inner.Shown.{SeenItem, string_shown, group_shown, shown_by, items_seen}
use Rattle.resb_text.specs.Inner.Shown.{shown_tree, shown_pairs}
use Rattle.resb_text.specs.Inner.Discovered.{GroupText, without, texts, left, group_count, AllBelow}
use Rattle.resb_text.specs.Inner.Discovered.{candidate_count, is_dropped_in}
use Rattle.resb_text.specs.declared.discovered.Keys.{Keys}
use Rattle.resb_text.specs.declared.frames.Body.{Body}
use Rattle.resb_text.specs.declared.frames.Body.TheVariants as body
use Rattle.resb_text.specs.declared.frames.Frame.{Frame}
use Rattle.resb_text.specs.declared.frames.Open.{Open}
use Rattle.resb_text.specs.declared.frames.Shape.{Shape}
use Rattle.resb_text.specs.declared.frames.Shape.TheVariants as shape

-- the body as the grammar's machine names it
abbrev pub group_body_of : Body → machine.Body
group_body_of body.Table = machine.table_body
group_body_of body.Array = machine.array_body
group_body_of body.Untyped = machine.untyped_body

-- whether a group with this body may turn out to be a table, as its items stand so far
abbrev pub may_be_table : machine.Body → List spec.Item → Bool
may_be_table machine.table_body items = is_half items
may_be_table machine.array_body items = false
may_be_table machine.untyped_body items = is_half items

-- what a group of this shape is
abbrev pub tree_shown_in : spec.Shape → List SeenItem → Tree
tree_shown_in (spec.a_string s) xs = string s
tree_shown_in spec.a_table xs = table (map_of (shown_pairs xs))
tree_shown_in spec.an_array xs = array (trees_of (map shown_tree xs))

-- the candidates that are left once a group of this shape is closed
abbrev pub left_after : spec.Shape → ℕ → List GroupText → List GroupText
left_after spec.a_table n cs = cs
left_after spec.an_array n cs = without n cs
left_after (spec.a_string s) n cs = without n cs

-- an open group, and the number that its candidates have
pub record NumberedFrame : Type 0 where
  pub frame : machine.Frame
  pub number : ℕ

-- what the code shows of an open group
pub record FrameView : Type 0 where
  pub body : machine.Body
  pub items : List SeenItem
  pub alternates : Bool
  pub number : ℕ

abbrev pub view_of_code : {X : Type 0} → (X → Tree) → (X → Bool) → Frame X → FrameView
view_of_code tree held f =
    record {
      body = group_body_of f.body;
      items = map (shown_by tree held) f.items.items;
      alternates = f.alternates;
      number = f.number;
    }

abbrev pub view_of_frame : NumberedFrame → FrameView
view_of_frame g =
    record {
      body = g.frame.body;
      items = items_seen g.frame.items;
      alternates = is_half g.frame.items;
      number = g.number;
    }

-- what the code shows of groups that are given from the innermost on: it lists that one last
abbrev pub views_of_frames : List NumberedFrame → List FrameView
views_of_frames [] = []
views_of_frames (g ∷ gs) = views_of_frames gs ++ view_of_frame g ∷ []

-- a group's candidates: its own strings have its number, and all others greater ones; while it may
-- be a table, they are its keys
pub record IsFrom (g : NumberedFrame) (own : List GroupText) : Type 0 where
  pub whole : may_be_table g.frame.body g.frame.items ≡ true
      → texts own ≡ item_keys term_keys g.frame.items
  pub rest : texts (without g.number own) ≡ item_keys inner_keys g.frame.items
  pub later : (h : ℕ) → h < g.number → without h own ≡ own

-- the candidates of the open groups, the innermost one's last
pub data HoldsCandidates : List NumberedFrame → List GroupText → Type 0 where
  none : HoldsCandidates [] []
  one_more : (g : NumberedFrame) (gs : List NumberedFrame) (before own cs : List GroupText)
      → HoldsCandidates gs before → AllBelow g.number before → IsFrom g own → cs ≡ before ++ own
      → HoldsCandidates (g ∷ gs) cs

-- the open group with this number and those around it, but the root, have numbers from the bound
-- on
abbrev pub AllFrom : ℕ → ℕ → List NumberedFrame → Type 0
AllFrom bound number [] = Unit {0}
AllFrom bound number (g ∷ gs) = (bound ≤ number) × AllFrom bound g.number gs

-- the candidates that were listed as keys already: none is of a group that has such a number
pub record AreSettled (k : Keys) (settled : List GroupText) (bound : ℕ) : Type 0 where
  pub listed : listed_keys k.listed ≡ first_places (texts settled)
  pub apart : AllBelow bound settled
  pub bounded : bound ≤ group_count k

-- numbers fall from the innermost group on, and none was dropped
abbrev pub AreOpen : Keys → ℕ → List NumberedFrame → Type 0
AreOpen k limit [] = Unit {0}
AreOpen k limit (g ∷ gs) =
    (g.number < limit) × (is_dropped_in k g.number ≡ false) × AreOpen k g.number gs

-- what is known of the candidates while this group is open, and these around it
pub record HoldsKeys (k : Keys) (g : NumberedFrame) (gs : List NumberedFrame) : Type 0 where
  pub settled : List GroupText
  pub bound : ℕ
  pub are_settled : AreSettled k settled bound
  pub inner : AllFrom bound g.number gs
  pub holds : HoldsCandidates (g ∷ gs) (settled ++ left k)
  pub within : AllBelow (group_count k) (settled ++ left k)
  pub are_open : AreOpen k (group_count k) (g ∷ gs)

abbrev pub frames_in : List NumberedFrame → List machine.Frame
frames_in gs = map (λ g. g.frame) gs

abbrev pub with_number : ℕ → machine.Frame → NumberedFrame
with_number n f = record { frame = f; number = n }

-- the turns that are still owed: one for each item of an open group, and one for each candidate
abbrev pub owed : {B X : Type 0} → Open B X → ℕ
owed c =
    length c.frame.items.items + sum_by
    (λ f. length f.items.items) c.around.items + candidate_count c.keys

module _ {B X : Type 0} (tree : B → X → Tree) (held : B → X → Bool) where
  -- the code's open groups are the machine's
  pub record StandsFor (c : Open B X) (o : machine.Open) : Type 0 where
    pub number : ℕ
    pub around : List NumberedFrame
    pub frame : view_of_code (tree c.build) (held c.build) c.frame
        ≡ view_of_frame (with_number number o.frame)
    pub outer : map (view_of_code (tree c.build) (held c.build)) c.around.items
        ≡ views_of_frames around
    pub frames : frames_in around ≡ o.around
    pub keys : HoldsKeys c.keys (with_number number o.frame) around

  -- the code's open groups are some machine's
  abbrev pub IsOpen : Open B X → Type 0
  IsOpen c = (o : machine.Open) × StandsFor c o

  -- the open groups change as the machine's do, and at most so many turns more are owed
  pub record Becomes (change : machine.Open → machine.Open) (more : ℕ) (c d : Open B X) : Type 0
    where
      pub shows : (o : machine.Open) → StandsFor c o → StandsFor d (change o)
      pub turns : owed d ≤ owed c + more

  -- the innermost group is closed, among these groups around it
  abbrev pub ClosesTo : Open B X → machine.Open → List machine.Frame → Type 0
  ClosesTo c o [] = Unit {0}
  ClosesTo c o (outer ∷ around) =
      StandsFor c (record {
        title = o.title;
        frame = machine.with_item
            (machine.closed o.frame) outer;
        around = around;
      })

  -- a comma follows the last item now
  abbrev pub TakesComma : Open B X → machine.Open → Type 0
  TakesComma c o =
      (u : machine.Open) × (machine.with_comma o o.frame.items ≡ Some (machine.inside u))
      × StandsFor c u

abbrev pub is_string_shown : SeenItem → Bool
is_string_shown (string_shown s f) = true
is_string_shown (group_shown t b f) = false

abbrev pub shape_seen : Shape → spec.Shape
shape_seen (shape.String s) = spec.a_string s.now
shape_seen shape.Table = spec.a_table
shape_seen shape.Array = spec.an_array

-- the items of a typed table's group are whole pairs
abbrev pub IsTableWhole : machine.Frame → Type 0
IsTableWhole f = f.body ≡ machine.table_body → is_pairs f.items ≡ true

-- no other group than this one is dropped now
abbrev pub OthersStay : ℕ → Keys → Keys → Type 0
OthersStay n k l = (g : ℕ) → g ≢ n → is_dropped_in l g ≡ is_dropped_in k g

-- what the closing of a group of this look leaves of the candidates
pub record ClosesKeys (look : FrameView) (k l : Keys) : Type 0 where
  pub rest : (n : ℕ) (f : machine.Frame) → look ≡ view_of_frame (with_number n f)
      → left l ≡ left_after (machine.shape_in f.body f.items) n (left k)
  pub others : OthersStay look.number k l
  pub groups : group_count l ≡ group_count k
  pub listed : l.listed ≡ k.listed
