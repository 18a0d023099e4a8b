-- The states that a reading of a text goes through.
use Rattle.std.specs.Prelude.{ℕ, Bool, List}
use Rattle.resb_tree.specs.Tree.{Tree}
use Rattle.resb_grammar.specs.Items.{Item}
use Rattle.resb_grammar.specs.GroupTypes.{Kind}

-- the body of a group that holds items
pub data Body : Type 0 where
  table_body : Body
  array_body : Body
  untyped_body : Body

-- an open group: its body, and its items so far
pub record Frame : Type 0 where
  pub body : Body
  pub items : List Item

-- a bundle's name, and whether fallback is on
pub record Title : Type 0 where
  pub name : List ℕ
  pub fallback : Bool

-- what is open: the bundle, the innermost group, and the groups around it, the root last
pub record Open : Type 0 where
  pub title : Title
  pub frame : Frame
  pub around : List Frame

-- where a reading of `:intvector{..}` stands
pub data VectorStage : Type 0 where
  at_start : VectorStage
  after_lone_comma : VectorStage
  after_number : VectorStage
  after_comma : VectorStage

-- what has been read so far: at the start, behind the name, behind the root's type, or inside open
-- groups
pub data State : Type 0 where
  start : State
  -- after the bundle's name
  named : List ℕ → State
  -- after the root's type
  titled : Title → State
  -- among the items of a group
  inside : Open → State
  -- after a type
  typed : Kind → Open → State
  -- at the start of `:string{`, `:bin{`, `:int{`
  in_string : Open → State
  in_binary : Open → State
  in_integer : Open → State
  -- after the content of one of these three
  filled : Tree → Open → State
  in_vector : VectorStage → List ℕ → Open → State
  -- after the root's `}`
  finished : Title → List Item → State
