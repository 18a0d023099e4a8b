-- What is compiled, and what isn't for the writer's reasons, whatever form the text has and
-- whatever kind of file is written.
--     TextBundle is_one          a bundle that a text is, by what it is for a text to be one
--     Compiled is_one is_file    such a bundle, of which the file is one
--     Unwritable is_one refuses e    such a bundle, which the writer refuses for the error's reason
use Rattle.std.specs.Prelude.{◌≢◌, ℕ, List, Bool, codes}
use Rattle.resb_tree.specs.Tree.{Tree}
use Rattle.resb_layout.specs.WritingFault.{WritingFault, unexpected}
use Rattle.resb_write.specs.FaultOf.{fault_of}
use Rattle.resb_write.specs.declared.error.BinarySerializerError.{BinarySerializerError}

-- the bundle that a text is: its name, its flag, its tree and its keys
pub record TextBundle (is_one : List ℕ → Bool → Tree → List (List ℕ) → Type 0) : Type 0 where
  pub name : List ℕ
  pub fallback : Bool
  pub tree : Tree
  pub keys : List (List ℕ)
  pub is : is_one name fallback tree keys

-- the text is a bundle, and the file is one of its tree, flag and keys
pub record Compiled (is_one : List ℕ → Bool → Tree → List (List ℕ) → Type 0)
    (is_file : Tree → Bool → List (List ℕ) → Type 0) : Type 0 where
  pub bundle : TextBundle is_one
  pub file : is_file bundle.tree bundle.fallback bundle.keys

-- the text is a bundle whose tree the writer refuses for this reason, which is no undiscovered key
pub record Unwritable (is_one : List ℕ → Bool → Tree → List (List ℕ) → Type 0)
    (refuses : Tree → List (List ℕ) → WritingFault → Type 0) (e : BinarySerializerError)
    : Type 0 where
  pub bundle : TextBundle is_one
  pub refused : refuses bundle.tree bundle.keys (fault_of e)
  pub listed : fault_of e ≢ unexpected (codes "key not present in position map")
