-- What stands at a path of an opened file.
--     spot_of f       what an answer stands for, as a tree's paths see it
use Rattle.resb_path.specs.Finding.{Spot, tree_spot, number_spot}
use Rattle.resb_opened.specs.Handles.{tree_at}
use Rattle.resb_opened.specs.declared.found.Found.{Found}
use Rattle.resb_opened.specs.declared.found.Found.TheVariants as found

-- the tree for which a handle stands, or a number of a vector
abbrev pub spot_of : Found → Spot
spot_of (found.Resource h) = tree_spot (tree_at h)
spot_of (found.Number n) = number_spot n
