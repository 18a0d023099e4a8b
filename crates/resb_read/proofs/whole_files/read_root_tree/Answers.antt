use Rattle.resb_read.specs.Places.{place_of}
use Rattle.resb_read.proofs.Rooted.{tree_here}
use Rattle.resb_read.proofs.whole_files.read_root_tree.Goals as goal

pub returns : goal.returns
returns c =
    tree_here (place_of c.args.root) c.args.walk c.read_resource.new.walk c.read_resource.result
    c.read_resource.ensures.read c.read_resource.ensures.refused c.read_resource.ensures.meets
