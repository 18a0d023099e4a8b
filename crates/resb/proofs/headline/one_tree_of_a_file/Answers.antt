use Rattle.resb_head.specs.File.{parts_of}
use Rattle.resb_format.proofs.Denoting.{unique}
use Rattle.resb.proofs.headline.one_tree_of_a_file.Goals as goal

pub returns : goal.returns
returns c bytes t u m n d e = unique (parts_of bytes) d.root e.root
