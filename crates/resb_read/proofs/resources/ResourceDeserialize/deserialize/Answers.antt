use Rattle.std.proofs.lemmas.Result.{IfErr-weaker}
use Rattle.resb_read.specs.Places.{place_of}
use Rattle.resb_read.proofs.Trees.{refuses_lacks}
use Rattle.resb_read.proofs.resources.ResourceDeserialize.deserialize.Goals as goal

pub returns-clause-refused : goal.returns-clause-refused
returns-clause-refused c =
    IfErr-weaker c.read_resource.result _ _
    (λ e (falls, r). (falls, refuses_lacks (place_of c.args.at) c.args.walk.now e r))
    c.read_resource.ensures.refused
