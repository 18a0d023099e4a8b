use Rattle.std.proofs.Common.{sym, subst}
use Rattle.resb_read.specs.Resources.{DenPlace}
use Rattle.resb_read.proofs.FilesLemmas.{linked}
use Rattle.resb_path.proofs.file.find_in.Goals as goal

pub returns-clause-tree : goal.returns-clause-tree
returns-clause-tree c = λ t n d.
    let f = c.args.file.now in
    c.find_from.ensures.tree t n (subst (λ p. DenPlace p t n) (sym c.root.ensures.1)
    ((linked f.manner f.bytes.now).roots t n d))
