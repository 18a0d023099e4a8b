use Rattle.std.proofs.Common.{sym, ◌∙◌, ap, length}
use Rattle.std.proofs.lemmas.List.{length-map}
use Rattle.resb_draft.specs.Drafts.{tree_at}
use Rattle.resb_write.proofs.drafts.NumberedPiecesNodes.count.Goals as goal

pub returns : goal.returns
returns c = λ ts f.
    let ns = c.args.self.now.numbers in
    ap length (sym f.trees) ∙ length-map ns.items (tree_at f.draft)
    ∙ sym (c.len.ensures ∙ ns.ok.0)
