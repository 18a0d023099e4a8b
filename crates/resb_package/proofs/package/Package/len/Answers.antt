use Rattle.std.proofs.Common.{sym, ◌∙◌}
use Rattle.resb_package.proofs.Passing.{items_length}
use Rattle.resb_package.proofs.package.Package.len.Goals as goal

pub returns : goal.returns
returns c = c.count.ensures ∙ sym (items_length c.args.self.now.table.bytes.now)
