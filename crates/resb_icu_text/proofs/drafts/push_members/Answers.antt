use Rattle.std.proofs.Common.{refl}
use Rattle.resb_draft.specs.declared.draft.Draft.{Draft}
use Rattle.resb_draft.proofs.Standing.{agrees_keeps, grown, more_members}
use Rattle.resb_icu_text.proofs.drafts.push_members.Goals as goal

pub returns-clause-keeps : goal.returns-clause-keeps
returns-clause-keeps c =
    let old = c.args.draft.now in
    let new : Draft = record {
      pieces = old.pieces;
      members = c.extend_from_slice.new.self;
      keys = old.keys;
      root = old.root;
    } in
    agrees_keeps old new (grown old new (more_members old new c.args.members.now refl
    c.in_ok-extend_from_slice.ensures.items refl))
