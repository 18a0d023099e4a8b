use Rattle.std.proofs.Common.{refl, sym, ◌∙◌, [], append-nil}
use Rattle.resb_draft.specs.declared.draft.Draft.{Draft}
use Rattle.resb_draft.proofs.Standing.{grown, agrees_keeps, more_members}
use Rattle.resb_draft.proofs.draft.Draft.push_member.Goals as goal

pub returns-clause-keeps : goal.returns-clause-keeps
returns-clause-keeps c =
    let old = c.args.self.now in
    let new : Draft = record {
      pieces = old.pieces;
      members = c.push.new.self;
      keys = old.keys;
      root = old.root;
    } in
    agrees_keeps old new
    (grown old new (more_members old new _ refl c.in_ok-push.ensures.items refl))

pub returns-in_err-push-clause-keeps : goal.returns-in_err-push-clause-keeps
returns-in_err-push-clause-keeps c =
    let old = c.args.self.now in
    let new : Draft = record {
      pieces = old.pieces;
      members = c.push.new.self;
      keys = old.keys;
      root = old.root;
    } in
    agrees_keeps old new
    (grown old new (more_members old new [] refl
    (c.in_err-push.ensures.items ∙ sym (append-nil old.members.items)) refl))
