use Rattle.std.proofs.Common.{refl, sym, ◌∙◌, [], append-nil}
use Rattle.resb_draft.specs.declared.draft.Draft.{Draft}
use Rattle.resb_draft.proofs.Standing.{grown, agrees_keeps, keeps_on, more_entries}
use Rattle.resb_draft.proofs.draft.Draft.push_entry.Goals as goal

pub returns-else-is_err-clause-keeps : goal.returns-else-is_err-clause-keeps
returns-else-is_err-clause-keeps c =
    let old = c.args.self.now in
    let mid : Draft = record {
      pieces = old.pieces;
      members = old.members;
      keys = c.push.new.self;
      root = old.root;
    } in
    keeps_on old mid c.push_member-pushed.new.self
    (agrees_keeps old mid (grown old mid
    (more_entries old mid [] _ refl (sym (append-nil old.members.items))
    c.in_ok-push.ensures.items)))
    c.push_member-pushed.ensures.keeps

pub returns-in_err-push-clause-keeps : goal.returns-in_err-push-clause-keeps
returns-in_err-push-clause-keeps c =
    let old = c.args.self.now in
    let new : Draft = record {
      pieces = old.pieces;
      members = old.members;
      keys = c.push.new.self;
      root = old.root;
    } in
    agrees_keeps old new (grown old new
    (more_entries old new [] [] refl (sym (append-nil old.members.items))
    (c.in_err-push.ensures.items ∙ sym (append-nil old.keys.items))))
