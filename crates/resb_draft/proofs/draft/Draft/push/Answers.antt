use Rattle.std.proofs.Common.{refl, ◌∙◌}
use Rattle.resb_draft.specs.declared.draft.Draft.{Draft}
use Rattle.resb_draft.proofs.Standing.{pushed, grown, agrees_keeps, one_piece}
use Rattle.resb_draft.proofs.draft.Draft.push.Goals as goal

pub returns-clause-made : goal.returns-clause-made
returns-clause-made c =
    let old = c.args.self.now in
    let new : Draft = record {
      pieces = c.push.new.self;
      members = old.members;
      keys = old.keys;
      root = old.root;
    } in
    pushed old new c.args.piece _ c.in_ok-push.ensures.items refl refl
    (c.in_ok-own_number.ensures ∙ c.len.ensures ∙ old.pieces.ok.0)

pub returns-clause-keeps : goal.returns-clause-keeps
returns-clause-keeps c =
    let old = c.args.self.now in
    let new : Draft = record {
      pieces = c.push.new.self;
      members = old.members;
      keys = old.keys;
      root = old.root;
    } in
    agrees_keeps old new
    (grown old new (one_piece old new c.args.piece c.in_ok-push.ensures.items refl refl))
