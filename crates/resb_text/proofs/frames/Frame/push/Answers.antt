use Rattle.std.proofs.Common.{refl}
use Rattle.resb_text.specs.declared.frames.Frame.{Frame}
use Rattle.resb_text.proofs.FramesLemmas.{view_more}
use Rattle.resb_text.proofs.frames.Frame.push.Goals as goal

pub returns-clause-looks : goal.returns-clause-looks
returns-clause-looks g c = λ tree held n f m e is.
    let after : Frame _ = record {
      body = c.args.self.now.body;
      items = c.push_item.new.items;
      alternates = c.goes_on-alternates.result;
      number = c.args.self.now.number;
    } in
    view_more tree held c.args.self.now after n f m _ is e refl refl c.in_ok-push_item.ensures.items
    (c.goes_on-alternates.ensures tree held n f m e is)
