use Rattle.std.proofs.Common.{refl, inl, inr, Ok}
use Rattle.resb_tree.specs.Tree.{string, alias}
use Rattle.resb_format.specs.Content as at
use Rattle.resb_format.specs.Parts.{parts_in}
use Rattle.resb_walk.specs.Inner.Leads.{LeadsTo}
use Rattle.resb_walk.specs.declared.leads.Lead.TheVariants.{Text, Counted}
use Rattle.resb_walk.proofs.Holding.{text_holds, counted_holds, none_holds}
use Rattle.resb_walk.proofs.scale.Scale.look_at.Goals as goal

pub returns-in_ok-len-in-Ok-Text-clause-looked : goal.returns-in_ok-len-in-Ok-Text-clause-looked
returns-in_ok-len-in-Ok-Text-clause-looked c xs zs h adds =
    let p = parts_in c.args.self.now.file in
    let lead : LeadsTo p (at.word c.args.word) (Ok (Text c.in-Ok-Text.index)) =
    rw c.in-Ok-Text.field-0-is at c.in-Ok-Text.ensures in
    let t = text_holds p c.args.word c.in-Ok-Text.index xs lead.0 h in
    let len = c.in_ok-len-in-Ok-Text.ensures.len in
    rw t.2 (refl, c.with_text.ensures.a_string zs t.0 adds (len t.0 t.1))

pub returns-in_ok-len-in-Ok-Counted-clause-looked :
    goal.returns-in_ok-len-in-Ok-Counted-clause-looked
returns-in_ok-len-in-Ok-Counted-clause-looked c xs zs h adds =
    let p = parts_in c.args.self.now.file in
    let place = c.in-Ok-Counted.place in
    let lead : LeadsTo p (at.word c.args.word) (Ok (Counted place)) =
    rw c.in-Ok-Counted.field-0-is at c.in-Ok-Counted.ensures in
    let len = c.in_ok-len-in-Ok-Counted.ensures.len in
    let more = c.with_text-in-Ok-Counted.ensures in
    elim lead.0.0 [
      | inl e ↦
          let t = counted_holds p string c.args.word place xs e h in
          rw t.2 (refl, more.a_string zs t.0 adds (len t.0 t.1))
      | inr e ↦
          let t = counted_holds p alias c.args.word place xs e h in
          rw t.2 (refl, more.an_alias zs t.0 adds (len t.0 t.1))
    ]

pub returns-in-Err-clause-looked : goal.returns-in-Err-clause-looked
returns-in-Err-clause-looked c xs zs h adds =
    absurd (none_holds (parts_in c.args.self.now.file) c.in-Err.ensures.0 h)
