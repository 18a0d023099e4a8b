use Rattle.std.proofs.Common.{◌-◌, ℕ, length, drop, sym, ◌∙◌, ap, subst}
use Rattle.std.proofs.lemmas.Result.{on_ok_weaker}
use Rattle.resb_write.specs.Inner.Lending.{lent_of}
use Rattle.resb_write.specs.Inner.Room.{laid_of}
use Rattle.resb_write.specs.Inner.Seen.{HasRoom, TakesNoMore}
use Rattle.resb_write.proofs.Stacks.{table_step}
use Rattle.resb_write.proofs.Anywhere.{table_anywhere}
use Rattle.resb_write.proofs.body_steps.step_full_table.Goals as goal
use Rattle.resb_write.proofs.Lists.{split_stack}

pub close_table-requires-clause-room : goal.close_table-requires-clause-room
close_table-requires-clause-room c =
    let n : ℕ = length c.args.positions.now in
    let mid = ap (λ k. k - n) (c.len.ensures ∙ c.args.words.now.ok.0) in
    let v = c.split_at.ensures.back ∙ (λ i. drop (mid i) (c.deref.ensures.value i)) in
    subst (HasRoom c.args.ground.now.base c.args.bodies.now)
    (sym (ap length v ∙ (split_stack c.args.words.now.items n c.requires.enough).1)) c.requires.room

pub close_table-requires-clause-many : goal.close_table-requires-clause-many
close_table-requires-clause-many c =
    let n : ℕ = length c.args.positions.now in
    let mid = ap (λ k. k - n) (c.len.ensures ∙ c.args.words.now.ok.0) in
    let v = c.split_at.ensures.back ∙ (λ i. drop (mid i) (c.deref.ensures.value i)) in
    sym (ap length v ∙ (split_stack c.args.words.now.items n c.requires.enough).1)

pub returns-clause-step : goal.returns-clause-step
returns-clause-step c =
    let ws = c.args.words.now.items in
    let ps = c.args.positions.now in
    let n : ℕ = length ps in
    let mid = ap (λ k. k - n) (c.len.ensures ∙ c.args.words.now.ok.0) in
    let v = c.split_at.ensures.back ∙ (λ i. drop (mid i) (c.deref.ensures.value i)) in
    on_ok_weaker c.replace.result (λ h g at es e placed. table_step
    (lent_of c.args.ground.now.lent) g
    (laid_of c.args.bodies.now) (laid_of c.close_table.new.bodies) ws c.replace.new.words.items
    c.split_at.result.1.now ps es c.in_ok-word.word n (sym e) c.requires.enough v c.requires.full
    placed (table_anywhere (lent_of c.args.ground.now.lent) g c.args.ground.now.base at
    c.in_ok-word.ensures.lays) h) c.replace.ensures

pub returns-clause-takes : goal.returns-clause-takes
returns-clause-takes c =
    let n : ℕ = length c.args.positions.now in
    let mid = ap (λ k. k - n) (c.len.ensures ∙ c.args.words.now.ok.0) in
    let v = c.split_at.ensures.back ∙ (λ i. drop (mid i) (c.deref.ensures.value i)) in
    on_ok_weaker c.replace.result
    (λ h. subst (TakesNoMore c.args.ground.now.base c.args.bodies.now c.close_table.new.bodies)
    (ap length v ∙ (split_stack c.args.words.now.items n c.requires.enough).1)
    c.in_ok-word.ensures.takes) c.replace.ensures
