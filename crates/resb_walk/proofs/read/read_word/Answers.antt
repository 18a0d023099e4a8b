use Rattle.std.proofs.Common.{inl, inr, ◌≡◌, ◌+◌, ◌≤◌, []}
use Rattle.std.proofs.Common.{arith}
use Rattle.std.proofs.lemmas.Result.{err_from_is_err_and}
use Rattle.resb_format.specs.Content.{word}
use Rattle.resb_format.specs.Denotes.{den_word}
use Rattle.resb_format.specs.Parts.{parts_in}
use Rattle.resb_walk.specs.Inner.Members.{member_of}
use Rattle.resb_walk.proofs.Lift.{word_den, word_refused}
use Rattle.resb_walk.proofs.Meeting.{waits_meets, round_meets}
use Rattle.resb_walk.proofs.RoundsLemmas.{round_first, round_fills, round_falls, round_stuck}
use Rattle.resb_walk.proofs.RoundsLemmas.{round_refused}
use Rattle.resb_walk.proofs.RoundsLemmas.{round_enters, enters_falls, round_last, round_outer}
use Rattle.resb_walk.proofs.RoundsLemmas.{round_closes, round_takes}
use Rattle.resb_walk.proofs.read.read_word.Goals as goal

pub returns-in_err-made-clause-answers : goal.returns-in_err-made-clause-answers
returns-in_err-made-clause-answers g c =
    let e = err_from_is_err_and c.from_residual.result c.from_residual.ensures.1 in
    let h = c.in_err-made.ensures.reads in
    rw (e.1, e.2) (
      h.0,
      word_refused (parts_in c.args.file) c.args.word c.args.walk.now c.in_err-made.field-0.0 h.1,
    )

pub returns-in-Made-clause-answers : goal.returns-in-Made-clause-answers
returns-in-Made-clause-answers g c =
    let h = rw c.in-Made.is at c.in_ok-made.ensures.reads in
    (h.0, 1, word_den (parts_in c.args.file) h.1, h.2, h.3)

pub rounds-init : goal.rounds-init
rounds-init g c =
    let h = rw c.in-Begun.is at c.in_ok-made.ensures.reads in
    round_first g.M.Make.lists g.M.Make.tables (parts_in c.args.file) c.args.word c.args.walk.now
    c.begin.new.walk h.0 c.new-frames.result.items c.in-Begun.frame c.new-frames.ensures.items
    h.1 h.2 h.3

pub returns-in_err-member-clause-answers : goal.returns-in_err-member-clause-answers
returns-in_err-member-clause-answers g c =
    let e = err_from_is_err_and c.from_residual-in_err-member.result
    c.from_residual-in_err-member.ensures.1 in
    let i = round_fills g.M.Make.lists g.M.Make.tables (parts_in c.args.file) c.args.word
    c.args.walk.now c.rounds.frames.items c.rounds.frame c.rounds.walk c.rounds.invariant
    c.in_ok-filled.filled c.fill.new.walk c.in_ok-filled.ensures.fills in
    let h = c.in_err-member.ensures.steps i.place i.inner i.opened in
    rw (e.1, e.2) (
      round_falls g.M.Make.lists g.M.Make.tables (parts_in c.args.file) c.args.word c.args.walk.now
          c.rounds.frames.items c.in_ok-filled.filled c.fill.new.walk i,
      round_stuck g.M.Make.lists g.M.Make.tables (parts_in c.args.file) c.args.word c.args.walk.now
          c.rounds.frames.items c.in_ok-filled.filled c.fill.new.walk i c.in_err-member.field-0.0 h,
    )

pub returns-in_err-frame-in-Wants-clause-answers : goal.returns-in_err-frame-in-Wants-clause-answers
returns-in_err-frame-in-Wants-clause-answers g c =
    let e = err_from_is_err_and c.from_residual-in_err-frame-in-Wants.result
    c.from_residual-in_err-frame-in-Wants.ensures.1 in
    let i = round_fills g.M.Make.lists g.M.Make.tables (parts_in c.args.file) c.args.word
    c.args.walk.now c.rounds.frames.items c.rounds.frame c.rounds.walk c.rounds.invariant
    c.in_ok-filled.filled c.fill.new.walk c.in_ok-filled.ensures.fills in
    let waits = rw c.in-Wants.is at c.in_ok-member.ensures.steps i.place i.inner i.opened in
    let h = c.in_err-frame-in-Wants.ensures.enters i.place i.inner waits in
    let le : c.enter.new.walk ≤ c.fill.new.walk = h.0 in
    let falls : c.fill.new.walk ≤ c.args.walk.now = round_falls g.M.Make.lists g.M.Make.tables
    (parts_in c.args.file) c.args.word c.args.walk.now c.rounds.frames.items c.in_ok-filled.filled
    c.fill.new.walk i in
    rw (e.1, e.2) (
      omega arith,
      round_refused g.M.Make.lists g.M.Make.tables (parts_in c.args.file) c.args.word
          c.args.walk.now c.rounds.frames.items c.in_ok-filled.filled c.fill.new.walk i
          c.in-Wants.waiting (member_of c.in-Wants.member) c.in_err-frame-in-Wants.field-0.0 waits
          h.1,
    )

pub rounds-smaller-in_ok-frame-in-Wants : goal.rounds-smaller-in_ok-frame-in-Wants
rounds-smaller-in_ok-frame-in-Wants g c =
    let i = round_fills g.M.Make.lists g.M.Make.tables (parts_in c.args.file) c.args.word
    c.args.walk.now c.rounds.frames.items c.rounds.frame c.rounds.walk c.rounds.invariant
    c.in_ok-filled.filled c.fill.new.walk c.in_ok-filled.ensures.fills in
    let waits = rw c.in-Wants.is at c.in_ok-member.ensures.steps i.place i.inner i.opened in
    let h = c.in_ok-frame-in-Wants.ensures.enters i.place i.inner waits in
    let less = enters_falls g.M.Make.lists g.M.Make.tables (parts_in c.args.file)
    c.in-Wants.waiting (member_of c.in-Wants.member) c.in_ok-frame-in-Wants.frame i.place i.inner
    c.rounds.frames.items c.enter.new.frames.items c.fill.new.walk c.enter.new.walk h in
    omega (arith, less, c.fill.ensures.falls)

pub rounds-preserved-in_ok-frame-in-Wants : goal.rounds-preserved-in_ok-frame-in-Wants
rounds-preserved-in_ok-frame-in-Wants g c =
    let i = round_fills g.M.Make.lists g.M.Make.tables (parts_in c.args.file) c.args.word
    c.args.walk.now c.rounds.frames.items c.rounds.frame c.rounds.walk c.rounds.invariant
    c.in_ok-filled.filled c.fill.new.walk c.in_ok-filled.ensures.fills in
    let waits = rw c.in-Wants.is at c.in_ok-member.ensures.steps i.place i.inner i.opened in
    let h = c.in_ok-frame-in-Wants.ensures.enters i.place i.inner waits in
    round_enters g.M.Make.lists g.M.Make.tables (parts_in c.args.file) c.args.word c.args.walk.now
    c.rounds.frames.items c.in_ok-filled.filled c.fill.new.walk i c.in-Wants.waiting
    (member_of c.in-Wants.member) c.in_ok-frame-in-Wants.frame c.enter.new.frames.items
    c.enter.new.walk waits h

pub returns-in-None-clause-answers : goal.returns-in-None-clause-answers
returns-in-None-clause-answers g c =
    let i = round_fills g.M.Make.lists g.M.Make.tables (parts_in c.args.file) c.args.word
    c.args.walk.now c.rounds.frames.items c.rounds.frame c.rounds.walk c.rounds.invariant
    c.in_ok-filled.filled c.fill.new.walk c.in_ok-filled.ensures.fills in
    let h = rw c.in-Done.is at c.in_ok-member.ensures.steps i.place i.inner i.opened in
    let empty : c.rounds.frames.items ≡ [] = grind (arith, c.in-None.ensures.cases) in
    let r = round_last g.M.Make.lists g.M.Make.tables (parts_in c.args.file) c.args.word
    c.args.walk.now c.rounds.frames.items c.in_ok-filled.filled c.fill.new.walk i h.0 empty h.1 in
    (h.0, r.0, r.1, h.2, r.2)

pub returns-in_err-frame-in-Some-clause-answers : goal.returns-in_err-frame-in-Some-clause-answers
returns-in_err-frame-in-Some-clause-answers g c =
    let e = err_from_is_err_and c.from_residual-in_err-frame-in-Some.result
    c.from_residual-in_err-frame-in-Some.ensures.1 in
    let i = round_fills g.M.Make.lists g.M.Make.tables (parts_in c.args.file) c.args.word
    c.args.walk.now c.rounds.frames.items c.rounds.frame c.rounds.walk c.rounds.invariant
    c.in_ok-filled.filled c.fill.new.walk c.in_ok-filled.ensures.fills in
    let h = rw c.in-Done.is at c.in_ok-member.ensures.steps i.place i.inner i.opened in
    let outer = round_outer g.M.Make.lists g.M.Make.tables (parts_in c.args.file) c.args.word
    c.args.walk.now c.rounds.frames.items c.in_ok-filled.filled c.fill.new.walk i c.in-Some.waiting
    c.pop.new.self.items c.in-Some.ensures.items in
    let memory = c.in_err-frame-in-Some.ensures (parts_in c.args.file) outer.place outer.inner
    (1 + i.inner) (word i.place) h.0 outer.waits (den_word h.1) h.2 in
    rw (
      e.1,
      e.2,
    ) (
      round_falls g.M.Make.lists g.M.Make.tables (parts_in c.args.file) c.args.word
          c.args.walk.now c.rounds.frames.items c.in_ok-filled.filled c.fill.new.walk i,
      inl memory,
    )

pub rounds-preserved : goal.rounds-preserved
rounds-preserved g c =
    let i = round_fills g.M.Make.lists g.M.Make.tables (parts_in c.args.file) c.args.word
    c.args.walk.now c.rounds.frames.items c.rounds.frame c.rounds.walk c.rounds.invariant
    c.in_ok-filled.filled c.fill.new.walk c.in_ok-filled.ensures.fills in
    let h = rw c.in-Done.is at c.in_ok-member.ensures.steps i.place i.inner i.opened in
    let outer = round_outer g.M.Make.lists g.M.Make.tables (parts_in c.args.file) c.args.word
    c.args.walk.now c.rounds.frames.items c.in_ok-filled.filled c.fill.new.walk i c.in-Some.waiting
    c.pop.new.self.items c.in-Some.ensures.items in
    let next = c.in_ok-frame-in-Some.ensures (parts_in c.args.file) outer.place outer.inner
    (1 + i.inner) (word i.place) h.0 outer.waits (den_word h.1) h.2 in
    round_closes g.M.Make.lists g.M.Make.tables (parts_in c.args.file) c.args.word c.args.walk.now
    c.rounds.frames.items c.in_ok-filled.filled c.fill.new.walk i c.in-Some.waiting
    c.pop.new.self.items c.in_ok-frame-in-Some.frame outer next

pub returns-in_err-made-clause-meets : goal.returns-in_err-made-clause-meets
returns-in_err-made-clause-meets g c =
    let e = err_from_is_err_and c.from_residual.result c.from_residual.ensures.1 in
    rw (e.1, e.2) c.in_err-made.ensures.meets

pub returns-in_err-member-clause-meets : goal.returns-in_err-member-clause-meets
returns-in_err-member-clause-meets g c =
    let e = err_from_is_err_and c.from_residual-in_err-member.result
    c.from_residual-in_err-member.ensures.1 in
    let i = round_fills g.M.Make.lists g.M.Make.tables (parts_in c.args.file) c.args.word
    c.args.walk.now c.rounds.frames.items c.rounds.frame c.rounds.walk c.rounds.invariant
    c.in_ok-filled.filled c.fill.new.walk c.in_ok-filled.ensures.fills in
    let met = c.in_err-member.ensures.meets i.place i.inner i.opened in
    rw (e.1, e.2) (λ f. round_meets (parts_in c.args.file) g.M.Make.lists g.M.Make.tables
    c.args.word c.args.walk.now c.rounds.frames.items c.in_ok-filled.filled c.fill.new.walk i _
    (met f))

pub returns-in_err-frame-in-Wants-clause-meets : goal.returns-in_err-frame-in-Wants-clause-meets
returns-in_err-frame-in-Wants-clause-meets g c =
    let e = err_from_is_err_and c.from_residual-in_err-frame-in-Wants.result
    c.from_residual-in_err-frame-in-Wants.ensures.1 in
    let i = round_fills g.M.Make.lists g.M.Make.tables (parts_in c.args.file) c.args.word
    c.args.walk.now c.rounds.frames.items c.rounds.frame c.rounds.walk c.rounds.invariant
    c.in_ok-filled.filled c.fill.new.walk c.in_ok-filled.ensures.fills in
    let waits = rw c.in-Wants.is at c.in_ok-member.ensures.steps i.place i.inner i.opened in
    rw (e.1, e.2) (λ h. round_meets (parts_in c.args.file) g.M.Make.lists g.M.Make.tables
    c.args.word c.args.walk.now c.rounds.frames.items c.in_ok-filled.filled c.fill.new.walk i _
    (waits_meets (parts_in c.args.file) g.M.Make.lists g.M.Make.tables c.in-Wants.waiting i.place
    i.inner (member_of c.in-Wants.member) _ waits
    (c.in_err-frame-in-Wants.ensures.meets i.place i.inner waits h)))

pub returns-in_err-frame-in-Some-clause-meets : goal.returns-in_err-frame-in-Some-clause-meets
returns-in_err-frame-in-Some-clause-meets g c =
    let e = err_from_is_err_and c.from_residual-in_err-frame-in-Some.result
    c.from_residual-in_err-frame-in-Some.ensures.1 in
    let i = round_fills g.M.Make.lists g.M.Make.tables (parts_in c.args.file) c.args.word
    c.args.walk.now c.rounds.frames.items c.rounds.frame c.rounds.walk c.rounds.invariant
    c.in_ok-filled.filled c.fill.new.walk c.in_ok-filled.ensures.fills in
    let h = rw c.in-Done.is at c.in_ok-member.ensures.steps i.place i.inner i.opened in
    let outer = round_outer g.M.Make.lists g.M.Make.tables (parts_in c.args.file) c.args.word
    c.args.walk.now c.rounds.frames.items c.in_ok-filled.filled c.fill.new.walk i c.in-Some.waiting
    c.pop.new.self.items c.in-Some.ensures.items in
    let memory = c.in_err-frame-in-Some.ensures (parts_in c.args.file) outer.place outer.inner
    (1 + i.inner) (word i.place) h.0 outer.waits (den_word h.1) h.2 in
    rw (e.1, e.2) (λ f. absurd (f.not_memory memory.kind_is))

pub returns-in_err-made-clause-takes : goal.returns-in_err-made-clause-takes
returns-in_err-made-clause-takes g c =
    let e = err_from_is_err_and c.from_residual.result c.from_residual.ensures.1 in
    rw (e.1, e.2) c.in_err-made.ensures.takes

pub returns-in_err-member-clause-takes : goal.returns-in_err-member-clause-takes
returns-in_err-member-clause-takes g c =
    let e = err_from_is_err_and c.from_residual-in_err-member.result
    c.from_residual-in_err-member.ensures.1 in
    rw e.1 (inr (inr (round_takes g.M.Make.lists g.M.Make.tables (parts_in c.args.file)
    c.args.word c.args.walk.now c.rounds.frames.items c.in_ok-filled.filled c.fill.new.walk
    (round_fills g.M.Make.lists g.M.Make.tables (parts_in c.args.file) c.args.word
    c.args.walk.now c.rounds.frames.items c.rounds.frame c.rounds.walk c.rounds.invariant
    c.in_ok-filled.filled c.fill.new.walk c.in_ok-filled.ensures.fills))))

pub returns-in_err-frame-in-Wants-clause-takes : goal.returns-in_err-frame-in-Wants-clause-takes
returns-in_err-frame-in-Wants-clause-takes g c =
    let e = err_from_is_err_and c.from_residual-in_err-frame-in-Wants.result
    c.from_residual-in_err-frame-in-Wants.ensures.1 in
    let i = round_fills g.M.Make.lists g.M.Make.tables (parts_in c.args.file) c.args.word
    c.args.walk.now c.rounds.frames.items c.rounds.frame c.rounds.walk c.rounds.invariant
    c.in_ok-filled.filled c.fill.new.walk c.in_ok-filled.ensures.fills in
    let waits = rw c.in-Wants.is at c.in_ok-member.ensures.steps i.place i.inner i.opened in
    let le : c.enter.new.walk ≤ c.fill.new.walk =
    (c.in_err-frame-in-Wants.ensures.enters i.place i.inner waits).0 in
    let taken : c.fill.new.walk + 1 ≤ c.args.walk.now = round_takes g.M.Make.lists g.M.Make.tables
    (parts_in c.args.file) c.args.word c.args.walk.now c.rounds.frames.items c.in_ok-filled.filled
    c.fill.new.walk i in
    rw e.1 (inr (inr (omega arith)))

pub returns-in_err-frame-in-Some-clause-takes : goal.returns-in_err-frame-in-Some-clause-takes
returns-in_err-frame-in-Some-clause-takes g c =
    let e = err_from_is_err_and c.from_residual-in_err-frame-in-Some.result
    c.from_residual-in_err-frame-in-Some.ensures.1 in
    rw e.1 (inr (inr (round_takes g.M.Make.lists g.M.Make.tables (parts_in c.args.file)
    c.args.word c.args.walk.now c.rounds.frames.items c.in_ok-filled.filled c.fill.new.walk
    (round_fills g.M.Make.lists g.M.Make.tables (parts_in c.args.file) c.args.word
    c.args.walk.now c.rounds.frames.items c.rounds.frame c.rounds.walk c.rounds.invariant
    c.in_ok-filled.filled c.fill.new.walk c.in_ok-filled.ensures.fills))))
