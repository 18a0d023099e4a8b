use Rattle.std.proofs.Common.{◌≡◌, ◌+◌, ◌*◌, ◌<◌, ◌≤◌, subst, [], arith, length}
use Rattle.std.proofs.Common.{◌-◌, ◌++◌, ◌∙◌}
use Rattle.resb_format.specs.Content.{word}
use Rattle.resb_format.specs.Parts.{parts_in}
use Rattle.resb_walk.specs.Inner.Members.{member_of}
use Rattle.resb_walk.specs.Inner.Weighing.{Looked, TakenPieces, ToCome, WaitingPieces}
use Rattle.resb_walk.specs.Inner.Weighing.{EnteredPieces}
use Rattle.resb_walk.specs.Pieces.{HoldsMember, holds_word}
use Rattle.resb_walk.proofs.Weighed.{weighing_first, weighing_takes, weighing_enters, end_has}
use Rattle.resb_walk.proofs.Weighed.{weighing_waits, weighing_again, weighing_ends}
use Rattle.resb_walk.proofs.weigh.weigh_word.Goals as goal

pub returns-in_default : goal.returns-in_default
returns-in_default c =
    let p = parts_in c.args.file in
    let h = c.requires in
    let all = c.in_ok-inner.ensures.looked h.0 [] in
    let at = subst (λ f. HoldsMember (parts_in f) (word c.args.word) h.0
    → Looked (parts_in f) h.0 [] c.in_ok-inner.field-0 c.look.new.sums) c.of_file-scale.ensures
    (λ g. all g c.none-sums.ensures) in
    let looked = subst (λ o. Looked p h.0 [] o c.look.new.sums) c.in_default.is
    (at (holds_word h.1)) in
    (h.0, h.1, looked.1)

pub rounds-init : goal.rounds-init
rounds-init c =
    let p = parts_in c.args.file in
    let h = c.requires in
    let all = c.in_ok-inner.ensures.looked h.0 [] in
    let at = subst (λ f. HoldsMember (parts_in f) (word c.args.word) h.0
    → Looked (parts_in f) h.0 [] c.in_ok-inner.field-0 c.look.new.sums) c.of_file-scale.ensures
    (λ g. all g c.none-sums.ensures) in
    let looked = subst (λ o. Looked p h.0 [] o c.look.new.sums) c.in-Some.is
    (at (holds_word h.1)) in (
      c.in_ok-inner.ensures.file ∙ c.of_file-scale.ensures,
      weighing_first p c.args.word c.args.resources h.0 c.in-Some.inner c.look.new.sums
          c.new-outer.result.items c.new-outer.ensures.items h.1 h.2 looked,
    )

pub again-requires : goal.again-requires
again-requires c =
    let p = parts_in c.args.file in
    let i = c.rounds.invariant in
    let q = weighing_waits p c.args.word c.rounds.outer.items c.rounds.inner c.rounds.sums
    c.rounds.left i.1 c.in-Some-pop.waiting c.pop.new.self.items c.in-Some-pop.ensures.items in
    end_has p q.still c.in-Some-pop.waiting.word c.in-Some-pop.waiting.left q.left_is q.ends

pub returns-in-None-pop : goal.returns-in-None-pop
returns-in-None-pop c =
    let p = parts_in c.args.file in
    let i = c.rounds.invariant in
    let all = c.in_ok-member.ensures.taken i.1.inner i.1.done in
    let at = subst (λ f. ToCome (parts_in f) c.rounds.inner i.1.inner
    → TakenPieces (parts_in f) i.1.inner i.1.done c.in_ok-member.field-0 c.next.new.sums) i.0
    (λ g. all g i.1.sums) in
    let nexts = subst (λ o. TakenPieces p i.1.inner i.1.done o c.next.new.sums) c.in-None.is
    (at i.1.to_come) in
    let empty : c.rounds.outer.items ≡ [] = grind (arith, c.in-None-pop.ensures.cases) in
    weighing_ends p c.args.word c.rounds.outer.items c.rounds.inner c.rounds.sums c.rounds.left
    i.1 c.next.new.sums nexts empty

pub rounds-preserved : goal.rounds-preserved
rounds-preserved c =
    let p = parts_in c.args.file in
    let i = c.rounds.invariant in
    let all = c.in_ok-member.ensures.taken i.1.inner i.1.done in
    let at = subst (λ f. ToCome (parts_in f) c.rounds.inner i.1.inner
    → TakenPieces (parts_in f) i.1.inner i.1.done c.in_ok-member.field-0 c.next.new.sums) i.0
    (λ g. all g i.1.sums) in
    let nexts = subst (λ o. TakenPieces p i.1.inner i.1.done o c.next.new.sums) c.in-None.is
    (at i.1.to_come) in (
      c.in_ok-member.ensures.file ∙ i.0,
      weighing_again p c.args.word c.rounds.outer.items c.rounds.inner c.rounds.sums c.rounds.left
          i.1 c.next.new.sums c.in-Some-pop.waiting c.pop.new.self.items c.again.result nexts
          c.in-Some-pop.ensures.items c.again.ensures,
    )

pub rounds-smaller-in_ok-inner-in-Some-2 : goal.rounds-smaller-in_ok-inner-in-Some-2
rounds-smaller-in_ok-inner-in-Some-2 c =
    let p = parts_in c.args.file in
    let i = c.rounds.invariant in
    let m = member_of c.in-Some-2.member in
    let j = c.in-Some-2.rest in
    let all = c.in_ok-member.ensures.taken i.1.inner i.1.done in
    let at = subst (λ f. ToCome (parts_in f) c.rounds.inner i.1.inner
    → TakenPieces (parts_in f) i.1.inner i.1.done c.in_ok-member.field-0 c.next.new.sums) i.0
    (λ g. all g i.1.sums) in
    let nexts = subst (λ o. TakenPieces p i.1.inner i.1.done o c.next.new.sums) c.in-Some-2.is
    (at i.1.to_come) in
    let took = weighing_takes p c.args.word c.rounds.outer.items c.rounds.inner c.rounds.sums
    c.rounds.left i.1 c.in-Some-2.member j c.next.new.sums nexts in
    let enters = subst (λ f. HoldsMember (parts_in f) m took.member
    → ToCome (parts_in f) j took.inner → WaitingPieces (parts_in f) c.rounds.outer.items took.outer
    → EnteredPieces (parts_in f) (took.member ++ (took.inner ++ took.outer)) took.done
    c.rounds.outer.items c.enter.new.outer.items c.in_ok-inner-in-Some-2.inner
    c.enter.new.sums) (c.in_ok-member.ensures.file ∙ i.0)
    (λ g h w. c.in_ok-inner-in-Some-2.ensures.enters took.member took.inner took.outer took.done
    g h w took.sums) in
    let entered = enters took.holds took.to_come took.waiting in
    let more : length c.enter.new.outer.items ≤ length c.rounds.outer.items + 1 =
    entered.one_more in
    let one : 1 ≤ c.rounds.left = took.one in
    let falls : 2 * (c.rounds.left - 1) + length c.enter.new.outer.items
    < 2 * c.rounds.left + length c.rounds.outer.items = omega (arith, more, one) in
    falls

pub rounds-preserved-in_ok-inner-in-Some-2 : goal.rounds-preserved-in_ok-inner-in-Some-2
rounds-preserved-in_ok-inner-in-Some-2 c =
    let p = parts_in c.args.file in
    let i = c.rounds.invariant in
    let m = member_of c.in-Some-2.member in
    let j = c.in-Some-2.rest in
    let all = c.in_ok-member.ensures.taken i.1.inner i.1.done in
    let at = subst (λ f. ToCome (parts_in f) c.rounds.inner i.1.inner
    → TakenPieces (parts_in f) i.1.inner i.1.done c.in_ok-member.field-0 c.next.new.sums) i.0
    (λ g. all g i.1.sums) in
    let nexts = subst (λ o. TakenPieces p i.1.inner i.1.done o c.next.new.sums) c.in-Some-2.is
    (at i.1.to_come) in
    let took = weighing_takes p c.args.word c.rounds.outer.items c.rounds.inner c.rounds.sums
    c.rounds.left i.1 c.in-Some-2.member j c.next.new.sums nexts in
    let enters = subst (λ f. HoldsMember (parts_in f) m took.member
    → ToCome (parts_in f) j took.inner → WaitingPieces (parts_in f) c.rounds.outer.items took.outer
    → EnteredPieces (parts_in f) (took.member ++ (took.inner ++ took.outer)) took.done
    c.rounds.outer.items c.enter.new.outer.items c.in_ok-inner-in-Some-2.inner
    c.enter.new.sums) (c.in_ok-member.ensures.file ∙ i.0)
    (λ g h w. c.in_ok-inner-in-Some-2.ensures.enters took.member took.inner took.outer took.done
    g h w took.sums) in
    let entered = enters took.holds took.to_come took.waiting in (
      c.in_ok-inner-in-Some-2.ensures.file ∙ c.in_ok-member.ensures.file ∙ i.0,
      weighing_enters p c.args.word c.rounds.outer.items c.rounds.inner c.rounds.sums c.rounds.left
          i.1 m j c.in_ok-inner-in-Some-2.inner c.next.new.sums c.enter.new.sums
          c.enter.new.outer.items took entered,
    )
