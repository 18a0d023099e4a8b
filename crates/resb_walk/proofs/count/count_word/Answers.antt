use Rattle.std.proofs.Common.{◌≡◌, ◌≤◌, ℕ, [], Ok, Err, Some, None, length, subst, ap, arith}
use Rattle.std.proofs.Common.{◌∙◌, refl}
use Rattle.std.proofs.lemmas.List.{length_push}
use Rattle.std.proofs.lemmas.Result.{err_from_is_err_and}
use Rattle.resb_format.specs.Content.{word}
use Rattle.resb_format.specs.Parts.{parts_in}
use Rattle.resb_walk.specs.Inner.Counting.{IsOpenedAt, TakesNext, Awaits, EnteredMember}
use Rattle.resb_walk.specs.Inner.Counting.{EntersMember}
use Rattle.resb_walk.specs.Inner.Members.{member_of}
use Rattle.resb_walk.specs.Meets.{Meets, Blames}
use Rattle.resb_walk.specs.declared.count.Inner.{Inner}
use Rattle.resb_walk.proofs.Lift.{word_den, word_refused}
use Rattle.resb_walk.proofs.Paths.{counting_first, counting_falls, counting_taken}
use Rattle.resb_walk.proofs.Paths.{counting_refused, counting_enters, counting_enters_falls}
use Rattle.resb_walk.proofs.Paths.{counting_last}
use Rattle.resb_walk.proofs.Paths.{counting_outer, counting_closes, counting_meets, awaits_meets}
use Rattle.resb_walk.proofs.count.count_word.Goals as goal

pub returns-in_err-inner-clause-answers : goal.returns-in_err-inner-clause-answers
returns-in_err-inner-clause-answers c =
    let e = err_from_is_err_and c.from_residual.result c.from_residual.ensures.1 in
    let h = subst (λ f. EntersMember (parts_in f)
    (word c.args.word) c.args.walk.now c.begin.new.walk
    (Err c.in_err-inner.field-0.0)) c.new-checker.ensures c.in_err-inner.ensures.enters in
    rw (e.1, e.2) (
      h.0,
      word_refused (parts_in c.args.file) c.args.word c.args.walk.now c.in_err-inner.field-0.0 h.1,
    )

pub returns-in_err-inner-clause-meets : goal.returns-in_err-inner-clause-meets
returns-in_err-inner-clause-meets c =
    let e = err_from_is_err_and c.from_residual.result c.from_residual.ensures.1 in
    rw (e.1, e.2) (subst (λ f. Blames (Meets (parts_in f) (word c.args.word))
    c.in_err-inner.field-0.0) c.new-checker.ensures c.in_err-inner.ensures.meets)

pub returns-in_default-clause-answers : goal.returns-in_default-clause-answers
returns-in_default-clause-answers c =
    let all = subst (λ o. EntersMember (parts_in c.new-checker.result.file) (word c.args.word)
    c.args.walk.now c.begin.new.walk (Ok o)) c.in_default.is c.in_ok-inner.ensures.enters in
    let h = subst (λ f. EntersMember (parts_in f) (word c.args.word) c.args.walk.now
    c.begin.new.walk (Ok None)) c.new-checker.ensures all in
    (h.0, 1, word_den (parts_in c.args.file) h.1, tt, h.2)

pub rounds-init : goal.rounds-init
rounds-init c =
    let p = parts_in c.args.file in
    let all = subst (λ o. EntersMember (parts_in c.new-checker.result.file) (word c.args.word)
    c.args.walk.now c.begin.new.walk (Ok o)) c.in-Some.is c.in_ok-inner.ensures.enters in
    let h = subst (λ f. EntersMember (parts_in f)
    (word c.args.word) c.args.walk.now c.begin.new.walk
    (Ok (Some c.in-Some.inner))) c.new-checker.ensures all in (
      c.in_ok-inner.ensures.file ∙ c.new-checker.ensures,
      counting_first p c.args.word c.args.walk.now c.begin.new.walk c.in-Some.inner
          c.new-outer.result.items c.new-outer.ensures.items h.0 h.1 h.2,
    )

pub returns-in_err-member-clause-answers : goal.returns-in_err-member-clause-answers
returns-in_err-member-clause-answers c =
    let e = err_from_is_err_and c.from_residual-in_err-member.result
    c.from_residual-in_err-member.ensures.1 in
    let p = parts_in c.args.file in
    let i = c.rounds.invariant in
    let taken = subst (λ f. (w n : ℕ) → IsOpenedAt (parts_in f) c.rounds.inner.rest w n
    → TakesNext (parts_in f) w n (Err c.in_err-member.field-0.0)) i.0
    c.in_err-member.ensures.takes in
    rw (e.1, e.2) (
      counting_falls p c.args.word c.args.walk.now c.rounds.outer.items c.rounds.inner c.rounds.walk
          i.1,
      counting_taken p c.args.word c.args.walk.now c.rounds.outer.items c.rounds.inner c.rounds.walk
          i.1 c.in_err-member.field-0.0 (taken c.rounds.inner.word i.1.inner i.1.opened),
    )

pub returns-in_err-member-clause-meets : goal.returns-in_err-member-clause-meets
returns-in_err-member-clause-meets c =
    let e = err_from_is_err_and c.from_residual-in_err-member.result
    c.from_residual-in_err-member.ensures.1 in
    let p = parts_in c.args.file in
    let i = c.rounds.invariant in
    let met = subst (λ f. (w n : ℕ) → IsOpenedAt (parts_in f) c.rounds.inner.rest w n
    → Blames (Meets (parts_in f) (word w)) c.in_err-member.field-0.0) i.0
    c.in_err-member.ensures.meets in
    rw (e.1, e.2) (λ f. counting_meets p c.args.word c.args.walk.now c.rounds.outer.items
    c.rounds.inner c.rounds.walk i.1 _ (met c.rounds.inner.word i.1.inner i.1.opened f))

pub returns-in_err-inner-in-Some-2-clause-answers :
    goal.returns-in_err-inner-in-Some-2-clause-answers
returns-in_err-inner-in-Some-2-clause-answers c =
    let e = err_from_is_err_and c.from_residual-in_err-inner-in-Some-2.result
    c.from_residual-in_err-inner-in-Some-2.ensures.1 in
    let p = parts_in c.args.file in
    let i = c.rounds.invariant in
    let same = c.in_ok-member.ensures.file ∙ i.0 in
    let m = member_of c.in-Some-2.member in
    let all = subst (λ o. (w n : ℕ)
    → IsOpenedAt (parts_in c.rounds.checker.file) c.rounds.inner.rest w n
    → TakesNext (parts_in c.rounds.checker.file) w n (Ok o)) c.in-Some-2.is
    c.in_ok-member.ensures.takes in
    let taken = subst (λ f. (w n : ℕ) → IsOpenedAt (parts_in f) c.rounds.inner.rest w n
    → Awaits (parts_in f) c.in-Some-2.rest w m n) i.0 all in
    let awaits = taken c.rounds.inner.word i.1.inner i.1.opened in
    let k : Inner = record { word = c.rounds.inner.word; rest = c.in-Some-2.rest } in
    let entered = subst (λ f. (n : ℕ) → Awaits (parts_in f) k.rest k.word m n
    → EnteredMember (parts_in f) k m n c.rounds.outer.items c.enter.new.outer.items c.rounds.walk
    c.enter.new.walk (Err c.in_err-inner-in-Some-2.field-0.0)) same
    c.in_err-inner-in-Some-2.ensures.enters in
    let h = entered i.1.inner awaits in
    let le : c.enter.new.walk ≤ c.rounds.walk = h.0 in
    let falls : c.rounds.walk ≤ c.args.walk.now = counting_falls p c.args.word c.args.walk.now
    c.rounds.outer.items c.rounds.inner c.rounds.walk i.1 in
    rw (e.1, e.2) (
      omega arith,
      counting_refused p c.args.word c.args.walk.now c.rounds.outer.items c.rounds.inner
          c.rounds.walk i.1 k.rest m c.in_err-inner-in-Some-2.field-0.0 awaits h.1,
    )

pub returns-in_err-inner-in-Some-2-clause-meets : goal.returns-in_err-inner-in-Some-2-clause-meets
returns-in_err-inner-in-Some-2-clause-meets c =
    let e = err_from_is_err_and c.from_residual-in_err-inner-in-Some-2.result
    c.from_residual-in_err-inner-in-Some-2.ensures.1 in
    let p = parts_in c.args.file in
    let i = c.rounds.invariant in
    let same = c.in_ok-member.ensures.file ∙ i.0 in
    let m = member_of c.in-Some-2.member in
    let all = subst (λ o. (w n : ℕ)
    → IsOpenedAt (parts_in c.rounds.checker.file) c.rounds.inner.rest w n
    → TakesNext (parts_in c.rounds.checker.file) w n (Ok o)) c.in-Some-2.is
    c.in_ok-member.ensures.takes in
    let taken = subst (λ f. (w n : ℕ) → IsOpenedAt (parts_in f) c.rounds.inner.rest w n
    → Awaits (parts_in f) c.in-Some-2.rest w m n) i.0 all in
    let awaits = taken c.rounds.inner.word i.1.inner i.1.opened in
    let met = subst (λ f. Blames (Meets (parts_in f) m) c.in_err-inner-in-Some-2.field-0.0) same
    c.in_err-inner-in-Some-2.ensures.meets in
    rw (e.1, e.2) (λ f. counting_meets p c.args.word c.args.walk.now c.rounds.outer.items
    c.rounds.inner c.rounds.walk i.1 _ (awaits_meets p c.in-Some-2.rest c.rounds.inner.word
    i.1.inner m _ awaits (met f)))

pub again-requires : goal.again-requires
again-requires c =
    let p = parts_in c.args.file in
    let i = c.rounds.invariant in
    let all = subst (λ o. (w n : ℕ)
    → IsOpenedAt (parts_in c.rounds.checker.file) c.rounds.inner.rest w n
    → TakesNext (parts_in c.rounds.checker.file) w n (Ok o)) c.in-None.is
    c.in_ok-member.ensures.takes in
    let taken = subst (λ f. (w n : ℕ) → IsOpenedAt (parts_in f) c.rounds.inner.rest w n
    → TakesNext (parts_in f) w n (Ok None)) i.0 all in
    let t = taken c.rounds.inner.word i.1.inner i.1.opened in
    (counting_outer p c.args.word c.args.walk.now c.rounds.outer.items c.rounds.inner c.rounds.walk
    i.1 c.in-Some-pop.waiting c.pop.new.self.items t.0 c.in-Some-pop.ensures.items t.1).2

pub returns-in-None-pop-clause-answers : goal.returns-in-None-pop-clause-answers
returns-in-None-pop-clause-answers c =
    let p = parts_in c.args.file in
    let i = c.rounds.invariant in
    let all = subst (λ o. (w n : ℕ)
    → IsOpenedAt (parts_in c.rounds.checker.file) c.rounds.inner.rest w n
    → TakesNext (parts_in c.rounds.checker.file) w n (Ok o)) c.in-None.is
    c.in_ok-member.ensures.takes in
    let taken = subst (λ f. (w n : ℕ) → IsOpenedAt (parts_in f) c.rounds.inner.rest w n
    → TakesNext (parts_in f) w n (Ok None)) i.0 all in
    let t = taken c.rounds.inner.word i.1.inner i.1.opened in
    let empty : c.rounds.outer.items ≡ [] = grind (arith, c.in-None-pop.ensures.cases) in
    let r = counting_last p c.args.word c.args.walk.now c.rounds.outer.items c.rounds.inner
    c.rounds.walk i.1 t.0 empty t.1 in
    (t.0, r.0, r.1, tt, r.2)

pub rounds-smaller-in_ok-inner-in-Some-2 : goal.rounds-smaller-in_ok-inner-in-Some-2
rounds-smaller-in_ok-inner-in-Some-2 c =
    let p = parts_in c.args.file in
    let i = c.rounds.invariant in
    let same = c.in_ok-member.ensures.file ∙ i.0 in
    let m = member_of c.in-Some-2.member in
    let all = subst (λ o. (w n : ℕ)
    → IsOpenedAt (parts_in c.rounds.checker.file) c.rounds.inner.rest w n
    → TakesNext (parts_in c.rounds.checker.file) w n (Ok o)) c.in-Some-2.is
    c.in_ok-member.ensures.takes in
    let taken = subst (λ f. (w n : ℕ) → IsOpenedAt (parts_in f) c.rounds.inner.rest w n
    → Awaits (parts_in f) c.in-Some-2.rest w m n) i.0 all in
    let awaits = taken c.rounds.inner.word i.1.inner i.1.opened in
    let k : Inner = record { word = c.rounds.inner.word; rest = c.in-Some-2.rest } in
    let entered = subst (λ f. (n : ℕ) → Awaits (parts_in f) k.rest k.word m n
    → EnteredMember (parts_in f) k m n c.rounds.outer.items c.enter.new.outer.items c.rounds.walk
    c.enter.new.walk (Ok c.in_ok-inner-in-Some-2.inner)) same
    c.in_ok-inner-in-Some-2.ensures.enters in
    counting_enters_falls p k c.in_ok-inner-in-Some-2.inner m i.1.inner c.rounds.outer.items
    c.enter.new.outer.items c.rounds.walk c.enter.new.walk (entered i.1.inner awaits)

pub rounds-preserved-in_ok-inner-in-Some-2 : goal.rounds-preserved-in_ok-inner-in-Some-2
rounds-preserved-in_ok-inner-in-Some-2 c =
    let p = parts_in c.args.file in
    let i = c.rounds.invariant in
    let same = c.in_ok-member.ensures.file ∙ i.0 in
    let m = member_of c.in-Some-2.member in
    let all = subst (λ o. (w n : ℕ)
    → IsOpenedAt (parts_in c.rounds.checker.file) c.rounds.inner.rest w n
    → TakesNext (parts_in c.rounds.checker.file) w n (Ok o)) c.in-Some-2.is
    c.in_ok-member.ensures.takes in
    let taken = subst (λ f. (w n : ℕ) → IsOpenedAt (parts_in f) c.rounds.inner.rest w n
    → Awaits (parts_in f) c.in-Some-2.rest w m n) i.0 all in
    let awaits = taken c.rounds.inner.word i.1.inner i.1.opened in
    let k : Inner = record { word = c.rounds.inner.word; rest = c.in-Some-2.rest } in
    let entered = subst (λ f. (n : ℕ) → Awaits (parts_in f) k.rest k.word m n
    → EnteredMember (parts_in f) k m n c.rounds.outer.items c.enter.new.outer.items c.rounds.walk
    c.enter.new.walk (Ok c.in_ok-inner-in-Some-2.inner)) same
    c.in_ok-inner-in-Some-2.ensures.enters in (
      c.in_ok-inner-in-Some-2.ensures.file ∙ same,
      counting_enters p c.args.word c.args.walk.now c.rounds.outer.items c.rounds.inner
          c.rounds.walk i.1 k c.in_ok-inner-in-Some-2.inner m c.enter.new.outer.items
          c.enter.new.walk refl awaits (entered i.1.inner awaits),
    )

pub rounds-smaller : goal.rounds-smaller
rounds-smaller c = omega (
  arith,
  ap length c.in-Some-pop.ensures.items,
  length_push c.pop.new.self.items c.in-Some-pop.waiting,
)

pub rounds-preserved : goal.rounds-preserved
rounds-preserved c =
    let p = parts_in c.args.file in
    let i = c.rounds.invariant in
    let all = subst (λ o. (w n : ℕ)
    → IsOpenedAt (parts_in c.rounds.checker.file) c.rounds.inner.rest w n
    → TakesNext (parts_in c.rounds.checker.file) w n (Ok o)) c.in-None.is
    c.in_ok-member.ensures.takes in
    let taken = subst (λ f. (w n : ℕ) → IsOpenedAt (parts_in f) c.rounds.inner.rest w n
    → TakesNext (parts_in f) w n (Ok None)) i.0 all in
    let t = taken c.rounds.inner.word i.1.inner i.1.opened in
    let next : Inner = record { word = c.in-Some-pop.waiting.word; rest = c.again.result } in (
      c.in_ok-member.ensures.file ∙ i.0,
      counting_closes p c.args.word c.args.walk.now c.rounds.outer.items c.rounds.inner
          c.rounds.walk i.1 c.in-Some-pop.waiting c.pop.new.self.items next t.0
          c.in-Some-pop.ensures.items t.1 refl c.again.ensures,
    )
