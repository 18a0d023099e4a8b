use Rattle.std.proofs.Common.{subst}
use Rattle.resb_read.specs.Access.{HandsOn}
use Rattle.resb_read.specs.Sequences.{CountsEach}
use Rattle.resb_blame.proofs.Gone.{steps_some, gone_more, counts_each_more}
use Rattle.resb_blame.proofs.lists.blame_members.Goals as goal

pub members-preserved : goal.members-preserved
members-preserved g c =
    let counts = g.T.Deserialize.counts in
    let i = c.members.invariant in
    let h = rw c.in-Ok-Some.field-0-is at c.in-Ok-Some.ensures in
    let (p, first, whole, there) = steps_some HandsOn c.members.seq c.next_cursor.new.self
    c.in-Ok-Some.at i.0 h in
    let (n, count, paid) = c.in_default-blame.ensures.counted in (
      whole,
      gone_more (CountsEach counts) counts (counts_each_more counts) c.args.seq.rest
          c.members.seq.rest c.next_cursor.new.self.rest p c.args.walk.now c.members.walk
          c.blame.new.walk n i.1 first (subst (λ q. counts q n) there count) paid,
      i.2,
    )
