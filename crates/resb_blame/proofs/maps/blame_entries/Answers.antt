use Rattle.std.proofs.Common.{subst}
use Rattle.resb_read.specs.Access.{HandsOnBoth}
use Rattle.resb_read.specs.Sequences.{CountsEach, CountsEntry}
use Rattle.resb_blame.proofs.Gone.{steps_some, gone_more, counts_each_more}
use Rattle.resb_blame.proofs.maps.blame_entries.Goals as goal

pub entries-preserved : goal.entries-preserved
entries-preserved g c =
    let ck = g.K.Deserialize.counts in
    let cv = g.T.Deserialize.counts in
    let i = c.entries.invariant in
    let h = rw c.in-Ok-Some.field-0-is at c.in-Ok-Some.ensures in
    let (p, first, whole, there) = steps_some HandsOnBoth c.entries.access
    c.next_entry_cursor.new.self (c.in-Ok-Some.key_at, c.in-Ok-Some.value_at) i.0 h in
    let (n, (a, b, key, value, sum), paid) = c.in_default-blame_entry.ensures.counted in
    let count : CountsEntry ck cv p n = (
      a,
      b,
      subst (λ q. ck q a) there.0 key,
      subst (λ q. cv q b) there.1 value,
      sum,
    ) in (
      whole,
      gone_more (CountsEach (CountsEntry ck cv)) (CountsEntry ck cv)
          (counts_each_more (CountsEntry ck cv))
          c.args.access.rest c.entries.access.rest c.next_entry_cursor.new.self.rest p
          c.args.walk.now c.entries.walk c.blame_entry.new.walk n i.1 first count paid,
    )
