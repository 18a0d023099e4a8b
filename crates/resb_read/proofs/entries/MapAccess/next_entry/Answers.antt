use Rattle.std.proofs.Common.{◌≡◌, None, drop, ap, sym, ◌∙◌}
use Rattle.resb_read.specs.Access.{EntryAccess}
use Rattle.resb_read.specs.Sequences.{ReadsEntry, CountsEntry}
use Rattle.resb_read.specs.Places.{place_of}
use Rattle.resb_read.specs.RefusedReadings.{RefusesKeyOrValue}
use Rattle.resb_read.proofs.Failing.{stopped_at, first_fails}
use Rattle.resb_read.proofs.entries.MapAccess.next_entry.Goals as goal

pub returns-in-Err : goal.returns-in-Err
returns-in-Err g c =
    let old = c.args.self.now in
    let seen = c.self.view_is in
    let first = c.in-Some-first.ensures in
    let h = c.in-Err.ensures.refused in
    let whole : old.failed ≡ None = sym (ap (λ (a : EntryAccess). a.failed) seen)
    ∙ c.in_default.is in
    first_fails (ReadsEntry g.K.Deserialize.reads g.T.Deserialize.reads)
    (CountsEntry g.K.Deserialize.counts g.T.Deserialize.counts)
    (RefusesKeyOrValue g.K.Deserialize.counts g.K.Deserialize.refuses g.T.Deserialize.counts
    g.T.Deserialize.refuses) old _
    (place_of c.in-Some-first.key_at, place_of c.in-Some-first.value_at) (drop 1 old.rest)
    c.args.walk.now c.read_entry.new.walk c.in-Err.error whole first
    (ap (stopped_at c.in-Err.error) (ap (λ (a : EntryAccess). a.rest) seen ∙ first))
    (h.0, h.1, c.in-Err.ensures.says)
