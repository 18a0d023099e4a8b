use Rattle.std.proofs.Common.{arith, sym, ◌∙◌, refl, rules}
use Rattle.std.proofs.lemmas.Bool.{and_from, and_parts}
use Rattle.resb_icu_text.proofs.QuotaLemmas.{none_taken, memory_stops, match_by, match_fails}
use Rattle.resb_icu_text.proofs.ReadingLemmas.{pushed, nothing_open, behind_ended, is_read}
use Rattle.resb_icu_text.proofs.ReadingLemmas.{root_ended, in_opened, opened_read, waiting_parts}
use Rattle.resb_icu_text.specs.Inner.Quota.{StopsAt}
use Rattle.resb_icu_text.specs.Inner.Steps.{StepsTo, StepFails, members_place, entries_place}
use Rattle.resb_icu_text.specs.Inner.Steps.{group_place}
use Rattle.resb_icu_text.specs.Inner.Reading.{groups, keys, stands, IsRead}
use Rattle.resb_icu_text.proofs.open.OpenGroups.read.Goals as goal

pub returns-in-Members-clause-reads : goal.returns-in-Members-clause-reads
returns-in-Members-clause-reads g c =
    let tree = g.B.Build.tree c.args.self.now.build in
    let place = members_place c.in-Members.members.items c.in-Members.last c.in-Members.at in
    rw c.in-Members.is (match_by _ (StepFails c.args.text.now place _ _) _ _ _
    (λ r s. is_read tree _ _ place _ _ _ r s (rw c.in-Members.is at c.requires.kept))
    (λ e s. s tree (groups tree c.args.self.now) (keys c.args.self.now)) c.member.ensures.reads)

pub returns-in-Entries-clause-reads : goal.returns-in-Entries-clause-reads
returns-in-Entries-clause-reads g c =
    let tree = g.B.Build.tree c.args.self.now.build in
    let place = entries_place c.in-Entries.entries.items c.in-Entries.at in
    rw c.in-Entries.is (match_by _ (StepFails c.args.text.now place _ _) _ _ _
    (λ r s. is_read tree _ _ place _ _ _ r s (rw c.in-Entries.is at c.requires.kept))
    (λ e s. s tree (groups tree c.args.self.now) (keys c.args.self.now)) c.entry.ensures.reads)

pub returns-in_err-open-in-Group-clause-reads : goal.returns-in_err-open-in-Group-clause-reads
returns-in_err-open-in-Group-clause-reads g c =
    match_fails _ _ _ c.from_residual.ensures.1 (memory_stops _ _ (none_taken _) refl)

pub returns-in_ok-open-in-Group-clause-reads : goal.returns-in_ok-open-in-Group-clause-reads
returns-in_ok-open-in-Group-clause-reads g c =
    let text = c.args.text.now in
    let tree = g.B.Build.tree c.args.self.now.build in
    let pass = g.B.Build.held c.args.self.now.build in
    let w = c.in-Group.waiting in
    let at = c.in-Group.at in
    let opened = c.in_ok-open-in-Group.ensures in
    let os = groups tree c.open.new.self in
    let ws = groups tree c.args.self.now in
    let js = keys c.open.new.self in
    let ks = keys c.args.self.now in
    let was = c.args.meter.now.quota in
    let then = c.group.new.meter.quota in
    let place = group_place g.row.X.Denot at in
    match_by (StepsTo text place was then) (StepFails text place was then)
    (IsRead tree pass text (stands tree c.args.self.now c.args.step) _ c.open.new.self was then)
    (StopsAt text was then (stands tree c.args.self.now c.args.step)) c.group.result
    (λ r s. rw c.in-Group.is (opened_read tree pass text at w c.args.self.now _ was then r s
    (opened.groups tree) opened.keys (λ t h.
    let both = and_parts _ _ (rw c.in-Group.is at (c.requires.kept t h)) in
    opened.slices pass t both.0 both.1)))
    (λ e s. rw c.in-Group.is (in_opened (λ u. StopsAt text was then u e) at tree w os ws js ks
    (opened.groups tree) opened.keys (s tree os js))) c.group.ensures.reads

pub returns-in_err-step-in-Some-clause-reads : goal.returns-in_err-step-in-Some-clause-reads
returns-in_err-step-in-Some-clause-reads g c =
    match_fails _ _ _ c.from_residual-in_err-step-in-Some.ensures.1
    (memory_stops _ _ (none_taken _) refl)

pub returns-in_ok-step-in-Some-clause-reads : goal.returns-in_ok-step-in-Some-clause-reads
returns-in_ok-step-in-Some-clause-reads g c =
    let resumes = c.in_ok-step-in-Some.ensures.reads in
    rw c.in-Ended.is (record {
      leaf = refl;
      ends = tt;
      comes = behind_ended _ _ (g.B.Build.tree c.args.self.now.build) c.in-Some.waiting
          c.in-Ended.made _ _ _ _ _ (pushed _ _ _ _ c.in-Some.ensures.items) resumes;
      kept = λ t h. let both = and_parts _ _ (rw c.in-Ended.is at (c.requires.kept t h)) in
          let parts = waiting_parts _ t _ _ _ c.in-Some.ensures.items both.0 in
          and_from _ _ parts.0 (resumes.keeps _ t parts.1 both.1);
      goes = (resumes.within, omega (arith, resumes.goes));
    })

pub returns-in-None-clause-reads : goal.returns-in-None-clause-reads
returns-in-None-clause-reads g c =
    let none = sym c.args.self.now.waiting.ok.0 ∙ c.in-None.ensures.cases.0 in
    rw c.in-Ended.is (record {
      leaf = refl;
      ends = tt;
      comes = root_ended _ _ (g.B.Build.tree c.args.self.now.build) c.in-Ended.made _ _ _
          (nothing_open _ _ none);
      kept = search rules;
      goes = (rw c.in-Ended.is at c.requires.within, omega arith);
    })
