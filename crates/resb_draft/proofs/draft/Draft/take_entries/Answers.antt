use Rattle.std.proofs.Common.{◌∙◌, refl}
use Rattle.resb_draft.specs.declared.draft.Draft.{Draft}
use Rattle.resb_draft.proofs.EntriesBehind.{entries_keep, pairs_behind, stand_before}
use Rattle.resb_draft.proofs.draft.Draft.take_entries.Goals as goal

pub returns-in_err-entries-clause-keeps : goal.returns-in_err-entries-clause-keeps
returns-in_err-entries-clause-keeps c = λ before ps h.
    entries_keep before c.args.self.now c.args.first_member c.args.first_key ps h

pub returns-clause-taken : goal.returns-clause-taken
returns-clause-taken c = λ before ps h.
    let d = c.args.self.now in
    let m = c.args.first_member in
    let k = c.args.first_key in
    let cut : Draft = record {
      pieces = d.pieces;
      members = c.truncate.new.self;
      keys = c.truncate-2.new.self;
      root = d.root;
    } in (
      c.in_ok-entries.ensures ∙ pairs_behind before d m k ps h c.deref.result.now
          c.deref-2.result.now c.deref.ensures.value c.deref-2.ensures.value,
      stand_before before d cut m k ps h refl c.truncate.ensures.items c.truncate-2.ensures.items,
    )
