use Rattle.std.proofs.Common.{◌+◌, ◌∷◌, [], ◌++◌, refl, ap, ◌∙◌}
use Rattle.resb_filter.proofs.OpenLemmas.{put_next, next_is}
use Rattle.resb_filter.proofs.open_tables.OpenTable.put.Goals as goal

pub returns-clause-table : goal.returns-clause-table
returns-clause-table c = λ d w u h made.
    let t = c.args.self.now in
    put_next d w u t (record {
      rules = t.rules;
      entries = t.entries;
      done = t.done + 1;
      left = c.push.new.self;
    }) c.args.number h made refl
    (c.in_ok-push.ensures.items
    ∙ ap (λ p. t.left.items ++ (p.0, c.args.number) ∷ [])
    (next_is t c.index.result.now h.within c.index.ensures))
