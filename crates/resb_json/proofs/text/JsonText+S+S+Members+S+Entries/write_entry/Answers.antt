use Rattle.std.proofs.Common.{◌≡◌, ◌++◌, ◌∷◌, [], true}
use Rattle.std.proofs.lemmas.Result.{on_ok_weaker}
use Rattle.resb_json.specs.Inner.Jobs.{jobs_in}
use Rattle.resb_json.specs.declared.task.Task.TheVariants.{Entries, Value}
use Rattle.resb_json.proofs.Jobs.{put_two}
use Rattle.resb_json.proofs.Values.{entries_next}
use Rattle.resb_json.proofs.text.JsonText+S+S+Members+S+Entries.write_entry.Goals as goal

pub returns : goal.returns
returns g c =
    let s = g.S.Shown in
    let first = c.args.self.now.pending.items in
    let left = Entries c.next_entry.new.ahead true in
    let next = Value c.in-Some.next.1 in
    on_ok_weaker c.put-2.result
    (λ (w : c.put-2.new.self.pending.items ≡ c.put.new.self.pending.items ++ next ∷ []).
    entries_next c.args.block.now.items c.extend_from_slice-2.new.self.items
    (jobs_in s.tree s.members s.entries first)
    (jobs_in s.tree s.members s.entries c.put-2.new.self.pending.items) c.args.is_behind
    (s.entries c.args.ahead) (s.entries c.next_entry.new.ahead) c.in-Some.next.0.now
    (s.tree c.in-Some.next.1) c.push_comma.new.out.items c.push_quoted.new.out.items
    c.in-Some.ensures c.in_ok-push_comma.ensures c.in_ok-push_quoted.ensures
    c.in_ok-extend_from_slice.ensures.items
    (put_two s.tree s.members s.entries first c.put.new.self.pending.items
    c.put-2.new.self.pending.items left next c.in_ok-put.ensures w)) c.put-2.ensures
