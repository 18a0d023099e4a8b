use Rattle.std.proofs.Common.{◌≡◌, ◌++◌, ◌∷◌, [], true}
use Rattle.std.proofs.lemmas.Result.{on_ok_weaker}
use Rattle.resb_json.specs.Inner.Jobs.{jobs_in}
use Rattle.resb_json.specs.declared.task.Task.TheVariants.{Members, Value}
use Rattle.resb_json.proofs.Jobs.{put_two}
use Rattle.resb_json.proofs.Values.{members_next}
use Rattle.resb_json.proofs.text.JsonText+S+S+Members+S+Entries.write_member.Goals as goal

pub returns : goal.returns
returns g c =
    let s = g.S.Shown in
    let first = c.args.self.now.pending.items in
    let left = Members c.next_member.new.ahead true in
    let next = Value c.in-Some.member in
    on_ok_weaker c.put-2.result
    (λ (w : c.put-2.new.self.pending.items ≡ c.put.new.self.pending.items ++ next ∷ []).
    members_next c.args.block.now.items c.push_comma.new.out.items
    (jobs_in s.tree s.members s.entries first)
    (jobs_in s.tree s.members s.entries c.put-2.new.self.pending.items) c.args.is_behind
    (s.members c.args.ahead) (s.members c.next_member.new.ahead) (s.tree c.in-Some.member)
    c.in-Some.ensures c.in_ok-push_comma.ensures
    (put_two s.tree s.members s.entries first c.put.new.self.pending.items
    c.put-2.new.self.pending.items left next c.in_ok-put.ensures w)) c.put-2.ensures
