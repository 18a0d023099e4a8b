use Rattle.std.proofs.Common.{rules, ◌≡◌, None}
use Rattle.std.proofs.lemmas.Str.{is_utf8-from_IsUtf8}
use Rattle.std.proofs.lemmas.Map.Text.{hash_map_updates_str}
use Rattle.resb_pool.specs.Plan.{at_text}
use Rattle.resb_lent.proofs.Noting.{passed_over, noted_now, not_utf8, none_there}
use Rattle.resb_lent.proofs.keys.note.Goals as goal

pub returns-in_default : goal.returns-in_default
returns-in_default c = λ q.
    passed_over c.args.bytes.now q c.args.place (at_text c.args.places.now q)
    (not_utf8 c.args.bytes.now c.in_default.ensures.cases.0)

pub returns-in_ok-insert : goal.returns-in_ok-insert
returns-in_ok-insert c = λ q.
    let m = c.args.places.now in
    let key = c.in-Ok.key.now in
    let is = c.in-Ok.ensures.cases in
    let n = hash_map_updates_str key m c.insert.new.self _ c.in_ok-insert.ensures.updates q in
    let none : at_text m key ≡ None = none_there (at_text m key) (search rules) in
    rw (← is.0) (noted_now key q c.args.place (at_text m) (at_text c.insert.new.self q) n none
    (rw is.0 (is_utf8-from_IsUtf8 c.args.bytes.now is.1)))
