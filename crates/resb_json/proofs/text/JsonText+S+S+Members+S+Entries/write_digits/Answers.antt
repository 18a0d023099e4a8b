use Rattle.std.proofs.Common.{◌≡◌, ◌++◌, ◌∷◌, [], refl, sym, codes, length, arith}
use Rattle.std.proofs.lemmas.Bool.{eqb-true, eqb-false}
use Rattle.std.proofs.lemmas.List.{nil_from_length}
use Rattle.std.proofs.lemmas.Result.{on_ok_weaker}
use Rattle.resb_json.specs.Inner.Jobs.{jobs_in}
use Rattle.resb_json.specs.declared.task.Task.TheVariants.{Digits}
use Rattle.resb_json.proofs.Calls.{extended}
use Rattle.resb_json.proofs.Jobs.{put_one}
use Rattle.resb_json.proofs.Values.{digits_end, digits_next}
use Rattle.resb_json.proofs.text.JsonText+S+S+Members+S+Entries.write_digits.Goals as goal

pub returns-then-is_empty : goal.returns-then-is_empty
returns-then-is_empty g c =
    let s = g.S.Shown in
    let before = jobs_in s.tree s.members s.entries c.args.self.now.pending.items in
    let old = c.args.block.now.items in
    let new = c.extend_from_slice.new.self.items in
    on_ok_weaker c.extend_from_slice.result
    (λ (w : new ≡ old ++ codes "\"}").
    digits_end old new before before c.args.bytes.now
    (nil_from_length _ (eqb-true _ 0 (sym c.if-is_empty.ensures))) w refl)
    (extended c.extend_from_slice.result new old (codes "\"}") (old ++ codes "\"}")
    c.extend_from_slice.ensures.items refl)

pub returns : goal.returns
returns g c =
    let s = g.S.Shown in
    let first = c.args.self.now.pending.items in
    let bytes = c.args.bytes.now in
    let rest = c.in_ok-rest.rest in
    on_ok_weaker c.put.result (λ (w : c.put.new.self.pending.items ≡ first ++ Digits rest ∷ []).
    digits_next c.args.block.now.items c.push_digits.new.out.items
    (jobs_in s.tree s.members s.entries first)
    (jobs_in s.tree s.members s.entries c.put.new.self.pending.items) bytes rest.now
    c.in_ok-rest.ensures.digits
    (c.in_ok-rest.ensures.fewer
    (omega (arith, eqb-false (length bytes) 0 (sym c.if-is_empty.ensures))))
    (put_one s.tree s.members s.entries first c.put.new.self.pending.items (Digits rest) w))
    c.put.ensures
