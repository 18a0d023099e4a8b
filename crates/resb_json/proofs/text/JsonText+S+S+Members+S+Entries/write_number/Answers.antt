use Rattle.std.proofs.Common.{rules, ◌≡◌, ◌++◌, ◌∷◌, [], ◌+◌, ◌∙◌, ap, refl, codes, nat_lt, w32}
use Rattle.std.proofs.Common.{to_z, of_z}
use Rattle.std.specs.Int.{cast_signed}
use Rattle.std.proofs.lemmas.Result.{on_ok_weaker}
use Rattle.serde_json.specs.Find.{of_integer}
use Rattle.serde_json.specs.Written.{number_text}
use Rattle.resb_shown.specs.Shown.{numbers_in}
use Rattle.resb_json.specs.Inner.Jobs.{jobs_in}
use Rattle.resb_json.specs.declared.task.Task.TheVariants.{Numbers}
use Rattle.resb_json.proofs.Calls.{extended}
use Rattle.resb_json.proofs.Jobs.{put_one}
use Rattle.resb_json.proofs.Values.{numbers_end, numbers_next}
use Rattle.resb_json.proofs.text.JsonText+S+S+Members+S+Entries.write_number.Goals as goal

pub returns-in_default : goal.returns-in_default
returns-in_default g c =
    let s = g.S.Shown in
    let before = jobs_in s.tree s.members s.entries c.args.self.now.pending.items in
    let old = c.args.block.now.items in
    let new = c.extend_from_slice.new.self.items in
    on_ok_weaker c.extend_from_slice.result (λ (w : new ≡ old ++ codes "]").
    numbers_end old new before before (nat_lt 0 c.args.at) (numbers_in (s.tree c.args.vector))
    c.args.at c.in_default.ensures.number w refl)
    (extended c.extend_from_slice.result new old (codes "]") (old ++ codes "]")
    c.extend_from_slice.ensures.items refl)

pub returns : goal.returns
returns g c =
    let s = g.S.Shown in
    let first = c.args.self.now.pending.items in
    let left = Numbers c.args.vector (c.args.at + 1) in
    let z : to_z w32 (of_z w32 c.cast_signed.result) ≡ cast_signed w32 c.in-Some.number =
    search rules in
    on_ok_weaker c.put.result (λ (w : c.put.new.self.pending.items ≡ first ++ left ∷ []).
    numbers_next c.args.block.now.items c.push_number.new.out.items
    (jobs_in s.tree s.members s.entries first)
    (jobs_in s.tree s.members s.entries c.put.new.self.pending.items)
    (nat_lt 0 c.args.at) (numbers_in (s.tree c.args.vector)) c.args.at c.in-Some.number
    c.push_comma.new.out.items c.in-Some.ensures.number c.in_ok-push_comma.ensures
    (c.in_ok-push_number.ensures
    ∙ ap (λ x. c.push_comma.new.out.items ++ number_text (of_integer x)) z)
    (put_one s.tree s.members s.entries first c.put.new.self.pending.items left w)) c.put.ensures
