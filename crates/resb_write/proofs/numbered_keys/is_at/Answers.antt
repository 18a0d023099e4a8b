use Rattle.std.proofs.Common.{◌≡◌, true, sym, ◌∙◌, ap}
use Rattle.std.specs.Str.{bytes_eq}
use Rattle.std.specs.Option.{is_some}
use Rattle.std.specs.Cmp.Lexicographic.{bytes_decides}
use Rattle.resb_pool.specs.Plan.{at_text}
use Rattle.resb_write.proofs.NumberedKeys.{key_there}
use Rattle.resb_write.proofs.numbered_keys.is_at.Goals as goal

pub returns-in-Some-clause-among : goal.returns-in-Some-clause-among
returns-in-Some-clause-among c = λ t.
    let k = c.in-Some.found.now in
    let e : bytes_eq k.now c.args.key.now ≡ true = sym c.eq.ensures ∙ t in
    let same = (bytes_decides k.now c.args.key.now).0 e in
    ap (λ s. is_some (at_text c.args.distinct.now s)) (sym same)
    ∙ ap is_some c.in-Some.ensures.value

pub returns-in-Some-clause-there : goal.returns-in-Some-clause-there
returns-in-Some-clause-there c = λ t.
    let k = c.in-Some.found.now in
    let e : bytes_eq k.now c.args.key.now ≡ true = sym c.eq.ensures ∙ t in
    key_there c.args.distinct.now.entries c.args.index k tt (sym c.in-Some.ensures.entry)
    c.args.key.now ((bytes_decides k.now c.args.key.now).0 e)
