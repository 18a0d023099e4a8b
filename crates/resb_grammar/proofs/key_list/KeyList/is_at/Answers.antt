use Rattle.std.proofs.Common.{◌≡◌, true, Some, sym, ◌∙◌, ap}
use Rattle.std.specs.Str.{bytes_eq}
use Rattle.std.specs.Cmp.Lexicographic.{bytes_decides}
use Rattle.resb_grammar.proofs.KeyPlaces.{key_stays}
use Rattle.resb_grammar.proofs.key_list.KeyList.is_at.Goals as goal

pub returns-in-Some : goal.returns-in-Some
returns-in-Some c = λ t.
    let k = c.as_str.result.now in
    let e : bytes_eq k c.args.text.now ≡ true = sym c.eq.ensures ∙ t in
    let same : k ≡ c.args.text.now = (bytes_decides k c.args.text.now).0 e in
    key_stays c.args.self.now.seen.keys c.args.place c.args.text.now
    (sym c.in-Some.ensures.key ∙ ap Some (sym c.as_str.ensures.value ∙ same))
