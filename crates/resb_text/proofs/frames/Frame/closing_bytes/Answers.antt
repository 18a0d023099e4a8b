use Rattle.std.proofs.Common.{sym, ◌∙◌, ap, arith}
use Rattle.std.proofs.lemmas.Bool.{eqb-false}
use Rattle.resb_grammar.specs.Limit.{shape_bytes}
use Rattle.resb_text.specs.Inner.Frames.{FrameView}
use Rattle.resb_text.proofs.FramesLemmas.{table_bytes, shown_some}
use Rattle.resb_text.proofs.frames.Frame.closing_bytes.Goals as goal

pub returns-in-Table : goal.returns-in-Table
returns-in-Table g c = λ tree held n f x.
    let items = c.args.self.now.items in
    let ok = items.ok.0 in
    let some = eqb-false _ _ (sym c.is_empty.ensures ∙ c.if-is_empty.false) in
    let same = shown_some tree held items.items f.items (ap (λ (l : FrameView). l.items) x) in
    c.from.ensures
    ∙ table_bytes c.args.weights f.items (λ none. some (omega (arith, ok, same, none)))
    ∙ ap (λ sh. shape_bytes c.args.weights sh f.items) (c.in-Table.ensures tree held n f x)

pub returns-in-Array : goal.returns-in-Array
returns-in-Array g c = λ tree held n f x. ap (λ sh. shape_bytes c.args.weights sh f.items)
    (c.in-Array.ensures tree held n f x)

pub returns-in-String : goal.returns-in-String
returns-in-String g c = λ tree held n f x. ap (λ sh. shape_bytes c.args.weights sh f.items)
    (c.in-String.ensures tree held n f x)
