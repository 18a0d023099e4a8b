use Rattle.std.proofs.Common.{◌∙◌, ap, ◌++◌, refl}
use Rattle.std.specs.Prelude.{map}
use Rattle.std.proofs.lemmas.Result.{on_ok_weaker}
use Rattle.resb_grammar.specs.BundleText.{first_places}
use Rattle.resb_text.specs.Inner.Discovered.{text_in_group, left_of, texts}
use Rattle.resb_text.proofs.discovered.Keys.settle.Goals as goal

pub returns-clause-lists : goal.returns-clause-lists
returns-clause-lists c =
    let flags = c.args.self.now.is_dropped.items in
    on_ok_weaker c.list_left-listed.result (λ lists. record {
      empty = ap (λ cs. left_of flags (map text_in_group cs)) c.clear.ensures.items;
      listed = λ before h. lists before h
          ∙ (λ i. first_places (texts (before ++ left_of (c.deref-2.ensures.value i)
          (map text_in_group (c.deref.ensures.value i)))));
      dropped = refl;
    })
    c.list_left-listed.ensures.ok
