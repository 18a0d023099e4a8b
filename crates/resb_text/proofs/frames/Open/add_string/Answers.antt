use Rattle.std.proofs.Common.{sym, ◌∙◌, ap, refl, arith}
use Rattle.resb_grammar.specs.Items.{string_term}
use Rattle.resb_grammar.specs.Machine.{with_item}
use Rattle.resb_text.specs.Inner.Discovered.{is_dropped_in}
use Rattle.resb_text.specs.Inner.Frames.{FrameView}
use Rattle.resb_text.specs.declared.items.Term.TheVariants.{String}
use Rattle.resb_text.proofs.Candidates.{keys_string, keys_changed, from_item}
use Rattle.resb_text.proofs.OpenGroups.{shows_term}
use Rattle.resb_text.proofs.frames.Open.add_string.Goals as goal
use Rattle.std.proofs.lemmas.Result.{on_ok_weaker}

pub add-requires : goal.add-requires
add-requires g c =
    let old = c.args.self.now in
    let x = c.requires.1 in
    let looks = c.in_ok-push.ensures.looks (g.B.Build.tree old.build) (g.B.Build.held old.build)
    x.number c.requires.0.frame (string_term c.args.text.now) x.frame refl in
    ap (λ n. is_dropped_in old.keys n) (ap (λ (l : FrameView). l.number) looks)
    ∙ x.keys.are_open.1

pub returns-then-may_be_table : goal.returns-then-may_be_table
returns-then-may_be_table g c =
    let old = c.args.self.now in
    let tree = g.B.Build.tree old.build in
    let held = g.B.Build.held old.build in
    let looks = c.in_ok-push.ensures.looks tree held in
    let count = c.in_ok-push.ensures.count in
    on_ok_weaker c.add.result (λ added. record {
      shows = λ o x.
          let term = string_term c.args.text.now in
          let pushed = looks x.number o.frame term x.frame refl in
          shows_term old term (String c.args.text) x refl (λ y h. (refl, h)) looks
          (keys_string old.keys c.add.new.self o.frame c.args.text.now
          (rw (ap (λ (l : FrameView). l.number) pushed) at added) x.keys);
      turns = omega (arith, count, added.candidates);
    })
    c.add.ensures

pub returns : goal.returns
returns g c =
    let old = c.args.self.now in
    let tree = g.B.Build.tree old.build in
    let held = g.B.Build.held old.build in
    let looks = c.in_ok-push.ensures.looks tree held in
    let count = c.in_ok-push.ensures.count in
    record {
      shows = λ o x.
          let term = string_term c.args.text.now in
          let pushed = looks x.number o.frame term x.frame refl in
          shows_term old term (String c.args.text) x refl (λ y h. (refl, h)) looks
          (keys_changed (from_item x.number o.frame c.args.text.now
          (sym (c.may_be_table.ensures tree held x.number (with_item term o.frame) pushed)
          ∙ c.if-may_be_table.false)) x.keys);
      turns = omega (arith, count);
    }
