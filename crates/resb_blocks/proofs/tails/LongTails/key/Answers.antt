use Rattle.std.proofs.Common.{◌≡◌, ◌+◌, ◌-◌, Some, arith, refl, sym, ap, ◌∙◌}
use Rattle.resb_format.specs.Strings.{key_at}
use Rattle.resb_blocks.proofs.TailLaws.{end_of_tail}
use Rattle.resb_blocks.proofs.Searching.{no_tail_no_key, behind_in_none, uncut_in_none}
use Rattle.resb_blocks.proofs.tails.LongTails.key.Goals as goal

pub returns-in_err-tail-clause-each_long : goal.returns-in_err-tail-clause-each_long
returns-in_err-tail-clause-each_long c _ s e =
    let its = c.args.self.now in
    no_tail_no_key its.keys.now its.tails.items c.args.at s its.whole
    (behind_in_none its.tails.items c.args.at c.in_err-tail.ensures.last) e

pub returns-in_err-text-clause-each_long : goal.returns-in_err-text-clause-each_long
returns-in_err-text-clause-each_long c _ s e =
    let its = c.args.self.now in
    let tail = c.in_ok-tail.tail in
    no_tail_no_key its.keys.now its.tails.items c.args.at s its.whole
    (uncut_in_none its.keys.now its.tails.items c.args.at tail s its.apart
    c.in_ok-tail.ensures.stands c.in_ok-tail.ensures.last e
    (λ b. (let f = c.in_err-text.ensures.variant.1 b in cc))) e

pub returns-clause-is_key : goal.returns-clause-is_key
returns-clause-is_key c =
    let keys = c.args.self.now.keys.now in
    let tail = c.in_ok-tail.tail in
    let k = c.args.at - tail.from in
    let cut = c.in_ok-text.ensures in
    let last = c.in_ok-tail.ensures.last in
    let e : tail.from + k ≡ c.args.at = omega (arith, last.4) in
    ap (key_at keys) (sym e)
    ∙ end_of_tail keys tail.text.now tail.from k c.in_ok-tail.ensures.stands (cut.variant.0 refl)
    ∙ ap Some (sym cut.back)
