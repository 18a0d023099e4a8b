-- What follows the backslash is no `u` and no `U`, and makes no escape or stands for itself.
use Rattle.std.proofs.Common.{◌∙◌, sym}
use Rattle.resb_icu_files.proofs.CollationLemmas.{no_escape, is_itself}
use Rattle.resb_icu_files.proofs.collation.by_escape.Goals as goal

pub returns-then-is_no_escape : goal.returns-then-is_no_escape
returns-then-is_no_escape c =
    let next = c.character_at-next.ensures in
    no_escape c.args.quoted c.args.out.now.items c.args.rest.now
    (λ e. c.if-next-eq117.false (next ∙ e)) (λ e. c.if-next-eq85.false (next ∙ e))
    (sym c.is_no_escape.ensures ∙ c.if-is_no_escape.true)

pub returns : goal.returns
returns c =
    let next = c.character_at-next.ensures in
    rw (c.quotes.ensures, c.in_ok-push_backslash.ensures, next)
    (is_itself c.args.quoted c.args.out.now.items c.args.rest.now
    (λ e. c.if-next-eq117.false (next ∙ e)) (λ e. c.if-next-eq85.false (next ∙ e))
    (sym c.is_no_escape.ensures ∙ c.if-is_no_escape.false))
