use Rattle.std.proofs.Common.{◌≡◌, ◌∙◌, ap, sym, map, Some, arith}
use Rattle.std.proofs.lemmas.Bool.{false≢true}
use Rattle.resb_format.specs.Parts.{parts_in}
use Rattle.resb_walk.specs.Inner.Members.{content_of, keyed_members, members_of}
use Rattle.resb_read.specs.Sequences.{at_entry}
use Rattle.resb_read.specs.Tables.{keys_ascend, price_of, view_entries}
use Rattle.resb_opened.specs.Ordered.{ordered_list, ordered_entries}
use Rattle.resb_opened.proofs.FoundLemmas.{list_inside, table_inside}
use Rattle.resb_opened.proofs.ordering.ordered_inside.Goals as goal

pub returns-in-Ok-List-clause-ordered : goal.returns-in-Ok-List-clause-ordered
returns-in-Ok-List-clause-ordered c = λ each.
    ordered_list (c.in-Ok-List.ensures.stands
    ∙ ap (λ s. Some (content_of s)) c.in-Ok-List.field-0-is) each

pub returns-in-Ok-List-clause-found : goal.returns-in-Ok-List-clause-found
returns-in-Ok-List-clause-found c = λ o is fits.
    let (os, k, q) = list_inside (parts_in c.args.file) c.args.at
    (members_of c.in-Ok-List.members) is
    (c.in-Ok-List.ensures.stands ∙ ap (λ s. Some (content_of s)) c.in-Ok-List.field-0-is) o in
    (os, k, omega (arith, q))

pub returns-then-ascends-clause-ordered : goal.returns-then-ascends-clause-ordered
returns-then-ascends-clause-ordered c = λ each.
    ordered_entries (c.in-Ok-Table.ensures.stands
    ∙ ap (λ s. Some (content_of s)) c.in-Ok-Table.field-0-is)
    (ap keys_ascend (sym c.of.ensures) ∙ c.ascends.ensures.ordered c.if-ascends.true) each

pub returns-then-ascends-clause-found : goal.returns-then-ascends-clause-found
returns-then-ascends-clause-found c = λ o is fits.
    let p = parts_in c.args.file in
    let es = keyed_members c.in-Ok-Table.entries in
    let (os, k, q, asc) = table_inside p c.args.at es is
    (c.in-Ok-Table.ensures.stands ∙ ap (λ s. Some (content_of s)) c.in-Ok-Table.field-0-is) o in
    let price : price_of (view_entries c.of.result) ≡ price_of (map (at_entry p) es) =
    ap price_of c.of.ensures in
    let paid = c.ascends.ensures.found (ap keys_ascend c.of.ensures ∙ asc)
    (omega (arith, price, q, fits)) in
    (os, k, omega (arith, price, q, paid.1))

pub returns-else-ascends-clause-found : goal.returns-else-ascends-clause-found
returns-else-ascends-clause-found c = λ o is fits.
    let p = parts_in c.args.file in
    let es = keyed_members c.in-Ok-Table.entries in
    let (os, k, q, asc) = table_inside p c.args.at es is
    (c.in-Ok-Table.ensures.stands ∙ ap (λ s. Some (content_of s)) c.in-Ok-Table.field-0-is) o in
    let price : price_of (view_entries c.of.result) ≡ price_of (map (at_entry p) es) =
    ap price_of c.of.ensures in
    let paid = c.ascends.ensures.found (ap keys_ascend c.of.ensures ∙ asc)
    (omega (arith, price, q, fits)) in
    absurd (false≢true (sym c.if-ascends.false ∙ paid.0))
