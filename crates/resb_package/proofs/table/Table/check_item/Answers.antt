-- Each refusal is that of the first check that fails.
use Rattle.std.proofs.Common.{arith}
use Rattle.resb_package.proofs.Entries.{name_outside, without_end, not_ascii, item_outside}
use Rattle.resb_package.proofs.Entries.{items_crossed, item_holds}
use Rattle.resb_package.proofs.table.Table.check_item.Goals as goal

pub returns-then-name_from-self : goal.returns-then-name_from-self
returns-then-name_from-self c =
    name_outside c.args.self.now.bytes.now c.args.number
    (omega (arith, c.name_from.ensures, c.if-name_from-self.true))

pub returns-in_default : goal.returns-in_default
returns-in_default c =
    without_end c.args.self.now.bytes.now c.args.number
    (omega (arith, c.name_from.ensures, c.if-name_from-self.false))
    c.in_default.ensures

pub returns-then-not-is_ascii : goal.returns-then-not-is_ascii
returns-then-not-is_ascii c =
    not_ascii c.args.self.now.bytes.now c.args.number
    (omega (arith, c.name_from.ensures, c.if-name_from-self.false))
    c.in-Some.name.now c.in-Some.ensures c.if-not-is_ascii.ensures.cases

pub returns-then-item_from-self : goal.returns-then-item_from-self
returns-then-item_from-self c =
    item_outside c.args.self.now.bytes.now c.args.number
    (omega (arith, c.name_from.ensures, c.if-name_from-self.false))
    c.in-Some.name.now c.in-Some.ensures c.if-not-is_ascii.ensures.cases
    (omega (arith, c.item_from.ensures, c.if-item_from-self.true))

pub returns-then-item_from-item_to : goal.returns-then-item_from-item_to
returns-then-item_from-item_to c =
    items_crossed c.args.self.now.bytes.now c.args.number
    (omega (arith, c.name_from.ensures, c.if-name_from-self.false))
    c.in-Some.name.now c.in-Some.ensures c.if-not-is_ascii.ensures.cases
    (omega (arith, c.item_from.ensures, c.if-item_from-self.false))
    (omega (arith, c.item_from-2.ensures, c.item_to.ensures, c.if-item_from-item_to.true))

pub returns : goal.returns
returns c =
    item_holds c.args.self.now.bytes.now c.args.number
    (omega (arith, c.name_from.ensures, c.if-name_from-self.false))
    c.in-Some.name.now c.in-Some.ensures c.if-not-is_ascii.ensures.cases
    (omega (arith, c.item_from.ensures, c.if-item_from-self.false))
    (omega (arith, c.item_from-2.ensures, c.item_to.ensures, c.if-item_from-item_to.false))
