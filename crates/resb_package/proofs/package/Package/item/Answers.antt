-- A checked name is there and a text.
use Rattle.std.proofs.Common.{ℕ, List, ◌≡◌, ◌<◌, Some, None, sym, subst, ◌∙◌, arith}
use Rattle.std.specs.Str.{IsUtf8}
use Rattle.std.proofs.lemmas.Option.{same_Some}
use Rattle.std.proofs.lemmas.Str.{IsUtf8-from_ascii}
use Rattle.resb_package.specs.Table.{count_in, name_in}
use Rattle.resb_package.proofs.Passing.{item_of, item_there, item_past}
use Rattle.resb_package.proofs.package.Package.item.Goals as goal

pub returns-then-number-count : goal.returns-then-number-count
returns-then-number-count c =
    sym (item_past c.args.self.now.table.bytes.now c.args.number
    (omega (arith, c.count.ensures, c.if-number-count.true)))

pub returns-in_err-name : goal.returns-in_err-name
returns-in_err-name c =
    let t : List ℕ = c.args.self.now.table.bytes.now in
    let l : c.args.number < count_in t = omega (arith, c.count.ensures, c.if-number-count.false) in
    let is = item_of t c.args.number c.args.self.now.checked l in
    let no : Some (name_in t c.args.number) ≡ None = sym is.named ∙ c.in_err-name.ensures in
    cc

pub returns-in_default : goal.returns-in_default
returns-in_default c =
    let t : List ℕ = c.args.self.now.table.bytes.now in
    let l : c.args.number < count_in t = omega (arith, c.count.ensures, c.if-number-count.false) in
    let is = item_of t c.args.number c.args.self.now.checked l in
    let same : name_in t c.args.number ≡ c.in_ok-name.field-0.now =
    same_Some _ _ (sym is.named ∙ c.in_ok-name.ensures) in
    let text : IsUtf8 c.in_ok-name.field-0.now =
    subst IsUtf8 same (IsUtf8-from_ascii (name_in t c.args.number) is.ascii) in
    absurd (c.in_default.ensures.cases.0 text)

pub returns : goal.returns
returns c =
    let t : List ℕ = c.args.self.now.table.bytes.now in
    let l : c.args.number < count_in t = omega (arith, c.count.ensures, c.if-number-count.false) in
    let is = item_of t c.args.number c.args.self.now.checked l in
    let same : name_in t c.args.number ≡ c.in_ok-name.field-0.now =
    same_Some _ _ (sym is.named ∙ c.in_ok-name.ensures) in
    let name : c.in-Ok.name.now ≡ name_in t c.args.number = c.in-Ok.ensures.cases.0 ∙ sym same in
    (λ k. Some (name k, c.item-bytes.ensures k)) ∙ sym (item_there t c.args.number l)
