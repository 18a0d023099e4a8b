use Rattle.std.proofs.Common.{◌≡◌, None, sym, ◌∙◌, arith}
use Rattle.std.specs.Prelude.{sum_by}
use Rattle.resb_walk.specs.Sums.{table_count_in, entry_count_in, text_bytes_in, number_count_in}
use Rattle.resb_walk.specs.Sums.{resource_count_in}
use Rattle.resb_walk.specs.TreeBytes.{tree_bytes}
use Rattle.resb_walk.proofs.SumsLemmas.{fits_some, fits_none, fits, fits_not, bytes_by_sums}
use Rattle.resb_read.proofs.measuring.Measured.tree_bytes.Goals as goal

pub returns-in_err-self : goal.returns-in_err-self
returns-in_err-self c xs h =
    let none : c.args.self.sums.tables ≡ None = c.in_err-self.was in
    let large = fits_none (sum_by table_count_in xs) (sym none ∙ h.sums.tables) in
    rw c.from_residual.ensures
    (fits_not (tree_bytes xs) (omega (arith, bytes_by_sums xs, large)))

pub returns-in_err-self-2 : goal.returns-in_err-self-2
returns-in_err-self-2 c xs h =
    let none : c.args.self.sums.entries ≡ None = c.in_err-self-2.was in
    let large = fits_none (sum_by entry_count_in xs) (sym none ∙ h.sums.entries) in
    rw c.from_residual-in_err-self-2.ensures
    (fits_not (tree_bytes xs) (omega (arith, bytes_by_sums xs, large)))

pub returns-in_err-self-3 : goal.returns-in_err-self-3
returns-in_err-self-3 c xs h =
    let none : c.args.self.sums.text_bytes ≡ None = c.in_err-self-3.was in
    let large = fits_none (sum_by text_bytes_in xs) (sym none ∙ h.sums.text_bytes) in
    rw c.from_residual-in_err-self-3.ensures
    (fits_not (tree_bytes xs) (omega (arith, bytes_by_sums xs, large)))

pub returns-in_err-self-4 : goal.returns-in_err-self-4
returns-in_err-self-4 c xs h =
    let none : c.args.self.sums.numbers ≡ None = c.in_err-self-4.was in
    let large = fits_none (sum_by number_count_in xs) (sym none ∙ h.sums.numbers) in
    rw c.from_residual-in_err-self-4.ensures
    (fits_not (tree_bytes xs) (omega (arith, bytes_by_sums xs, large)))

pub returns-then-bytes : goal.returns-then-bytes
returns-then-bytes c xs h =
    let tables : c.from-tables.result ≡ sum_by table_count_in xs =
    c.from-tables.ensures ∙ (fits_some (sum_by table_count_in xs) c.in_ok-self.field-0
    (sym c.in_ok-self.was ∙ h.sums.tables)).0 in
    let entries : c.from-entries.result ≡ sum_by entry_count_in xs =
    c.from-entries.ensures ∙ (fits_some (sum_by entry_count_in xs) c.in_ok-self-2.field-0
    (sym c.in_ok-self-2.was ∙ h.sums.entries)).0 in
    let texts : c.from-texts.result ≡ sum_by text_bytes_in xs =
    c.from-texts.ensures ∙ (fits_some (sum_by text_bytes_in xs) c.in_ok-self-3.field-0
    (sym c.in_ok-self-3.was ∙ h.sums.text_bytes)).0 in
    let numbers : c.from-numbers.result ≡ sum_by number_count_in xs =
    c.from-numbers.ensures ∙ (fits_some (sum_by number_count_in xs) c.in_ok-self-4.field-0
    (sym c.in_ok-self-4.was ∙ h.sums.numbers)).0 in
    let resources : c.args.self.resources ≡ sum_by resource_count_in xs = h.resources in
    let whole = bytes_by_sums xs in
    fits_not (tree_bytes xs)
    (omega (arith, whole, resources, tables, entries, texts, numbers, c.if-bytes.true))

pub returns : goal.returns
returns c xs h =
    let tables : c.from-tables.result ≡ sum_by table_count_in xs =
    c.from-tables.ensures ∙ (fits_some (sum_by table_count_in xs) c.in_ok-self.field-0
    (sym c.in_ok-self.was ∙ h.sums.tables)).0 in
    let entries : c.from-entries.result ≡ sum_by entry_count_in xs =
    c.from-entries.ensures ∙ (fits_some (sum_by entry_count_in xs) c.in_ok-self-2.field-0
    (sym c.in_ok-self-2.was ∙ h.sums.entries)).0 in
    let texts : c.from-texts.result ≡ sum_by text_bytes_in xs =
    c.from-texts.ensures ∙ (fits_some (sum_by text_bytes_in xs) c.in_ok-self-3.field-0
    (sym c.in_ok-self-3.was ∙ h.sums.text_bytes)).0 in
    let numbers : c.from-numbers.result ≡ sum_by number_count_in xs =
    c.from-numbers.ensures ∙ (fits_some (sum_by number_count_in xs) c.in_ok-self-4.field-0
    (sym c.in_ok-self-4.was ∙ h.sums.numbers)).0 in
    let resources : c.args.self.resources ≡ sum_by resource_count_in xs = h.resources in
    let whole = bytes_by_sums xs in
    fits (tree_bytes xs) _ (omega (arith, whole, resources, tables, entries, texts, numbers))
    c.if-bytes.false
