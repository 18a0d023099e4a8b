-- Each refusal is that of the first check that fails.
use Rattle.std.proofs.Common.{sym, ◌∙◌}
use Rattle.resb_pool_bundle.proofs.PoolSteps.{checksum_missing, pool_missing, lending_holds}
use Rattle.resb_pool_bundle.proofs.head.check_lending.Goals as goal

pub returns-then-not-has_checksum_due : goal.returns-then-not-has_checksum_due
returns-then-not-has_checksum_due c =
    checksum_missing c.args.index.bytes.now c.invalid_data.result
    (sym c.has_checksum_due.ensures ∙ c.if-not-has_checksum_due.true) c.invalid_data.ensures

pub returns-then-not-has_pool_of_strings : goal.returns-then-not-has_pool_of_strings
returns-then-not-has_pool_of_strings c =
    pool_missing c.args.index.bytes.now c.invalid_data-then-not-has_pool_of_strings.result
    (sym c.has_checksum_due.ensures ∙ c.if-not-has_checksum_due.false)
    (sym c.has_pool_of_strings.ensures ∙ c.if-not-has_pool_of_strings.true)
    c.invalid_data-then-not-has_pool_of_strings.ensures

pub returns : goal.returns
returns c =
    lending_holds c.args.index.bytes.now
    (sym c.has_checksum_due.ensures ∙ c.if-not-has_checksum_due.false)
    (sym c.has_pool_of_strings.ensures ∙ c.if-not-has_pool_of_strings.false)
