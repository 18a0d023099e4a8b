-- Each refusal is that of the first check that fails.
use Rattle.std.proofs.Common.{ℕ, List, Option, ap, sym, ◌∙◌}
use Rattle.std.specs.Prelude.{unwrap_or, option_map}
use Rattle.resb_format.specs.Bytes.{units_of}
use Rattle.resb_pool_bundle.specs.Pool.{Pool, pool_in}
use Rattle.resb_pool_bundle.proofs.PoolSteps.{unused_holds, none_given, another_given, right_given}
use Rattle.resb_pool_bundle.proofs.PoolSteps.{nothing_lent, all_lent}
use Rattle.resb_pool_bundle.proofs.head.FileHead.borrow.Goals as goal

pub returns-then-not-uses_pool : goal.returns-then-not-uses_pool
returns-then-not-uses_pool c =
    let bs : List ℕ = c.args.self.index.bytes.now in
    let pool : Option Pool = option_map pool_in c.args.pool in
    let no = sym c.uses_pool.ensures ∙ c.if-not-uses_pool.true in
    (unused_holds pool bs no, c.none.ensures ∙ sym (nothing_lent pool bs no))

pub returns-in_default : goal.returns-in_default
returns-in_default c =
    let bs : List ℕ = c.args.self.index.bytes.now in
    rw c.in_default.is
    (none_given bs c.unsupported_format.result
    (sym c.uses_pool.ensures ∙ c.if-not-uses_pool.false) c.unsupported_format.ensures)

pub returns-then-unwrap_or-pool : goal.returns-then-unwrap_or-pool
returns-then-unwrap_or-pool c =
    let bs : List ℕ = c.args.self.index.bytes.now in
    let said = c.unwrap_or.ensures ∙ ap (λ o. unwrap_or o 0) c.checksum.ensures in
    rw c.in-Some.is
    (another_given (pool_in c.in-Some.pool) bs c.invalid_data.result
    (sym c.uses_pool.ensures ∙ c.if-not-uses_pool.false)
    (λ e. c.if-unwrap_or-pool.true (said ∙ e)) c.invalid_data.ensures)

pub returns : goal.returns
returns c =
    let bs : List ℕ = c.args.self.index.bytes.now in
    let uses = sym c.uses_pool.ensures ∙ c.if-not-uses_pool.false in
    let said = c.unwrap_or.ensures ∙ ap (λ o. unwrap_or o 0) c.checksum.ensures in
    let pool : Pool = pool_in c.in-Some.pool in
    rw c.in-Some.is (
      right_given pool bs uses (sym said ∙ c.if-unwrap_or-pool.false),
      (λ j. record {
        keys = c.in-Some.pool.keys.now;
        block = units_of c.in-Some.pool.block.now;
        limit = c.limit.ensures j;
        short_limit = c.short_limit.ensures j;
      })
          ∙ sym (all_lent pool bs uses),
    )
