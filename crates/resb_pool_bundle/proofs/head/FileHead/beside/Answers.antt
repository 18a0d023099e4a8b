-- What is taken from the pool, and the parts of the file itself.
use Rattle.std.proofs.Common.{ℕ, List, ◌≡◌, Some, Option, ap, ◌∙◌, rules, get_or}
use Rattle.std.specs.Prelude.{option_map}
use Rattle.resb_format.specs.Bytes.{units_of, words_of}
use Rattle.resb_format.specs.Error.{refusal_of}
use Rattle.resb_pool_bundle.specs.Checks.{refusal_with}
use Rattle.resb_pool_bundle.specs.Pool.{Pool, pool_in, parts_with}
use Rattle.resb_pool_bundle.proofs.PassingFiles.{file_is}
use Rattle.resb_pool_bundle.proofs.PoolSteps.{behind_all}
use Rattle.resb_pool_bundle.proofs.head.FileHead.beside.Goals as goal

pub returns-in_err-pool : goal.returns-in_err-pool
returns-in_err-pool c =
    let bs : List ℕ = c.args.self.index.bytes.now in
    let pool : Option Pool = option_map pool_in c.args.pool in
    let h : refusal_with pool bs ≡ Some (refusal_of c.in_err-pool.field-0.0) =
    behind_all pool bs c.args.self.passes ∙ c.in_err-pool.ensures in
    search (rules, h)

pub returns : goal.returns
unfolding parts_with
returns c =
    let i = c.args.self.index in
    let bs : List ℕ = i.bytes.now in
    let pool : Option Pool = option_map pool_in c.args.pool in (
      file_is pool bs (behind_all pool bs c.args.self.passes ∙ c.in_ok-pool.ensures.0),
      λ j. record {
        body = i.cut j;
        keys = c.keys.ensures j;
        block = units_of (c.block.ensures j);
        lent = Some (c.in_ok-pool.ensures.1 j);
      },
      c.word_at-root.ensures ∙ ap (λ b. get_or (words_of b) 0 0) i.cut,
    )
