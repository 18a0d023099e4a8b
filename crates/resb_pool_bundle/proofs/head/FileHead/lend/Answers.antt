-- Each refusal is that of the first check that fails; else the keys begin behind the index.
use Rattle.std.proofs.Common.{ℕ, List, ◌≡◌, ◌+◌, ◌*◌, ap, sym, ◌∙◌, arith, take, drop}
use Rattle.std.specs.Prelude.{unwrap_or}
use Rattle.resb_format.specs.Bytes.{units_of}
use Rattle.resb_head.specs.File.{body_of, keys_end}
use Rattle.resb_pool_bundle.specs.Fields.{index_length}
use Rattle.resb_pool_bundle.specs.Pool.{pool_of}
use Rattle.resb_pool_bundle.proofs.PoolSteps.{no_pool, keys_in_index, pool_holds}
use Rattle.resb_pool_bundle.proofs.head.FileHead.lend.Goals as goal

pub returns-then-not-is_pool : goal.returns-then-not-is_pool
returns-then-not-is_pool c =
    no_pool c.args.self.index.bytes.now c.invalid_data.result c.args.self.passes
    (sym c.is_pool.ensures ∙ c.if-not-is_pool.true) c.invalid_data.ensures

pub returns-then-self-index_end : goal.returns-then-self-index_end
returns-then-self-index_end c =
    keys_in_index c.args.self.index.bytes.now c.end_of_input.result c.args.self.passes
    (sym c.is_pool.ensures ∙ c.if-not-is_pool.false)
    (omega (
      arith,
      c.if-self-index_end.true,
      c.args.self.index.counted,
      c.args.self.index.keys_said,
    ))
    c.end_of_input.ensures

pub returns : goal.returns
unfolding pool_of
returns c =
    let i = c.args.self.index in
    let bs : List ℕ = i.bytes.now in
    let start : 4 * (1 + i.fields) ≡ 4 * (1 + index_length bs) = ap (λ n. 4 * (1 + n)) i.counted in
    let keys : c.split_at-2.result.1.now
    ≡ drop (4 * (1 + index_length bs)) (take (4 * keys_end bs) (body_of bs)) =
    c.split_at-2.ensures.back
    ∙ ap (drop (4 * (1 + i.fields)))
    (c.split_at.ensures.front ∙ (λ j. take (i.keys_said j) (i.cut j)))
    ∙ ap (λ n. drop n (take (4 * keys_end bs) (body_of bs))) start in
    let checksum = c.unwrap_or.ensures ∙ ap (λ o. unwrap_or o 0) c.checksum.ensures in (
      pool_holds bs c.args.self.passes (sym c.is_pool.ensures ∙ c.if-not-is_pool.false)
          (omega (arith, c.if-self-index_end.false, i.counted, i.keys_said)),
      (
        λ j. record {
          keys = keys j;
          block = units_of (c.block.ensures j);
          checksum = checksum j;
        },
        c.block.ensures,
      ),
    )
