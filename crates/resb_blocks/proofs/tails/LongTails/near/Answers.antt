use Rattle.std.proofs.Common.{arith, ◌+◌, ◌-◌, ◌/◌}
use Rattle.resb_blocks.proofs.Searching.{start_is, end_is, before_it}
use Rattle.resb_blocks.proofs.tails.LongTails.near.Goals as goal

pub halves-preserved-then-index-at : goal.halves-preserved-then-index-at
halves-preserved-then-index-at c =
    let ts = c.args.self.now.tails.items in
    let middle = c.halves.low + (c.halves.high - c.halves.low) / 2 in
    let i = c.halves.invariant in
    let begins = start_is ts middle c.index.result.now (omega arith) c.index.ensures in (
      omega arith,
      omega arith,
      λ j l. omega (
        arith,
        before_it ts j middle c.args.self.now.apart (omega (arith, l))
            (omega arith),
        begins,
      ),
      i.3,
    )

pub halves-preserved : goal.halves-preserved
halves-preserved c =
    let ts = c.args.self.now.tails.items in
    let middle = c.halves.low + (c.halves.high - c.halves.low) / 2 in
    let i = c.halves.invariant in
    let begins = start_is ts middle c.index.result.now (omega arith) c.index.ensures in (
      omega arith,
      omega arith,
      i.2,
      λ j l m. omega (arith, before_it ts middle j c.args.self.now.apart l m, begins),
    )

pub returns-clause-last : goal.returns-clause-last
returns-clause-last c =
    let ts = c.args.self.now.tails.items in
    let i = c.halves.invariant in
    let n = c.halves.low - 1 in
    let t = c.index-2.result.now in
    let begins = start_is ts n t (omega arith) c.index-2.ensures in (
      n,
      omega arith,
      begins,
      end_is ts n t (omega arith) c.index-2.ensures,
      omega (arith, begins, i.2 n (omega arith)),
      λ j l m. i.3 j (omega (arith, l)) m,
    )
