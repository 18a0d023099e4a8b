use Rattle.std.proofs.Common.{◌≡◌, ℕ, ◌+◌, ◌/◌, [], ◌∷◌, length, arith}
use Rattle.resb_format.specs.Bytes.{units_of}
use Rattle.resb_format.proofs.Spelled.{units_length}
use Rattle.resb_pool_maker.proofs.file.index_of.Goals as goal

pub returns-clause-words : goal.returns-clause-words
returns-clause-words c =
    let block = c.args.block.now in
    let front : ℕ = 9 + length c.args.keys.now / 4 in
    let units : length block / 4 ≡ length (units_of block) / 2 =
    omega (arith, units_length block) in
    λ i. 0x2000_0000 ∷ 8 ∷ front ∷ (front + units i) ∷ (front + units i) ∷ 0 ∷ 3
    ∷ (front + units i) ∷ c.pool_checksum.ensures i ∷ []
