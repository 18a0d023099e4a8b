-- The pool bundle of bundles is read.
use Rattle.std.proofs.Common.{◌≡◌, ℕ, ◌+◌, ◌/◌, ◌^◌, ◌<◌, ◌≤◌, List, length, sym, ◌∙◌, ap}
use Rattle.std.proofs.Common.{subst, arith}
use Rattle.resb_layout.specs.KeyBlock.{key_bytes, padded}
use Rattle.resb_layout.specs.Written.{even}
use Rattle.resb_layout.proofs.BytesLemmas.{EachBelow}
use Rattle.resb_pool_bundle.specs.Checksum.{checksum_of}
use Rattle.resb_pool_bundle.specs.FileWith.{IsPoolFile}
use Rattle.resb_pool_bundle.specs.Pool.{pool_of}
use Rattle.resb_pool_maker.specs.Laws.{MadePoolIsRead, made_pool}
use Rattle.resb_pool_maker.specs.PoolFile.{head_words, is_third}
use Rattle.resb_pool.specs.declared.packing.Packing.{Packing}
use Rattle.resb_pool_maker.specs.PoolOf.{Bundle, IsPoolOfBy, pool_keys_by}
use Rattle.resb_pool_maker.proofs.Blocks.{each_below, below_even, even_long, padded_long}
use Rattle.resb_pool_maker.proofs.ReadBack.{Whole, passes, lends}

module _ (q : Packing) (bytes : List ℕ) (bs : List Bundle) (p : IsPoolOfBy q bytes bs) where
  abbrev keys : List ℕ
  keys = key_bytes (pool_keys_by q bs)

  head_fits : EachBelow (2 ^ 32) (head_words (padded keys) (even p.units))
  head_fits =
      let k = padded_long keys in
      let u = even_long p.units in
      let few : length (padded keys) ≤ 2 ^ 31 + 3 = omega (arith, k, p.near) in
      let room : length (even p.units) ≤ 2 ^ 28 + 1 = omega (arith, u, p.shared.room) in
      let first : 9 + length (padded keys) / 4 < 2 ^ 32 = omega (arith, few) in
      let last : 9 + length (padded keys) / 4 + length (even p.units) / 2 < 2 ^ 32 =
      omega (arith, few, room) in (
        omega arith,
        (
          omega arith,
          (
            first,
            (
              last,
              (
                last,
                (
                  omega arith,
                  (
                    omega arith,
                    (
                      last,
                      (p.checksum_fits, tt),
                    ),
                  ),
                ),
              ),
            ),
          ),
        ),
      )

  abbrev whole : Whole
  whole = record {
    strings = is_third q p.units;
    keys = padded keys;
    us = even p.units;
    keys_whole = omega (arith, padded_long keys);
    units_whole = omega (arith, even_long p.units);
    units_fit = below_even p.units (each_below (2 ^ 16) p.units p.units_fit);
    words_fit = head_fits;
  }

  is_pool_file : IsPoolFile bytes
  is_pool_file = subst IsPoolFile (sym p.file) (passes whole)

  lent : pool_of bytes ≡ made_pool (pool_keys_by q bs) p.units
  lent = ap pool_of p.file ∙ lends whole

  has_checksum : checksum_of (pool_of bytes) ≡ (pool_of bytes).checksum
  unfolding checksum_of
  has_checksum = ap checksum_of lent ∙ sym (ap (λ l. l.checksum) lent)

pub made_pool_is_read : MadePoolIsRead
made_pool_is_read q bytes bs p =
    (is_pool_file q bytes bs p, lent q bytes bs p, has_checksum q bytes bs p)
