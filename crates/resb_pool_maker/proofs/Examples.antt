-- Pool bundles at two worked examples, as ICU's compiler writes them: of the bundles
-- `a{alpha{"one two three"} beta{"x"}}` and `b{alpha{"one two three"} gamma{"three"}}`, with their
-- strings, and with their keys alone.
use Rattle.std.proofs.Common.{◌≡◌, ℕ, List, [], ◌∷◌, ◌++◌, refl, codes}
use Rattle.std.specs.Int.{to_le_bytes, w32}
use Rattle.std.specs.List.{flat_map}
use Rattle.resb_tree.specs.Tree.{string, table, no_entries, entry}
use Rattle.resb_pool_bundle.specs.Checksum.{bit_step, checksum_of}
use Rattle.resb_pool_maker.specs.PoolFile.{pool_file}
use Rattle.resb_pool.specs.declared.packing.Packing.TheVariants.{Plain}
use Rattle.resb_pool_maker.specs.PoolOf.{Bundle, pool_keys_by}

-- 32 bytes of header, of a version whose first number is given
header : ℕ → List ℕ
header version =
    32 ∷ 0 ∷ 0xda ∷ 0x27 ∷ 20 ∷ 0 ∷ 0 ∷ 0 ∷ 0 ∷ 0 ∷ 2 ∷ 0 ∷ 0x52 ∷ 0x65 ∷ 0x73 ∷ 0x42
    ∷ version ∷ 0 ∷ 0 ∷ 0 ∷ 1 ∷ 4 ∷ 0 ∷ 0 ∷ 0 ∷ 0 ∷ 0 ∷ 0 ∷ 0 ∷ 0 ∷ 0 ∷ 0 ∷ []

first_bundle : Bundle
first_bundle = record {
  tree =
      table (entry (codes "alpha") (string (codes "one two three"))
      (entry (codes "beta") (string (codes "x")) no_entries));
  keys = codes "alpha" ∷ codes "beta" ∷ [];
}

-- `beta` is listed too, but no table of the tree has it
second_bundle : Bundle
second_bundle = record {
  tree =
      table (entry (codes "alpha") (string (codes "one two three"))
      (entry (codes "gamma") (string (codes "three")) no_entries));
  keys = codes "gamma" ∷ codes "beta" ∷ codes "alpha" ∷ [];
}

-- each key stands where it first comes
keys : pool_keys_by Plain (first_bundle ∷ second_bundle ∷ [])
    ≡ codes "alpha" ∷ codes "beta" ∷ codes "gamma" ∷ []
unfolding first_bundle second_bundle
keys = refl

-- `one two three` saves 14 units, and `x` and `three` none
with_strings : pool_file Plain (codes "alpha" ∷ codes "beta" ∷ codes "gamma" ∷ [])
    (0 ∷ (codes "one two three" ++ 0 ∷ []))
    ≡ header 3 ++ flat_map (to_le_bytes w32) (
    0x20000000 ∷ 8 ∷ 0xe ∷ 0x16 ∷ 0x16 ∷ 0 ∷ 3 ∷ 0x16 ∷ 0xe31610fa
    ∷ 0x68706c61 ∷ 0x65620061 ∷ 0x67006174 ∷ 0x616d6d61 ∷ 0xaaaaaa00
    ∷ 0x6f0000 ∷ 0x65006e ∷ 0x740020 ∷ 0x6f0077 ∷ 0x740020 ∷ 0x720068 ∷ 0x650065 ∷ 0xaaaa0000
    ∷ [])
unfolding header checksum_of bit_step
with_strings = refl

-- without strings the version is 2.0, and unit 0 stands alone
keys_alone : pool_file Plain (codes "alpha" ∷ codes "beta" ∷ codes "gamma" ∷ []) (0 ∷ [])
    ≡ header 2 ++ flat_map (to_le_bytes w32) (
    0x20000000 ∷ 8 ∷ 0xe ∷ 0xf ∷ 0xf ∷ 0 ∷ 3 ∷ 0xf ∷ 0x1baba403
    ∷ 0x68706c61 ∷ 0x65620061 ∷ 0x67006174 ∷ 0x616d6d61 ∷ 0xaaaaaa00 ∷ 0xaaaa0000 ∷ [])
unfolding header checksum_of bit_step
keys_alone = refl
