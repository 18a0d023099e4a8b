-- The parts of the file, one behind the other.
use Rattle.std.proofs.Common.{◌≡◌, ℕ, ◌<◌, ◌^◌, List, [], ◌++◌, cond, length, get_or}
use Rattle.std.proofs.Common.{◌∙◌, ap, subst}
use Rattle.std.proofs.Common.{append_assoc, arith}
use Rattle.resb_format.specs.Bytes.{units_of, units_as_bytes}
use Rattle.resb_head.specs.Head.{index_words}
use Rattle.resb_layout.specs.KeyBlock.{key_bytes, padded}
use Rattle.resb_layout.specs.Laid.{words}
use Rattle.resb_layout.specs.Written.{even}
use Rattle.resb_layout.specs.WrittenHead.{header_of}
use Rattle.resb_layout.proofs.BytesLemmas.{halves_len}
use Rattle.resb_pool.specs.Plan.{nows}
use Rattle.resb_pool_maker.specs.PoolFile.{version_of, head_words, blocks_checksum}
use Rattle.resb_pool_maker.proofs.Blocks.{even_long, each_below, below_even, units_back}
use Rattle.resb_pool_maker.proofs.file.assemble.Goals as goal

pub index_of-index-requires-clause-block : goal.index_of-index-requires-clause-block
index_of-index-requires-clause-block c =
    let us = c.args.units.now in
    omega (
      arith,
      ap length (c.deref-2.ensures.value ∙ c.in_ok-unit_bytes.ensures.block),
      halves_len (even us),
      even_long us,
      c.requires.room,
    )

-- the units of the block's bytes
units_are : (us bytes : List ℕ) → ((k : ℕ) → get_or us k 0 < 2 ^ 16)
    → bytes ≡ units_as_bytes (even us) → units_of bytes ≡ even us
units_are us bytes fits e =
    ap units_of e ∙ units_back (even us) (below_even us (each_below (2 ^ 16) us fits))

built : {a b c d e f : List ℕ} (h r i k u : List ℕ) → a ≡ [] → b ≡ a ++ h → c ≡ b ++ r
    → d ≡ c ++ i → e ≡ d ++ k → f ≡ e ++ u → f ≡ h ++ ((r ++ i) ++ (k ++ u))
built h r i k u p q s t v w =
    w ∙ ap (λ l. l ++ u) (v ∙ ap (λ l. l ++ k) (t ∙ ap (λ l. l ++ i) (s ∙ ap (λ l. l ++ r)
    (q ∙ ap (λ l. l ++ h) p))))
    ∙ append_assoc (((h ++ r) ++ i)) k u
    ∙ ap (λ l. l ++ (k ++ u)) (append_assoc h r i)
    ∙ append_assoc h (r ++ i) (k ++ u)

pub returns-clause-file : goal.returns-clause-file
returns-clause-file c =
    let us = c.args.units.now in
    let keys = c.in_ok-key_bytes.ensures in
    let units = c.in_ok-unit_bytes.ensures.block in
    let index = c.index_of-index.ensures.words
    ∙ (λ i. head_words ((c.deref.ensures.value ∙ keys) i)
    (units_are us c.deref-2.result.now c.in_ok-unit_bytes.ensures.fits
    (c.deref-2.ensures.value ∙ units) i)) in
    built _ _ _ _ _ c.in_ok-file.ensures.items c.in_ok-append_header.ensures
    c.in_ok-extend_from_slice.ensures.items c.in_ok-append_to.ensures
    c.in_ok-extend_from_slice-2.ensures.items c.in_ok-extend_from_slice-3.ensures.items
    ∙ (λ i. header_of (cond (c.is_third.ensures i) 3 2)
    ++ ((c.to_le_bytes.ensures i ++ words (index_words c.index_of-index.result))
    ++ ((c.deref-3.ensures.value ∙ keys) i ++ (c.deref-4.ensures.value ∙ units) i)))
    ∙ (λ i. header_of (version_of c.args.packing us) ++ (words (index i)
    ++ (padded (key_bytes (nows c.args.keys.now)) ++ units_as_bytes (even us))))

pub returns-clause-checksum_fits : goal.returns-clause-checksum_fits
returns-clause-checksum_fits c =
    let us = c.args.units.now in
    subst (λ n. n < 2 ^ 32)
    (λ i. blocks_checksum ((c.deref.ensures.value ∙ c.in_ok-key_bytes.ensures) i)
    (units_are us c.deref-2.result.now c.in_ok-unit_bytes.ensures.fits
    (c.deref-2.ensures.value ∙ c.in_ok-unit_bytes.ensures.block) i))
    c.index_of-index.ensures.fits
