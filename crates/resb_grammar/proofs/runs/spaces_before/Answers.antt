-- The mask of the places where no space stands.
use Rattle.std.proofs.Common.{◌≡◌, ℕ, true, false, eqb, not, sym, ap, ◌∙◌, arith, w8}
use Rattle.std.proofs.lemmas.Bool.{eqb-true, not-false}
use Rattle.std.proofs.lemmas.Simd.{length-chunk, bitmask_splat, trailing_mask_l}
use Rattle.std.proofs.lemmas.Simd.{none_from_empty_mask, run_in_chunk_le, run_in_chunk_fails}
use lib.Count.{count_trailing_zeros}
use lib.Lanes.{chunk}
use Rattle.resb_grammar.specs.ByteRuns.{is_white}
use Rattle.resb_grammar.proofs.runs.spaces_before.Goals as goal

-- a byte that is not another than a space is white
white : (b : ℕ) → not (eqb b 32) ≡ false → is_white b ≡ true
white b h = let e : b ≡ 32 = eqb-true _ _ (not-false _ h) in ap is_white e

pub returns-then-places-eq0-clause-each : goal.returns-then-places-eq0-clause-each
returns-then-places-eq0-clause-each c =
    let xs = c.args.bytes.now in
    let v = chunk c.args.from 16 xs in
    let long = length-chunk c.args.from 16 xs c.requires in
    let mask = bitmask_splat w8 (λ a b. not (eqb a b)) v 16 32 long (omega arith) in
    λ k low high. white _
    (none_from_empty_mask (λ x. not (eqb x 32)) xs c.args.from 16 0 c.requires
    (sym mask ∙ c.if-places-eq0.true) k low high)

pub returns-else-places-eq0 : goal.returns-else-places-eq0
returns-else-places-eq0 c =
    let xs = c.args.bytes.now in
    let v = chunk c.args.from 16 xs in
    let long = length-chunk c.args.from 16 xs c.requires in
    let test = λ (x : ℕ). not (eqb x 32) in
    let mask = bitmask_splat w8 (λ a b. not (eqb a b)) v 16 32 long (omega arith) in
    let counted = ap (count_trailing_zeros 64) mask
    ∙ trailing_mask_l test 64 v (omega arith) (omega arith) in
    record {
      few = run_in_chunk_le test xs c.args.from 16 _ 0 c.requires counted;
      each = λ k low high. white _
          (run_in_chunk_fails test xs c.args.from 16 _ 0 c.requires counted k low high);
    }
