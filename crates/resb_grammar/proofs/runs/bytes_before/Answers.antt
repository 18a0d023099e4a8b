-- The mask of the places where the byte stands.
use Rattle.std.proofs.Common.{ℕ, eqb, sym, ap, ◌∙◌, arith, w8}
use Rattle.std.proofs.lemmas.Bool.{eqb-true, eqb-false}
use Rattle.std.proofs.lemmas.Simd.{length-chunk, bitmask_splat, trailing_mask_l}
use Rattle.std.proofs.lemmas.Simd.{none_from_empty_mask, run_in_chunk_le, run_in_chunk_fails}
use Rattle.std.proofs.lemmas.Simd.{run_in_chunk_stops}
use lib.Count.{count_trailing_zeros}
use lib.Lanes.{chunk}
use Rattle.resb_grammar.proofs.runs.bytes_before.Goals as goal

pub returns-then-places-eq0-clause-before : goal.returns-then-places-eq0-clause-before
returns-then-places-eq0-clause-before c =
    let xs = c.args.bytes.now in
    let v = chunk c.args.from 16 xs in
    let long = length-chunk c.args.from 16 xs c.requires in
    let mask = bitmask_splat w8 eqb v 16 c.args.byte long (omega arith) in
    λ k low high is. eqb-false _ _
    (none_from_empty_mask (λ x. eqb x c.args.byte) xs c.args.from 16 0 c.requires
    (sym mask ∙ c.if-places-eq0.true) k low high) is

pub returns-else-places-eq0 : goal.returns-else-places-eq0
returns-else-places-eq0 c =
    let xs = c.args.bytes.now in
    let v = chunk c.args.from 16 xs in
    let long = length-chunk c.args.from 16 xs c.requires in
    let test = λ (x : ℕ). eqb x c.args.byte in
    let mask = bitmask_splat w8 eqb v 16 c.args.byte long (omega arith) in
    let counted = ap (count_trailing_zeros 64) mask
    ∙ trailing_mask_l test 64 v (omega arith) (omega arith) in
    record {
      few = run_in_chunk_le test xs c.args.from 16 _ 0 c.requires counted;
      before = λ k low high is. eqb-false _ _
          (run_in_chunk_fails test xs c.args.from 16 _ 0 c.requires counted k low high) is;
      stands = λ lt. eqb-true _ _
          (run_in_chunk_stops test xs c.args.from 16 _ 0 c.requires counted lt);
    }
