-- The tail of a written file is the bodies of its tree, one right behind another.
use Rattle.std.proofs.Common.{◌≡◌, ◌+◌, ◌*◌, ◌%◌, [], length, drop, sym, ap, ◌∙◌}
use Rattle.std.proofs.Common.{subst, arith, None}
use Rattle.resb_tree.specs.LayingOrder.{laying_order}
use Rattle.resb_head.specs.File.{body_of, block_end}
use Rattle.resb_layout.specs.Laid.{Laid, Given, here}
use Rattle.resb_format.specs.Bytes.{units_as_bytes}
use Rattle.resb_layout.specs.InOrder.{FillsTail}
use Rattle.resb_layout.proofs.BytesLemmas.{halves_len}
use Rattle.resb_layout.proofs.InOrderLemmas.{laid_in_order}
use Rattle.resb_layout.specs.KeyBlock.{keys_start}
use Rattle.resb_layout.specs.CompactKeys.{key_block_by, key_position_by}
use Rattle.resb_layout.specs.Written.{even, tail_start}
use Rattle.resb_write.specs.Laws.{WrittenInOrder}
use Rattle.resb_write.proofs.Lists.{drop_two}

pub written_in_order : WrittenInOrder
written_in_order q bytes t fallback ks w =
    let b = w.blocks in
    let keys = key_block_by q t ks in
    let base = tail_start keys b.laid in
    let g : Given = record {
      position = key_position_by q t ks;
      offset = b.offset;
      base = base;
      packing = q;
    } in
    let s : Laid = record { units = b.pool; tail = [] } in
    let begins : here g s ≡ 4 * block_end bytes = omega (arith, w.block_end) in
    let word : here g s % 4 ≡ 0 = omega (arith, begins) in
    let h = laid_in_order None g s b.laid t b.root word b.lays in
    let long : base ≡ keys_start + length keys + length (units_as_bytes (even b.laid.units)) =
    omega (arith, halves_len (even b.laid.units)) in
    let behind : drop (4 * block_end bytes) (body_of bytes) ≡ b.laid.tail =
    ap (λ n. drop n (body_of bytes)) (w.block_end ∙ long)
    ∙ drop_two keys_start (body_of bytes) keys
    (units_as_bytes (even b.laid.units)) b.laid.tail w.body in
    record {
      tail = subst (λ n. FillsTail n (laying_order t) (drop (4 * block_end bytes) (body_of bytes)))
          begins
          (subst (λ bs. FillsTail (here g s) (laying_order t) bs) (sym (behind
          ∙ h.bytes_are)) h.tail);
      short = h.units;
      units = h.units_are;
      block = h.block;
    }
