-- Each refusal is that of the first check that fails.
use Rattle.std.proofs.Common.{◌*◌, ◌<◌, ◌≤◌, length, min, arith}
use Rattle.resb_head.proofs.IndexSteps.{no_count, small_count, field_past_end, index_holds}
use Rattle.resb_head.proofs.index.BinIndexTryFromRefSliceU8.try_from.Goals as goal

pub returns-then-bytes-lt4 : goal.returns-then-bytes-lt4
returns-then-bytes-lt4 c =
    no_count c.args.bytes.now c.end_of_input.result c.if-bytes-lt4.true c.end_of_input.ensures

pub returns-then-field_count-lt5 : goal.returns-then-field_count-lt5
returns-then-field_count-lt5 c =
    small_count c.args.bytes.now c.word_at-field_count.result
    c.invalid_data.result c.word_at-field_count.ensures
    c.if-bytes-lt4.false c.if-field_count-lt5.true c.invalid_data.ensures

pub returns-then-bytes-min : goal.returns-then-bytes-min
returns-then-bytes-min c =
    let l : length c.args.bytes.now < 4 * min c.word_at-field_count.result 8 =
    omega (arith, c.min.ensures, c.if-bytes-min.true) in
    field_past_end c.args.bytes.now c.word_at-field_count.result
    c.end_of_input-then-bytes-min.result
    c.word_at-field_count.ensures c.if-bytes-lt4.false c.if-field_count-lt5.false l
    c.end_of_input-then-bytes-min.ensures

pub returns : goal.returns
returns c =
    let l : 4 * min c.word_at-field_count.result 8 ≤ length c.args.bytes.now =
    omega (arith, c.min.ensures, c.if-bytes-min.false) in (
      index_holds c.args.bytes.now c.word_at-field_count.result c.word_at-field_count.ensures
          c.if-bytes-lt4.false c.if-field_count-lt5.false l,
      record {
        field_count = c.word_at-field_count.ensures;
        keys_end = c.word_at.ensures;
        resources_end = c.word_at-2.ensures;
        bundle_end = c.word_at-3.ensures;
        largest_table_entry_count = c.word_at-4.ensures;
        bundle_attributes = c.field.ensures;
        data_16_bit_end = c.field-2.ensures;
        pool_checksum = c.field-3.ensures;
        inside = l;
      },
    )
