use Rattle.std.proofs.Common.{refl}
use Rattle.std.specs.Prelude.{sum_by}
use Rattle.resb_walk.specs.Pieces.{key_piece}
use Rattle.resb_walk.specs.Sums.{table_count_in, entry_count_in, key_bytes_in, text_bytes_in}
use Rattle.resb_walk.specs.Sums.{binary_bytes_in, number_count_in}
use Rattle.resb_walk.proofs.SumsLemmas.{more_sum, same_sum}
use Rattle.resb_walk.proofs.sums.Sums.with_key.Goals as goal

pub returns : goal.returns
returns c xs k h len =
    let x = key_piece k in record {
      tables = same_sum table_count_in xs x _ refl h.tables;
      entries =
          more_sum entry_count_in xs x 1 _ refl
          (c.plus.ensures (sum_by entry_count_in xs) h.entries);
      key_bytes =
          more_sum key_bytes_in xs x c.args.len _ len
          (c.plus-2.ensures (sum_by key_bytes_in xs) h.key_bytes);
      text_bytes = same_sum text_bytes_in xs x _ refl h.text_bytes;
      binary_bytes = same_sum binary_bytes_in xs x _ refl h.binary_bytes;
      numbers = same_sum number_count_in xs x _ refl h.numbers;
    }
