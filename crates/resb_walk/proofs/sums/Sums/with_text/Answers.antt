use Rattle.std.proofs.Common.{refl}
use Rattle.std.specs.Prelude.{sum_by}
use Rattle.resb_tree.specs.Tree.{string, alias}
use Rattle.resb_walk.specs.Pieces.{leaf_piece}
use Rattle.resb_walk.specs.Sums.{table_count_in, entry_count_in, key_bytes_in, text_bytes_in}
use Rattle.resb_walk.specs.Sums.{binary_bytes_in, number_count_in}
use Rattle.resb_walk.proofs.SumsLemmas.{more_sum, same_sum}
use Rattle.resb_walk.proofs.sums.Sums.with_text.Goals as goal

pub returns-clause-a_string : goal.returns-clause-a_string
returns-clause-a_string c xs s h len =
    let x = leaf_piece (string s) in record {
      tables = same_sum table_count_in xs x _ refl h.tables;
      entries = same_sum entry_count_in xs x _ refl h.entries;
      key_bytes = same_sum key_bytes_in xs x _ refl h.key_bytes;
      text_bytes =
          more_sum text_bytes_in xs x c.args.len _ len
          (c.plus.ensures (sum_by text_bytes_in xs) h.text_bytes);
      binary_bytes = same_sum binary_bytes_in xs x _ refl h.binary_bytes;
      numbers = same_sum number_count_in xs x _ refl h.numbers;
    }

pub returns-clause-an_alias : goal.returns-clause-an_alias
returns-clause-an_alias c xs s h len =
    let x = leaf_piece (alias s) in record {
      tables = same_sum table_count_in xs x _ refl h.tables;
      entries = same_sum entry_count_in xs x _ refl h.entries;
      key_bytes = same_sum key_bytes_in xs x _ refl h.key_bytes;
      text_bytes =
          more_sum text_bytes_in xs x c.args.len _ len
          (c.plus.ensures (sum_by text_bytes_in xs) h.text_bytes);
      binary_bytes = same_sum binary_bytes_in xs x _ refl h.binary_bytes;
      numbers = same_sum number_count_in xs x _ refl h.numbers;
    }
