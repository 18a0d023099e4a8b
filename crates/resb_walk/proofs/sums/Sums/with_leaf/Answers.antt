use Rattle.std.proofs.Common.{refl, sym, length, arith, ◌/◌, ◌≡◌}
use Rattle.std.specs.Prelude.{sum_by}
use Rattle.resb_format.specs.Bytes.{words_of}
use Rattle.resb_format.proofs.Spelled.{words_length}
use Rattle.resb_tree.specs.Tree.{binary, int_vector}
use Rattle.resb_walk.specs.Inner.Members.{text_of_bytes}
use Rattle.resb_walk.specs.Pieces.{leaf_piece}
use Rattle.resb_walk.specs.Sums.{table_count_in, entry_count_in, key_bytes_in, text_bytes_in}
use Rattle.resb_walk.specs.Sums.{binary_bytes_in, number_count_in}
use Rattle.resb_walk.proofs.SumsLemmas.{more_sum, same_sum}
use Rattle.resb_walk.proofs.sums.Sums.with_leaf.Goals as goal

pub returns-in-Binary : goal.returns-in-Binary
returns-in-Binary c xs h =
    let bs = c.in-Binary.bytes.now in
    let x = leaf_piece (binary bs) in
    rw c.in-Binary.is (record {
      tables = same_sum table_count_in xs x _ refl h.tables;
      entries = same_sum entry_count_in xs x _ refl h.entries;
      key_bytes = same_sum key_bytes_in xs x _ refl h.key_bytes;
      text_bytes = same_sum text_bytes_in xs x _ refl h.text_bytes;
      binary_bytes =
          more_sum binary_bytes_in xs x (length bs) _ refl
          (c.plus.ensures (sum_by binary_bytes_in xs) h.binary_bytes);
      numbers = same_sum number_count_in xs x _ refl h.numbers;
    })

pub returns-in-Numbers : goal.returns-in-Numbers
returns-in-Numbers c xs h =
    let bs = c.in-Numbers.bytes.now in
    let x = leaf_piece (int_vector (words_of bs)) in
    let len : length (words_of bs) ≡ length bs / 4 = omega (arith, words_length bs) in
    rw c.in-Numbers.is (record {
      tables = same_sum table_count_in xs x _ refl h.tables;
      entries = same_sum entry_count_in xs x _ refl h.entries;
      key_bytes = same_sum key_bytes_in xs x _ refl h.key_bytes;
      text_bytes = same_sum text_bytes_in xs x _ refl h.text_bytes;
      binary_bytes = same_sum binary_bytes_in xs x _ refl h.binary_bytes;
      numbers =
          more_sum number_count_in xs x (length bs / 4) _ len
          (c.plus-in-Numbers.ensures (sum_by number_count_in xs) h.numbers);
    })

pub returns-in-Text : goal.returns-in-Text
returns-in-Text c xs h = rw c.in-Text.is (c.with_text.ensures.a_string xs
    (text_of_bytes c.in-Text.units.now) h (sym c.text_len.ensures))

pub returns-in-Alias : goal.returns-in-Alias
returns-in-Alias c xs h = rw c.in-Alias.is (c.with_text-in-Alias.ensures.an_alias xs
    (text_of_bytes c.in-Alias.path.now) h (sym c.text_len-in-Alias.ensures))
