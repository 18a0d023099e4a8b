use Rattle.std.proofs.Common.{refl, List, ◌≡◌, [], ◌∷◌, length, sym, ◌∙◌}
use Rattle.std.specs.Prelude.{sum_by}
use Rattle.resb_walk.specs.Pieces.{table_piece, filled_table}
use Rattle.resb_walk.specs.Sums.{table_count_in, entry_count_in, key_bytes_in, text_bytes_in}
use Rattle.resb_walk.specs.Sums.{binary_bytes_in, number_count_in}
use Rattle.resb_walk.proofs.SumsLemmas.{more_sum, same_sum}
use Rattle.resb_walk.proofs.sums.Sums.with_table.Goals as goal

filled : {A : Type 0} (es : List A) → (length es ≡ 0 → ⊥) → table_piece es ≡ filled_table
filled [] h = absurd (h refl)
filled (e ∷ es) h = refl

pub returns : goal.returns
returns c xs es h len =
    let x = filled_table in
    rw (filled es (λ none. c.if-len-eq0.false (sym len ∙ none))) (record {
      tables = more_sum table_count_in xs x 1 _ refl
          (c.plus.ensures (sum_by table_count_in xs) h.tables);
      entries = same_sum entry_count_in xs x _ refl h.entries;
      key_bytes = same_sum key_bytes_in xs x _ refl h.key_bytes;
      text_bytes = same_sum text_bytes_in xs x _ refl h.text_bytes;
      binary_bytes = same_sum binary_bytes_in xs x _ refl h.binary_bytes;
      numbers = same_sum number_count_in xs x _ refl h.numbers;
    })
