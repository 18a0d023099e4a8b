use Rattle.std.proofs.Common.{subst}
use Rattle.resb_diagnostics.specs.Pieces.{piece_at}
use Rattle.resb_diagnostics.specs.IcuKeys.{icu_piece_at}
use Rattle.resb_diagnostics.specs.Items.{IsOpenAt}
use Rattle.resb_diagnostics.proofs.ItemsLemmas.{is_open, open_is, is_icu_open, icu_open_is}
use Rattle.resb_diagnostics.proofs.laws.knows_groups.Goals as goal

pub returns : goal.returns
returns c = record {
  plain = λ text n g.
      (λ e. subst (IsOpenAt (piece_at text) n) e (open_is text n), is_open text n g);
  icu = λ text n g.
      (λ e. subst (IsOpenAt (icu_piece_at text) n) e (icu_open_is text n), is_icu_open text n g);
}
