-- A word, by what stands before it.
use Rattle.std.proofs.Common.{◌≡◌, ◌∙◌, [], Some, Bool, sym, ap, subst}
use Rattle.std.specs.Prelude.{slice_range, if◌then◌else◌}
use Rattle.resb_diagnostics.specs.Pieces.{TextPiece, a_type, a_string, bytes_placed, word_from}
use Rattle.resb_diagnostics.specs.Inner.Looks.{text_piece_of}
use Rattle.resb_diagnostics.specs.Inner.Tokens.{GoesOn}
use Rattle.resb_diagnostics.proofs.TokenRuns.{word_goes_on, some_word}
use Rattle.resb_diagnostics.proofs.text_pieces.word.Goals as goal
use Rattle.resb_diagnostics.proofs.text_pieces.word.Goals.{then-is_behind, else-is_behind}

pub returns : goal.returns
returns c =
    let text = c.args.text.now in
    let at = c.args.at in
    let to = c.word_end-end.result in
    let run = c.word_end-end.ensures in
    let goes = word_goes_on text at to c.requires.between (some_word text at to run c.requires.word)
    run in
    let chosen : Bool → TextPiece = (λ b. if b then a_type (slice_range text at to)
    else a_string (bytes_placed (slice_range text at to) at)) in
    let piece : word_from text at to ≡ text_piece_of c.if-is_behind.piece =
    elim c.if-is_behind.branch [
      | then-is_behind w ↦
          ap chosen (sym c.is_behind.ensures ∙ w.if-is_behind.true)
          ∙ sym (ap text_piece_of w.piece-is)
      | else-is_behind w ↦
          ap chosen (sym c.is_behind.ensures ∙ w.if-is_behind.false)
          ∙ sym (ap text_piece_of w.piece-is)
    ] in
    subst (λ p. GoesOn text at to [] (Some p)) piece goes
