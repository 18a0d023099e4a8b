-- What was found and what is open behind a byte are those of the next place.
use Rattle.std.proofs.Common.{rules, ◌∙◌, ap, arith}
use Rattle.std.specs.Prelude.{slice_index}
use Rattle.resb_diagnostics.specs.Clues as clues
use Rattle.resb_diagnostics.proofs.CluesLemmas.{first_on, indent_on, indents_on, outdent_by}
use Rattle.resb_diagnostics.proofs.CluesLemmas.{outdent_on}
use Rattle.resb_diagnostics.proofs.clues.outdent.Goals as goal

pub bytes-preserved : goal.bytes-preserved
bytes-preserved g c =
    let f = g.M.Modes.form in
    let inv = c.bytes.invariant in
    let text = c.args.text.now in
    let at = c.bytes.at in
    let b = slice_index text at in
    let tokens = c.has_tokens-has_tokens.ensures ∙ ap f.has_tokens inv.0 in (
      search rules,
      c.behind-line.ensures.is_first ∙ ap (λ x. clues.first_behind b x) inv.1 ∙ first_on text at,
      c.behind-line.ensures.indent
          ∙ ap (λ x. clues.indent_behind b x c.bytes.line.indent) inv.1
          ∙ ap (λ i. clues.indent_behind b (clues.is_first text at) i) inv.2 ∙ indent_on text at,
      omega (arith, c.behind-line.ensures.grows, inv.3),
      indents_on f text at _ _ _ _ tokens inv.2 inv.4 c.in_ok-open_behind.ensures,
      outdent_on f text at _ _ _
          (outdent_by f text at _ _ _ _ _ tokens inv.1 inv.2 (c.as_slice.ensures.value ∙ inv.4)
          c.is_outdent-is_one.ensures) inv.5 c.first_of-found.ensures,
    )
