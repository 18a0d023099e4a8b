-- The lines of warnings, one by one, and whether they are over a limit.
use Rattle.std.proofs.Common.{◌≡◌, ℕ, zero, suc, true, List, [], ◌∷◌, refl, ap, sym, ◌∙◌}
use Rattle.std.proofs.Common.{◌+◌, ◌<◌, ◌≤◌, ◌++◌, length, arith, take, get_or, min}
use Rattle.std.specs.Prelude.{Option, Some, None}
use Rattle.std.proofs.lemmas.Bool.{ltb-true, lt-ltb}
use Rattle.std.proofs.lemmas.List.{take_more, flat_map_more, length-append}
use Rattle.resb_diagnostics.specs.Location.{line_at, column_at}
use Rattle.resb_diagnostics.specs.Told.{is_over, line_of, warning_line, warning_lines}
use Rattle.resb_diagnostics.specs.declared.warning.Warning.{Warning}

-- the line that was appended is that of the warning
pub is_line : (places text : List ℕ) (w : Warning) (line column : ℕ) → places ≡ text
    → line ≡ line_at places (min w.place (length places))
    → column ≡ column_at places (min w.place (length places))
    → line_of line column w.reason ≡ warning_line text w
is_line places text w line column is l c = rw (l, c, is) refl

-- what is over the limit stays so with more
over_longer : (limit : Option ℕ) (m n : ℕ) → m ≤ n → is_over limit m ≡ true
    → is_over limit n ≡ true
over_longer None m n le h = h
over_longer (Some most) m n le h = lt-ltb most n (omega (arith, ltb-true most m h, le))

module _ (text : List ℕ) where
  -- the first of the lines are no longer than all
  front : (ws : List Warning) (n : ℕ)
      → length (warning_lines text (take n ws)) ≤ length (warning_lines text ws)
  front [] zero = omega arith
  front [] (suc n) = omega arith
  front (w ∷ ws) zero = omega arith
  front (w ∷ ws) (suc n) =
      omega (
        arith,
        front ws n,
        length-append (warning_line text w) (warning_lines text (take n ws)),
        length-append (warning_line text w) (warning_lines text ws),
      )

  module _ (ws : List Warning) (i : ℕ) (d : Warning) (lt : i < length ws) (out new : List ℕ)
      (so : out ≡ warning_lines text (take i ws))
      (is : new ≡ out ++ warning_line text (get_or ws i d)) where
    -- one line more
    pub one_more : new ≡ warning_lines text (take (i + 1) ws)
    one_more =
        is ∙ ap (λ l. l ++ warning_line text (get_or ws i d)) so
        ∙ flat_map_more (warning_line text) [] (take i ws) (get_or ws i d)
        ∙ ap (warning_lines text) (sym (take_more ws i d lt))

    -- and where the lines so far are over the limit, all are
    pub over : (limit : Option ℕ) → is_over limit (length new) ≡ true
        → is_over limit (length (warning_lines text ws)) ≡ true
    over limit h =
        over_longer limit (length new) (length (warning_lines text ws))
        (omega (arith, front ws (i + 1), ap length one_more)) h
