-- Where a string of the plain form is a cause.
use Rattle.std.specs.Prelude.{◌≡◌, ℕ, nat_eq, List, ◌∷◌, [], ◌||◌}
use Rattle.std.specs.Prelude.{Some, None, if◌then◌else◌}
use Rattle.std.specs.List.{list_any}
use Rattle.std.proofs.Common.{refl, ap, arith}
use Rattle.resb_print.specs.Paths.{plain_tests}
use Rattle.resb_print.specs.Quotes.{has_quote}
use Rattle.resb_print.specs.declared.cause.Cause.TheVariants.{QuoteInString}
use Rattle.resb_lines.specs.Causes.{IsCauseByItself}

-- a text has a quote exactly where one of its bytes is one
quote_is_listed : (s : List ℕ) → has_quote s ≡ list_any (λ b. nat_eq b 34) s
quote_is_listed [] = refl
quote_is_listed (b ∷ bs) = ap (λ r. nat_eq b 34 || r) (quote_is_listed bs)

-- so a string is a cause by its quotes
pub quotes_alone : IsCauseByItself plain_tests 34 QuoteInString
quotes_alone = record {
  small = omega arith;
  is = λ s. ap (λ b. if b then Some QuoteInString else None) (quote_is_listed s);
}
