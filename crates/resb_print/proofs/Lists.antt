-- Lists, texts and numbers: what names no word of this project.
use Rattle.std.proofs.Common.{◌≡◌, ℕ, ◌+◌, ◌-◌, ◌<◌, List, drop, ◌∙◌}
use Rattle.std.specs.Prelude.{slice_index, slice_range}
use Rattle.std.proofs.lemmas.List.{get_or-take, get_or-drop}
use Rattle.std.proofs.Common.{◌++◌, ap, append_assoc}
use Rattle.std.specs.String.{string_bytes}
use Rattle.std.specs.declared.alloc.Global.{Global}
use Rattle.std.specs.declared.string.String.{String}
use Rattle.std.proofs.Common.{false, arith}
use Rattle.std.specs.Prelude.{◌==◌}
use Rattle.std.proofs.lemmas.Bool.Decides.{nat_tests}
use Rattle.std.proofs.Common.{◌^◌, ◌≤◌, length}
use Rattle.std.specs.Prelude.{decimal}
use Rattle.std.proofs.lemmas.Fmt.{length-decimal-le}
use Rattle.std.proofs.lemmas.List.{length-append}

-- a part of a text
pub part_at : (text : List ℕ) (from to k : ℕ) → k < to - from
    → slice_index (slice_range text from to) k ≡ slice_index text (from + k)
part_at text from to k l =
    get_or-take (to - from) (drop from text) k 0 l ∙ get_or-drop from text k 0

-- bytes that were written stand between what was there before and what comes
pub writes_bytes : (old new : String Global) (w : List ℕ) → string_bytes new ≡ string_bytes old ++ w
    → (rest : List ℕ) → string_bytes new ++ rest ≡ string_bytes old ++ (w ++ rest)
writes_bytes old new w e rest = ap (λ l. l ++ rest) e ∙ append_assoc (string_bytes old) w rest

-- a number that is not 0 is positive
pub not_empty : (n : ℕ) → (n == 0) ≡ false → 0 < n
not_empty n h = grind (arith, nat_tests)

-- a number of 32 bits has 10 digits at most
pub digits_length : (n : ℕ) → n < 2 ^ 32 → length (decimal n) ≤ 10
digits_length n h = length-decimal-le 10 n (omega arith) (omega arith) (omega arith)

-- behind a number of 32 bits, which takes 10 digits at most
pub number_length : (n : ℕ) (rest : List ℕ) → n < 2 ^ 32
    → length (decimal n ++ rest) ≤ 10 + length rest
number_length n rest h = omega (arith, length-append (decimal n) rest, digits_length n h)
