use Rattle.std.proofs.Common.{◌≡◌, true, take}
use Rattle.resb_icu_text.specs.Inner.Digits.{are_digits}
use Rattle.resb_icu_text.proofs.digits.are_hex.Given as goal

abbrev pub invariant-loop-b : goal.invariant-loop-b
invariant-loop-b l = record { all : are_digits (take l.b-index l.bytes) ≡ true }
