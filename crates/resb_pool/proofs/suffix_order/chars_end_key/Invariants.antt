use Rattle.std.proofs.Common.{◌≡◌, ◌-◌, length}
use Rattle.std.specs.Str.{IsUtf8}
use Rattle.std.specs.Str.Iter.{chars_rest}
use Rattle.resb_pool.specs.Inner.Suffixes.{digits_backwards, key_of_digits, IsPart}
use Rattle.resb_pool.proofs.suffix_order.chars_end_key.Given as goal

abbrev pub invariant-digits : goal.invariant-digits
invariant-digits l = record {
  utf8 : IsUtf8 (chars_rest l.chars);
  part : IsPart l.key;
  same : key_of_digits l.key.number l.key.left (digits_backwards (chars_rest l.chars))
      ≡ key_of_digits 0 16 (digits_backwards l.text);
  left : l.key.left - length (digits_backwards (chars_rest l.chars))
      ≡ 16 - length (digits_backwards l.text);
}

abbrev pub decreases-digits : goal.decreases-digits
decreases-digits l = l.key.left
