use Rattle.std.proofs.Common.{◌≡◌, ◌-◌, length}
use Rattle.std.specs.Str.{IsUtf8}
use Rattle.resb_pool.specs.Inner.Suffixes.{digits_backwards, key_of_digits, IsPart}
use Rattle.resb_pool.proofs.suffix_order.ascii_end_key.Given as goal

abbrev pub invariant-digits : goal.invariant-digits
invariant-digits l = record {
  utf8 : IsUtf8 l.bytes;
  part : IsPart l.key;
  same : key_of_digits l.key.number l.key.left (digits_backwards l.bytes)
      ≡ key_of_digits 0 16 (digits_backwards l.text);
  left : l.key.left - length (digits_backwards l.bytes)
      ≡ 16 - length (digits_backwards l.text);
}

abbrev pub decreases-digits : goal.decreases-digits
decreases-digits l = l.key.left
