use Rattle.std.proofs.Common.{◌≡◌, [], ◌∷◌, ◌<◌, sym, ◌∙◌, ap, length, arith}
use Rattle.std.specs.List.{flat_map}
use Rattle.std.proofs.lemmas.Option.{MatchOption-at_none}
use Rattle.resb_pool.specs.Inner.Cuts.{chars_backwards}
use Rattle.resb_pool.specs.Inner.Suffixes.{char_digits, digits_backwards, key_of_digits}
use Rattle.resb_pool.proofs.Digits.{ascii_more}
use Rattle.resb_pool.proofs.Ends.{ascii_taken, none_left}
use Rattle.resb_pool.proofs.suffix_order.ascii_end_key.Goals as goal

pub digits-preserved : goal.digits-preserved
digits-preserved c =
    let x = c.digits.bytes.now in
    let z = c.in-Some.rest.now in
    let b = c.in-Some.byte.now in
    let f = c.digits.key in
    let v = c.digits.invariant in
    let small : b < 128 = omega (arith, c.if-byte-gt-ASCII.false) in
    let t = ascii_taken x z b v.utf8 c.in-Some.ensures.cases.0 small in
    let more : digits_backwards x ≡ b ∷ digits_backwards z =
    ascii_more b (chars_backwards x) (chars_backwards z) small t.1 in
    record {
      utf8 = t.0;
      part = c.with_digit-key.ensures.part;
      left = omega (arith, c.with_digit-key.ensures.left, v.left, ap length more);
      same = c.with_digit-key.ensures.same (digits_backwards z)
          ∙ ap (λ d. key_of_digits f.number f.left (d ∷ digits_backwards z)) c.from.ensures
          ∙ ap (key_of_digits f.number f.left) (sym more) ∙ v.same;
    }

pub returns-in_default : goal.returns-in_default
returns-in_default c =
    let k = c.digits.key in
    let none : digits_backwards c.digits.bytes.now ≡ [] =
    ap (flat_map char_digits) (none_left c.digits.bytes.now
    (MatchOption-at_none _ _ c.in_default.is c.split_last.ensures.cases)) in (
      c.with_end.ensures.number ∙ ap (key_of_digits k.number k.left) (sym none)
          ∙ c.digits.invariant.same,
      omega (arith, c.with_end.ensures.left, c.digits.invariant.left, ap length none),
    )
