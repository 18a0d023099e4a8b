use Rattle.std.proofs.Common.{rules, ◌≡◌, [], sym, ◌∙◌, ap, length, length-append, arith}
use Rattle.std.specs.Char.{IsScalar}
use Rattle.std.specs.List.{flat_map}
use Rattle.std.specs.Str.Iter.{chars_rest}
use Rattle.std.proofs.lemmas.Option.{MatchOption-at_none}
use Rattle.resb_pool.specs.Inner.Suffixes.{char_digits, digits_backwards, key_of_digits}
use Rattle.resb_pool.proofs.Ends.{last_taken, none_left}
use Rattle.resb_pool.proofs.suffix_order.chars_end_key.Goals.{After-with_end}
use Rattle.resb_pool.proofs.suffix_order.chars_end_key.Goals as goal

pub digits-preserved : goal.digits-preserved
digits-preserved c =
    let x = chars_rest c.digits.chars in
    let z = chars_rest c.next_back.new.self in
    let f = c.digits.key in
    let v = c.digits.invariant in
    let s : IsScalar c.in-Some.c = search rules in
    let t = last_taken x z c.in-Some.c v.utf8 c.in-Some.ensures.steps s in
    record {
      utf8 = t.0;
      part = c.with_char-key.ensures.part;
      left = omega (
        arith,
        c.with_char-key.ensures.left,
        v.left,
        length-append (char_digits c.in-Some.c) (digits_backwards z),
        ap (λ cs. length (flat_map char_digits cs)) t.1,
      );
      same = c.with_char-key.ensures.same (digits_backwards z)
          ∙ ap (λ cs. key_of_digits f.number f.left (flat_map char_digits cs)) (sym t.1) ∙ v.same;
    }

ended : (c : After-with_end) → digits_backwards (chars_rest c.digits.chars) ≡ []
ended c = ap (flat_map char_digits) (none_left (chars_rest c.digits.chars)
    (MatchOption-at_none _ _ c.in_default.is c.next_back.ensures.steps).0)

pub returns-in_default-clause-number : goal.returns-in_default-clause-number
returns-in_default-clause-number c =
    let k = c.digits.key in
    c.with_end.ensures.number ∙ ap (key_of_digits k.number k.left) (sym (ended c))
    ∙ c.digits.invariant.same

pub returns-in_default-clause-left : goal.returns-in_default-clause-left
returns-in_default-clause-left c =
    omega (arith, c.with_end.ensures.left, c.digits.invariant.left, ap length (ended c))
