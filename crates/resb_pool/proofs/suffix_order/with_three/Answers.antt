use Rattle.std.proofs.Common.{◌≡◌, ◌+◌, ◌-◌, ◌*◌, ◌/◌, ◌%◌, ◌^◌, ◌∷◌, ◌++◌, ◌<◌, ◌≤◌, ℕ, List}
use Rattle.std.proofs.Common.{sym, ◌∙◌, ap, subst, arith}
use Rattle.resb_pool.specs.Inner.Suffixes.{key_of_digits, digits_bound}
use Rattle.resb_pool.proofs.Digits.{other_digits}
use Rattle.resb_pool.proofs.EndKeys.{bound_fits, bound_more, next_digit}
use Rattle.resb_pool.proofs.suffix_order.with_three.Goals as goal

-- three digits more, one by one
module _ (n left code : ℕ) (some : 3 ≤ left) (most : left ≤ 16) (small : n < digits_bound (16 - left))
    (within : code < 0x11_0000) where
  abbrev x : ℕ
  x = 0x80 + code / 0x4000

  abbrev y : ℕ
  y = code / 0x80 % 0x80

  abbrev z : ℕ
  z = code % 0x80

  abbrev all : ℕ
  all = ((n * 256 + x) * 256 + y) * 256 + z

  one : n * 256 + x < digits_bound (16 - (left - 1))
  one = bound_more left n x (omega (arith, some)) most small (omega (arith, within))

  two : (n * 256 + x) * 256 + y < digits_bound (16 - (left - 1 - 1))
  two = bound_more (left - 1) (n * 256 + x) y (omega (arith, some)) (omega (arith, most)) one
      (omega arith)

  at_once : n * 0x100_0000 + (x * 0x1_0000 + y * 0x100 + z) ≡ all
  at_once = omega arith

  part : all < digits_bound (16 - (left - 3))
  part =
      let e : left - 1 - 1 - 1 ≡ left - 3 = omega arith in
      subst (λ k. all < digits_bound (16 - k)) e
      (bound_more (left - 1 - 1) ((n * 256 + x) * 256 + y) z (omega (arith, some))
      (omega (arith, most)) two (omega arith))

  fits : all < 2 ^ 128
  fits =
      let f = bound_fits (16 - (left - 1 - 1)) (omega (arith, some, most)) in
      omega (arith, two, f)

  same : (ds : List ℕ) → key_of_digits all (left - 3) ds
      ≡ key_of_digits n left (x ∷ y ∷ z ∷ ds)
  same ds =
      let e : left - 3 ≡ left - 1 - 1 - 1 = omega arith in
      ap (λ k. key_of_digits all k ds) e
      ∙ next_digit (left - 1 - 1) ((n * 256 + x) * 256 + y) z ds (omega (arith, some))
      ∙ next_digit (left - 1) (n * 256 + x) y (z ∷ ds) (omega (arith, some))
      ∙ next_digit left n x (y ∷ z ∷ ds) (omega (arith, some))

pub overflow_mul-result : goal.overflow_mul-result
overflow_mul-result c =
    let k = c.args.key in
    let p = c.requires.part in
    omega (
      arith,
      fits k.number k.left c.args.code c.requires.left p.most p.small c.requires.small,
    )

pub overflow_add-result : goal.overflow_add-result
overflow_add-result c =
    let k = c.args.key in
    let p = c.requires.part in
    omega (
      arith,
      fits k.number k.left c.args.code c.requires.left p.most p.small c.requires.small,
      c.from.ensures,
    )

pub returns-clause-part : goal.returns-clause-part
returns-clause-part c =
    let k = c.args.key in
    let p = c.requires.part in
    record {
      most = omega (arith, p.most);
      small = omega (
        arith,
        part k.number k.left c.args.code c.requires.left p.most p.small c.requires.small,
        c.from.ensures,
      );
    }

pub returns-clause-same : goal.returns-clause-same
returns-clause-same c = λ ds.
    let k = c.args.key in
    let p = c.requires.part in
    let code = c.args.code in
    let sum : k.number * 0x100_0000 + c.from.result ≡ all k.number k.left code c.requires.left p.most
    p.small c.requires.small = omega (arith, c.from.ensures) in
    ap (λ m. key_of_digits m (k.left - 3) ds) sum
    ∙ same k.number k.left code c.requires.left p.most p.small c.requires.small ds
    ∙ ap (λ l. key_of_digits k.number k.left (l ++ ds)) (sym (other_digits code c.requires.code))
