-- A pool at a worked example, as ICU's compiler writes it: that of the keys `alpha`, `beta` and
-- `gamma`, and of the text `one two three`.
use Rattle.std.proofs.Common.{ℕ, List, [], ◌∷◌, ◌++◌, ◌≡◌, refl, codes, arith, true, false, nat_lt}
use Rattle.std.proofs.Common.{Some, None, zero, suc, ◌+◌}
use Rattle.std.specs.List.{list_all}
use Rattle.std.specs.Str.{is_utf8, IsAscii, chars}
use Rattle.std.proofs.lemmas.Bool.{and_parts, ltb-true}
use Rattle.std.proofs.lemmas.Str.{is_utf8-from_IsUtf8, IsUtf8-from_ascii}
use Rattle.resb_format.specs.Strings.{key_at}
use Rattle.resb_format.specs.Units.{size}
use Rattle.resb_lent.specs.LentKeys.{StandsWhole, begins_key}
use Rattle.resb_lent.specs.LentTexts.{StandsAt, IsLentRecord, at_end}

-- bytes of ASCII alone are a text
each_below : (bs : List ℕ) → list_all (λ b. nat_lt b 128) bs ≡ true → IsAscii bs
each_below [] e i = omega arith
each_below (b ∷ bs) e zero = ltb-true b 128 (and_parts _ _ e).0
each_below (b ∷ bs) e (suc i) = each_below bs (and_parts _ _ e).1 i

ascii_text : (bs : List ℕ) → list_all (λ b. nat_lt b 128) bs ≡ true → is_utf8 bs ≡ true
ascii_text bs e = is_utf8-from_IsUtf8 bs (IsUtf8-from_ascii bs (each_below bs e))

keys : List ℕ
keys =
    codes "alpha" ++ 0 ∷ (codes "beta" ++ 0 ∷ (codes "gamma" ++ 0 ∷ 0xaa ∷ 0xaa ∷ 0xaa ∷ []))

first : StandsWhole keys (codes "alpha") 0
unfolding keys key_at
first = record {
  begins = refl;
  reads = rw (ascii_text (codes "alpha") refl) refl;
  near = omega arith;
}

second : StandsWhole keys (codes "beta") 6
unfolding keys key_at
second = record {
  begins = refl;
  reads = rw (ascii_text (codes "beta") refl) refl;
  near = omega arith;
}

third : StandsWhole keys (codes "gamma") 11
unfolding keys key_at
third = record {
  begins = refl;
  reads = rw (ascii_text (codes "gamma") refl) refl;
  near = omega arith;
}

-- `eta` stands at byte 7, but not whole
part : (key_at keys 7 ≡ Some (codes "eta")) × (begins_key keys 7 ≡ false)
unfolding keys key_at
part = (rw (ascii_text (codes "eta") refl) refl, refl)

-- what fills the last word is no key
filling : (begins_key keys 17 ≡ true) × (key_at keys 17 ≡ None)
unfolding keys key_at
filling = (refl, refl)

block : List ℕ
block = 0 ∷ (codes "one two three" ++ 0 ∷ 0xaaaa ∷ [])

record_stands : StandsAt block 1 (codes "one two three")
unfolding block chars lib.Utf8.encode
record_stands = record {
  utf8 = IsUtf8-from_ascii (codes "one two three") (each_below (codes "one two three") refl);
  stands = refl;
  near = let l : size (codes "one two three") ≡ 14 = refl in omega (arith, l);
}

lent : IsLentRecord block (codes "one two three") 1
unfolding block
lent = record { begins = refl; reached = at_end; stands = record_stands }

-- so `three` has index 9, and `two three` index 5
three : 9 + size (codes "three") ≡ 1 + size (codes "one two three")
unfolding chars
three = refl

two_three : 5 + size (codes "two three") ≡ 1 + size (codes "one two three")
unfolding chars
two_three = refl
