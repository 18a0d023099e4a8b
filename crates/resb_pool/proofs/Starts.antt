-- How two texts compare by their 16-bit units once a character is taken from the start of each.
use Rattle.std.proofs.Common.{◌≡◌, ℕ, List, [], ◌++◌, length, ap, ◌∙◌, encode_utf8}
use Rattle.std.specs.Char.{IsScalar}
use Rattle.std.specs.Char.Escape.{encode_utf16}
use Rattle.std.specs.Cmp.Lexicographic.{slice_cmp}
use Rattle.std.specs.List.{flat_map}
use Rattle.std.specs.Str.{chars}
use Rattle.std.specs.Ordering.{nat_cmp}
use Rattle.std.specs.declared.cmp.Ordering.TheVariants.{Less, Equal, Greater}
use Rattle.std.proofs.lemmas.List.{nil_from_length}
use Rattle.std.proofs.lemmas.Str.{chars-nil, chars-append, IsUtf8-encode}
use Rattle.resb_format.specs.Units.{units}
use Rattle.resb_pool.specs.Order.{start_cmp}
use Rattle.resb_pool.specs.Inner.Ranks.{first_rank}
use Rattle.resb_pool.specs.declared.packing.Packing.TheVariants.{Compact}
use Rattle.resb_pool.proofs.Cut.{chars_encode}
use Rattle.resb_pool.proofs.UnitsOrder.{first_differ, first_same, units_behind_end}
use Rattle.resb_pool.proofs.UnitsOrder.{end_before_units}

first_units : (x u : List ℕ) (c : ℕ) → x ≡ encode_utf8 c ++ u → IsScalar c
    → units x ≡ encode_utf16 c ++ units u
first_units x u c e s = ap (flat_map encode_utf16) (ap chars e
    ∙ chars-append (encode_utf8 c) u (IsUtf8-encode c s)
    ∙ ap (λ l. l ++ chars u) (chars_encode c s))

no_units : (x : List ℕ) → length x ≡ 0 → units x ≡ []
no_units x z = ap units (nil_from_length x z) ∙ ap (flat_map encode_utf16) chars-nil

compared : (x y a b : List ℕ) → units x ≡ a → units y ≡ b
    → start_cmp Compact x y ≡ slice_cmp nat_cmp a b
compared x y a b e f = ap (λ z. slice_cmp nat_cmp z (units y)) e ∙ ap (slice_cmp nat_cmp a) f

module _ (x y u v : List ℕ) (c : ℕ) (is : x ≡ encode_utf8 c ++ u) (s : IsScalar c) where
  pub starts_same : y ≡ encode_utf8 c ++ v → start_cmp Compact x y ≡ start_cmp Compact u v
  starts_same e =
      compared x y (encode_utf16 c ++ units u) (encode_utf16 c ++ units v)
      (first_units x u c is s) (first_units y v c e s)
      ∙ first_same (encode_utf16 c) (units u) (units v)

  pub starts_differ : (d : ℕ) → y ≡ encode_utf8 d ++ v → IsScalar d → (c ≡ d → ⊥)
      → start_cmp Compact x y ≡ nat_cmp (first_rank c) (first_rank d)
  starts_differ d e t ne =
      compared x y (encode_utf16 c ++ units u) (encode_utf16 d ++ units v)
      (first_units x u c is s) (first_units y v d e t)
      ∙ first_differ c d s t ne (units u) (units v)

pub left_goes_on : (x y u : List ℕ) (c : ℕ) → x ≡ encode_utf8 c ++ u → IsScalar c → length y ≡ 0
    → start_cmp Compact x y ≡ Greater
left_goes_on x y u c e s z = compared x y (encode_utf16 c ++ units u) [] (first_units x u c e s)
    (no_units y z) ∙ units_behind_end c (units u)

pub right_goes_on : (x y v : List ℕ) (d : ℕ) → y ≡ encode_utf8 d ++ v → IsScalar d → length x ≡ 0
    → start_cmp Compact x y ≡ Less
right_goes_on x y v d e t z = compared x y [] (encode_utf16 d ++ units v) (no_units x z)
    (first_units y v d e t) ∙ end_before_units d (units v)

pub both_start : (x y : List ℕ) → length x ≡ 0 → length y ≡ 0 → start_cmp Compact x y ≡ Equal
both_start x y z w = compared x y [] [] (no_units x z) (no_units y w)
