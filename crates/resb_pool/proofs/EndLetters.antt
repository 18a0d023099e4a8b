-- What a file compares of texts: where one ends with another, so do their letters, and no two texts
-- have the same.
use Rattle.std.proofs.Common.{◌≡◌, ℕ, List, ◌++◌, Some, sym, ◌∙◌, ap, reverse}
use Rattle.std.specs.List.{flat_map}
use Rattle.std.specs.Char.Escape.{encode_utf16}
use Rattle.std.specs.Str.{IsUtf8, chars}
use Rattle.std.proofs.lemmas.Grind.{flat_map-append}
use Rattle.std.proofs.lemmas.List.{reverse-append, reverse-reverse}
use Rattle.std.proofs.lemmas.Str.{chars-append, scalars-chars}
use Rattle.resb_format.specs.Strings.{text_of_units}
use Rattle.resb_format.specs.Units.{units}
use Rattle.resb_pool.specs.Inner.Cuts.{chars_backwards, letters_backwards, IsCut}
use Rattle.resb_pool.specs.Inner.Extends.{Extends}
use Rattle.resb_pool.specs.Records.{EndsWith}
use Rattle.resb_pool.specs.declared.packing.Packing.{Packing}
use Rattle.resb_pool.specs.declared.packing.Packing.TheVariants.{Plain, Compact}
use Rattle.resb_pool.proofs.Cut.{key_cut, key_same, rest_utf8, extends_ends}
use Rattle.resb_pool.proofs.Utf16.{chars_end, text_of_units-units}

-- the units of a text in two
pub units_cut : (t f s : List ℕ) → IsCut t f s → units t ≡ units f ++ units s
units_cut t f s h =
    ap (flat_map encode_utf16) (ap chars h.is ∙ chars-append f s h.rest_utf8)
    ∙ flat_map-append encode_utf16 (chars f) (chars s)

-- the letters of a text in two
pub letters_cut : (way : Packing) (t f s : List ℕ) → IsCut t f s
    → letters_backwards way t ≡ letters_backwards way s ++ letters_backwards way f
letters_cut Plain t f s h = key_cut t f s h
letters_cut Compact t f s h = ap reverse (units_cut t f s h) ∙ reverse-append (units f) (units s)

pub letters_extend : (way : Packing) (t s : List ℕ) → IsUtf8 t → IsUtf8 s → EndsWith t s
    → Extends (letters_backwards way t) (letters_backwards way s)
letters_extend way t s u v h = record {
  rest = letters_backwards way h.front;
  is = letters_cut way t h.front s (record {
    is = h.is;
    rest_utf8 = rest_utf8 t h.front s h.is u v;
    tail_utf8 = v;
  });
}

pub letters_end : (way : Packing) (t s : List ℕ) → IsUtf8 t → IsUtf8 s
    → Extends (letters_backwards way t) (letters_backwards way s) → EndsWith t s
letters_end Plain t s u v h = extends_ends t s u v h
letters_end Compact t s u v h =
    let e : units t ≡ reverse h.rest ++ units s =
    sym (reverse-reverse (units t)) ∙ ap reverse h.is
    ∙ reverse-append (reverse (units s)) h.rest
    ∙ ap (λ l. reverse h.rest ++ l) (reverse-reverse (units s)) in
    let k = chars_end (chars t) (reverse h.rest) (chars s) (scalars-chars t u)
    (scalars-chars s v) e in
    let f : chars_backwards t ≡ chars_backwards s ++ reverse k.0 =
    ap reverse k.1 ∙ reverse-append k.0 (chars s) in
    extends_ends t s u v (record { rest = reverse k.0; is = f })

-- a text is what its units spell
pub units_same : (s t : List ℕ) → IsUtf8 s → IsUtf8 t → units s ≡ units t → s ≡ t
units_same s t u v e =
    let f : Some s ≡ Some t =
    sym (text_of_units-units s u) ∙ ap text_of_units e ∙ text_of_units-units t v in
    cc f

pub letters_same : (way : Packing) (s t : List ℕ) → IsUtf8 s → IsUtf8 t
    → letters_backwards way s ≡ letters_backwards way t → s ≡ t
letters_same Plain s t u v e = key_same s t u v e
letters_same Compact s t u v e = units_same s t u v
    (sym (reverse-reverse (units s)) ∙ ap reverse e ∙ reverse-reverse (units t))
