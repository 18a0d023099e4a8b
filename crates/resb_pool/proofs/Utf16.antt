-- The units of a text, and the text that they spell.
use Rattle.std.proofs.Common.{◌≡◌, ℕ, ◌+◌, ◌-◌, ◌/◌, ◌%◌, ◌<◌, ◌≤◌, List, [], ◌∷◌, ◌++◌}
use Rattle.std.proofs.Common.{get_or, map, Some, None, is_some, unwrap_or, true, false, not, cond}
use Rattle.std.proofs.Common.{nat_eq, ◌⊎◌, inl, inr, refl, sym, ◌∙◌, ap, arith}
use Rattle.std.specs.List.{flat_map, list_any}
use Rattle.std.specs.Char.Escape.{encode_utf16}
use Rattle.std.specs.Char.Utf16.{utf16_chars, lone_unit_char, surrogate_pair_char}
use Rattle.std.specs.Char.Utf16.{has_unpaired_surrogate, utf16_lossy_chars}
use Rattle.std.specs.Str.{chars, IsUtf8, encode_utf8_all}
use Rattle.std.proofs.Math.Utf8.{scalar, scalars, scalar_cases, encode, encodes}
use Rattle.std.proofs.lemmas.Str.{utf16_chars-nil, utf16_chars_lone, utf16_chars_pair, encode_ascii}
use Rattle.std.proofs.lemmas.Str.{scalars-chars, encodes-chars}
use Rattle.std.proofs.lemmas.Bool.{and_parts, cases_lt, or_parts, or_from, ne_eqb, eqb-false}
use Rattle.std.proofs.lemmas.Bool.Decides.{nat_tests}
use Rattle.resb_format.specs.Strings.{text_of_units}
use Rattle.resb_format.specs.Units.{units}
use Rattle.resb_format.proofs.TextUnits.{low_char}
use Rattle.resb_pool.proofs.Zeros.{has_zero, has_zero-append}
use Rattle.resb_pool.proofs.Numbers.{positive_is_not_zero}

pub high_char : (c : ℕ) → 0x1_0000 ≤ c → encode_utf16 c ≡ (0xD800 + (c - 0x1_0000) / 0x400) ∷
    (0xDC00 + (c - 0x1_0000) % 0x400) ∷ []
high_char c h = grind (arith, nat_tests)

lone : (c : ℕ) → (c < 0xD800) ⊎ (0xE000 ≤ c) → lone_unit_char c ≡ Some c
lone c h = grind (arith, nat_tests)

pair_back : (c : ℕ) → 0x1_0000 ≤ c → surrogate_pair_char (0xD800 + (c - 0x1_0000) / 0x400)
    (0xDC00 + (c - 0x1_0000) % 0x400) ≡ c
pair_back c h = omega arith

-- the units of one character spell it
one_char : (c : ℕ) (us : List ℕ) → scalar c ≡ true → utf16_chars (encode_utf16 c ++ us) ≡ Some c ∷
    utf16_chars us
one_char c us s = elim (cases_lt c 0x1_0000) [
  | inl h ↦ ap (λ l. utf16_chars (l ++ us)) (low_char c h)
      ∙ utf16_chars_lone c us (λ p. elim (scalar_cases c s) [
        | inl l ↦ omega arith
        | inr l ↦
            omega arith
      ])
      ∙ ap (λ o. o ∷ utf16_chars us) (lone c (elim (scalar_cases c s) [
        | inl l ↦ inl l
        | inr l ↦
            inr l.0
      ]))
  | inr h ↦ ap (λ l. utf16_chars (l ++ us)) (high_char c h)
      ∙ utf16_chars_pair _ _ us (elim (scalar_cases c s) [
        | inl l ↦ absurd (omega arith)
        | inr l ↦
            (omega arith, omega arith, omega arith, omega arith)
      ])
      ∙ ap (λ d. Some d ∷ utf16_chars us) (pair_back c h)
]

pub utf16_chars-units : (cs : List ℕ) → scalars cs ≡ true → utf16_chars (flat_map encode_utf16 cs) ≡
    map Some cs
utf16_chars-units [] s = utf16_chars-nil
utf16_chars-units (c ∷ cs) s =
    let p = and_parts (scalar c) (scalars cs) s in
    one_char c (flat_map encode_utf16 cs) p.0 ∙ ap (λ os. Some c ∷ os) (utf16_chars-units cs p.1)

all_there : (cs : List ℕ) → list_any (λ o. not (is_some o)) (map Some cs) ≡ false
all_there [] = refl
all_there (c ∷ cs) = all_there cs

unwrapped : (cs : List ℕ) → map (λ o. unwrap_or o 0xFFFD) (map Some cs) ≡ cs
unwrapped [] = refl
unwrapped (c ∷ cs) = ap (λ l. c ∷ l) (unwrapped cs)

-- characters are those that their units spell
pub same_chars : (cs ds : List ℕ) → scalars cs ≡ true → scalars ds ≡ true
    → flat_map encode_utf16 cs ≡ flat_map encode_utf16 ds → cs ≡ ds
same_chars cs ds s t e = sym (unwrapped cs) ∙ ap (map (λ o. unwrap_or o 0xFFFD))
    (sym (utf16_chars-units cs s) ∙ ap utf16_chars e ∙ utf16_chars-units ds t) ∙ unwrapped ds

pub text_of_units-units : (s : List ℕ) → IsUtf8 s → text_of_units (units s) ≡ Some s
text_of_units-units s u =
    let e : utf16_chars (units s) ≡ map Some (chars s) = utf16_chars-units (chars s)
    (scalars-chars s u) in
    let f : has_unpaired_surrogate (units s) ≡ false = ap (list_any (λ o. not (is_some o))) e
    ∙ all_there (chars s) in
    let g : utf16_lossy_chars (units s) ≡ chars s = ap (map (λ o. unwrap_or o 0xFFFD)) e
    ∙ unwrapped (chars s) in
    ap (λ b. cond b None (Some (encode_utf8_all (utf16_lossy_chars (units s))))) f
    ∙ ap (λ cs. Some (encode_utf8_all cs)) g ∙ ap Some (encodes-chars s u)

-- a character is U+0000 only where its bytes have a 0
char_zero : (c : ℕ) → has_zero (encode c) ≡ false → c ≡ 0 → ⊥
char_zero c h e =
    let f : has_zero (c ∷ []) ≡ false = ap has_zero (sym (encode_ascii c (omega arith))) ∙ h in
    eqb-false c 0 (or_parts (nat_eq c 0) false f).0 e

unit_zero : (c : ℕ) → (c ≡ 0 → ⊥) → has_zero (encode_utf16 c) ≡ false
unit_zero c ne = elim (cases_lt c 0x1_0000) [
  | inl h ↦ ap has_zero (low_char c h) ∙ or_from _ _ (ne_eqb c 0 ne) refl
  | inr h ↦ ap has_zero (high_char c h)
      ∙ or_from _ _ (positive_is_not_zero (0xD800 + (c - 0x1_0000) / 0x400) (omega arith))
      (or_from _ _ (positive_is_not_zero (0xDC00 + (c - 0x1_0000) % 0x400)
      (omega arith)) refl)
]

units_zero : (cs : List ℕ) → has_zero (encodes cs) ≡ false → has_zero (flat_map encode_utf16 cs) ≡
    false
units_zero [] h = refl
units_zero (c ∷ cs) h =
    let o = or_parts (has_zero (encode c)) (has_zero (encodes cs))
    (sym (has_zero-append (encode c) (encodes cs)) ∙ h) in
    has_zero-append (encode_utf16 c) (flat_map encode_utf16 cs)
    ∙ or_from _ _ (unit_zero c (char_zero c o.0)) (units_zero cs o.1)

-- text with no byte 0 has no unit 0
pub has_zero-units : (s : List ℕ) → IsUtf8 s → has_zero s ≡ false → has_zero (units s) ≡ false
has_zero-units s u h = units_zero (chars s) (ap has_zero (encodes-chars s u) ∙ h)

-- the first unit is no trail surrogate, and so no marker
first_unit : (cs : List ℕ) → scalars cs ≡ true → (get_or (flat_map encode_utf16 cs) 0 0 ≤ 0xdbff)
    ⊎ (0xdfff < get_or (flat_map encode_utf16 cs) 0 0)
first_unit [] s = inl (omega arith)
first_unit (c ∷ cs) s =
    let u : ℕ = get_or (flat_map encode_utf16 (c ∷ cs)) 0 0 in
    let p = and_parts (scalar c) (scalars cs) s in
    elim (cases_lt c 0x1_0000) [
      | inl h ↦ (let e : u ≡ c = ap (λ l. get_or (l ++ flat_map encode_utf16 cs) 0 0)
          (low_char c h) in
          elim (scalar_cases c p.0) [
            | inl l ↦ inl (omega (arith, e))
            | inr l ↦
                inr (omega (arith, e))
          ])
      | inr h ↦ (let e : u ≡ 0xD800 + (c - 0x1_0000) / 0x400 =
          ap (λ l. get_or (l ++ flat_map encode_utf16 cs) 0 0) (high_char c h) in
          elim (scalar_cases c p.0) [
            | inl l ↦ absurd (omega arith)
            | inr l ↦ inl (omega (arith, e))
          ])
    ]

pub units-first : (s : List ℕ) → IsUtf8 s → (get_or (units s) 0 0 ≤ 0xdbff)
    ⊎ (0xdfff < get_or (units s) 0 0)
units-first s u = first_unit (chars s) (scalars-chars s u)

-- the second unit of a pair begins no text
no_second : (v : ℕ) (us ds : List ℕ) → 0xDC00 ≤ v → v ≤ 0xDFFF → scalars ds ≡ true
    → v ∷ us ≡ flat_map encode_utf16 ds → ⊥
no_second v us ds l m t e =
    let f : v ≡ get_or (flat_map encode_utf16 ds) 0 0 = ap (λ z. get_or z 0 0) e in
    elim (first_unit ds t) [ inl h ↦ omega (arith, f, h, l) | inr h ↦ omega (arith, f, h, m) ]

-- where the units of characters end with those of others, the characters end with these
pub chars_end : (cs us ds : List ℕ) → scalars cs ≡ true → scalars ds ≡ true
    → flat_map encode_utf16 cs ≡ us ++ flat_map encode_utf16 ds → (ws : List ℕ) × (cs ≡ ws ++ ds)
chars_end cs [] ds s t e = ([], same_chars cs ds s t e)
chars_end [] (u ∷ us) ds s t e = (let f : [] ≡ u ∷ (us ++ flat_map encode_utf16 ds) = e in cc)
chars_end (c ∷ cs) (u ∷ []) ds s t e =
    let p = and_parts (scalar c) (scalars cs) s in
    elim (cases_lt c 0x1_0000) [
      | inl h ↦
          let f : c ∷ flat_map encode_utf16 cs ≡ u ∷ flat_map encode_utf16 ds =
          sym (ap (λ l. l ++ flat_map encode_utf16 cs) (low_char c h)) ∙ e in
          let k = chars_end cs [] ds p.1 t (cc f) in
          (c ∷ k.0, ap (λ l. c ∷ l) k.1)
      | inr h ↦
          let v : ℕ = 0xDC00 + (c - 0x1_0000) % 0x400 in
          let f : (0xD800 + (c - 0x1_0000) / 0x400) ∷ v ∷ flat_map encode_utf16 cs
          ≡ u ∷ flat_map encode_utf16 ds =
          sym (ap (λ l. l ++ flat_map encode_utf16 cs) (high_char c h)) ∙ e in
          let g : v ∷ flat_map encode_utf16 cs ≡ flat_map encode_utf16 ds = cc f in
          absurd (no_second v (flat_map encode_utf16 cs) ds (omega arith) (omega arith) t g)
    ]
chars_end (c ∷ cs) (u ∷ v ∷ us) ds s t e =
    let p = and_parts (scalar c) (scalars cs) s in
    elim (cases_lt c 0x1_0000) [
      | inl h ↦
          let f : c ∷ flat_map encode_utf16 cs ≡ u ∷ v ∷ (us ++ flat_map encode_utf16 ds) =
          sym (ap (λ l. l ++ flat_map encode_utf16 cs) (low_char c h)) ∙ e in
          let k = chars_end cs (v ∷ us) ds p.1 t (cc f) in
          (c ∷ k.0, ap (λ l. c ∷ l) k.1)
      | inr h ↦
          let f : (0xD800 + (c - 0x1_0000) / 0x400) ∷ (0xDC00 + (c - 0x1_0000) % 0x400)
          ∷ flat_map encode_utf16 cs ≡ u ∷ v ∷ (us ++ flat_map encode_utf16 ds) =
          sym (ap (λ l. l ++ flat_map encode_utf16 cs) (high_char c h)) ∙ e in
          let k = chars_end cs us ds p.1 t (cc f) in
          (c ∷ k.0, ap (λ l. c ∷ l) k.1)
    ]
