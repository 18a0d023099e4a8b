-- The bytes of well-formed UTF-16 are those of the units of the text that it spells.
use Rattle.std.proofs.Common.{◌≡◌, ◌<◌, ◌*◌, ◌^◌, ℕ, suc, List, [], ◌∷◌, ◌++◌, Bool, Some}
use Rattle.std.proofs.Common.{None, true, false, ◌||◌, ◌&&◌, not, is_some, length, get_or, refl}
use Rattle.std.proofs.Common.{zero}
use Rattle.std.proofs.Common.{sym, ap, ◌∙◌, arith, inl, inr}
use Rattle.std.proofs.Math.Utf8.{scalar, scalars}
use Rattle.std.proofs.lemmas.Bool.{cases_lt, false≢true, or_parts}
use Rattle.std.proofs.lemmas.Bool.Decides.{nat_tests}
use Rattle.std.proofs.lemmas.Str.{chars-encodes, chars-nil}
use Rattle.std.specs.List.{flat_map}
use Rattle.std.specs.Prelude.{Option, option_map}
use Rattle.std.specs.Char.Escape.{encode_utf16}
use Rattle.std.specs.Char.Utf16.{is_high_surrogate, is_low_surrogate, lone_unit_char, utf16_chars}
use Rattle.std.specs.Char.Utf16.{utf16_lossy_chars, surrogate_pair_char, has_unpaired_surrogate}
use Rattle.resb_format.proofs.Spelled.{units_length}
use Rattle.resb_format.proofs.TextUnits.{low_char}
use Rattle.resb_format.specs.Bytes.{units_of, units_as_bytes}
use Rattle.resb_format.specs.Units.{units}
use Rattle.resb_read.proofs.UnitsBack.{units_back}
use Rattle.resb_tree.specs.Tree.{Tree, string, alias}
use Rattle.resb_walk.specs.Inner.Members.{text_of_bytes, AreUtf16}
use Rattle.resb_opened.specs.Handles.{text_of}

-- the characters are some, and these are their units
abbrev Spells : List ℕ → List ℕ → Type 0
Spells cs us = (scalars cs ≡ true) × (flat_map encode_utf16 cs ≡ us)

-- one character before others
spells_more : (c : ℕ) (vs cs us : List ℕ) → scalar c ≡ true → encode_utf16 c ≡ vs → Spells cs us
    → Spells (c ∷ cs) (vs ++ us)
spells_more c vs cs us s e more = (rw s more.0, λ i. e i ++ more.1 i)

-- a unit that stands alone and is no half of a pair
lone_char : (u : ℕ) → u < 2 ^ 16 → not (is_some (lone_unit_char u)) ≡ false
    → (lone_unit_char u ≡ Some u) × (scalar u ≡ true)
lone_char u small e = elim (cases_lt u 0xD800) [
  | inl low ↦ (grind (arith, nat_tests, low), grind (arith, nat_tests, low))
  | inr high ↦ elim (cases_lt u 0xE000) [
    | inl mid ↦
        let none : lone_unit_char u ≡ None = grind (arith, nat_tests, high, mid) in
        absurd (false≢true (sym e ∙ ap (λ o. not (is_some o)) none))
    | inr top ↦ (grind (arith, nat_tests, top), grind (arith, nat_tests, top, small))
  ]
]

-- the two halves of a pair
pair_char : (u v : ℕ) → is_high_surrogate u ≡ true → is_low_surrogate v ≡ true
    → (scalar (surrogate_pair_char u v) ≡ true)
    × (encode_utf16 (surrogate_pair_char u v) ≡ u ∷ v ∷ [])
pair_char u v high low = (
  grind (arith, nat_tests, high, low),
  grind (arith, nat_tests, high, low),
)

-- the characters that well-formed units spell have these units
spelled : (us : List ℕ) → ((k : ℕ) → k < length us → get_or us k 0 < 2 ^ 16)
    → has_unpaired_surrogate us ≡ false → Spells (utf16_lossy_chars us) us
unfolding utf16_chars
spelled [] h p = (refl, refl)
spelled (u ∷ []) h p =
    let small : u < 2 ^ 16 = h 0 (omega arith) in
    let one = lone_char u small (or_parts _ _ p).0 in
    rw one.0 (spells_more u (u ∷ []) [] [] one.1 (low_char u small) (refl, refl))
spelled (u ∷ v ∷ us) h p =
    cases (is_high_surrogate u) (is_low_surrogate v) refl refl p
    (λ q. spelled (v ∷ us) (λ k l. h (suc k) (omega (arith, l))) q)
    (λ q. spelled us (λ k l. h (suc (suc k)) (omega (arith, l))) q)
  where
    small : u < 2 ^ 16
    small = h 0 (omega arith)

    alone : is_high_surrogate u && is_low_surrogate v ≡ false
        → has_unpaired_surrogate (u ∷ v ∷ us) ≡ false
        → (has_unpaired_surrogate (v ∷ us) ≡ false → Spells (utf16_lossy_chars (v ∷ us)) (v ∷ us))
        → Spells (utf16_lossy_chars (u ∷ v ∷ us)) (u ∷ v ∷ us)
    alone e p more =
        let q : not (is_some (lone_unit_char u)) || has_unpaired_surrogate (v ∷ us) ≡ false =
        rw e at p in
        let both = or_parts _ _ q in
        let one = lone_char u small both.0 in
        rw (e, one.0) (spells_more u (u ∷ []) (utf16_lossy_chars (v ∷ us)) (v ∷ us) one.1
        (low_char u small) (more both.1))

    cases : (x y : Bool) → is_high_surrogate u ≡ x → is_low_surrogate v ≡ y
        → has_unpaired_surrogate (u ∷ v ∷ us) ≡ false
        → (has_unpaired_surrogate (v ∷ us) ≡ false → Spells (utf16_lossy_chars (v ∷ us)) (v ∷ us))
        → (has_unpaired_surrogate us ≡ false → Spells (utf16_lossy_chars us) us)
        → Spells (utf16_lossy_chars (u ∷ v ∷ us)) (u ∷ v ∷ us)
    cases true true e f p more two =
        let pair = pair_char u v e f in
        let rest : has_unpaired_surrogate us ≡ false = rw (e, f) at p in
        rw (e, f) (spells_more (surrogate_pair_char u v) (u ∷ v ∷ []) (utf16_lossy_chars us) us
        pair.0 pair.1 (two rest))
    cases false y e f p more two = alone (rw e refl) p more
    cases true false e f p more two = alone (rw (e, f) refl) p more

-- bytes spell units below 2 ^ 16
units_small : (bs : List ℕ) → ((k : ℕ) → get_or bs k 0 < 256)
    → (k : ℕ) → k < length (units_of bs) → get_or (units_of bs) k 0 < 2 ^ 16
unfolding units_of
units_small [] h k l = absurd (omega (arith, l))
units_small (a ∷ []) h k l = absurd (omega (arith, l))
units_small (a ∷ b ∷ bs) h zero l = omega (arith, h 0, h 1)
units_small (a ∷ b ∷ bs) h (suc k) l =
    units_small bs (λ j. h (suc (suc j))) k (omega (arith, l))

-- the bytes are those of the text's units
pub bytes_of_units : (bs : List ℕ) → AreUtf16 bs → ((k : ℕ) → get_or bs k 0 < 256)
    → bs ≡ units_as_bytes (units (text_of_bytes bs))
bytes_of_units bs is h =
    let us : List ℕ = units_of bs in
    let all = spelled us (units_small bs h) is.1 in
    let even : length bs ≡ 2 * length us = omega (arith, units_length bs, is.0) in
    let same : units (text_of_bytes bs) ≡ us =
    ap (flat_map encode_utf16) (chars-encodes (utf16_lossy_chars us) all.0) ∙ all.1 in
    sym (ap units_as_bytes same ∙ units_back bs even h)

-- the empty text has none
no_bytes : [] ≡ units_as_bytes (units [])
no_bytes = rw chars-nil refl

-- the bytes that a tree's text has, if it has one
abbrev bytes_in : Tree → Option (List ℕ)
bytes_in t = option_map (λ text. units_as_bytes (units text)) (text_of t)

-- what stands at a string or at an alias is just these bytes
pub string_leaf : (bs : List ℕ) (t : Tree) → bs ≡ units_as_bytes (units (text_of_bytes bs))
    → t ≡ string (text_of_bytes bs) → Some bs ≡ bytes_in t
string_leaf bs t is e = ap Some is ∙ sym (ap bytes_in e)

pub alias_leaf : (bs : List ℕ) (t : Tree) → bs ≡ units_as_bytes (units (text_of_bytes bs))
    → t ≡ alias (text_of_bytes bs) → Some bs ≡ bytes_in t
alias_leaf bs t is e = ap Some is ∙ sym (ap bytes_in e)

pub empty_leaf : (t : Tree) → t ≡ string [] → Some [] ≡ bytes_in t
empty_leaf t e = ap Some no_bytes ∙ sym (ap bytes_in e)
