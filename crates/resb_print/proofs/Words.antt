-- Names, types and numbers, as they are printed and as the grammar reads them.
use Rattle.std.proofs.Common.{◌≡◌, ℕ, zero, suc, ◌+◌, ◌-◌, ◌/◌, ◌%◌, ◌^◌, ◌<◌, ◌≤◌, Bool, true}
use Rattle.std.proofs.Common.{false, List, [], ◌∷◌, ◌++◌, length, refl, sym, ◌∙◌, ap, arith}
use Rattle.std.proofs.Common.{append_assoc, add-one, add-zero}
use Rattle.std.specs.Prelude.{slice_index, ◌==◌, cond, decimal, nat_lt}
use Rattle.std.proofs.lemmas.List.{length_push, get_or_append_left, get_or_push}
use Rattle.std.proofs.lemmas.Bool.{false≢true, and_parts}
use Rattle.std.proofs.lemmas.Bool.Decides.{nat_tests}
use Rattle.std.proofs.lemmas.Fmt.{decimal_by_steps}
use Rattle.std.specs.Char.{is_ascii_digit}
use Rattle.std.specs.List.{list_all}
use Rattle.resb_grammar.proofs.BothReaders.{decimal_value}
use Rattle.resb_print.proofs.FreeTrees.{NoQuote}
use Rattle.resb_grammar.specs.declared.group_kind.Kind.{Kind}
use Rattle.resb_grammar.specs.Ascii as ascii
use Rattle.resb_grammar.specs.ByteRuns.{is_white, is_word}
use Rattle.resb_grammar.specs.Lexical.{IsSolid, Skip, Text, unquoted, digits_value, Number}
use Rattle.resb_grammar.specs.Lexical.{unsigned}
use Rattle.resb_grammar.specs.GroupTypes.{Names, GroupType, TypedOpening}
use Rattle.resb_print.specs.Printed.{quoted_on, is_bare, name_on}
use Rattle.resb_print.proofs.Places.{From, byte_at, from_behind, from_next, from_among, range_is}
use Rattle.resb_print.proofs.Places.{solid_at, no_skip}
use Rattle.resb_print.proofs.Places.{solid_byte}
use Rattle.resb_print.proofs.Places.{run_at, quoted_text_at}

pub word_each : (s : List ℕ) → list_all is_word s ≡ true → (k : ℕ) → k < length s
    → is_word (slice_index s k) ≡ true
word_each [] h k l = absurd (omega arith)
word_each (b ∷ s) h zero l = (and_parts (is_word b) (list_all is_word s) h).0
word_each (b ∷ s) h (suc k) l =
    word_each s (and_parts (is_word b) (list_all is_word s) h).1 k (omega arith)

word_solid : (b : ℕ) → is_word b ≡ true → (is_white b ≡ false) × ((b == ascii.slash) ≡ false)
word_solid b h = (grind (arith, nat_tests), grind (arith, nat_tests))

bare_words : (s : List ℕ) → is_bare s ≡ true → list_all is_word s ≡ true
bare_words [] h = refl
bare_words (b ∷ s) h = h

bare_some : (s : List ℕ) → is_bare s ≡ true → 0 < length s
bare_some [] h = absurd (false≢true h)
bare_some (b ∷ s) h = omega arith

module _ (text : List ℕ) where
  bare_solid : (w : List ℕ) {at : ℕ} (rest : List ℕ) → is_bare w ≡ true
      → From text at (w ++ rest) → IsSolid text at
  bare_solid [] rest e f = absurd (false≢true e)
  bare_solid (c ∷ w) rest e f =
      let g = word_solid c (and_parts (is_word c) (list_all is_word w) e).0 in
      solid_at text f g.0 g.1

  -- a name or key, where no word character follows
  pub name_text : (s : List ℕ) {at : ℕ} (b : ℕ) (rest : List ℕ) → NoQuote s
      → From text at (name_on s (b ∷ rest)) → is_word b ≡ false
      → IsSolid text at × ((to : ℕ) × Text text at to s × From text to (b ∷ rest))
  name_text s {at} b rest free h other = go (is_bare s) refl h
    where
      go : (t : Bool) → is_bare s ≡ t
          → From text at (cond t (s ++ b ∷ rest) (quoted_on s (b ∷ rest)))
          → IsSolid text at × ((to : ℕ) × Text text at to s × From text to (b ∷ rest))
      go true e f = (
        bare_solid s (b ∷ rest) e f,
        (
          at + length s,
          unquoted (run_at text is_word s b rest f (word_each s (bare_words s e)) other)
              (let l = bare_some s e in omega arith) (sym (range_is text s (b ∷ rest) f)),
          from_behind text s (b ∷ rest) f,
        ),
      )
      go false e f = (solid_at text f refl refl, quoted_text_at text s free f)

  -- a type and its `{`
  pub type_at : (kind : Kind) (w : List ℕ) {at : ℕ} {rest : List ℕ} → Names w kind
      → list_all is_word w ≡ true → From text at (ascii.colon ∷ (w ++ (ascii.left_brace ∷ rest)))
      → (ends : ℕ) × GroupType text at ends kind × Skip text ends ends
      × (slice_index text ends ≡ ascii.left_brace) × From text (ends + 1) rest
  type_at kind w {at} {rest} names words h =
      let a = from_next text h in
      let b = from_behind text w (ascii.left_brace ∷ rest) a in (
        at + 1 + length w,
        record {
          name = w;
          stands = record {
            colon = byte_at text h;
            run = run_at text is_word w ascii.left_brace rest a (word_each w words) refl;
            means = sym (range_is text w (ascii.left_brace ∷ rest) a);
          };
          names = names;
        },
        no_skip text (solid_at text b refl refl),
        byte_at text b,
        from_next text b,
      )

  -- a type, its `{` and what is skipped behind that
  pub opening_at : (kind : Kind) (w : List ℕ) {at : ℕ} {rest : List ℕ} → Names w kind
      → list_all is_word w ≡ true → From text at (ascii.colon ∷ (w ++ (ascii.left_brace ∷ rest)))
      → (brace : ℕ) × From text (brace + 1) rest
      × ((to : ℕ) → Skip text (brace + 1) to → TypedOpening text at kind to)
  opening_at kind w {at} {rest} names words h =
      let (ends, type, skip, opens, r) = type_at kind w names words h in (
        ends,
        r,
        λ to after. record {
          ends = ends;
          brace = ends;
          named = type;
          between = skip;
          opens = opens;
          after = after;
        },
      )

-- the digits of a number, wherever they stand
pub record AreDigitsOf (n : ℕ) (ds : List ℕ) : Type 0 where
  pub some : 0 < length ds
  pub each : (k : ℕ) → k < length ds → is_ascii_digit (slice_index ds k) ≡ true
  pub value : (text : List ℕ) (at : ℕ) (rest : List ℕ) → From text at (ds ++ rest)
      → digits_value 10 text at (length ds) ≡ n

digit_is : (n : ℕ) → n < 10 → is_ascii_digit (48 + n) ≡ true
digit_is n l = grind (arith, nat_tests)

one_digit : (n : ℕ) → n < 10 → AreDigitsOf n ((48 + n) ∷ [])
one_digit n l = record {
  some = omega arith;
  each = each;
  value = value;
}
  where
    each : (k : ℕ) → k < 1 → is_ascii_digit (slice_index ((48 + n) ∷ []) k) ≡ true
    each zero h = digit_is n l
    each (suc k) h = absurd (omega arith)

    value : (text : List ℕ) (at : ℕ) (rest : List ℕ) → From text at ((48 + n) ∷ rest)
        → digits_value 10 text at 1 ≡ n
    value text at rest h =
        let e = byte_at text h in
        let f : slice_index text (at + 0) ≡ 48 + n = ap (slice_index text) (add-zero at) ∙ e in
        omega (
          arith,
          f,
          decimal_value (slice_index text (at + 0)) (ap is_ascii_digit f ∙ digit_is n l),
        )

more_digits : (n : ℕ) (ds : List ℕ) → 10 ≤ n → AreDigitsOf (n / 10) ds
    → AreDigitsOf n (ds ++ ((48 + n % 10) ∷ []))
more_digits n ds l h = record {
  some = omega (arith, length_push ds (48 + n % 10));
  each = λ k i. each k i (nat_lt k (length ds)) refl;
  value = value;
}
  where
    each : (k : ℕ) → k < length (ds ++ (48 + n % 10) ∷ []) → (b : Bool) → nat_lt k (length ds) ≡ b
        → is_ascii_digit (slice_index (ds ++ (48 + n % 10) ∷ []) k) ≡ true
    each k i true e =
        let m : k < length ds = grind (arith, nat_tests) in
        ap is_ascii_digit (get_or_append_left ds ((48 + n % 10) ∷ []) 0 k m) ∙ h.each k m
    each k i false e =
        let m : length ds ≤ k = grind (arith, nat_tests) in
        let g : length ds ≡ k = omega (arith, length_push ds (48 + n % 10)) in
        ap is_ascii_digit (get_or_push ds (48 + n % 10) 0 k g) ∙ digit_is (n % 10) (omega arith)

    value : (text : List ℕ) (at : ℕ) (rest : List ℕ)
        → From text at (ds ++ ((48 + n % 10) ∷ []) ++ rest)
        → digits_value 10 text at (length (ds ++ ((48 + n % 10) ∷ []))) ≡ n
    value text at rest f =
        let g : From text at (ds ++ ((48 + n % 10) ∷ rest)) =
        record { is = f.is ∙ append_assoc ds ((48 + n % 10) ∷ []) rest } in
        let r = h.value text at ((48 + n % 10) ∷ rest) g in
        let b = byte_at text (from_behind text ds ((48 + n % 10) ∷ rest) g) in
        ap (digits_value 10 text at) (length_push ds (48 + n % 10) ∙ add-one (length ds))
        ∙ omega (
          arith,
          r,
          b,
          decimal_value (slice_index text (at + length ds))
              (ap is_ascii_digit b ∙ digit_is (n % 10) (omega arith)),
        )

-- a number of 64 bits is written by its digits
pub decimal_digits : (n : ℕ) → n < 2 ^ 64 → AreDigitsOf n (decimal n)
decimal_digits = decimal_by_steps AreDigitsOf one_digit more_digits

digit_solid : (b : ℕ) → is_ascii_digit b ≡ true
    → (is_white b ≡ false) × ((b == ascii.slash) ≡ false)
digit_solid b h = (grind (arith, nat_tests), grind (arith, nat_tests))

-- a number, where no digit follows
pub number_at : (text : List ℕ) (n : ℕ) {at : ℕ} (b : ℕ) (rest : List ℕ) → n < 2 ^ 32
    → From text at (decimal n ++ b ∷ rest) → is_ascii_digit b ≡ false
    → IsSolid text at × ((to : ℕ) × Number text at to n × From text to (b ∷ rest))
number_at text n {at} b rest l h other =
    let d = decimal_digits n (omega arith) in
    let s = d.some in
    let e : at + length (decimal n) - at ≡ length (decimal n) = omega arith in
    let z : at - at ≡ 0 = omega arith in
    let first = from_among text (decimal n) (b ∷ rest) at h (omega arith) (omega arith)
    ∙ ap (slice_index (decimal n)) z in
    let solid = digit_solid (slice_index (decimal n) 0) (d.each 0 s) in (
      solid_byte text at (slice_index (decimal n) 0) first solid.0 solid.1,
      (
        at + length (decimal n),
        unsigned (record {
          run = run_at text is_ascii_digit (decimal n) b rest h d.each other;
          some = omega arith;
          means = sym (d.value text at (b ∷ rest) h) ∙ ap (digits_value 10 text at) (sym e);
        }) (omega arith),
        from_behind text (decimal n) (b ∷ rest) h,
      ),
    )
