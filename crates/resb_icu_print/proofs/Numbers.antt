-- Numbers and types, as they are printed and as ICU's form reads them.
use Rattle.std.proofs.Common.{◌≡◌, ◌≢◌, ℕ, zero, suc, ◌+◌, ◌-◌, ◌/◌, ◌%◌, ◌^◌, ◌<◌, ◌≤◌, Bool, true}
use Rattle.std.proofs.Common.{false, List, [], ◌∷◌, ◌++◌, length, refl, sym, ◌∙◌, ap, arith, subst}
use Rattle.std.specs.Prelude.{slice_index, ◌==◌, decimal}
use Rattle.std.proofs.lemmas.List.{get_or_append_left, length_push}
use Rattle.std.proofs.lemmas.Bool.Decides.{nat_tests}
use Rattle.std.proofs.lemmas.Fmt.{decimal_by_steps}
use Rattle.std.specs.Char.{is_ascii_digit, is_digit, digit_value}
use Rattle.resb_grammar.specs.Ascii as ascii
use Rattle.resb_grammar.specs.ByteRuns.{is_white, Each}
use Rattle.resb_grammar.specs.Lexical.{digits_value}
use Rattle.resb_icu_grammar.specs.declared.group_kind.IcuKind.{IcuKind as Kind}
use Rattle.resb_icu_grammar.specs.declared.group_kind.IcuKind.TheVariants.{IntVector as vector_kind}
use Rattle.resb_icu_grammar.specs.Kinds.{Names}
use Rattle.resb_icu_grammar.specs.Bytes.{is_word}
use Rattle.resb_icu_grammar.specs.Blanks.{IsSolid, Skip}
use Rattle.resb_icu_grammar.specs.Numbers.{Number, a_word, unsigned, Magnitude, octal}
use Rattle.resb_icu_grammar.specs.Numbers as numbers_of
use Rattle.resb_icu_grammar.specs.Groups.{TypedOpening, Numbers, last_number, one_more, LeafContent}
use Rattle.resb_icu_grammar.specs.Groups.{no_numbers, numbers}
use Rattle.resb_tree.specs.Tree.{int_vector}
use Rattle.resb_print.specs.Printed.{numbers_on, more_numbers_on}
use Rattle.resb_print.specs.Held.{AreBelow}
use Rattle.resb_print.proofs.Places.{From, byte_at, from_next, from_behind, from_among, run_at}
use Rattle.resb_print.proofs.Words.{decimal_digits}
use Rattle.resb_icu_print.specs.Printed.{is_bare}
use Rattle.resb_icu_print.proofs.Places.{solid_byte, solid_at, no_skip}
use Rattle.resb_icu_print.proofs.Strings.{word_read}

-- the digits of a number begin with 0 only where it is 0
record HasNoZero (n : ℕ) (ds : List ℕ) : Type 0 where
  some : 0 < length ds
  low : n < 10 → length ds ≡ 1
  first : 1 ≤ n → slice_index ds 0 ≢ 48
  zero : n ≡ 0 → slice_index ds 0 ≡ 48

one_digit : (n : ℕ) → n < 10 → HasNoZero n ((48 + n) ∷ [])
one_digit n l = record {
  some = omega arith;
  low = λ h. refl;
  first = λ h e. absurd (omega (arith, h, e));
  zero = λ e. omega (arith, e);
}

more_digits : (n : ℕ) (ds : List ℕ) → 10 ≤ n → HasNoZero (n / 10) ds
    → HasNoZero n (ds ++ ((48 + n % 10) ∷ []))
more_digits n ds l h = record {
  some = omega (arith, length_push ds (48 + n % 10));
  low = λ i. absurd (omega (arith, i));
  first = λ i e. h.first (omega arith)
      (sym (get_or_append_left ds ((48 + n % 10) ∷ []) 0 0 h.some) ∙ e);
  zero = λ e. absurd (omega (arith, l, e));
}

no_zero : (n : ℕ) → n < 2 ^ 64 → HasNoZero n (decimal n)
no_zero = decimal_by_steps HasNoZero one_digit more_digits

digit_solid : (b : ℕ) → is_ascii_digit b ≡ true
    → (is_white b ≡ false) × ((b == ascii.slash) ≡ false)
digit_solid b h = (grind (arith, nat_tests), grind (arith, nat_tests))

digit_word : (b : ℕ) → is_ascii_digit b ≡ true → is_word b ≡ true
digit_word b h = grind (arith, nat_tests)

no_digit : (b : ℕ) → is_word b ≡ false → is_ascii_digit b ≡ false
no_digit b h = by (is_ascii_digit b) refl
  where
    by : (t : Bool) → is_ascii_digit b ≡ t → is_ascii_digit b ≡ false
    by false e = e
    by true e = absurd (grind (arith, nat_tests))

module _ (text : List ℕ) where
  -- a number, where no word character follows
  pub number_read : (n : ℕ) {at : ℕ} (b : ℕ) (rest : List ℕ) → n < 2 ^ 32
      → From text at (decimal n ++ b ∷ rest) → is_word b ≡ false
      → IsSolid text at × ((to : ℕ) × Number text at to n × From text to (b ∷ rest))
  number_read n {at} b rest l h other =
      let d = decimal_digits n (omega arith) in
      let z = no_zero n (omega arith) in
      let s = d.some in
      let e : at + length (decimal n) - at ≡ length (decimal n) = omega arith in
      let o : at - at ≡ 0 = omega arith in
      let first : slice_index text at ≡ slice_index (decimal n) 0 =
      from_among text (decimal n) (b ∷ rest) at h (omega arith) (omega arith)
      ∙ ap (slice_index (decimal n)) o in
      let solid = digit_solid (slice_index (decimal n) 0) (d.each 0 s) in (
        solid_byte text at (slice_index (decimal n) 0) first solid.0 solid.1,
        (
          at + length (decimal n),
          a_word n
              (run_at text is_word (decimal n) b rest h
              (λ k i. digit_word (slice_index (decimal n) k) (d.each k i)) other)
              (unsigned n
              (by n l z first (sym (d.value text at (b ∷ rest) h)
              ∙ ap (digits_value 10 text at) (sym e))
              (run_at text is_ascii_digit (decimal n) b rest h d.each (no_digit b other)).each)
              (omega arith)),
          from_behind text (decimal n) (b ∷ rest) h,
        ),
      )
    where
      ten : (c : ℕ) → is_ascii_digit c ≡ true → is_digit c 10 ≡ true
      ten c k = grind (arith, nat_tests)

      no_value : (k : ℕ) → k ≡ 1 → slice_index text at ≡ 48 → 0 ≡ digits_value 8 text at k
      no_value k e h =
          let place : at + 0 ≡ at = omega arith in
          let value : digit_value (slice_index text (at + 0)) ≡ 0 =
          ap (λ i. digit_value (slice_index text i)) place ∙ ap digit_value h in
          let one : digits_value 8 text at 1 ≡ 0 = omega (arith, value) in
          sym (ap (digits_value 8 text at) e ∙ one)

      -- 0 is one octal digit, and another number begins with no 0
      by : (n : ℕ) → n < 2 ^ 32 → HasNoZero n (decimal n)
          → slice_index text at ≡ slice_index (decimal n) 0
          → n ≡ digits_value 10 text at (at + length (decimal n) - at)
          → Each is_ascii_digit text at (at + length (decimal n))
          → Magnitude text at (at + length (decimal n)) n
      by zero l z first means each =
          let one : at + length (decimal zero) ≡ at + 1 = omega (arith, z.low (omega arith)) in
          let here : slice_index text at ≡ 48 = first ∙ z.zero refl in
          let digit : is_digit (slice_index text at) 8 ≡ true = ap (λ c. is_digit c 8) here in
          subst (λ to. Magnitude text at to zero) (sym one) (octal zero here (record {
            some = omega arith;
            each = λ k i j.
                let same : at ≡ k = omega (arith, i, j) in
                subst (λ p. is_digit (slice_index text p) 8 ≡ true) same digit;
            means = no_value (at + 1 - at) (omega arith) here;
          }))
      by (suc n) l z first means each =
          numbers_of.decimal (suc n) (λ e. z.first (omega arith) (sym first ∙ e)) (record {
            some = omega (arith, z.some);
            each = λ k i j. ten (slice_index text k) (each k i j);
            means = means;
          })

  -- numbers with commas between them, up to a `}`
  numbers_read : (n : ℕ) (ns : List ℕ) {at : ℕ} (rest : List ℕ) → AreBelow (2 ^ 32) (n ∷ ns)
      → From text at (decimal n ++ more_numbers_on ns (ascii.right_brace ∷ rest))
      → IsSolid text at × ((to : ℕ) × Numbers text at to (n ∷ ns)
      × From text to (ascii.right_brace ∷ rest))
  numbers_read n [] {at} rest low h =
      let (solid, (to, number, f)) =
      number_read n ascii.right_brace rest (low 0 (omega arith)) h refl in
      (solid, (to, last_number at to to n number (no_skip text (solid_at text f refl refl)), f))
  numbers_read n (m ∷ ns) {at} rest low h =
      let (solid, (to, number, f)) = number_read n ascii.comma _ (low 0 (omega arith)) h refl in
      let (start, (last, more, g)) =
      numbers_read m ns rest (λ k i. low (suc k) (omega arith)) (from_next text f) in (
        solid,
        (
          last,
          one_more at to to (to + 1) last n (m ∷ ns) number
              (no_skip text (solid_at text f refl refl)) (byte_at text f) (no_skip text start) more,
          g,
        ),
      )

  pub vector_read : (ns : List ℕ) {at : ℕ} (rest : List ℕ) → AreBelow (2 ^ 32) ns
      → From text at (numbers_on ns (ascii.right_brace ∷ rest))
      → IsSolid text at
      × ((to : ℕ) × LeafContent text at to vector_kind (int_vector ns)
      × From text to (ascii.right_brace ∷ rest))
  vector_read [] {at} rest low h = (solid_at text h refl refl, (at, no_numbers refl, h))
  vector_read (n ∷ ns) {at} rest low h =
      let (solid, (to, all, f)) = numbers_read n ns rest low h in
      (solid, (to, numbers (n ∷ ns) all, f))

  -- a type, its `{` and what is skipped behind that
  pub opening_at : (kind : Kind) (w : List ℕ) {at : ℕ} {rest : List ℕ} → Names w kind
      → is_bare w ≡ true → From text at (ascii.colon ∷ (w ++ (ascii.left_brace ∷ rest)))
      → (brace : ℕ) × From text (brace + 1) rest
      × ((to : ℕ) → Skip text (brace + 1) to → TypedOpening text at kind to)
  opening_at kind w {at} {rest} names words h =
      let (solid, word, f) = word_read text w ascii.left_brace rest words refl
      (from_next text h) in (
        at + 1 + length w,
        from_next text f,
        λ to after. record {
          ends = at + 1 + length w;
          brace = at + 1 + length w;
          named = record {
            name = w;
            stands = record {
              place = at + 1;
              colon = byte_at text h;
              between = no_skip text solid;
              word = word;
            };
            names = names;
          };
          between = no_skip text (solid_at text f refl refl);
          opens = byte_at text f;
          after = after;
        },
      )
