-- The line of a place, and how many blanks it begins with.
use Rattle.std.proofs.Common.{◌≡◌, ◌∙◌, ℕ, zero, suc, ◌+◌, ◌<◌, ◌≤◌, Bool, true, false, ◌==◌}
use Rattle.std.proofs.Common.{◌&&◌, ◌||◌, List, refl, sym, ap, subst, arith, ⊎_elim}
use Rattle.std.specs.Prelude.{slice_index, if◌then◌else◌}
use Rattle.std.proofs.lemmas.Bool.{cases_lt, false≢true, true≢false, eq-eqb, eqb-true}
use Rattle.resb_grammar.specs.Ascii.{line_feed}
use Rattle.resb_grammar.proofs.Numbers.{places_meet}
use Rattle.resb_diagnostics.specs.Excerpt.{begins_line, IsOneLine}
use Rattle.resb_diagnostics.specs.Clues.{is_blank, is_first, indent_at}
use Rattle.resb_diagnostics.specs.Hints.{IsIndented}

-- the line of a place, and whether it has blanks alone before the place
pub record LineOf (text : List ℕ) (n : ℕ) : Type 0 where
  pub start : ℕ
  pub indent : ℕ
  pub whole : Bool
  pub same : indent_at text n ≡ indent
  pub tells : is_first text n ≡ whole
  pub indented : IsIndented text n start indent
  pub first : whole ≡ true → start + indent ≡ n
  pub other : whole ≡ false → start + indent < n

module _ (text : List ℕ) (n : ℕ) where
  -- behind a line feed
  new_line : (slice_index text n == line_feed) ≡ true → LineOf text (suc n)
  new_line e = record {
    start = suc n;
    indent = 0;
    whole = true;
    same = ap (λ b. if b then 0
        else (if is_blank (slice_index text n) && is_first text n then suc (indent_at text n)
        else indent_at text n)) e;
    tells = ap (λ b. b || (is_blank (slice_index text n) && is_first text n)) e;
    indented = record {
      begins = e;
      line = λ k low high _. omega (arith, low, high);
      fits = omega arith;
      blanks = λ k low high. absurd (omega (arith, low, high));
      ends = λ lt. absurd (omega (arith, lt));
    };
    first = λ _. omega arith;
    other = λ h. absurd (true≢false h);
  }

  indent_on : (a b : Bool) → (slice_index text n == line_feed) ≡ false
      → is_blank (slice_index text n) ≡ a → is_first text n ≡ b
      → indent_at text (suc n)
      ≡ (if a && b then suc (indent_at text n) else indent_at text n)
  indent_on a b e t f =
      ap (λ c. if c then 0
      else (if is_blank (slice_index text n) && is_first text n then suc (indent_at text n)
      else indent_at text n)) e
      ∙ ap (λ c. if c && is_first text n then suc (indent_at text n) else indent_at text n) t
      ∙ ap (λ c. if a && c then suc (indent_at text n) else indent_at text n) f

  first_on : (a b : Bool) → (slice_index text n == line_feed) ≡ false
      → is_blank (slice_index text n) ≡ a → is_first text n ≡ b
      → is_first text (suc n) ≡ (a && b)
  first_on a b e t f =
      ap (λ c. c || (is_blank (slice_index text n) && is_first text n)) e
      ∙ ap (λ c. c && is_first text n) t ∙ ap (λ c. a && c) f

  line_on : (start : ℕ) → IsOneLine text start n → (slice_index text n == line_feed) ≡ false
      → IsOneLine text start (suc n)
  line_on start line e k low high is =
      ⊎_elim (λ (w : k < n). line k low w is)
      (λ (w : n ≤ k). let same : k ≡ n = omega (arith, w, high) in
      false≢true (sym e
      ∙ eq-eqb (slice_index text n) line_feed (ap (slice_index text) (sym same) ∙ is)))
      (cases_lt k n)

  -- a blank more
  one_blank : (l : LineOf text n) → (slice_index text n == line_feed) ≡ false
      → is_blank (slice_index text n) ≡ true → l.whole ≡ true → LineOf text (suc n)
  one_blank l e t w =
      let at = l.first w in record {
        start = l.start;
        indent = suc l.indent;
        whole = true;
        same = indent_on true true e t (l.tells ∙ w) ∙ ap suc l.same;
        tells = first_on true true e t (l.tells ∙ w);
        indented = record {
          begins = l.indented.begins;
          line = line_on l.start l.indented.line e;
          fits = omega (arith, at);
          blanks = λ k low high. ⊎_elim
              (λ (v : k < l.start + l.indent). l.indented.blanks k low v)
              (λ (v : l.start + l.indent ≤ k).
              let same : n ≡ k = omega (arith, v, high, at) in
              subst (λ i. is_blank (slice_index text i) ≡ true) same t)
              (cases_lt k (l.start + l.indent));
          ends = λ lt. absurd (omega (arith, lt, at));
        };
        first = λ _. omega (arith, at);
        other = λ h. absurd (true≢false h);
      }

  -- the first byte that is no blank
  no_blank : (l : LineOf text n) → (slice_index text n == line_feed) ≡ false
      → is_blank (slice_index text n) ≡ false → l.whole ≡ true → LineOf text (suc n)
  no_blank l e t w =
      let at = l.first w in record {
        start = l.start;
        indent = l.indent;
        whole = false;
        same = indent_on false true e t (l.tells ∙ w) ∙ l.same;
        tells = first_on false true e t (l.tells ∙ w);
        indented = record {
          begins = l.indented.begins;
          line = line_on l.start l.indented.line e;
          fits = omega (arith, at);
          blanks = l.indented.blanks;
          ends = λ _. ap (λ i. is_blank (slice_index text i)) at ∙ t;
        };
        first = λ h. absurd (false≢true h);
        other = λ _. omega (arith, at);
      }

  -- a byte behind that
  behind_first : (l : LineOf text n) (a : Bool) → (slice_index text n == line_feed) ≡ false
      → is_blank (slice_index text n) ≡ a → l.whole ≡ false → LineOf text (suc n)
  behind_first l a e t w =
      let at = l.other w in record {
        start = l.start;
        indent = l.indent;
        whole = false;
        same = indent_on a false e t (l.tells ∙ w) ∙ by_indent a ∙ l.same;
        tells = first_on a false e t (l.tells ∙ w) ∙ by_first a;
        indented = record {
          begins = l.indented.begins;
          line = line_on l.start l.indented.line e;
          fits = omega (arith, at);
          blanks = l.indented.blanks;
          ends = λ _. l.indented.ends at;
        };
        first = λ h. absurd (false≢true h);
        other = λ _. omega (arith, at);
      }
    where
      by_indent : (b : Bool)
          → (if b && false then suc (indent_at text n) else indent_at text n) ≡ indent_at text n
      by_indent true = refl
      by_indent false = refl

      by_first : (b : Bool) → (b && false) ≡ false
      by_first true = refl
      by_first false = refl

  one_more : (l : LineOf text n) (a b c : Bool) → (slice_index text n == line_feed) ≡ a
      → is_blank (slice_index text n) ≡ b → l.whole ≡ c → LineOf text (suc n)
  one_more l true b c e t w = new_line e
  one_more l false true true e t w = one_blank l e t w
  one_more l false false true e t w = no_blank l e t w
  one_more l false b false e t w = behind_first l b e t w

pub line_of : (text : List ℕ) (n : ℕ) → LineOf text n
line_of text zero = record {
  start = 0;
  indent = 0;
  whole = true;
  same = refl;
  tells = refl;
  indented = record {
    begins = refl;
    line = λ k low high _. omega (arith, low, high);
    fits = omega arith;
    blanks = λ k low high. absurd (omega (arith, low, high));
    ends = λ lt. absurd (omega (arith, lt));
  };
  first = λ _. refl;
  other = λ h. absurd (true≢false h);
}
line_of text (suc n) =
    let l = line_of text n in
    one_more text n l (slice_index text n == line_feed) (is_blank (slice_index text n)) l.whole
    refl refl refl

-- no line begins behind the start of a line and before a place in it
not_later : (text : List ℕ) (n s t : ℕ) → IsOneLine text s n → begins_line text t ≡ true
    → t ≤ n → s < t → ⊥
not_later text n s zero line b fits low = omega (arith, low)
not_later text n s (suc t) line b fits low =
    line t (omega (arith, low)) (omega (arith, fits)) (eqb-true (slice_index text t) line_feed b)

not_fewer : (text : List ℕ) (n s i j : ℕ) → IsIndented text n s i → IsIndented text n s j
    → i < j → ⊥
not_fewer text n s i j a b low =
    let fits = b.fits in
    false≢true (sym (a.ends (omega (arith, low, fits)))
    ∙ b.blanks (s + i) (omega arith) (omega (arith, low)))

-- a line begins at one place, with so many blanks
pub start_one : (text : List ℕ) (n s i t j : ℕ) → IsIndented text n s i → IsIndented text n t j
    → s ≡ t
start_one text n s i t j a b =
    let left = a.fits in
    let right = b.fits in
    places_meet s t (not_later text n s t a.line b.begins (omega (arith, right)))
    (not_later text n t s b.line a.begins (omega (arith, left)))

pub indent_one : (text : List ℕ) (n s i t j : ℕ) → IsIndented text n s i → IsIndented text n t j
    → i ≡ j
indent_one text n s i t j a b =
    let same = start_one text n s i t j a b in
    let c = subst (λ k. IsIndented text n k j) (sym same) b in
    places_meet i j (not_fewer text n s i j a c) (not_fewer text n s j i c a)
