-- Laws of the parts of a string that stand in a row, be they quoted pieces or unquoted strings.
use Rattle.std.proofs.Common.{◌≡◌, ◌≢◌, ℕ, ◌+◌, ◌<◌, ◌≤◌, List, [], ◌++◌, length, arith, subst, sym}
use Rattle.std.proofs.Common.{refl, ap, ◌∙◌, append_assoc, ◌⊎◌, inl, inr, ⊎_elim}
use Rattle.std.proofs.lemmas.List.{length-append}
use Rattle.resb_icu_grammar.specs.Blanks.{Skip}
use Rattle.resb_icu_grammar.proofs.Lexical.{Skip-one}

-- rows by the place where they begin, and what they say
abbrev pub Rows : Type 1
Rows = ℕ → List ℕ → Type 0

-- a row whose first part ends at a place is that one, or it and the others behind a gap
pub data RowFrom (text : List ℕ) (row : Rows) (gap : List ℕ) (mid to : ℕ) (first : List ℕ)
    : List ℕ → Type 0 where
  one_alone : mid ≡ to → RowFrom text row gap mid to first first
  and_others : (next : ℕ) (later : List ℕ) → Skip text mid next → row next later → mid ≤ next
      → next < to → RowFrom text row gap mid to first (first ++ (gap ++ later))

module _ {text : List ℕ} {row : Rows} {gap : List ℕ} {mid to : ℕ} {first : List ℕ} where
  -- its first part ends no later than the row
  pub part_fits : {s : List ℕ} → RowFrom text row gap mid to first s → mid ≤ to
  part_fits (one_alone e) = omega (arith, e)
  part_fits (and_others next later k r low high) = omega (arith, low, high)

  -- where the row ends with it, it says all
  pub all_said : {s : List ℕ} → RowFrom text row gap mid to first s → mid ≡ to → s ≡ first
  all_said (one_alone e) m = refl
  all_said (and_others next later k r low high) m = absurd (omega (arith, low, high, m))

  -- and else the others are left
  pub others_left : {s : List ℕ} (next : ℕ) → RowFrom text row gap mid to first s → mid ≢ to
      → Skip text mid next
      → (later : List ℕ) × row next later × (s ≡ first ++ (gap ++ later)) × (mid ≤ next)
      × (next < to)
  others_left next (one_alone e) n k = absurd (n e)
  others_left next (and_others other later j r low high) n k =
      let same = Skip-one text mid other next j k in (
        later,
        subst (λ i. row i later) same r,
        refl,
        omega (arith, low, same),
        omega (arith, high, same),
      )

-- what is left to be put together of a row, and what is there of it
pub record Left (row : Rows) (at : ℕ) (old value said : List ℕ) : Type 0 where
  pub rest : List ℕ
  pub here : row at rest
  pub whole : value ++ rest ≡ old ++ said

module _ {row : Rows} {at : ℕ} {old value said : List ℕ} (first : List ℕ) where
  -- of a row that goes on behind a part and a gap, the others are left
  pub left_more : {next : ℕ} (gap now : List ℕ)
      → ((s : List ℕ) → row at s
      → (later : List ℕ) × row next later × (s ≡ first ++ (gap ++ later)))
      → now ≡ (value ++ first) ++ gap → Left row at old value said → Left row next old now said
  left_more gap now f e l =
      let o = f l.rest l.here in
      record {
        rest = o.0;
        here = o.1;
        whole = ap (λ u. u ++ o.0) e ∙ append_assoc (value ++ first) gap o.0
            ∙ append_assoc value first (gap ++ o.0) ∙ ap (λ u. value ++ u) (sym o.2) ∙ l.whole;
      }

  -- of one that ends with it, nothing is
  pub left_none : (now : List ℕ) → ((s : List ℕ) → row at s → s ≡ first) → now ≡ value ++ first
      → Left row at old value said → now ≡ old ++ said
  left_none now f e l = e ∙ ap (λ u. value ++ u) (sym (f l.rest l.here)) ∙ l.whole

-- the first part of a row ends before a place
pub record IsApart (part : ℕ → ℕ → List ℕ → Type 0) (from at : ℕ) : Type 0 where
  pub mid : ℕ
  pub first : List ℕ
  pub stands : part from mid first
  pub low : mid ≤ at

-- what a row says up to a part of it that begins at a place, which is the first one or apart
pub record Walked (part row : ℕ → ℕ → List ℕ → Type 0) (from at n : ℕ) : Type 0 where
  pub said : List ℕ
  pub counted : length said ≡ n
  pub on : (to : ℕ) (later : List ℕ) → row at to later → row from to (said ++ later)
  pub apart : (at ≡ from) ⊎ IsApart part from at

module _ {part row : ℕ → ℕ → List ℕ → Type 0} {from : ℕ} where
  -- nothing was passed
  pub walked_none : Walked part row from from 0
  walked_none = record {
    said = [];
    counted = refl;
    on = λ to later r. r;
    apart = inl refl;
  }

  -- one part more
  pub walked_more : {at mid next n k : ℕ} (first gap : List ℕ) → part at mid first
      → ((to : ℕ) (later : List ℕ) → row next to later → row at to (first ++ (gap ++ later)))
      → k ≡ n + length first + length gap → mid ≤ next → at < next
      → Walked part row from at n → Walked part row from next k
  walked_more {at} {mid} {next} first gap p f e low high a = record {
    said = a.said ++ (first ++ gap);
    counted = omega (
      arith,
      e,
      a.counted,
      length-append a.said (first ++ gap),
      length-append first gap,
    );
    on = λ to later r.
        subst (row from to) (sym (append_assoc a.said (first ++ gap) later
        ∙ ap (λ u. a.said ++ u) (append_assoc first gap later)))
        (a.on to (first ++ (gap ++ later)) (f to later r));
    apart = inr (⊎_elim
        (λ (same : at ≡ from). record {
          mid = mid;
          first = first;
          stands = subst (λ i. part i mid first) same p;
          low = low;
        })
        (λ (b : IsApart part from at). record {
          mid = b.mid;
          first = b.first;
          stands = b.stands;
          low = omega (arith, b.low, high);
        }) a.apart);
  }
