-- Which of a compact file's own strings are tops among themselves, but end a text of the pool.
use Rattle.std.proofs.Common.{◌≡◌, ℕ, zero, suc, ◌<◌, ◌≤◌, List, [], ◌∷◌, ◌++◌, length, Option}
use Rattle.std.proofs.Common.{Some, None, Bool, true, false, ◌⊎◌, inl, inr, refl, sym, ◌∙◌, ap}
use Rattle.std.proofs.Common.{subst, arith}
use Rattle.std.proofs.Common.{true≢false, append_assoc, length-append, ◌+◌, get_or, take, Bor}
use Rattle.std.specs.List.{All, Contains}
use Rattle.std.specs.Str.{IsUtf8, bytes_eq}
use Rattle.std.specs.String.{string_bytes}
use Rattle.std.specs.Cmp.Lexicographic.{bytes_decides}
use Rattle.std.proofs.lemmas.Bool.{cases_lt}
use Rattle.std.proofs.lemmas.List.{length-map, length-take-le, length_push, get_or_append_left}
use Rattle.std.proofs.lemmas.List.{get_or_push}
use Rattle.std.proofs.lemmas.List.Elements.{All-contains, All-map, All-push, Contains-append_left}
use Rattle.std.proofs.lemmas.List.Elements.{Contains-append_right, Contains-append_cases}
use Rattle.std.proofs.lemmas.List.Elements.{Contains-push, Contains-push_cases}
use Rattle.resb_pool.specs.Container.{IsTop}
use Rattle.resb_pool.specs.Ended.{AreEnded, AreEndedAmong}
use Rattle.resb_pool.specs.Plan.{IsPlanAmong, nows}
use Rattle.resb_pool.specs.Records.{EndsWith}
use Rattle.resb_pool.specs.declared.packing.Packing.{Packing}
use Rattle.resb_pool.specs.declared.packing.Packing.TheVariants.{Plain, Compact}
use Rattle.resb_lent.specs.Entries.{pairs, pair_of}
use Rattle.resb_lent.specs.Lending.{LendsTexts}
use Rattle.resb_lent.specs.LentBeside.{IsLent, IsTextBeside, LentBeside, beside_empty}
use Rattle.resb_lent.specs.LentBeside.{beside_within}
use Rattle.resb_lent.specs.LentTexts.{IsLentRecord}
use Rattle.resb_lent.specs.PlanWithPool.{AreLentBy, lent_more, lacking}
use Rattle.resb_lent.specs.Inner.LentEndings.{IsLentEnd, NotesEnd, AreLentEnds}
use Rattle.resb_lent.specs.Inner.LentEndings.{AreLentEndsBy}
use Rattle.resb_lent.specs.Inner.Within.{lent_list}
use Rattle.resb_lent.specs.declared.lent_record.LentRecord.{LentRecord}
use Rattle.resb_lent.specs.declared.texts.LentTexts.{LentTexts}
use Rattle.resb_lent.proofs.Among.{plan_among}
use Rattle.resb_lent.proofs.Lying.{ends_of}
use Rattle.resb_lent.proofs.Together.{in_own, lent_of, to_beside, from_beside}

-- what ends with a text that ends with another one
ends_trans : (r t s : List ℕ) → EndsWith r t → EndsWith t s → EndsWith r s
ends_trans r t s x y = record {
  front = x.front ++ y.front;
  is = x.is ∙ ap (λ z. x.front ++ z) y.is ∙ sym (append_assoc x.front y.front s);
}

in_front : (x y : List ℕ × ℕ) (xs : List (List ℕ × ℕ)) → Contains (x ∷ xs) y
    → (x ≡ y) ⊎ Contains xs y
in_front x y xs (zero, l, is) = inl is
in_front x y xs (suc k, l, is) = inr (k, omega (arith, l), is)

in_rest : (x y : List ℕ × ℕ) (xs : List (List ℕ × ℕ)) → Contains xs y → Contains (x ∷ xs) y
in_rest x y xs c = (suc c.0, omega (arith, c.1), c.2)

-- the lowest place of a text among records, if one of them has it
abbrev Lowest : List LentRecord → List ℕ → Type 0
Lowest es s = (p : ℕ) × Contains (pairs es) (s, p)
    × ((q : ℕ) → Contains (pairs es) (s, q) → p ≤ q)

abbrev Nowhere : List LentRecord → List ℕ → Type 0
Nowhere es s = (q : ℕ) → Contains (pairs es) (s, q) → ⊥

lowest : (es : List LentRecord) (s : List ℕ) → Lowest es s ⊎ Nowhere es s
lowest [] s = inr (λ q c. omega (arith, c.1))
lowest (e ∷ es) s = by (bytes_eq (string_bytes e.text) s) refl (lowest es s)
  where
    place_is : (q : ℕ) → pair_of e ≡ (s, q) → e.at ≡ q
    place_is q f = ap (λ (p : List ℕ × ℕ). p.1) f

    behind : (q : ℕ) → Contains (pairs es) (s, q) → Contains (pairs (e ∷ es)) (s, q)
    behind q c = in_rest (pair_of e) (s, q) (pairs es) c

    by : (b : Bool) → bytes_eq (string_bytes e.text) s ≡ b → Lowest es s ⊎ Nowhere es s
        → Lowest (e ∷ es) s ⊎ Nowhere (e ∷ es) s
    by false g rest =
        let other : (q : ℕ) → pair_of e ≡ (s, q) → ⊥ =
        (λ q f. true≢false (sym ((bytes_decides (string_bytes e.text) s).1
        (ap (λ (p : List ℕ × ℕ). p.0) f)) ∙ g)) in
        elim rest [
          | inl m ↦
              inl (
                m.0,
                behind m.0 m.1,
                λ q c. elim (in_front (pair_of e) (s, q) (pairs es) c) [
                  | inl f ↦ absurd (other q f)
                  | inr d ↦ m.2 q d
                ],
              )
          | inr none ↦ inr (λ q c. elim (in_front (pair_of e) (s, q) (pairs es) c) [
            | inl f ↦ other q f
            | inr d ↦ none q d
          ])
        ]
    by true g rest =
        let is : string_bytes e.text ≡ s = (bytes_decides (string_bytes e.text) s).0 g in
        let here : Contains (pairs (e ∷ es)) (s, e.at) =
        (0, omega arith, ap (λ z. (z, e.at)) is) in
        elim rest [
          | inl m ↦ elim (cases_lt m.0 e.at) [
            | inl less ↦
                inl (
                  m.0,
                  behind m.0 m.1,
                  λ q c. elim (in_front (pair_of e) (s, q) (pairs es) c) [
                    | inl f ↦ omega (arith, less, place_is q f)
                    | inr d ↦ m.2 q d
                  ],
                )
            | inr more ↦
                inl (
                  e.at,
                  here,
                  λ q c. elim (in_front (pair_of e) (s, q) (pairs es) c) [
                    | inl f ↦ omega (arith, place_is q f)
                    | inr d ↦ omega (arith, more, m.2 q d)
                  ],
                )
          ]
          | inr none ↦
              inl (
                e.at,
                here,
                λ q c. elim (in_front (pair_of e) (s, q) (pairs es) c) [
                  | inl f ↦ omega (arith, place_is q f)
                  | inr d ↦ absurd (none q d)
                ],
              )
        ]

-- a text that the pool lacks is one of the file's, and has no index
lacks : (block : List ℕ) (A S : List (List ℕ)) (os : List (Option ℕ)) (s : List ℕ)
    → AreLentBy Compact block A S os → Contains (lacking S os) s
    → Contains S s × ((i : ℕ) → LentBeside block A s i → ⊥)
lacks block A [] os s h c = absurd (omega (arith, c.1))
lacks block A (t ∷ S) [] s h c = absurd (omega (arith, c.1))
lacks block A (t ∷ S) (Some i ∷ os) s (lent_more x more) c =
    let r = lacks block A S os s more c in
    ((suc r.0.0, omega (arith, r.0.1), r.0.2), r.1)
lacks block A (t ∷ S) (None ∷ os) s (lent_more x more) (zero, l, is) =
    ((0, omega arith, is), λ i b. x i (subst (λ z. LentBeside block A z i) (sym is) b))
lacks block A (t ∷ S) (None ∷ os) s (lent_more x more) (suc k, l, is) =
    let r = lacks block A S os s more (k, omega (arith, l), is) in
    ((suc r.0.0, omega (arith, r.0.1), r.0.2), r.1)

-- one of the file's is lacked, or has an index
lacked_or_lent : (block : List ℕ) (A S : List (List ℕ)) (os : List (Option ℕ)) (s : List ℕ)
    → AreLentBy Compact block A S os → Contains S s
    → Contains (lacking S os) s ⊎ ((i : ℕ) × LentBeside block A s i)
lacked_or_lent block A [] os s h c = absurd (omega (arith, c.1))
lacked_or_lent block A (t ∷ S) [] s h c = elim h [ ]
lacked_or_lent block A (t ∷ S) (Some i ∷ os) s (lent_more x more) (zero, l, is) =
    inr (i, subst (λ z. LentBeside block A z i) is x)
lacked_or_lent block A (t ∷ S) (None ∷ os) s (lent_more x more) (zero, l, is) =
    inl (0, omega arith, is)
lacked_or_lent block A (t ∷ S) (Some i ∷ os) s (lent_more x more) (suc k, l, is) =
    lacked_or_lent block A S os s more (k, omega (arith, l), is)
lacked_or_lent block A (t ∷ S) (None ∷ os) s (lent_more x more) (suc k, l, is) =
    elim (lacked_or_lent block A S os s more (k, omega (arith, l), is)) [
      | inl c ↦ inl (suc c.0, omega (arith, c.1), c.2)
      | inr b ↦ inr b
    ]

-- a text that isn't empty and has an index ends one of the pool
ends_lent : (block : List ℕ) (A : List (List ℕ)) (t : List ℕ) (i : ℕ) → 0 < length t
    → LentBeside block A t i → IsLentEnd block t
ends_lent block A t i full (beside_empty b) = absurd (omega (arith, full))
ends_lent block A t i full (beside_within {r = r} {at = at} some lies e) =
    (r, (at, lies.own), ends_of r t lies.holds)

-- one string more is looked at: the numbers stay below the count
pub numbers_more : (n : ℕ) (es fs : List ℕ) → All (λ i. i < n) es
    → (fs ≡ es) ⊎ (fs ≡ es ++ n ∷ []) → All (λ i. i < n + 1) fs
numbers_more n es fs h (inl e) =
    subst (All (λ i. i < n + 1)) (sym e) (λ i d l. omega (arith, h i d l))
numbers_more n es fs h (inr e) = subst (All (λ i. i < n + 1)) (sym e)
    (All-push (λ i. i < n + 1) es n (λ i d l. omega (arith, h i d l)) (omega arith))

pub length_taken : (xs : List (Bor (List ℕ))) (n : ℕ) → n < length xs
    → length (nows (take n xs)) ≡ n
length_taken xs n l = length-map (take n xs) (λ (y : Bor (List ℕ)). y.now)
    ∙ length-take-le n xs (omega (arith, l))

-- and the ends of texts of the pool are noted
module _ (block : List ℕ) (S : List (List ℕ)) (s : List ℕ) (n : ℕ) (es : List ℕ)
    (many : length S ≡ n) (within : All (λ i. i < n) es) where
  abbrev Is : List ℕ → ℕ → List ℕ → Type 0
  Is fs i t = (IsLentEnd block t × Contains fs i) ⊎ ((IsLentEnd block t → ⊥) × (Contains fs i → ⊥))

  -- what is told of the texts before, and of this one, is told of all
  both_told : (fs : List ℕ) → ((i : ℕ) → i < n → Is es i (get_or S i []) → Is fs i (get_or S i []))
      → Is fs n s → AreLentEnds block S es → AreLentEnds block (S ++ s ∷ []) fs
  both_told fs kept here old i l = elim (cases_lt i n) [
    | inl b ↦
        let m : i < length S = omega (arith, b, many) in
        subst (Is fs i) (sym (get_or_append_left S (s ∷ []) [] i m)) (kept i b (old i m))
    | inr b ↦
        let e : i ≡ n = omega (arith, b, l, length_push S s, many) in
        let last : get_or (S ++ s ∷ []) i [] ≡ s = get_or_push S s [] i (many ∙ sym e) in
        subst (Is fs i) (sym last) (subst (λ j. Is fs j s) (sym e) here)
  ]

  pub ends_more : (fs : List ℕ) → AreLentEnds block S es → NotesEnd block s n es fs
      → AreLentEnds block (S ++ s ∷ []) fs
  ends_more fs old (inl x) = subst (AreLentEnds block (S ++ s ∷ [])) (sym x.1)
      (both_told (es ++ n ∷ []) kept (inl (x.0, Contains-push es n)) old)
    where
      kept : (i : ℕ) → i < n → Is es i (get_or S i []) → Is (es ++ n ∷ []) i (get_or S i [])
      kept i b (inl y) = inl (y.0, Contains-append_left es (n ∷ []) i y.1)
      kept i b (inr y) = inr (
        y.0,
        λ c. elim (Contains-push_cases es n i c) [
          | inl d ↦ y.1 d
          | inr e ↦ omega (arith, e, b)
        ],
      )
  ends_more fs old (inr x) = subst (AreLentEnds block (S ++ s ∷ [])) (sym x.1)
      (both_told es (λ i b y. y)
      (inr (x.0, λ c. omega (arith, within c.0 n c.1, c.2))) old)

module _ (l : LentTexts) (block : List ℕ) (h : LendsTexts l block) (S : List (List ℕ))
    (utf8 : All IsUtf8 S) where
  abbrev texts : List (List ℕ)
  texts = lent_list l ++ S

  own_of : (s : List ℕ) (p : ℕ) → Contains (pairs l.records.items) (s, p) → IsLentRecord block s p
  own_of s p c =
      All-contains (λ (x : List ℕ × ℕ). IsLentRecord block x.0 x.1) (pairs l.records.items) (s, p)
      (All-map (λ (x : List ℕ × ℕ). IsLentRecord block x.0 x.1) pair_of l.records.items
      (λ i d m. (h.sound i d m).own)) c

  -- a text of which the pool has a record has an index
  has_index : (s : List ℕ) → 0 < length s → Contains S s → IsLent block s
      → (i : ℕ) × LentBeside block S s i
  has_index s full given (at, x) = elim (lowest l.records.items s) [
    | inl m ↦ (
      m.0,
      in_own l block h S utf8 s full given m.0 (record {
        at = m.0;
        own = own_of s m.0 m.1;
        holds = inl refl;
        first = λ p y. m.2 p (h.complete s p y);
        place = refl;
      }),
    )
    | inr none ↦ absurd (none at (h.complete s at x))
  ]

  module _ (found : List (Option ℕ)) (lent : AreLentBy Compact block S S found) (es : List ℕ)
      (ends : AreLentEnds block (lacking S found) es) where
    abbrev own : List (List ℕ)
    own = lacking S found

    -- where a text of the pool ends with it, it's no top of all texts
    no_top : (s : List ℕ) → Contains own s → IsLentEnd block s → IsTop (Contains texts) s → ⊥
    no_top s c (t, x, y) top =
        let e = top.alone t (from_beside l block h S utf8 t (inr x)) y in
        let r = lacks block S S found s lent c in
        let i = has_index s top.nonempty r.0 (subst (IsLent block) e x) in
        r.1 i.0 i.1

    -- where none does, it's one
    still_top : (s : List ℕ) → (IsLentEnd block s → ⊥) → IsTop (Contains own) s
        → IsTop (Contains texts) s
    still_top s none top = record {
      given = Contains-append_right (lent_list l) S s (lacks block S S found s lent top.given).0;
      nonempty = top.nonempty;
      alone = λ t c e. elim (Contains-append_cases (lent_list l) S t c) [
        | inl x ↦ absurd (none (t, lent_of l block h S utf8 t x, e))
        | inr x ↦ elim (lacked_or_lent block S S found t lent x) [
          | inl y ↦ top.alone t y e
          | inr b ↦
              let full : 0 < length t = omega (
                arith,
                ap length e.is,
                length-append e.front s,
                top.nonempty,
              ) in
              let r = ends_lent block S t b.0 full b.1 in
              absurd (none (r.0, r.1, ends_trans r.0 t s r.2 e))
        ]
      ];
    }

    are_ended : AreEndedAmong texts own es
    are_ended = record {
      covers = λ s c.
          Contains-append_right (lent_list l) S s (lacks block S S found s lent c).0;
      each = λ i m top. elim (ends i m) [
        | inl x ↦ inr (λ t. no_top _ top.given x.0 t, x.1)
        | inr x ↦ inl (still_top _ x.0 top, x.1)
      ];
    }

  -- the strings that the pool lacks are planned among all texts of the file and of the pool
  module _ (found : List (Option ℕ)) (es : List ℕ) where
    pub ended_by : (way : Packing) → AreLentBy way block S S found
        → AreLentEndsBy way block (lacking S found) es
        → AreEnded way texts (lacking S found) es
    ended_by Plain lent e = e
    ended_by Compact lent e = are_ended found lent es e

  pub plan_beside : (way : Packing) (L : List (List ℕ)) (us : List ℕ)
      (offset : List ℕ → Option ℕ) → IsPlanAmong way (Contains texts) L us offset
      → IsPlanAmong way (IsTextBeside block S) L us offset
  plan_beside way L us offset p =
      plan_among (Contains texts) (IsTextBeside block S)
      (λ t. (to_beside l block h S utf8 t, from_beside l block h S utf8 t)) way L us offset p
