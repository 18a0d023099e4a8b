-- What the pool has of a compact file's strings, by the record in which each lies among all texts
-- of the file and of the pool.
use Rattle.std.proofs.Common.{◌≡◌, ℕ, zero, suc, ◌<◌, List, [], ◌∷◌, ◌++◌, length, map, get_or}
use Rattle.std.proofs.Common.{Option, Some, None}
use Rattle.std.proofs.Common.{MatchOption, inl, inr, refl, sym, ◌∙◌, ap, subst}
use Rattle.std.proofs.Common.{arith, true≢false, Bor}
use Rattle.std.proofs.lemmas.List.{get_or-map, length-map}
use Rattle.resb_pool.specs.Holders.{AreHolders}
use Rattle.resb_pool.specs.Plan.{nows}
use Rattle.std.specs.List.{All, Contains}
use Rattle.std.specs.Str.{IsUtf8}
use Rattle.std.specs.declared.cmp.Ordering.{Ordering}
use Rattle.std.specs.declared.cmp.Ordering.TheVariants.{Less, Equal, Greater}
use Rattle.std.proofs.lemmas.List.Elements.{All-contains, All-map, Contains-append_left}
use Rattle.std.proofs.lemmas.List.Elements.{Contains-append_right, Contains-append_cases}
use Rattle.resb_pool.specs.Container.{IsContainer, IsTop}
use Rattle.resb_pool.specs.Order.{suffix_cmp}
use Rattle.resb_pool.specs.Records.{EndsWith, IsRecord, IsHeldBy}
use Rattle.resb_pool.specs.Inner.Cuts.{letters_backwards}
use Rattle.resb_pool.specs.declared.packing.Packing.TheVariants.{Compact}
use Rattle.resb_pool.proofs.EndLetters.{letters_same, letters_extend}
use Rattle.resb_pool.proofs.SuffixOrder.{tied_same, extends_not_after}
use Rattle.resb_lent.specs.Entries.{pairs}
use Rattle.resb_lent.specs.Lending.{LendsTexts}
use Rattle.resb_lent.specs.LentBeside.{IsLent, IsTextBeside, MayHoldBeside}
use Rattle.resb_lent.specs.LentBeside.{LentBeside, beside_empty, beside_within, LendsTextBy}
use Rattle.resb_lent.specs.LentTexts.{IsLentRecord, Holds, LentText, LendsText, lent_empty}
use Rattle.resb_lent.specs.LentTexts.{lent_within}
use Rattle.resb_lent.specs.Inner.Within.{NoneHolds, StandsWithin, lent_list, record_bytes}
use Rattle.resb_lent.specs.declared.lent_record.LentRecord.{LentRecord}
use Rattle.resb_lent.specs.declared.texts.LentTexts.{LentTexts}
use Rattle.resb_lent.proofs.Lying.{turned, ends_of}

-- the empty text has the same index in files of either packing
pub empty_beside : (block : List ℕ) (S : List (List ℕ)) (s : List ℕ) (o : Option ℕ)
    → length s ≡ 0 → LendsText block s o → LendsTextBy Compact block S s o
empty_beside block S s (Some i) z h = some s i z h
  where
    some : (s : List ℕ) (i : ℕ) → length s ≡ 0 → LentText block s i → LentBeside block S s i
    some s i z (lent_empty b) = beside_empty b
    some s i z (lent_within full lies e) = absurd (omega (arith, z, full))
empty_beside block S s None z h = λ i x. none s i z h x
  where
    none : (s : List ℕ) (i : ℕ) → length s ≡ 0 → ((j : ℕ) → LentText block s j → ⊥)
        → LentBeside block S s i → ⊥
    none s i z h (beside_empty b) = h 0 (lent_empty b)
    none s i z h (beside_within full lies e) = absurd (omega (arith, z, full))

pub in_list : (es : List LentRecord) (t : List ℕ) (at : ℕ) → Contains (pairs es) (t, at)
    → Contains (map record_bytes es) t
in_list [] t at c = absurd (omega (arith, c.1))
in_list (e ∷ es) t at (zero, lt, is) = (0, omega arith, ap (λ (p : List ℕ × ℕ). p.0) is)
in_list (e ∷ es) t at (suc i, lt, is) =
    let r = in_list es t at (i, omega (arith, lt), is) in (suc r.0, omega (arith, r.1), r.2)

module _ (l : LentTexts) (block : List ℕ) (h : LendsTexts l block) (S : List (List ℕ))
    (utf8 : All IsUtf8 S) where
  abbrev A : List (List ℕ)
  A = lent_list l ++ S

  -- the list has the texts of the file and of the pool, and no others
  pub lent_of : (t : List ℕ) → Contains (lent_list l) t → IsLent block t
  lent_of t c = All-contains (IsLent block) (lent_list l) t
      (All-map (IsLent block) record_bytes l.records.items
      (λ i d m. ((get_or l.records.items i d).at, (h.sound i d m).own))) c

  pub to_beside : (t : List ℕ) → Contains A t → IsTextBeside block S t
  to_beside t c = elim (Contains-append_cases (lent_list l) S t c) [
    | inl x ↦ inr (lent_of t x)
    | inr x ↦ inl x
  ]

  pub from_beside : (t : List ℕ) → IsTextBeside block S t → Contains A t
  from_beside t c = elim c [
    | inl x ↦ Contains-append_right (lent_list l) S t x
    | inr x ↦
        Contains-append_left (lent_list l) S t
        (in_list l.records.items t x.0 (h.complete t x.0 x.1))
  ]

  top_to : (t : List ℕ) → IsTop (Contains A) t → IsTop (IsTextBeside block S) t
  top_to t x = record {
    given = to_beside t x.given;
    nonempty = x.nonempty;
    alone = λ q c. x.alone q (from_beside q c);
  }

  top_from : (t : List ℕ) → IsTop (IsTextBeside block S) t → IsTop (Contains A) t
  top_from t x = record {
    given = from_beside t x.given;
    nonempty = x.nonempty;
    alone = λ q c. x.alone q (to_beside q c);
  }

  record_from : (t : List ℕ) → IsTop (IsTextBeside block S) t → IsRecord A t
  record_from t x =
      let y = top_from t x in
      record { given = y.given; nonempty = y.nonempty; alone = inr y.alone }

  text_utf8 : (t : List ℕ) → IsTextBeside block S t → IsUtf8 t
  text_utf8 t c = elim c [
    | inl x ↦ All-contains IsUtf8 S t utf8 x
    | inr x ↦ x.1.stands.utf8
  ]

  may_utf8 : (s q : List ℕ) → MayHoldBeside block S s q → IsUtf8 q
  may_utf8 s q m = elim m [
    | inl x ↦ x.0.1.stands.utf8
    | inr x ↦ text_utf8 q x.given
  ]

  module _ (s : List ℕ) (full : 0 < length s) (given : Contains S s) where
    u : IsUtf8 s
    u = All-contains IsUtf8 S s utf8 given

    -- a text of which the pool has a record
    pub in_own : (i : ℕ) → StandsWithin block s s i → LentBeside block S s i
    in_own i w = beside_within full (record {
      own = w.own;
      may = inl ((w.at, w.own), refl);
      holds = w.holds;
      greatest = λ q m y g. extends_not_after (letters_backwards Compact q)
          (letters_backwards Compact s)
          (letters_extend Compact q s (may_utf8 s q m) u (ends_of q s y)) g;
      first = w.first;
    }) w.place

    module _ (c : List ℕ) (v : IsUtf8 c) (k : IsContainer Compact A s c)
        (none : NoneHolds block s s) where
      -- what the pool has a record of isn't the text itself
      other : (q : List ℕ) (at : ℕ) → IsLentRecord block q at → q ≡ s → ⊥
      other q at x e = none at (subst (λ t. IsLentRecord block t at) e x) (inl refl)

      in_top : (i : ℕ) → StandsWithin block c s i → LentBeside block S s i
      in_top i w = beside_within full (record {
        own = w.own;
        may = inr (top_to c (elim k.holds [
          | inl e ↦ absurd (other c w.at w.own e)
          | inr t ↦ t
        ]));
        holds = w.holds;
        greatest = λ q m y g. elim m [
          | inl x ↦ other q x.0.0 x.0.1 x.1
          | inr t ↦ k.greatest q (record_from q t) (ends_of q s y) (inr (top_from q t)) g
        ];
        first = w.first;
      }) w.place

      -- where neither has a record there, no index is the text's
      module _ (more : NoneHolds block c s) (r : List ℕ) (at : ℕ) (x : IsLentRecord block r at)
          (t : IsTop (IsTextBeside block S) r) (y : Holds r s)
          (greatest : (q : List ℕ) → MayHoldBeside block S s q → Holds q s
          → suffix_cmp Compact q r ≡ Greater → ⊥) where
        held : IsHeldBy s r
        held = elim y [ inl e ↦ absurd (other r at x e) | inr g ↦ g ]

        -- then the text is no top
        no_top : ((q : List ℕ) → Contains A q → EndsWith q s → q ≡ s) → ⊥
        no_top only = other r at x (only r (from_beside r (inr (at, x))) held.ends)

        top_of : IsTop (Contains A) c
        top_of = elim k.holds [
          | inl e ↦
              let own : IsRecord A s = subst (IsRecord A) e k.own in
              elim own.alone [
                | inl marked ↦ absurd (true≢false (sym held.unmarked ∙ marked))
                | inr only ↦ absurd (no_top only)
              ]
          | inr top ↦ top
        ]

        held_too : IsHeldBy s c
        held_too = record {
          unmarked = held.unmarked;
          ends = k.ends;
          proper = λ e. no_top (λ q g f.
              top_of.alone q g (subst (EndsWith q) (sym e) f) ∙ e);
        }

        nowhere : ⊥
        nowhere = by (suffix_cmp Compact r c) refl
          where
            by : (o : Ordering) → suffix_cmp Compact r c ≡ o → ⊥
            by Less e = greatest c (inr (top_to c top_of)) (inr held_too)
                (turned (letters_backwards Compact r) (letters_backwards Compact c) Less e)
            by Equal e =
                let same = letters_same Compact r c x.stands.utf8 v
                (tied_same (letters_backwards Compact r) (letters_backwards Compact c) e) in
                more at (subst (λ z. IsLentRecord block z at) same x)
                (subst (λ z. Holds z s) same y)
            by Greater e = k.greatest r (record_from r t) (ends_of r s y) (inr (top_from r t)) e

    lacks : (c : List ℕ) → IsUtf8 c → IsContainer Compact A s c → NoneHolds block s s
        → NoneHolds block c s → (i : ℕ) → LentBeside block S s i → ⊥
    lacks c v k none more i b = by s refl i b
      where
        by : (z : List ℕ) → z ≡ s → (i : ℕ) → LentBeside block S z i → ⊥
        by z e i (beside_empty b) = omega (arith, full, ap length e)
        by z e i (beside_within {r = r} {at = at} some lies f) = elim lies.may [
          | inl x ↦ other c v k none r at lies.own (x.1 ∙ e)
          | inr t ↦
              nowhere c v k none more r at lies.own t (subst (Holds r) e lies.holds)
              (λ q m y. lies.greatest q (subst (λ w. MayHoldBeside block S w q) (sym e) m)
              (subst (Holds q) (sym e) y))
        ]

    -- where the pool has no record of the text, it's what stands in its holder's
    pub answered : (c : List ℕ) → IsUtf8 c → IsContainer Compact A s c → NoneHolds block s s
        → (o : Option ℕ) → MatchOption o (NoneHolds block c s) (StandsWithin block c s)
        → LendsTextBy Compact block S s o
    answered c v k none (Some i) x = in_top c v k none i x
    answered c v k none None x = lacks c v k none x

-- in whose record a string lies
pub holder_at : (S : List (List ℕ)) (rs : List (Bor (List ℕ))) (i : ℕ) (d : Bor (List ℕ))
    → AreHolders Compact S (nows rs) → i < length S → 0 < length (get_or S i [])
    → IsContainer Compact S (get_or S i []) (get_or rs i d).now
holder_at S rs i d h l full =
    let m : i < length rs =
    omega (arith, l, h.len, length-map rs (λ (y : Bor (List ℕ)). y.now)) in
    subst (IsContainer Compact S (get_or S i []))
    (get_or-map (λ (y : Bor (List ℕ)). y.now) rs i d [] m) (h.each i l full)
