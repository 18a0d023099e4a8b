-- In which record a text lies: the last one that doesn't come after it, if one holds it.
use Rattle.std.proofs.Common.{ℕ, List, [], ◌∷◌, ◌≡◌, ◌+◌, ◌<◌, ◌≤◌, inl, inr, length}
use Rattle.std.proofs.Common.{get_or, refl, sym, ap, subst, ◌∙◌, arith, true≢false}
use Rattle.std.proofs.Common.{Option, Some, None, MatchOption, Bool, true, false}
use Rattle.std.specs.Bool.{MatchBool}
use Rattle.std.specs.Cmp.{IsTotalOrder, IsStrictWeakOrder, nat_cmp_is}
use Rattle.std.specs.Ordering.{is_lt, nat_cmp, ordering_then, ordering_reverse}
use Rattle.std.specs.String.{string_bytes}
use Rattle.std.specs.Str.{IsUtf8}
use Rattle.std.specs.declared.cmp.Ordering.{Ordering}
use Rattle.std.specs.declared.cmp.Ordering.TheVariants.{Less, Equal, Greater}
use Rattle.std.proofs.lemmas.Bool.{cases_lt}
use Rattle.std.proofs.lemmas.Cmp.{then_total, on_total, nat_cmp_total, tied_itself}
use Rattle.std.proofs.lemmas.List.{get_or-map, length-map}
use Rattle.std.proofs.lemmas.List.MinMax.{ranks_by}
use Rattle.std.proofs.lemmas.List.Sorted.{sorted_far}
use Rattle.resb_format.specs.Units.{size}
use Rattle.resb_pool.specs.Order.{suffix_cmp, end_last_cmp}
use Rattle.resb_pool.specs.Records.{EndsWith}
use Rattle.resb_pool.specs.declared.packing.Packing.TheVariants.{Plain}
use Rattle.resb_pool.specs.Inner.Cuts.{chars_backwards}
use Rattle.resb_pool.specs.Inner.Extends.{Before, NotAfter}
use Rattle.resb_pool.proofs.Cut.{key_same, ends_extends, extends_ends}
use Rattle.resb_pool.proofs.Least.{held_costs}
use Rattle.resb_pool.proofs.SuffixOrder.{end_last_total, tied_same, extends_not_after, between}
use Rattle.resb_lent.specs.LentTexts.{IsLentRecord, Holds, LiesAt, LentText, LendsText}
use Rattle.resb_lent.specs.LentTexts.{lent_empty, lent_within}
use Rattle.resb_lent.specs.Lending.{LendsTexts}
use Rattle.resb_lent.specs.Inner.Listed.{HasPlace}
use Rattle.resb_lent.specs.Inner.LentEndings.{IsLentEnd}
use Rattle.resb_lent.specs.Inner.Within.{NoneHolds, StandsWithin}
use Rattle.resb_lent.specs.Entries.{IsLentEntry, pair_of, entry_cmp}
use Rattle.resb_lent.specs.declared.lent_record.LentRecord.{LentRecord}
use Rattle.resb_lent.specs.declared.texts.LentTexts.{LentTexts}

abbrev text : LentRecord → List ℕ
text e = string_bytes e.text

abbrev letters : List ℕ → List ℕ
letters t = chars_backwards t

-- later places first
later_first : IsTotalOrder (λ (x y : ℕ). nat_cmp y x)
later_first = record {
  antisymm = λ x y. nat_cmp_total.antisymm y x;
  trans = λ x y z e f. nat_cmp_total.trans z y x f e;
  congr = λ x y z e. nat_cmp_total.antisymm z x
      ∙ ap ordering_reverse (sym (nat_cmp_total.congr y x z e))
      ∙ sym (nat_cmp_total.antisymm z y);
}

pub entry_order : IsStrictWeakOrder (λ (x y : LentRecord). is_lt (entry_cmp x y))
entry_order = ranks_by (then_total (on_total (λ (e : LentRecord). letters (text e)) end_last_total)
    (on_total (λ (e : LentRecord). e.at) later_first)) (λ (e : LentRecord). e)

pub turned : (a b : List ℕ) (o : Ordering) → end_last_cmp a b ≡ o
    → end_last_cmp b a ≡ ordering_reverse o
turned a b o e = end_last_total.antisymm b a ∙ ap ordering_reverse e

-- what isn't before a text that comes after another comes after that one too
pub comes_after : (a b c : List ℕ) → (end_last_cmp a b ≡ Less → ⊥) → end_last_cmp b c ≡ Greater
    → end_last_cmp a c ≡ Greater
comes_after a b c n g = by (end_last_cmp a b) refl
  where
    by : (o : Ordering) → end_last_cmp a b ≡ o → end_last_cmp a c ≡ Greater
    by Less e = absurd (n e)
    by Equal e = end_last_total.congr a b c e ∙ g
    by Greater e = turned c a Less (end_last_total.trans c b a (turned b c Greater g)
        (turned a b Greater e))

-- what holds a text ends with it
pub ends_of : (q s : List ℕ) → Holds q s → EndsWith q s
ends_of q s (inl e) = record { front = []; is = e }
ends_of q s (inr h) = h.ends

ends_not_after : (r s : List ℕ) → IsUtf8 r → IsUtf8 s → EndsWith r s
    → NotAfter (letters r) (letters s)
ends_not_after r s u v h = extends_not_after (letters r) (letters s) (ends_extends r s u v h)

-- a text between one that ends with s and s itself ends with s
ends_between : (r q s : List ℕ) → IsUtf8 r → IsUtf8 q → IsUtf8 s → EndsWith r s
    → (end_last_cmp (letters q) (letters r) ≡ Less → ⊥) → NotAfter (letters q) (letters s)
    → EndsWith q s
ends_between r q s u v w h behind before = by (end_last_cmp (letters q) (letters s)) refl
  where
    by : (o : Ordering) → end_last_cmp (letters q) (letters s) ≡ o → EndsWith q s
    by Less b = extends_ends q s v w (between (letters r) (letters q) (letters s)
        (λ g. behind (turned (letters r) (letters q) Greater g)) b (ends_extends r s u w h))
    by Equal e =
        record { front = []; is = key_same q s v w (tied_same (letters q) (letters s) e) }
    by Greater e = absurd (before e)

-- a text between one that holds s and s itself holds s
holds_between : (r q s : List ℕ) → IsUtf8 r → IsUtf8 q → IsUtf8 s → Holds r s
    → (end_last_cmp (letters q) (letters r) ≡ Less → ⊥) → NotAfter (letters q) (letters s)
    → Holds q s
holds_between r q s u v w h behind before = by (end_last_cmp (letters q) (letters s)) refl
  where
    inside : Holds r s → Before (letters q) (letters s) → Holds q s
    inside (inl e) b = absurd (behind (ap (λ t. end_last_cmp (letters q) (letters t)) e ∙ b))
    inside (inr x) b = inr (record {
      unmarked = x.unmarked;
      ends = extends_ends q s v w (between (letters r) (letters q) (letters s)
          (λ g. behind (turned (letters r) (letters q) Greater g)) b
          (ends_extends r s u w x.ends));
      proper = λ e. (let f : Less ≡ Equal =
          sym b ∙ ap (λ t. end_last_cmp (letters t) (letters s)) e
          ∙ tied_itself end_last_total (letters s) in cc);
    })

    by : (o : Ordering) → end_last_cmp (letters q) (letters s) ≡ o → Holds q s
    by Less e = inside h e
    by Equal e = inl (key_same q s v w (tied_same (letters q) (letters s) e))
    by Greater e = absurd (before e)

-- what holds a text takes no fewer units
holds_size : (r s : List ℕ) → IsUtf8 r → IsUtf8 s → Holds r s → size s ≤ size r
holds_size r s u v (inl e) = let f = ap size e in omega (arith, f)
holds_size r s u v (inr h) = held_costs s r u v h

-- a text that isn't empty and has an index lies in a record
lies_somewhere : (block s : List ℕ) (i : ℕ) → 0 < length s → LentText block s i
    → (r : List ℕ) × (at : ℕ) × IsLentRecord block r at × Holds r s
lies_somewhere block s i full (lent_empty z) = absurd (omega (arith, full))
lies_somewhere block s i full (lent_within {r = r} {at = at} more lies e) =
    (r, at, lies.own, lies.holds)

-- of one text, what stands at a lower place comes later
sorted_later : (t : List ℕ) (p at : ℕ) (q : List ℕ × ℕ) → q ≡ (t, p) → p < at
    → ordering_then (suffix_cmp Plain t q.0) (nat_cmp q.1 at) ≡ Less
sorted_later t p at q f less =
    ap (λ (q : List ℕ × ℕ). ordering_then (suffix_cmp Plain t q.0) (nat_cmp q.1 at)) f
    ∙ ap (λ o. ordering_then o (nat_cmp p at)) (tied_itself end_last_total (letters t))
    ∙ sym (nat_cmp_is p at Less less)

module _ (l : LentTexts) (block : List ℕ) (h : LendsTexts l block) where
  abbrev es : List LentRecord
  es = l.records.items

  is_utf8 : (r : List ℕ) (at : ℕ) → IsLentRecord block r at → IsUtf8 r
  is_utf8 r at x = x.stands.utf8

  -- each record has a number
  number_of : (r : List ℕ) (at : ℕ) → IsLentRecord block r at
      → (j : ℕ) × (j < length es) × ((d : LentRecord) → pair_of (get_or es j d) ≡ (r, at))
  number_of r at x =
      let c = h.complete r at x in
      let m : c.0 < length es = omega (arith, c.1, length-map es pair_of) in
      (c.0, m, λ d. sym (get_or-map pair_of es c.0 d (r, at) m) ∙ c.2)

  -- records stand in order
  entries_far : (i j : ℕ) (d : LentRecord) → i ≤ j → j < length es
      → entry_cmp (get_or es j d) (get_or es i d) ≡ Less → ⊥
  entries_far i j d m n e =
      let f = sorted_far (λ (x y : LentRecord). is_lt (entry_cmp x y)) entry_order es h.sorted i j d
      m n in
      true≢false (sym (ap is_lt e) ∙ f)

  texts_far : (i j : ℕ) (d : LentRecord) → i ≤ j → j < length es
      → suffix_cmp Plain (text (get_or es j d)) (text (get_or es i d)) ≡ Less → ⊥
  texts_far i j d m n e =
      entries_far i j d m n (ap (λ o. ordering_then o (nat_cmp (get_or es i d).at
      (get_or es j d).at)) e)

  module _ (s : List ℕ) (u : IsUtf8 s) (count : ℕ)
      (behind : (d : LentRecord) → count < length es
      → suffix_cmp Plain (text (get_or es count d)) s ≡ Greater) where
    -- a record that ends with the text is among the first ones
    among_ends : (r : List ℕ) (at : ℕ) (d : LentRecord) → IsLentRecord block r at → EndsWith r s
        → (j : ℕ) × (j < count) × (j < length es) × (pair_of (get_or es j d) ≡ (r, at))
    among_ends r at d x y =
        let (j, m, f) = number_of r at x in
        elim (cases_lt j count) [
          | inl n ↦ (j, n, m, f d)
          | inr n ↦
              let g = comes_after (letters (text (get_or es j d)))
              (letters (text (get_or es count d))) (letters s) (texts_far count j d n m)
              (behind d (omega (arith, n, m))) in
              let k : end_last_cmp (letters r) (letters s) ≡ Greater =
              sym (ap (λ p. end_last_cmp (letters p.0) (letters s)) (f d)) ∙ g in
              absurd (ends_not_after r s (is_utf8 r at x) u y k)
        ]

    -- so is one that holds it
    among : (r : List ℕ) (at : ℕ) (d : LentRecord) → IsLentRecord block r at → Holds r s
        → (j : ℕ) × (j < count) × (j < length es) × (pair_of (get_or es j d) ≡ (r, at))
    among r at d x y = among_ends r at d x (ends_of r s y)

    -- where there is none, no record ends with it
    pub none_ends : (r : List ℕ) (at : ℕ) → count ≡ 0 → IsLentRecord block r at → EndsWith r s → ⊥
    none_ends r at z x y = some es refl
      where
        some : (xs : List LentRecord) → xs ≡ es → ⊥
        some [] e =
            let n = number_of r at x in omega (arith, n.1, ap length e)
        some (d ∷ xs) e = let a = among_ends r at d x y in omega (arith, a.1, z)

    -- nor does one hold it
    pub none_holds : (r : List ℕ) (at : ℕ) → count ≡ 0 → IsLentRecord block r at → Holds r s → ⊥
    none_holds r at z x y = none_ends r at z x (ends_of r s y)

    module _ (k : ℕ) (d : LentRecord) (is : count ≡ k + 1) (in_list : k < length es)
        (before : suffix_cmp Plain (text (get_or es k d)) s ≡ Greater → ⊥) where
      abbrev e : LentRecord
      e = get_or es k d

      own : IsLentEntry block e
      own = h.sound k d in_list

      -- if some record holds it, the last one of the first ones does
      pub last_holds : (r : List ℕ) (at : ℕ) → IsLentRecord block r at → Holds r s
          → Holds (text e) s
      last_holds r at x y =
          let (j, m, n, f) = among r at d x y in
          holds_between r (text e) s (is_utf8 r at x) own.own.stands.utf8 u y
          (λ g. texts_far j k d (omega (arith, m, is)) in_list
          (ap (λ p. end_last_cmp (letters (text e)) (letters p.0)) f ∙ g))
          before

      -- if some text of the pool ends with it, the last one of the first ones does
      pub tells_end : (b : Bool) → MatchBool b (EndsWith (text e) s) (EndsWith (text e) s → ⊥)
          → MatchBool b (IsLentEnd block s) (IsLentEnd block s → ⊥)
      tells_end true h = (text e, (e.at, own.own), h)
      tells_end false h = λ (x : IsLentEnd block s). (let (r, (at, l), y) = x in
          let (j, m, n, f) = among_ends r at d l y in
          h (ends_between r (text e) s (is_utf8 r at l) own.own.stands.utf8 u y
          (λ g. texts_far j k d (omega (arith, m, is)) in_list
          (ap (λ p. end_last_cmp (letters (text e)) (letters p.0)) f ∙ g))
          before))

      lies : Holds (text e) s → LiesAt block s (text e) e.at
      lies holds = record {
        own = own.own;
        holds = holds;
        greatest = λ q p x y g. (let (j, m, n, f) = among q p d x y in
            texts_far j k d (omega (arith, m, is)) in_list
            (ap (λ p. end_last_cmp (letters (text e)) (letters p.0)) f
            ∙ turned (letters q) (letters (text e)) Greater g));
        first = λ p x. (let (j, m, n, f) = among (text e) p d x holds in
            elim (cases_lt p e.at) [
              | inl less ↦ absurd (entries_far j k d (omega (arith, m, is)) in_list
                  (sorted_later (text e) p e.at (pair_of (get_or es j d)) f less))
              | inr more ↦ more
            ]);
      }

      -- if the text has a record of its own, it is that of the last one
      pub same_last : (at : ℕ) → IsLentRecord block s at → text e ≡ s
      same_last at x = by (end_last_cmp (letters (text e)) (letters s)) refl
        where
          by : (o : Ordering) → end_last_cmp (letters (text e)) (letters s) ≡ o → text e ≡ s
          by Less f =
              let (j, m, n, g) = among s at d x (inl refl) in
              absurd (texts_far j k d (omega (arith, m, is)) in_list
              (ap (λ p. end_last_cmp (letters (text e)) (letters p.0)) g ∙ f))
          by Equal f = key_same (text e) s own.own.stands.utf8 u
              (tied_same (letters (text e)) (letters s) f)
          by Greater f = absurd (before f)

      -- what lies in it stands there
      pub stands_within : text e ≡ s → (t : List ℕ) (i : ℕ) → HasPlace e t i
          → StandsWithin block s t i
      stands_within q t i p = record {
        at = e.at;
        own = subst (λ r. IsLentRecord block r e.at) q own.own;
        holds = subst (λ r. Holds r t) q p.holds;
        first = λ n x. (lies (inl q)).first n (subst (λ r. IsLentRecord block r n) (sym q) x);
        place = omega (arith, p.ends own.end, own.end, ap size q);
      }

      -- the text itself stands where its record does
      pub stands_whole : text e ≡ s → StandsWithin block s s e.at
      stands_whole q = stands_within q s e.at record {
        holds = inl q;
        ends = λ f. omega (arith, f, ap size q);
      }

      none_within : (t : List ℕ) → IsUtf8 t → (Holds (text e) t → size t ≤ e.end → ⊥)
          → NoneHolds block s t
      none_within t w none at x y =
          let q = same_last at x in
          let holds : Holds (text e) t = subst (λ r. Holds r t) (sym q) y in
          none holds (omega (arith, own.end, holds_size (text e) t own.own.stands.utf8 w holds))

      pub found_within : text e ≡ s → (t : List ℕ) → IsUtf8 t → (o : Option ℕ)
          → MatchOption o (Holds (text e) t → size t ≤ e.end → ⊥) (HasPlace e t)
          → MatchOption o (NoneHolds block s t) (StandsWithin block s t)
      found_within q t w (Some i) p = stands_within q t i p
      found_within q t w None p = none_within t w p

      pub has_index : (o : Option ℕ) → 0 < length s
          → MatchOption o (Holds (text e) s → size s ≤ e.end → ⊥) (HasPlace e s)
          → LendsText block s o
      has_index (Some i) full p =
          let f = p.ends own.end in
          lent_within full (lies p.holds) (f ∙ own.end)
      has_index None full p = λ i t. (let (r, at, x, y) = lies_somewhere block s i full t in
          let holds = last_holds r at x y in
          p holds (omega (arith, own.end, holds_size (text e) s own.own.stands.utf8 u holds)))

    -- where there is no record before it, it has no index
    pub no_index : count ≡ 0 → 0 < length s → (i : ℕ) → LentText block s i → ⊥
    no_index z full i t =
        let (r, at, x, y) = lies_somewhere block s i full t in none_holds r at z x y

  -- a text that differs from the one before it comes after that one
  next_greater : (k : ℕ) (d : LentRecord) → k + 1 < length es
      → (text (get_or es (k + 1) d) ≡ text (get_or es k d) → ⊥)
      → suffix_cmp Plain (text (get_or es (k + 1) d)) (text (get_or es k d)) ≡ Greater
  next_greater k d l other = by (suffix_cmp Plain next this) refl
    where
      this : List ℕ
      this = text (get_or es k d)

      next : List ℕ
      next = text (get_or es (k + 1) d)

      by : (o : Ordering) → suffix_cmp Plain next this ≡ o → suffix_cmp Plain next this ≡ Greater
      by Less e = absurd (texts_far k (k + 1) d (omega arith) l e)
      by Equal e =
          absurd (other (key_same next this (h.sound (k + 1) d l).own.stands.utf8
          (h.sound k d (omega (arith, l))).own.stands.utf8
          (tied_same (letters next) (letters this) e)))
      by Greater e = e

  -- what lies in the last record of one text stands in the first one of the pool
  pub found_last : (k : ℕ) (d : LentRecord) → k < length es → (s : List ℕ)
      → ((e : LentRecord) → text (get_or es k e) ≡ s)
      → ((e : LentRecord) → k + 1 < length es → text (get_or es (k + 1) e) ≡ s → ⊥)
      → (t : List ℕ) → IsUtf8 t → (o : Option ℕ)
      → MatchOption o (Holds (text (get_or es k d)) t → size t ≤ (get_or es k d).end → ⊥)
      (HasPlace (get_or es k d) t)
      → MatchOption o (NoneHolds block s t) (StandsWithin block s t)
  found_last k d l s same last t w o p =
      found_within s (subst IsUtf8 (same d) (h.sound k d l).own.stands.utf8) (k + 1)
      (λ e m. subst (λ z. suffix_cmp Plain (text (get_or es (k + 1) e)) z ≡ Greater) (same e)
      (next_greater k e m (λ f. last e m (f ∙ same e))))
      k d refl l
      (λ g. let f : Equal ≡ Greater = sym (tied_itself end_last_total (letters s))
      ∙ ap (λ z. end_last_cmp (letters z) (letters s)) (sym (same d)) ∙ g in cc)
      (same d) t w o p
