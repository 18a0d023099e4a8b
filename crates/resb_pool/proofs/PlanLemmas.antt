-- From the texts, containers, sums, records and closing zeros to the plan.
use Rattle.std.proofs.Common.{◌≡◌, ℕ, zero, suc, ◌+◌, ◌<◌, ◌≤◌, ◌^◌, List, [], ◌∷◌, length}
use Rattle.std.proofs.Common.{get_or, Bool, Bor, true, false, cond, not, Option, Some, None}
use Rattle.std.proofs.Common.{MatchOption, ◌↔◌, refl, sym, ◌∙◌, ap, subst, arith, true≢false, inl}
use Rattle.std.proofs.Common.{inr}
use Rattle.std.specs.Prelude.{slice_get, position, nat_le, nat_lt, ◌&&◌}
use Rattle.std.specs.Char.Escape.{encode_utf16}
use Rattle.std.proofs.lemmas.Str.{chars-nil}
use Rattle.std.specs.List.{All, Contains, sum_by, flat_map, position_or_len}
use Rattle.std.specs.List.Sorted.{IsSorted}
use Rattle.std.specs.Option.{option_and_then}
use Rattle.std.specs.Str.{bytes_eq, IsUtf8}
use Rattle.std.specs.Cmp.Lexicographic.{bytes_decides}
use Rattle.std.proofs.lemmas.Bool.{cases_lt, ltb-true, ltb-false}
use Rattle.std.proofs.lemmas.List.{get_or-map, length-map, nil_from_length, get_or_default}
use Rattle.std.proofs.lemmas.Option.{slice_get-get_or}
use Rattle.std.proofs.lemmas.List.Elements.{All-contains}
use Rattle.std.proofs.lemmas.List.Sums.{sum_by-cons, sum_by-append}
use Rattle.resb_format.specs.Units.{units, size, length_marker}
use Rattle.resb_pool.specs.Records.{IsRecord, IsRecords}
use Rattle.resb_pool.specs.Container.{IsContainer}
use Rattle.resb_pool.specs.Pool.{LiesIn, SizeIn, Saved, Precedes, record_units, ClosesAt, Off}
use Rattle.resb_pool.specs.Pool.{IsPool}
use Rattle.resb_pool.specs.Pool.{off_empty, off_within}
use Rattle.resb_pool.specs.Plan.{nows, texts_size, IsPlanAmong}
use Rattle.resb_pool.specs.Inner.Placing.{indexed_text, copies, AreTexts, AreContainers, AreSums}
use Rattle.resb_pool.specs.Inner.Placing.{lying_in, AreHidden}
use Rattle.resb_pool.specs.Inner.Placing.{IsRecordOf, AreEnds, record_text, record_texts}
use Rattle.resb_pool.specs.Inner.Placing.{record_cmp, AllClose, AreOffsets}
use Rattle.resb_pool.specs.Inner.LaidRecords.{AreCounted}
use Rattle.resb_pool.specs.declared.measure.Measure.{Measure}
use Rattle.resb_pool.specs.declared.packing.Packing.{Packing}
use Rattle.resb_pool.specs.declared.packing.Packing.TheVariants.{Plain, Compact}
use Rattle.resb_pool.specs.declared.records.Record.{Record}
use Rattle.resb_pool.proofs.Least.{into_least}
use Rattle.resb_pool.proofs.Distinct.{has_text, index_of, one_index}
use Rattle.resb_pool.proofs.Sizes.{sizes_within}
use Rattle.resb_pool.proofs.Sums.{sized, totals_of, copies_of_all}
use Rattle.resb_pool.proofs.PlacingLemmas.{record_from, container_from, records_from}
use Rattle.resb_pool.proofs.Numbers.{is_in}
use Rattle.resb_pool.proofs.Sharing.{own_size, size_within}
use Rattle.resb_pool.proofs.InOrder.{length-records, neighbours_differ, in_order}
use Rattle.resb_pool.proofs.TextLists.{TextList}

no_record : Record
no_record = record { unit_count = 0; saved = 0; front = 0; next = 0; index = 0 }

no_measure : Measure
no_measure = record { unit_count = 0; size = 0; total = 0 }

size_nil : size [] ≡ 1
size_nil =
    let e : units [] ≡ [] = ap (flat_map encode_utf16) chars-nil in
    ap (λ us. length (cond (nat_le (length us) 40 && true) [] (length_marker (length us))) + length
    us + 1) e

each_sized : (Q : TextList) → length Q ≤ sum_by size Q
each_sized [] = omega arith
each_sized (q ∷ Q) = omega (arith, each_sized Q, sum_by-cons size q Q)

-- distinct texts are few, since each takes a unit
pub texts_few : (S T : TextList) (ms : List Measure) → AreTexts S T ms → texts_size S < 2 ^ 28
    → length T < 2 ^ 28
texts_few S T ms given small =
    let within : sum_by size T ≤ sum_by size S =
    into_least size (λ p r. p ≡ r) (λ p q r e f. e ∙ sym f) T S given.once
    (λ q c. (q, (given.same q).0 c, refl, omega arith)) in
    omega (arith, each_sized T, within, sizes_within S, small)

pub texts_utf8 : (S T : TextList) (ms : List Measure) → AreTexts S T ms → All IsUtf8 T
texts_utf8 S T ms given i d l = All-contains IsUtf8 S (get_or T i d) given.utf8
    ((given.same (get_or T i d)).0 (i, l, get_or_default T i (get_or T i d) d l))

module _ (way : Packing) (S T : TextList) (ms : List Measure) (given : AreTexts S T ms)
    (small : texts_size S < 2 ^ 28)
    (hs : List ℕ) (placed : AreContainers way T hs)
  where
    abbrev back : (s : List ℕ) → Contains S s ↔ Contains T s
    back s = ((given.same s).1, (given.same s).0)

    sizes_small : sum_by size S < 2 ^ 28
    sizes_small = omega (arith, sizes_within S, small)

    total_is : (i : ℕ) (d : Measure) → i < length T
        → (get_or ms i d).total ≡ copies S (indexed_text T i)
    total_is i d l = (given.measured i d l).total_is

    size_is : (i : ℕ) (d : Measure) → i < length T
        → (get_or ms i d).size ≡ size (indexed_text T i)
    size_is i d l = (given.measured i d l).size_is

    pub totals_small : sum_by (λ (m : Measure). m.total) ms < 2 ^ 32
    totals_small = omega (
      arith,
      totals_of S ms T given.len total_is,
      copies_of_all T S given.once,
      sizes_small,
    )

    record_in : (q : ℕ) → q < length T → IsRecord T (indexed_text T q)
        → SizeIn way S (indexed_text T q) S (lying_in hs ms q)
    record_in q l r =
        sized way S T given.utf8 given.once given.same hs placed ms given.len total_is q l r

    -- a record lies in itself
    own_container : (q : ℕ) → q < length T → IsRecord T (indexed_text T q)
        → IsContainer way S (indexed_text T q) (indexed_text T q)
    own_container q l r =
        let at = placed.lies q l in
        container_from T S given.same way (indexed_text T q) (indexed_text T q)
        (subst (λ n. IsContainer way T (indexed_text T q) (indexed_text T n)) (at.itself r)
        (at.container r.nonempty))

    module _ (hidden : List ℕ) (sums : List ℕ) (lying : AreCounted hidden hs ms sums) where
      in_counted : (q : ℕ) → q < length T → q < length hs
      in_counted q l = omega (arith, l, placed.len)

      -- a record that is hidden counts its own size
      counts_itself : (q : ℕ) → q < length T → Contains hidden q
          → get_or sums q 0 ≡ size (indexed_text T q)
      counts_itself q l c =
          lying.hidden q no_measure (in_counted q l) c ∙ size_is q no_measure l

      -- what a record saves among texts, where so much is counted for it
      saved_by : (A : List ℕ → Type 0) → AreHidden way A T hidden → (n q : ℕ) → q < length T
          → IsRecord T (indexed_text T q) → n + size (indexed_text T q) ≡ get_or sums q 0
          → Saved way A S (indexed_text T q) n
      saved_by A hidden_are n q l r e = by way hidden_are (record_in q l r)
        where
          by : (w : Packing) → AreHidden w A T hidden
              → SizeIn w S (indexed_text T q) S (lying_in hs ms q)
              → Saved w A S (indexed_text T q) n
          by Plain none s = subst (SizeIn Plain S (indexed_text T q) S)
              (sym (lying.each q (in_counted q l)
              (λ c. omega (arith, c.1, ap length none))) ∙ sym e) s
          by Compact all s = elim (all.each q l r) [
            | inl top ↦
                inl (
                  top.0,
                  subst (SizeIn Compact S (indexed_text T q) S)
                      (sym (lying.each q (in_counted q l) top.1) ∙ sym e) s,
                )
            | inr h ↦ inr (h.0, omega (arith, e, counts_itself q l h.1))
          ]

      -- the size of a record is counted
      counts_own : (q : ℕ) → q < length T → IsRecord T (indexed_text T q)
          → size (indexed_text T q) ≤ get_or sums q 0
      counts_own q l r = elim (is_in hidden q) [
        | inl there ↦ omega (arith, counts_itself q l there)
        | inr none ↦
            let c = own_container q l r in
            let o = own_size way S (indexed_text T q)
            (record { nonempty = r.nonempty; container = c }) S
            (lying_in hs ms q) (record_in q l r) c.own.given in
            omega (arith, o, lying.each q (in_counted q l) none)
      ]

      pub sums_are : AreSums T ms sums
      sums_are = record {
        measured = given.len;
        len = lying.len ∙ placed.len;
        units_is = λ i d l. (given.measured i d l).units_is;
        size_is = size_is;
        own = counts_own;
      }

      module _ (v : List Record) (records : IsRecords T (record_texts T v))
          (each : All (IsRecordOf T sums) v) where
        pub in_given : IsRecords S (record_texts T v)
        in_given = records_from T S given.same (record_texts T v) records

        pub laid_within : sum_by size (record_texts T v) ≤ sum_by size S
        laid_within = into_least size (λ p r. p ≡ r) (λ p q r e f. e ∙ sym f) (record_texts T v) S
            in_given.once (λ q c. (q, ((in_given.just q).0 c).given, refl, omega arith))

        pub laid_small : sum_by size (record_texts T v) < 2 ^ 28
        laid_small = omega (arith, laid_within, sizes_small)

        record_text_at : (i : ℕ) (d : Record) → i < length v
            → get_or (record_texts T v) i [] ≡ record_text T (get_or v i d)
        record_text_at i d l = get_or-map (record_text T) v i d [] l

        is_record : (i : ℕ) (d : Record) → i < length v → IsRecord T (record_text T (get_or v i d))
        is_record i d l = (records.just (record_text T (get_or v i d))).0 (
          i,
          omega (arith, l, length-map v (record_text T)),
          get_or-map (record_text T) v i d (record_text T (get_or v i d)) l,
        )

        pub saved_at : (A : List ℕ → Type 0) → AreHidden way A T hidden → (i : ℕ) (d : Record)
            → i < length v → Saved way A S (record_text T (get_or v i d)) (get_or v i d).saved
        saved_at A hidden_are i d l =
            let r = get_or v i d in
            let e = each i d l in
            saved_by A hidden_are r.saved r.index e.within (is_record i d l) e.saved_is

        utf8_at : (i : ℕ) (d : Record) → i < length v → IsUtf8 (record_text T (get_or v i d))
        utf8_at i d l = texts_utf8 S T ms given (get_or v i d).index [] (each i d l).within

        -- each record stands before the next
        precedes : (A : List ℕ → Type 0) → AreHidden way A T hidden → IsSorted (record_cmp way T) v
            → (k : ℕ) → k + 1 < length (record_texts T v)
            → Precedes way A S (get_or (record_texts T v) k [])
            (get_or (record_texts T v) (k + 1) [])
        precedes A hidden_are sorted k lt =
            let Q = record_texts T v in
            let n = length-map v (record_text T) in
            let next : suc k ≡ k + 1 = omega arith in
            let a : k < length v = omega (arith, n) in
            let b : k + 1 < length v = omega (arith, n) in
            let here = record_text_at k no_record a in
            let there = record_text_at (k + 1) no_record b in
            let x = get_or v k no_record in
            let y = get_or v (k + 1) no_record in
            let ne : record_text T x ≡ record_text T y
            → ⊥ = λ q. neighbours_differ Q k records.once (omega arith) (here ∙ q
            ∙ sym there ∙ ap (λ i. get_or Q i []) (sym next)) in
            subst (λ z. Precedes way A S z (get_or Q (k + 1) [])) (sym here)
            (subst (Precedes way A S (record_text T x)) (sym there)
            (in_order way A S T x y (each k no_record a).units_is
            (each (k + 1) no_record b).units_is
            (saved_at A hidden_are k no_record a) (saved_at A hidden_are (k + 1) no_record b)
            (utf8_at k no_record a) (utf8_at (k + 1) no_record b)
            (sorted k no_record (omega arith) b) ne))

        pub pool_is : (A : List ℕ → Type 0) → AreHidden way A T hidden
            → IsSorted (record_cmp way T) v → (us : List ℕ)
            → us ≡ 0 ∷ flat_map record_units (record_texts T v)
            → IsPool way A S (record_texts T v) us
        pool_is A hidden_are sorted us u = record {
          records = in_given;
          ordered = λ k lt. precedes A hidden_are sorted k lt;
          units = u;
        }

        module _ (es : List ℕ) (count : length es ≡ length hs) (ends : AreEnds T v v es) where
          closed : (q : ℕ) → q < length T → IsRecord T (indexed_text T q)
              → ClosesAt (record_texts T v) (indexed_text T q) (get_or es q 0)
          closed q l r = at (index_of (record_texts T v) (indexed_text T q)
              ((records.just (indexed_text T q)).1 r))
            where
              at : (f : (i : ℕ) × (i < length (record_texts T v))
                  × (indexed_text (record_texts T v) i ≡ indexed_text T q))
                  → ClosesAt (record_texts T v) (indexed_text T q) (get_or es q 0)
              at f =
                  let i : ℕ = f.0 in
                  let k : i < length v = omega (arith, f.1, length-map v (record_text T)) in
                  let x : Record = get_or v i no_record in
                  let t = sym (record_text_at i no_record k) ∙ f.2 in
                  let n = one_index T x.index q given.once (each i no_record k).within l t in
                  subst (λ z. ClosesAt (record_texts T v) z (get_or es q 0)) t
                  (subst (λ z. ClosesAt (record_texts T v) (record_text T x) (get_or es z 0)) n
                  (ends.closes i no_record k))

          closes_within : (r : List ℕ) (k : ℕ) → ClosesAt (record_texts T v) r k
              → k ≤ sum_by size (record_texts T v)
          closes_within r k c = omega (
            arith,
            c.place,
            ap (sum_by size) c.is,
            sum_by-append size c.before (r ∷ c.after),
            sum_by-cons size r c.after,
          )

          -- the empty text is no record
          empty_zero : (q : ℕ) → q < length T → length (indexed_text T q) ≡ 0 → get_or es q 0 ≡ 0
          empty_zero q l z = ends.others q (λ i d k e.
              omega (arith, (is_record i d k).nonempty, z, ap (λ n. length (indexed_text T n)) e))

          -- where the record of a text closes
          record_end : (i : ℕ) → i < length T → 0 < length (indexed_text T i)
              → LiesIn way S (indexed_text T i) (indexed_text T (get_or hs i 0))
              × ClosesAt (record_texts T v) (indexed_text T (get_or hs i 0))
              (get_or es (get_or hs i 0) 0)
              × (size (indexed_text T i) ≤ size (indexed_text T (get_or hs i 0)))
          record_end i l pos =
              let at = placed.lies i l in
              let c = at.container pos in
              let own = container_from T S given.same way (indexed_text T i)
              (indexed_text T (get_or hs i 0)) c in
              let w = size_within way S given.utf8 (indexed_text T i)
              (indexed_text T (get_or hs i 0))
              ((given.same (indexed_text T i)).0 (has_text T i l)) own
              (λ r. ap (indexed_text T) (at.itself
              (record_from S T back (indexed_text T i) r))) pos in (
                record { nonempty = pos; container = own },
                closed (get_or hs i 0) at.within
                    c.own,
                w,
              )

          -- the empty text closes at unit 0
          empty_end : (i : ℕ) → i < length T → length (indexed_text T i) ≡ 0
              → (get_or es (get_or hs i 0) 0 ≡ 0) × (size (indexed_text T i) ≡ 1)
          empty_end i l z = (
            ap (λ n. get_or es n 0) ((placed.lies i l).empty z) ∙ empty_zero i l z,
            ap size (nil_from_length (indexed_text T i) z) ∙ size_nil,
          )

          pub all_close : AllClose hs ms es
          all_close = λ i d l.
              let m : i < length T = omega (arith, l, placed.len) in
              let at = placed.lies i m in
              elim (cases_lt 0 (length (indexed_text T i))) [
                | inl pos ↦
                    let e = record_end i m pos in
                    record {
                      within = omega (arith, at.within, count, placed.len);
                      reaches = omega (arith, size_is i d m, e.2, e.1.place);
                      small = omega (
                        arith,
                        closes_within (indexed_text T (get_or hs i 0))
                            (get_or es (get_or hs i 0) 0) e.1,
                        laid_small,
                      );
                    }
                | inr z ↦
                    let e = empty_end i m (omega (arith, z)) in
                    record {
                      within = omega (arith, at.within, count, placed.len);
                      reaches = omega (arith, size_is i d m, e.1);
                      small = omega (arith, e.0);
                    }
              ]

          module _ (os : List ℕ) (offsets : AreOffsets hs ms es os) where
            stands : (i : ℕ) → i < length T
                → Off way S (record_texts T v) (indexed_text T i) (get_or os i 0)
            stands i l =
                let d : Measure = record { unit_count = 0; size = 0; total = 0 } in
                let o = offsets.each i d (omega (arith, l, placed.len)) in
                let h = get_or hs i 0 in
                elim (cases_lt 0 (length (indexed_text T i))) [
                  | inl pos ↦
                      let e = record_end i l pos in
                      off_within {s = indexed_text T i} {r = indexed_text T h} {k =
                      get_or os i 0} {c = get_or es h 0} e.0 e.1
                      (omega (arith, o, size_is i d l, e.2, e.1.place))
                  | inr z ↦
                      let e = empty_end i l (omega (arith, z)) in
                      let k : get_or os i 0 ≡ 0 = omega (arith, o, size_is i d l, e.0, e.1) in
                      subst (Off way S (record_texts T v) (indexed_text T i)) (sym k)
                      (subst (λ s. Off way S (record_texts T v) s 0)
                      (sym (nil_from_length (indexed_text T i) (omega (arith, z)))) off_empty)
                ]

            pub planned : (A : List ℕ → Type 0) → AreHidden way A T hidden
                → IsSorted (record_cmp way T) v → All (λ s. length (units s) ≤ 4294967295) S
                → (us : List ℕ) (offset : List ℕ → Option ℕ)
                → us ≡ 0 ∷ flat_map record_units (record_texts T v)
                → ((s : List ℕ) → MatchOption (offset s) (Contains T s → ⊥) (λ k. (i : ℕ)
                × (i < length T) × (indexed_text T i ≡ s) × (k ≡ get_or os i 0)))
                → IsPlanAmong way A S us offset
            planned A hidden_are sorted short us offset u f = record {
              texts = given.utf8;
              short = short;
              room = omega (arith, ap length u, length-records (record_texts T v), laid_small);
              records = record_texts T v;
              pool = pool_is A hidden_are sorted us u;
              offsets = λ s. by s (offset s) (f s);
            }
              where
                by : (s : List ℕ) (o : Option ℕ) → MatchOption o (Contains T s → ⊥) (λ k. (i : ℕ)
                    × (i < length T) × (indexed_text T i ≡ s) × (k ≡ get_or os i 0))
                    → MatchOption o (Contains S s → ⊥) (λ k. Contains S s
                    × Off way S (record_texts T v) s k)
                by s None h = λ c. h ((given.same s).1 c)
                by s (Some k) (i, l, e, q) = (
                  (given.same s).0 (subst (Contains T) e (has_text T i l)),
                  subst (λ z. Off way S (record_texts T v) z k) e
                      (subst (Off way S (record_texts T v) (indexed_text T i)) (sym q)
                      (stands i l)),
                )

-- the place of a text among keys
module _ (s : List ℕ) where
  abbrev is_it : Bor (List ℕ) → Bool
  is_it k = bytes_eq s k.now

  found_at : (ks : List (Bor (List ℕ))) → position_or_len is_it ks < length ks
      → indexed_text (nows ks) (position_or_len is_it ks) ≡ s
  found_at [] l = absurd (omega (arith, l))
  found_at (k ∷ ks) l = by (found_at ks) (bytes_eq s k.now) refl l
    where
      by : (position_or_len is_it ks < length ks
          → indexed_text (nows ks) (position_or_len is_it ks) ≡ s)
          → (b : Bool) → bytes_eq s k.now ≡ b
          → cond (not b) (1 + position_or_len is_it ks) 0 < length (k ∷ ks)
          → indexed_text (nows (k ∷ ks)) (cond (not b) (1 + position_or_len is_it ks) 0) ≡ s
      by rest true e m = sym ((bytes_decides s k.now).0 e)
      by rest false e m =
          let n : 1 + position_or_len is_it ks ≡ suc (position_or_len is_it ks) = omega arith in
          ap (indexed_text (nows (k ∷ ks))) n ∙ rest (omega (arith, m))

  nowhere : (ks : List (Bor (List ℕ))) → length ks ≤ position_or_len is_it ks → Contains (nows ks) s
      → ⊥
  nowhere [] l c = omega (arith, c.1)
  nowhere (k ∷ ks) l c = by (nowhere ks) (bytes_eq s k.now) refl l c
    where
      by : (length ks ≤ position_or_len is_it ks → Contains (nows ks) s → ⊥) → (b : Bool)
          → bytes_eq s k.now ≡ b → length (k ∷ ks) ≤ cond (not b) (1 + position_or_len is_it ks) 0
          → Contains (nows (k ∷ ks)) s → ⊥
      by rest true e m d = omega (arith, m)
      by rest false e m (zero, lt, is) = true≢false (sym ((bytes_decides s k.now).1 (sym is)) ∙ e)
      by rest false e m (suc i, lt, is) = rest (omega (arith, m)) (i, omega (arith, lt), is)

  pub offset_at : (ks : List (Bor (List ℕ))) (os : List ℕ) → length os ≡ length ks
      → MatchOption (option_and_then (slice_get os) (position is_it ks)) (Contains (nows ks) s
      → ⊥) (λ k. (i : ℕ) × (i < length (nows ks)) × (indexed_text (nows ks) i ≡ s)
      × (k ≡ get_or os i 0))
  offset_at ks os e = by (nat_lt (position_or_len is_it ks) (length ks)) refl
    where
      n : ℕ
      n = position_or_len is_it ks

      by : (b : Bool) → nat_lt n (length ks) ≡ b
          → MatchOption (option_and_then (slice_get os) (cond b (Some n) None))
          (Contains (nows ks) s → ⊥) (λ k. (i : ℕ) × (i < length (nows ks))
          × (indexed_text (nows ks) i ≡ s) × (k ≡ get_or os i 0))
      by true f =
          let l : n < length ks = ltb-true n (length ks) f in
          subst (λ o. MatchOption o (Contains (nows ks) s → ⊥) (λ k. (i : ℕ)
          × (i < length (nows ks)) × (indexed_text (nows ks) i ≡ s) × (k ≡ get_or os i 0)))
          (sym (slice_get-get_or os n 0 (omega (arith, l, e))))
          (n, omega (arith, l, length-map ks (λ (k : Bor (List ℕ)). k.now)), found_at ks l, refl)
      by false f = nowhere ks (ltb-false n (length ks) f)
