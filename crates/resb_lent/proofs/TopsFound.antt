-- How tops are found among records in order, and which of them is the greatest that ends with a
-- text.
use Rattle.std.proofs.Common.{◌≡◌, ℕ, ◌+◌, ◌-◌, ◌<◌, ◌≤◌, List, [], ◌∷◌, ◌++◌, length, map, get_or}
use Rattle.std.proofs.Common.{◌⊎◌, inl, inr, refl, sym, ◌∙◌, ap, subst, arith}
use Rattle.std.proofs.Common.{length-append}
use Rattle.std.proofs.lemmas.Bool.{cases_lt}
use Rattle.std.proofs.lemmas.List.{length-map, get_or-append-add, get_or_append_left}
use Rattle.std.proofs.lemmas.List.{length_push, get_or_default, get_or_past}
use Rattle.std.proofs.lemmas.List.Elements.{All-contains}
use Rattle.std.specs.List.{All, Contains}
use Rattle.std.specs.Str.{IsUtf8}
use Rattle.std.specs.declared.cmp.Ordering.TheVariants.{Less, Greater}
use Rattle.resb_pool.specs.Container.{IsTop}
use Rattle.resb_pool.specs.Order.{suffix_cmp}
use Rattle.resb_pool.specs.Records.{EndsWith}
use Rattle.resb_pool.specs.Inner.Tops.{IsTopOf}
use Rattle.resb_pool.specs.declared.packing.Packing.TheVariants.{Compact}
use Rattle.resb_lent.specs.Inner.Within.{record_bytes}
use Rattle.resb_lent.specs.Inner.Tops.{AreInOrder, AreTops, Ascend, numbered_text, text_of_number}
use Rattle.resb_lent.specs.declared.lent_record.LentRecord.{LentRecord}
use Rattle.resb_lent.proofs.Lying.{turned, comes_after}
use Rattle.resb_lent.proofs.TopsLemmas.{Behind, letters, ends_before, ends_between, same_text}

-- what is known once the texts before place i were looked at, of which p is the last
pub record IsFoundBefore (es : List LentRecord) (ns : List ℕ) (i : ℕ) (p tops : List ℕ)
    : Type 0 where
  pub first : i ≡ 0 → p ≡ []
  pub last : (k : ℕ) → i ≡ k + 1 → p ≡ text_of_number es ns k
  pub sound : (m : ℕ) → m < length tops → IsTop (Contains (map record_bytes es)) (text_of_number es tops m)
  pub complete : (j : ℕ) → j < i → IsTop (Contains (map record_bytes es)) (text_of_number es ns j)
      → (m : ℕ) × (m < length tops) × (text_of_number es tops m ≡ text_of_number es ns j)
  pub ascend : Ascend es tops
  pub below : (m j : ℕ) → m < length tops → i ≤ j → j < length ns
      → Behind (text_of_number es ns j) (text_of_number es tops m)

module _ (es : List LentRecord) (utf8 : All IsUtf8 (map record_bytes es)) where
  abbrev T : List (List ℕ)
  T = map record_bytes es

  is_utf8 : (t : List ℕ) → Contains T t → IsUtf8 t
  is_utf8 t c = All-contains IsUtf8 T t utf8 c

  module _ (ns : List ℕ) (o : AreInOrder es ns) where
    abbrev at : ℕ → List ℕ
    at j = text_of_number es ns j

    in_texts : (j : ℕ) → j < length ns → Contains T (at j)
    in_texts j l =
        let n = get_or ns j 0 in
        let m : n < length T = omega (arith, o.within j 0 l, length-map es record_bytes) in
        (n, m, get_or_default T n _ [] m)

    -- each text has a place
    place_of : (t : List ℕ) → Contains T t → (j : ℕ) × (j < length ns) × (at j ≡ t)
    place_of t c =
        let d = o.all c.0 (omega (arith, c.1, length-map es record_bytes)) in
        let is : get_or ns d.0 0 ≡ c.0 = get_or_default ns d.0 0 c.0 d.1 ∙ d.2 in
        (d.0, d.1, ap (numbered_text es) is ∙ get_or_default T c.0 [] t c.1 ∙ c.2)

    -- where the text right before it doesn't end with a text, no other one does
    pub no_other : (j : ℕ) → j < length ns
        → ((k : ℕ) → j ≡ k + 1 → EndsWith (at k) (at j) → ⊥)
        → (t : List ℕ) → Contains T t → EndsWith t (at j) → t ≡ at j
    no_other j l none t c h =
        let u = is_utf8 t c in
        let v = is_utf8 (at j) (in_texts j l) in
        let (i, m, is) = place_of t c in
        elim (cases_lt i j) [
          | inl less ↦
              let k = j - 1 in
              let e : j ≡ k + 1 = omega (arith, less) in
              let n : k < length ns = omega (arith, e, l) in
              absurd (none k e (ends_between t (at k) (at j) u (is_utf8 (at k) (in_texts k n)) v h
              (subst (λ z. Behind (at k) z) is (o.ascend i k (omega (arith, less, e)) n))
              (o.ascend k j (omega (arith, e)) l)))
          | inr more ↦
              same_text t (at j) u v
              (subst (λ z. Behind z (at j)) is (o.ascend j i more m)) (ends_before t (at j) u v h)
        ]

  pub found_none : (ns : List ℕ) → IsFoundBefore es ns 0 [] []
  found_none ns = record {
    first = λ e. refl;
    last = λ k e. absurd (omega (arith, e));
    sound = λ m l. absurd (omega (arith, l));
    complete = λ j l. absurd (omega (arith, l));
    ascend = λ m n l k. absurd (omega (arith, k));
    below = λ m j l. absurd (omega (arith, l));
  }

  module _ (ns : List ℕ) (o : AreInOrder es ns) (i : ℕ) (l : i < length ns) (p : List ℕ)
      (tops : List ℕ) (h : IsFoundBefore es ns i p tops) where
    abbrev text : List ℕ
    text = text_of_number es ns i

    -- the text right before it is p
    before_it : (k : ℕ) → i ≡ k + 1 → EndsWith (text_of_number es ns k) text → EndsWith p text
    before_it k e x = subst (λ z. EndsWith z text) (sym (h.last k e)) x

    pub found_top : 0 < length text → (EndsWith p text → ⊥)
        → IsFoundBefore es ns (i + 1) text (tops ++ get_or ns i 0 ∷ [])
    found_top full none =
        let top : IsTop (Contains T) text = record {
          given = in_texts ns o i l;
          nonempty = full;
          alone = no_other ns o i l (λ k e x. none (before_it k e x));
        } in
        let new = tops ++ get_or ns i 0 ∷ [] in
        let many : length new ≡ length tops + 1 = length_push tops (get_or ns i 0) in
        let old_at : (m : ℕ) → m < length tops
        → text_of_number es new m ≡ text_of_number es tops m =
        (λ m n. ap (numbered_text es) (get_or_append_left tops (get_or ns i 0 ∷ []) 0 m n)) in
        let new_at : (m : ℕ) → m ≡ length tops → text_of_number es new m ≡ text =
        (λ m e. (let f : m ≡ length tops + 0 = omega (arith, e) in
        ap (text_of_number es new) f
        ∙ ap (numbered_text es) (get_or-append-add tops (get_or ns i 0 ∷ []) 0 0))) in
        record {
          first = λ e. absurd (omega (arith, e));
          last = λ k e. ap (text_of_number es ns) (omega (arith, e));
          sound = λ m n. elim (cases_lt m (length tops)) [
            | inl b ↦ subst (IsTop (Contains T)) (sym (old_at m b)) (h.sound m b)
            | inr b ↦ subst (IsTop (Contains T)) (sym (new_at m (omega (arith, b, n, many)))) top
          ];
          complete = λ j n x. elim (cases_lt j i) [
            | inl b ↦
                let (m, q, is) = h.complete j b x in
                (m, omega (arith, q, many), old_at m q ∙ is)
            | inr b ↦ (
              length tops,
              omega (arith, many),
              new_at (length tops) refl ∙ ap (text_of_number es ns) (omega (arith, b, n)),
            )
          ];
          ascend = λ a b m n. elim (cases_lt b (length tops)) [
            | inl less ↦
                subst (λ z. Behind z (text_of_number es new a)) (sym (old_at b less))
                (subst (λ z. Behind (text_of_number es tops b) z)
                (sym (old_at a (omega (arith, m, less)))) (h.ascend a b m less))
            | inr more ↦
                subst (λ z. Behind z (text_of_number es new a))
                (sym (new_at b (omega (arith, more, n, many))))
                (elim (cases_lt a (length tops)) [
                  | inl less ↦
                      subst (λ z. Behind text z) (sym (old_at a less))
                      (h.below a i less (omega arith) l)
                  | inr other ↦
                      subst (λ z. Behind text z)
                      (sym (new_at a (omega (arith, other, m, n, many)))) (o.ascend i i (omega arith) l)
                ])
          ];
          below = λ m j n q r. elim (cases_lt m (length tops)) [
            | inl less ↦
                subst (λ z. Behind (text_of_number es ns j) z) (sym (old_at m less))
                (h.below m j less (omega (arith, q)) r)
            | inr more ↦
                subst (λ z. Behind (text_of_number es ns j) z)
                (sym (new_at m (omega (arith, more, n, many)))) (o.ascend i j (omega (arith, q)) r)
          ];
        }

    -- a text that is empty, or that ends the one right before it, is no other top
    pub found_more : (length text ≡ 0) ⊎ EndsWith p text → IsFoundBefore es ns (i + 1) text tops
    found_more known = record {
      first = λ e. absurd (omega (arith, e));
      last = λ k e. ap (text_of_number es ns) (omega (arith, e));
      sound = h.sound;
      complete = λ j n x. elim (cases_lt j i) [
        | inl b ↦ h.complete j b x
        | inr b ↦
            let e : j ≡ i = omega (arith, b, n) in
            again j e (subst (λ z. IsTop (Contains T) (text_of_number es ns z)) e x)
      ];
      ascend = h.ascend;
      below = λ m j n q r. h.below m j n (omega (arith, q)) r;
    }
      where
        Told : ℕ → Type 0
        Told j = (m : ℕ) × (m < length tops)
            × (text_of_number es tops m ≡ text_of_number es ns j)

        ended : IsTop (Contains T) text → EndsWith p text → Told i
        ended x y = elim (cases_lt 0 i) [
          | inl b ↦
              let k = i - 1 in
              let e : i ≡ k + 1 = omega (arith, b) in
              let same = x.alone (text_of_number es ns k) (in_texts ns o k (omega (arith, e, l)))
              (subst (λ z. EndsWith z text) (h.last k e) y) in
              let (m, q, is) = h.complete k (omega (arith, e))
              (subst (IsTop (Contains T)) (sym same) x) in
              (m, q, is ∙ same)
          | inr b ↦
              let z : p ≡ [] = h.first (omega (arith, b)) in
              absurd (omega (
                arith,
                x.nonempty,
                ap length y.is,
                ap length z,
                length-append y.front text,
              ))
        ]

        again : (j : ℕ) → j ≡ i → IsTop (Contains T) text → Told j
        again j e x = subst Told (sym e) (elim known [
          | inl z ↦ absurd (omega (arith, z, x.nonempty))
          | inr y ↦ ended x y
        ])

  pub tops_found : (ns tops : List ℕ) (i : ℕ) (p : List ℕ) → AreInOrder es ns → length ns ≤ i
      → IsFoundBefore es ns i p tops → AreTops es tops
  tops_found ns tops i p o all h = record {
    sound = h.sound;
    complete = λ r x.
        let (j, l, is) = place_of ns o r x.given in
        let (m, q, same) = h.complete j (omega (arith, l, all))
        (subst (IsTop (Contains T)) (sym is) x) in
        (m, q, same ∙ is);
    ascend = h.ascend;
  }

  -- the greatest top that ends with a text is the last one that isn't behind it
  module _ (ns : List ℕ) (t : AreTops es ns) (s : List ℕ) (u : IsUtf8 s) (count : ℕ)
      (behind : count < length ns
      → suffix_cmp Compact (text_of_number es ns count) s ≡ Greater) where
    -- a top that ends with the text is among the first ones
    among : (r : List ℕ) → IsTop (Contains T) r → EndsWith r s
        → (j : ℕ) × (j < count) × (text_of_number es ns j ≡ r)
    among r x y =
        let (j, l, is) = t.complete r x in
        elim (cases_lt j count) [
          | inl less ↦ (j, less, is)
          | inr more ↦
              let b : Behind r (text_of_number es ns count) =
              subst (λ z. Behind z (text_of_number es ns count)) is (t.ascend count j more l) in
              let g = comes_after (letters r) (letters (text_of_number es ns count)) (letters s) b
              (behind (omega (arith, more, l))) in
              absurd (ends_before r s (is_utf8 r x.given) u y
              (turned (letters r) (letters s) Greater g))
        ]

    pub none_above : count ≡ 0 → (r : List ℕ) → IsTop (Contains T) r → EndsWith r s → ⊥
    none_above z r x y = let (j, l, is) = among r x y in omega (arith, l, z)

    module _ (k : ℕ) (is : count ≡ k + 1) (inside : count ≤ length ns)
        (before : suffix_cmp Compact (text_of_number es ns k) s ≡ Greater → ⊥) where
      abbrev top : List ℕ
      top = text_of_number es ns k

      there : k < length ns
      there = omega (arith, is, inside)

      -- no top that ends with the text is behind it
      not_behind : (r : List ℕ) → IsTop (Contains T) r → EndsWith r s → Behind top r
      not_behind r x y =
          let (j, l, e) = among r x y in
          subst (λ z. Behind top z) e (t.ascend j k (omega (arith, l, is)) there)

      pub greatest_above : EndsWith top s → IsTopOf T s top
      greatest_above h = record {
        own = t.sound k there;
        ends = h;
        greatest = λ q x y g. not_behind q x y (turned (letters q) (letters top) Greater g);
      }

      pub no_top_above : (EndsWith top s → ⊥) → (r : List ℕ) → IsTop (Contains T) r
          → EndsWith r s → ⊥
      no_top_above none r x y = none (ends_between r top s (is_utf8 r x.given)
          (is_utf8 top (t.sound k there).given) u y (not_behind r x y)
          (λ e. before (turned (letters s) (letters top) Less e)))

-- the number of a top is that of a record
pub top_within : (es : List LentRecord) (n : ℕ) → 0 < length (numbered_text es n) → n < length es
top_within es n full = elim (cases_lt n (length es)) [
  | inl l ↦ l
  | inr m ↦ absurd (omega (
    arith,
    full,
    ap length (get_or_past (map record_bytes es) n []
        (omega (arith, m, length-map es record_bytes))),
  ))
]
