-- The groups that are open at a place are those in whose braces it stands, with the items that
-- stand right in them.
use Rattle.std.proofs.Common.{◌≡◌, ◌∙◌, ℕ, zero, suc, ◌<◌, ◌≤◌, true}
use Rattle.std.proofs.Common.{List, [], ◌∷◌, ◌++◌, refl, sym, ap, subst, arith, ⊎_elim}
use Rattle.std.proofs.Common.{inl, inr, Option, Some, None, append-nil}
use Rattle.std.proofs.lemmas.Bool.{cases_lt, false≢true}
use Rattle.std.proofs.lemmas.Option.{none-some}
use Rattle.resb_grammar.proofs.Numbers.{places_meet}
use Rattle.resb_diagnostics.specs.Pieces.{TextPiece, a_string, a_type, opening, closing}
use Rattle.resb_diagnostics.specs.Pieces.{a_comma, piece_at}
use Rattle.resb_diagnostics.specs.Groups.{GroupItem, string_item, group_item, comma_item, OpenGroup}
use Rattle.resb_diagnostics.specs.Groups.{Nesting, named_behind, groups_at, groups_behind, outside}
use Rattle.resb_diagnostics.specs.Groups.{behind_closing, with_one_more}
use Rattle.resb_diagnostics.specs.IcuKeys.{icu_piece_at, icu_groups_at}
use Rattle.resb_diagnostics.specs.Items.{is_no_item, Stand, none, no_item, string, comma, group}
use Rattle.resb_diagnostics.specs.Items.{stray, IsRightBefore, IsLastBefore, IsOpenFrom, IsOutside}
use Rattle.resb_diagnostics.specs.Items.{IsOpenAt}
use Rattle.resb_diagnostics.specs.declared.named.Named.TheVariants as named

-- the last piece of a text up to a place
abbrev pub newer : {A : Type 0} → Option A → Option A → Option A
newer None l = l
newer (Some p) l = Some p

last_behind : (p : Option TextPiece) (g : Nesting) → (groups_behind p g).last ≡ newer p g.last
last_behind None g = refl
last_behind (Some (a_string s)) g = refl
last_behind (Some (a_type name)) g = refl
last_behind (Some opening) g = refl
last_behind (Some (closing n)) g = by g.around
  where
    by : (around : List OpenGroup) → (behind_closing n g.inner around).last ≡ Some (closing n)
    by [] = refl
    by (next ∷ around) = refl
last_behind (Some (a_comma n)) g = refl

quiet_inner : (p : Option TextPiece) (g : Nesting) → is_no_item p ≡ true
    → (groups_behind p g).inner ≡ g.inner
quiet_inner None g h = refl
quiet_inner (Some (a_string s)) g h = absurd (false≢true h)
quiet_inner (Some (a_type name)) g h = refl
quiet_inner (Some opening) g h = absurd (false≢true h)
quiet_inner (Some (closing n)) g h = absurd (false≢true h)
quiet_inner (Some (a_comma n)) g h = absurd (false≢true h)

quiet_around : (p : Option TextPiece) (g : Nesting) → is_no_item p ≡ true
    → (groups_behind p g).around ≡ g.around
quiet_around None g h = refl
quiet_around (Some (a_string s)) g h = absurd (false≢true h)
quiet_around (Some (a_type name)) g h = refl
quiet_around (Some opening) g h = absurd (false≢true h)
quiet_around (Some (closing n)) g h = absurd (false≢true h)
quiet_around (Some (a_comma n)) g h = absurd (false≢true h)

pub last_on : {A : Type 0} (piece : ℕ → Option A) (n : ℕ) (p o : Option A) → piece n ≡ p
    → IsLastBefore piece n o → IsLastBefore piece (suc n) (newer p o)
last_on piece n (Some p) o e h = record {
  at = n;
  before = omega arith;
  ends = e;
  none = λ k low high. absurd (omega (arith, low, high));
}
last_on piece n None None e h = λ k high.
    ⊎_elim (λ (w : k < n). h k w) (λ (w : n ≤ k). let same : n ≡ k = omega (arith, w, high) in
    subst (λ i. piece i ≡ None) same e) (cases_lt k n)
last_on piece n None (Some q) e h = record {
  at = h.at;
  before = omega (arith, h.before);
  ends = h.ends;
  none = λ k low high. ⊎_elim (λ (w : k < n). h.none k low w)
      (λ (w : n ≤ k). let same : n ≡ k = omega (arith, w, high) in
      subst (λ i. piece i ≡ None) same e) (cases_lt k n);
}

right_before_one : {A : Type 0} (piece : ℕ → Option A) (n : ℕ) (p q : A)
    → IsRightBefore piece n p → IsRightBefore piece n q → Some p ≡ Some q
right_before_one piece n p q a b =
    let same : a.at ≡ b.at = places_meet a.at b.at
    (λ w. none-some q (sym (a.none b.at w b.before) ∙ b.ends))
    (λ w. none-some p (sym (b.none a.at w a.before) ∙ a.ends)) in
    sym a.ends ∙ ap piece same ∙ b.ends

pub last_one : {A : Type 0} (piece : ℕ → Option A) (n : ℕ) (a b : Option A)
    → IsLastBefore piece n a → IsLastBefore piece n b → a ≡ b
last_one piece n None None h k = refl
last_one piece n None (Some q) h k = absurd (none-some q (sym (h k.at k.before) ∙ k.ends))
last_one piece n (Some p) None h k = absurd (none-some p (sym (k h.at h.before) ∙ h.ends))
last_one piece n (Some p) (Some q) h k = right_before_one piece n p q h k

-- between two places these items came to the innermost group, and the others are as they were
record Adds (at : ℕ → Nesting) (from to : ℕ) (items : List GroupItem) : Type 0 where
  pub inner : (at to).inner ≡ (record {
    named = (at from).inner.named;
    items = items ++ (at from).inner.items;
  })
  pub around : (at to).around ≡ (at from).around

-- the innermost group that is open at a place, and those around it, from the inside out
pub data Levels (piece : ℕ → Option TextPiece) : ℕ → OpenGroup → List OpenGroup → Type 0 where
  outer : (n : ℕ) (g : OpenGroup) → IsOutside piece n g → Levels piece n g []
  level : (p n : ℕ) (g next : OpenGroup) (around : List OpenGroup) → IsOpenFrom piece p n g
      → Levels piece p next around → Levels piece n g (next ∷ around)

-- further on, with these items in the innermost group
levels_on : (piece : ℕ → Option TextPiece) (a b : ℕ) (g : OpenGroup) (around : List OpenGroup)
    (items : List GroupItem) → Levels piece a g around
    → ((from : ℕ) → Stand piece from a g.items → Stand piece from b items)
    → Levels piece b (record { named = g.named; items = items }) around
levels_on piece a b g [] items (outer _ _ h) on =
    outer b (record { named = g.named; items = items })
    (record { names = h.names; items = on 0 h.items })
levels_on piece a b g (next ∷ around) items (level p _ _ _ _ h l) on =
    level p b (record { named = g.named; items = items }) next around
    (record {
      opens = h.opens;
      last = h.last;
      before = h.before;
      names = h.names;
      items = on (suc p) h.items;
    }) l

closing_level : (piece : ℕ → Option TextPiece) (n m : ℕ) (inner : OpenGroup)
    (around : List OpenGroup) → piece n ≡ Some (closing m) → Levels piece n inner around
    → Levels piece (suc n) (behind_closing m inner around).inner
    (behind_closing m inner around).around
closing_level piece n m inner [] e (outer _ _ h) =
    outer (suc n) inner (record { names = h.names; items = stray n m inner.items h.items e })
closing_level piece n m inner (next ∷ around) e (level p _ _ _ _ h l) =
    levels_on piece p (suc n) next around (group_item ∷ next.items) l
    (λ from s. group from p n m next.items inner.items s h.opens h.items e)

-- groups that are followed from piece to piece
module _ (piece : ℕ → Option TextPiece) (at : ℕ → Nesting) (starts : at 0 ≡ outside)
    (goes : (n : ℕ) → at (suc n) ≡ groups_behind (piece n) (at n))
  where
    last_in : (n : ℕ) → IsLastBefore piece n (at n).last
    last_in zero =
        subst (IsLastBefore piece 0) (sym (ap (λ g. g.last) starts))
        (λ k low. absurd (omega (arith, low)))
    last_in (suc n) =
        subst (IsLastBefore piece (suc n))
        (sym (ap (λ g. g.last) (goes n) ∙ last_behind (piece n) (at n)))
        (last_on piece n (piece n) (at n).last refl (last_in n))

    groups_on : (n : ℕ) (p : Option TextPiece) → piece n ≡ p
        → at (suc n) ≡ groups_behind p (at n)
    groups_on n p e = goes n ∙ ap (λ q. groups_behind q (at n)) e

    -- behind a group and its `}`
    closed_to : (n m k : ℕ) (inner : List GroupItem) → piece n ≡ Some opening
        → Adds at (suc n) m inner → piece m ≡ Some (closing k)
        → at (suc m) ≡ behind_closing k (at m).inner ((at n).inner ∷ (at n).around)
    closed_to n m k inner o a c =
        groups_on m (Some (closing k)) c
        ∙ ap (behind_closing k (at m).inner)
        (a.around ∙ ap (λ g. g.around) (groups_on n (Some opening) o))

    adds : (from to : ℕ) (items : List GroupItem) → Stand piece from to items
        → Adds at from to items
    adds from to items (none _) = record { inner = refl; around = refl }
    adds from to items (no_item _ n _ rest e) =
        let h = adds from n items rest in record {
          inner = ap (λ g. g.inner) (goes n) ∙ quiet_inner (piece n) (at n) e ∙ h.inner;
          around = ap (λ g. g.around) (goes n) ∙ quiet_around (piece n) (at n) e ∙ h.around;
        }
    adds from to items (string _ n xs s rest e) =
        let h = adds from n xs rest in
        let g = groups_on n (Some (a_string s)) e in record {
          inner = ap (λ o. o.inner) g ∙ ap (with_one_more (string_item s)) h.inner;
          around = ap (λ o. o.around) g ∙ h.around;
        }
    adds from to items (comma _ n m xs rest e) =
        let h = adds from n xs rest in
        let g = groups_on n (Some (a_comma m)) e in record {
          inner = ap (λ o. o.inner) g ∙ ap (with_one_more comma_item) h.inner;
          around = ap (λ o. o.around) g ∙ h.around;
        }
    adds from to items (group _ n m k xs inner rest o is c) =
        let h = adds from n xs rest in
        let g = closed_to n m k inner o (adds (suc n) m inner is) c in record {
          inner = ap (λ l. l.inner) g ∙ ap (with_one_more group_item) h.inner;
          around = ap (λ l. l.around) g ∙ h.around;
        }
    adds from to items (stray n m _ rest e) =
        let h = adds 0 n items rest in
        let none_around = h.around ∙ ap (λ g. g.around) starts in
        let g = groups_on n (Some (closing m)) e
        ∙ ap (behind_closing m (at n).inner) none_around in record {
          inner = ap (λ l. l.inner) g ∙ h.inner;
          around = ap (λ l. l.around) g ∙ sym (ap (λ l. l.around) starts);
        }

    open_from : (p n : ℕ) (g : OpenGroup) → IsOpenFrom piece p n g → (at n).inner ≡ g
    open_from p n g h =
        let a = adds (suc p) n g.items h.items in
        let o = groups_on p (Some opening) h.opens in
        let l = last_one piece p (at p).last h.last (last_in p) h.before in
        a.inner
        ∙ ap (λ k. record { named = k.inner.named; items = g.items ++ k.inner.items }) o
        ∙ ap (λ xs. record { named = named_behind (at p).last; items = xs }) (append-nil g.items)
        ∙ ap (λ t. record { named = t; items = g.items }) (ap named_behind l ∙ sym h.names)

    outside_in : (n : ℕ) (g : OpenGroup) → IsOutside piece n g → (at n).inner ≡ g
    outside_in n g h =
        let a = adds 0 n g.items h.items in
        a.inner
        ∙ ap (λ k. record { named = k.inner.named; items = g.items ++ k.inner.items }) starts
        ∙ ap (λ xs. record { named = named.Nothing; items = xs }) (append-nil g.items)
        ∙ ap (λ t. record { named = t; items = g.items }) (sym h.names)

    -- what is said to be open is so
    is_open_in : (n : ℕ) (g : OpenGroup) → IsOpenAt piece n g → (at n).inner ≡ g
    is_open_in n g (inl h) = open_from h.0 n g h.1
    is_open_in n g (inr h) = outside_in n g h

    -- around a group is the one that is open at its `{`
    around_in : (p n : ℕ) (g : OpenGroup) → IsOpenFrom piece p n g
        → (at n).around ≡ (at p).inner ∷ (at p).around
    around_in p n g h =
        (adds (suc p) n g.items h.items).around
        ∙ ap (λ k. k.around) (groups_on p (Some opening) h.opens)

    levels_behind : (n : ℕ) (p : Option TextPiece) → piece n ≡ p
        → Levels piece n (at n).inner (at n).around
        → Levels piece (suc n) (groups_behind p (at n)).inner (groups_behind p (at n)).around
    levels_behind n None e l =
        let g = at n in
        levels_on piece n (suc n) g.inner g.around g.inner.items l
        (λ from s. no_item from n g.inner.items s (ap is_no_item e))
    levels_behind n (Some (a_type name)) e l =
        let g = at n in
        levels_on piece n (suc n) g.inner g.around g.inner.items l
        (λ from s. no_item from n g.inner.items s (ap is_no_item e))
    levels_behind n (Some (a_string s)) e l =
        let g = at n in
        levels_on piece n (suc n) g.inner g.around (string_item s ∷ g.inner.items) l
        (λ from h. string from n g.inner.items s h e)
    levels_behind n (Some (a_comma m)) e l =
        let g = at n in
        levels_on piece n (suc n) g.inner g.around (comma_item ∷ g.inner.items) l
        (λ from h. comma from n m g.inner.items h e)
    levels_behind n (Some opening) e l =
        let g = at n in
        level n (suc n) (record { named = named_behind g.last; items = [] }) g.inner g.around
        (record {
          opens = e;
          last = g.last;
          before = last_in n;
          names = refl;
          items = none (suc n);
        }) l
    levels_behind n (Some (closing m)) e l =
        closing_level piece n m (at n).inner (at n).around e l

    levels_in : (n : ℕ) → Levels piece n (at n).inner (at n).around
    levels_in zero =
        subst (λ g. Levels piece 0 g.inner g.around) (sym starts)
        (outer 0 outside.inner (record { names = refl; items = none 0 }))
    levels_in (suc n) =
        subst (λ g. Levels piece (suc n) g.inner g.around) (sym (goes n))
        (levels_behind n (piece n) refl (levels_in n))

innermost_level : (piece : ℕ → Option TextPiece) (n : ℕ) (g : OpenGroup)
    (around : List OpenGroup) → Levels piece n g around → IsOpenAt piece n g
innermost_level piece n g [] (outer _ _ h) = inr h
innermost_level piece n g (next ∷ around) (level p _ _ _ _ h l) = inl (p, h)

pub last_is : (text : List ℕ) (n : ℕ) → IsLastBefore (piece_at text) n (groups_at text n).last
last_is text = last_in (piece_at text) (groups_at text) refl (λ n. refl)

pub is_open : (text : List ℕ) (n : ℕ) (g : OpenGroup) → IsOpenAt (piece_at text) n g
    → (groups_at text n).inner ≡ g
is_open text = is_open_in (piece_at text) (groups_at text) refl (λ n. refl)

pub around_from : (text : List ℕ) (p n : ℕ) (g : OpenGroup) → IsOpenFrom (piece_at text) p n g
    → (groups_at text n).around ≡ (groups_at text p).inner ∷ (groups_at text p).around
around_from text = around_in (piece_at text) (groups_at text) refl (λ n. refl)

pub levels : (text : List ℕ) (n : ℕ)
    → Levels (piece_at text) n (groups_at text n).inner (groups_at text n).around
levels text = levels_in (piece_at text) (groups_at text) refl (λ n. refl)

pub open_is : (text : List ℕ) (n : ℕ) → IsOpenAt (piece_at text) n (groups_at text n).inner
open_is text n =
    innermost_level (piece_at text) n (groups_at text n).inner (groups_at text n).around
    (levels text n)

-- the same in a text of ICU's form
pub is_icu_open : (text : List ℕ) (n : ℕ) (g : OpenGroup) → IsOpenAt (icu_piece_at text) n g
    → (icu_groups_at text n).inner ≡ g
is_icu_open text = is_open_in (icu_piece_at text) (icu_groups_at text) refl (λ n. refl)

pub icu_open_is : (text : List ℕ) (n : ℕ)
    → IsOpenAt (icu_piece_at text) n (icu_groups_at text n).inner
icu_open_is text n =
    innermost_level (icu_piece_at text) n (icu_groups_at text n).inner
    (icu_groups_at text n).around
    (levels_in (icu_piece_at text) (icu_groups_at text) refl (λ m. refl) n)
