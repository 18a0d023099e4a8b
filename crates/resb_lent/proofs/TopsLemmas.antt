-- Texts in a compact file's order from the end, and the tops among them: those that no other one
-- ends with.
use Rattle.std.proofs.Common.{◌≡◌, ℕ, zero, suc, ◌+◌, ◌-◌, ◌<◌, ◌≤◌, List, [], ◌∷◌, ◌++◌, length}
use Rattle.std.proofs.Common.{take, Bool, true, false, nat_eq, ◌⊎◌, inl, inr, refl}
use Rattle.std.proofs.Common.{sym, ◌∙◌, ap, subst, arith, append_assoc, length-append}
use Rattle.std.proofs.Common.{true≢false}
use Rattle.std.proofs.lemmas.Bool.Decides.{Decides-eqb}
use Rattle.std.proofs.lemmas.Slice.Eq.{ends_is}
use Rattle.std.specs.List.{Contains, ends_with}
use Rattle.std.specs.Str.{IsUtf8}
use Rattle.std.specs.declared.cmp.Ordering.{Ordering}
use Rattle.std.specs.declared.cmp.Ordering.TheVariants.{Less, Equal, Greater}
use Rattle.resb_pool.specs.Container.{IsTop}
use Rattle.resb_pool.specs.Order.{suffix_cmp}
use Rattle.resb_pool.specs.Records.{EndsWith}
use Rattle.resb_pool.specs.Inner.Cuts.{letters_backwards}
use Rattle.resb_pool.specs.declared.packing.Packing.TheVariants.{Compact}
use Rattle.resb_pool.proofs.EndLetters.{letters_same, letters_extend, letters_end}
use Rattle.resb_pool.proofs.SuffixOrder.{tied_same, extends_not_after, between}
use Rattle.resb_lent.proofs.Lying.{turned, comes_after}

abbrev pub letters : List ℕ → List ℕ
letters t = letters_backwards Compact t

-- t doesn't stand before s
abbrev pub Behind : List ℕ → List ℕ → Type 0
Behind t s = suffix_cmp Compact t s ≡ Less → ⊥

pub ends_itself : (t : List ℕ) → EndsWith t t
ends_itself t = record { front = []; is = refl }

pub ends_trans : (t s r : List ℕ) → EndsWith t s → EndsWith s r → EndsWith t r
ends_trans t s r h k = record {
  front = h.front ++ k.front;
  is = h.is ∙ ap (λ l. h.front ++ l) k.is ∙ sym (append_assoc h.front k.front r);
}

-- two texts: one stands before the other, or they are the same
pub two_texts : (t s : List ℕ) → IsUtf8 t → IsUtf8 s
    → (suffix_cmp Compact t s ≡ Less) ⊎ ((t ≡ s) ⊎ (suffix_cmp Compact s t ≡ Less))
two_texts t s u v = by (suffix_cmp Compact t s) refl
  where
    by : (o : Ordering) → suffix_cmp Compact t s ≡ o
        → (suffix_cmp Compact t s ≡ Less) ⊎ ((t ≡ s) ⊎ (suffix_cmp Compact s t ≡ Less))
    by Less e = inl e
    by Equal e = inr (inl (letters_same Compact t s u v (tied_same (letters t) (letters s) e)))
    by Greater e = inr (inr (turned (letters t) (letters s) Greater e))

-- what is behind a text that is behind another one is behind that one too
pub behind_trans : (c b a : List ℕ) → Behind c b → Behind b a → Behind c a
behind_trans c b a h k e =
    h (turned (letters b) (letters c) Greater
    (comes_after (letters b) (letters a) (letters c) k (turned (letters c) (letters a) Less e)))

-- what ends with a text isn't behind it
pub ends_before : (t s : List ℕ) → IsUtf8 t → IsUtf8 s → EndsWith t s → Behind s t
ends_before t s u v h e = extends_not_after (letters t) (letters s)
    (letters_extend Compact t s u v h) (turned (letters s) (letters t) Less e)

pub same_text : (t s : List ℕ) → IsUtf8 t → IsUtf8 s → Behind t s → Behind s t → t ≡ s
same_text t s u v h k = elim (two_texts t s u v) [
  | inl b ↦ absurd (h b)
  | inr (inl e) ↦ e
  | inr (inr b) ↦ absurd (k b)
]

-- what stands between a text and one that ends with it ends with it too
pub ends_between : (t q s : List ℕ) → IsUtf8 t → IsUtf8 q → IsUtf8 s → EndsWith t s → Behind q t
    → Behind s q → EndsWith q s
ends_between t q s u v w h behind before = elim (two_texts q s v w) [
  | inl b ↦
      letters_end Compact q s v w (between (letters t) (letters q) (letters s)
      (λ g. behind (turned (letters t) (letters q) Greater g)) b (letters_extend Compact t s u w h))
  | inr (inl e) ↦ record { front = []; is = e }
  | inr (inr b) ↦ absurd (before b)
]

-- whether a text ends with another one
pub either_ends : (t s : List ℕ) → EndsWith t s ⊎ (EndsWith t s → ⊥)
either_ends t s = by (ends_with nat_eq t s) refl
  where
    by : (b : Bool) → ends_with nat_eq t s ≡ b → EndsWith t s ⊎ (EndsWith t s → ⊥)
    by true e = inl (record {
      front = take (length t - length s) t;
      is = (ends_is Decides-eqb t s (ends_with nat_eq t s) refl).0 e;
    })
    by false e = inr (λ h. true≢false (sym
        ((ends_is Decides-eqb t s (ends_with nat_eq t s) refl).1 h.front h.is) ∙ e))

-- of two texts, one of which ends with the other, the other one is shorter or the same
pub longer_or_same : (t s : List ℕ) → EndsWith t s → (length s < length t) ⊎ (t ≡ s)
longer_or_same t s h = by h.front h.is
  where
    by : (f : List ℕ) → t ≡ f ++ s → (length s < length t) ⊎ (t ≡ s)
    by [] e = inr e
    by (x ∷ f) e = inl (omega (arith, ap length e, length-append (x ∷ f) s))

-- texts that end with each other are the same
pub ends_both : (t s : List ℕ) → EndsWith t s → EndsWith s t → t ≡ s
ends_both t s h k = elim (longer_or_same t s h) [
  | inl l ↦ elim (longer_or_same s t k) [
    | inl m ↦ absurd (omega (arith, l, m))
    | inr e ↦ sym e
  ]
  | inr e ↦ e
]

-- a longer text of the list that ends with a text, or none
find_longer : (T : List (List ℕ)) (t : List ℕ)
    → ((r : List ℕ) × Contains T r × EndsWith r t × (length t < length r))
    ⊎ ((r : List ℕ) → Contains T r → EndsWith r t → r ≡ t)
find_longer [] t = inr (λ r c h. absurd (omega (arith, c.1)))
find_longer (x ∷ T) t = elim (find_longer T t) [
  | inl (r, (i, l, is), h, m) ↦ inl (r, (suc i, omega (arith, l), is), h, m)
  | inr none ↦ first none
]
  where
    Longer : Type 0
    Longer = (r : List ℕ) × Contains (x ∷ T) r × EndsWith r t × (length t < length r)

    None_longer : Type 0
    None_longer = (r : List ℕ) → Contains (x ∷ T) r → EndsWith r t → r ≡ t

    others : ((r : List ℕ) → Contains T r → EndsWith r t → r ≡ t)
        → (EndsWith x t → x ≡ t) → None_longer
    others none same r (zero, l, is) h =
        sym is ∙ same (subst (λ z. EndsWith z t) (sym is) h)
    others none same r (suc i, l, is) h = none r (i, omega (arith, l), is) h

    first : ((r : List ℕ) → Contains T r → EndsWith r t → r ≡ t) → Longer ⊎ None_longer
    first none = elim (either_ends x t) [
      | inl h ↦ elim (longer_or_same x t h) [
        | inl m ↦ inl (x, (zero, omega arith, refl), h, m)
        | inr e ↦ inr (others none (λ k. e))
      ]
      | inr other ↦ inr (others none (λ k. absurd (other k)))
    ]

-- the bytes of all texts together
total : List (List ℕ) → ℕ
total [] = 0
total (x ∷ T) = length x + total T

-- a text is no longer than all together
within_total : (T : List (List ℕ)) (r : List ℕ) → Contains T r → length r ≤ total T
unfolding total
within_total [] r c = absurd (omega (arith, c.1))
within_total (x ∷ T) r (zero, l, is) =
    let e : length x ≡ length r = ap length is in omega (arith, e)
within_total (x ∷ T) r (suc i, l, is) =
    omega (arith, within_total T r (i, omega (arith, l), is))

climb : (T : List (List ℕ)) (n : ℕ) (t : List ℕ) → Contains T t → 0 < length t
    → ((r : List ℕ) → Contains T r → length r < length t + n)
    → (r : List ℕ) × IsTop (Contains T) r × EndsWith r t
climb T zero t c full bound = absurd (omega (arith, bound t c))
climb T (suc n) t c full bound = elim (find_longer T t) [
  | inl (r, d, h, m) ↦
      let (q, top, k) = climb T n r d (omega (arith, m))
      (λ x e. omega (arith, bound x e, m)) in
      (q, top, ends_trans q r t k h)
  | inr none ↦ (t, record { given = c; nonempty = full; alone = none }, ends_itself t)
]

-- some top ends with each text that isn't empty
pub top_exists : (T : List (List ℕ)) (t : List ℕ) → Contains T t → 0 < length t
    → (r : List ℕ) × IsTop (Contains T) r × EndsWith r t
top_exists T t c full = climb T (suc (total T)) t c full
    (λ r d. omega (arith, within_total T r d))
