-- A block in which keys stand, of which none is the end of another, has room for all of them.
use Rattle.std.proofs.Common.{◌≡◌, ℕ, zero, suc, ◌+◌, ◌≤◌, List, [], ◌∷◌, ◌++◌, ◌⊎◌, length}
use Rattle.std.proofs.Common.{inl, inr, refl, sym, ap, ◌∙◌, arith, append_assoc, append-nil}
use Rattle.std.proofs.Common.{length-append}
use Rattle.std.specs.List.{AllByRecursion}
use Rattle.resb_layout.specs.KeyBlock.{key_bytes}
use Rattle.resb_layout.specs.KeyLaws.{StandsIn, AreApart}
use Rattle.resb_pool.specs.Records.{EndsWith}

-- no byte is zero
abbrev pub NoZero : List ℕ → Type 0
NoZero = AllByRecursion (λ b. b ≡ 0 → ⊥)

-- none of the keys is the end of another
abbrev pub Apart : List (List ℕ) → Type 0
Apart [] = Unit {0}
Apart (k ∷ ks) = AllByRecursion (AreApart k) ks × Apart ks

same_head : (a b : ℕ) (xs ys : List ℕ) → a ∷ xs ≡ b ∷ ys → a ≡ b
same_head a b xs ys e = cc

same_tail : (a b : ℕ) (xs ys : List ℕ) → a ∷ xs ≡ b ∷ ys → xs ≡ ys
same_tail a b xs ys e = cc

-- what stands before the first zero byte is one
first_part : (xs ys us vs : List ℕ) → NoZero xs → NoZero ys → xs ++ 0 ∷ us ≡ ys ++ 0 ∷ vs
    → xs ≡ ys
first_part [] [] us vs h g e = refl
first_part [] (y ∷ ys) us vs h g e = absurd (g.0 (sym (same_head 0 y us (ys ++ 0 ∷ vs) e)))
first_part (x ∷ xs) [] us vs h g e = absurd (h.0 (same_head x 0 (xs ++ 0 ∷ us) vs e))
first_part (x ∷ xs) (y ∷ ys) us vs h g e =
    λ i. same_head x y (xs ++ 0 ∷ us) (ys ++ 0 ∷ vs) e i
    ∷ first_part xs ys us vs h.1 g.1 (same_tail x y (xs ++ 0 ∷ us) (ys ++ 0 ∷ vs) e) i

-- a key that stands in a block ends before the first zero byte, or stands behind it
before_or_behind : (seg rest before behind k : List ℕ) → NoZero seg → NoZero k
    → seg ++ 0 ∷ rest ≡ before ++ (k ++ 0 ∷ behind) → EndsWith seg k ⊎ StandsIn rest k
before_or_behind seg rest [] behind k h g e =
    inl (record { front = []; is = first_part seg k rest behind h g e })
before_or_behind [] rest (x ∷ before) behind k h g e =
    inr (record {
      before = before;
      behind = behind;
      is = same_tail 0 x rest (before ++ (k ++ 0 ∷ behind)) e;
    })
before_or_behind (s ∷ seg) rest (x ∷ before) behind k h g e =
    elim (before_or_behind seg rest before behind k h.1 g
    (same_tail s x (seg ++ 0 ∷ rest) (before ++ (k ++ 0 ∷ behind)) e)) [
      | inl w ↦ inl (record { front = s ∷ w.front; is = ap (λ l. s ∷ l) w.is })
      | inr w ↦ inr w
    ]

-- nothing stands where no byte is zero
none_stands : (seg before behind k : List ℕ) → NoZero seg
    → seg ≡ before ++ (k ++ 0 ∷ behind) → ⊥
none_stands [] [] behind [] h e = cc
none_stands [] [] behind (b ∷ k) h e = cc
none_stands [] (x ∷ before) behind k h e = cc
none_stands (s ∷ seg) [] behind [] h e = h.0 (same_head s 0 seg behind e)
none_stands (s ∷ seg) [] behind (b ∷ k) h e =
    none_stands seg [] behind k h.1 (same_tail s b seg (k ++ 0 ∷ behind) e)
none_stands (s ∷ seg) (x ∷ before) behind k h e =
    none_stands seg before behind k h.1 (same_tail s x seg (before ++ (k ++ 0 ∷ behind)) e)

-- of two ends of one text one is the end of the other
two_ends : (f g j k : List ℕ) → f ++ k ≡ g ++ j → EndsWith k j ⊎ EndsWith j k
two_ends [] g j k e = inl (record { front = g; is = e })
two_ends (x ∷ f) [] j k e = inr (record { front = x ∷ f; is = sym e })
two_ends (x ∷ f) (y ∷ g) j k e =
    two_ends f g j k (same_tail x y (f ++ k) (g ++ j) e)

-- so of keys that are apart one alone is an end
others_stand : (seg rest k : List ℕ) (ks : List (List ℕ)) → EndsWith seg k
    → AllByRecursion (AreApart k) ks
    → AllByRecursion (λ j. EndsWith seg j ⊎ StandsIn rest j) ks
    → AllByRecursion (StandsIn rest) ks
others_stand seg rest k [] w a h = tt
others_stand seg rest k (j ∷ ks) w a h =
    (stands h.0, others_stand seg rest k ks w a.1 h.1) where
      stands : EndsWith seg j ⊎ StandsIn rest j → StandsIn rest j
      stands (inl v) =
          elim (two_ends w.front v.front j k (sym w.is ∙ v.is)) [
            | inl x ↦ absurd (a.0.0 x)
            | inr x ↦ absurd (a.0.1 x)
          ]
      stands (inr s) = s

key_count : (k : List ℕ) (ks : List (List ℕ))
    → length (key_bytes (k ∷ ks)) ≡ length k + 1 + length (key_bytes ks)
key_count k ks =
    omega (
      arith,
      length-append (k ++ 0 ∷ []) (key_bytes ks),
      length-append k (0 ∷ []),
    )

end_length : (seg k : List ℕ) → EndsWith seg k → length k ≤ length seg
end_length seg k w = omega (arith, ap length w.is, length-append w.front k)

-- keys that are left of others
pub record Left (seg rest : List ℕ) (ks : List (List ℕ)) : Type 0 where
  pub keys : List (List ℕ)
  pub texts : AllByRecursion NoZero ks → AllByRecursion NoZero keys
  pub others : (k : List ℕ) → AllByRecursion (AreApart k) ks → AllByRecursion (AreApart k) keys
  pub apart : Apart keys
  pub stand : AllByRecursion (StandsIn rest) keys
  pub few : length (key_bytes ks) ≤ length seg + 1 + length (key_bytes keys)

left_behind : (seg rest : List ℕ) (ks : List (List ℕ)) → Apart ks
    → AllByRecursion (λ j. EndsWith seg j ⊎ StandsIn rest j) ks → Left seg rest ks
left_behind seg rest [] a h = record {
  keys = [];
  texts = λ x. tt;
  others = λ k x. tt;
  apart = tt;
  stand = tt;
  few = omega arith;
}
left_behind seg rest (k ∷ ks) a h = by h.0 (left_behind seg rest ks a.1 h.1) where
  by : EndsWith seg k ⊎ StandsIn rest k → Left seg rest ks → Left seg rest (k ∷ ks)
  by (inl w) l = record {
    keys = ks;
    texts = λ x. x.1;
    others = λ j x. x.1;
    apart = a.1;
    stand = others_stand seg rest k ks w a.0 h.1;
    few = omega (arith, key_count k ks, end_length seg k w);
  }
  by (inr s) l = record {
    keys = k ∷ l.keys;
    texts = λ x. (x.0, l.texts x.1);
    others = λ j x. (x.0, l.others j x.1);
    apart = (l.others k a.0, l.apart);
    stand = (s, l.stand);
    few = omega (arith, key_count k ks, key_count k l.keys, l.few);
  }

each_side : (seg rest : List ℕ) (ks : List (List ℕ)) → NoZero seg → AllByRecursion NoZero ks
    → AllByRecursion (StandsIn (seg ++ 0 ∷ rest)) ks
    → AllByRecursion (λ j. EndsWith seg j ⊎ StandsIn rest j) ks
each_side seg rest [] z y h = tt
each_side seg rest (k ∷ ks) z y h = (
  before_or_behind seg rest h.0.before h.0.behind k z y.0 h.0.is,
  each_side seg rest ks z y.1 h.1,
)

no_zero_more : (seg : List ℕ) (b : ℕ) → NoZero seg → (b ≡ 0 → ⊥) → NoZero (seg ++ b ∷ [])
no_zero_more [] b z h = (h, tt)
no_zero_more (s ∷ seg) b z h = (z.0, no_zero_more seg b z.1 h)

moved : (seg rest : List ℕ) (b : ℕ) → (seg ++ b ∷ []) ++ rest ≡ seg ++ b ∷ rest
moved seg rest b = append_assoc seg (b ∷ []) rest

all_moved : (xs ys : List ℕ) (ks : List (List ℕ)) → xs ≡ ys → AllByRecursion (StandsIn ys) ks
    → AllByRecursion (StandsIn xs) ks
all_moved xs ys [] e h = tt
all_moved xs ys (k ∷ ks) e h = (
  record { before = h.0.before; behind = h.0.behind; is = e ∙ h.0.is },
  all_moved xs ys ks e h.1,
)

-- the bytes seg have no zero, and the rest of the block is still to be gone through
room : (rest seg : List ℕ) (ks : List (List ℕ)) → NoZero seg → Apart ks
    → AllByRecursion NoZero ks → AllByRecursion (StandsIn (seg ++ rest)) ks
    → length (key_bytes ks) ≤ length seg + length rest
room [] seg [] z a y h = omega arith
room [] seg (k ∷ ks) z a y h =
    absurd (none_stands seg h.0.before h.0.behind k z (sym (append-nil seg) ∙ h.0.is))
room (zero ∷ rest) seg ks z a y h =
    let l = left_behind seg rest ks a (each_side seg rest ks z y h) in
    let less = room rest [] l.keys tt l.apart (l.texts y) l.stand in
    omega (arith, l.few, less)
room (suc b ∷ rest) seg ks z a y h =
    let less = room rest (seg ++ suc b ∷ []) ks (no_zero_more seg (suc b) z (λ e. absurd (omega (arith, e)))) a y
    (all_moved ((seg ++ suc b ∷ []) ++ rest) (seg ++ suc b ∷ rest) ks (moved seg rest (suc b)) h) in
    omega (arith, less, length-append seg (suc b ∷ []))

-- a block in which keys that are apart stand is no shorter than they are
pub no_shorter : (block : List ℕ) (ks : List (List ℕ)) → Apart ks → AllByRecursion NoZero ks
    → AllByRecursion (StandsIn block) ks → length (key_bytes ks) ≤ length block
no_shorter block ks a y h = let r = room block [] ks tt a y h in omega (arith, r)
