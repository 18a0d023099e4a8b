-- The units and words that bytes spell, one by one and in parts.
use Rattle.std.proofs.Common.{ℕ, zero, suc, List, [], ◌∷◌, ◌≡◌, ◌+◌, ◌*◌, ◌/◌, ◌<◌, ◌≤◌, length}
use Rattle.std.proofs.Common.{get_or, take, drop, refl, ap, ◌∙◌, arith}
use Rattle.resb_format.specs.Bytes.{units_of, words_of}

-- bytes have half as many units
pub units_length : (bs : List ℕ) → length (units_of bs) ≡ length bs / 2
unfolding units_of
units_length [] = omega arith
units_length (a ∷ []) = omega arith
units_length (a ∷ b ∷ bs) = let h = units_length bs in omega (arith, h)

pub units_at : (bs : List ℕ) (i : ℕ) → i < length bs / 2
    → get_or (units_of bs) i 0 ≡ get_or bs (2 * i) 0 + 256 * get_or bs (2 * i + 1) 0
unfolding units_of
units_at [] i h = absurd (omega arith)
units_at (a ∷ []) i h = absurd (omega arith)
units_at (a ∷ b ∷ bs) zero h = refl
units_at (a ∷ b ∷ bs) (suc i) h =
    let e : 2 * suc i ≡ suc (suc (2 * i)) = omega arith in
    let f : 2 * suc i + 1 ≡ suc (suc (2 * i + 1)) = omega arith in
    let k : i < length bs / 2 = omega arith in
    rw (f, e) (units_at bs i k)

-- bytes have a fourth as many words
pub words_length : (bs : List ℕ) → length (words_of bs) ≡ length bs / 4
unfolding words_of
words_length [] = omega arith
words_length (a ∷ []) = omega arith
words_length (a ∷ b ∷ []) = omega arith
words_length (a ∷ b ∷ c ∷ []) = omega arith
words_length (a ∷ b ∷ c ∷ d ∷ bs) = let h = words_length bs in omega (arith, h)

pub words_at : (bs : List ℕ) (i : ℕ) → i < length bs / 4
    → get_or (words_of bs) i 0 ≡ get_or bs (4 * i) 0 + 256 * get_or bs (4 * i + 1) 0
    + 65536 * get_or bs (4 * i + 2) 0 + 16777216 * get_or bs (4 * i + 3) 0
unfolding words_of
words_at [] i h = absurd (omega arith)
words_at (a ∷ []) i h = absurd (omega arith)
words_at (a ∷ b ∷ []) i h = absurd (omega arith)
words_at (a ∷ b ∷ c ∷ []) i h = absurd (omega arith)
words_at (a ∷ b ∷ c ∷ d ∷ bs) zero h = refl
words_at (a ∷ b ∷ c ∷ d ∷ bs) (suc i) h =
    let e0 : 4 * suc i ≡ suc (suc (suc (suc (4 * i)))) = omega arith in
    let e1 : 4 * suc i + 1 ≡ suc (suc (suc (suc (4 * i + 1)))) = omega arith in
    let e2 : 4 * suc i + 2 ≡ suc (suc (suc (suc (4 * i + 2)))) = omega arith in
    let e3 : 4 * suc i + 3 ≡ suc (suc (suc (suc (4 * i + 3)))) = omega arith in
    let k : i < length bs / 4 = omega arith in
    rw (e3, e2, e1, e0) (words_at bs i k)

-- the units of the bytes from the ith unit on
pub units_drop : (bs : List ℕ) (i : ℕ) → units_of (drop (2 * i) bs) ≡ drop i (units_of bs)
unfolding units_of
units_drop bs zero = refl
units_drop [] (suc i) =
    let e : 2 * suc i ≡ suc (suc (2 * i)) = omega arith in
    rw e refl
units_drop (a ∷ []) (suc i) =
    let e : 2 * suc i ≡ suc (suc (2 * i)) = omega arith in
    rw e refl
units_drop (a ∷ b ∷ bs) (suc i) =
    let e : 2 * suc i ≡ suc (suc (2 * i)) = omega arith in
    rw e (units_drop bs i)

-- the units of the first bytes
pub units_take : (bs : List ℕ) (n : ℕ) → units_of (take (2 * n) bs) ≡ take n (units_of bs)
unfolding units_of
units_take bs zero = refl
units_take [] (suc n) =
    let e : 2 * suc n ≡ suc (suc (2 * n)) = omega arith in
    rw e refl
units_take (a ∷ []) (suc n) =
    let e : 2 * suc n ≡ suc (suc (2 * n)) = omega arith in
    rw e refl
units_take (a ∷ b ∷ bs) (suc n) =
    let e : 2 * suc n ≡ suc (suc (2 * n)) = omega arith in
    rw e (ap (λ us. (a + 256 * b) ∷ us) (units_take bs n))

-- the units of the bytes of n units from the ith on
pub units_part : (bs : List ℕ) (i n : ℕ)
    → units_of (take (2 * n) (drop (2 * i) bs)) ≡ take n (drop i (units_of bs))
units_part bs i n = units_take (drop (2 * i) bs) n ∙ ap (take n) (units_drop bs i)

-- the words of the bytes from the ith word on
pub words_drop : (bs : List ℕ) (i : ℕ) → words_of (drop (4 * i) bs) ≡ drop i (words_of bs)
unfolding words_of
words_drop bs zero = refl
words_drop [] (suc i) = let e : 4 * suc i ≡ suc (suc (suc (suc (4 * i)))) = omega arith in rw e refl
words_drop (a ∷ []) (suc i) =
    let e : 4 * suc i ≡ suc (suc (suc (suc (4 * i)))) = omega arith in
    rw e refl
words_drop (a ∷ b ∷ []) (suc i) =
    let e : 4 * suc i ≡ suc (suc (suc (suc (4 * i)))) = omega arith in
    rw e refl
words_drop (a ∷ b ∷ c ∷ []) (suc i) =
    let e : 4 * suc i ≡ suc (suc (suc (suc (4 * i)))) = omega arith in
    rw e refl
words_drop (a ∷ b ∷ c ∷ d ∷ bs) (suc i) =
    let e : 4 * suc i ≡ suc (suc (suc (suc (4 * i)))) = omega arith in
    rw e (words_drop bs i)

-- the words of the first bytes
pub words_take : (bs : List ℕ) (n : ℕ) → words_of (take (4 * n) bs) ≡ take n (words_of bs)
unfolding words_of
words_take bs zero = refl
words_take [] (suc n) = let e : 4 * suc n ≡ suc (suc (suc (suc (4 * n)))) = omega arith in rw e refl
words_take (a ∷ []) (suc n) =
    let e : 4 * suc n ≡ suc (suc (suc (suc (4 * n)))) = omega arith in
    rw e refl
words_take (a ∷ b ∷ []) (suc n) =
    let e : 4 * suc n ≡ suc (suc (suc (suc (4 * n)))) = omega arith in
    rw e refl
words_take (a ∷ b ∷ c ∷ []) (suc n) =
    let e : 4 * suc n ≡ suc (suc (suc (suc (4 * n)))) = omega arith in
    rw e refl
words_take (a ∷ b ∷ c ∷ d ∷ bs) (suc n) =
    let e : 4 * suc n ≡ suc (suc (suc (suc (4 * n)))) = omega arith in
    rw e (ap (λ ws. (a + 256 * b + 65536 * c + 16777216 * d) ∷ ws) (words_take bs n))

-- the words of the bytes of n words from the ith on
pub words_part : (bs : List ℕ) (i n : ℕ)
    → words_of (take (4 * n) (drop (4 * i) bs)) ≡ take n (drop i (words_of bs))
words_part bs i n = words_take (drop (4 * i) bs) n ∙ ap (take n) (words_drop bs i)

-- the first word and the first unit
pub no_first_word : (bs : List ℕ) → length bs < 4 → words_of bs ≡ []
unfolding words_of
no_first_word [] h = refl
no_first_word (a ∷ []) h = refl
no_first_word (a ∷ b ∷ []) h = refl
no_first_word (a ∷ b ∷ c ∷ []) h = refl
no_first_word (a ∷ b ∷ c ∷ d ∷ bs) h = absurd (omega arith)

pub first_word_is : (bs : List ℕ) → 4 ≤ length bs
    → words_of bs
    ≡ (get_or bs 0 0 + 256 * get_or bs 1 0 + 65536 * get_or bs 2 0 + 16777216 * get_or bs 3 0)
    ∷ words_of (drop 4 bs)
unfolding words_of
first_word_is [] h = absurd (omega arith)
first_word_is (a ∷ []) h = absurd (omega arith)
first_word_is (a ∷ b ∷ []) h = absurd (omega arith)
first_word_is (a ∷ b ∷ c ∷ []) h = absurd (omega arith)
first_word_is (a ∷ b ∷ c ∷ d ∷ bs) h = refl

pub no_unit : (bs : List ℕ) → length bs < 2 → units_of bs ≡ []
unfolding units_of
no_unit [] h = refl
no_unit (a ∷ []) h = refl
no_unit (a ∷ b ∷ bs) h = absurd (omega arith)

pub unit_first : (bs : List ℕ) → 2 ≤ length bs
    → units_of bs ≡ (get_or bs 0 0 + 256 * get_or bs 1 0) ∷ units_of (drop 2 bs)
unfolding units_of
unit_first [] h = absurd (omega arith)
unit_first (a ∷ []) h = absurd (omega arith)
unit_first (a ∷ b ∷ bs) h = refl

-- the first four units, and those of the bytes behind them
pub four_first : (bs : List ℕ) → 8 ≤ length bs
    → units_of bs ≡ get_or (units_of bs) 0 0 ∷ get_or (units_of bs) 1 0 ∷ get_or (units_of bs) 2 0
    ∷ get_or (units_of bs) 3 0 ∷ units_of (drop 8 bs)
unfolding units_of
four_first [] h = absurd (omega arith)
four_first (a ∷ []) h = absurd (omega arith)
four_first (a ∷ b ∷ []) h = absurd (omega arith)
four_first (a ∷ b ∷ c ∷ []) h = absurd (omega arith)
four_first (a ∷ b ∷ c ∷ d ∷ []) h = absurd (omega arith)
four_first (a ∷ b ∷ c ∷ d ∷ e ∷ []) h = absurd (omega arith)
four_first (a ∷ b ∷ c ∷ d ∷ e ∷ f ∷ []) h = absurd (omega arith)
four_first (a ∷ b ∷ c ∷ d ∷ e ∷ f ∷ g ∷ []) h = absurd (omega arith)
four_first (a ∷ b ∷ c ∷ d ∷ e ∷ f ∷ g ∷ h ∷ bs) long = refl
