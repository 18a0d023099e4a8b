-- Lists in which nothing stands twice.
use Rattle.std.proofs.Common.{◌≡◌, ◌≢◌, Bool, true, false, List, [], ◌∷◌, ◌++◌, sym, subst}
use Rattle.std.proofs.Common.{⊎_elim, inl, inr, arith, Contains, AllPairs}
use Rattle.std.specs.Prelude.{if◌then◌else◌, ◌⊎◌}
use Rattle.std.proofs.lemmas.List.Elements.{Contains-append_left, Contains-append_right}
use Rattle.std.proofs.lemmas.List.Elements.{Contains-append_cases, All-contains_itself, All-weaker}
use Rattle.std.proofs.lemmas.List.Kept.{AllPairs-cons}
use Rattle.resb_diagnostics.proofs.RepeatsLemmas.{never, single, has}

pub head : {A : Type 0} (x : A) (xs : List A) → Contains (x ∷ xs) x
head x xs = Contains-append_left (x ∷ []) xs x (has x)

pub tail : {A : Type 0} (x : A) (xs : List A) (y : A) → Contains xs y → Contains (x ∷ xs) y
tail x xs y c = Contains-append_right (x ∷ []) xs y c

pub head_or_tail : {A : Type 0} (x : A) (xs : List A) (y : A) → Contains (x ∷ xs) y
    → (y ≡ x) ⊎ Contains xs y
head_or_tail x xs y c =
    ⊎_elim (λ (w : Contains (x ∷ []) y). inl (single x y w)) (λ (w : Contains xs y). inr w)
    (Contains-append_cases (x ∷ []) xs y c)

pub data Once {A : Type 0} : List A → Type 0 where
  no_more : Once []
  one : (x : A) (xs : List A) → (Contains xs x → ⊥) → Once xs → Once (x ∷ xs)

pub once_single : {A : Type 0} (x : A) → Once (x ∷ [])
once_single x = one x [] (never x) no_more

pub once_if : {A : Type 0} (b : Bool) (x : A) → Once (if b then x ∷ [] else [])
once_if true x = once_single x
once_if false x = no_more

pub once_append : {A : Type 0} (xs ys : List A) → Once xs → Once ys
    → ((x : A) → Contains xs x → Contains ys x → ⊥) → Once (xs ++ ys)
once_append [] ys no_more k apart = k
once_append (x ∷ xs) ys (one _ _ isnt h) k apart =
    one x (xs ++ ys)
    (λ c. ⊎_elim isnt (apart x (head x xs)) (Contains-append_cases xs ys x c))
    (once_append xs ys h k (λ y c d. apart y (tail x xs y c) d))

pub once_suffix : {A : Type 0} (xs ys : List A) → Once (xs ++ ys) → Once ys
once_suffix [] ys h = h
once_suffix (x ∷ xs) ys (one _ _ isnt h) = once_suffix xs ys h

pub once_prefix : {A : Type 0} (xs ys : List A) → Once (xs ++ ys) → Once xs
once_prefix [] ys h = no_more
once_prefix (x ∷ xs) ys (one _ _ isnt h) =
    one x xs (λ c. isnt (Contains-append_left xs ys x c)) (once_prefix xs ys h)

pub once_apart : {A : Type 0} (xs ys : List A) (x : A) → Once (xs ++ ys) → Contains xs x
    → Contains ys x → ⊥
once_apart [] ys x h c d = never x c
once_apart (y ∷ xs) ys x (one _ _ isnt h) c d =
    ⊎_elim (λ (e : x ≡ y). isnt (subst (Contains (xs ++ ys)) e (Contains-append_right xs ys x d)))
    (λ (w : Contains xs x). once_apart xs ys x h w d) (head_or_tail y xs x c)

pub all_pairs : {A : Type 0} (xs : List A) → Once xs → AllPairs (λ v w. v ≢ w) xs
all_pairs [] no_more = λ i j d low high. absurd (omega (arith, high))
all_pairs (x ∷ xs) (one _ _ isnt h) =
    AllPairs-cons (λ v w. v ≢ w) x xs
    (All-weaker (Contains xs) (λ w. x ≢ w) (λ w c e. isnt (subst (Contains xs) (sym e) c)) xs
    (All-contains_itself xs)) (all_pairs xs h)
