-- Lists, their filters and their parts: what names no word of this project.
use Rattle.std.proofs.Common.{◌≡◌, zero, suc, List, [], ◌∷◌, filter, Bool, true, false, cond, sym}
use Rattle.std.proofs.Common.{◌∙◌, ap, subst, arith, ℕ, ◌+◌, ◌++◌, append_assoc, ◌-◌, length, refl}
use Rattle.std.proofs.Common.{length-append, ◌≤◌, take, drop, length-drop, ◌<◌, get_or, map, Option}
use Rattle.std.proofs.Common.{Some, unwrap_or, All}
use Rattle.std.specs.List.{Contains, list_all, list_any}
use Rattle.std.proofs.lemmas.List.{take-append-drop, drop-drop}
use Rattle.std.proofs.lemmas.List.Folds.{list_all_at, Any-from_list_any, list_any-from_Any}
use Rattle.std.proofs.Math.Seq.{drop-append_seam}
use Rattle.std.proofs.lemmas.List.Elements.{Contains-append_right, All-nil, All-cons}
use Rattle.std.proofs.lemmas.Bool.{both_ways, false_from_ne_true}
use Rattle.std.proofs.Common.{None}
use Rattle.std.specs.Option.{option_or}

-- what passes a test stays behind its filter
pub contained-filter : {X : Type 0} (p : X → Bool) (xs : List X) (x : X) → p x ≡ true
    → Contains xs x → Contains (filter p xs) x
contained-filter p [] x e h = absurd (omega (arith, h.1))
contained-filter p (y ∷ ys) x e (zero, lt, is) =
    subst (λ b. Contains (cond b (y ∷ filter p ys) (filter p ys)) x) (sym (ap p is ∙ e)) (
      0,
      omega arith,
      is,
    )
contained-filter p (y ∷ ys) x e (suc i, lt, is) =
    by (p y) (contained-filter p ys x e (i, omega arith, is))
  where
    by : (b : Bool) → Contains (filter p ys) x → Contains (cond b (y ∷ filter p ys) (filter p ys)) x
    by true h = (suc h.0, omega (arith, h.1), h.2)
    by false h = h

-- a filter keeps what passes its test
pub filter_yes : (p : List ℕ → Bool) (done rest : List (List ℕ)) (x : List ℕ) → p x ≡ true
    → (done ++ x ∷ []) ++ filter p rest ≡ done ++ filter p (x ∷ rest)
filter_yes p done rest x e = append_assoc done (x ∷ []) (filter p rest)
    ∙ ap (λ b. done ++ cond b (x ∷ filter p rest) (filter p rest)) (sym e)

-- and leaves out what does not
pub filter_no : (p : List ℕ → Bool) (done rest : List (List ℕ)) (x : List ℕ) → p x ≡ false
    → done ++ filter p rest ≡ done ++ filter p (x ∷ rest)
filter_no p done rest x e = ap (λ b. done ++ cond b (x ∷ filter p rest) (filter p rest)) (sym e)

-- of two lists in two parts, the parts are the same where the last ones have one length
pub same_parts : (a b c d : List ℕ) → a ++ b ≡ c ++ d → length b ≡ length d → (a ≡ c) × (b ≡ d)
same_parts [] b [] d e l = (refl, e)
same_parts [] b (y ∷ c) d e l =
    absurd (omega (arith, ap length e, length-append (y ∷ c) d, l, one y c))
  where
    one : (y : ℕ) (c : List ℕ) → length (y ∷ c) ≡ length c + 1
    one y c = omega arith
same_parts (x ∷ a) b [] d e l =
    absurd (omega (arith, ap length e, length-append (x ∷ a) b, l, one x a))
  where
    one : (y : ℕ) (c : List ℕ) → length (y ∷ c) ≡ length c + 1
    one y c = omega arith
same_parts (x ∷ a) b (y ∷ c) d e l =
    let f : x ≡ y = cc in
    let g : a ++ b ≡ c ++ d = cc in
    let r = same_parts a b c d g l in
    ((λ i. f i ∷ r.0 i), r.1)

-- the last words of a stack, and those below them
pub split_stack : (ws : List ℕ) (n : ℕ) → n ≤ length ws
    → (ws ≡ take (length ws - n) ws ++ drop (length ws - n) ws)
    × (length (drop (length ws - n) ws) ≡ n)
split_stack ws n h = (
  sym (take-append-drop (length ws - n) ws),
  omega (arith, length-drop (length ws - n) ws),
)

-- where all of a list pass a test, each does
pub passes : (p : ℕ → Bool) (xs : List ℕ) (i : ℕ) → i < length xs → list_all p xs ≡ true
    → p (get_or xs i 0) ≡ true
passes p xs i h all = by (p (get_or xs i 0)) refl
  where
    by : (b : Bool) → p (get_or xs i 0) ≡ b → b ≡ true
    by true e = refl
    by false e = sym (list_all_at p xs i 0 h e) ∙ all

-- what stands behind two parts
pub drop_two : (n : ℕ) (xs a b c : List ℕ) → drop n xs ≡ a ++ (b ++ c)
    → drop (n + length a + length b) xs ≡ c
drop_two n xs a b c e =
    let sum : n + length a + length b ≡ n + (length a + length b) = omega arith in
    ap (λ k. drop k xs) sum ∙ sym (drop-drop (length a + length b) n xs)
    ∙ ap (drop (length a + length b)) e ∙ sym (drop-drop (length b) (length a) (a ++ (b ++ c)))
    ∙ ap (drop (length b)) (drop-append_seam a (b ++ c)) ∙ drop-append_seam b c

-- two lists that are the same up to a place have one front
pub same_front : (n : ℕ) (xs ys : List ℕ) → n ≤ length xs → n ≤ length ys
    → ((i : ℕ) → i < n → get_or xs i 0 ≡ get_or ys i 0) → take n xs ≡ take n ys
same_front zero xs ys h k e = refl
same_front (suc n) [] ys h k e = absurd (omega (arith, h))
same_front (suc n) (x ∷ xs) [] h k e = absurd (omega (arith, k))
same_front (suc n) (x ∷ xs) (y ∷ ys) h k e =
    let first : x ≡ y = e 0 (omega arith) in
    let rest = same_front n xs ys (omega (arith, h)) (omega (arith, k))
    (λ i l. e (suc i) (omega (arith, l))) in
    λ i. first i ∷ rest i

-- what is known of each of some texts is known in turn
pub in_turn : (f : List ℕ → Option ℕ) (ks : List (List ℕ))
    → ((k : List ℕ) → Contains ks k → (p : ℕ) × (f k ≡ Some p))
    → map f ks ≡ map Some (map (λ k. unwrap_or (f k) 0) ks)
in_turn f [] h = refl
in_turn f (k ∷ ks) h =
    let p = h k (0, omega arith, refl) in
    let e : f k ≡ Some (unwrap_or (f k) 0) = p.1 ∙ ap (λ o. Some (unwrap_or o 0)) (sym p.1) in
    (λ i. e i ∷ in_turn f ks (λ j c. h j (Contains-append_right (k ∷ []) ks j c)) i)

module _ {X : Type 0} where
  -- where one of a list passes a test, any does
  pub member_any : (p : X → Bool) (xs : List X) (x : X) → Contains xs x → p x ≡ true
      → list_any p xs ≡ true
  member_any p xs x h t = list_any-from_Any p xs (h.0, x, h.1, h.2, t)

  -- where none passes, no member does
  pub none_member : (p : X → Bool) (xs : List X) (x : X) → list_any p xs ≡ false → Contains xs x
      → p x ≡ false
  none_member p xs x e h =
      false_from_ne_true (p x)
      (λ t. both_ways (list_any p xs) e (member_any p xs x h t))

  -- where any passes, some member does
  pub any_member : (p : X → Bool) (xs : List X) → list_any p xs ≡ true → (x : X) × Contains xs x
      × (p x ≡ true)
  any_member p xs e = let m = Any-from_list_any p xs e in (m.1, (m.0, m.2, m.3), m.4)

  kept_by : (p : X → Bool) (y : X) (ys : List X) (x : X) → (Contains (filter p ys) x → (p x ≡ true)
      × Contains ys x)
      → (b : Bool) → p y ≡ b → Contains (cond b (y ∷ filter p ys) (filter p ys)) x → (p x ≡ true)
      × Contains (y ∷ ys) x
  kept_by p y ys x f true e (zero, lt, is) = (ap p (sym is) ∙ e, (0, omega arith, is))
  kept_by p y ys x f true e (suc i, lt, is) =
      (let k = f (i, omega arith, is) in (k.0, Contains-append_right (y ∷ []) ys x k.1))
  kept_by p y ys x f false e h = (let k = f h in (k.0, Contains-append_right (y ∷ []) ys x k.1))

  -- what a filter keeps passes its test, and was there
  pub filter_passes : (p : X → Bool) (xs : List X) (x : X) → Contains (filter p xs) x → (p x ≡ true)
      × Contains xs x
  filter_passes p [] x h = absurd (omega (arith, h.1))
  filter_passes p (y ∷ ys) x h = kept_by p y ys x (filter_passes p ys x) (p y) refl h

  -- what holds of each member holds of all
  pub all_from : (P : X → Type 0) (xs : List X) → ((x : X) → Contains xs x → P x) → All P xs
  all_from P [] f = All-nil P
  all_from P (x ∷ xs) f = All-cons P x xs (f x (0, omega arith, refl))
      (all_from P xs (λ y h. f y (Contains-append_right (x ∷ []) xs y h)))

-- the first of three that there is
pub or_assoc : {X : Type 0} (a b c : Option X)
    → option_or a (option_or b c) ≡ option_or (option_or a b) c
or_assoc None b c = refl
or_assoc (Some x) b c = refl

-- or else nothing
pub or_none : {X : Type 0} (o : Option X) → option_or o None ≡ o
or_none None = refl
or_none (Some x) = refl

-- behind known ones, the next one is known
pub next_known : (known : List ℕ) (o : Option ℕ) (rest : List (Option ℕ)) (ps : List ℕ)
    → map Some known ++ o ∷ rest ≡ map Some ps → (p : ℕ) × (o ≡ Some p)
next_known [] o rest [] e = absurd (omega (arith, ap length e))
next_known [] o rest (p ∷ ps) e =
    let f : o ≡ Some p = cc in
    (p, f)
next_known (a ∷ known) o rest [] e = absurd (omega (arith, ap length e))
next_known (a ∷ known) o rest (p ∷ ps) e =
    let f : map Some known ++ o ∷ rest ≡ map Some ps = cc in
    next_known known o rest ps f

-- what is below a number is below a greater one
pub all_wider : (m n : ℕ) (ns : List ℕ) → m ≤ n → All (λ i. i < m) ns → All (λ i. i < n) ns
all_wider m n ns h all = λ i d l. omega (arith, h, all i d l)
