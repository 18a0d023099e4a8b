-- Lists alone: parts of them, what ascends, and pairs.
use Rattle.std.proofs.Common.{◌≡◌, ℕ, ◌+◌, ◌-◌, ◌≤◌, ◌<◌, Bool, true, List, [], ◌∷◌, ◌++◌}
use Rattle.std.proofs.Common.{map, refl, sym, ◌∙◌, ap, arith, length, take, drop, zero, suc}
use Rattle.std.proofs.Common.{length-drop, Bor, reverse, get_or}
use Rattle.std.specs.List.{zip}
use Rattle.std.specs.Prelude.{slice_range}
use Rattle.std.proofs.lemmas.Bool.{and_from, and_parts}
use Rattle.std.proofs.lemmas.List.{take-append-le, drop-append-le, take_all, map-append}
use Rattle.std.proofs.lemmas.List.{reverse-append, map_push, take-map, drop-map}
use Rattle.std.proofs.lemmas.List.{take-append-drop}
use Rattle.std.proofs.Math.Seq.{drop-append_seam, take-append_seam, drop-nil}
use Rattle.std.specs.Ordering.{is_lt}
use Rattle.resb_tree.specs.Borrowing.{all_true}
use Rattle.resb_tree.specs.Maps.{text_cmp}
use Rattle.resb_draft.specs.Drafts.{texts, texts_ascend}

dropped_twice : {X : Type 0} (n m : ℕ) (xs : List X) → drop m (drop n xs) ≡ drop (n + m) xs
dropped_twice zero m xs = ap (λ n. drop n xs) (omega arith)
dropped_twice (suc n) m [] = drop-nil m ∙ sym (drop-nil (suc n + m))
dropped_twice (suc n) m (x ∷ xs) =
    let one : suc n + m ≡ suc (n + m) = omega arith in
    dropped_twice n m xs ∙ ap (λ k. drop k (x ∷ xs)) (sym one)

-- a part of a list, and what stands behind it
pub part_and_back : {X : Type 0} (xs : List X) (from to : ℕ) → from ≤ to
    → slice_range xs from to ++ drop to xs ≡ drop from xs
part_and_back xs from to h =
    let long : to ≡ from + (to - from) = omega (arith, h) in
    ap (λ n. slice_range xs from to ++ drop n xs) long
    ∙ ap (λ l. slice_range xs from to ++ l) (sym (dropped_twice from (to - from) xs))
    ∙ take-append-drop (to - from) (drop from xs)

-- a part of a list stays when more is put behind the list
pub part_stays : {X : Type 0} (xs ys : List X) (from to : ℕ) → from ≤ to → to ≤ length xs
    → slice_range (xs ++ ys) from to ≡ slice_range xs from to
part_stays xs ys from to h k =
    ap (take (to - from)) (drop-append-le from xs ys (omega (arith, h, k)))
    ∙ take-append-le (to - from) (drop from xs) ys (omega (arith, length-drop from xs, h, k))

-- a part without elements
pub part_empty : {X : Type 0} (xs : List X) (n : ℕ) → slice_range xs n n ≡ []
part_empty xs n =
    let none : n - n ≡ 0 = omega arith in
    ap (λ k. take k (drop n xs)) none

-- what was put behind a list
pub part_behind : {X : Type 0} (xs ys : List X) (from to : ℕ) → from ≡ length xs
    → to ≡ from + length ys → slice_range (xs ++ ys) from to ≡ ys
part_behind xs ys from to e f =
    let long : to - from ≡ length ys = omega (arith, f) in
    ap (λ k. take k (drop from (xs ++ ys))) long
    ∙ ap (λ k. take (length ys) (drop k (xs ++ ys))) e
    ∙ ap (take (length ys)) (drop-append_seam xs ys)
    ∙ take_all (length ys) ys (omega arith)

-- two lists made of one, entry by entry
pub zip_maps : {X Y Z : Type 0} (f : X → Y) (g : X → Z) (xs : List X)
    → zip (map f xs) (map g xs) ≡ map (λ x. (f x, g x)) xs
zip_maps f g [] = refl
zip_maps f g (x ∷ xs) = ap (λ l. (f x, g x) ∷ l) (zip_maps f g xs)

-- texts one behind another
pub texts-append : (ks ls : List (Bor (List ℕ))) → texts (ks ++ ls) ≡ texts ks ++ texts ls
texts-append ks ls = map-append (λ (k : Bor (List ℕ)). k.now) ks ls

-- the texts of a part
pub texts-part : (ks : List (Bor (List ℕ))) (from to : ℕ)
    → texts (slice_range ks from to) ≡ slice_range (texts ks) from to
texts-part ks from to =
    let now : Bor (List ℕ) → List ℕ = λ b. b.now in
    sym (take-map now (to - from) (drop from ks))
    ∙ ap (take (to - from)) (sym (drop-map now from ks))

-- what is true of each of two lists is true of both together
pub all_append : (cs bs : List Bool) → all_true cs ≡ true → all_true bs ≡ true
    → all_true (cs ++ bs) ≡ true
all_append [] bs h k = k
all_append (c ∷ cs) bs h k =
    let all = and_parts c _ h in and_from c _ all.0 (all_append cs bs all.1 k)

-- what is true of two lists together is true of each
pub all_parts : (cs bs : List Bool) → all_true (cs ++ bs) ≡ true
    → (all_true cs ≡ true) × (all_true bs ≡ true)
all_parts [] bs h = (refl, h)
all_parts (c ∷ cs) bs h =
    let all = and_parts c _ h in
    let rest = all_parts cs bs all.1 in
    (and_from c _ all.0 rest.0, rest.1)

-- what is true of each of a list is true of one of them
pub all_at : (f : ℕ → Bool) (ns : List ℕ) (i : ℕ) → i < length ns → all_true (map f ns) ≡ true
    → f (get_or ns i 0) ≡ true
all_at f [] i h k = absurd (omega (arith, h))
all_at f (n ∷ ns) zero h k = (and_parts (f n) _ k).0
all_at f (n ∷ ns) (suc i) h k =
    all_at f ns i (omega (arith, h)) (and_parts (f n) _ k).1

-- each of a list turned round
pub map-reverse : {X Y : Type 0} (f : X → Y) (xs : List X)
    → map f (reverse xs) ≡ reverse (map f xs)
map-reverse f [] = refl
map-reverse f (x ∷ xs) =
    ap (map f) (reverse-append (x ∷ []) xs)
    ∙ map_push f (reverse xs) x
    ∙ ap (λ l. l ++ f x ∷ []) (map-reverse f xs)
    ∙ sym (reverse-append (f x ∷ []) (map f xs))

-- what is true of each is so where the list is turned round
pub all_reverse : {X : Type 0} (f : X → Bool) (xs : List X) → all_true (map f xs) ≡ true
    → all_true (map f (reverse xs)) ≡ true
all_reverse f [] h = refl
all_reverse f (x ∷ xs) h =
    let all = and_parts (f x) _ h in
    ap (λ l. all_true (map f l)) (reverse-append (x ∷ []) xs)
    ∙ ap all_true (map_push f (reverse xs) x)
    ∙ all_append (map f (reverse xs)) (f x ∷ []) (all_reverse f xs all.1) (and_from _ _ all.0 refl)

-- texts that ascend do so with one more behind the last, which is less
pub ascend_on : (front : List (List ℕ)) (k q : List ℕ) → texts_ascend (front ++ k ∷ []) ≡ true
    → is_lt (text_cmp k q) ≡ true → texts_ascend ((front ++ k ∷ []) ++ q ∷ []) ≡ true
ascend_on [] k q h e = and_from _ _ e refl
ascend_on (p ∷ []) k q h e =
    and_from _ _ (and_parts (is_lt (text_cmp p k)) _ h).0 (and_from _ _ e refl)
ascend_on (p ∷ r ∷ front) k q h e =
    let both = and_parts (is_lt (text_cmp p r)) _ h in
    and_from _ _ both.0 (ascend_on (r ∷ front) k q both.1 e)

-- what was put behind a list
pub drop_to_put : {X : Type 0} (xs ys all : List X) (n : ℕ) → n ≡ length xs → all ≡ xs ++ ys
    → drop n all ≡ ys
drop_to_put xs ys all n at is = (λ i. drop (at i) (is i)) ∙ drop-append_seam xs ys

-- the list that it was put behind
pub take_before_put : {X : Type 0} (xs ys all : List X) (n : ℕ) → n ≡ length xs → all ≡ xs ++ ys
    → take n all ≡ xs
take_before_put xs ys all n at is = (λ i. take (at i) (is i)) ∙ take-append_seam xs ys
