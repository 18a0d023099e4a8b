-- Keys in a list, and the places of their last occurrences.
use Rattle.std.proofs.Common.{◌≡◌, ℕ, zero, suc, ◌+◌, ◌-◌, ◌^◌, min, List, [], ◌∷◌, ◌++◌}
use Rattle.std.proofs.Common.{length, filter, Bor, Option, Some, None, option_map}
use Rattle.std.proofs.Common.{Bool, true, false, cond, ◌||◌, inl, inr, refl, sym, ◌∙◌, ap}
use Rattle.std.proofs.Common.{append_assoc, length-append, arith}
use Rattle.std.specs.List.{Contains}
use Rattle.std.specs.Option.{is_some}
use Rattle.std.specs.Str.{bytes_eq}
use Rattle.std.specs.Cmp.Lexicographic.{bytes_decides}
use Rattle.std.proofs.lemmas.Bool.{cases_Bool}
use Rattle.std.proofs.lemmas.Option.{none-some}
use Rattle.std.proofs.lemmas.Bool.Decides.{same_from_decides, Decides-like}
use Rattle.std.proofs.lemmas.List.Concat.{flat_map-append}
use Rattle.std.proofs.lemmas.List.Folds.{list_any-append}
use Rattle.resb_tree.specs.Keys.{same_text}
use Rattle.resb_pool.specs.Plan.{nows}
use Rattle.resb_layout.specs.KeyBlock.{is_among, key_bytes, last_place}
use Rattle.resb_write.specs.Inner.NearPositions.{near_position, near_position_in}
use Rattle.std.proofs.lemmas.List.{map_push}
use Rattle.resb_write.proofs.Lists.{filter_yes, filter_no}

same_either_way : (a b : List ℕ) → bytes_eq a b ≡ same_text b a
same_either_way a b = same_from_decides _ _ (Decides-like _ (λ e. sym e) (λ e. sym e)
    (bytes_decides a b)) (bytes_decides b a)

-- a key that is put into a set is there
pub key_moves : (a q : List ℕ) (old new : Option Unit) (js : List (List ℕ))
    → new ≡ cond (bytes_eq a q) (Some tt) old
    → is_some old ≡ is_among js q → is_some new ≡ is_among (js ++ a ∷ []) q
key_moves a q old new js e h =
    ap is_some (e ∙ ap (λ b. cond b (Some tt) old) (same_either_way a q))
    ∙ moved (same_text q a) old
    ∙ ap (λ b. b || (same_text q a || false)) h ∙ sym (list_any-append (same_text q) js (a ∷ []))
  where
    moved : (b : Bool) (o : Option Unit)
        → is_some (cond b (Some tt) o) ≡ (is_some o || (b || false))
    moved true None = refl
    moved true (Some x) = refl
    moved false None = refl
    moved false (Some x) = refl

-- a key that is in a set already stays there
pub key_stays : (a q : List ℕ) (at : List ℕ → Option Unit) (js : List (List ℕ))
    → is_some (at a) ≡ true → is_some (at q) ≡ is_among js q
    → is_some (at q) ≡ is_among (js ++ a ∷ []) q
key_stays a q at js there h =
    kept (same_text q a) (at q) (λ e.
    ap (λ s. is_some (at s)) (sym ((bytes_decides a q).0 (same_either_way a q ∙ e))) ∙ there)
    ∙ ap (λ b. b || (same_text q a || false)) h ∙ sym (list_any-append (same_text q) js (a ∷ []))
  where
    kept : (b : Bool) (o : Option Unit) → (b ≡ true → is_some o ≡ true)
        → is_some o ≡ (is_some o || (b || false))
    kept true None f = f refl
    kept true (Some x) f = refl
    kept false None f = refl
    kept false (Some x) f = refl

same_found : (k j : List ℕ) (js : List (List ℕ)) (n : ℕ) → last_place k js ≡ Some n
    → last_place k (j ∷ js) ≡ Some (length j + 1 + n)
same_found k j js n e = rw e refl

same_none : (k j : List ℕ) (js : List (List ℕ)) → last_place k js ≡ None
    → last_place k (j ∷ js) ≡ cond (same_text k j) (Some 0) None
same_none k j js e = rw e refl

same_rest : (k j : List ℕ) (is js : List (List ℕ)) → last_place k is ≡ last_place k js
    → last_place k (j ∷ is) ≡ last_place k (j ∷ js)
same_rest k j is js e = rw e refl

key_len : (j : List ℕ) (js : List (List ℕ))
    → length (key_bytes (j ∷ js)) ≡ length j + 1 + length (key_bytes js)
key_len j js = omega (arith, length-append (j ++ 0 ∷ []) (key_bytes js), length-append j (0 ∷ []))

-- one more key at the end
pub last_place-same : (k j : List ℕ) (js : List (List ℕ)) → same_text k j ≡ true
    → last_place k (js ++ j ∷ []) ≡ Some (length (key_bytes js))
last_place-same k j [] e = same_none k j [] refl ∙ ap (λ b. cond b (Some 0) None) e
last_place-same k j (i ∷ js) e = same_found k i (js ++ j ∷ []) _ (last_place-same k j js e)
    ∙ ap Some (sym (key_len i js))

pub last_place-other : (k j : List ℕ) (js : List (List ℕ)) → same_text k j ≡ false
    → last_place k (js ++ j ∷ []) ≡ last_place k js
last_place-other k j [] e = same_none k j [] refl ∙ ap (λ b. cond b (Some 0) None) e
last_place-other k j (i ∷ js) e = same_rest k i (js ++ j ∷ []) js (last_place-other k j js e)

pub last_place-push : (k j : List ℕ) (js : List (List ℕ))
    → last_place k (js ++ j ∷ [])
    ≡ cond (same_text k j) (Some (length (key_bytes js))) (last_place k js)
last_place-push k j js = elim (cases_Bool (same_text k j)) [
  | inl e ↦ last_place-same k j js e
      ∙ ap (λ b. cond b (Some (length (key_bytes js))) (last_place k js)) (sym e)
  | inr e ↦ last_place-other k j js e
      ∙ ap (λ b. cond b (Some (length (key_bytes js))) (last_place k js)) (sym e)
]

pub key_bytes-push : (j : List ℕ) (js : List (List ℕ))
    → key_bytes (js ++ j ∷ []) ≡ key_bytes js ++ ((j ++ 0 ∷ []) ++ [])
key_bytes-push j js = flat_map-append (λ k. k ++ 0 ∷ []) js (j ∷ [])

-- a key with its zero byte, at a place among others
pub record StandsAt (bytes k : List ℕ) (n : ℕ) : Type 0 where
  pub front : List ℕ
  pub back : List ℕ
  pub place : length front ≡ n
  pub is : bytes ≡ front ++ (k ++ 0 ∷ back)

stands_first : (k j : List ℕ) (js : List (List ℕ)) (n : ℕ) (b : Bool) → same_text k j ≡ b
    → cond (same_text k j) (Some 0) None ≡ Some n → StandsAt (key_bytes (j ∷ js)) k n
stands_first k j js n true b e =
    let f : Some 0 ≡ Some n = sym (ap (λ t. cond t (Some 0) None) b) ∙ e in
    let g : 0 ≡ n = cc in
    record {
      front = [];
      back = key_bytes js;
      place = g;
      is = append_assoc j (0 ∷ []) (key_bytes js)
          ∙ ap (λ l. l ++ 0 ∷ key_bytes js) (sym ((bytes_decides k j).0 b));
    }
stands_first k j js n false b e = absurd (none-some n (sym (ap (λ t. cond t (Some 0) None) b) ∙ e))

stands_in : (k j : List ℕ) (js : List (List ℕ)) (n : ℕ) (o : Option ℕ) → last_place k js ≡ o
    → ((m : ℕ) → last_place k js ≡ Some m → StandsAt (key_bytes js) k m)
    → last_place k (j ∷ js) ≡ Some n → StandsAt (key_bytes (j ∷ js)) k n
stands_in k j js n (Some m) o later e =
    let s = later m o in
    let f : Some (length j + 1 + m) ≡ Some n = sym (same_found k j js m o) ∙ e in
    let g : length j + 1 + m ≡ n = cc in
    record {
      front = (j ++ 0 ∷ []) ++ s.front;
      back = s.back;
      place = omega (
        arith,
        g,
        s.place,
        length-append (j ++ 0 ∷ []) s.front,
        length-append j (0 ∷ []),
      );
      is = ap (λ l. (j ++ 0 ∷ []) ++ l) s.is
          ∙ sym (append_assoc (j ++ 0 ∷ []) s.front (k ++ 0 ∷ s.back));
    }
stands_in k j js n None o later e =
    stands_first k j js n (same_text k j) refl (sym (same_none k j js o) ∙ e)

-- a key stands at the place of its last occurrence
pub last_of-stands : (k : List ℕ) (js : List (List ℕ)) (n : ℕ) → last_place k js ≡ Some n
    → StandsAt (key_bytes js) k n
last_of-stands k [] n e = absurd (none-some n e)
last_of-stands k (j ∷ js) n e =
    stands_in k j js n (last_place k js) refl (λ m h. last_of-stands k js m h) e

-- a filter keeps the next text, or doesn't
pub filter_keeps : (p : List ℕ → Bool) (old new : List (Bor (List ℕ))) (text : Bor (List ℕ))
    (rest : List (List ℕ)) (x : List ℕ)
    → new ≡ old ++ text ∷ [] → text.now ≡ x → p text.now ≡ true
    → nows new ++ filter p rest ≡ nows old ++ filter p (x ∷ rest)
filter_keeps p old new text rest x e t h =
    ap (λ l. nows l ++ filter p rest) e
    ∙ ap (λ l. l ++ filter p rest) (map_push (λ (y : Bor (List ℕ)). y.now) old text)
    ∙ filter_yes p (nows old) rest text.now h
    ∙ ap (λ y. nows old ++ filter p (y ∷ rest)) t

pub filter_leaves : (p : List ℕ → Bool) (old new : List (Bor (List ℕ))) (text : Bor (List ℕ))
    (rest : List (List ℕ)) (x : List ℕ)
    → new ≡ old → text.now ≡ x → p text.now ≡ false
    → nows new ++ filter p rest ≡ nows old ++ filter p (x ∷ rest)
filter_leaves p old new text rest x e t h = ap (λ l. nows l ++ filter p rest) e
    ∙ filter_no p (nows old) rest text.now h ∙ ap (λ y. nows old ++ filter p (y ∷ rest)) t

map_cond : (b : Bool) (n : ℕ) (o : Option ℕ) → option_map near_position (cond b (Some n) o) ≡ cond b
    (Some (near_position n)) (option_map near_position o)
map_cond true n o = refl
map_cond false n o = refl

-- a key that is put into the map of places stands last there
pub place_moves : (a q : List ℕ) (js : List (List ℕ)) (at : ℕ) (old new : Option ℕ)
    → new ≡ cond (bytes_eq a q) (Some at) old
    → at ≡ near_position (length (key_bytes js)) → old ≡ near_position_in js q
    → new ≡ near_position_in (js ++ a ∷ []) q
place_moves a q js at old new e p o =
    e ∙ ap (λ s. cond s (Some at) old) (same_either_way a q)
    ∙ (λ i. cond (same_text q a) (Some (p i)) (o i))
    ∙ sym (map_cond (same_text q a) (length (key_bytes js)) (last_place q js))
    ∙ ap (option_map near_position) (sym (last_place-push q a js))

pub position_moves : (a : List ℕ) (js : List (List ℕ)) (at next : ℕ)
    → next ≡ min (at + (length a + 1)) (2 ^ 64 - 1)
    → at ≡ min (32 + length (key_bytes js)) (2 ^ 64 - 1)
    → next ≡ min (32 + length (key_bytes (js ++ a ∷ []))) (2 ^ 64 - 1)
position_moves a js at next e p =
    let f = ap length (key_bytes-push a js) in
    let g = length-append (key_bytes js) ((a ++ 0 ∷ []) ++ []) in
    let h = length-append (a ++ 0 ∷ []) [] in
    let k = length-append a (0 ∷ []) in
    omega (arith, e, p, f, g, h, k)

-- a key that has a place is in the list
pub place_contained : (k : List ℕ) (js : List (List ℕ)) (n : ℕ) → last_place k js ≡ Some n
    → Contains js k
place_contained k [] n e = absurd (none-some n e)
place_contained k (j ∷ js) n e =
    contained_in k j js n (last_place k js) refl (λ m h. place_contained k js m h) e
  where
    contained_in : (k j : List ℕ) (js : List (List ℕ)) (n : ℕ) (o : Option ℕ) → last_place k js ≡ o
        → ((m : ℕ) → last_place k js ≡ Some m → Contains js k)
        → last_place k (j ∷ js) ≡ Some n → Contains (j ∷ js) k
    contained_in k j js n (Some m) o later e = let h = later m o in (suc h.0, omega arith, h.2)
    contained_in k j js n None o later e =
        first_contained k j js n (same_text k j) refl (sym (same_none k j js o) ∙ e)
      where
        first_contained : (k j : List ℕ) (js : List (List ℕ)) (n : ℕ) (b : Bool) → same_text k j ≡ b
            → cond (same_text k j) (Some 0) None ≡ Some n → Contains (j ∷ js) k
        first_contained k j js n true b e = (0, omega arith, sym ((bytes_decides k j).0 b))
        first_contained k j js n false b e =
            absurd (none-some n (sym (ap (λ t. cond t (Some 0) None) b) ∙ e))

some_placed : (k j : List ℕ) (js : List (List ℕ)) (o : Option ℕ) → last_place k js ≡ o
    → last_place k (j ∷ js) ≡ None → last_place k js ≡ None
some_placed k j js (Some m) o e =
    absurd (none-some (length j + 1 + m) (sym e ∙ same_found k j js m o))
some_placed k j js None o e = o

-- a key with no place isn't in the list
pub no_place : (k : List ℕ) (js : List (List ℕ)) → last_place k js ≡ None → Contains js k → ⊥
no_place k [] e h = absurd (omega (arith, h.1))
no_place k (j ∷ js) e (zero, lt, is) =
    let o = some_placed k j js (last_place k js) refl e in
    let f : Some 0 ≡ None = sym (same_none k j js o
    ∙ ap (λ t. cond t (Some 0) None) ((bytes_decides k j).1 (sym is))) ∙ e in
    none-some 0 (sym f)
no_place k (j ∷ js) e (suc i, lt, is) =
    no_place k js (some_placed k j js (last_place k js) refl e) (
      i,
      omega arith,
      is,
    )
