-- Keys that are joined one after the other, each once.
use Rattle.std.proofs.Common.{◌≡◌, ℕ, List, [], ◌∷◌, ◌++◌, Bor, Bool, true, false, cond, refl, sym}
use Rattle.std.proofs.Common.{◌∙◌, ap, fold}
use Rattle.std.specs.Prelude.{◌||◌}
use Rattle.std.specs.List.{list_any}
use Rattle.std.specs.Str.{bytes_eq}
use Rattle.std.specs.Cmp.Lexicographic.{bytes_decides}
use Rattle.std.proofs.lemmas.Bool.{false≢true}
use Rattle.std.proofs.lemmas.List.{map_push}
use Rattle.indexmap.specs.IndexSet.{insert_key}
use Rattle.resb_tree.specs.Keys.{same_text}
use Rattle.resb_layout.specs.KeyBlock.{is_among, used}
use Rattle.resb_pool.specs.Plan.{nows}
use Rattle.resb_pool_maker.specs.PoolOf.{join_key, each_once}

abbrev Key : Type 0
Key = Bor (List ℕ)

-- whether two keys are one text
abbrev pub same_key : Key → Key → Bool
same_key x y = bytes_eq x.now y.now

pub any_nows : (t : List ℕ) (ks : List Key)
    → list_any (λ (j : Key). bytes_eq t j.now) ks ≡ list_any (same_text t) (nows ks)
any_nows t [] = refl
any_nows t (k ∷ ks) = ap (λ b. same_text t k.now || b) (any_nows t ks)

-- a key that is put into a set
pub joined : (ks : List Key) (k : Key)
    → nows (insert_key same_key ks k) ≡ join_key (nows ks) k.now
joined ks k =
    by (list_any (same_key k) ks)
    ∙ ap (λ b. cond b (nows ks) (nows ks ++ k.now ∷ [])) (any_nows k.now ks)
  where
    by : (b : Bool)
        → nows (cond b ks (ks ++ k ∷ [])) ≡ cond b (nows ks) (nows ks ++ k.now ∷ [])
    by true = refl
    by false = map_push (λ (j : Key). j.now) ks k

or_assoc : (a b c : Bool) → ((a || b) || c) ≡ (a || (b || c))
or_assoc true b c = refl
or_assoc false b c = refl

pub or_false : (a b : Bool) → (a || b) ≡ false → (a ≡ false) × (b ≡ false)
or_false true b e = cc
or_false false b e = (refl, e)

or_end : (a b : Bool) → (b ≡ true → a ≡ true) → a ≡ (a || b)
or_end true b h = refl
or_end false true h = h refl
or_end false false h = refl

any_push : (k : List ℕ) (ks : List (List ℕ)) (u : List ℕ)
    → list_any (same_text k) (ks ++ u ∷ []) ≡ (list_any (same_text k) ks || same_text k u)
any_push k [] u = by (same_text k u)
  where
    by : (b : Bool) → (b || false) ≡ (false || b)
    by true = refl
    by false = refl
any_push k (j ∷ ks) u =
    ap (λ b. same_text k j || b) (any_push k ks u)
    ∙ sym (or_assoc (same_text k j) (list_any (same_text k) ks) (same_text k u))

-- a key is among joined ones where it was, or is the one that joins
among_joined : (ks : List (List ℕ)) (u k : List ℕ)
    → is_among (join_key ks u) k ≡ (is_among ks k || same_text k u)
among_joined ks u k = by (is_among ks u) refl
  where
    by : (b : Bool) → is_among ks u ≡ b
        → is_among (cond b ks (ks ++ u ∷ [])) k ≡ (is_among ks k || same_text k u)
    by true e = or_end (is_among ks k) (same_text k u)
        (λ h. ap (is_among ks) ((bytes_decides k u).0 h) ∙ e)
    by false e = any_push k ks u

among_all : (us ks : List (List ℕ)) (k : List ℕ)
    → is_among (fold join_key ks us) k ≡ (is_among ks k || is_among us k)
among_all [] ks k = or_end (is_among ks k) false (λ h. by h)
  where
    by : false ≡ true → is_among ks k ≡ true
    by h = absurd (false≢true h)
among_all (u ∷ us) ks k =
    among_all us (join_key ks u) k ∙ ap (λ b. b || is_among us k) (among_joined ks u k)
    ∙ or_assoc (is_among ks k) (same_text k u) (is_among us k)

-- the same keys are among keys, and among these each once
pub among_once : (us : List (List ℕ)) (k : List ℕ) → is_among (each_once us) k ≡ is_among us k
among_once us k = among_all us [] k

-- what no key has, no joined key has
none_joined : (p : List ℕ → Bool) (ks : List (List ℕ)) (u : List ℕ) → list_any p ks ≡ false
    → p u ≡ false → list_any p (join_key ks u) ≡ false
none_joined p ks u h k = by (is_among ks u)
  where
    push : (js : List (List ℕ)) → list_any p js ≡ false → list_any p (js ++ u ∷ []) ≡ false
    push [] e = ap (λ b. b || false) k
    push (j ∷ js) e =
        let both = or_false (p j) (list_any p js) e in
        ap (λ b. b || list_any p (js ++ u ∷ [])) both.0 ∙ push js both.1

    by : (b : Bool) → list_any p (cond b ks (ks ++ u ∷ [])) ≡ false
    by true = h
    by false = push ks h

pub none_once : (p : List ℕ → Bool) (us ks : List (List ℕ)) → list_any p ks ≡ false
    → list_any p us ≡ false → list_any p (fold join_key ks us) ≡ false
none_once p [] ks h k = h
none_once p (u ∷ us) ks h k =
    let both = or_false (p u) (list_any p us) k in
    none_once p us (join_key ks u) (none_joined p ks u h both.0) both.1

pub used_once : (us ks : List (List ℕ)) → used (each_once us) ks ≡ used us ks
used_once us [] = refl
used_once us (k ∷ ks) =
    ap (λ b. cond b (k ∷ used (each_once us) ks) (used (each_once us) ks)) (among_once us k)
    ∙ ap (λ l. cond (is_among us k) (k ∷ l) l) (used_once us ks)
