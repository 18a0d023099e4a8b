-- The last entry of a name, as it is found and as a relation; and keys that ascend, in both ways.
use Rattle.std.proofs.Common.{ℕ, List, [], ◌∷◌, ◌≡◌, Option, Some, None, Bool, true, false}
use Rattle.std.proofs.Common.{refl, sym, ◌∙◌, ap, subst, ◌⊎◌, inl, inr, if◌then◌else◌}
use Rattle.std.proofs.lemmas.Slice.Eq.{bytes_eq-Decides}
use Rattle.std.proofs.lemmas.Bool.{false≢true, false_from_ne_true}
use Rattle.std.proofs.lemmas.Option.{same_Some}
use Rattle.resb_read.specs.Places.{Place}
use Rattle.resb_read.specs.Tables.{key_of, is_text, has_name, last_from, last_named}
use Rattle.resb_read.specs.Tables.{IsNamed, NoneNamed, IsLastNamed, LastOfAName}
use Rattle.resb_read.specs.Tables.{Ascend, AscendAbove, keys_ascend_above, keys_ascend}
use Rattle.resb_read.specs.Tables.{AscendIsTold}
use Rattle.resb_read.proofs.Ascending.{from_append, keys_ascend_sound}

-- the test and the relation
named_so : (name : List ℕ) (o : Option (List ℕ × ℕ)) → is_text name o ≡ true
    → (n : ℕ) × (o ≡ Some (name, n))
named_so name None h = absurd (false≢true h)
named_so name (Some t) h =
    let same : t.0 ≡ name = (bytes_eq-Decides t.0 name).0 h in
    (t.1, ap (λ s. Some (s, t.1)) same)

named_test : (name : List ℕ) (o : Option (List ℕ × ℕ)) (n : ℕ) → o ≡ Some (name, n)
    → is_text name o ≡ true
named_test name o n h = ap (is_text name) h ∙ (bytes_eq-Decides name name).1 refl

pub is_so : (name : List ℕ) (e : Place × Place) → has_name name e ≡ true → IsNamed name e
is_so name e h = let (n, k) = named_so name (key_of e) h in (n, (tt, k))

so_is : (name : List ℕ) (e : Place × Place) → IsNamed name e → has_name name e ≡ true
so_is name e (n, (u, h)) = named_test name (key_of e) n h

not_so : (name : List ℕ) (e : Place × Place) → (IsNamed name e → ⊥) → has_name name e ≡ false
not_so name e h = false_from_ne_true (has_name name e) (λ k. h (is_so name e k))

-- entries of other names leave what was found
pub skipped : (name : List ℕ) (found : Option Place) (es : List (Place × Place)) → NoneNamed name es
    → last_from name found es ≡ found
skipped name found [] h = refl
skipped name found (e ∷ es) (other, rest) =
    ap (λ b. last_from name (if b then Some e.1 else found) es) (not_so name e other)
    ∙ skipped name found es rest

found_last : (name : List ℕ) (es : List (Place × Place)) (p : Place) → IsLastNamed name es p
    → last_named name es ≡ Some p
found_last name es p (h, last) =
    let yes : has_name name (h.key, p) ≡ true = so_is name (h.key, p) h.named in
    let before : Option Place = last_from name None h.before in
    ap (last_from name None) h.are
    ∙ from_append name h.before None ((h.key, p) ∷ h.after)
    ∙ ap (λ b. last_from name (if b then Some p else before) h.after) yes
    ∙ skipped name (Some p) h.after last

-- no entry has the name, or one is the last that has it
abbrev Found : List ℕ → List (Place × Place) → Option Place → Option Place → Type 0
Found name es found r =
    (NoneNamed name es × (r ≡ found)) ⊎ ((p : Place) × (r ≡ Some p) × IsLastNamed name es p)

last_of_more : (name : List ℕ) (e : Place × Place) (es : List (Place × Place)) (p : Place)
    → IsLastNamed name es p → IsLastNamed name (e ∷ es) p
last_of_more name e es p (h, last) = (
  record {
    before = e ∷ h.before;
    key = h.key;
    after = h.after;
    are = ap (λ r. e ∷ r) h.are;
    named = h.named;
  },
  last,
)

look : (name : List ℕ) (es : List (Place × Place)) (found : Option Place)
    → Found name es found (last_from name found es)
look name [] found = inl (tt, refl)
look name (e ∷ es) found = by (look name es) (has_name name e) refl
  where
    further : (now r : Option Place) → Found name es now r
        → (NoneNamed name es → r ≡ now → Found name (e ∷ es) found r)
        → Found name (e ∷ es) found r
    further now r (inl none) k = k none.0 none.1
    further now r (inr (p, is, last)) k = inr (p, is, last_of_more name e es p last)

    by : ((now : Option Place) → Found name es now (last_from name now es)) → (b : Bool)
        → has_name name e ≡ b
        → Found name (e ∷ es) found (last_from name (if b then Some e.1 else found) es)
    by rest true h =
        further (Some e.1) (last_from name (Some e.1) es) (rest (Some e.1))
        (λ none is. inr (
          e.1,
          is,
          (
            record {
              before = [];
              key = e.0;
              after = es;
              are = refl;
              named = is_so name e h;
            },
            none,
          ),
        ))
    by rest false h =
        further found (last_from name found es) (rest found)
        (λ none is. inl ((λ k. false≢true (sym h ∙ so_is name e k), none), is))

last_found : (name : List ℕ) (es : List (Place × Place)) (p : Place)
    → last_named name es ≡ Some p → IsLastNamed name es p
last_found name es p h = by (look name es None)
  where
    by : Found name es None (last_named name es) → IsLastNamed name es p
    by (inl none) = let e : None ≡ Some p = sym none.1 ∙ h in absurd cc
    by (inr (q, is, last)) =
        let e : q ≡ p = same_Some _ _ (sym is ∙ h) in subst (IsLastNamed name es) e last

pub none_found : (name : List ℕ) (es : List (Place × Place)) → last_named name es ≡ None
    → NoneNamed name es
none_found name es h = by (look name es None)
  where
    by : Found name es None (last_named name es) → NoneNamed name es
    by (inl none) = none.0
    by (inr (q, is, last)) = let e : Some q ≡ None = sym is ∙ h in absurd cc

pub last_of_a_name : LastOfAName
last_of_a_name name es = (
  λ p. (last_found name es p, found_last name es p),
  (none_found name es, skipped name None es),
)

-- the test of what ascends
told_above : (low : List ℕ) (es : List (Place × Place)) → AscendAbove low es
    → keys_ascend_above low es ≡ true
told_above low [] h = refl
told_above low (e ∷ es) (t, key, above, rest) = rw (key, above) (told_above t.0 es rest)

told : (es : List (Place × Place)) → Ascend es → keys_ascend es ≡ true
told [] h = refl
told (e ∷ es) (t, key, rest) = rw key (told_above t.0 es rest)

pub ascend_is_told : AscendIsTold
ascend_is_told es = (keys_ascend_sound es, told es)
