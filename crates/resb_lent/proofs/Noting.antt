-- One key more is noted: the steps of `note` and of `of`.
use Rattle.std.proofs.Common.{ℕ, List, ◌≡◌, ◌+◌, ◌<◌, ◌≤◌, ◌^◌, inl, inr, take, drop}
use Rattle.std.proofs.Common.{Option, Some, None, Bool, true, false, cond, refl, sym, ap}
use Rattle.std.proofs.Common.{◌∙◌, arith, ◌&&◌, MatchOption}
use Rattle.std.specs.Prelude.{if◌then◌else◌}
use Rattle.std.specs.Option.{is_some}
use Rattle.std.specs.Str.{bytes_eq, is_utf8, IsUtf8}
use Rattle.std.specs.Cmp.Lexicographic.{bytes_decides}
use Rattle.std.proofs.lemmas.Bool.{cases_lt, cases_Bool}
use Rattle.std.proofs.lemmas.Str.{IsUtf8-from_is_utf8}
use Rattle.std.proofs.lemmas.Option.{none-some}
use Rattle.resb_format.specs.Strings.{if_utf8, key_at}
use Rattle.resb_lent.specs.LentKeys.{StandsWhole, StandsFirst, LendsKey, begins_key}
use Rattle.resb_lent.specs.Inner.Noted.{noted, NotedUpTo}
use Rattle.resb_lent.proofs.Wholes.{first_zero, key_here, none_inside}

-- bytes that are no UTF-8 are passed over
pub passed_over : (bytes q : List ℕ) (place : ℕ) (o : Option ℕ) → is_utf8 bytes ≡ false
    → o ≡ noted bytes place o q
passed_over bytes q place (Some at) h = refl
passed_over bytes q place None h = cases (bytes_eq bytes q)
  where
    cases : (b : Bool) → None ≡ (if b && is_utf8 bytes then Some place else None)
    cases true = rw h refl
    cases false = refl

pub not_utf8 : (bytes : List ℕ) → (IsUtf8 bytes → ⊥) → is_utf8 bytes ≡ false
not_utf8 bytes h = elim (cases_Bool (is_utf8 bytes)) [
  | inl y ↦ absurd (h (IsUtf8-from_is_utf8 bytes y))
  | inr n ↦ n
]

pub none_there : (o : Option ℕ) → is_some o ≡ false → o ≡ None
none_there None e = refl
none_there (Some x) e = absurd cc

-- a key that was noted before keeps its place
pub noted_before : (bytes q : List ℕ) (place : ℕ) (f : List ℕ → Option ℕ)
    → (f bytes ≡ None → ⊥) → f q ≡ noted bytes place (f q) q
noted_before bytes q place f some = cases (f q) refl
  where
    none : f q ≡ None → (b : Bool) → bytes_eq bytes q ≡ b
        → None ≡ (if bytes_eq bytes q && is_utf8 bytes then Some place else None)
    none e true t = absurd (some (ap f ((bytes_decides bytes q).0 t) ∙ e))
    none e false t = rw t refl

    cases : (o : Option ℕ) → f q ≡ o → o ≡ noted bytes place o q
    cases (Some at) e = refl
    cases None e = none e (bytes_eq bytes q) refl

-- a new one gets the place
pub noted_now : (bytes q : List ℕ) (place : ℕ) (f : List ℕ → Option ℕ) (new : Option ℕ)
    → new ≡ cond (bytes_eq bytes q) (Some place) (f q) → f bytes ≡ None → is_utf8 bytes ≡ true
    → new ≡ noted bytes place (f q) q
noted_now bytes q place f new e none u = e ∙ cases (bytes_eq bytes q) refl
  where
    other : (o : Option ℕ) → bytes_eq bytes q ≡ false → o ≡ noted bytes place o q
    other (Some at) t = refl
    other None t = rw t refl

    same : (o : Option ℕ) → bytes_eq bytes q ≡ true → o ≡ None
        → Some place ≡ noted bytes place o q
    same (Some at) t n = absurd (none-some at (sym n))
    same None t n = rw (t, u) refl

    cases : (b : Bool) → bytes_eq bytes q ≡ b
        → cond (bytes_eq bytes q) (Some place) (f q) ≡ noted bytes place (f q) q
    cases true t =
        ap (λ b. cond b (Some place) (f q)) t
        ∙ same (f q) t (sym (ap f ((bytes_decides bytes q).0 t)) ∙ none)
    cases false t = ap (λ b. cond b (Some place) (f q)) t ∙ other (f q) t

-- what stands at a place is the key q exactly where the bytes are q and UTF-8
stands_here : (key q : List ℕ) → if_utf8 key ≡ Some q
    → (bytes_eq key q && is_utf8 key) ≡ true
stands_here key q e = cases (is_utf8 key) refl
  where
    cases : (b : Bool) → is_utf8 key ≡ b → (bytes_eq key q && is_utf8 key) ≡ true
    cases true u =
        let f : Some key ≡ Some q = rw u at e in
        rw (u, (bytes_decides key q).1 (let g : key ≡ q = cc in g)) refl
    cases false u = let f : None ≡ Some q = rw u at e in absurd cc

is_here : (key q : List ℕ) → (bytes_eq key q && is_utf8 key) ≡ true → if_utf8 key ≡ Some q
is_here key q e = cases (is_utf8 key) refl (bytes_eq key q) refl
  where
    cases : (b : Bool) → is_utf8 key ≡ b → (c : Bool) → bytes_eq key q ≡ c
        → if_utf8 key ≡ Some q
    cases true u true t = rw u (ap Some ((bytes_decides key q).0 t))
    cases b u false t = let f : false ≡ true = rw t at e in absurd cc
    cases false u true t = let f : false ≡ true = rw (t, u) at e in absurd cc

-- one key further
pub noted_next : (keys rest key : List ℕ) (start len : ℕ) (old new : List ℕ → Option ℕ)
    → rest ≡ drop start keys → first_zero rest ≡ Some len → key ≡ take len rest
    → begins_key keys start ≡ true → start < 2 ^ 31
    → ((q : List ℕ) → new q ≡ noted key start (old q) q)
    → NotedUpTo keys start old → NotedUpTo keys (start + (len + 1)) new
noted_next keys rest key start len old new r found k begins near step was q =
    rw (step q) (cases (old q) (was q))
  where
    Answer : Option ℕ → Type 0
    Answer o = MatchOption o ((p : ℕ) → p < start + (len + 1) → StandsWhole keys q p → ⊥)
        (StandsFirst keys q)

    here : key_at keys start ≡ if_utf8 key
    here = key_here keys rest key start len r found k

    fresh : ((p : ℕ) → p < start → StandsWhole keys q p → ⊥)
        → (b : Bool) → (bytes_eq key q && is_utf8 key) ≡ b
        → Answer (if b then Some start else None)
    fresh none true t = record {
      whole = record { begins = begins; reads = here ∙ is_here key q t; near = near };
      lowest = λ p w. elim (cases_lt p start) [
        | inl l ↦ absurd (none p l w)
        | inr l ↦ l
      ];
    }
    fresh none false t = λ p l w. elim (cases_lt p start) [
      | inl m ↦ none p m w
      | inr m ↦ elim (cases_lt start p) [
        | inl n ↦ none_inside keys rest q start len p r found n l w
        | inr n ↦
            (let i : p ≡ start = omega (arith, m, n) in
            let e : if_utf8 key ≡ Some q =
            sym here ∙ ap (key_at keys) (sym i) ∙ w.reads in
            let f = stands_here key q e in absurd cc)
      ]
    ]

    cases : (o : Option ℕ) → MatchOption o ((p : ℕ) → p < start → StandsWhole keys q p → ⊥)
        (StandsFirst keys q) → Answer (noted key start o q)
    cases (Some at) h = h
    cases None h = fresh h (bytes_eq key q && is_utf8 key) refl

-- and where no key begins further on, all are noted
pub all_noted : (keys : List ℕ) (start : ℕ) (f : List ℕ → Option ℕ) → NotedUpTo keys start f
    → ((q : List ℕ) (p : ℕ) → start ≤ p → StandsWhole keys q p → ⊥)
    → (q : List ℕ) → LendsKey keys q (f q)
all_noted keys start f was none q = cases (f q) (was q)
  where
    cases : (o : Option ℕ) → MatchOption o ((p : ℕ) → p < start → StandsWhole keys q p → ⊥)
        (StandsFirst keys q) → LendsKey keys q o
    cases (Some at) h = h
    cases None h = λ p w. elim (cases_lt p start) [
      | inl l ↦ h p l w
      | inr l ↦ none q p l w
    ]
