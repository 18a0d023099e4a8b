-- The runs of a pool's keys are found one after the other: the steps of `runs_in`.
use Rattle.std.proofs.Common.{ℕ, List, [], ◌∷◌, ◌++◌, ◌≡◌, ◌+◌, ◌-◌, ◌<◌, ◌≤◌, ◌^◌, inl, inr}
use Rattle.std.proofs.Common.{take, drop, length, get_or, Some, None, option_map, true, false, map}
use Rattle.std.proofs.Common.{sym, ap, ◌∙◌, subst, arith, nat_eq, length-drop}
use Rattle.std.specs.List.{All, Contains}
use Rattle.std.proofs.lemmas.Bool.{cases_lt}
use Rattle.std.proofs.lemmas.Bool.Decides.{nat_tests}
use Rattle.std.proofs.lemmas.List.{get_or-drop, length-take-le, map_push}
use Rattle.std.proofs.lemmas.List.Elements.{All-push, Contains-push, Contains-append_left}
use Rattle.std.proofs.lemmas.List.Quantifiers.{position-Some}
use Rattle.resb_format.specs.Strings.{before_zero}
use Rattle.resb_lent.specs.LentKeys.{begins_key}
use Rattle.resb_lent.specs.LentEnds.{IsRun}
use Rattle.resb_lent.specs.LendingEnds.{run_of}
use Rattle.resb_lent.specs.Inner.Runs.{ListsRuns, ListsAllRuns}
use Rattle.resb_lent.specs.declared.ends.LentRun.{LentRun}
use Rattle.resb_lent.proofs.Wholes.{zero_at, first_zero, ended, no_zeros, begins_inside}

-- what stands before the first zero byte has it right behind
pub run_zero : (xs t : List ℕ) → before_zero xs ≡ Some t
    → (first_zero xs ≡ Some (length t)) × (take (length t) xs ≡ t) × (length t < length xs)
run_zero xs t e =
    let l = ended xs t e in
    let found : first_zero xs ≡ Some (zero_at xs) = grind (arith, nat_tests, l) in
    let same : Some (take (zero_at xs) xs) ≡ Some t =
    sym (ap (option_map (λ n. take n xs)) found) ∙ e in
    let is : take (zero_at xs) xs ≡ t = cc in
    let long : zero_at xs ≡ length t =
    sym (length-take-le (zero_at xs) xs (omega (arith, l))) ∙ ap length is in (
      found ∙ ap Some long,
      ap (λ n. take n xs) (sym long) ∙ is,
      omega (arith, l, long),
    )

-- a run has a zero byte right behind it
pub run_ended : (keys : List ℕ) (e : List ℕ × ℕ) → IsRun keys e
    → (e.1 + length e.0 < length keys) × (get_or keys (e.1 + length e.0) 0 ≡ 0)
run_ended keys e w =
    let xs = drop e.1 keys in
    let z = run_zero xs e.0 w.bytes in
    let is = position-Some (λ x. nat_eq x 0) xs (length e.0) 0 z.0 in
    let byte : get_or xs (length e.0) 0 ≡ 0 = grind (arith, nat_tests, is.1) in (
      omega (arith, z.2, length-drop e.1 keys),
      sym (get_or-drop e.1 keys (length e.0) 0) ∙ byte,
    )

-- a run that begins at a place or behind it ends no earlier than the first zero byte from there on
pub ends_behind : (keys rest : List ℕ) (start len : ℕ) (e : List ℕ × ℕ) → rest ≡ drop start keys
    → first_zero rest ≡ Some len → start ≤ e.1 → IsRun keys e → start + len ≤ e.1 + length e.0
ends_behind keys rest start len e r found le w = elim (cases_lt (e.1 + length e.0) (start + len)) [
  | inr h ↦ h
  | inl h ↦
      let is = position-Some (λ x. nat_eq x 0) rest len 0 found in
      let z = e.1 + length e.0 in
      let k = z - start in
      let i : start + k ≡ z = omega (arith, le) in
      let full : nat_eq (get_or rest k 0) 0 ≡ false = is.2 k (omega (arith, h, le)) in
      let same : get_or rest k 0 ≡ 0 =
      ap (λ x. get_or x k 0) r ∙ get_or-drop start keys k 0 ∙ ap (λ n. get_or keys n 0) i
      ∙ (run_ended keys e w).1 in
      absurd (grind (arith, nat_tests, full, same))
]

-- no run begins where no zero byte follows
pub none_behind : (keys rest : List ℕ) (start : ℕ) (e : List ℕ × ℕ) → rest ≡ drop start keys
    → first_zero rest ≡ None → start ≤ e.1 → IsRun keys e → ⊥
none_behind keys rest start e r none le w =
    let z = run_ended keys e w in
    let p = e.1 + length e.0 in
    let f : length rest ≤ zero_at rest = grind (arith, nat_tests, none) in
    let i : start + (p - start) ≡ p = omega (arith, le) in
    no_zeros rest (p - start) f
    (omega (arith, ap length r ∙ length-drop start keys, z.0, le))
    (ap (λ l. get_or l (p - start) 0) r ∙ get_or-drop start keys (p - start) 0
    ∙ ap (λ n. get_or keys n 0) i ∙ z.1)

pub no_runs : (keys : List ℕ) (rs : List LentRun) → rs ≡ [] → ListsRuns keys 0 rs
no_runs keys rs e = record {
  sound = λ i d l. absurd (omega (arith, l, ap length e));
  complete = λ e w l. absurd (omega (arith, l));
}

-- one run further
pub run_listed : (keys rest : List ℕ) (start len : ℕ) (rs more : List LentRun) (r : LentRun)
    → rest ≡ drop start keys → first_zero rest ≡ Some len → run_of r ≡ (take len rest, start)
    → begins_key keys start ≡ true → start + len < 2 ^ 31 → more ≡ rs ++ r ∷ []
    → ListsRuns keys start rs → ListsRuns keys (start + (len + 1)) more
run_listed keys rest start len rs more r is found this begins near m was = record {
  sound = subst (All (λ x. IsRun keys (run_of x))) (sym m)
      (All-push (λ x. IsRun keys (run_of x)) rs r was.sound own);
  complete = λ e w l. subst (λ (x : List (List ℕ × ℕ)). Contains x e) (sym all)
      (elim (cases_lt e.1 start) [
        | inl h ↦ Contains-append_left (map run_of rs) (run_of r ∷ []) e (was.complete e w h)
        | inr h ↦ subst (Contains (map run_of rs ++ run_of r ∷ [])) (same e w l h)
            (Contains-push (map run_of rs) (run_of r))
      ]);
}
  where
    all : map run_of more ≡ map run_of rs ++ run_of r ∷ []
    all = ap (map run_of) m ∙ map_push run_of rs r

    here : before_zero (drop start keys) ≡ Some (take len rest)
    here = ap before_zero (sym is) ∙ ap (option_map (λ n. take n rest)) found

    short : length (take len rest) ≡ len
    short =
        let p = position-Some (λ x. nat_eq x 0) rest len 0 found in
        length-take-le len rest (omega (arith, p.0))

    own : IsRun keys (run_of r)
    own = subst (IsRun keys) (sym this) (record {
      begins = begins;
      bytes = here;
      near = omega (arith, near, short);
    })

    same : (e : List ℕ × ℕ) → IsRun keys e → e.1 < start + (len + 1) → start ≤ e.1 → run_of r ≡ e
    same e w l h = elim (cases_lt start e.1) [
      | inl n ↦ absurd (begins_inside keys rest start len e.1 is found n l w.begins)
      | inr n ↦
          let at : start ≡ e.1 = omega (arith, h, n) in
          let both : Some (take len rest) ≡ Some e.0 =
          sym here ∙ ap (λ n. before_zero (drop n keys)) at ∙ w.bytes in
          let text : take len rest ≡ e.0 = cc in
          this ∙ (λ i. (text i, at i))
    ]

-- where no run begins further on, all are listed
pub all_listed : (keys : List ℕ) (start : ℕ) (rs : List LentRun) → ListsRuns keys start rs
    → ((e : List ℕ × ℕ) → start ≤ e.1 → IsRun keys e → ⊥) → ListsAllRuns keys rs
all_listed keys start rs was none = record {
  sound = was.sound;
  complete = λ e w. elim (cases_lt e.1 start) [
    | inl l ↦ was.complete e w l
    | inr l ↦ absurd (none e l w)
  ];
}
