-- Paths that go on from one another.
use Rattle.std.proofs.Common.{◌≡◌, ℕ, zero, suc, ◌+◌, ◌-◌, ◌<◌, ◌≤◌, List, [], ◌∷◌}
use Rattle.std.proofs.Common.{◌++◌, length, get_or, map, reverse, refl, sym, ap, ◌∙◌}
use Rattle.std.proofs.Common.{subst, append_assoc, arith}
use Rattle.std.proofs.lemmas.List.{length_push, get_or_append_left, get_or_push, reverse-append}
use Rattle.std.proofs.lemmas.List.{map_push, get_or_past}
use Rattle.resb_diff.specs.Differences.{Step}
use Rattle.resb_diff.specs.Paths.{step_of, paths_behind, paths_of, GoOn}
use Rattle.resb_diff.specs.declared.paths.PathStep.{PathStep}
use Rattle.resb_diff.specs.declared.paths.Node.{Node}

pub paths_long : (ps : List (List Step)) (ns : List Node)
    → length (paths_behind ps ns) ≡ length ps + length ns
paths_long ps [] = omega arith
paths_long ps (n ∷ ns) =
    let p = get_or ps n.from [] ++ step_of n.step ∷ [] in
    omega (arith, paths_long (ps ++ p ∷ []) ns, length_push ps p)

pub paths_kept : (ps : List (List Step)) (ns : List Node) (i : ℕ) → i < length ps
    → get_or (paths_behind ps ns) i [] ≡ get_or ps i []
paths_kept ps [] i h = refl
paths_kept ps (n ∷ ns) i h =
    let p = get_or ps n.from [] ++ step_of n.step ∷ [] in
    paths_kept (ps ++ p ∷ []) ns i (omega (arith, length_push ps p))
    ∙ get_or_append_left ps (p ∷ []) [] i h

pub paths_push : (ps : List (List Step)) (ns : List Node) (m : Node)
    → paths_behind ps (ns ++ m ∷ []) ≡ paths_behind ps ns
    ++ (get_or (paths_behind ps ns) m.from [] ++ step_of m.step ∷ []) ∷ []
paths_push ps [] m = refl
paths_push ps (n ∷ ns) m = paths_push (ps ++ (get_or ps n.from [] ++ step_of n.step ∷ []) ∷ []) ns m

pub GoOn-push : (n : ℕ) (ns : List Node) (m : Node) → GoOn n ns → m.from < n + length ns
    → GoOn n (ns ++ m ∷ [])
GoOn-push n [] m h k = (omega arith, tt)
GoOn-push n (o ∷ ns) m h k = (h.0, GoOn-push (n + 1) ns m h.1 (omega arith))

pub goes_on_before : (n : ℕ) (ns : List Node) (i : ℕ) (d : Node) → GoOn n ns → i < length ns
    → (get_or ns i d).from < n + i
goes_on_before n [] i d h k = absurd (omega arith)
goes_on_before n (o ∷ ns) zero d h k = omega (arith, h.0)
goes_on_before n (o ∷ ns) (suc i) d h k =
    omega (arith, goes_on_before (n + 1) ns i d h.1 (omega arith))

pub path_at : (ps : List (List Step)) (ns : List Node) (i : ℕ) (d : Node) → GoOn (length ps) ns
    → i < length ns
    → get_or (paths_behind ps ns) (length ps + i) []
    ≡ get_or (paths_behind ps ns) (get_or ns i d).from [] ++ step_of (get_or ns i d).step ∷ []
path_at ps [] i d h k = absurd (omega arith)
path_at ps (n ∷ ns) zero d h k =
    let p : List Step = get_or ps n.from [] ++ step_of n.step ∷ [] in
    let e : length ps + 0 ≡ length ps = omega arith in
    let more : length ps < length (ps ++ p ∷ []) = omega (arith, length_push ps p) in
    ap (λ j. get_or (paths_behind (ps ++ p ∷ []) ns) j []) e
    ∙ paths_kept (ps ++ p ∷ []) ns (length ps) more
    ∙ get_or_push ps p [] (length ps) refl
    ∙ ap (λ q. q ++ step_of n.step ∷ [])
    (sym (paths_kept (ps ++ p ∷ []) ns n.from (omega (arith, h.0, more))
    ∙ get_or_append_left ps (p ∷ []) [] n.from h.0))
path_at ps (n ∷ ns) (suc i) d h k =
    let p : List Step = get_or ps n.from [] ++ step_of n.step ∷ [] in
    let e : length ps + suc i ≡ length (ps ++ p ∷ []) + i = omega (arith, length_push ps p) in
    let one : length ps + 1 ≡ length (ps ++ p ∷ []) = omega (arith, length_push ps p) in
    ap (λ j. get_or (paths_behind (ps ++ p ∷ []) ns) j []) e
    ∙ path_at (ps ++ p ∷ []) ns i d (subst (λ j. GoOn j ns) one h.1) (omega arith)

-- the last step of a path goes before those that are known already
pub step_taken : (path front whole : List Step) (step : PathStep) (back : List PathStep)
    → path ≡ front ++ step_of step ∷ [] → path ++ reverse (map step_of back) ≡ whole
    → front ++ reverse (map step_of (back ++ step ∷ [])) ≡ whole
step_taken path front whole step back e h =
    ap (λ l. front ++ reverse l) (map_push step_of back step)
    ∙ ap (λ l. front ++ l) (reverse-append (map step_of back) (step_of step ∷ []))
    ∙ sym (append_assoc front (step_of step ∷ []) (reverse (map step_of back)))
    ∙ ap (λ l. l ++ reverse (map step_of back)) (sym e)
    ∙ h

pub steps-reverse : (xs : List PathStep) → map step_of (reverse xs) ≡ reverse (map step_of xs)
steps-reverse [] = refl
steps-reverse (x ∷ xs) =
    ap (map step_of) (reverse-append (x ∷ []) xs)
    ∙ map_push step_of (reverse xs) x
    ∙ ap (λ l. l ++ step_of x ∷ []) (steps-reverse xs)
    ∙ sym (reverse-append (step_of x ∷ []) (map step_of xs))

-- the path of number 0 has no step
pub first_path : (ns : List Node) (i : ℕ) → i ≡ 0 → get_or (paths_of ns) i [] ≡ []
first_path ns i e =
    ap (λ j. get_or (paths_of ns) j []) e ∙ paths_kept ([] ∷ []) ns 0 (omega arith)

-- there is none behind that of the last node
pub no_path : (ns : List Node) (i : ℕ) → length ns + 1 ≤ i → get_or (paths_of ns) i [] ≡ []
no_path ns i h = get_or_past (paths_of ns) i [] (omega (arith, paths_long ([] ∷ []) ns))

-- the path of a node goes on from one before it
pub last_path : (ns : List Node) (i : ℕ) (m : Node) → GoOn 1 ns → 0 < i → i - 1 < length ns
    → m ≡ get_or ns (i - 1) m
    → (m.from < i)
    × (get_or (paths_of ns) i [] ≡ get_or (paths_of ns) m.from [] ++ step_of m.step ∷ [])
last_path ns i m g p h e =
    let j : 1 + (i - 1) ≡ i = omega arith in (
      omega (arith, goes_on_before 1 ns (i - 1) m g h, ap (λ (n : Node). n.from) e),
      ap (λ k. get_or (paths_of ns) k []) (sym j)
          ∙ path_at ([] ∷ []) ns (i - 1) m g h
          ∙ ap (λ (n : Node). get_or (paths_of ns) n.from [] ++ step_of n.step ∷ []) (sym e),
    )
