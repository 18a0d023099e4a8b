-- A key at the end of a run of the pool: it is read there, it has one place, and where it has none,
-- the key in which it lies without the pool has none either.
use Rattle.std.proofs.Common.{ℕ, zero, suc, List, [], ◌∷◌, ◌++◌, ◌≡◌, ◌+◌, ◌-◌, ◌<◌, ◌≤◌, ◌^◌}
use Rattle.std.proofs.Common.{◌⊎◌, inl, inr}
use Rattle.std.proofs.Common.{take, drop, length, reverse, Option, Some, None, Bool, true, false}
use Rattle.std.proofs.Common.{cond}
use Rattle.std.proofs.Common.{refl, sym, ap, ◌∙◌, arith, nat_eq, length-append}
use Rattle.std.proofs.Common.{append_assoc, length-drop, ◌||◌}
use Rattle.std.specs.List.{ends_with}
use Rattle.std.specs.Str.{IsUtf8}
use Rattle.std.specs.Ordering.{nat_cmp, ordering_then, ordering_reverse, is_lt}
use Rattle.std.specs.declared.cmp.Ordering.{Ordering}
use Rattle.std.specs.declared.cmp.Ordering.TheVariants.{Less, Equal, Greater}
use Rattle.std.specs.Prelude.{option_and_then}
use Rattle.std.proofs.Math.Seq.{drop-append_seam, take-append_seam}
use Rattle.std.proofs.lemmas.Bool.Decides.{Decides-eqb, nat_tests}
use Rattle.std.proofs.lemmas.Cmp.{nat_cmp_total, ranked, by_ranked, tied_itself}
use Rattle.std.proofs.lemmas.List.{reverse-reverse, take-append-drop, drop-drop}
use Rattle.std.proofs.lemmas.Slice.Eq.{ends_is}
use Rattle.std.proofs.lemmas.Str.{is_utf8-from_IsUtf8}
use Rattle.resb_tree.specs.Maps.{text_cmp}
use Rattle.resb_format.specs.Strings.{before_zero, if_utf8, key_at}
use Rattle.resb_format.proofs.StringsIn.{ends_at_zero}
use Rattle.resb_pool.specs.Order.{end_last_cmp}
use Rattle.resb_pool.specs.Inner.Extends.{Extends}
use Rattle.resb_pool.proofs.SuffixOrder.{tied_same}
use Rattle.resb_layout.specs.CompactKeys.{container}
use Rattle.resb_lent.specs.LentEnds.{IsRun, run_cmp, EndsLast, LendsEnd, is_not_behind}
use Rattle.resb_lent.specs.LentEnds.{place_at_end, LiesInPool}
use Rattle.resb_lent.proofs.LastEnding.{ends_extends, extends_ends}
use Rattle.resb_lent.proofs.Lying.{turned}
use Rattle.resb_lent.proofs.Runs.{run_zero}
use Rattle.resb_lent.proofs.Wholes.{zero_at, first_zero, ended}

-- past bytes that aren't zero, the first zero byte is as many bytes nearer
zero_nearer : (xs : List ℕ) (m : ℕ) → m ≤ zero_at xs → zero_at (drop m xs) + m ≡ zero_at xs
zero_nearer xs zero l = omega arith
zero_nearer [] (suc m) l = omega (arith, l)
zero_nearer (x ∷ xs) (suc m) l =
    by (λ h. zero_nearer xs m h) (nat_eq x 0) refl
  where
    by : (m ≤ zero_at xs → zero_at (drop m xs) + m ≡ zero_at xs) → (b : Bool) → nat_eq x 0 ≡ b
        → zero_at (drop (suc m) (x ∷ xs)) + suc m ≡ zero_at (x ∷ xs)
    by later true e = absurd (let f = rw e at l in omega (arith, f))
    by later false e =
        let f = rw e at l in
        let z : zero_at (x ∷ xs) ≡ 1 + zero_at xs = rw e refl in
        omega (arith, z, later (omega (arith, f)))

-- what ends a run is what stands there up to the zero byte behind it
rest_stands : (a b xs : List ℕ) → before_zero xs ≡ Some (a ++ b)
    → before_zero (drop (length a) xs) ≡ Some b
rest_stands a b xs e =
    let z = run_zero xs (a ++ b) e in
    let l = ended xs (a ++ b) e in
    let found : zero_at xs ≡ length (a ++ b) = at_length z.0 l in
    let near = zero_nearer xs (length a) (omega (arith, found, length-append a b)) in
    let ys = drop (length a) xs in
    let long : zero_at ys ≡ length b = omega (arith, near, found, length-append a b) in
    let inside : zero_at ys < length ys =
    omega (arith, l, near, length-drop (length a) xs, found, length-append a b) in
    let whole : xs ≡ a ++ (b ++ drop (length (a ++ b)) xs) =
    sym (take-append-drop (length (a ++ b)) xs)
    ∙ ap (λ t. t ++ drop (length (a ++ b)) xs) z.1
    ∙ append_assoc a b (drop (length (a ++ b)) xs) in
    let rest : ys ≡ b ++ drop (length (a ++ b)) xs =
    ap (drop (length a)) whole ∙ drop-append_seam a (b ++ drop (length (a ++ b)) xs) in
    ends_at_zero ys inside
    ∙ ap Some ((λ i. take (long i) (rest i)) ∙ take-append_seam b (drop (length (a ++ b)) xs))
  where
    at_length : first_zero xs ≡ Some (length (a ++ b)) → zero_at xs < length xs
        → zero_at xs ≡ length (a ++ b)
    at_length f l =
        let found : first_zero xs ≡ Some (zero_at xs) = grind (arith, nat_tests, l) in
        let same : Some (zero_at xs) ≡ Some (length (a ++ b)) = sym found ∙ f in
        cc

utf8_kept : (k : List ℕ) → IsUtf8 k → if_utf8 k ≡ Some k
utf8_kept k u = rw (is_utf8-from_IsUtf8 k u) refl

-- a key at the end of a run is read there
pub end_read : (keys k : List ℕ) (e : List ℕ × ℕ) → IsRun keys e → ends_with nat_eq e.0 k ≡ true
    → IsUtf8 k → key_at keys (e.1 + (length e.0 - length k)) ≡ Some k
unfolding key_at
end_read keys k e w ends u =
    let n = length e.0 - length k in
    let a = take n e.0 in
    let is : e.0 ≡ a ++ k = (ends_is Decides-eqb e.0 k (ends_with nat_eq e.0 k) refl).0 ends in
    let long : length a ≡ n = omega (arith, ap length is, length-append a k) in
    let here : before_zero (drop (length a) (drop e.1 keys)) ≡ Some k =
    rest_stands a k (drop e.1 keys) (w.bytes ∙ ap Some is) in
    let place : drop (length a) (drop e.1 keys) ≡ drop (e.1 + n) keys =
    drop-drop (length a) e.1 keys ∙ (λ i. drop (e.1 + long i) keys) in
    ap (λ l. option_and_then if_utf8 (before_zero l)) (sym place)
    ∙ ap (option_and_then if_utf8) here ∙ utf8_kept k u

-- of two last ones, both are the same
one_last : (keys k : List ℕ) (e f : List ℕ × ℕ) → EndsLast keys k e → EndsLast keys k f → e ≡ f
one_last keys k e f x y = by (end_last_cmp (reverse e.0) (reverse f.0)) refl
  where
    forward : run_cmp e f ≡ Less → ⊥
    forward = x.last f y.run y.ends

    back : run_cmp f e ≡ Less → ⊥
    back = y.last e x.run x.ends

    by : (o : Ordering) → end_last_cmp (reverse e.0) (reverse f.0) ≡ o → e ≡ f
    by Less g = absurd (forward (ap (λ o. ordering_then o (nat_cmp e.1 f.1)) g))
    by Greater g = absurd (back (ap (λ o. ordering_then o (nat_cmp f.1 e.1))
        (turned (reverse e.0) (reverse f.0) Greater g)))
    by Equal g =
        let text : e.0 ≡ f.0 =
        sym (reverse-reverse e.0) ∙ ap reverse (tied_same (reverse e.0) (reverse f.0) g)
        ∙ reverse-reverse f.0 in
        let at : e.1 ≡ f.1 = by_ranked (e.1 < f.1) (e.1 ≡ f.1) (f.1 < e.1) (nat_cmp e.1 f.1)
        (ranked e.1 f.1 (nat_cmp e.1 f.1) refl)
        (λ o h. absurd (forward (ap (λ p. ordering_then p (nat_cmp e.1 f.1)) g ∙ o)))
        (λ o h. h)
        (λ o h. absurd (back (ap (λ p. ordering_then p (nat_cmp f.1 e.1))
        (turned (reverse e.0) (reverse f.0) Equal g) ∙ nat_cmp_total.antisymm f.1 e.1
        ∙ ap (λ p. ordering_reverse p) o))) in
        λ i. (text i, at i)

pub one_end : (keys k : List ℕ) (o p : Option (List ℕ × ℕ)) → LendsEnd keys k o
    → LendsEnd keys k p → o ≡ p
one_end keys k None None x y = refl
one_end keys k None (Some f) x y = absurd (x f y.run y.ends)
one_end keys k (Some e) None x y = absurd (y e x.run x.ends)
one_end keys k (Some e) (Some f) x y = ap Some (one_last keys k e f x y)

-- a key lies at one place of the pool, or nowhere there
pub one_lying : (keys : List ℕ) (js : List (List ℕ)) (k : List ℕ) (o p : Option ℕ)
    → LiesInPool keys js k o → LiesInPool keys js k p → o ≡ p
one_lying keys js k o p x y =
    x.place ∙ ap (λ r. place_at_end r js k) (one_end keys k x.run y.run x.lends y.lends)
    ∙ sym y.place

-- the place is at the end of the last run
pub record IsAtEnd (keys k : List ℕ) (n : ℕ) : Type 0 where
  pub run : List ℕ × ℕ
  pub lends : EndsLast keys k run
  pub is : n ≡ run.1 + (length run.0 - length k)

pub lies_at_end : (keys : List ℕ) (js : List (List ℕ)) (k : List ℕ) (n : ℕ)
    → LiesInPool keys js k (Some n) → IsAtEnd keys k n
lies_at_end keys js k n x = by x.run x.lends x.place
  where
    by : (r : Option (List ℕ × ℕ)) → LendsEnd keys k r → Some n ≡ place_at_end r js k
        → IsAtEnd keys k n
    by None l e = absurd cc
    by (Some f) l e = inside (is_not_behind f.0 (container js k)) refl
      where
        inside : (b : Bool) → is_not_behind f.0 (container js k) ≡ b → IsAtEnd keys k n
        inside true g =
            let same : Some n ≡ Some (f.1 + (length f.0 - length k)) =
            e ∙ ap (λ b. cond b (Some (f.1 + (length f.0 - length k))) None) g in
            record { run = f; lends = l; is = cc }
        inside false g =
            let no : Some n ≡ None =
            e ∙ ap (λ b. cond b (Some (f.1 + (length f.0 - length k))) None) g in
            absurd cc

-- it is read there
pub lying_read : (keys : List ℕ) (js : List (List ℕ)) (k : List ℕ) (n : ℕ) → IsUtf8 k
    → LiesInPool keys js k (Some n) → key_at keys n ≡ Some k
lying_read keys js k n u x =
    let h = lies_at_end keys js k n x in
    ap (key_at keys) h.is ∙ end_read keys k h.run h.lends.run h.lends.ends u

-- positions of 31 bits reach it
pub lying_near : (keys : List ℕ) (js : List (List ℕ)) (k : List ℕ) (n : ℕ)
    → LiesInPool keys js k (Some n) → n < 2 ^ 31
lying_near keys js k n x =
    let h = lies_at_end keys js k n x in
    omega (arith, h.is, h.lends.run.near)

-- what doesn't stand before a list that begins with another one, is begun by that one, or stands
-- behind it
behind_or_begun : (e c f : List ℕ) → Extends e c → (end_last_cmp f e ≡ Less → ⊥)
    → Extends c f ⊎ (text_cmp c f ≡ Less)
behind_or_begun e [] [] x n = inl (record { rest = []; is = refl })
behind_or_begun e [] (y ∷ f) x n = inr refl
behind_or_begun e (z ∷ c) [] x n = inl (record { rest = z ∷ c; is = refl })
behind_or_begun e (z ∷ c) (y ∷ f) x n =
    by_ranked (z < y) (z ≡ y) (y < z) (nat_cmp z y) (ranked z y (nat_cmp z y) refl)
    (λ o h. inr (ap (λ p. ordering_then p (text_cmp c f)) o))
    (λ o h. same h (behind_or_begun (c ++ x.rest) c f (record { rest = x.rest; is = refl })
    (λ g. n (ap (end_last_cmp (y ∷ f)) x.is
    ∙ ap (λ q. ordering_then (nat_cmp y q) (end_last_cmp f (c ++ x.rest))) h
    ∙ ap (λ p. ordering_then p (end_last_cmp f (c ++ x.rest))) (tied_itself nat_cmp_total y)
    ∙ g))))
    (λ o h. absurd (n (ap (end_last_cmp (y ∷ f)) x.is
    ∙ ap (λ p. ordering_then p (end_last_cmp f (c ++ x.rest)))
    (nat_cmp_total.antisymm y z ∙ ap (λ p. ordering_reverse p) o))))
  where
    same : z ≡ y → Extends c f ⊎ (text_cmp c f ≡ Less)
        → Extends (z ∷ c) (y ∷ f) ⊎ (text_cmp (z ∷ c) (y ∷ f) ≡ Less)
    same h (inl g) = inl (record { rest = g.rest; is = λ i. h i ∷ g.is i })
    same h (inr g) = inr (ap (λ q. ordering_then (nat_cmp q y) (text_cmp c f)) h
        ∙ ap (λ p. ordering_then p (text_cmp c f)) (tied_itself nat_cmp_total y) ∙ g)

-- where a key lies in the file, the key in which it lies does so too
pub container_in_file : (keys : List ℕ) (js : List (List ℕ)) (k : List ℕ) (o : Option ℕ)
    → ends_with nat_eq (container js k) k ≡ true → LiesInPool keys js k None
    → LiesInPool keys js (container js k) o → o ≡ None
container_in_file keys js k o holds x y = by y.run y.lends y.place
  where
    c : List ℕ
    c = container js k

    either : (a b : Bool) → b ≡ true → (a || b) ≡ true
    either true b h = refl
    either false b h = h

    -- what ends with the container ends with the key
    reaches : (e : List ℕ × ℕ) → ends_with nat_eq e.0 c ≡ true → ends_with nat_eq e.0 k ≡ true
    reaches e h =
        let x = ends_extends e.0 c h in
        let y = ends_extends c k holds in
        extends_ends e.0 k (record {
          rest = y.rest ++ x.rest;
          is = x.is ∙ ap (λ l. l ++ x.rest) y.is ∙ append_assoc (reverse k) y.rest x.rest;
        })

    apart : (e : List ℕ × ℕ) → EndsLast keys c e → (r : Option (List ℕ × ℕ)) → LendsEnd keys k r
        → None ≡ place_at_end r js k → ⊥
    apart e last None l g = l e last.run (reaches e last.ends)
    apart e last (Some f) l g = hidden (behind_or_begun (reverse e.0) (reverse c) (reverse f.0)
        (ends_extends e.0 c last.ends)
        (λ less. l.last e last.run (reaches e last.ends)
        (ap (λ o. ordering_then o (nat_cmp f.1 e.1)) less)))
      where
        given : is_not_behind f.0 c ≡ true → ⊥
        given t =
            let no : None ≡ Some (f.1 + (length f.0 - length k)) =
            g ∙ ap (λ b. cond b (Some (f.1 + (length f.0 - length k))) None) t in
            cc

        hidden : Extends (reverse c) (reverse f.0) ⊎ (text_cmp (reverse c) (reverse f.0) ≡ Less) → ⊥
        hidden (inl h) =
            given (ap (λ b. b || is_lt (text_cmp (reverse c) (reverse f.0)))
            (extends_ends c f.0 h))
        hidden (inr h) = given (either (ends_with nat_eq c f.0)
            (is_lt (text_cmp (reverse c) (reverse f.0))) (ap is_lt h))

    by : (r : Option (List ℕ × ℕ)) → LendsEnd keys c r → o ≡ place_at_end r js c → o ≡ None
    by None l g = g
    by (Some e) l g = absurd (apart e l x.run x.lends x.place)
