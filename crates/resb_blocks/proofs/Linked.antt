-- Units are well-formed exactly where their ends and their neighbours are.
use Rattle.std.proofs.Common.{ℕ, zero, suc, List, [], ◌∷◌, ◌≡◌, ◌+◌, ◌-◌, ◌<◌, ◌≤◌, Bool, true}
use Rattle.std.proofs.Common.{false, length, get_or, take, drop, refl, sym, ap, ◌∙◌, arith}
use Rattle.std.proofs.Common.{inl, inr}
use Rattle.std.proofs.lemmas.Bool.{cases_lt}
use Rattle.std.proofs.lemmas.List.{get_or-drop, get_or-take, length-take-le}
use Rattle.std.proofs.Common.{length-drop, length-append, ◌++◌, ◌*◌, ◌⊎◌}
use Rattle.std.proofs.Math.ListN.{get_or-append}
use Rattle.std.proofs.Math.Seq.{get_or-append_seam}
use Rattle.std.specs.Char.Utf16.{is_high_surrogate, is_low_surrogate}
use Rattle.resb_blocks.specs.Links.{AreLinked, AreCounted, break_at, break_count, IsLinkedText}
use Rattle.resb_blocks.specs.Links.{IsWellFormed}
use Rattle.resb_blocks.proofs.Surrogates.{low_is_not_high, plain_first, pair_first, empty_is_paired}
use Rattle.resb_blocks.proofs.Surrogates.{high_alone, low_first, high_last}

-- the same of a list without its first unit, where its first is then no second of a pair
without_first : (u : ℕ) (us : List ℕ) → is_low_surrogate (get_or us 0 0) ≡ false
    → IsLinkedText (u ∷ us) → IsLinkedText us
without_first u [] s h = (refl, refl, λ k _ m. absurd (omega (arith, m)))
without_first u (v ∷ us) s h =
    let e : length (u ∷ v ∷ us) - 1 ≡ suc (length us) = omega arith in
    let f : length (v ∷ us) - 1 ≡ length us = omega arith in
    let last : is_high_surrogate (get_or (v ∷ us) (length us) 0) ≡ false = rw e at h.1 in (
      s,
      rw f last,
      λ k _ m.
          (let g : suc k + 1 ≡ suc (k + 1) = omega arith in
          rw g at (h.2 (suc k) (omega arith) (omega (arith, m)))),
    )

linked_step : (u v : ℕ) (us : List ℕ) (b : Bool) → is_high_surrogate u ≡ b
    → IsLinkedText (u ∷ v ∷ us)
    → (IsLinkedText (v ∷ us) → IsWellFormed (v ∷ us)) → (IsLinkedText us → IsWellFormed us)
    → IsWellFormed (u ∷ v ∷ us)
linked_step u v us false b h one two =
    let link : is_high_surrogate u ≡ is_low_surrogate v = h.2 0 (omega arith) (omega arith) in
    let low : is_low_surrogate v ≡ false = sym link ∙ b in
    plain_first u (v ∷ us) b h.0 ∙ one (without_first u (v ∷ us) low h)
linked_step u v us true b h one two =
    let link : is_high_surrogate u ≡ is_low_surrogate v = h.2 0 (omega arith) (omega arith) in
    let low : is_low_surrogate v ≡ true = sym link ∙ b in
    pair_first u v us b low ∙ two (linked_behind us low h)
  where
    linked_behind : (ws : List ℕ) → is_low_surrogate v ≡ true → IsLinkedText (u ∷ v ∷ ws)
        → IsLinkedText ws
    linked_behind [] l g = (refl, refl, λ k _ m. absurd (omega (arith, m)))
    linked_behind (w ∷ ws) l g =
        let first : is_high_surrogate v ≡ is_low_surrogate w = g.2 1 (omega arith) (omega arith) in
        let none = low_is_not_high v l in
        let e : length (u ∷ v ∷ w ∷ ws) - 1 ≡ suc (suc (length ws)) = omega arith in
        let f : length (w ∷ ws) - 1 ≡ length ws = omega arith in
        let last : is_high_surrogate (get_or (w ∷ ws) (length ws) 0) ≡ false = rw e at g.1 in (
          sym first ∙ none,
          rw f last,
          λ k _ m.
              (let i : suc (suc k) + 1 ≡ suc (suc (k + 1)) = omega arith in
              rw i at (g.2 (suc (suc k)) (omega arith) (omega (arith, m)))),
        )

pub text_is_well_formed : (us : List ℕ) → IsLinkedText us → IsWellFormed us
text_is_well_formed [] h = empty_is_paired
text_is_well_formed (u ∷ []) h = plain_first u [] h.1 h.0 ∙ empty_is_paired
text_is_well_formed (u ∷ v ∷ us) h =
    linked_step u v us (is_high_surrogate u) refl h
    (λ g. text_is_well_formed (v ∷ us) g) (λ g. text_is_well_formed us g)

-- a part of a run
pub part_of_run : (us : List ℕ) (a b from count : ℕ) → AreLinked us a b → a ≤ from
    → from + count ≤ b → 0 < count → b ≤ length us
    → is_low_surrogate (get_or us from 0) ≡ false
    → is_high_surrogate (get_or us (from + count - 1) 0) ≡ false
    → IsWellFormed (take count (drop from us))
part_of_run us a b from count h l r some inside low high =
    let xs = take count (drop from us) in
    let many : length xs ≡ count =
    length-take-le count (drop from us) (omega (arith, length-drop from us)) in
    let at : (k : ℕ) → k < count → get_or xs k 0 ≡ get_or us (from + k) 0 =
    λ k m. get_or-take count (drop from us) k 0 m ∙ get_or-drop from us k 0 in
    let e : length xs - 1 ≡ count - 1 = ap (λ n. n - 1) many in
    let f : from + (count - 1) ≡ from + count - 1 = omega (arith, some) in
    text_is_well_formed xs (
      ap is_low_surrogate (at 0 some)
          ∙ ap (λ n. is_low_surrogate (get_or us n 0))
          (let g : from + 0 ≡ from = omega arith in g) ∙ low,
      ap (λ n. is_high_surrogate (get_or xs n 0)) e
          ∙ ap is_high_surrogate (at (count - 1) (omega (arith, some)))
          ∙ ap (λ n. is_high_surrogate (get_or us n 0)) f ∙ high,
      λ k _ m. (
          let i : k + 1 < count = omega (arith, many, m) in
          ap is_high_surrogate (at k (omega (arith, i)))
          ∙ h (from + k) (omega (arith, l)) (omega (arith, i, r))
          ∙ ap (λ n. is_low_surrogate (get_or us n 0))
          (let g : from + k + 1 ≡ from + (k + 1) = omega arith in g)
          ∙ sym (ap is_low_surrogate (at (k + 1) i))
          ),
    )

-- a unit before a linked text
linked_behind_unit : (u : ℕ) (us : List ℕ)
    → is_high_surrogate u ≡ is_low_surrogate (get_or us 0 0)
    → AreLinked us 0 (length us) → AreLinked (u ∷ us) 0 (length (u ∷ us))
linked_behind_unit u us link h zero l m = link
linked_behind_unit u us link h (suc k) l m =
    let e : suc k + 1 ≡ suc (k + 1) = omega arith in
    rw e (h k (omega arith) (omega (arith, m)))

behind_first : (u v : ℕ) (us : List ℕ) → is_low_surrogate u ≡ false
    → is_high_surrogate u ≡ is_low_surrogate v
    → is_high_surrogate (get_or (v ∷ us) (length (v ∷ us) - 1) 0) ≡ false
    → AreLinked (v ∷ us) 0 (length (v ∷ us)) → IsLinkedText (u ∷ v ∷ us)
behind_first u v us low link last h =
    let e : length (u ∷ v ∷ us) - 1 ≡ suc (length us) = omega arith in
    let f : length (v ∷ us) - 1 ≡ length us = omega arith in
    let g : is_high_surrogate (get_or (v ∷ us) (length us) 0) ≡ false = rw f at last in (
      low,
      rw e g,
      linked_behind_unit u (v ∷ us) link h,
    )

pair_ends : (v : ℕ) (us : List ℕ) → is_low_surrogate v ≡ true → IsLinkedText us
    → (is_high_surrogate (get_or (v ∷ us) (length (v ∷ us) - 1) 0) ≡ false)
    × AreLinked (v ∷ us) 0 (length (v ∷ us))
pair_ends v [] l t = (low_is_not_high v l, λ k _ m. absurd (omega (arith, m)))
pair_ends v (w ∷ ws) l t =
    let e : length (v ∷ w ∷ ws) - 1 ≡ suc (length ws) = omega arith in
    let f : length (w ∷ ws) - 1 ≡ length ws = omega arith in
    let g : is_high_surrogate (get_or (w ∷ ws) (length ws) 0) ≡ false = rw f at t.1 in
    (rw e g, linked_behind_unit v (w ∷ ws) (low_is_not_high v l ∙ sym t.0) t.2)

split : (u v : ℕ) (us : List ℕ) (a b c : Bool) → is_high_surrogate u ≡ a → is_low_surrogate v ≡ b
    → is_low_surrogate u ≡ c → IsWellFormed (u ∷ v ∷ us)
    → (IsWellFormed (v ∷ us) → IsLinkedText (v ∷ us)) → (IsWellFormed us → IsLinkedText us)
    → IsLinkedText (u ∷ v ∷ us)
split u v us a b true h l lo w one two = absurd (let f = low_first u (v ∷ us) lo in cc)
split u v us true false false h l lo w one two = absurd (let f = high_alone u v us h l in cc)
split u v us false b false h l lo w one two =
    let t = one (sym (plain_first u (v ∷ us) h lo) ∙ w) in
    behind_first u v us lo (h ∙ sym t.0) t.1 t.2
split u v us true true false h l lo w one two =
    let t = two (sym (pair_first u v us h l) ∙ w) in
    let ends = pair_ends v us l t in
    behind_first u v us lo (h ∙ sym l) ends.0 ends.1

pub well_formed_is_text : (us : List ℕ) → IsWellFormed us → IsLinkedText us
well_formed_is_text [] w = (refl, refl, λ k _ m. absurd (omega (arith, m)))
well_formed_is_text (u ∷ []) w = cases (is_high_surrogate u) (is_low_surrogate u) refl refl
  where
    cases : (a b : Bool) → is_high_surrogate u ≡ a → is_low_surrogate u ≡ b
        → IsLinkedText (u ∷ [])
    cases a true h l = absurd (let f = low_first u [] l in cc)
    cases true false h l = absurd (let f = high_last u h in cc)
    cases false false h l = (l, h, λ k _ m. absurd (omega (arith, m)))
well_formed_is_text (u ∷ v ∷ us) w =
    split u v us (is_high_surrogate u) (is_low_surrogate v) (is_low_surrogate u) refl refl refl w
    (λ g. well_formed_is_text (v ∷ us) g) (λ g. well_formed_is_text us g)

-- the other way round, of a part
pub part_is_linked : (us : List ℕ) (from count : ℕ) → from + count ≤ length us → 0 < count
    → IsWellFormed (take count (drop from us))
    → (is_low_surrogate (get_or us from 0) ≡ false)
    × (is_high_surrogate (get_or us (from + count - 1) 0) ≡ false)
    × AreLinked us from (from + count)
part_is_linked us from count inside some w =
    let xs = take count (drop from us) in
    let many : length xs ≡ count =
    length-take-le count (drop from us) (omega (arith, length-drop from us)) in
    let at : (k : ℕ) → k < count → get_or xs k 0 ≡ get_or us (from + k) 0 =
    λ k m. get_or-take count (drop from us) k 0 m ∙ get_or-drop from us k 0 in
    let t = well_formed_is_text xs w in
    let e : length xs - 1 ≡ count - 1 = ap (λ n. n - 1) many in
    let z : from + 0 ≡ from = omega arith in
    let f : from + (count - 1) ≡ from + count - 1 = omega (arith, some) in (
      ap (λ n. is_low_surrogate (get_or us n 0)) (sym z) ∙ sym (ap is_low_surrogate (at 0 some))
          ∙ t.0,
      ap (λ n. is_high_surrogate (get_or us n 0)) (sym f)
          ∙ sym (ap is_high_surrogate (at (count - 1) (omega (arith, some))))
          ∙ ap (λ n. is_high_surrogate (get_or xs n 0)) (sym e) ∙ t.1,
      λ k l m.
          (let j = k - from in
          let g : from + j ≡ k = omega (arith, l) in
          let i : j + 1 < count = omega (arith, l, m) in
          let h : from + (j + 1) ≡ k + 1 = omega (arith, l) in
          ap (λ n. is_high_surrogate (get_or us n 0)) (sym g)
          ∙ sym (ap is_high_surrogate (at j (omega (arith, i))))
          ∙ t.2 j (omega arith) (omega (arith, many, i))
          ∙ ap is_low_surrogate (at (j + 1) i)
          ∙ ap (λ n. is_low_surrogate (get_or us n 0)) h),
    )

-- breaks of one part and of the next
pub breaks_add : (us : List ℕ) (i m n : ℕ)
    → break_count us i (m + n) ≡ break_count us i m + break_count us (i + m) n
unfolding break_count
breaks_add us i m zero = let e : m + 0 ≡ m = omega arith in rw e (omega arith)
breaks_add us i m (suc n) =
    let e : m + suc n ≡ suc (m + n) = omega arith in
    let f : i + (m + n) ≡ i + m + n = omega arith in
    let h = breaks_add us i m n in
    rw (e, f) (omega (arith, h))

pub no_break : (us : List ℕ) (k : ℕ)
    → is_high_surrogate (get_or us k 0) ≡ is_low_surrogate (get_or us (k + 1) 0)
    → break_at us k ≡ 0
no_break us k e =
    cases (is_high_surrogate (get_or us k 0)) (is_low_surrogate (get_or us (k + 1) 0)) refl refl
  where
    cases : (a b : Bool) → is_high_surrogate (get_or us k 0) ≡ a
        → is_low_surrogate (get_or us (k + 1) 0) ≡ b → break_at us k ≡ 0
    cases true true h l = rw (h, l) refl
    cases true false h l = absurd cc
    cases false true h l = absurd cc
    cases false false h l = rw (h, l) refl

pub one_break : (us : List ℕ) (k : ℕ)
    → (is_high_surrogate (get_or us k 0) ≡ is_low_surrogate (get_or us (k + 1) 0) → ⊥)
    → break_at us k ≡ 1
one_break us k e =
    cases (is_high_surrogate (get_or us k 0)) (is_low_surrogate (get_or us (k + 1) 0)) refl refl
  where
    cases : (a b : Bool) → is_high_surrogate (get_or us k 0) ≡ a
        → is_low_surrogate (get_or us (k + 1) 0) ≡ b → break_at us k ≡ 1
    cases true true h l = absurd (e (h ∙ sym l))
    cases true false h l = rw (h, l) refl
    cases false true h l = rw (h, l) refl
    cases false false h l = absurd (e (h ∙ sym l))

joins : (us : List ℕ) (k : ℕ) → break_at us k ≡ 0
    → is_high_surrogate (get_or us k 0) ≡ is_low_surrogate (get_or us (k + 1) 0)
joins us k e =
    cases (is_high_surrogate (get_or us k 0)) (is_low_surrogate (get_or us (k + 1) 0)) refl refl
  where
    cases : (a b : Bool) → is_high_surrogate (get_or us k 0) ≡ a
        → is_low_surrogate (get_or us (k + 1) 0) ≡ b
        → is_high_surrogate (get_or us k 0) ≡ is_low_surrogate (get_or us (k + 1) 0)
    cases true true h l = h ∙ sym l
    cases true false h l = absurd (let f : 1 ≡ 0 = rw (h, l) at e in omega arith)
    cases false true h l = absurd (let f : 1 ≡ 0 = rw (h, l) at e in omega arith)
    cases false false h l = h ∙ sym l

-- linked units have no break
pub linked_none : (us : List ℕ) (i n : ℕ) → AreLinked us i (i + n + 1) → break_count us i n ≡ 0
unfolding break_count
linked_none us i zero h = refl
linked_none us i (suc n) h =
    let e = linked_none us i n (λ k l m. h k l (omega (arith, m))) in
    let f = no_break us (i + n) (h (i + n) (omega arith) (omega arith)) in
    omega (arith, e, f)

pub none_linked : (us : List ℕ) (i n : ℕ) → break_count us i n ≡ 0 → AreLinked us i (i + n + 1)
unfolding break_count
none_linked us i zero e = λ k l m. absurd (omega (arith, l, m))
none_linked us i (suc n) e =
    let f : break_count us i n ≡ 0 = omega (arith, e) in
    let g : break_at us (i + n) ≡ 0 = omega (arith, e) in
    λ k l m. cases (none_linked us i n f) g k l m (cases_lt k (i + n))
  where
    cases : AreLinked us i (i + n + 1) → break_at us (i + n) ≡ 0 → (k : ℕ) → i ≤ k
        → k + 1 < i + suc n + 1 → (k < i + n) ⊎ (i + n ≤ k)
        → is_high_surrogate (get_or us k 0) ≡ is_low_surrogate (get_or us (k + 1) 0)
    cases h g k l m (inl a) = h k l (omega (arith, a))
    cases h g k l m (inr a) =
        let f : i + n ≡ k = omega (arith, a, m) in
        joins us k (rw f at g)

-- a part of a block is a text exactly by its ends and where no break stands in it
pub text_by_breaks : (us : List ℕ) (from count : ℕ) → from + count ≤ length us → 0 < count
    → is_low_surrogate (get_or us from 0) ≡ false
    → is_high_surrogate (get_or us (from + count - 1) 0) ≡ false
    → break_count us from (from + count - 1 - from) ≡ 0 → IsWellFormed (take count (drop from us))
text_by_breaks us from count inside some low high none =
    let e : from + (from + count - 1 - from) + 1 ≡ from + count = omega (arith, some) in
    let h = none_linked us from (from + count - 1 - from) none in
    part_of_run us from (from + count) from count (rw e at h) (omega arith) (omega arith) some
    inside low high

pub breaks_of_text : (us : List ℕ) (from count : ℕ) → from + count ≤ length us → 0 < count
    → IsWellFormed (take count (drop from us))
    → (is_low_surrogate (get_or us from 0) ≡ false)
    × (is_high_surrogate (get_or us (from + count - 1) 0) ≡ false)
    × (break_count us from (from + count - 1 - from) ≡ 0)
breaks_of_text us from count inside some w =
    let h = part_is_linked us from count inside some w in
    let e : from + count ≡ from + (from + count - 1 - from) + 1 = omega (arith, some) in (
      h.0,
      h.1,
      linked_none us from (from + count - 1 - from) (rw e at h.2),
    )

-- where no break stands between two steps, by the counts there
pub middle_none : (us : List ℕ) (a b : ℕ) → a ≤ b
    → break_count us 0 b ≡ break_count us 0 a + break_count us a (b - a)
middle_none us a b h =
    let e : a + (b - a) ≡ b = omega (arith, h) in
    let f = breaks_add us 0 a (b - a) in
    let z : 0 + a ≡ a = omega arith in
    rw (e, z) at f

-- three parts of a part
pub three_parts : (us : List ℕ) (from a b end : ℕ) → from ≤ a → a ≤ b → b ≤ end
    → break_count us from (end - from)
    ≡ break_count us from (a - from) + break_count us a (b - a) + break_count us b (end - b)
three_parts us from a b end f g h =
    let e : (a - from) + (end - a) ≡ end - from = omega (arith, f, g, h) in
    let i : (b - a) + (end - b) ≡ end - a = omega (arith, g, h) in
    let j : from + (a - from) ≡ a = omega (arith, f) in
    let k : a + (b - a) ≡ b = omega (arith, g) in
    let x = rw (e, j) at (breaks_add us from (a - from) (end - a)) in
    let y = rw (i, k) at (breaks_add us a (b - a) (end - b)) in
    omega (arith, x, y)

pub breaks_one_more : (us : List ℕ) (i n : ℕ)
    → break_count us i (n + 1) ≡ break_count us i n + break_at us (i + n)
unfolding break_count
breaks_one_more us i n = let e : n + 1 ≡ suc n = omega arith in rw e refl

pub no_breaks_yet : (us : List ℕ) (i : ℕ) → 0 ≡ break_count us i 0
unfolding break_count
no_breaks_yet us i = refl

-- one more step
pub counted_push : (us ns : List ℕ) (total : ℕ) → AreCounted us ns
    → total ≡ break_count us 0 (64 * length ns) → AreCounted us (ns ++ total ∷ [])
counted_push us ns total h e k l = cases (cases_lt k (length ns))
  where
    cases : (k < length ns) ⊎ (length ns ≤ k)
        → get_or (ns ++ total ∷ []) k 0 ≡ break_count us 0 (64 * k)
    cases (inl a) = get_or-append ns (total ∷ []) 0 k a ∙ h k a
    cases (inr a) =
        let s : length ns ≡ k = omega (arith, l, length-append ns (total ∷ [])) in
        rw (← s) (get_or-append_seam ns total [] 0 ∙ e)

-- the breaks of a part, by the counts at two steps in it
pub steps_apart : (us ns : List ℕ) (from end first last : ℕ) → AreCounted us ns
    → first < length ns → last < length ns → from ≤ 64 * first → first ≤ last → 64 * last ≤ end
    → (m : ℕ) × (get_or ns last 0 ≡ get_or ns first 0 + m)
    × (break_count us from (end - from)
    ≡ break_count us from (64 * first - from) + m + break_count us (64 * last) (end - 64 * last))
steps_apart us ns from end first last h f l a b d =
    let le : 64 * first ≤ 64 * last = omega (arith, b) in (
      break_count us (64 * first) (64 * last - 64 * first),
      h last l ∙ middle_none us (64 * first) (64 * last) le
          ∙ ap (λ n. n + break_count us (64 * first) (64 * last - 64 * first)) (sym (h first f)),
      three_parts us from (64 * first) (64 * last) end a le d,
    )

pub at_most_one : (us : List ℕ) (k : ℕ) → break_at us k ≤ 1
at_most_one us k =
    cases (is_high_surrogate (get_or us k 0)) (is_low_surrogate (get_or us (k + 1) 0)) refl refl
  where
    cases : (a b : Bool) → is_high_surrogate (get_or us k 0) ≡ a
        → is_low_surrogate (get_or us (k + 1) 0) ≡ b → break_at us k ≤ 1
    cases true true h l = rw (h, l) (omega arith)
    cases true false h l = rw (h, l) (omega arith)
    cases false true h l = rw (h, l) (omega arith)
    cases false false h l = rw (h, l) (omega arith)

pub counted_none : (us : List ℕ) → AreCounted us []
counted_none us k l = absurd (omega (arith, l))

-- no units are a text
pub empty_range_is_well_formed : (us : List ℕ) (from count : ℕ) → count ≡ 0
    → IsWellFormed (take count (drop from us))
empty_range_is_well_formed us from count e = rw e empty_is_paired
