-- What a reading makes that goes a step on, and that none makes more than a limit where one is
-- stuck that has made no more.
use Rattle.std.proofs.Common.{◌≡◌, ◌≢◌, ◌∙◌, ℕ, suc, ◌+◌, ◌*◌, ◌≤◌, Bool, true, false}
use Rattle.std.proofs.Common.{List, [], length, refl, sym, ap, subst, arith}
use Rattle.std.specs.Prelude.{slice_index}
use Rattle.resb_grammar.specs.Ascii as ascii
use Rattle.resb_grammar.specs.BundleText.{first_places}
use Rattle.resb_grammar.specs.Limit.{number_bytes}
use Rattle.resb_grammar.specs.declared.limit.Limit.{Limit}
use Rattle.resb_grammar.specs.declared.limit.Weights.{Weights}
use Rattle.resb_tree.specs.Tree.{Tree}
use Rattle.resb_icu_grammar.specs.Blanks.{Skip}
use Rattle.resb_icu_grammar.specs.Bundle.{Header, Ending, IcuText}
use Rattle.resb_icu_grammar.specs.Kinds.{vector_kind}
use Rattle.resb_icu_grammar.specs.Words.{Number}
use Rattle.resb_icu_grammar.specs.Stuck.{NumbersSoFar, none_yet, one_number, NoNumberAt}
use Rattle.resb_icu_grammar.specs.Stuck.{HeaderStuck, ReadStuck}
use Rattle.resb_icu_grammar.specs.Machine.{Waiting, Standing, in_typed, behind_group, Reading}
use Rattle.resb_icu_grammar.specs.Machine.{reading_at, at_root, Move, StepOut, here, moves}
use Rattle.resb_icu_grammar.specs.Machine.{leaves}
use Rattle.resb_icu_grammar.specs.Limit.{made_by, made_on_the_way, IcuMakes, IcuMakesMore}
use Rattle.resb_icu_grammar.specs.Limit.{count_so_far, by_the_root, by_a_step, by_a_number}
use Rattle.resb_icu_grammar.specs.declared.expected.IcuExpected.{IcuExpected}
use Rattle.resb_icu_grammar.proofs.Lexical.{Skip-one, Number-one}
use Rattle.resb_icu_grammar.proofs.Groups.{Header-one}
use Rattle.resb_icu_grammar.proofs.OneStep.{inside}
use Rattle.resb_icu_grammar.proofs.OneRefusal.{reading_stays}
use Rattle.resb_icu_grammar.proofs.Refused.{header_never}
use Rattle.resb_icu_grammar.proofs.Limited.{Split, no_step, first_step, split, Meet, ahead, behind}
use Rattle.resb_icu_grammar.proofs.Limited.{meet_roots, vector_step, no_less}
use Rattle.resb_icu_grammar.proofs.WholeReading.{machine_reads_the_form}

-- the `{` of the root
pub root_makes : (w : Weights) (text name : List ℕ) (f : Bool) (first : ℕ)
    → Header text name f first → IcuMakes w text w.group (at_root first)
root_makes w text name f first h = record {
  name = name;
  fallback = f;
  first = first;
  header = h;
  comes = here (at_root first);
  sum = omega arith;
}

-- a step inside a group
pub makes_on : {w : Weights} (text : List ℕ) (n : ℕ) (ws : List Waiting) (ks : List (List ℕ))
    (s : Standing) (at : ℕ) (r : Reading) → IcuMakes w text n (reading_at ws ks s at)
    → (m : Move text ws ks s at r) → IcuMakes w text (n + made_by w m) r
makes_on text n ws ks s at r made m = record {
  name = made.name;
  fallback = made.fallback;
  first = made.first;
  header = made.header;
  comes = moves (at_root made.first) r ws ks s at made.comes m;
  sum = omega (arith, made.sum);
}

-- a step out of one
pub makes_out : {w : Weights} (text : List ℕ) (n : ℕ) (ws : List Waiting) (ks : List (List ℕ))
    (t : Tree) (at : ℕ) (r : Reading) → IcuMakes w text n (reading_at ws ks (behind_group t) at)
    → StepOut text ks t at ws r → IcuMakes w text n r
makes_out text n ws ks t at r made m = record {
  name = made.name;
  fallback = made.fallback;
  first = made.first;
  header = made.header;
  comes = leaves (at_root made.first) r ws ks t at made.comes m;
  sum = made.sum;
}

-- what a reading comes to at the end of a text is a bundle
pub whole_text : {w : Weights} (text : List ℕ) (n : ℕ) (places : List (List ℕ)) (tree : Tree)
    (end : ℕ) (name : List ℕ) (f : Bool) (first : ℕ) → Header text name f first
    → IcuMakes w text n (reading_at [] places (behind_group tree) end) → Ending text end
    → IcuText text name f tree (first_places places)
whole_text text n places tree end name f first h made k =
    let same = Header-one text made.name name made.fallback f made.first first made.header h in
    subst (λ s. IcuText text s f tree (first_places places)) same.0
    (subst (λ b. IcuText text made.name b tree (first_places places)) same.1
    ((machine_reads_the_form text made.name made.fallback tree (first_places places)).1 (record {
      first = made.first;
      end = end;
      places = places;
      header = made.header;
      comes = made.comes;
      after = k;
      lists = refl;
    })))

-- where a reading is stuck before the root, none makes anything
pub header_never_more : (text : List ℕ) (limit : Limit) (to : ℕ) (x : IcuExpected)
    → HeaderStuck text to x → IcuMakesMore text limit → ⊥
header_never_more text limit to x s (by_the_root name f first h less) =
    header_never text to x s name f first h
header_never_more text limit to x s (by_a_step bytes ws ks t at r made step more) =
    header_never text to x s made.name made.fallback made.first made.header
header_never_more text limit to x s (by_a_number bytes ws ks from at end v made before p more) =
    header_never text to x s made.name made.fallback made.first made.header

-- a reading stands behind the `{` of a vector
abbrev pub is_vector : Standing → Bool
is_vector (in_typed vector_kind) = true
is_vector _ = false

-- if it is a vector that begins there, its numbers make no more than so many bytes
abbrev pub NumbersFit : List ℕ → Reading → ℕ → Type 0
NumbersFit text r room = is_vector r.stands ≡ true → (from : ℕ) → r.at ≡ from
    → (at to v : ℕ) → (before : NumbersSoFar text from at) → Number text at to v
    → number_bytes * suc (count_so_far before) ≤ room

-- where a reading is stuck that has made no more than a limit, none makes more
pub stuck_never_more : (text : List ℕ) (limit : Limit) (n room : ℕ) (r : Reading) (to : ℕ)
    (x : IcuExpected) → IcuMakes limit.weights text n r → ReadStuck text r to x
    → n + room ≤ limit.bytes → NumbersFit text r room → IcuMakesMore text limit → ⊥
stuck_never_more text limit n room r to x made stuck within fit (by_the_root name f first h less) =
    omega (arith, made.sum, within, less)
stuck_never_more text limit n room r to x made stuck within fit
    (by_a_step bytes ws ks s at q before move more) =
    by (meet_roots limit.weights text made.first before.first r q same made.comes
    (moves (at_root before.first) q ws ks s at before.comes move))
  where
    same : made.first ≡ before.first
    same =
        (Header-one text made.name before.name made.fallback before.fallback made.first
        before.first made.header before.header).2

    on : (m : ℕ)
        → made_on_the_way limit.weights before.comes + made_by limit.weights move
        ≡ made_on_the_way limit.weights made.comes + m → Split limit.weights text r q m → ⊥
    on m sum (no_step e z) = omega (arith, sum, z, made.sum, before.sum, within, more)
    on m sum (first_step mid next d s) = reading_stays text r mid to x stuck next

    by : Meet limit.weights text r q (made_on_the_way limit.weights made.comes)
        (made_on_the_way limit.weights before.comes + made_by limit.weights move) → ⊥
    by (ahead d sum) = on (made_on_the_way limit.weights d) sum (split limit.weights text r q d)
    by (behind d sum) = omega (arith, sum, made.sum, before.sum, within, more)
stuck_never_more text limit n room r to x made stuck within fit
    (by_a_number bytes ws ks from at end v before so_far number more) =
    by (meet_roots limit.weights text made.first before.first r stand same made.comes before.comes)
  where
    stand : Reading
    stand = reading_at ws ks (in_typed vector_kind) from

    same : made.first ≡ before.first
    same =
        (Header-one text made.name before.name made.fallback before.fallback made.first
        before.first made.header before.header).2

    at_stand : r ≡ stand → bytes ≡ n → ⊥
    at_stand e sum =
        let vector : is_vector r.stands ≡ true = ap (λ (u : Reading). is_vector u.stands) e in
        let place : r.at ≡ from = ap (λ (u : Reading). u.at) e in
        let fits = fit vector from place at end v so_far number in
        omega (arith, fits, sum, within, more)

    on : (m : ℕ) → made_on_the_way limit.weights before.comes
        ≡ made_on_the_way limit.weights made.comes + m → Split limit.weights text r stand m → ⊥
    on m sum (no_step e z) = at_stand e (omega (arith, sum, z, made.sum, before.sum))
    on m sum (first_step mid next d s) = reading_stays text r mid to x stuck next

    back : (m : ℕ) → made_on_the_way limit.weights made.comes
        ≡ made_on_the_way limit.weights before.comes + m → Split limit.weights text stand r m → ⊥
    back m sum (no_step e z) = at_stand (sym e) (omega (arith, sum, z, made.sum, before.sum))
    back m sum (first_step mid (inside _ _ _ _ _ v') d s) =
        let leaf = vector_step limit.weights text ws ks from mid v' in
        let least =
        no_less limit.weights text from at end leaf.0 v leaf.1 so_far number leaf.2 leaf.3 in
        let told = leaf.4 in
        omega (arith, sum, s, least, told, more, made.sum, before.sum, within)

    by : Meet limit.weights text r stand (made_on_the_way limit.weights made.comes)
        (made_on_the_way limit.weights before.comes) → ⊥
    by (ahead d sum) = on (made_on_the_way limit.weights d) sum (split limit.weights text r stand d)
    by (behind d sum) =
        back (made_on_the_way limit.weights d) sum (split limit.weights text stand r d)

-- numbers and their commas are none, or a first one and the others
data Firsts (text : List ℕ) (from to n : ℕ) : Type 0 where
  no_first : from ≡ to → n ≡ 0 → Firsts text from to n
  one_first : (i j k v : ℕ) → Number text from i v → Skip text i j
      → slice_index text j ≡ ascii.comma → Skip text (j + 1) k
      → (d : NumbersSoFar text k to) → n ≡ suc (count_so_far d) → Firsts text from to n

firsts : (text : List ℕ) (from to : ℕ) → (c : NumbersSoFar text from to)
    → Firsts text from to (count_so_far c)
firsts text from _ (none_yet _) = no_first refl refl
firsts text from to (one_number _ at i j _ v c p s e l) = by (firsts text from at c)
  where
    by : Firsts text from at (count_so_far c) → Firsts text from to (suc (count_so_far c))
    by (no_first h z) =
        one_first i j to v (subst (λ u. Number text u i v) (sym h) p) s e l (none_yet to)
        (omega (arith, z))
    by (one_first m n k w q z f o d sum) =
        one_first m n k w q z f o (one_number k at i j to v d p s e l) (omega (arith, sum))

-- of two places behind some numbers, such numbers lead from one to the other
data Counts (text : List ℕ) (a b n m : ℕ) : Type 0 where
  further : (c : NumbersSoFar text a b) → m ≡ n + count_so_far c → Counts text a b n m
  before : (c : NumbersSoFar text b a) → n ≡ m + count_so_far c → Counts text a b n m

counts : (text : List ℕ) (from a b : ℕ) → (c : NumbersSoFar text from a)
    → (d : NumbersSoFar text from b) → Counts text a b (count_so_far c) (count_so_far d)
counts text from _ b (none_yet _) d = further d (omega arith)
counts text from a b (one_number _ k i j _ v c p s e l) d = on (counts text from k b c d)
  where
    by : (n : ℕ) → count_so_far d ≡ count_so_far c + n → Firsts text k b n
        → Counts text a b (suc (count_so_far c)) (count_so_far d)
    by n sum (no_first h z) =
        subst (λ u. Counts text a u (suc (count_so_far c)) (count_so_far d)) h
        (before (one_number k k i j a v (none_yet k) p s e l) (omega (arith, sum, z)))
    by n sum (one_first m o q w r t f y g more) =
        let number = Number-one text k m i w v r p in
        let comma : o ≡ j =
        Skip-one text i o j (subst (λ u. Skip text u o) number.0 t) s in
        let next : q ≡ a =
        Skip-one text (j + 1) q a (subst (λ u. Skip text (u + 1) q) comma y) l in
        subst (λ u. Counts text u b (suc (count_so_far c)) (count_so_far d)) next
        (further g (omega (arith, sum, more)))

    on : Counts text k b (count_so_far c) (count_so_far d)
        → Counts text a b (suc (count_so_far c)) (count_so_far d)
    on (before y sum) = before (one_number b k i j a v y p s e l) (omega (arith, sum))
    on (further y sum) = by (count_so_far y) sum (firsts text k b y)

-- no number stands there, or one without a comma behind it: how many these are
pub data NumbersEnd (text : List ℕ) (at : ℕ) : ℕ → Type 0 where
  no_more : NoNumberAt text at → NumbersEnd text at 0
  a_last : (i j v : ℕ) → Number text at i v → Skip text i j → slice_index text j ≢ ascii.comma
      → NumbersEnd text at 1

ended : (text : List ℕ) (a b n i v k : ℕ) → a ≡ b → NumbersEnd text a n → Number text b i v
    → suc k ≤ k + n
ended text a b _ i v k h (no_more f) p = absurd (f i v (subst (λ u. Number text u i v) (sym h) p))
ended text a b _ i v k h (a_last m j w q s c) p = omega arith

goes_on : (text : List ℕ) (a n i j v : ℕ) → NumbersEnd text a n → Number text a i v
    → Skip text i j → slice_index text j ≡ ascii.comma → ⊥
goes_on text a _ i j v (no_more f) p s e = f i v p
goes_on text a _ i j v (a_last m o w q t c) p s e =
    let number = Number-one text a m i w v q p in
    c (ap (λ u. slice_index text u)
    (Skip-one text i o j (subst (λ u. Skip text u o) number.0 t) s) ∙ e)

-- where numbers end, there are no more than these
pub numbers_most : (text : List ℕ) (from a b n i v : ℕ) → (c : NumbersSoFar text from a)
    → NumbersEnd text a n → (d : NumbersSoFar text from b) → Number text b i v
    → suc (count_so_far d) ≤ count_so_far c + n
numbers_most text from a b n i v c e d p = by (counts text from a b c d)
  where
    at_end : a ≡ b → count_so_far d ≡ count_so_far c → suc (count_so_far d) ≤ count_so_far c + n
    at_end h sum = omega (arith, sum, ended text a b n i v (count_so_far c) h e p)

    back : (m : ℕ) → count_so_far c ≡ count_so_far d + m → Firsts text b a m
        → suc (count_so_far d) ≤ count_so_far c + n
    back m sum (no_first h z) = at_end (sym h) (omega (arith, sum, z))
    back m sum (one_first _ _ _ _ _ _ _ _ y more) = omega (arith, sum, more)

    on : (m : ℕ) → count_so_far d ≡ count_so_far c + m → Firsts text a b m
        → suc (count_so_far d) ≤ count_so_far c + n
    on m sum (no_first h z) = at_end h (omega (arith, sum, z))
    on m sum (one_first q j k w r s f y g more) =
        absurd (goes_on text a n q j w e r s f)

    by : Counts text a b (count_so_far c) (count_so_far d)
        → suc (count_so_far d) ≤ count_so_far c + n
    by (further y sum) = on (count_so_far y) sum (firsts text a b y)
    by (before y sum) = back (count_so_far y) sum (firsts text b a y)
