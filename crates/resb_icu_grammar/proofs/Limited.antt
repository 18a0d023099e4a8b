-- No part of a reading of a text in ICU's form makes more than the whole.
use Rattle.std.proofs.Common.{◌≡◌, ◌≢◌, ℕ, suc, ◌+◌, ◌*◌, ◌≤◌, List, [], ◌∷◌, ◌++◌}
use Rattle.std.proofs.Common.{◌⊎◌, inl, inr, length, refl, sym, ap, ◌∙◌, subst, arith}
use Rattle.std.specs.Prelude.{slice_index, if◌then◌else◌, Bool}
use Rattle.resb_grammar.specs.Ascii as ascii
use Rattle.resb_grammar.proofs.Numbers.{plus_no_bytes}
use Rattle.resb_tree.specs.Tree.{Tree, string}
use Rattle.resb_tree.specs.Weights.{text_byte_weight}
use Rattle.resb_grammar.specs.Limit.{number_bytes, request_bytes}
use Rattle.resb_grammar.specs.declared.limit.Limit.{Limit}
use Rattle.resb_grammar.specs.declared.limit.Weights.{Weights}
use Rattle.resb_icu_grammar.specs.Kinds.{vector_kind}
use Rattle.resb_icu_grammar.specs.Words.{Number, Text, one_part, more_parts}
use Rattle.resb_icu_grammar.specs.Groups.{a_string, Numbers, last_number, last_comma, one_more}
use Rattle.resb_icu_grammar.specs.Groups.{LeafContent, no_numbers, numbers}
use Rattle.resb_icu_grammar.specs.Stuck.{NumbersSoFar, none_yet, one_number}
use Rattle.resb_icu_grammar.specs.Machine.{Waiting, in_table, Standing, among_members}
use Rattle.resb_icu_grammar.specs.Machine.{among_entries, before_group, in_untyped, in_typed}
use Rattle.resb_icu_grammar.specs.Machine.{behind_group, Reading, reading_at, at_root, Move, Comes}
use Rattle.resb_icu_grammar.specs.Machine.{here, moves, leaves}
use Rattle.resb_icu_grammar.specs.Machine as step
use Rattle.resb_icu_grammar.specs.Limit.{leaf_bytes, next_key_bytes, opening_bytes, made_by}
use Rattle.resb_icu_grammar.specs.Limit.{string_bytes, joining_bytes, is_joined, is_put_together}
use Rattle.resb_icu_grammar.specs.Limit.{made_on_the_way, IcuMadeWithin, IcuMakesMore, count_so_far}
use Rattle.resb_icu_grammar.specs.Limit.{by_the_root, by_a_step, by_a_number}
use Rattle.resb_icu_grammar.proofs.Lexical.{Skip-one, String-one, Part-one, follows_once}
use Rattle.resb_icu_grammar.proofs.Lexical.{number_first}
use Rattle.resb_icu_grammar.proofs.Groups.{Closes, Header-one}
use Rattle.resb_icu_grammar.proofs.Leaves.{Behind, the_end, a_comma, others, behind_first}
use Rattle.resb_icu_grammar.proofs.Leaves.{counted_begin}
use Rattle.resb_icu_grammar.proofs.OneStep.{Next, inside, outside, Next-one}

-- of a string it is told once whether it is put together, and what memory is asked for it
pub joined_same : (text : List ℕ) (from a b : ℕ) (s t : List ℕ) → (p : Text text from a s)
    → (q : Text text from b t) → is_joined p ≡ is_joined q
joined_same text from a b s t (one_part _ _ m _ p k h) (one_part _ _ n _ q l g) =
    let both = Part-one text from a b s t p q in
    (λ x. is_put_together text from (both.0 x) (both.1 x))
joined_same text from a b s t (one_part _ _ m _ p k h) (more_parts _ i n _ u v q l g r) =
    absurd (follows_once text from a i m n s u p k h q l g)
joined_same text from a b s t (more_parts _ i n _ u v q l g r) (one_part _ _ m _ p k h) =
    absurd (follows_once text from b i m n t u p k h q l g)
joined_same text from a b s t (more_parts _ i m _ u v p k h r)
    (more_parts _ j n _ w x q l g z) = refl

pub joining_same : (text : List ℕ) (from a b : ℕ) (s t : List ℕ) → (p : Text text from a s)
    → (q : Text text from b t) → joining_bytes p ≡ joining_bytes q
joining_same text from a b s t p q =
    let is = joined_same text from a b s t p q in
    let says = (String-one text from a b s t p q).1 in
    (λ x. if is x then request_bytes + length (says x) else 0)

-- what a string among members makes, where so much memory is asked for it
abbrev member_said : Weights → ℕ → Tree → ℕ
member_said g j (string s) = string_bytes g s + j
member_said g j _ = 0

-- what the last of these members makes, if it is a string
abbrev last_bytes : Weights → ℕ → List Tree → ℕ
last_bytes g j [] = 0
last_bytes g j (t ∷ []) = member_said g j t
last_bytes g j (t ∷ u ∷ us) = last_bytes g j (u ∷ us)

last_member : (g : Weights) (j : ℕ) (ts : List Tree) (t : Tree)
    → last_bytes g j (ts ++ t ∷ []) ≡ member_said g j t
last_member g j [] t = refl
last_member g j (u ∷ []) t = refl
last_member g j (u ∷ v ∷ us) t = last_member g j (v ∷ us) t

-- what a step makes is told by where it leads from and to, and by the memory that is asked for the
-- string there: by the key of the innermost table
abbrev key_said : Weights → List (List ℕ × Tree) → List Waiting → ℕ
key_said g es (in_table before k ∷ ws) = next_key_bytes g es k
key_said g es _ = 0

abbrev members_said : Weights → ℕ → Standing → ℕ
members_said g j (among_members a_string ts) = last_bytes g j ts
members_said g j _ = 0

abbrev entries_said : Weights → List (List ℕ × Tree) → List Waiting → Standing → ℕ
entries_said g es ws before_group = key_said g es ws
entries_said g es ws _ = 0

abbrev opened_said : Weights → Standing → ℕ
opened_said g in_untyped = g.group
opened_said g (in_typed kind) = opening_bytes g kind
opened_said g _ = 0

abbrev untyped_said : Weights → ℕ → List Waiting → Standing → ℕ
untyped_said g j ws (behind_group (string s)) = text_byte_weight * length s + j
untyped_said g j ws (among_members a_string ts) = last_bytes g j ts
untyped_said g j ws before_group = key_said g [] ws
untyped_said g j ws _ = 0

abbrev typed_said : Weights → Standing → ℕ
typed_said g (behind_group t) = leaf_bytes g t
typed_said g _ = 0

-- by where a reading stood, and what it has come to
abbrev said : Weights → ℕ → Standing → Reading → ℕ
said g j (among_members last ts) r = members_said g j r.stands
said g j (among_entries es) r = entries_said g es r.around r.stands
said g j before_group r = opened_said g r.stands
said g j in_untyped r = untyped_said g j r.around r.stands
said g j (in_typed kind) r = typed_said g r.stands
said g j (behind_group t) r = 0

-- a step makes so many bytes: those that are told by any string that stands there; and one does, or
-- they are told by any memory that is asked for
record Told (g : Weights) (text : List ℕ) (at n : ℕ) (s : Standing) (r : Reading) : Type 0 where
  by_string : (to : ℕ) (v : List ℕ) → (p : Text text at to v) → n ≡ said g (joining_bytes p) s r
  or_always : ((to : ℕ) × (v : List ℕ) × Text text at to v) ⊎ ((j : ℕ) → n ≡ said g j s r)

always : (g : Weights) (text : List ℕ) (at n : ℕ) (s : Standing) (r : Reading)
    → ((j : ℕ) → n ≡ said g j s r) → Told g text at n s r
always g text at n s r f =
    record { by_string = λ to v p. f (joining_bytes p); or_always = inr f }

with_string : (g : Weights) (text : List ℕ) (at i n : ℕ) (v : List ℕ) (s : Standing) (r : Reading)
    → (p : Text text at i v) → n ≡ said g (joining_bytes p) s r → Told g text at n s r
with_string g text at i n v s r p e = record {
  by_string = λ to w q. subst (λ j. n ≡ said g j s r) (joining_same text at i to v w p q) e;
  or_always = inl (i, v, p);
}

told_once : (g : Weights) (text : List ℕ) (at n m : ℕ) (s : Standing) (r : Reading)
    → Told g text at n s r → Told g text at m s r → n ≡ m
told_once g text at n m s r a b = by a.or_always b.or_always
  where
    by : ((to : ℕ) × (v : List ℕ) × Text text at to v) ⊎ ((j : ℕ) → n ≡ said g j s r)
        → ((to : ℕ) × (v : List ℕ) × Text text at to v) ⊎ ((j : ℕ) → m ≡ said g j s r)
        → n ≡ m
    by (inl p) y = a.by_string p.0 p.1 p.2 ∙ sym (b.by_string p.0 p.1 p.2)
    by (inr f) (inl p) = a.by_string p.0 p.1 p.2 ∙ sym (b.by_string p.0 p.1 p.2)
    by (inr f) (inr g) = f 0 ∙ sym (g 0)

made_told : (g : Weights) (text : List ℕ) (ws : List Waiting) (ks : List (List ℕ)) (s : Standing)
    (at : ℕ) (r : Reading) → (m : Move text ws ks s at r) → Told g text at (made_by g m) s r
made_told g text ws ks s at r (step.string_member last ts _ i j v e p k) =
    with_string g text at i _ v s r p (sym (last_member g (joining_bytes p) ts (string v)))
made_told g text ws ks s at r (step.untyped_string _ i j v p k c) =
    with_string g text at i _ v s r p refl
made_told g text ws ks s at r (step.begins_with_string _ i j v p k c) =
    with_string g text at i _ v s r p refl
made_told g text ws ks s at r (step.array_ends last ts _ c) =
    always g text at _ s r (λ j. refl)
made_told g text ws ks s at r (step.comma_behind last ts _ j e c k) =
    always g text at _ s r (λ j. refl)
made_told g text ws ks s at r (step.group_member last ts _ b) =
    always g text at _ s r (λ j. refl)
made_told g text ws ks s at r (step.table_ends es _ c d) =
    always g text at _ s r (λ j. refl)
made_told g text ws ks s at r (step.key_of_entry es _ i j k p l) =
    always g text at _ s r (λ j. refl)
made_told g text ws ks s at r (step.group_opens _ i b k) =
    always g text at _ s r (λ j. refl)
made_told g text ws ks s at r (step.type_opens _ i kind h) =
    always g text at _ s r (λ j. refl)
made_told g text ws ks s at r (step.untyped_nothing _ c) =
    always g text at _ s r (λ j. refl)
made_told g text ws ks s at r (step.begins_with_group _ b) =
    always g text at _ s r (λ j. refl)
made_told g text ws ks s at r (step.begins_with_key _ i j k p l b) =
    always g text at _ s r (λ j. refl)
made_told g text ws ks s at r (step.members_follow _) =
    always g text at _ s r (λ j. refl)
made_told g text ws ks s at r (step.entries_follow _) =
    always g text at _ s r (λ j. refl)
made_told g text ws ks s at r (step.leaf_follows kind _ to t p c) =
    always g text at _ s r (λ j. refl)

-- what a step makes, inside a group or out of one
abbrev pub made_next : Weights → {text : List ℕ} {from r : Reading} → Next text from r → ℕ
made_next g (inside ws ks s at r v) = made_by g v
made_next g (outside ws ks t at r v) = 0

next_told : (g : Weights) (text : List ℕ) (from r : Reading) → (n : Next text from r)
    → Told g text from.at (made_next g n) from.stands r
next_told g text _ r (inside ws ks s at _ v) = made_told g text ws ks s at r v
next_told g text _ r (outside ws ks t at _ v) =
    always g text at 0 (behind_group t) r (λ j. refl)

-- a step from a place makes what any other from there does
made_once : (g : Weights) (text : List ℕ) (from r q : Reading) → (n : Next text from r)
    → (k : Next text from q) → made_next g n ≡ made_next g k
made_once g text from r q n k =
    told_once g text from.at _ _ from.stands q
    (subst (λ u. Told g text from.at (made_next g n) from.stands u) (Next-one text from r q n k)
    (next_told g text from r n)) (next_told g text from q k)

-- steps, and one more
abbrev go_on : (text : List ℕ) (from mid r : Reading) → Comes text from mid → Next text mid r
    → Comes text from r
go_on text from _ r c (inside ws ks s at _ v) = moves from r ws ks s at c v
go_on text from _ r c (outside ws ks t at _ v) = leaves from r ws ks t at c v

-- it makes what is told of it
made_by_one : (g : Weights) (text : List ℕ) (from mid r : Reading) → (c : Comes text from mid)
    → (n : Next text mid r)
    → made_on_the_way g (go_on text from mid r c n) ≡ made_on_the_way g c + made_next g n
made_by_one g text from _ r c (inside ws ks s at _ v) = refl
made_by_one g text from _ r c (outside ws ks t at _ v) = plus_no_bytes (made_on_the_way g c)

-- no step, or a first one and the others, and what they make
pub data Split (g : Weights) (text : List ℕ) (from r : Reading) (n : ℕ) : Type 0 where
  no_step : from ≡ r → n ≡ 0 → Split g text from r n
  first_step : (mid : Reading) (next : Next text from mid) → (d : Comes text mid r)
      → n ≡ made_next g next + made_on_the_way g d → Split g text from r n

split_on : (g : Weights) (text : List ℕ) (from last r : Reading) (n m : ℕ)
    → (next : Next text last r) → m ≡ n + made_next g next → Split g text from last n
    → Split g text from r m
split_on g text from last r n m next sum (no_step e z) =
    let all : m ≡ made_next g next + 0 = omega (arith, sum, z) in
    let both = subst (λ u. (x : Next text u r) × (m ≡ made_next g x + 0)) (sym e) (next, all) in
    first_step r both.0 (here r) both.1
split_on g text from last r n m next sum (first_step mid first d s) =
    first_step mid first (go_on text mid last r d next)
    (omega (arith, sum, s, made_by_one g text mid last r d next))

pub split : (g : Weights) (text : List ℕ) (from r : Reading) → (c : Comes text from r)
    → Split g text from r (made_on_the_way g c)
split g text from _ (here _) = no_step refl refl
split g text from r (moves _ _ ws ks s at c v) =
    split_on g text from (reading_at ws ks s at) r (made_on_the_way g c) _ (inside ws ks s at r v)
    refl (split g text from (reading_at ws ks s at) c)
split g text from r (leaves _ _ ws ks t at c v) =
    split_on g text from (reading_at ws ks (behind_group t) at) r (made_on_the_way g c) _
    (outside ws ks t at r v) (plus_no_bytes (made_on_the_way g c))
    (split g text from (reading_at ws ks (behind_group t) at) c)

-- of two places of a reading, each with what is made up to it, one is on the way to the other
pub data Meet (g : Weights) (text : List ℕ) (r q : Reading) (n m : ℕ) : Type 0 where
  ahead : (d : Comes text r q) → m ≡ n + made_on_the_way g d → Meet g text r q n m
  behind : (d : Comes text q r) → n ≡ m + made_on_the_way g d → Meet g text r q n m

meet_on : (g : Weights) (text : List ℕ) (mid r q : Reading) (n m k : ℕ) → (next : Next text mid r)
    → k ≡ n + made_next g next → Meet g text mid q n m → Meet g text r q k m
meet_on g text mid r q n m k next sum (behind d e) =
    behind (go_on text q mid r d next)
    (omega (arith, sum, e, made_by_one g text q mid r d next))
meet_on g text mid r q n m k next sum (ahead d e) = by (split g text mid q d)
  where
    by : Split g text mid q (made_on_the_way g d) → Meet g text r q k m
    by (no_step same z) =
        let more = made_by_one g text mid mid r (here mid) next in
        let one : made_on_the_way g (go_on text mid mid r (here mid) next)
        ≡ 0 + made_next g next = more in
        subst (λ u. Meet g text r u k m) same
        (behind (go_on text mid mid r (here mid) next) (omega (arith, sum, e, z, one)))
    by (first_step first other c s) =
        let one = Next-one text mid first r other next in
        let same = made_once g text mid first r other next in
        subst (λ u. Meet g text u q k m) one (ahead c (omega (arith, sum, e, s, same)))

meet : (g : Weights) (text : List ℕ) (from r q : Reading) → (c : Comes text from r)
    → (d : Comes text from q) → Meet g text r q (made_on_the_way g c) (made_on_the_way g d)
meet g text from _ q (here _) d = ahead d (omega arith)
meet g text from r q (moves _ _ ws ks s at c v) d =
    meet_on g text (reading_at ws ks s at) r q (made_on_the_way g c) (made_on_the_way g d) _
    (inside ws ks s at r v) refl
    (meet g text from (reading_at ws ks s at) q c d)
meet g text from r q (leaves _ _ ws ks t at c v) d =
    meet_on g text (reading_at ws ks (behind_group t) at) r q (made_on_the_way g c)
    (made_on_the_way g d) _ (outside ws ks t at r v) (plus_no_bytes (made_on_the_way g c))
    (meet g text from (reading_at ws ks (behind_group t) at) q c d)

-- the same from the one first entry
pub meet_roots : (g : Weights) (text : List ℕ) (f h : ℕ) (r q : Reading) → f ≡ h
    → (c : Comes text (at_root f) r) → (d : Comes text (at_root h) q)
    → Meet g text r q (made_on_the_way g c) (made_on_the_way g d)
meet_roots g text f h r q e c =
    subst (λ u. (d : Comes text (at_root u) q)
    → Meet g text r q (made_on_the_way g c) (made_on_the_way g d)) e (meet g text (at_root f) r q c)

-- behind the root no step leads on
at_the_end : (text : List ℕ) (ks : List (List ℕ)) (t : Tree) (at : ℕ) (r : Reading)
    → Next text (reading_at [] ks (behind_group t) at) r → ⊥
at_the_end text ks t at r (inside _ _ _ _ _ v) = elim v [ ]
at_the_end text ks t at r (outside _ _ _ _ _ v) = elim v [ ]

-- up to the end no less is made than up to anywhere
most_at_the_end : (g : Weights) (text : List ℕ) (f h : ℕ) (r : Reading) (ks : List (List ℕ))
    (t : Tree) (at : ℕ) → f ≡ h → (c : Comes text (at_root f) r)
    → (d : Comes text (at_root h) (reading_at [] ks (behind_group t) at))
    → made_on_the_way g c ≤ made_on_the_way g d
most_at_the_end g text f h r ks t at same c d =
    by (meet_roots g text f h r (reading_at [] ks (behind_group t) at) same c d)
  where
    stop : (e : Comes text (reading_at [] ks (behind_group t) at) r)
        → made_on_the_way g c ≡ made_on_the_way g d + made_on_the_way g e
        → Split g text (reading_at [] ks (behind_group t) at) r (made_on_the_way g e)
        → made_on_the_way g c ≤ made_on_the_way g d
    stop e sum (no_step _ z) = omega (arith, sum, z)
    stop e sum (first_step mid next _ _) = absurd (at_the_end text ks t at mid next)

    by : Meet g text r (reading_at [] ks (behind_group t) at) (made_on_the_way g c)
        (made_on_the_way g d)
        → made_on_the_way g c ≤ made_on_the_way g d
    by (ahead e sum) = omega (arith, sum)
    by (behind e sum) = stop e sum (split g text (reading_at [] ks (behind_group t) at) r e)

-- the numbers of a vector that are left behind some of them
left_over : (text : List ℕ) (from at to : ℕ) (ns : List ℕ) → (before : NumbersSoFar text from at)
    → slice_index text at ≢ ascii.right_brace → Numbers text from to ns → Closes text to
    → (ms : List ℕ) × Numbers text at to ms × (length ns ≡ count_so_far before + length ms)
left_over text from _ to ns (none_yet _) b r c = (ns, r, omega arith)
left_over text from at to ns (one_number _ k i j _ v before p s e l) b r c =
    let left = left_over text from k to ns before (number_first text k i v p) r c in
    by to left.0 (behind_first text k i j v to left.0 p s left.1) c left.2
  where
    by : (to : ℕ) (ms : List ℕ) → Behind text j v to ms → Closes text to
        → length ns ≡ count_so_far before + length ms
        → (us : List ℕ) × Numbers text at to us
        × (length ns ≡ suc (count_so_far before) + length us)
    by to ms the_end d sum = absurd (omega (arith, e, d))
    by to ms (a_comma _ h x) d sum =
        absurd (b (ap (λ u. slice_index text u) (Skip-one text (j + 1) at to l x) ∙ d))
    by to _ (others m _ us h x more) d sum = (
      us,
      subst (λ u. Numbers text u to us) (sym (Skip-one text (j + 1) at m l x)) more,
      omega (arith, sum),
    )

some_number : (text : List ℕ) (at to : ℕ) (ns : List ℕ) → Numbers text at to ns → 1 ≤ length ns
some_number text at to _ (last_number _ i _ v p k) = omega arith
some_number text at to _ (last_comma _ i j _ v p k c l) = omega arith
some_number text at to _ (one_more _ i j m _ v us p k c l r) = omega arith

-- a vector makes no less than some of its numbers
pub no_less : (g : Weights) (text : List ℕ) (from at i to v : ℕ) (t : Tree)
    → (before : NumbersSoFar text from at) → Number text at i v
    → LeafContent text from to vector_kind t → Closes text to
    → number_bytes * suc (count_so_far before) ≤ leaf_bytes g t
no_less g text from at i to v _ before p (no_numbers e) c =
    absurd (counted_begin text from at before (number_first text at i v p)
    (ap (λ u. slice_index text u) e ∙ c))
no_less g text from at i to v _ before p (numbers ns r) c =
    let left = left_over text from at to ns before (number_first text at i v p) r c in
    let some = some_number text at to left.0 left.1 in
    let sum = left.2 in
    omega (arith, some, sum)

-- the step from the first number of a vector on leads behind it
pub vector_step : (g : Weights) (text : List ℕ) (ws : List Waiting) (ks : List (List ℕ)) (from : ℕ)
    (r : Reading) → (m : Move text ws ks (in_typed vector_kind) from r)
    → (to : ℕ) × (t : Tree) × LeafContent text from to vector_kind t × Closes text to
    × (made_by g m ≡ leaf_bytes g t)
vector_step g text ws ks from _ (step.leaf_follows _ _ to t p c) = (to, t, p, c, refl)

-- a text that makes no more than the limit does not make more
pub icu_never_more : (text : List ℕ) (limit : Limit) → IcuMadeWithin text limit
    → IcuMakesMore text limit → ⊥
icu_never_more text limit w (by_the_root name fallback first h less) =
    omega (arith, w.made.sum, w.within, less)
icu_never_more text limit w (by_a_step bytes ws ks s at r made move more) =
    let same = (Header-one text made.name w.made.name made.fallback w.made.fallback made.first
    w.made.first made.header w.made.header).2 in
    let least =
    most_at_the_end limit.weights text made.first w.made.first r w.places w.tree w.end same
    (moves (at_root made.first) r ws ks s at made.comes move) w.made.comes in
    omega (arith, least, more, made.sum, w.made.sum, w.within)
icu_never_more text limit w (by_a_number bytes ws ks from at to v made before number more) =
    by
    (meet_roots limit.weights text made.first w.made.first stand end same made.comes w.made.comes)
  where
    stand : Reading
    stand = reading_at ws ks (in_typed vector_kind) from

    end : Reading
    end = reading_at [] w.places (behind_group w.tree) w.end

    same : made.first ≡ w.made.first
    same =
        (Header-one text made.name w.made.name made.fallback w.made.fallback made.first
        w.made.first made.header w.made.header).2

    apart : stand ≡ end → ⊥
    apart e = let here : stand.stands ≡ end.stands = ap (λ (u : Reading). u.stands) e in cc

    on : (n : ℕ) → made_on_the_way limit.weights w.made.comes
        ≡ made_on_the_way limit.weights made.comes + n → Split limit.weights text stand end n → ⊥
    on n sum (no_step e z) = apart e
    on n sum (first_step mid (inside _ _ _ _ _ v') d s) =
        let leaf = vector_step limit.weights text ws ks from mid v' in
        let least =
        no_less limit.weights text from at to leaf.0 v leaf.1 before number leaf.2 leaf.3 in
        let told = leaf.4 in
        omega (arith, sum, s, least, told, more, made.sum, w.made.sum, w.within)

    back : (d : Comes text end stand)
        → Split limit.weights text end stand (made_on_the_way limit.weights d) → ⊥
    back d (no_step e z) = apart (sym e)
    back d (first_step mid next _ _) = at_the_end text w.places w.tree w.end mid next

    by : Meet limit.weights text stand end (made_on_the_way limit.weights made.comes)
        (made_on_the_way limit.weights w.made.comes) → ⊥
    by (ahead d sum) =
        on (made_on_the_way limit.weights d) sum (split limit.weights text stand end d)
    by (behind d sum) = back d (split limit.weights text end stand d)
