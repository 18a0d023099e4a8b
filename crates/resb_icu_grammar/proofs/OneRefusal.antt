-- A reading that gets stuck does so at one place, where one thing is expected.
use Rattle.std.proofs.Common.{◌≡◌, ◌≢◌, ℕ, ◌+◌, Bool, List, refl, sym, ◌∙◌, ap, subst, arith, ◌⊎◌}
use Rattle.std.proofs.Common.{inl, inr}
use Rattle.std.specs.Prelude.{slice_index}
use Rattle.std.proofs.lemmas.Bool.{false≢true}
use Rattle.resb_grammar.specs.Ascii as ascii
use Rattle.resb_icu_grammar.specs.Kinds.{Kind}
use Rattle.resb_tree.specs.Tree.{Tree}
use Rattle.resb_icu_grammar.specs.Blanks.{Begins, Skip}
use Rattle.resb_icu_grammar.specs.Words.{Text, Name, Number, RootType}
use Rattle.resb_grammar.specs.Laws.{StuckInOneWay}
use Rattle.resb_icu_grammar.specs.Machine.{Waiting, Standing, Reading}
use Rattle.resb_icu_grammar.specs.Machine.{Move, BeginsGroup, StepOut, Comes}
use Rattle.resb_icu_grammar.specs.Machine.{at_root}
use Rattle.resb_icu_grammar.specs.Machine as step
use Rattle.resb_icu_grammar.specs.Faults.{Told}
use Rattle.resb_icu_grammar.specs.Stuck.{NoNumberAt, NumbersSoFar, none_yet, one_number, LeafStuck}
use Rattle.resb_icu_grammar.specs.Stuck.{member_behind}
use Rattle.resb_icu_grammar.specs.Stuck.{StepStuck, EndStuck, HeaderStuck}
use Rattle.resb_icu_grammar.specs.Stuck.{ReadStuck, StuckFrom}
use Rattle.resb_icu_grammar.specs.Stuck.{no_string, open_string, no_path, open_alias, no_digits}
use Rattle.resb_icu_grammar.specs.Stuck.{odd_digits, open_binary}
use Rattle.resb_icu_grammar.specs.Stuck.{no_integer, open_integer, no_number, open_vector}
use Rattle.resb_icu_grammar.specs.Stuck.{more_text, no_name, no_root_type}
use Rattle.resb_icu_grammar.specs.Stuck.{no_root_brace, no_typed_brace, in_header, in_root}
use Rattle.resb_icu_grammar.specs.Stuck as stuck
use Rattle.resb_icu_grammar.specs.declared.expected.IcuExpected.{IcuExpected}
use Rattle.resb_icu_grammar.specs.declared.expected.IcuExpected.TheVariants as expect
use Rattle.resb_icu_grammar.proofs.Lexical.{Begins-one, Skip-one, String-one, key_string}
use Rattle.resb_icu_grammar.proofs.Lexical.{Number-one, RootType-one, root_type_first}
use Rattle.resb_icu_grammar.proofs.Lexical.{GroupType-one, Name-one}
use Rattle.resb_icu_grammar.proofs.Groups as groups
use Rattle.resb_icu_grammar.proofs.Groups.{Closes, string_skipped, no_brace_colon, Header-one}
use Rattle.resb_icu_grammar.proofs.Groups.{digits_same}
use Rattle.resb_icu_grammar.proofs.Faults.{Told-one}
use Rattle.resb_icu_grammar.proofs.Leaves.{no_leaf_there, stuck_kind}
use Rattle.resb_icu_grammar.proofs.Types.{no_type_there, TypeStuck-one}
use Rattle.resb_icu_grammar.proofs.Refused.{no_opening_brace, header_never}
use Rattle.resb_icu_grammar.proofs.OneStep.{no_brace_begins, no_comma_begins, no_string_begins}
use Rattle.resb_icu_grammar.proofs.OneStep.{Next, inside, outside, first_step, comes_meet}

-- where a reading is stuck it makes no step
standing_stays : (text : List ℕ) (ws : List Waiting) (ks : List (List ℕ)) (s : Standing)
    (at to : ℕ) (x : IcuExpected) (r : Reading) → StepStuck text s at to x → Move text ws ks s at r
    → ⊥
standing_stays text ws ks _ at _ _ _ (stuck.no_member last ts _ _ _ a b d f w)
    (step.array_ends _ _ _ c) = a c
standing_stays text ws ks _ at _ _ _ (stuck.no_member last ts _ _ _ a b d f w)
    (step.comma_behind _ _ _ j e c k) = b c
standing_stays text ws ks _ at _ _ _ (stuck.no_member last ts _ _ _ a b d f w)
    (step.string_member _ _ _ i j s e p k) = f i s p
standing_stays text ws ks _ at _ _ _ (stuck.no_member last ts _ _ _ a b d f w)
    (step.group_member _ _ _ c) = d c
standing_stays text ws ks _ at _ _ _ (stuck.two_strings last ts _ i s e p)
    (step.array_ends _ _ _ c) = groups.no_string text at i _ s p c refl
standing_stays text ws ks _ at _ _ _ (stuck.two_strings last ts _ i s e p)
    (step.comma_behind _ _ _ j f c k) = groups.no_string text at i _ s p c refl
standing_stays text ws ks _ at _ _ _ (stuck.two_strings last ts _ i s e p)
    (step.string_member _ _ _ m j v f q k) = false≢true (sym f ∙ e)
standing_stays text ws ks _ at _ _ _ (stuck.two_strings last ts _ i s e p)
    (step.group_member _ _ _ c) = no_string_begins text at i s p c
standing_stays text ws ks _ at _ _ _ (stuck.lone_comma last ts _ e d) (step.array_ends _ _ _ c) =
    omega (arith, c, d)
standing_stays text ws ks _ at _ _ _ (stuck.lone_comma last ts _ e d)
    (step.comma_behind _ _ _ j f c k) = false≢true (sym e ∙ f)
standing_stays text ws ks _ at _ _ _ (stuck.lone_comma last ts _ e d)
    (step.string_member _ _ _ m j v f q k) = groups.no_string text at m _ v q d refl
standing_stays text ws ks _ at _ _ _ (stuck.lone_comma last ts _ e d) (step.group_member _ _ _ c) =
    no_comma_begins text at c d
standing_stays text ws ks _ at _ _ _ (stuck.key_twice es _ c d) (step.table_ends _ _ e f) = d f
standing_stays text ws ks _ at _ _ _ (stuck.key_twice es _ c d) (step.key_of_entry _ _ i j k p l) =
    groups.no_string text at i _ k (key_string text at i k p) c refl
standing_stays text ws ks _ at _ _ _ (stuck.no_entry es _ _ _ a f w) (step.table_ends _ _ c d) = a c
standing_stays text ws ks _ at _ _ _ (stuck.no_entry es _ _ _ a f w)
    (step.key_of_entry _ _ i j k p l) = f i k p
standing_stays text ws ks _ at _ _ _ (stuck.no_group _ f) (step.group_opens _ i b l) = f (inl b)
standing_stays text ws ks _ at _ _ _ (stuck.no_group _ f) (step.type_opens _ i kind h) =
    f (inr h.named.stands.colon)
standing_stays text ws ks _ at _ _ _ (stuck.no_type _ x c f) (step.group_opens _ i b l) =
    no_brace_colon text at b c
standing_stays text ws ks _ at _ _ _ (stuck.no_type _ x c f) (step.type_opens _ i kind h) =
    no_type_there text at x f h.ends kind h.named
standing_stays text ws ks _ at to _ _ (stuck.no_brace _ i _ kind g k n) (step.group_opens _ j b l) =
    no_brace_colon text at b g.stands.colon
standing_stays text ws ks _ at to _ _ (stuck.no_brace _ i _ kind g k n)
    (step.type_opens _ j other h) = no_opening_brace text at i to kind g k n other j h
standing_stays text ws ks _ at _ _ _ (stuck.no_content _ _ _ a b f w)
    (step.untyped_nothing _ c) = a c
standing_stays text ws ks _ at _ _ _ (stuck.no_content _ _ _ a b f w)
    (step.begins_with_group _ c) = b c
standing_stays text ws ks _ at _ _ _ (stuck.no_content _ _ _ a b f w)
    (step.untyped_string _ i j s p k c) = f i s p
standing_stays text ws ks _ at _ _ _ (stuck.no_content _ _ _ a b f w)
    (step.begins_with_string _ i j s p k c) = f i s p
standing_stays text ws ks _ at _ _ _ (stuck.no_content _ _ _ a b f w)
    (step.begins_with_key _ i j s p k c) = f i s (key_string text at i s p)
standing_stays text ws ks _ at to _ _ (stuck.no_further _ i _ s p k a b f)
    (step.untyped_nothing _ c) = groups.no_string text at i _ s p c refl
standing_stays text ws ks _ at to _ _ (stuck.no_further _ i _ s p k a b f)
    (step.begins_with_group _ c) = no_string_begins text at i s p c
standing_stays text ws ks _ at to _ _ (stuck.no_further _ i _ s p k a b f)
    (step.untyped_string _ m n v q l c) =
    a (subst (λ u. Closes text u) (string_skipped text at m i n to v s q l p k).0 c)
standing_stays text ws ks _ at to _ _ (stuck.no_further _ i _ s p k a b f)
    (step.begins_with_string _ m n v q l c) =
    b (subst (λ u. slice_index text u ≡ ascii.comma)
    (string_skipped text at m i n to v s q l p k).0 c)
standing_stays text ws ks _ at to _ _ (stuck.no_further _ i _ s p k a b f)
    (step.begins_with_key _ m n v q l c) =
    f (subst (λ u. BeginsGroup text u)
    (string_skipped text at m i n to v s (key_string text at m v q) l p k).0 c)
standing_stays text ws ks _ at _ _ _ (stuck.no_key _ i j s p k b f) (step.untyped_nothing _ c) =
    groups.no_string text at i _ s p c refl
standing_stays text ws ks _ at _ _ _ (stuck.no_key _ i j s p k b f) (step.begins_with_group _ c) =
    no_string_begins text at i s p c
standing_stays text ws ks _ at _ _ _ (stuck.no_key _ i j s p k b f)
    (step.untyped_string _ m n v q l c) =
    no_brace_begins text j b (subst (λ u. Closes text u)
    (string_skipped text at m i n j v s q l p k).0 c)
standing_stays text ws ks _ at _ _ _ (stuck.no_key _ i j s p k b f)
    (step.begins_with_string _ m n v q l c) =
    no_comma_begins text j b (subst (λ u. slice_index text u ≡ ascii.comma)
    (string_skipped text at m i n j v s q l p k).0 c)
standing_stays text ws ks _ at _ _ _ (stuck.no_key _ i j s p k b f)
    (step.begins_with_key _ m n v q l c) = f m v q
standing_stays text ws ks _ at to x _ (stuck.in_leaf _ _ _ _ h) (step.members_follow _) =
    (stuck_kind text at _ to x h).0 refl
standing_stays text ws ks _ at to x _ (stuck.in_leaf _ _ _ _ h) (step.entries_follow _) =
    (stuck_kind text at _ to x h).1 refl
standing_stays text ws ks _ at to x _ (stuck.in_leaf kind _ _ _ h)
    (step.leaf_follows _ _ end t p c) = no_leaf_there text at kind to x h end t p c

-- nor where one is stuck behind a group
end_stays : (text : List ℕ) (ws : List Waiting) (ks : List (List ℕ)) (t : Tree) (at to : ℕ)
    (x : IcuExpected) (r : Reading) → EndStuck text t at ws to x → StepOut text ks t at ws r → ⊥
end_stays text _ ks t at _ _ r (more_text end barred k low high b) l = elim l [ ]

pub reading_stays : (text : List ℕ) (from r : Reading) (to : ℕ) (x : IcuExpected)
    → ReadStuck text from to x
    → Next text from r → ⊥
reading_stays text _ r to x (stuck.inside ws ks s at _ _ b) (inside _ _ _ _ _ v) =
    standing_stays text ws ks s at to x r b v
reading_stays text _ r to x (stuck.inside ws ks s at _ _ b) (outside _ _ t _ _ v) = elim b [ ]
reading_stays text _ r to x (stuck.behind ws ks t at _ _ b) (inside _ _ _ _ _ v) = elim v [ ]
reading_stays text _ r to x (stuck.behind ws ks t at _ _ b) (outside _ _ _ _ _ v) =
    end_stays text ws ks t at to x r b v

-- numbers and their commas are none, or a first one and the others
first_counted : (text : List ℕ) (from to : ℕ) → NumbersSoFar text from to
    → (from ≡ to) ⊎ ((i j k v : ℕ) × Number text from i v × Skip text i j
    × (slice_index text j ≡ ascii.comma) × Skip text (j + 1) k × NumbersSoFar text k to)
first_counted text from _ (none_yet _) = inl refl
first_counted text from to (one_number _ at i j _ v c p s e l) =
    by (first_counted text from at c)
  where
    by : (from ≡ at) ⊎ ((i j k v : ℕ) × Number text from i v × Skip text i j
        × (slice_index text j ≡ ascii.comma) × Skip text (j + 1) k × NumbersSoFar text k at)
        → (from ≡ to) ⊎ ((i j k v : ℕ) × Number text from i v × Skip text i j
        × (slice_index text j ≡ ascii.comma) × Skip text (j + 1) k × NumbersSoFar text k to)
    by (inl h) =
        inr (i, j, to, v, subst (λ u. Number text u i v) (sym h) p, s, e, l, none_yet to)
    by (inr (m, n, k, w, q, z, f, o, d)) =
        inr (m, n, k, w, q, z, f, o, one_number k at i j to v d p s e l)

number_on : (text : List ℕ) (at b k i j v : ℕ) → Number text k i v → Skip text i j
    → (slice_index text j ≡ ascii.comma) → Skip text (j + 1) at
    → NumbersSoFar text k b ⊎ NumbersSoFar text b k
    → NumbersSoFar text at b ⊎ NumbersSoFar text b at
number_on text at b k i j v p s e l (inr d) = inr (one_number b k i j at v d p s e l)
number_on text at b k i j v p s e l (inl d) = by (first_counted text k b d)
  where
    by : (k ≡ b) ⊎ ((m n o w : ℕ) × Number text k m w × Skip text m n
        × (slice_index text n ≡ ascii.comma) × Skip text (n + 1) o × NumbersSoFar text o b)
        → NumbersSoFar text at b ⊎ NumbersSoFar text b at
    by (inl h) =
        inr (one_number b k i j at v (subst (λ u. NumbersSoFar text u k) h (none_yet k)) p s e l)
    by (inr (m, n, o, w, q, z, f, y, c)) =
        let number = Number-one text k m i w v q p in
        let comma : n ≡ j =
        Skip-one text i n j (subst (λ u. Skip text u n) number.0 z) s in
        let next : o ≡ at =
        Skip-one text (j + 1) o at (subst (λ u. Skip text (u + 1) o) comma y) l in
        inl (subst (λ u. NumbersSoFar text u b) next c)

-- of two places behind some numbers from one place on, such numbers lead from one to the other
counted_meet : (text : List ℕ) (from a b : ℕ) → NumbersSoFar text from a → NumbersSoFar text from b
    → NumbersSoFar text a b ⊎ NumbersSoFar text b a
counted_meet text from _ b (none_yet _) d = inl d
counted_meet text from a b (one_number _ k i j _ v c p s e l) d =
    number_on text a b k i j v p s e l (counted_meet text from k b c d)

-- where behind some numbers none stands, or one without a comma
data NumbersStop (text : List ℕ) (at : ℕ) : ℕ → IcuExpected → Type 0 where
  at_once : NoNumberAt text at → NumbersStop text at at expect.NumberOrRightBrace
  behind_one : (i j v : ℕ) → Number text at i v → Skip text i j
      → slice_index text j ≢ ascii.comma → NumbersStop text at j expect.CommaOrRightBrace

stop_one : (text : List ℕ) (at to end : ℕ) (x y : IcuExpected) → NumbersStop text at to x
    → NumbersStop text at end y → (to ≡ end) × (x ≡ y)
stop_one text at _ _ _ _ (at_once f) (at_once g) = (refl, refl)
stop_one text at _ end _ _ (at_once f) (behind_one i _ v p k c) = absurd (f i v p)
stop_one text at to _ _ _ (behind_one i _ v p k c) (at_once f) = absurd (f i v p)
stop_one text at to end _ _ (behind_one i _ v p k c) (behind_one j _ w q l d) = (
  Skip-one text i to end k
      (subst (λ u. Skip text u end) (sym (Number-one text at i j v w p q).0) l),
  refl,
)

stop_here : (text : List ℕ) (at place to : ℕ) (x : IcuExpected) → NumbersSoFar text at place
    → NumbersStop text at to x → at ≡ place
stop_here text at place to x c h = by to x h (first_counted text at place c)
  where
    by : (to : ℕ) (x : IcuExpected) → NumbersStop text at to x
        → (at ≡ place) ⊎ ((m n o w : ℕ) × Number text at m w × Skip text m n
        × (slice_index text n ≡ ascii.comma) × Skip text (n + 1) o × NumbersSoFar text o place)
        → at ≡ place
    by to x h (inl e) = e
    by _ _ (at_once f) (inr (m, n, o, w, q, z, e, y, c)) = absurd (f m w q)
    by to _ (behind_one i _ v p k d) (inr (m, n, o, w, q, z, e, y, c)) =
        let same = Skip-one text m n to z
        (subst (λ u. Skip text u to) (Number-one text at i m v w p q).0 k) in
        absurd (d (subst (λ u. slice_index text u ≡ ascii.comma) same e))

-- numbers stop at one place
numbers_stop : (text : List ℕ) (from a b to end : ℕ) (x y : IcuExpected) → NumbersSoFar text from a
    → NumbersStop text a to x → NumbersSoFar text from b → NumbersStop text b end y
    → (to ≡ end) × (x ≡ y)
numbers_stop text from a b to end x y c h d k =
    let same = by (counted_meet text from a b c d) in
    stop_one text b to end x y (subst (λ u. NumbersStop text u to x) same h) k
  where
    by : NumbersSoFar text a b ⊎ NumbersSoFar text b a → a ≡ b
    by (inl e) = stop_here text a b to x e h
    by (inr e) = sym (stop_here text b a end y e k)

-- behind a string
behind_string : (text : List ℕ) (from i j to end : ℕ) (s t : List ℕ) → Text text from i s
    → Skip text i to → Text text from j t → Skip text j end → to ≡ end
behind_string text from i j to end s t p k q l =
    (string_skipped text from i j to end s t p k q l).0

-- the content of a group is stuck at one place
LeafStuck-one : (text : List ℕ) (from : ℕ) (kind : Kind) (to end : ℕ) (x y : IcuExpected)
    → LeafStuck text from kind to x → LeafStuck text from kind end y → (to ≡ end) × (x ≡ y)
LeafStuck-one text from _ to end x y (no_string _ _ f w) (no_string _ _ g z) =
    Told-one text from to end expect.String x y w z
LeafStuck-one text from _ _ _ _ _ (no_string _ _ f w) (open_string i _ s p k n) = absurd (f i s p)
LeafStuck-one text from _ _ _ _ _ (open_string i _ s p k n) (no_string _ _ f w) = absurd (f i s p)
LeafStuck-one text from _ to end _ _ (open_string i _ s p k n) (open_string j _ t q l m) =
    (behind_string text from i j to end s t p k q l, refl)
LeafStuck-one text from _ to end x y (no_path _ _ f w) (no_path _ _ g z) =
    Told-one text from to end expect.String x y w z
LeafStuck-one text from _ _ _ _ _ (no_path _ _ f w) (open_alias i _ s p k n) = absurd (f i s p)
LeafStuck-one text from _ _ _ _ _ (open_alias i _ s p k n) (no_path _ _ f w) = absurd (f i s p)
LeafStuck-one text from _ to end _ _ (open_alias i _ s p k n) (open_alias j _ t q l m) =
    (behind_string text from i j to end s t p k q l, refl)
LeafStuck-one text from _ to end x y (no_digits _ _ f w) (no_digits _ _ g z) =
    Told-one text from to end expect.String x y w z
LeafStuck-one text from _ _ _ _ _ (no_digits _ _ f w) (odd_digits i s p n) = absurd (f i s p)
LeafStuck-one text from _ _ _ _ _ (no_digits _ _ f w) (open_binary i _ s p h k n) = absurd (f i s p)
LeafStuck-one text from _ _ _ _ _ (odd_digits i s p n) (no_digits _ _ f w) = absurd (f i s p)
LeafStuck-one text from _ _ _ _ _ (odd_digits i s p n) (odd_digits j t q m) = (refl, refl)
LeafStuck-one text from _ _ _ _ _ (odd_digits i s p n) (open_binary j _ t q h l m) =
    absurd (h (digits_same text from j i t s q p ∙ n))
LeafStuck-one text from _ _ _ _ _ (open_binary i _ s p h k n) (no_digits _ _ f w) = absurd (f i s p)
LeafStuck-one text from _ _ _ _ _ (open_binary i _ s p h k n) (odd_digits j t q m) =
    absurd (h (digits_same text from i j s t p q ∙ m))
LeafStuck-one text from _ to end _ _ (open_binary i _ s p h k n) (open_binary j _ t q g l m) =
    (behind_string text from i j to end s t p k q l, refl)
LeafStuck-one text from _ _ _ _ _ (no_integer f) (no_integer g) = (refl, refl)
LeafStuck-one text from _ _ _ _ _ (no_integer f) (open_integer i _ v p k n) = absurd (f i v p)
LeafStuck-one text from _ _ _ _ _ (open_integer i _ v p k n) (no_integer f) = absurd (f i v p)
LeafStuck-one text from _ to end _ _ (open_integer i _ v p k n) (open_integer j _ w q l m) = (
  Skip-one text i to end k
      (subst (λ u. Skip text u end) (sym (Number-one text from i j v w p q).0) l),
  refl,
)
LeafStuck-one text from _ to end _ _ (no_number _ c b f) (no_number _ d a g) =
    numbers_stop text from to end to end _ _ c (at_once f) d (at_once g)
LeafStuck-one text from _ to end _ _ (no_number _ c b f) (open_vector at i _ v d p k n m) =
    numbers_stop text from to at to end _ _ c (at_once f) d (behind_one i end v p k n)
LeafStuck-one text from _ to end _ _ (open_vector at i _ v d p k n m) (no_number _ c b f) =
    numbers_stop text from at end to end _ _ d (behind_one i to v p k n) c (at_once f)
LeafStuck-one text from _ to end _ _ (open_vector at i _ v d p k n m)
    (open_vector place j _ w c q l o u) =
    numbers_stop text from at place to end _ _ d (behind_one i to v p k n) c
    (behind_one j end w q l o)

-- a reading is stuck at one place
StepStuck-one : (text : List ℕ) (s : Standing) (at to end : ℕ) (x y : IcuExpected)
    → StepStuck text s at to x → StepStuck text s at end y → (to ≡ end) × (x ≡ y)
StepStuck-one text _ at to end x y (stuck.no_member last ts _ _ _ a b d f w)
    (stuck.no_member _ _ _ _ _ e g h k z) =
    Told-one text at to end (member_behind last) x y w z
StepStuck-one text _ at _ _ _ _ (stuck.no_member last ts _ _ _ a b d f w)
    (stuck.two_strings _ _ _ i s e p)
    = absurd (f i s p)
StepStuck-one text _ at _ _ _ _ (stuck.no_member last ts _ _ _ a b d f w)
    (stuck.lone_comma _ _ _ e c) = absurd (b c)
StepStuck-one text _ at _ _ _ _ (stuck.two_strings last ts _ i s e p)
    (stuck.no_member _ _ _ _ _ a b d f w)
    = absurd (f i s p)
StepStuck-one text _ at _ _ _ _ (stuck.two_strings last ts _ i s e p)
    (stuck.two_strings _ _ _ j t g q) = (refl, refl)
StepStuck-one text _ at _ _ _ _ (stuck.two_strings last ts _ i s e p) (stuck.lone_comma _ _ _ g c) =
    absurd (groups.no_string text at i _ s p c refl)
StepStuck-one text _ at _ _ _ _ (stuck.lone_comma last ts _ e c)
    (stuck.no_member _ _ _ _ _ a b d f w) = absurd (b c)
StepStuck-one text _ at _ _ _ _ (stuck.lone_comma last ts _ e c) (stuck.two_strings _ _ _ i s g p) =
    absurd (groups.no_string text at i _ s p c refl)
StepStuck-one text _ at _ _ _ _ (stuck.lone_comma last ts _ e c) (stuck.lone_comma _ _ _ g d) =
    (refl, refl)
StepStuck-one text _ at _ _ _ _ (stuck.key_twice es _ c d) (stuck.key_twice _ _ e f) = (refl, refl)
StepStuck-one text _ at _ _ _ _ (stuck.key_twice es _ c d)
    (stuck.no_entry _ _ _ _ a f w) = absurd (a c)
StepStuck-one text _ at _ _ _ _ (stuck.no_entry es _ _ _ a f w)
    (stuck.key_twice _ _ c d) = absurd (a c)
StepStuck-one text _ at to end x y (stuck.no_entry es _ _ _ a f w)
    (stuck.no_entry _ _ _ _ b g z) =
    Told-one text at to end expect.Entry x y w z
StepStuck-one text _ at _ _ _ _ (stuck.no_group _ f) (stuck.no_group _ g) = (refl, refl)
StepStuck-one text _ at _ _ _ _ (stuck.no_group _ f) (stuck.no_type _ _ c g) = absurd (f (inr c))
StepStuck-one text _ at _ _ _ _ (stuck.no_group _ f) (stuck.no_brace _ i _ kind g k n) =
    absurd (f (inr g.stands.colon))
StepStuck-one text _ at _ _ _ _ (stuck.no_type _ _ c g) (stuck.no_group _ f) = absurd (f (inr c))
StepStuck-one text _ at _ _ x y (stuck.no_type _ _ c g) (stuck.no_type _ _ d f) =
    (refl, TypeStuck-one text at x y g f)
StepStuck-one text _ at _ _ _ _ (stuck.no_type _ x c f) (stuck.no_brace _ i _ kind g k n) =
    absurd (no_type_there text at x f i kind g)
StepStuck-one text _ at _ _ _ _ (stuck.no_brace _ i _ kind g k n) (stuck.no_group _ f) =
    absurd (f (inr g.stands.colon))
StepStuck-one text _ at _ _ _ _ (stuck.no_brace _ i _ kind g k n) (stuck.no_type _ x c f) =
    absurd (no_type_there text at x f i kind g)
StepStuck-one text _ at to end _ _ (stuck.no_brace _ i _ kind g k n)
    (stuck.no_brace _ j _ other h l m) = (
      Skip-one text i to end k
          (subst (λ u. Skip text u end) (sym (GroupType-one text at i j kind other g h).0) l),
      refl,
    )
StepStuck-one text _ at to end x y (stuck.no_content _ _ _ a b f w)
    (stuck.no_content _ _ _ c d g z) =
    Told-one text at to end expect.Member x y w z
StepStuck-one text _ at _ _ _ _ (stuck.no_content _ _ _ a b f w)
    (stuck.no_further _ i _ s p k c d g) = absurd (f i s p)
StepStuck-one text _ at _ _ _ _ (stuck.no_content _ _ _ a b f w) (stuck.no_key _ i j s p k c g) =
    absurd (f i s p)
StepStuck-one text _ at _ _ _ _ (stuck.no_further _ i _ s p k c d g)
    (stuck.no_content _ _ _ a b f w) = absurd (f i s p)
StepStuck-one text _ at to end _ _ (stuck.no_further _ i _ s p k c d g)
    (stuck.no_further _ j _ t q l e f h) =
    (behind_string text at i j to end s t p k q l, refl)
StepStuck-one text _ at to _ _ _ (stuck.no_further _ i _ s p k c d g)
    (stuck.no_key _ j m t q l b f) =
    absurd (g (subst (λ u. BeginsGroup text u) (behind_string text at j i m to t s q l p k) b))
StepStuck-one text _ at _ _ _ _ (stuck.no_key _ i j s p k c g) (stuck.no_content _ _ _ a b f w) =
    absurd (f i s p)
StepStuck-one text _ at _ end _ _ (stuck.no_key _ j m t q l b f)
    (stuck.no_further _ i _ s p k c d g) =
    absurd (g (subst (λ u. BeginsGroup text u) (behind_string text at j i m end t s q l p k) b))
StepStuck-one text _ at _ _ _ _ (stuck.no_key _ i j s p k b f) (stuck.no_key _ m n t q l c g) =
    (refl, refl)
StepStuck-one text _ at to end x y (stuck.in_leaf kind _ _ _ h) (stuck.in_leaf _ _ _ _ g) =
    LeafStuck-one text at kind to end x y h g

EndStuck-one : (text : List ℕ) (ws : List Waiting) (t : Tree) (at to end : ℕ)
    (x y : IcuExpected) → EndStuck text t at ws to x → EndStuck text t at ws end y
    → (to ≡ end) × (x ≡ y)
EndStuck-one text _ t at to end _ _ (more_text _ _ k _ _ _) (more_text _ _ l _ _ _) =
    (Skip-one text at to end k l, refl)

ReadStuck-one : (text : List ℕ) (r : Reading) (to end : ℕ) (x y : IcuExpected)
    → ReadStuck text r to x
    → ReadStuck text r end y → (to ≡ end) × (x ≡ y)
ReadStuck-one text _ to end x y (stuck.inside ws ks s at _ _ b) (stuck.inside _ _ _ _ _ _ d) =
    StepStuck-one text s at to end x y b d
ReadStuck-one text _ to end x y (stuck.inside ws ks s at _ _ b) (stuck.behind _ _ t _ _ _ d) =
    elim b [ ]
ReadStuck-one text _ to end x y (stuck.behind ws ks t at _ _ b) (stuck.inside _ _ _ _ _ _ d) =
    elim d [ ]
ReadStuck-one text _ to end x y (stuck.behind ws ks t at _ _ b) (stuck.behind _ _ _ _ _ _ d) =
    EndStuck-one text ws t at to end x y b d

-- where a reading is stuck no further steps begin
reading_here : (text : List ℕ) (r q : Reading) (to : ℕ) (x : IcuExpected) → ReadStuck text r to x
    → Comes text r q → r ≡ q
reading_here text r q to x h c = by (first_step text r q c)
  where
    by : (r ≡ q) ⊎ ((mid : Reading) × Next text r mid × Comes text mid q) → r ≡ q
    by (inl e) = e
    by (inr (mid, n, d)) = absurd (reading_stays text r mid to x h n)

-- from one place on a reading gets stuck at one place
StuckFrom-one : (text : List ℕ) (from : Reading) (to end : ℕ) (x y : IcuExpected)
    → StuckFrom text from to x → StuckFrom text from end y → (to ≡ end) × (x ≡ y)
StuckFrom-one text from to end x y p q =
    let same = by (comes_meet text from p.last q.last p.comes q.comes) in
    ReadStuck-one text q.last to end x y (subst (λ u. ReadStuck text u to x) same p.there) q.there
  where
    by : Comes text p.last q.last ⊎ Comes text q.last p.last → p.last ≡ q.last
    by (inl c) = reading_here text p.last q.last to x p.there c
    by (inr c) = sym (reading_here text q.last p.last end y q.there c)

-- where the name of a bundle begins
record Starts (text : List ℕ) (start : ℕ) : Type 0 where
  begin : ℕ
  begins : Begins text begin
  before : Skip text begin start

-- where what follows the name of a bundle begins
record Titled (text : List ℕ) (at : ℕ) : Type 0 where
  start : ℕ
  end : ℕ
  name : List ℕ
  starts : Starts text start
  named : Name text start end name
  between : Skip text end at

Starts-one : (text : List ℕ) (a b : ℕ) → Starts text a → Starts text b → a ≡ b
Starts-one text a b p q =
    Skip-one text p.begin a b p.before
    (subst (λ n. Skip text n b) (sym (Begins-one text p.begin q.begin p.begins q.begins)) q.before)

Titled-one : (text : List ℕ) (a b : ℕ) → Titled text a → Titled text b → a ≡ b
Titled-one text a b p q =
    let start = Starts-one text p.start q.start p.starts q.starts in
    let named = Name-one text p.start p.end q.end p.name q.name p.named
    (subst (λ n. Name text n q.end q.name) (sym start) q.named) in
    Skip-one text p.end a b p.between (subst (λ n. Skip text n b) (sym named.0) q.between)

-- what is wrong behind a name
data HeaderFault (text : List ℕ) (at : ℕ) : ℕ → IcuExpected → Type 0 where
  bad_type : slice_index text at ≡ ascii.colon
      → ((to : ℕ) (fallback : Bool) → RootType text at to fallback → ⊥)
      → HeaderFault text at at expect.RootType
  no_type : slice_index text at ≢ ascii.colon → HeaderFault text at at expect.LeftBrace
  no_brace : (i to : ℕ) (fallback : Bool) → RootType text at i fallback → Skip text i to
      → HeaderFault text at to expect.LeftBrace

HeaderFault-one : (text : List ℕ) (at to end : ℕ) (x y : IcuExpected) → HeaderFault text at to x
    → HeaderFault text at end y → (to ≡ end) × (x ≡ y)
HeaderFault-one text at _ _ _ _ (bad_type c f) (bad_type d g) = (refl, refl)
HeaderFault-one text at _ _ _ _ (bad_type c f) (no_type n) = absurd (n c)
HeaderFault-one text at _ _ _ _ (bad_type c f) (no_brace i _ g r k) = absurd (f i g r)
HeaderFault-one text at _ _ _ _ (no_type n) (bad_type c f) = absurd (n c)
HeaderFault-one text at _ _ _ _ (no_type n) (no_type m) = (refl, refl)
HeaderFault-one text at _ _ _ _ (no_type n) (no_brace i _ g r k) =
    absurd (n (root_type_first text at i g r))
HeaderFault-one text at _ _ _ _ (no_brace i _ g r k) (bad_type c f) = absurd (f i g r)
HeaderFault-one text at _ _ _ _ (no_brace i _ g r k) (no_type n) =
    absurd (n (root_type_first text at i g r))
HeaderFault-one text at to end _ _ (no_brace i _ f r k) (no_brace j _ g q l) = (
  Skip-one text i to end k
      (subst (λ u. Skip text u end) (sym (RootType-one text at i j f g r q).0) l),
  refl,
)

-- a header without a name, or with a fault behind the name
data HeaderCase (text : List ℕ) : ℕ → IcuExpected → Type 0 where
  nameless : (start to : ℕ) (x : IcuExpected) → Starts text start
      → ((end : ℕ) (name : List ℕ) → Name text start end name → ⊥)
      → Told text start expect.Name to x → HeaderCase text to x
  faulty : (at to : ℕ) (x : IcuExpected) → Titled text at → HeaderFault text at to x
      → HeaderCase text to x

titled : (text name : List ℕ) (a start end at : ℕ) → Begins text a → Skip text a start
    → Name text start end name → Skip text end at → Titled text at
titled text name a start end at b k n l = record {
  start = start;
  end = end;
  name = name;
  starts = record { begin = a; begins = b; before = k };
  named = n;
  between = l;
}

header_case : (text : List ℕ) (to : ℕ) (x : IcuExpected) → HeaderStuck text to x
    → HeaderCase text to x
header_case text to x (no_name a start _ _ b k f w) =
    nameless start to x (record { begin = a; begins = b; before = k }) f w
header_case text _ _ (no_root_type a start end at name b k n l c f) =
    faulty at at _ (titled text name a start end at b k n l) (bad_type c f)
header_case text _ _ (no_root_brace a start end at name b k n l c d) =
    faulty at at _ (titled text name a start end at b k n l) (no_type c)
header_case text _ _ (no_typed_brace a start end at i brace name g b k n l r m d) =
    faulty at brace _ (titled text name a start end at b k n l) (no_brace i brace g r m)

HeaderCase-one : (text : List ℕ) (to end : ℕ) (x y : IcuExpected) → HeaderCase text to x
    → HeaderCase text end y → (to ≡ end) × (x ≡ y)
HeaderCase-one text to end x y (nameless start _ _ s f w) (nameless other _ _ t g z) =
    Told-one text start to end expect.Name x y w
    (subst (λ u. Told text u expect.Name end y) (sym (Starts-one text start other s t)) z)
HeaderCase-one text to end x y (nameless start _ _ s f w) (faulty at _ _ t h) =
    absurd (f t.end t.name
    (subst (λ u. Name text u t.end t.name) (Starts-one text t.start start t.starts s) t.named))
HeaderCase-one text to end x y (faulty at _ _ t h) (nameless start _ _ s f w) =
    absurd (f t.end t.name
    (subst (λ u. Name text u t.end t.name) (Starts-one text t.start start t.starts s) t.named))
HeaderCase-one text to end x y (faulty at _ _ t h) (faulty place _ _ u k) =
    HeaderFault-one text at to end x y h
    (subst (λ n. HeaderFault text n end y) (sym (Titled-one text at place t u)) k)

-- a text gets stuck at one place, where one thing is expected
pub stuck_in_one_way : StuckInOneWay stuck.Stuck
stuck_in_one_way text to end x y (in_header s) (in_header t) =
    HeaderCase-one text to end x y (header_case text to x s) (header_case text end y t)
stuck_in_one_way text to end x y (in_header s) (in_root name f first h t) =
    absurd (header_never text to x s name f first h)
stuck_in_one_way text to end x y (in_root name f first h s) (in_header t) =
    absurd (header_never text end y t name f first h)
stuck_in_one_way text to end x y (in_root name f first h s) (in_root other g second k t) =
    let same = (Header-one text name other f g first second h k).2 in
    StuckFrom-one text (at_root first) to end x y s
    (subst (λ n. StuckFrom text (at_root n) end y) (sym same) t)
