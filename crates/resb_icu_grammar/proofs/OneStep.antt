-- A reading goes one way: where it stands, one step leads on at most.
use Rattle.std.proofs.Common.{◌≡◌, ◌≢◌, ℕ, ◌+◌, List, [], ◌∷◌, ◌++◌, refl, sym, ap, subst, arith}
use Rattle.std.proofs.Common.{◌⊎◌, inl, inr}
use Rattle.std.specs.Prelude.{slice_index}
use Rattle.resb_grammar.specs.Ascii as ascii
use Rattle.resb_tree.specs.Tree.{Tree, string}
use Rattle.resb_icu_grammar.specs.Words.{Text}
use Rattle.resb_icu_grammar.specs.Groups.{a_string, a_group, a_comma}
use Rattle.resb_icu_grammar.specs.Machine.{Waiting, in_table, Standing, among_members}
use Rattle.resb_icu_grammar.specs.Machine.{among_entries, before_group, in_untyped, in_typed}
use Rattle.resb_icu_grammar.specs.Machine.{behind_group, Reading, reading_at, BeginsGroup, Move}
use Rattle.resb_icu_grammar.specs.Machine.{StepOut, Comes, here, moves, leaves, was_member}
use Rattle.resb_icu_grammar.specs.Machine.{was_value}
use Rattle.resb_icu_grammar.specs.Machine as step
use Rattle.resb_icu_grammar.proofs.Lexical.{Skip-one, key_string}
use Rattle.resb_icu_grammar.proofs.Groups.{Closes, no_string, no_comma_closes, no_brace_colon}
use Rattle.resb_icu_grammar.proofs.Groups.{string_skipped, TypedOpening-one, LeafContent-one}

-- where a group begins, no `}` stands, no comma, and no string
pub no_brace_begins : (text : List ℕ) (at : ℕ) → BeginsGroup text at → Closes text at → ⊥
no_brace_begins text at (inl b) c = omega (arith, b, c)
no_brace_begins text at (inr b) c = omega (arith, b, c)

pub no_comma_begins : (text : List ℕ) (at : ℕ) → BeginsGroup text at
    → slice_index text at ≢ ascii.comma
no_comma_begins text at (inl b) c = omega (arith, b, c)
no_comma_begins text at (inr b) c = omega (arith, b, c)

pub no_string_begins : (text : List ℕ) (at to : ℕ) (s : List ℕ) → Text text at to s
    → BeginsGroup text at → ⊥
no_string_begins text at to s p (inl b) = no_string text at to _ s p b refl
no_string_begins text at to s p (inr b) = no_string text at to _ s p b refl

-- the next step inside the groups that are open is one
pub Move-one : (text : List ℕ) (ws : List Waiting) (ks : List (List ℕ)) (s : Standing) (at : ℕ)
    (r q : Reading) → Move text ws ks s at r → Move text ws ks s at q → r ≡ q
Move-one text ws ks _ at _ _ (step.array_ends last ts _ c) (step.array_ends _ _ _ d) = refl
Move-one text ws ks _ at _ _ (step.array_ends last ts _ c) (step.comma_behind _ _ _ j e d k) =
    absurd (omega (arith, c, d))
Move-one text ws ks _ at _ _ (step.array_ends last ts _ c)
    (step.string_member _ _ _ i j s e p k) = absurd (no_string text at i _ s p c refl)
Move-one text ws ks _ at _ _ (step.array_ends last ts _ c) (step.group_member _ _ _ b) =
    absurd (no_brace_begins text at b c)
Move-one text ws ks _ at _ _ (step.comma_behind last ts _ j e c k) (step.array_ends _ _ _ d) =
    absurd (omega (arith, c, d))
Move-one text ws ks _ at _ _ (step.comma_behind last ts _ j e c k)
    (step.comma_behind _ _ _ n f d l) =
    ap (λ u. reading_at ws ks (among_members a_comma ts) u) (Skip-one text (at + 1) j n k l)
Move-one text ws ks _ at _ _ (step.comma_behind last ts _ j e c k)
    (step.string_member _ _ _ i n s f p l) = absurd (no_string text at i _ s p c refl)
Move-one text ws ks _ at _ _ (step.comma_behind last ts _ j e c k) (step.group_member _ _ _ b) =
    absurd (no_comma_begins text at b c)
Move-one text ws ks _ at _ _ (step.string_member last ts _ i j s e p k)
    (step.array_ends _ _ _ d) = absurd (no_string text at i _ s p d refl)
Move-one text ws ks _ at _ _ (step.string_member last ts _ i j s e p k)
    (step.comma_behind _ _ _ n f d l) = absurd (no_string text at i _ s p d refl)
Move-one text ws ks _ at _ _ (step.string_member last ts _ i j s e p k)
    (step.string_member _ _ _ m n v f q l) =
    let both = string_skipped text at i m j n s v p k q l in
    (λ u. reading_at ws ks (among_members a_string (ts ++ string (both.1 u) ∷ [])) (both.0 u))
Move-one text ws ks _ at _ _ (step.string_member last ts _ i j s e p k)
    (step.group_member _ _ _ b) = absurd (no_string_begins text at i s p b)
Move-one text ws ks _ at _ _ (step.group_member last ts _ b) (step.array_ends _ _ _ d) =
    absurd (no_brace_begins text at b d)
Move-one text ws ks _ at _ _ (step.group_member last ts _ b) (step.comma_behind _ _ _ n f d l) =
    absurd (no_comma_begins text at b d)
Move-one text ws ks _ at _ _ (step.group_member last ts _ b)
    (step.string_member _ _ _ m n v f q l) = absurd (no_string_begins text at m v q b)
Move-one text ws ks _ at _ _ (step.group_member last ts _ b) (step.group_member _ _ _ d) = refl
Move-one text ws ks _ at _ _ (step.table_ends es _ c d) (step.table_ends _ _ e f) = refl
Move-one text ws ks _ at _ _ (step.table_ends es _ c d) (step.key_of_entry _ _ i j k p l) =
    absurd (no_string text at i _ k (key_string text at i k p) c refl)
Move-one text ws ks _ at _ _ (step.key_of_entry es _ i j k p l) (step.table_ends _ _ c d) =
    absurd (no_string text at i _ k (key_string text at i k p) c refl)
Move-one text ws ks _ at _ _ (step.key_of_entry es _ i j k p l)
    (step.key_of_entry _ _ m n v q o) =
    let both = string_skipped text at i m j n k v (key_string text at i k p) l
    (key_string text at m v q) o in
    (λ u. reading_at (in_table es (both.1 u) ∷ ws) (ks ++ both.1 u ∷ []) before_group
    (both.0 u))
Move-one text ws ks _ at _ _ (step.group_opens _ i b k) (step.group_opens _ j c l) =
    ap (λ u. reading_at ws ks in_untyped u) (Skip-one text (at + 1) i j k l)
Move-one text ws ks _ at _ _ (step.group_opens _ i b k) (step.type_opens _ j kind h) =
    absurd (no_brace_colon text at b h.named.stands.colon)
Move-one text ws ks _ at _ _ (step.type_opens _ i kind h) (step.group_opens _ j c l) =
    absurd (no_brace_colon text at c h.named.stands.colon)
Move-one text ws ks _ at _ _ (step.type_opens _ i kind h) (step.type_opens _ j other g) =
    let both = TypedOpening-one text at i j kind other h g in
    (λ u. reading_at ws ks (in_typed (both.0 u)) (both.1 u))
Move-one text ws ks _ at _ _ (step.untyped_nothing _ c) (step.untyped_nothing _ d) = refl
Move-one text ws ks _ at _ _ (step.untyped_nothing _ c) (step.begins_with_group _ b) =
    absurd (no_brace_begins text at b c)
Move-one text ws ks _ at _ _ (step.untyped_nothing _ c) (step.untyped_string _ i j s p k d) =
    absurd (no_string text at i _ s p c refl)
Move-one text ws ks _ at _ _ (step.untyped_nothing _ c) (step.begins_with_string _ i j s p k d) =
    absurd (no_string text at i _ s p c refl)
Move-one text ws ks _ at _ _ (step.untyped_nothing _ c) (step.begins_with_key _ i j s p k b) =
    absurd (no_string text at i _ s (key_string text at i s p) c refl)
Move-one text ws ks _ at _ _ (step.begins_with_group _ b) (step.untyped_nothing _ d) =
    absurd (no_brace_begins text at b d)
Move-one text ws ks _ at _ _ (step.begins_with_group _ b) (step.begins_with_group _ d) = refl
Move-one text ws ks _ at _ _ (step.begins_with_group _ b) (step.untyped_string _ i j s p k d) =
    absurd (no_string_begins text at i s p b)
Move-one text ws ks _ at _ _ (step.begins_with_group _ b)
    (step.begins_with_string _ i j s p k d) = absurd (no_string_begins text at i s p b)
Move-one text ws ks _ at _ _ (step.begins_with_group _ b) (step.begins_with_key _ i j s p k d) =
    absurd (no_string_begins text at i s (key_string text at i s p) b)
Move-one text ws ks _ at _ _ (step.untyped_string _ i j s p k c) (step.untyped_nothing _ d) =
    absurd (no_string text at i _ s p d refl)
Move-one text ws ks _ at _ _ (step.untyped_string _ i j s p k c) (step.begins_with_group _ b) =
    absurd (no_string_begins text at i s p b)
Move-one text ws ks _ at _ _ (step.untyped_string _ i j s p k c)
    (step.untyped_string _ m n v q l d) =
    let both = string_skipped text at i m j n s v p k q l in
    (λ u. reading_at ws ks (behind_group (string (both.1 u))) (both.0 u + 1))
Move-one text ws ks _ at _ _ (step.untyped_string _ i j s p k c)
    (step.begins_with_string _ m n v q l d) =
    absurd (no_comma_closes text n j d (sym (string_skipped text at i m j n s v p k q l).0) c)
Move-one text ws ks _ at _ _ (step.untyped_string _ i j s p k c)
    (step.begins_with_key _ m n v q l b) =
    absurd (no_brace_begins text n b (subst (λ u. Closes text u)
    (string_skipped text at i m j n s v p k (key_string text at m v q) l).0 c))
Move-one text ws ks _ at _ _ (step.begins_with_string _ i j s p k c) (step.untyped_nothing _ d) =
    absurd (no_string text at i _ s p d refl)
Move-one text ws ks _ at _ _ (step.begins_with_string _ i j s p k c)
    (step.begins_with_group _ b) = absurd (no_string_begins text at i s p b)
Move-one text ws ks _ at _ _ (step.begins_with_string _ i j s p k c)
    (step.untyped_string _ m n v q l d) =
    absurd (no_comma_closes text j n c (string_skipped text at i m j n s v p k q l).0 d)
Move-one text ws ks _ at _ _ (step.begins_with_string _ i j s p k c)
    (step.begins_with_string _ m n v q l d) =
    let both = string_skipped text at i m j n s v p k q l in
    (λ u. reading_at ws ks (among_members a_string (string (both.1 u) ∷ [])) (both.0 u))
Move-one text ws ks _ at _ _ (step.begins_with_string _ i j s p k c)
    (step.begins_with_key _ m n v q l b) =
    absurd (no_comma_begins text n b (subst (λ u. slice_index text u ≡ ascii.comma)
    (string_skipped text at i m j n s v p k (key_string text at m v q) l).0 c))
Move-one text ws ks _ at _ _ (step.begins_with_key _ i j s p k b) (step.untyped_nothing _ d) =
    absurd (no_string text at i _ s (key_string text at i s p) d refl)
Move-one text ws ks _ at _ _ (step.begins_with_key _ i j s p k b) (step.begins_with_group _ d) =
    absurd (no_string_begins text at i s (key_string text at i s p) d)
Move-one text ws ks _ at _ _ (step.begins_with_key _ i j s p k b)
    (step.untyped_string _ m n v q l d) =
    absurd (no_brace_begins text j b (subst (λ u. Closes text u)
    (string_skipped text at m i n j v s q l (key_string text at i s p) k).0 d))
Move-one text ws ks _ at _ _ (step.begins_with_key _ i j s p k b)
    (step.begins_with_string _ m n v q l d) =
    absurd (no_comma_begins text j b (subst (λ u. slice_index text u ≡ ascii.comma)
    (string_skipped text at m i n j v s q l (key_string text at i s p) k).0 d))
Move-one text ws ks _ at _ _ (step.begins_with_key _ i j s p k b)
    (step.begins_with_key _ m n v q l d) =
    let both = string_skipped text at i m j n s v (key_string text at i s p) k
    (key_string text at m v q) l in
    (λ u. reading_at (in_table [] (both.1 u) ∷ ws) (ks ++ both.1 u ∷ []) before_group
    (both.0 u))
Move-one text ws ks _ at _ _ (step.members_follow _) (step.members_follow _) = refl
Move-one text ws ks _ at _ _ (step.members_follow _) (step.leaf_follows _ _ to t p c) = elim p [ ]
Move-one text ws ks _ at _ _ (step.entries_follow _) (step.entries_follow _) = refl
Move-one text ws ks _ at _ _ (step.entries_follow _) (step.leaf_follows _ _ to t p c) = elim p [ ]
Move-one text ws ks _ at _ _ (step.leaf_follows _ _ to t p c) (step.members_follow _) = elim p [ ]
Move-one text ws ks _ at _ _ (step.leaf_follows _ _ to t p c) (step.entries_follow _) = elim p [ ]
Move-one text ws ks _ at _ _ (step.leaf_follows kind _ to t p c)
    (step.leaf_follows _ _ to' t' q d) =
    let both = LeafContent-one text at to to' kind t t' p q c d in
    (λ u. reading_at ws ks (behind_group (both.1 u)) (both.0 u + 1))

-- so is the step out of a group
pub StepOut-one : (text : List ℕ) (ws : List Waiting) (ks : List (List ℕ)) (t : Tree) (at : ℕ)
    (r q : Reading) → StepOut text ks t at ws r → StepOut text ks t at ws q → r ≡ q
StepOut-one text _ ks t at _ _ (was_member ws ts j k) (was_member _ _ n l) =
    ap (λ u. reading_at ws ks (among_members a_group (ts ++ t ∷ [])) u) (Skip-one text at j n k l)
StepOut-one text _ ks t at _ _ (was_value ws es key j k) (was_value _ _ _ n l) =
    ap (λ u. reading_at ws ks (among_entries (es ++ (key, t) ∷ [])) u) (Skip-one text at j n k l)

-- one step of a reading, inside the groups that are open or out of one
pub data Next (text : List ℕ) : Reading → Reading → Type 0 where
  inside : (ws : List Waiting) (ks : List (List ℕ)) (s : Standing) (at : ℕ) (r : Reading)
      → Move text ws ks s at r → Next text (reading_at ws ks s at) r
  outside : (ws : List Waiting) (ks : List (List ℕ)) (t : Tree) (at : ℕ) (r : Reading)
      → StepOut text ks t at ws r → Next text (reading_at ws ks (behind_group t) at) r

-- a step leads to one reading
pub Next-one : (text : List ℕ) (from r q : Reading) → Next text from r → Next text from q → r ≡ q
Next-one text _ r q (inside ws ks s at _ v) (inside _ _ _ _ _ w) =
    Move-one text ws ks s at r q v w
Next-one text _ r q (inside ws ks s at _ v) (outside _ _ t _ _ w) = elim v [ ]
Next-one text _ r q (outside ws ks t at _ v) (inside _ _ _ _ _ w) = elim w [ ]
Next-one text _ r q (outside ws ks t at _ v) (outside _ _ _ _ _ w) =
    StepOut-one text ws ks t at r q v w

-- steps, and one more
pub comes_on : (text : List ℕ) (from mid r : Reading) → Comes text from mid → Next text mid r
    → Comes text from r
comes_on text from _ r c (inside ws ks s at _ v) = moves from r ws ks s at c v
comes_on text from _ r c (outside ws ks t at _ v) = leaves from r ws ks t at c v

with_last : (text : List ℕ) (from last r : Reading) → Next text last r
    → (from ≡ last) ⊎ ((mid : Reading) × Next text from mid × Comes text mid last)
    → (from ≡ r) ⊎ ((mid : Reading) × Next text from mid × Comes text mid r)
with_last text from last r n (inl e) =
    inr (r, subst (λ u. Next text u r) (sym e) n, here r)
with_last text from last r n (inr (mid, m, c)) = inr (mid, m, comes_on text mid last r c n)

-- steps are none, or a first one and the others
pub first_step : (text : List ℕ) (from r : Reading) → Comes text from r
    → (from ≡ r) ⊎ ((mid : Reading) × Next text from mid × Comes text mid r)
first_step text from _ (here _) = inl refl
first_step text from r (moves _ _ ws ks s at c v) =
    with_last text from (reading_at ws ks s at) r (inside ws ks s at r v)
    (first_step text from (reading_at ws ks s at) c)
first_step text from r (leaves _ _ ws ks t at c v) =
    with_last text from (reading_at ws ks (behind_group t) at) r (outside ws ks t at r v)
    (first_step text from (reading_at ws ks (behind_group t) at) c)

one_on : (text : List ℕ) (mid r q : Reading) → Next text mid r
    → Comes text mid q ⊎ Comes text q mid → Comes text r q ⊎ Comes text q r
one_on text mid r q n (inr d) = inr (comes_on text q mid r d n)
one_on text mid r q n (inl d) = by (first_step text mid q d)
  where
    by : (mid ≡ q) ⊎ ((m : Reading) × Next text mid m × Comes text m q)
        → Comes text r q ⊎ Comes text q r
    by (inl e) = inr (comes_on text q mid r (subst (λ u. Comes text q u) (sym e) (here q)) n)
    by (inr (m, k, c)) = inl (subst (λ u. Comes text u q) (Next-one text mid m r k n) c)

-- of two readings to which steps lead from one place, steps lead from one to the other
pub comes_meet : (text : List ℕ) (from r q : Reading) → Comes text from r → Comes text from q
    → Comes text r q ⊎ Comes text q r
comes_meet text from _ q (here _) d = inl d
comes_meet text from r q (moves _ _ ws ks s at c v) d =
    one_on text (reading_at ws ks s at) r q (inside ws ks s at r v)
    (comes_meet text from (reading_at ws ks s at) q c d)
comes_meet text from r q (leaves _ _ ws ks t at c v) d =
    one_on text (reading_at ws ks (behind_group t) at) r q (outside ws ks t at r v)
    (comes_meet text from (reading_at ws ks (behind_group t) at) q c d)
