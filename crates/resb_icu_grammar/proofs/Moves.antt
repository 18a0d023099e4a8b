-- What a reading's steps keep: the meanings that the rest of the text has.
use Rattle.std.proofs.Common.{ℕ, List, [], ◌∷◌, ◌++◌, refl, subst}
use Rattle.resb_tree.specs.Tree.{Tree}
use Rattle.resb_icu_grammar.specs.Blanks.{Skip}
use Rattle.resb_icu_grammar.specs.Groups.{nothing, a_group}
use Rattle.resb_icu_grammar.specs.Groups.{with_a_group, with_a_string}
use Rattle.resb_icu_grammar.specs.Machine.{Waiting, Standing, among_members}
use Rattle.resb_icu_grammar.specs.Machine.{among_entries, before_group, in_untyped, in_typed}
use Rattle.resb_icu_grammar.specs.Machine.{behind_group, Reading, reading_at, Move, StepOut, Comes}
use Rattle.resb_icu_grammar.specs.Machine.{here, moves, leaves, was_member, was_value}
use Rattle.resb_icu_grammar.specs.Machine as step
use Rattle.resb_icu_grammar.specs.Inner.Rest.{Meaning, RestOfMembers}
use Rattle.resb_icu_grammar.specs.Inner.Rest.{RestOfEntries, RestOfGroup, RestOfUntyped}
use Rattle.resb_icu_grammar.specs.Inner.Rest.{RestOfTyped, After, AfterMember, AfterValue, Same}
use Rattle.resb_icu_grammar.proofs.Lexical.{Skip-one}
use Rattle.resb_icu_grammar.proofs.RestLists as lists
use Rattle.resb_icu_grammar.proofs.RestGroups as groups
use Rattle.resb_icu_grammar.proofs.RestUntyped as untyped

-- what the rest of a text has to be where a reading stands
abbrev pub RestOf : List ℕ → List Waiting → List (List ℕ) → Standing → ℕ → Meaning → Type 0
RestOf text ws ks (among_members last ts) at = RestOfMembers text (After text ws) last ts at ks
RestOf text ws ks (among_entries es) at = RestOfEntries text (After text ws) es at ks
RestOf text ws ks before_group at = RestOfGroup text (After text ws) at ks
RestOf text ws ks in_untyped at = RestOfUntyped text (After text ws) at ks
RestOf text ws ks (in_typed kind) at = RestOfTyped text (After text ws) kind at ks
RestOf text ws ks (behind_group t) at = After text ws at t ks

-- what the rest has to be for a reading
abbrev pub Rest : List ℕ → Reading → Meaning → Type 0
Rest text r = RestOf text r.around r.keys r.stands r.at

-- what is the same as a third thing by way of a second
pub same_through : (P Q R : Meaning → Type 0) → Same P Q → Same Q R → Same P R
same_through P Q R f g m = (λ p. (g m).0 ((f m).0 p), λ r. (f m).1 ((g m).1 r))

-- a step keeps the meanings of the rest
pub move_same : (text : List ℕ) (ws : List Waiting) (ks : List (List ℕ)) (s : Standing) (at : ℕ)
    (r : Reading) → Move text ws ks s at r → Same (RestOf text ws ks s at) (Rest text r)
move_same text ws ks _ at _ (step.array_ends last ts _ c) =
    lists.array_ends text (After text ws) last ts at ks c
move_same text ws ks _ at _ (step.comma_behind last ts _ j e c k) =
    lists.comma_is_passed text (After text ws) last ts at j ks e c k
move_same text ws ks _ at _ (step.string_member last ts _ i j s e p k) =
    lists.string_is_member text (After text ws) last ts at i j s ks e p k
move_same text ws ks _ at _ (step.group_member last ts _ b) =
    lists.group_is_member text (After text ws) last ts at ks b
move_same text ws ks _ at _ (step.table_ends es _ c d) =
    lists.table_ends text (After text ws) es at ks c d
move_same text ws ks _ at _ (step.key_of_entry es _ i j k p l) =
    lists.entry_begins text (After text ws) es at i j k ks p l
move_same text ws ks _ at _ (step.group_opens _ i b l) =
    groups.untyped_begins text (After text ws) at i ks b l
move_same text ws ks _ at _ (step.type_opens _ i kind h) =
    groups.typed_begins text (After text ws) at i kind ks h
move_same text ws ks _ at _ (step.untyped_nothing _ c) =
    untyped.empty_is_array text (After text ws) at ks c
move_same text ws ks _ at _ (step.begins_with_group _ b) =
    untyped.untyped_array text (After text ws) at ks (with_a_group b)
move_same text ws ks _ at _ (step.untyped_string _ i j s p l c) =
    untyped.untyped_string text (After text ws) at i j s ks p l c
move_same text ws ks _ at _ (step.begins_with_string _ i j s p l c) =
    same_through _ _ _
    (untyped.untyped_array text (After text ws) at ks (with_a_string i j s p l c))
    (lists.string_is_member text (After text ws) nothing [] at i j s ks refl p l)
move_same text ws ks _ at _ (step.begins_with_key _ i j k p l b) =
    same_through _ _ _ (untyped.untyped_table text (After text ws) at i j k ks p l b)
    (lists.entry_begins text (After text ws) [] at i j k ks p l)
move_same text ws ks _ at _ (step.members_follow _) =
    groups.array_begins text (After text ws) at ks
move_same text ws ks _ at _ (step.entries_follow _) =
    groups.table_begins text (After text ws) at ks
move_same text ws ks _ at _ (step.leaf_follows kind _ to t p c) =
    groups.leaf_is_group text (After text ws) kind at to t ks p c

behind_member : (text : List ℕ) (ws : List Waiting) (ks : List (List ℕ)) (t : Tree)
    (ts : List Tree) (at next : ℕ) → Skip text at next
    → Same (AfterMember text (After text ws) ts at t ks)
    (RestOfMembers text (After text ws) a_group (ts ++ t ∷ []) next ks)
behind_member text ws ks t ts at next k m = (there, back)
  where
    there : AfterMember text (After text ws) ts at t ks m
        → RestOfMembers text (After text ws) a_group (ts ++ t ∷ []) next ks m
    there h =
        subst (λ n. RestOfMembers text (After text ws) a_group (ts ++ t ∷ []) n ks m)
        (Skip-one text at h.next next h.after k) h.rest

    back : RestOfMembers text (After text ws) a_group (ts ++ t ∷ []) next ks m
        → AfterMember text (After text ws) ts at t ks m
    back h = record { next = next; after = k; rest = h }

behind_value : (text : List ℕ) (ws : List Waiting) (ks : List (List ℕ)) (t : Tree)
    (es : List (List ℕ × Tree)) (key : List ℕ) (at next : ℕ)
    → Skip text at next
    → Same (AfterValue text (After text ws) es key at t ks)
    (RestOfEntries text (After text ws) (es ++ (key, t) ∷ []) next ks)
behind_value text ws ks t es key at next k m = (there, back)
  where
    there : AfterValue text (After text ws) es key at t ks m
        → RestOfEntries text (After text ws) (es ++ (key, t) ∷ []) next ks m
    there h =
        subst (λ n. RestOfEntries text (After text ws) (es ++ (key, t) ∷ []) n ks m)
        (Skip-one text at h.next next h.after k) h.rest

    back : RestOfEntries text (After text ws) (es ++ (key, t) ∷ []) next ks m
        → AfterValue text (After text ws) es key at t ks m
    back h = record { next = next; after = k; rest = h }

-- so does a step out of a group
pub step_out_same : (text : List ℕ) (ws : List Waiting) (ks : List (List ℕ)) (t : Tree) (at : ℕ)
    (r : Reading) → StepOut text ks t at ws r → Same (After text ws at t ks) (Rest text r)
step_out_same text _ ks t at _ (was_member ws ts j k) = behind_member text ws ks t ts at j k
step_out_same text _ ks t at _ (was_value ws es key j k) =
    behind_value text ws ks t es key at j k

-- and so do all steps from one place to another
pub comes_same : (text : List ℕ) (from r : Reading) → Comes text from r
    → Same (Rest text from) (Rest text r)
comes_same text from _ (here _) = λ m. (λ h. h, λ h. h)
comes_same text from r (moves _ _ ws ks s at c v) =
    same_through _ _ _ (comes_same text from (reading_at ws ks s at) c)
    (move_same text ws ks s at r v)
comes_same text from r (leaves _ _ ws ks t at c v) =
    same_through _ _ _ (comes_same text from (reading_at ws ks (behind_group t) at) c)
    (step_out_same text ws ks t at r v)

-- steps behind steps
pub comes_by : (text : List ℕ) (from mid r : Reading) → Comes text from mid → Comes text mid r
    → Comes text from r
comes_by text from mid _ c (here _) = c
comes_by text from mid r c (moves _ _ ws ks s at d v) =
    moves from r ws ks s at (comes_by text from mid (reading_at ws ks s at) c d) v
comes_by text from mid r c (leaves _ _ ws ks t at d v) =
    leaves from r ws ks t at (comes_by text from mid (reading_at ws ks (behind_group t) at) c d) v

-- one step
pub one_move : (text : List ℕ) (ws : List Waiting) (ks : List (List ℕ)) (s : Standing) (at : ℕ)
    (r : Reading) → Move text ws ks s at r → Comes text (reading_at ws ks s at) r
one_move text ws ks s at r v =
    moves (reading_at ws ks s at) r ws ks s at (here (reading_at ws ks s at)) v

-- one step out of a group
pub one_step_out : (text : List ℕ) (ws : List Waiting) (ks : List (List ℕ)) (t : Tree) (at : ℕ)
    (r : Reading) → StepOut text ks t at ws r → Comes text (reading_at ws ks (behind_group t) at) r
one_step_out text ws ks t at r v =
    leaves (reading_at ws ks (behind_group t) at) r ws ks t at
    (here (reading_at ws ks (behind_group t) at)) v
