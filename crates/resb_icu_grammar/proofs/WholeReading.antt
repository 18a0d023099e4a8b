-- The steps of a reading lead to the end of a text exactly where it is a bundle.
use Rattle.std.proofs.Common.{◌≡◌, ℕ, ◌+◌, Bool, List, [], ◌∷◌, ◌++◌, refl, sym, ◌∙◌}
use Rattle.std.proofs.Common.{subst, append_assoc, append-nil}
use Rattle.std.specs.Prelude.{slice_index}
use Rattle.resb_grammar.specs.Ascii as ascii
use Rattle.resb_icu_grammar.specs.Kinds.{Kind, array_kind, table_kind}
use Rattle.resb_tree.specs.Tree.{Tree, string, array, table, trees_of, map_of}
use Rattle.resb_icu_grammar.specs.Blanks.{Skip}
use Rattle.resb_icu_grammar.specs.Words.{Text}
use Rattle.resb_icu_grammar.specs.Groups.{Last, nothing, a_string, a_group, a_comma, Members}
use Rattle.resb_icu_grammar.specs.Groups.{no_member, string_member, group_member, comma_behind}
use Rattle.resb_icu_grammar.specs.Groups.{Entries, no_entry, one_entry, Untyped, an_empty_array}
use Rattle.resb_icu_grammar.specs.Groups.{one_string, an_array, a_table, Typed, members, entries}
use Rattle.resb_icu_grammar.specs.Groups.{leaf, Group, untyped, typed, with_a_group, with_a_string}
use Rattle.resb_icu_grammar.specs.Bundle.{IcuText}
use Rattle.resb_icu_grammar.specs.Laws.{IcuMachineReadsTheForm}
use Rattle.resb_icu_grammar.specs.Machine.{Waiting, in_array, in_table, AreDistinct, Standing}
use Rattle.resb_icu_grammar.specs.Machine.{among_members, among_entries, before_group, in_untyped}
use Rattle.resb_icu_grammar.specs.Machine.{in_typed, behind_group, Reading, reading_at, at_root}
use Rattle.resb_icu_grammar.specs.Machine.{Comes, Move, StepOut, IsReadToTheEnd, was_member}
use Rattle.resb_icu_grammar.specs.Machine.{was_value}
use Rattle.resb_icu_grammar.specs.Machine as step
use Rattle.resb_icu_grammar.proofs.Groups.{Closes, group_first, no_string, no_both, string_skipped}
use Rattle.resb_icu_grammar.proofs.Moves.{comes_same, comes_by, one_move, one_step_out}
use Rattle.resb_icu_grammar.proofs.RestLists.{entries_distinct}
use Rattle.resb_icu_grammar.proofs.RestRoot.{root_follows}

-- steps behind a step inside the groups that are open
move_on : (text : List ℕ) (ws : List Waiting) (ks : List (List ℕ)) (s : Standing) (at : ℕ)
    (mid r : Reading) → Move text ws ks s at mid → Comes text mid r
    → Comes text (reading_at ws ks s at) r
move_on text ws ks s at mid r v c =
    comes_by text (reading_at ws ks s at) mid r (one_move text ws ks s at mid v) c

-- steps behind the step out of a group
step_out_on : (text : List ℕ) (ws : List Waiting) (ks : List (List ℕ)) (t : Tree) (at : ℕ)
    (mid r : Reading) → StepOut text ks t at ws mid → Comes text mid r
    → Comes text (reading_at ws ks (behind_group t) at) r
step_out_on text ws ks t at mid r v c =
    comes_by text (reading_at ws ks (behind_group t) at) mid r
    (one_step_out text ws ks t at mid v) c

-- where an array ends whose members are those before a place and behind it
abbrev Array : List Waiting → List (List ℕ) → List Tree → ℕ → Reading
Array ws ks ts to = reading_at ws ks (behind_group (array (trees_of ts))) (to + 1)

-- where a table ends
abbrev Table : List Waiting → List (List ℕ) → List (List ℕ × Tree) → ℕ → Reading
Table ws ks es to = reading_at ws ks (behind_group (table (map_of es))) (to + 1)

-- the keys before an entry, its own, those inside its group and those behind it
keys_in_order : (js : List (List ℕ)) (k : List ℕ) (zs ks : List (List ℕ))
    → ((js ++ k ∷ []) ++ zs) ++ ks ≡ js ++ (k ∷ zs ++ ks)
keys_in_order js k zs ks =
    append_assoc (js ++ k ∷ []) zs ks ∙ append_assoc js (k ∷ []) (zs ++ ks)

-- steps through the group behind a key, out of it, and those behind that
value_read : (text : List ℕ) (ws : List Waiting) (before : List (List ℕ × Tree))
    (js : List (List ℕ)) (from m n : ℕ) (k : List ℕ) (t : Tree) (zs : List (List ℕ)) (r : Reading)
    → Comes text (reading_at (in_table before k ∷ ws) js before_group from)
    (reading_at (in_table before k ∷ ws) (js ++ zs) (behind_group t) m)
    → Skip text m n
    → Comes text (reading_at ws (js ++ zs) (among_entries (before ++ (k, t) ∷ [])) n) r
    → Comes text (reading_at (in_table before k ∷ ws) js before_group from) r
value_read text ws before js from m n k t zs r g o c =
    comes_by text (reading_at (in_table before k ∷ ws) js before_group from)
    (reading_at (in_table before k ∷ ws) (js ++ zs) (behind_group t) m) r g
    (step_out_on text (in_table before k ∷ ws) (js ++ zs) t m
    (reading_at ws (js ++ zs) (among_entries (before ++ (k, t) ∷ [])) n) r
    (was_value ws before k n o) c)

mutual
  -- steps lead through members and the `}` behind them
  members_read : (text : List ℕ) (ws : List Waiting) (before : List Tree) (js : List (List ℕ))
      (last : Last) (from to : ℕ) (ts : List Tree) (ks : List (List ℕ))
      → Members text last from to ts ks → Closes text to
      → Comes text (reading_at ws js (among_members last before) from)
      (Array ws (js ++ ks) (before ++ ts) to)
  members_read text ws before js last from to _ _ (no_member _ _) c =
      subst (λ l. Comes text (reading_at ws js (among_members last before) from)
      (Array ws (js ++ []) l to)) (sym (append-nil before))
      (subst (λ l. Comes text (reading_at ws js (among_members last before) from)
      (Array ws l before to)) (sym (append-nil js))
      (one_move text ws js (among_members last before) from (Array ws js before to)
      (step.array_ends last before from c)))
  members_read text ws before js last from to _ ks (string_member _ _ i j _ s ts _ e p k r) c =
      subst (λ l. Comes text (reading_at ws js (among_members last before) from)
      (Array ws (js ++ ks) l to)) (append_assoc before (string s ∷ []) ts)
      (move_on text ws js (among_members last before) from
      (reading_at ws js (among_members a_string (before ++ string s ∷ [])) j)
      (Array ws (js ++ ks) ((before ++ string s ∷ []) ++ ts) to)
      (step.string_member last before from i j s e p k)
      (members_read text ws (before ++ string s ∷ []) js a_string j to ts ks r c))
  members_read text ws before js last from to _ _ (group_member _ _ i j _ t zs ks ts g k r) c =
      subst (λ l. Comes text (reading_at ws js (among_members last before) from)
      (Array ws (js ++ (zs ++ ks)) l to)) (append_assoc before (t ∷ []) ts)
      (subst (λ l. Comes text (reading_at ws js (among_members last before) from)
      (Array ws l ((before ++ t ∷ []) ++ ts) to)) (append_assoc js zs ks)
      (move_on text ws js (among_members last before) from
      (reading_at (in_array before ∷ ws) js before_group from)
      (Array ws ((js ++ zs) ++ ks) ((before ++ t ∷ []) ++ ts) to)
      (step.group_member last before from (group_first text from i t zs g))
      (comes_by text (reading_at (in_array before ∷ ws) js before_group from)
      (reading_at (in_array before ∷ ws) (js ++ zs) (behind_group t) i)
      (Array ws ((js ++ zs) ++ ks) ((before ++ t ∷ []) ++ ts) to)
      (group_read text (in_array before ∷ ws) js from i t zs g)
      (step_out_on text (in_array before ∷ ws) (js ++ zs) t i
      (reading_at ws (js ++ zs) (among_members a_group (before ++ t ∷ [])) j)
      (Array ws ((js ++ zs) ++ ks) ((before ++ t ∷ []) ++ ts) to)
      (was_member ws before j k)
      (members_read text ws (before ++ t ∷ []) (js ++ zs) a_group j to ts ks r c)))))
  members_read text ws before js last from to ts ks (comma_behind _ _ j _ _ _ e f k r) c =
      move_on text ws js (among_members last before) from
      (reading_at ws js (among_members a_comma before) j) (Array ws (js ++ ks) (before ++ ts) to)
      (step.comma_behind last before from j e f k)
      (members_read text ws before js a_comma j to ts ks r c)

  -- and through entries whose keys are distinct, with those before them
  entries_read : (text : List ℕ) (ws : List Waiting) (before : List (List ℕ × Tree))
      (js : List (List ℕ)) (from to : ℕ) (es : List (List ℕ × Tree)) (ks : List (List ℕ))
      → Entries text from to es ks → AreDistinct (before ++ es) → Closes text to
      → Comes text (reading_at ws js (among_entries before) from)
      (Table ws (js ++ ks) (before ++ es) to)
  entries_read text ws before js from to _ _ (no_entry _) d c =
      subst (λ l. Comes text (reading_at ws js (among_entries before) from)
      (Table ws (js ++ []) l to)) (sym (append-nil before))
      (subst (λ l. Comes text (reading_at ws js (among_entries before) from)
      (Table ws l before to)) (sym (append-nil js))
      (one_move text ws js (among_entries before) from (Table ws js before to)
      (step.table_ends before from c (subst AreDistinct (append-nil before) d))))
  entries_read text ws before js from to _ _ (one_entry _ i j m n _ k t es zs ks p l g o r w) d c
      =
      subst (λ u. Comes text (reading_at ws js (among_entries before) from)
      (Table ws (js ++ (k ∷ zs ++ ks)) u to)) (append_assoc before ((k, t) ∷ []) es)
      (subst (λ u. Comes text (reading_at ws js (among_entries before) from)
      (Table ws u ((before ++ (k, t) ∷ []) ++ es) to)) (keys_in_order js k zs ks)
      (move_on text ws js (among_entries before) from
      (reading_at (in_table before k ∷ ws) (js ++ k ∷ []) before_group j)
      (Table ws (((js ++ k ∷ []) ++ zs) ++ ks) ((before ++ (k, t) ∷ []) ++ es) to)
      (step.key_of_entry before from i j k p l)
      (value_read text ws before (js ++ k ∷ []) j m n k t zs
      (Table ws (((js ++ k ∷ []) ++ zs) ++ ks) ((before ++ (k, t) ∷ []) ++ es) to)
      (group_read text (in_table before k ∷ ws) (js ++ k ∷ []) j m t zs g) o
      (entries_read text ws (before ++ (k, t) ∷ []) ((js ++ k ∷ []) ++ zs) n to es ks r
      (subst AreDistinct (sym (append_assoc before ((k, t) ∷ []) es)) d) c))))

  -- and through what stands in a group without a type
  untyped_read : (text : List ℕ) (ws : List Waiting) (js : List (List ℕ)) (from to : ℕ) (t : Tree)
      (ks : List (List ℕ)) → Untyped text from to t ks → Closes text to
      → Comes text (reading_at ws js in_untyped from)
      (reading_at ws (js ++ ks) (behind_group t) (to + 1))
  untyped_read text ws js from to _ _ (an_empty_array _) c =
      subst (λ l. Comes text (reading_at ws js in_untyped from) (Array ws l [] to))
      (sym (append-nil js))
      (one_move text ws js in_untyped from (Array ws js [] to) (step.untyped_nothing from c))
  untyped_read text ws js from to _ _ (one_string _ i _ s p k) c =
      subst (λ l. Comes text (reading_at ws js in_untyped from)
      (reading_at ws l (behind_group (string s)) (to + 1))) (sym (append-nil js))
      (one_move text ws js in_untyped from (reading_at ws js (behind_group (string s)) (to + 1))
      (step.untyped_string from i to s p k c))
  untyped_read text ws js from to _ ks (an_array _ _ ts _ (with_a_group h) r) c =
      move_on text ws js in_untyped from (reading_at ws js (among_members nothing []) from)
      (Array ws (js ++ ks) ts to) (step.begins_with_group from h)
      (members_read text ws [] js nothing from to ts ks r c)
  untyped_read text ws js from to _ ks (an_array _ _ ts _ (with_a_string i j s p k e) r) c =
      first_string_read text ws js from i j to s ts ks p k e r c
  untyped_read text ws js from to _ _
      (a_table _ _ _ _ _ (one_entry _ i j m n _ k t es zs ks p l g o r w)) c =
      subst (λ u. Comes text (reading_at ws js in_untyped from) (Table ws u ((k, t) ∷ es) to))
      (keys_in_order js k zs ks)
      (move_on text ws js in_untyped from
      (reading_at (in_table [] k ∷ ws) (js ++ k ∷ []) before_group j)
      (Table ws (((js ++ k ∷ []) ++ zs) ++ ks) ((k, t) ∷ es) to)
      (step.begins_with_key from i j k p l (group_first text j m t zs g))
      (value_read text ws [] (js ++ k ∷ []) j m n k t zs
      (Table ws (((js ++ k ∷ []) ++ zs) ++ ks) ((k, t) ∷ es) to)
      (group_read text (in_table [] k ∷ ws) (js ++ k ∷ []) j m t zs g) o
      (entries_read text ws ((k, t) ∷ []) ((js ++ k ∷ []) ++ zs) n to es ks r
      (w, entries_distinct text n to es ks r) c)))

  -- and through members that begin with a string and a comma
  first_string_read : (text : List ℕ) (ws : List Waiting) (js : List (List ℕ)) (from i j to : ℕ)
      (s : List ℕ) (ts : List Tree) (ks : List (List ℕ)) → Text text from i s → Skip text i j
      → slice_index text j ≡ ascii.comma → Members text nothing from to ts ks → Closes text to
      → Comes text (reading_at ws js in_untyped from) (Array ws (js ++ ks) ts to)
  first_string_read text ws js from i j to s _ _ p k e (no_member _ _) c =
      absurd (no_string text from i _ s p c refl)
  first_string_read text ws js from i j to s _ ks p k e
      (string_member _ _ m n _ v ts _ h q l r) c =
      move_on text ws js in_untyped from
      (reading_at ws js (among_members a_string (string v ∷ [])) n)
      (Array ws (js ++ ks) (string v ∷ ts) to)
      (step.begins_with_string from m n v q l (subst (λ u. slice_index text u ≡ ascii.comma)
      (string_skipped text from i m j n s v p k q l).0 e))
      (members_read text ws (string v ∷ []) js a_string n to ts ks r c)
  first_string_read text ws js from i j to s _ _ p k e (group_member _ _ m n _ t zs ks ts g l r) c =
      absurd (no_both text from i m s t zs p g)
  first_string_read text ws js from i j to s ts ks p k e (comma_behind _ _ n _ _ _ h f l r) c =
      absurd (no_string text from i _ s p f refl)

  -- and through what stands in a group of this type
  typed_read : (text : List ℕ) (ws : List Waiting) (js : List (List ℕ)) (kind : Kind)
      (from to : ℕ) (t : Tree) (ks : List (List ℕ)) → Typed text kind from to t ks
      → Closes text to
      → Comes text (reading_at ws js (in_typed kind) from)
      (reading_at ws (js ++ ks) (behind_group t) (to + 1))
  typed_read text ws js _ from to _ ks (members _ _ ts _ r) c =
      move_on text ws js (in_typed array_kind) from
      (reading_at ws js (among_members nothing []) from)
      (Array ws (js ++ ks) ts to) (step.members_follow from)
      (members_read text ws [] js nothing from to ts ks r c)
  typed_read text ws js _ from to _ ks (entries _ _ es _ r) c =
      move_on text ws js (in_typed table_kind) from (reading_at ws js (among_entries []) from)
      (Table ws (js ++ ks) es to) (step.entries_follow from)
      (entries_read text ws [] js from to es ks r (entries_distinct text from to es ks r) c)
  typed_read text ws js kind from to t _ (leaf _ _ _ _ p) c =
      subst (λ l. Comes text (reading_at ws js (in_typed kind) from)
      (reading_at ws l (behind_group t) (to + 1))) (sym (append-nil js))
      (one_move text ws js (in_typed kind) from (reading_at ws js (behind_group t) (to + 1))
      (step.leaf_follows kind from to t p c))

  -- and through a group
  group_read : (text : List ℕ) (ws : List Waiting) (js : List (List ℕ)) (from to : ℕ) (t : Tree)
      (ks : List (List ℕ)) → Group text from to t ks
      → Comes text (reading_at ws js before_group from)
      (reading_at ws (js ++ ks) (behind_group t) to)
  group_read text ws js from _ t ks (untyped _ i k _ _ b l u c) =
      move_on text ws js before_group from (reading_at ws js in_untyped i)
      (reading_at ws (js ++ ks) (behind_group t) (k + 1)) (step.group_opens from i b l)
      (untyped_read text ws js i k t ks u c)
  group_read text ws js from _ t ks (typed _ i k kind _ _ h u c) =
      move_on text ws js before_group from (reading_at ws js (in_typed kind) i)
      (reading_at ws (js ++ ks) (behind_group t) (k + 1)) (step.type_opens from i kind h)
      (typed_read text ws js kind i k t ks u c)

read_through : (text name : List ℕ) (f : Bool) (t : Tree) (ks : List (List ℕ))
    → IcuText text name f t ks → IsReadToTheEnd text name f t ks
read_through text name f t ks h = record {
  first = h.first;
  end = h.last + 1;
  places = h.places;
  header = h.header;
  comes = subst (λ u. Comes text (at_root h.first)
      (reading_at [] h.places (behind_group u) (h.last + 1))) (sym h.means)
      (entries_read text [] [] [] h.first h.last h.entries h.places h.body
      (entries_distinct text h.first h.last h.entries h.places h.body) h.closes);
  after = h.after;
  lists = h.lists;
}

is_bundle : (text name : List ℕ) (f : Bool) (t : Tree) (ks : List (List ℕ))
    → IsReadToTheEnd text name f t ks → IcuText text name f t ks
is_bundle text name f t ks h =
    subst (λ l. IcuText text name f t l) (sym h.lists)
    (root_follows text name f h.first t h.places h.header
    ((comes_same text (at_root h.first) (reading_at [] h.places (behind_group t) h.end) h.comes
    (t, h.places)).1 (record { after = h.after; means = refl })))

-- what is read to the end is a bundle, and the other way round
pub machine_reads_the_form : IcuMachineReadsTheForm
machine_reads_the_form text name f t ks =
    (read_through text name f t ks, is_bundle text name f t ks)
