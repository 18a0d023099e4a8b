-- What was made stays while more is made, and where a reading stands once something is made.
use Rattle.std.proofs.Common.{◌≡◌, ◌&&◌, ◌⊎◌, ℕ, ◌+◌, Bool, true, List, [], ◌∷◌, ◌++◌, Vec, Global}
use Rattle.std.proofs.Common.{Bor, inl, inr, refl, sym, ◌∙◌, ap, subst, map, slice_index}
use Rattle.std.proofs.lemmas.Bool.{and_from, and_parts, false≢true}
use Rattle.std.proofs.lemmas.List.{map-append}
use Rattle.resb_grammar.specs.Ascii as ascii
use Rattle.resb_tree.specs.Borrowing.{all_true}
use Rattle.resb_tree.specs.Tree.{Tree, table, map_of}
use Rattle.resb_tree.specs.View.{tree_of}
use Rattle.resb_tree.specs.declared.resource.Resource.{Resource}
use Rattle.resb_icu_grammar.specs.Groups.{a_string}
use Rattle.resb_icu_grammar.specs.Machine.{Waiting, in_array, in_table, Reading, reading_at}
use Rattle.resb_icu_grammar.specs.Machine.{AreDistinct, among_members, among_entries, behind_group}
use Rattle.resb_icu_grammar.specs.Machine.{table_ends}
use Rattle.resb_icu_grammar.specs.Stuck.{ReadStuck, inside, key_twice}
use Rattle.resb_icu_grammar.specs.declared.expected.IcuExpected.TheVariants as expect
use Rattle.resb_icu_text.specs.Borrowed.{PassesWhatIsSaid, passes}
use Rattle.resb_icu_text.specs.Refusal.{want_of_memory}
use Rattle.resb_icu_text.specs.declared.error.IcuTextError.{IcuTextError}
use Rattle.resb_icu_text.specs.declared.steps.Last.TheVariants as last
use Rattle.resb_icu_text.specs.declared.steps.Waiting.{Waiting as Open}
use Rattle.resb_icu_text.specs.declared.steps.Waiting.TheVariants as waiting
use Rattle.resb_icu_text.specs.declared.steps.Step.TheVariants as step
use Rattle.resb_icu_text.specs.declared.steps.Read.{Read}
use Rattle.resb_icu_text.specs.declared.steps.Read.TheVariants as read
use Rattle.resb_icu_text.specs.declared.open.Next.{Next}
use Rattle.resb_icu_text.specs.declared.open.Next.TheVariants as next
use Rattle.resb_icu_text.specs.Inner.Build.{Grows, Adds, pairs_by}
use Rattle.resb_icu_text.specs.Inner.Kept.{Test, anything, members_pass, entries_pass, open_passes}
use Rattle.resb_icu_text.specs.Inner.Kept.{read_passes, next_passes, IsKept}
use Rattle.resb_icu_text.specs.Inner.Reading.{around, coming_to, Makes, IsDouble}
use Rattle.resb_icu_text.specs.Inner.Quota.{GoesOn, StopsAt}
use Rattle.resb_icu_text.specs.declared.quota.Quota.{Quota}
use Rattle.resb_icu_text.proofs.QuotaLemmas.{none_taken, by_move, memory_stops, stuck_stops}
use Rattle.resb_icu_text.specs.Inner.Steps.{shown, read_now, Ends}
use Rattle.resb_icu_text.proofs.KeptLemmas.{members_with}

-- the test that each string passes is one of what a text says
pub anything_said : (text : List ℕ) → PassesWhatIsSaid text anything
anything_said text = record { slices = λ s h. refl; built = λ s h. refl }

module _ {B X : Type 0} (tree : B → X → Tree) (held : B → X → Test → Bool) (b d : B)
    (grows : Grows tree held b d) (t : Test) where
  -- members that were held stand for the same trees, held still
  pub members_grow : (xs : List X) → members_pass xs (held b) t ≡ true
      → (map (tree d) xs ≡ map (tree b) xs) × (members_pass xs (held d) t ≡ true)
  members_grow [] h = (refl, refl)
  members_grow (x ∷ xs) h =
      let both = and_parts (held b x t) _ h in
      let one = grows x t both.0 in
      let rest = members_grow xs both.1 in
      ((λ i. one.0 i ∷ rest.0 i), and_from _ _ one.1 rest.1)

  -- so do the values of entries
  pub entries_grow : (es : List (Bor (List ℕ) × X)) → entries_pass es (held b) t ≡ true
      → (pairs_by (tree d) es ≡ pairs_by (tree b) es) × (entries_pass es (held d) t ≡ true)
  entries_grow [] h = (refl, refl)
  entries_grow (e ∷ es) h =
      let both = and_parts (held b e.1 t) _ h in
      let one = grows e.1 t both.0 in
      let rest = entries_grow es both.1 in
      ((λ i. (e.0.now, one.0 i) ∷ rest.0 i), and_from _ _ one.1 rest.1)

  -- so does what is open around a group
  pub open_grows : (o : Open X) → open_passes o (held b) t ≡ true
      → (shown (tree d) o ≡ shown (tree b) o) × (open_passes o (held d) t ≡ true)
  open_grows (waiting.Array members) h =
      let all = members_grow members.items h in (ap in_array all.0, all.1)
  open_grows (waiting.Table entries key) h =
      let all = entries_grow entries.items h in
      (ap (λ ps. in_table ps key.now) all.0, all.1)

  -- and all that is open
  pub around_grows : (ws : List Waiting) (os : List (Open X))
      → all_true (map (λ o. open_passes o (held b) t) os) ≡ true
      → (around (tree d) ws os ≡ around (tree b) ws os)
      × (all_true (map (λ o. open_passes o (held d) t) os) ≡ true)
  around_grows ws [] h = (refl, refl)
  around_grows ws (o ∷ os) h =
      let both = and_parts (open_passes o (held b) t) _ h in
      let one = open_grows o both.0 in
      let rest = around_grows (shown (tree b) o ∷ ws) os both.1 in
      (ap (λ w. around (tree d) (w ∷ ws) os) one.0 ∙ rest.0, and_from _ _ one.1 rest.1)

module _ {B X : Type 0} (tree : B → X → Tree) (held : B → X → Test → Bool) (b d : B) where
  -- a member more, of which something was just made
  pub member_more : (v old : List X) (x : X) (u : Tree) (passing : Test → Bool)
      → Adds tree held b d x u passing → v ≡ old ++ x ∷ []
      → members_pass old (held b) anything ≡ true → map (tree d) v ≡ map (tree b) old ++ u ∷ []
  member_more v old x u passing adds e h =
      ap (map (tree d)) e ∙ map-append (tree d) old (x ∷ [])
      ∙ (λ i. (members_grow tree held b d adds.2 anything old h).0 i ++ adds.0 i ∷ [])

  -- and it passes what the others do
  pub member_passes : (v old : List X) (x : X) (u : Tree) (passing : Test → Bool) (t : Test)
      → Adds tree held b d x u passing → v ≡ old ++ x ∷ []
      → (members_pass old (held b) t && passing t) ≡ true → members_pass v (held d) t ≡ true
  member_passes v old x u passing t adds e h =
      let both = and_parts _ _ h in
      members_with (held d) t v old x e (members_grow tree held b d adds.2 t old both.0).1
      (adds.1 t both.1)

  -- where a reading stands once a string is a member
  pub member_made : (text : List ℕ) (ws : List Waiting) (ks : List (List ℕ)) (q : Quota)
      (v old : Vec X Global) (x : X) (r : Resource) (at : ℕ)
      → Adds tree held b d x (tree_of r) (λ t. passes t r) → v.items ≡ old.items ++ x ∷ []
      → (members_pass old.items (held b) anything && passes anything r) ≡ true
      → GoesOn text q q (read_now (tree b) ws ks (read.Member old r at))
      (coming_to (tree d) ws ks (next.Step (step.Members v last.String at)))
  member_made text ws ks q v old x r at adds e h =
      subst (λ ts. GoesOn text q q (read_now (tree b) ws ks (read.Member old r at))
      (reading_at ws ks (among_members a_string ts) at))
      (sym (member_more v.items old.items x (tree_of r) (λ t. passes t r) adds e
      (and_parts _ _ h).0)) (λ limit a. a)

-- where a reading stands once a group is made
pub group_made : (text : List ℕ) (ws : List Waiting) (ks : List (List ℕ)) (q : Quota) (t u : Tree)
    (at : ℕ) → t ≡ u
    → GoesOn text q q (reading_at ws ks (behind_group u) at) (reading_at ws ks (behind_group t) at)
group_made text ws ks q t u at e =
    subst (λ s. GoesOn text q q (reading_at ws ks (behind_group u) at)
    (reading_at ws ks (behind_group s) at)) (sym e) (λ limit a. a)

-- where it stands once a table is
pub table_made : (text : List ℕ) (ws : List Waiting) (ks : List (List ℕ)) (q : Quota) (t : Tree)
    (es : List (List ℕ × Tree)) (at to : ℕ) → t ≡ table (map_of es) → AreDistinct es
    → (slice_index text at ≡ ascii.right_brace) × (to ≡ at + 1)
    → GoesOn text q q (reading_at ws ks (among_entries es) at)
    (reading_at ws ks (behind_group t) to)
table_made text ws ks q t es at to e h ends =
    subst (λ n. GoesOn text q q (reading_at ws ks (among_entries es) at)
    (reading_at ws ks (behind_group t) n)) (sym ends.1)
    (subst (λ s. GoesOn text q q (reading_at ws ks (among_entries es) at)
    (reading_at ws ks (behind_group s) (at + 1))) (sym e)
    (by_move ws ks _ at _ (table_ends es at ends.0 h) refl (none_taken q)))

double_stops : {X : Type 0} (text : List ℕ) (q : Quota) (tree : X → Tree) (r : Read X)
    (e : IcuTextError) (ws : List Waiting) (ks : List (List ℕ)) → Ends text r → IsDouble tree r e
    → StopsAt text q q (read_now tree ws ks r) e
double_stops text q tree (read.Step s) e ws ks ends h = absurd h
double_stops text q tree (read.Member members r at) e ws ks ends h = absurd h
double_stops text q tree (read.Array members at) e ws ks ends h = absurd h
double_stops text q tree (read.Table entries at to) e ws ks ends h =
    let es = pairs_by tree entries.items in
    stuck_stops (reading_at ws ks (among_entries es) at) e (none_taken q)
    (subst (λ (f : IcuTextError).
    ReadStuck text (reading_at ws ks (among_entries es) at) f.position f.expected) (sym h.1)
    (inside ws ks (among_entries es) at at expect.KeysOnce (key_twice es at ends.0 h.0)))
    (λ is. absurd (false≢true is))
double_stops text q tree (read.Leaf r at) e ws ks ends h = absurd h
double_stops text q tree (read.Root x at) e ws ks ends h = absurd h

-- a reading stops where nothing is made
pub stops_made : {X : Type 0} (text : List ℕ) (q : Quota) (tree : X → Tree) (r : Read X)
    (e : IcuTextError) (ws : List Waiting) (ks : List (List ℕ)) → Ends text r
    → (e ≡ want_of_memory) ⊎ IsDouble tree r e → StopsAt text q q (read_now tree ws ks r) e
stops_made text q tree r e ws ks ends (inl m) =
    memory_stops (read_now tree ws ks r) e (none_taken q) m
stops_made text q tree r e ws ks ends (inr n) = double_stops text q tree r e ws ks ends n

module _ {B X : Type 0} (tree : B → X → Tree) (held : B → X → Test → Bool) where
  -- where a reading comes that makes what it has read
  pub advanced : (text : List ℕ) (p q : Quota) (from : Reading) (os : List (Open X))
      (ks : List (List ℕ)) (b₀ b d : B) (r : Read X) (n : Next X) → b ≡ b₀
      → GoesOn text p q from (read_now (tree b₀) (around (tree b₀) [] os) ks r)
      → IsKept text (λ t. all_true (map (λ o. open_passes o (held b₀) t) os)
      && read_passes r (held b₀) t)
      → Ends text r → Grows tree held b d → Makes (tree b) (tree d) r n
      → GoesOn text p q from (coming_to (tree d) (around (tree d) [] os) ks n)
  advanced text p q from os ks b₀ b d r n e comes kept ends grows made =
      let outer = (and_parts _ _ (kept anything (anything_said text))).0 in
      let on = subst (λ c. Grows tree held c d) e grows in
      let same = (around_grows tree held b₀ d on anything [] os outer).0 in
      let then = subst (λ c. GoesOn text q q (read_now (tree c) (around (tree b₀) [] os) ks r)
      (coming_to (tree d) (around (tree b₀) [] os) ks n)) e
      (made text (around (tree b₀) [] os) ks q ends) in
      λ limit a. (subst (λ ws. GoesOn text q q
      (read_now (tree b₀) (around (tree b₀) [] os) ks r)
      (coming_to (tree d) ws ks n)) (sym same) then) limit (comes limit a)

  -- what is there passes what it did
  pub advanced_kept : (text : List ℕ) (os : List (Open X)) (b₀ b d : B) (r : Read X) (n : Next X)
      → b ≡ b₀
      → IsKept text (λ t. all_true (map (λ o. open_passes o (held b₀) t) os)
      && read_passes r (held b₀) t)
      → Grows tree held b d
      → ((t : Test) → read_passes r (held b) t ≡ true → next_passes n (held d) t ≡ true)
      → IsKept text (λ t. all_true (map (λ o. open_passes o (held d) t) os)
      && next_passes n (held d) t)
  advanced_kept text os b₀ b d r n e kept grows made t p =
      let both = and_parts _ _ (kept t p) in
      let on = subst (λ c. Grows tree held c d) e grows in
      and_from _ _ (around_grows tree held b₀ d on t [] os both.0).1
      (made t (subst (λ c. read_passes r (held c) t ≡ true) (sym e) both.1))
