-- The collections from the root to the one whose members are counted.
use Rattle.std.proofs.Common.{ℕ, List, [], ◌∷◌, ◌++◌, ◌≡◌, ◌+◌, ◌<◌, ◌≤◌, ◌*◌, inl, inr, Ok}
use Rattle.std.proofs.Common.{Err, Some}
use Rattle.std.proofs.Common.{refl, sym, ◌∙◌, ap, subst, arith, length, length-append}
use Rattle.resb_tree.specs.Tree.{Tree}
use Rattle.resb_format.specs.Parts.{Parts}
use Rattle.resb_format.specs.Content.{Member, word, list, entry_list}
use Rattle.resb_format.specs.Denotes.{Den, DenMember, den_word, Reaches, ReachesMember}
use Rattle.resb_format.specs.Error.{Refusal}
use Rattle.resb_format.specs.declared.error.ReadingError.{ReadingError}
use Rattle.resb_format.proofs.Denoting.{same_list, same_entries, list_entries}
use Rattle.resb_walk.specs.Inner.Counting.{no_list, no_table, IsOpenedAt, Awaits, AreLastMembers}
use Rattle.resb_walk.specs.Inner.Counting.{HasLast, EnteredMember, LooksAt, LooksKey, TakesNext}
use Rattle.resb_walk.specs.Inner.Members.{members_of, keyed_members, rest_length}
use Rattle.resb_walk.specs.Meets.{Meets, Blames, meets_list, meets_entry}
use Rattle.resb_walk.specs.Refusals.{IsFault, DenotesNothing, Refuses}
use Rattle.resb_walk.specs.declared.count.Inner.{Inner}
use Rattle.resb_walk.specs.declared.count.Outer.{Outer}
use Rattle.resb_walk.specs.declared.members.TableParts.{TableParts}
use Rattle.resb_walk.specs.declared.members.Rest.{Rest}
use Rattle.resb_walk.specs.declared.members.Rest.TheVariants as rest
use Rattle.resb_walk.proofs.Lift.{refused_word}
use Rattle.resb_walk.proofs.Meeting.{table_meets}
use Rattle.resb_walk.proofs.Starts.{member_meets}
use Rattle.resb_walk.proofs.Waits.{waiting_list_begins, waiting_table_begins, table_no_key}
use Rattle.resb_walk.proofs.Waits.{list_puts, table_puts}
use Rattle.resb_walk.proofs.Waits.{list_stuck, list_reaches, table_stuck}
use Rattle.resb_walk.proofs.Waits.{table_reaches}
use Rattle.resb_walk.proofs.RoundsLemmas.{same_word}
use Rattle.resb_walk.proofs.Lists.{last_of}

module _ (p : Parts) where
  -- The first collection stands at the first word and waits for the word of the next, and the last
  -- waits for the second word. They and what they have counted are so many resources.
  pub data Path : ℕ → List Outer → ℕ → ℕ → Type 0 where
    path_none : {w : ℕ} → Path w [] w 0
    path_more : {w v s : ℕ} {c : Outer} {cs : List Outer} (r : Rest) (u n : ℕ) → c.word ≡ w
        → c.left ≡ rest_length r → Awaits p r w (word u) n → Path u cs v s
        → Path w (c ∷ cs) v (1 + n + s)

module _ (p : Parts) where
  -- a collection whose members are all still to come
  pub rest_begins : (r : Rest) (w : ℕ) → LooksAt p (word w) (Ok (Some r)) → IsOpenedAt p r w 0
  rest_begins (rest.List ms) w e = waiting_list_begins no_list no_table p ms 0 w e tt
  rest_begins (rest.Table es) w e = waiting_table_begins no_list no_table p es 0 w e tt

  -- the fault of a member is the one that is met
  pub looked_meets : (m : Member) (e : ReadingError) → LooksAt p m (Err e) → Blames (Meets p m) e
  looked_meets m e (inl memory) f = absurd (f.not_memory memory.kind_is)
  looked_meets m e (inr (none, is_fault, says)) f = rw says (member_meets p m none)

  -- the next entry has no key
  pub key_stuck : (es fs : TableParts) (k : ℕ) (x : Member) (w n : ℕ) (e : ReadingError)
      → IsOpenedAt p (rest.Table es) w n → keyed_members es ≡ (k, x) ∷ keyed_members fs
      → LooksKey {A = ℕ} p k (Err e) → TakesNext p w n (Err e)
  key_stuck es fs k x w n e h split (inl memory) = inl memory
  key_stuck es fs k x w n e h split (inr (none, is_fault, says)) =
      inr (is_fault, table_no_key no_list no_table p es fs k x 0 w n h split none)

  pub key_meets : (es fs : TableParts) (k : ℕ) (x : Member) (w n : ℕ) (e : ReadingError)
      → IsOpenedAt p (rest.Table es) w n → keyed_members es ≡ (k, x) ∷ keyed_members fs
      → LooksKey {A = ℕ} p k (Err e) → Blames (Meets p (word w)) e
  key_meets es fs k x w n e h split (inl memory) f = absurd (f.not_memory memory.kind_is)
  key_meets es fs k x w n e h split (inr (none, is_fault, says)) f =
      rw says (table_meets p no_list no_table es fs k x 0 w n h split none)

  -- the member that was waited for is counted
  pub awaits_puts : (r : Rest) (w n k : ℕ) (x : Member) (t : Tree) → Awaits p r w x n
      → DenMember p x t k → IsOpenedAt p r w (n + k)
  awaits_puts (rest.List ms) w n k x t h d =
      list_puts no_list no_table p ms 0 0 w n k x t h d (λ ts m. tt)
  awaits_puts (rest.Table es) w n k x t h d =
      table_puts no_list no_table p es 0 0 h.0 w n k x t h.1 d (λ ts m. tt)

  -- a collection has as many members as are to come of it
  pub open_has : (r : Rest) (w n k : ℕ) → k ≡ rest_length r → IsOpenedAt p r w n → HasLast p w k
  open_has (rest.List ms) w n k e h =
      inl (
        h.done ++ members_of ms,
        h.stands,
        omega (arith, e, length-append h.done (members_of ms)),
      )
  open_has (rest.Table es) w n k e h =
      inr (
        h.done ++ keyed_members es,
        h.stands,
        omega (arith, e, length-append h.done (keyed_members es)),
      )

  -- what is still to come of it, found anew
  pub open_again : (r r' : Rest) (w n k : ℕ) → k ≡ rest_length r → IsOpenedAt p r w n
      → AreLastMembers p w k r' → IsOpenedAt p r' w n
  open_again (rest.List ms) (rest.List ns) w n k e h f =
      let same : f.0 ≡ h.done ++ members_of ms = same_list f.1 h.stands in
      let last : members_of ns ≡ members_of ms =
      f.2 ∙ last_of h.done (members_of ms) f.0 k e same in record {
        done = h.done;
        trees = h.trees;
        stands = h.stands ∙ ap (λ ls. Some (list (h.done ++ ls))) (sym last);
        each = h.each;
        is_made = tt;
      }
  open_again (rest.Table es) (rest.Table fs) w n k e h f =
      let same : f.0 ≡ h.done ++ keyed_members es = same_entries f.1 h.stands in
      let last : keyed_members fs ≡ keyed_members es =
      f.2 ∙ last_of h.done (keyed_members es) f.0 k e same in record {
        done = h.done;
        entries = h.entries;
        stands = h.stands ∙ ap (λ ls. Some (entry_list (h.done ++ ls))) (sym last);
        each = h.each;
        is_made = tt;
      }
  open_again (rest.List ms) (rest.Table es) w n k e h f = absurd (list_entries h.stands f.1)
  open_again (rest.Table es) (rest.List ms) w n k e h f = absurd (list_entries f.1 h.stands)

  -- the member is refused
  pub awaits_refused : (r : Rest) (w n left before : ℕ) (x : Member) (d : ReadingError)
      → Awaits p r w x n → left + (1 + n) ≡ before
      → Refuses (DenMember p x) (ReachesMember p x) left d
      → Refuses (Den p w) (Reaches p w) before d
  awaits_refused r w n left before x d h e (inl m) = inl m
  awaits_refused (rest.List ms) w n left before x d h e (inr (inl (s, f))) =
      inr (inl (s, list_reaches no_list no_table p ms 0 w n left before x h e f))
  awaits_refused (rest.Table es) w n left before x d h e (inr (inl (s, f))) =
      inr (inl (s, table_reaches no_list no_table p es 0 h.0 w n left before x h.1 e f))
  awaits_refused (rest.List ms) w n left before x d h e (inr (inr (i, f))) =
      inr (inr (i, list_stuck no_list no_table p ms 0 w n left before x h e f))
  awaits_refused (rest.Table es) w n left before x d h e (inr (inr (i, f))) =
      inr (inr (i, table_stuck no_list no_table p es 0 h.0 w n left before x h.1 e f))

  pub awaits_meets : (r : Rest) (w n : ℕ) (x : Member) (g : Refusal) → Awaits p r w x n
      → Meets p x g → Meets p (word w) g
  awaits_meets (rest.List ms) w n x g h i = meets_list (members_of ms) h.stands h.each i
  awaits_meets (rest.Table es) w n x g h i =
      meets_entry (h.1).position (keyed_members es) (h.1).stands (h.1).each (h.1).keyed i

  -- one more collection, at the inner end
  path_push : {w v s : ℕ} {cs : List Outer} (c : Outer) (r : Rest) (u n : ℕ) → Path p w cs v s
      → c.word ≡ v → c.left ≡ rest_length r → Awaits p r v (word u) n
      → Path p w (cs ++ c ∷ []) u (s + (1 + n))
  path_push c r u n (path_none {w = w'}) e f h =
      let g : 1 + n + 0 ≡ 0 + (1 + n) = omega arith in
      subst (λ i. Path p w' (c ∷ []) u i) g (path_more r u n e f h path_none)
  path_push c r u n (path_more {w = w'} {s = s'} {c = c'} {cs = cs'} r' u' n' e' f' h' q) e f h =
      let g : 1 + n' + (s' + (1 + n)) ≡ 1 + n' + s' + (1 + n) = omega arith in
      subst (λ i. Path p w' (c' ∷ (cs' ++ c ∷ [])) u i) g
      (path_more r' u' n' e' f' h' (path_push c r u n q e f h))

  pub record Popped (w : ℕ) (cs : List Outer) (c : Outer) (u s : ℕ) : Type 0 where
    pub still : Rest
    pub outer : ℕ
    pub inner : ℕ
    pub path : Path p w cs c.word outer
    pub left_is : c.left ≡ rest_length still
    pub awaits : Awaits p still c.word (word u) inner
    pub sum : s ≡ outer + (1 + inner)

  -- the innermost collection
  path_pop : (w u s : ℕ) (cs : List Outer) (c : Outer) → Path p w (cs ++ c ∷ []) u s
      → Popped w cs c u s
  path_pop w u s [] c (path_more r u' n' e f h path_none) = record {
    still = r;
    outer = 0;
    inner = n';
    path = subst (λ v. Path p w [] v 0) (sym e) path_none;
    left_is = f;
    awaits = subst (λ v. Awaits p r v (word u) n') (sym e) h;
    sum = omega arith;
  }
  path_pop w u s (d ∷ cs) c (path_more {s = s'} r u' n' e f h q) =
      let i = path_pop u' u s' cs c q in
      let g : s' ≡ i.outer + (1 + i.inner) = i.sum in record {
        still = i.still;
        outer = 1 + n' + i.outer;
        inner = i.inner;
        path = path_more r u' n' e f h i.path;
        left_is = i.left_is;
        awaits = i.awaits;
        sum = omega arith;
      }

  path_empty : (w u s : ℕ) → Path p w [] u s → (w ≡ u) × (s ≡ 0)
  path_empty w u s path_none = (refl, refl)

  -- what is refused at the inner end is refused at the root
  path_refused : {w v s : ℕ} {cs : List Outer} (left before : ℕ) (d : ReadingError)
      → Path p w cs v s → left + s ≡ before → Refuses (Den p v) (Reaches p v) left d
      → Refuses (Den p w) (Reaches p w) before d
  path_refused left before d (path_none {w = w'}) e r =
      let same : left ≡ before = omega arith in
      subst (λ i. Refuses (Den p w') (Reaches p w') i d) same r
  path_refused left before d (path_more {w = w'} {s = s'} r' u' n' g f h q) e r =
      let sum : left + s' + (1 + n') ≡ before = omega arith in
      awaits_refused r' w' n' (left + s') before (word u') d h sum
      (refused_word p u' (left + s') d (path_refused left (left + s') d q refl r))

  path_meets : {w v s : ℕ} {cs : List Outer} (g : Refusal) → Path p w cs v s
      → Meets p (word v) g → Meets p (word w) g
  path_meets g path_none i = i
  path_meets g (path_more {w = w'} r u n e f h q) i =
      awaits_meets r w' n (word u) g h (path_meets g q i)

  -- the state of the count between rounds
  pub record Round (root before : ℕ) (cs : List Outer) (i : Inner) (left : ℕ) : Type 0 where
    pub outer : ℕ
    pub inner : ℕ
    pub path : Path p root cs i.word outer
    pub opened : IsOpenedAt p i.rest i.word inner
    pub paid : left + (outer + (1 + inner)) ≡ before

  -- the root is a collection
  pub counting_first : (root before left : ℕ) (i : Inner) (cs : List Outer) → cs ≡ []
      → word root ≡ word i.word → IsOpenedAt p i.rest i.word 0 → left + 1 ≡ before
      → Round root before cs i left
  counting_first root before left i cs none e h s =
      subst (λ ds. Round root before ds i left) (sym none) (record {
        outer = 0;
        inner = 0;
        path = subst (λ v. Path p root [] v 0) (same_word e) path_none;
        opened = h;
        paid = omega arith;
      })

  -- to enter a member is a step towards the end
  pub counting_enters_falls : (i j : Inner) (x : Member) (n : ℕ) (cs ds : List Outer)
      (left left' : ℕ)
      → EnteredMember p i x n cs ds left left' (Ok j)
      → 2 * left' + length ds < 2 * left + length cs
  counting_enters_falls i j x n cs ds left left' (s, inl (same, at, put)) =
      let long = ap length same in omega (arith, s, long)
  counting_enters_falls i j x n cs ds left left' (s, inr (c, keeps, more, is_word, begun)) =
      let long = ap length more in omega (arith, s, long, length-append cs (c ∷ []))

  module _ (root before : ℕ) (cs : List Outer) (i : Inner) (left : ℕ)
      (round : Round root before cs i left) where
    -- at most the budget is left
    pub counting_falls : left ≤ before
    counting_falls =
        let paid : left + (round.outer + (1 + round.inner)) ≡ before = round.paid in omega arith

    -- the innermost collection has a fault of its own
    round_stuck : (d : ReadingError) → IsFault d
        → ((k : ℕ) → DenotesNothing (Den p i.word) (Reaches p i.word) (k + (1 + round.inner)))
        → Refuses (Den p root) (Reaches p root) before d
    round_stuck d is_fault s =
        let paid : left + (round.outer + (1 + round.inner)) ≡ before = round.paid in
        let sum : left + (1 + round.inner) + round.outer ≡ before = omega arith in
        path_refused (left + (1 + round.inner)) before d round.path sum
        (inr (inr (is_fault, s left)))

    -- its next entry has no key
    pub counting_taken : (d : ReadingError) → TakesNext p i.word round.inner (Err d)
        → Refuses (Den p root) (Reaches p root) before d
    counting_taken d (inl memory) = inl memory
    counting_taken d (inr (is_fault, s)) = round_stuck d is_fault s

    -- its member is refused
    pub counting_refused : (r : Rest) (x : Member) (d : ReadingError)
        → Awaits p r i.word x round.inner → Refuses (DenMember p x) (ReachesMember p x) left d
        → Refuses (Den p root) (Reaches p root) before d
    counting_refused r x d h f =
        let paid : left + (round.outer + (1 + round.inner)) ≡ before = round.paid in
        let sum : left + (1 + round.inner) + round.outer ≡ before = omega arith in
        path_refused (left + (1 + round.inner)) before d round.path sum
        (awaits_refused r i.word round.inner left (left + (1 + round.inner)) x d h refl f)

    -- its member is entered
    pub counting_enters : (k j : Inner) (x : Member) (ds : List Outer) (left' : ℕ)
        → k.word ≡ i.word → Awaits p k.rest i.word x round.inner
        → EnteredMember p k x round.inner cs ds left left' (Ok j) → Round root before ds j left'
    counting_enters k j x ds left' at h (s, inl (same, here, put)) =
        let paid : left + (round.outer + (1 + round.inner)) ≡ before = round.paid in
        subst (λ es. Round root before es j left') (sym same) (record {
          outer = round.outer;
          inner = round.inner + 1;
          path = subst (λ v. Path p root cs v round.outer) (sym (here ∙ at)) round.path;
          opened = put;
          paid = omega arith;
        })
    counting_enters k j x ds left' at h (s, inr (c, keeps, more, is_word, begun)) =
        let paid : left + (round.outer + (1 + round.inner)) ≡ before = round.paid in
        subst (λ es. Round root before es j left') (sym more) (record {
          outer = round.outer + (1 + round.inner);
          inner = 0;
          path = path_push c k.rest j.word round.inner round.path (keeps.0 ∙ at) keeps.1
              (subst (λ m. Awaits p k.rest i.word m round.inner) is_word h);
          opened = begun;
          paid = omega arith;
        })

    -- it is the root, and ends
    pub counting_last : (t : Tree) → cs ≡ [] → Den p i.word t (1 + round.inner)
        → (n : ℕ) × Den p root t n × (left + n ≡ before)
    counting_last t none d =
        let paid : left + (round.outer + (1 + round.inner)) ≡ before = round.paid in
        let both = path_empty root i.word round.outer
        (subst (λ ds. Path p root ds i.word round.outer) none round.path) in
        let zero : round.outer ≡ 0 = both.1 in
        (1 + round.inner, subst (λ w. Den p w t (1 + round.inner)) (sym both.0) d, omega arith)

    -- it ends: the collection around it has counted one member more
    pub counting_outer : (c : Outer) (ds : List Outer) (t : Tree) → cs ≡ ds ++ c ∷ []
        → Den p i.word t (1 + round.inner)
        → (o : Popped root ds c i.word round.outer)
        × IsOpenedAt p o.still c.word (o.inner + (1 + round.inner)) × HasLast p c.word c.left
    counting_outer c ds t e d =
        let o = path_pop root i.word round.outer ds c
        (subst (λ es. Path p root es i.word round.outer) e round.path) in
        let h = awaits_puts o.still c.word o.inner (1 + round.inner) (word i.word) t o.awaits
        (den_word d) in (
          o,
          h,
          open_has o.still c.word (o.inner + (1 + round.inner)) c.left o.left_is h,
        )

    pub counting_closes : (c : Outer) (ds : List Outer) (j : Inner) (t : Tree) → cs ≡ ds ++ c ∷ []
        → Den p i.word t (1 + round.inner) → j.word ≡ c.word → AreLastMembers p c.word c.left j.rest
        → Round root before ds j left
    counting_closes c ds j t e d at h =
        let paid : left + (round.outer + (1 + round.inner)) ≡ before = round.paid in
        let r = counting_outer c ds t e d in
        let o = r.0 in
        let sum : round.outer ≡ o.outer + (1 + o.inner) = o.sum in record {
          outer = o.outer;
          inner = o.inner + (1 + round.inner);
          path = subst (λ v. Path p root ds v o.outer) (sym at) o.path;
          opened = subst (λ v. IsOpenedAt p j.rest v (o.inner + (1 + round.inner))) (sym at)
              (open_again o.still j.rest c.word (o.inner + (1 + round.inner)) c.left o.left_is
              r.1 h);
          paid = omega arith;
        }

    pub counting_meets : (g : Refusal) → Meets p (word i.word) g → Meets p (word root) g
    counting_meets g h = path_meets g round.path h
