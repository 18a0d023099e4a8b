-- One fault is met, and only where nothing is denoted.
use Rattle.std.proofs.Common.{ℕ, List, ◌∷◌, ◌++◌, ◌≡◌, Some, None, refl, sym, ◌∙◌}
use Rattle.std.proofs.Common.{subst, ap}
use Rattle.resb_tree.specs.Tree.{Tree}
use Rattle.resb_format.specs.Content.{Member, word, entry_list}
use Rattle.resb_format.specs.Denotes.{DenMember, den_word, den_unit, DenEach, each_none, each_more}
use Rattle.resb_format.specs.Denotes.{DenEntries, entries_none, entries_more}
use Rattle.resb_format.specs.Error.{Refusal}
use Rattle.resb_format.specs.Parts.{Parts}
use Rattle.resb_format.specs.Lookups.{key_in}
use Rattle.resb_walk.specs.BlockRefusals.{key_refusal_in}
use Rattle.resb_walk.specs.Meets.{Meets, meets_text, meets_word, meets_list, meets_key}
use Rattle.resb_walk.specs.Meets.{meets_entry}
use Rattle.resb_walk.specs.Inner.Frames.{Waits, OpenedTable}
use Rattle.resb_walk.specs.Inner.Members.{members_of, keyed_members}
use Rattle.resb_walk.specs.declared.members.TableParts.{TableParts}
use Rattle.resb_walk.specs.declared.frame.Open.{Open}
use Rattle.resb_walk.specs.declared.frame.Waiting.{Waiting}
use Rattle.resb_walk.specs.declared.frame.Waiting.TheVariants as waiting
use Rattle.resb_walk.proofs.Chain.{Chain, chain_none, chain_more, Round}
use Rattle.resb_walk.proofs.DenotesLemmas.{none_each}
use Rattle.resb_walk.proofs.Entries.{none_entries}
use Rattle.resb_format.proofs.Denoting.{same_list, same_entries, list_entries}
use Rattle.resb_walk.proofs.Lift.{none_of_none, none_of_list, none_of_entries}
use Rattle.resb_format.proofs.Lists.{some_none}

module _ (p : Parts) where
  -- where a fault is met, nothing is denoted
  pub no_tree : {m : Member} {f : Refusal} → Meets p m f → (t : Tree) (n : ℕ) → DenMember p m t n
      → ⊥
  no_tree (meets_text e) t n (den_unit g) = some_none e g
  no_tree (meets_word e) t n (den_word d) = none_of_none p e d
  no_tree (meets_list {ms = ms'} {m = m'} ns e c h) t n (den_word d) =
      none_of_list p e (λ ts k es. none_each p ms' m' ns (no_tree h) ts k es) d
  no_tree (meets_key {es = es'} k' m fs e c g) t n (den_word d) =
      none_of_entries p e
      (λ ts j es. none_entries p es' k' m fs (λ key t i a b. some_none g a) ts j es) d
  no_tree (meets_entry {es = es'} {m = m'} k' fs e c g h) t n (den_word d) =
      none_of_entries p e
      (λ ts j es. none_entries p es' k' m' fs (λ key t i a b. no_tree h t i b) ts j es) d

  -- members that denote nothing, each behind members that do, are one
  same_member : {ms ms' : List Member} {ts ts' : List Tree} {j j' : ℕ} (m m' : Member)
      (ns ns' : List Member) → DenEach p ms ts j → DenEach p ms' ts' j'
      → ((t : Tree) (n : ℕ) → DenMember p m t n → ⊥)
      → ((t : Tree) (n : ℕ) → DenMember p m' t n → ⊥)
      → ms ++ m ∷ ns ≡ ms' ++ m' ∷ ns' → m ≡ m'
  same_member m m' ns ns' each_none each_none f g e = cc
  same_member m m' ns ns' each_none (each_more {m = x} {j = i} {t = t'} d ds) f g e =
      let same : x ≡ m = cc in absurd (f t' i (subst (λ y. DenMember p y t' i) same d))
  same_member m m' ns ns' (each_more {m = x} {j = i} {t = t'} d ds) each_none f g e =
      let same : x ≡ m' = cc in absurd (g t' i (subst (λ y. DenMember p y t' i) same d))
  same_member m m' ns ns' (each_more d ds) (each_more d' ds') f g e =
      same_member m m' ns ns' ds ds' f g cc

  -- an entry that denotes nothing
  abbrev Lacks : ℕ × Member → Type 0
  Lacks e = (key : List ℕ) (t : Tree) (n : ℕ)
      → key_in p e.0 ≡ Some key → DenMember p e.1 t n → ⊥

  -- the same of entries
  same_entry : {es es' : List (ℕ × Member)} {ts ts' : List (List ℕ × Tree)} {j j' : ℕ}
      (a b : ℕ × Member) (fs fs' : List (ℕ × Member)) → DenEntries p es ts j
      → DenEntries p es' ts' j'
      → Lacks a → Lacks b → es ++ a ∷ fs ≡ es' ++ b ∷ fs' → a ≡ b
  same_entry a b fs fs' entries_none entries_none f g e = cc
  same_entry a b fs fs' entries_none
      (entries_more {m = x} {at = i} {j = n} {key = q} {t = t'} k d ds) f g e =
      let here : ℕ × Member = (i, x) in
      let same : here ≡ a = cc in absurd (subst Lacks (sym same) f q t' n k d)
  same_entry a b fs fs' (entries_more {m = x} {at = i} {j = n} {key = q} {t = t'} k d ds)
      entries_none f g e =
      let here : ℕ × Member = (i, x) in
      let same : here ≡ b = cc in absurd (subst Lacks (sym same) g q t' n k d)
  same_entry a b fs fs' (entries_more k d ds) (entries_more k' d' ds') f g e =
      same_entry a b fs fs' ds ds' f g cc

  -- an entry without a key, or whose member meets a fault
  no_key : (k : ℕ) (m : Member) → key_in p k ≡ None → Lacks (k, m)
  no_key k m e key t n h d = some_none e h

  no_value : (k : ℕ) (m : Member) (f : Refusal) → Meets p m f → Lacks (k, m)
  no_value k m f h key t n e d = no_tree h t n d

  -- at a member one refusal is met at most
  pub one_fault : {m : Member} {f g : Refusal} → Meets p m f → Meets p m g → f ≡ g
  one_fault (meets_text e) (meets_text d) = refl
  one_fault (meets_word e) (meets_word d) = refl
  one_fault (meets_word e) (meets_list ns d c h) = absurd (some_none e d)
  one_fault (meets_word e) (meets_key k x ns d c h) = absurd (some_none e d)
  one_fault (meets_word e) (meets_entry k ns d c a h) = absurd (some_none e d)
  one_fault (meets_list ms e c h) (meets_word d) = absurd (some_none d e)
  one_fault (meets_list {m = x} ms e c h) (meets_list {m = y} {f = g'} ns d b i) =
      let same = same_member x y ms ns c b (no_tree h) (no_tree i) (same_list e d) in
      one_fault h (subst (λ z. Meets p z g') (sym same) i)
  one_fault (meets_list ms e c h) (meets_key k y ns d b i) = absurd (list_entries e d)
  one_fault (meets_list ms e c h) (meets_entry k ns d b a i) = absurd (list_entries e d)
  one_fault (meets_key j x ms e c h) (meets_word d) = absurd (some_none d e)
  one_fault (meets_key j x ms e c h) (meets_list ns d b i) = absurd (list_entries d e)
  one_fault (meets_key j x ms e c h) (meets_key k y ns d b i) =
      let same = same_entry (j, x) (k, y) ms ns c b (no_key j x h) (no_key k y i)
      (same_entries e d) in
      ap (λ z. key_refusal_in p z.0) same
  one_fault (meets_key j x ms e c h) (meets_entry {m = y} {f = g'} k ns d b a i) =
      let same = same_entry (j, x) (k, y) ms ns c b (no_key j x h) (no_value k y g' i)
      (same_entries e d) in
      absurd (some_none (subst (λ z. key_in p z.0 ≡ None) same h) a)
  one_fault (meets_entry j ms e c q h) (meets_word d) = absurd (some_none d e)
  one_fault (meets_entry j ms e c q h) (meets_list ns d b i) = absurd (list_entries d e)
  one_fault (meets_entry {m = x} {f = f'} j ms e c q h) (meets_key k y ns d b i) =
      let same = same_entry (j, x) (k, y) ms ns c b (no_value j x f' h) (no_key k y i)
      (same_entries e d) in
      absurd (some_none (subst (λ z. key_in p z.0 ≡ None) (sym same) i) q)
  one_fault (meets_entry {m = x} {f = f'} j ms e c q h)
      (meets_entry {m = y} {f = g'} k ns d b a i) =
      let same = same_entry (j, x) (k, y) ms ns c b (no_value j x f' h) (no_value k y g' i)
      (same_entries e d) in
      one_fault h (subst (λ z. Meets p z.1 g') (sym same) i)

  -- from a member to the word of its collection
  pub waits_meets : {L T : Type 0} (lists : L → List Tree → Type 0)
      (tables : T → List (List ℕ × Tree) → Type 0) (f : Waiting L T) (w n : ℕ) (x : Member)
      (g : Refusal)
      → Waits lists tables p f w x n → Meets p x g → Meets p (word w) g
  waits_meets lists tables (waiting.List rest made) w n x g h i =
      meets_list (members_of rest) h.stands h.each i
  waits_meets lists tables (waiting.Table rest made key) w n x g h i =
      meets_entry h.position (keyed_members rest) h.stands h.each h.keyed i

  pub chain_meets : {L T : Type 0} (lists : L → List Tree → Type 0)
      (tables : T → List (List ℕ × Tree) → Type 0) {w v s : ℕ} {fs : List (Waiting L T)}
      (g : Refusal)
      → Chain lists tables p w fs v s → Meets p (word v) g → Meets p (word w) g
  chain_meets lists tables g chain_none i = i
  chain_meets lists tables g (chain_more {w = w'} {f = f'} u n h c) i =
      waits_meets lists tables f' w' n (word u) g h (chain_meets lists tables g c i)

  -- the key of the next entry is at fault
  pub table_meets : {L T : Type 0} (lists : L → List Tree → Type 0)
      (tables : T → List (List ℕ × Tree) → Type 0) (rest later : TableParts) (k : ℕ) (x : Member)
      (made : T) (w n : ℕ)
      → OpenedTable lists tables p rest made w n → keyed_members rest ≡ (k, x) ∷ keyed_members later
      → key_in p k ≡ None → Meets p (word w) (key_refusal_in p k)
  table_meets lists tables rest later k x made w n h e none =
      let stands = h.stands ∙ ap (λ es. Some (entry_list (h.done ++ es))) e in
      meets_key k x (keyed_members later) stands h.each none

  pub round_meets : {L T : Type 0} (lists : L → List Tree → Type 0)
      (tables : T → List (List ℕ × Tree) → Type 0) (root before : ℕ) (fs : List (Waiting L T))
      (f : Open L T) (left : ℕ) (round : Round lists tables p root before fs f left) (g : Refusal)
      → Meets p (word round.place) g → Meets p (word root) g
  round_meets lists tables root before fs f left round g h =
      chain_meets lists tables g round.chain h
