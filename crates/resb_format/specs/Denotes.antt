-- Which tree a word denotes, with how many resources, and how many stand up to the first fault.
--     Den p w t n             the word w denotes the tree t, of n resources, those of overwritten
--                             entries included
--     Reaches p w n           at least n resources stand there up to the first fault
use Rattle.std.specs.Prelude.{◌≡◌, ℕ, ◌+◌, List, [], ◌∷◌, Some}
use Rattle.resb_tree.specs.Tree.{Tree, string, array, table, trees_of, map_of}
use Rattle.resb_format.specs.Lookups.{key_in, text_in, index_in}
use Rattle.resb_format.specs.Parts.{Parts}
use Rattle.resb_format.specs.Content.{Member, word, unit, leaf, list, entry_list, content_at}

module _ (p : Parts) where
  mutual
    -- a word denotes the tree of its content, each member its own and each entry's key standing at
    -- its position, with a count of resources, those of overwritten entries included; nothing else
    -- does, so that a cycle denotes nothing
    pub data Den : ℕ → Tree → ℕ → Type 0 where
      den_leaf : {w : ℕ} {t : Tree} → content_at p w ≡ Some (leaf t) → Den w t 1
      den_list : {w n : ℕ} {ms : List Member} {ts : List Tree} → content_at p w ≡ Some (list ms)
          → DenEach ms ts n → Den w (array (trees_of ts)) (1 + n)
      den_entries : {w n : ℕ} {es : List (ℕ × Member)} {ts : List (List ℕ × Tree)}
          → content_at p w ≡ Some (entry_list es) → DenEntries es ts n
          → Den w (table (map_of ts)) (1 + n)

    -- a member, which is a resource too
    pub data DenMember : Member → Tree → ℕ → Type 0 where
      den_word : {w n : ℕ} {t : Tree} → Den w t n → DenMember (word w) t n
      den_unit : {u : ℕ} {s : List ℕ} → text_in p (index_in p u) ≡ Some s
          → DenMember (unit u) (string s) 1

    -- each member has its tree; the count is the sum of theirs
    pub data DenEach : List Member → List Tree → ℕ → Type 0 where
      each_none : DenEach [] [] 0
      each_more : {m : Member} {j k : ℕ} {ms : List Member} {t : Tree} {ts : List Tree}
          → DenMember m t j → DenEach ms ts k → DenEach (m ∷ ms) (t ∷ ts) (j + k)

    -- each entry has its key and tree
    pub data DenEntries : List (ℕ × Member) → List (List ℕ × Tree) → ℕ → Type 0 where
      entries_none : DenEntries [] [] 0
      entries_more : {m : Member} {at j k : ℕ} {es : List (ℕ × Member)} {key : List ℕ} {t : Tree}
          {ts : List (List ℕ × Tree)} → key_in p at ≡ Some key → DenMember m t j
          → DenEntries es ts k → DenEntries ((at, m) ∷ es) ((key, t) ∷ ts) (j + k)

  mutual
    -- a word reaches one resource, its own; and one more than is reached in its members or entries
    -- up to the first fault
    pub data Reaches : ℕ → ℕ → Type 0 where
      reaches_one : {w : ℕ} → Reaches w 1
      reaches_list : {w n : ℕ} {ms : List Member} → content_at p w ≡ Some (list ms)
          → ReachesEach ms n
          → Reaches w (1 + n)
      reaches_entries : {w n : ℕ} {es : List (ℕ × Member)} → content_at p w ≡ Some (entry_list es)
          → ReachesEntries es n → Reaches w (1 + n)

    -- a member that is a word reaches what the word does, a string of a short collection one
    pub data ReachesMember : Member → ℕ → Type 0 where
      reaches_word : {w n : ℕ} → Reaches w n → ReachesMember (word w) n
      reaches_unit : {u : ℕ} → ReachesMember (unit u) 1

    -- so many resources are reached in one of the members, behind members that denote trees
    pub data ReachesEach : List Member → ℕ → Type 0 where
      each_here : {m : Member} {n : ℕ} {ms : List Member} → ReachesMember m n
          → ReachesEach (m ∷ ms) n
      each_later : {m : Member} {j n : ℕ} {t : Tree} {ms : List Member} → DenMember m t j
          → ReachesEach ms n → ReachesEach (m ∷ ms) (j + n)

    -- so many resources are reached in one of the entries, whose key stands, behind entries that
    -- denote
    pub data ReachesEntries : List (ℕ × Member) → ℕ → Type 0 where
      entries_here : {m : Member} {at n : ℕ} {es : List (ℕ × Member)} {key : List ℕ}
          → key_in p at ≡ Some key → ReachesMember m n → ReachesEntries ((at, m) ∷ es) n
      entries_later : {m : Member} {at j n : ℕ} {es : List (ℕ × Member)} {key : List ℕ} {t : Tree}
          → key_in p at ≡ Some key → DenMember m t j → ReachesEntries es n
          → ReachesEntries ((at, m) ∷ es) (j + n)
