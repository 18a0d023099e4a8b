-- The first fault that a reading meets, which takes the members of a collection in their order.
--     Meets p m f             a reading of the member m meets the fault f: a kind and a message
--     Blames meets e          an error that is a fault says the one that is met
use Rattle.std.specs.Prelude.{◌≡◌, ℕ, List, ◌∷◌, ◌++◌, Some, None}
use Rattle.resb_tree.specs.Tree.{Tree}
use Rattle.resb_format.specs.Content.{Member, word, unit, list, entry_list, content_at}
use Rattle.resb_format.specs.Denotes.{DenEach, DenEntries}
use Rattle.resb_format.specs.Error.{Refusal, refusal_of}
use Rattle.resb_format.specs.Parts.{Parts}
use Rattle.resb_format.specs.Lookups.{text_in, key_in, index_in}
use Rattle.resb_format.specs.declared.error.ReadingError.{ReadingError}
use Rattle.resb_walk.specs.BlockRefusals.{text_refusal_in, key_refusal_in, word_refusal}
use Rattle.resb_walk.specs.Refusals.{IsFault}

module _ (p : Parts) where
  -- a fault stands here, or it is the first in a list's members or a table's keys and members, in
  -- order
  pub data Meets : Member → Refusal → Type 0 where
    -- nothing stands there
    meets_text : {u : ℕ} → text_in p (index_in p u) ≡ None
        → Meets (unit u) (text_refusal_in p (index_in p u))
    meets_word : {w : ℕ} → content_at p w ≡ None → Meets (word w) (word_refusal p w)
    -- in a member of an array, behind members that denote
    meets_list : {w n : ℕ} {ms : List Member} {ts : List Tree} {m : Member} {f : Refusal}
        (ns : List Member)
        → content_at p w ≡ Some (list (ms ++ m ∷ ns)) → DenEach p ms ts n → Meets m f
        → Meets (word w) f
    -- in the key of an entry, behind entries that denote
    meets_key : {w n : ℕ} {es : List (ℕ × Member)} {ts : List (List ℕ × Tree)} (k : ℕ) (m : Member)
        (fs : List (ℕ × Member))
        → content_at p w ≡ Some (entry_list (es ++ (k, m) ∷ fs)) → DenEntries p es ts n
        → key_in p k ≡ None → Meets (word w) (key_refusal_in p k)
    -- in the member of an entry
    meets_entry : {w n : ℕ} {es : List (ℕ × Member)} {ts : List (List ℕ × Tree)} {m : Member}
        {key : List ℕ} {f : Refusal} (k : ℕ) (fs : List (ℕ × Member))
        → content_at p w ≡ Some (entry_list (es ++ (k, m) ∷ fs)) → DenEntries p es ts n
        → key_in p k ≡ Some key → Meets m f → Meets (word w) f

-- the error is a fault that is met, if it is one
abbrev pub Blames : (Refusal → Type 0) → ReadingError → Type 0
Blames meets e = IsFault e → meets (refusal_of e)
