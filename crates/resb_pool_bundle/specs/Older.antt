-- Whether a file has, among the resources that its root leads to, any of the two types that calls
-- without a pool refuse.
--     ReachesOlder p w        from the word w one comes to a word of such a type
--     FileReachesOlder pool bytes     from the file's root one does
use Rattle.std.specs.Prelude.{◌≡◌, ℕ, ◌/◌, ◌^◌, List, Option, Some, true}
use Rattle.std.specs.List.{Contains}
use Rattle.resb_format.specs.Content.{Member, word, list, entry_list, content_at}
use Rattle.resb_format.specs.Parts.{Parts}
use Rattle.resb_format.specs.Types.{is_older_type}
use Rattle.resb_head.specs.File.{root_word}
use Rattle.resb_pool_bundle.specs.Pool.{Pool, parts_with}

module _ (p : Parts) where
  -- from a word one comes to a string of the older form or to an alias: the word itself has such a
  -- type, or one comes to one from a member of the list or of the table that stands at the word
  pub data ReachesOlder : ℕ → Type 0 where
    older_here : {w : ℕ} → is_older_type (w / 2 ^ 28) ≡ true → ReachesOlder w
    older_in_list : {w v : ℕ} {ms : List Member} → content_at p w ≡ Some (list ms)
        → Contains ms (word v) → ReachesOlder v → ReachesOlder w
    older_in_entries : {w v k : ℕ} {es : List (ℕ × Member)}
        → content_at p w ≡ Some (entry_list es) → Contains es (k, word v) → ReachesOlder v
        → ReachesOlder w

-- from the root of a file beside the pool that is given, if one is, one comes to a string of the
-- older form or to an alias
abbrev pub FileReachesOlder : Option Pool → List ℕ → Type 0
FileReachesOlder pool bytes = ReachesOlder (parts_with pool bytes) (root_word bytes)
