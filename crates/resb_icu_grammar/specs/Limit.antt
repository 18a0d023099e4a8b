-- How many bytes of memory a reading of a text in ICU's form makes, as they are counted, and a
-- limit for them. The weights are those of the plain form; but here a key is told from any other
-- string, and a table by its first key, so that each is weighed as what it is.
--     made_by w step             what a step inside the open groups adds by these weights
--     IcuMakes w text n r        a reading that has made n bytes comes there
--     IcuMadeWithin text limit   the text is read to its end, and no more than the limit is made
--     IcuMakesMore text limit    a reading comes to a token by which more than the limit is made
use Rattle.std.specs.Prelude.{◌≡◌, ℕ, suc, ◌+◌, ◌*◌, ◌<◌, ◌≤◌, Bool, true, List, [], ◌∷◌}
use Rattle.std.specs.Prelude.{length, nat_lt, if◌then◌else◌, ◌==◌, slice_index}
use Rattle.std.specs.List.{list_any}
use Rattle.resb_grammar.specs.Ascii as ascii
use Rattle.resb_tree.specs.Tree.{Tree, string, alias, binary, int_vector}
use Rattle.resb_tree.specs.Weights.{text_byte_weight}
use Rattle.resb_grammar.specs.Limit.{number_bytes, request_bytes}
use Rattle.resb_grammar.specs.declared.limit.Limit.{Limit}
use Rattle.resb_grammar.specs.declared.limit.Weights.{Weights}
use Rattle.resb_icu_grammar.specs.Kinds.{Kind, array_kind, table_kind, vector_kind}
use Rattle.resb_icu_grammar.specs.Words.{Number, Text, one_part, more_parts}
use Rattle.resb_icu_grammar.specs.Bundle.{Header, Ending}
use Rattle.resb_icu_grammar.specs.Stuck.{NumbersSoFar, none_yet, one_number}
use Rattle.resb_icu_grammar.specs.Machine.{Waiting, Standing, in_typed, behind_group, Reading}
use Rattle.resb_icu_grammar.specs.Machine.{reading_at, at_root, Move, string_member, key_of_entry}
use Rattle.resb_icu_grammar.specs.Machine.{group_opens, type_opens, untyped_string, leaf_follows}
use Rattle.resb_icu_grammar.specs.Machine.{begins_with_string, begins_with_key, Comes, here, moves}
use Rattle.resb_icu_grammar.specs.Machine.{leaves}

-- a string or an alias: a group, and 3 for each byte
abbrev pub string_bytes : Weights → List ℕ → ℕ
string_bytes w s = w.group + text_byte_weight * length s

-- a string of one part that stands between these places is put together: a quoted one where it
-- takes more of the text than what it says and two quotes, unquoted ones where they say a blank
abbrev pub is_put_together : List ℕ → ℕ → ℕ → List ℕ → Bool
is_put_together text from to s =
    if slice_index text from == ascii.quote then nat_lt (from + length s + 2) to
    else list_any (λ b. b == ascii.space) s

-- a string is put together: of one part as said, of several always
abbrev pub is_joined : {text : List ℕ} {from to : ℕ} {s : List ℕ} → Text text from to s → Bool
is_joined {text} (one_part from to next s part after alone) = is_put_together text from to s
is_joined (more_parts from mid next to s later part after more rest) = true

-- the memory that is asked for a string: 32, and 1 for each byte, where it is put together; else
-- none
abbrev pub joining_bytes : {text : List ℕ} {from to : ℕ} {s : List ℕ} → Text text from to s → ℕ
joining_bytes {text} {from} {to} {s} t = if is_joined t then request_bytes + length s else 0

-- the key of an entry: the entry, and 3 for each byte
abbrev pub key_bytes : Weights → List ℕ → ℕ
key_bytes w k = w.entry + text_byte_weight * length k

-- the key behind these entries: where there are none, the table that it begins as well
abbrev pub next_key_bytes : Weights → List (List ℕ × Tree) → List ℕ → ℕ
next_key_bytes w [] k = w.table + key_bytes w k
next_key_bytes w (e ∷ es) k = key_bytes w k

-- a byte of a binary: itself and its two digits, whether these are put together or not
abbrev pub binary_byte_weight : ℕ
binary_byte_weight = 3

-- a group that holds neither members nor entries, with its `}`: the group; for all but a number 32
-- for the memory that is asked for it, put together or not; and 4 for each byte of a string or a
-- path, 8 for each number of a vector, 3 for each byte of a binary
abbrev pub leaf_bytes : Weights → Tree → ℕ
leaf_bytes w (string s) = string_bytes w s + request_bytes + length s
leaf_bytes w (alias s) = string_bytes w s + request_bytes + length s
leaf_bytes w (binary s) = w.group + request_bytes + binary_byte_weight * length s
leaf_bytes w (int_vector ns) = w.group + request_bytes + number_bytes * length ns
leaf_bytes w _ = w.group

-- a type and its `{`: the group, for an array or a table
abbrev pub opening_bytes : Weights → Kind → ℕ
opening_bytes w array_kind = w.group
opening_bytes w table_kind = w.group
opening_bytes w _ = 0

-- what a step adds: a group for the `{` of one without a type, of an array and of a table; a group
-- for a string among members, and 3 bytes for each of its own; those 3 alone for the string that
-- such a group without a type is; for either 32 more, and 1 for each byte, where it is put
-- together; an entry for a key, which never is, and 3 for each of its bytes, and a table more for
-- the first key of one; and for a group of another type, up to its `}`, what it holds
abbrev pub made_by : Weights → {text : List ℕ} {ws : List Waiting} {ks : List (List ℕ)}
    {s : Standing} {at : ℕ} {r : Reading} → Move text ws ks s at r → ℕ
made_by w (string_member last ts at i j s alone stands after) =
    string_bytes w s + joining_bytes stands
made_by w (key_of_entry es at i j k stands after) = next_key_bytes w es k
made_by w (group_opens at i opens after) = w.group
made_by w (type_opens at i kind opens) = opening_bytes w kind
made_by w (untyped_string at i j s stands after closes) =
    text_byte_weight * length s + joining_bytes stands
made_by w (begins_with_string at i j s stands after comma) =
    string_bytes w s + joining_bytes stands
made_by w (begins_with_key at i j k stands after begins) = next_key_bytes w [] k
made_by w (leaf_follows kind at to t content closes) = leaf_bytes w t
made_by w _ = 0

-- what some steps add up to
abbrev pub made_on_the_way : Weights → {text : List ℕ} {from r : Reading} → Comes text from r → ℕ
made_on_the_way w (here r) = 0
made_on_the_way w (moves from r ws ks s at comes step) = made_on_the_way w comes + made_by w step
made_on_the_way w (leaves from r ws ks t at comes step) = made_on_the_way w comes

-- a reading that has made so many bytes comes there: a group is made by the `{` of the root, all
-- else by the steps from its first entry on
pub record IcuMakes (w : Weights) (text : List ℕ) (bytes : ℕ) (r : Reading) : Type 0 where
  pub name : List ℕ
  pub fallback : Bool
  pub first : ℕ
  pub header : Header text name fallback first
  pub comes : Comes text (at_root first) r
  pub sum : bytes ≡ w.group + made_on_the_way w comes

-- the text is read to its end, and no more bytes than the limit are made
pub record IcuMadeWithin (text : List ℕ) (limit : Limit) : Type 0 where
  pub tree : Tree
  pub places : List (List ℕ)
  pub end : ℕ
  pub bytes : ℕ
  pub made : IcuMakes limit.weights text bytes (reading_at [] places (behind_group tree) end)
  pub after : Ending text end
  pub within : bytes ≤ limit.bytes

-- how many numbers these are
abbrev pub count_so_far : {text : List ℕ} {from to : ℕ} → NumbersSoFar text from to → ℕ
count_so_far (none_yet at) = 0
count_so_far (one_number from at i j to v before stands skip comma after) =
    suc (count_so_far before)

-- a reading comes to a token that may stand there, by which more bytes than the limit are made
pub data IcuMakesMore (text : List ℕ) (limit : Limit) : Type 0 where
  -- the `{` of the root
  by_the_root : (name : List ℕ) (fallback : Bool) (first : ℕ) → Header text name fallback first
      → limit.bytes < limit.weights.group → IcuMakesMore text limit
  -- a step inside the open groups
  by_a_step : (bytes : ℕ) (ws : List Waiting) (ks : List (List ℕ)) (s : Standing) (at : ℕ)
      (r : Reading) → IcuMakes limit.weights text bytes (reading_at ws ks s at)
      → (step : Move text ws ks s at r) → limit.bytes < bytes + made_by limit.weights step
      → IcuMakesMore text limit
  -- a number of a vector, whatever follows it: 8 bytes for each up to that
  by_a_number : (bytes : ℕ) (ws : List Waiting) (ks : List (List ℕ)) (from at to v : ℕ)
      → IcuMakes limit.weights text bytes (reading_at ws ks (in_typed vector_kind) from)
      → (before : NumbersSoFar text from at) → Number text at to v
      → limit.bytes < bytes + number_bytes * suc (count_so_far before) → IcuMakesMore text limit
