-- What the laws of a pool's keys and texts say.
--     LentKeyIsTold           a position of the place where a pool has a key tells that key
--     LentTextIsRead          a text is read at the index that it has in a pool
--     OnePlace                a pool has a key first at one place
--     OneIndex                a text has one index in a pool
--     PlannedIsRead           each string is read at the index that a plan with a pool gives it
--     OnePlanWith             strings have one plan of each packing with a pool
--     lends_to p l            what a pool lends to a file of these parts, as short bodies tell it
--     KeysStand p l at        keys stand among the file's own, or in the pool
--     HeadWithPoolIsRead      a file behind a written head is one beside its pool
--     LentIsRead              what is told of keys and strings beside a pool is read back
use Rattle.std.specs.Prelude.{◌≡◌, ℕ, ◌+◌, ◌*◌, ◌%◌, ◌<◌, ◌≤◌, ◌^◌, List, ◌++◌, length, map, All}
use Rattle.std.specs.Prelude.{Option, Some, ◌⊎◌}
use Rattle.std.specs.Str.{IsUtf8}
use Rattle.resb_format.specs.Lookups.{key_in, text_in, wide_position}
use Rattle.resb_format.specs.Parts.{Parts, Lent}
use Rattle.resb_format.specs.Strings.{text_at, key_at}
use Rattle.resb_format.specs.Bytes.{units_as_bytes}
use Rattle.resb_head.specs.File.{root_word}
use Rattle.resb_pool_bundle.specs.FileWith.{IsFileWith}
use Rattle.resb_pool_bundle.specs.Pool.{Pool, parts_with}
use Rattle.resb_layout.specs.Laid.{Given, Lends}
use Rattle.resb_layout.specs.Laws.{IsRead}
use Rattle.resb_lent.specs.LentKeys.{StandsWhole, StandsFirst}
use Rattle.resb_lent.specs.LentTexts.{LentText}
use Rattle.resb_pool.specs.declared.packing.Packing.{Packing}
use Rattle.resb_lent.specs.PlanWithPool.{IsPlanWithBy, StandAt}
use Rattle.resb_lent.specs.HeadWithPool.{IsHead, head_bytes, parts_behind}
use Rattle.resb_lent.specs.declared.head_with_pool.HeadWithPool.{HeadWithPool}

-- Beside a pool, a file whose own keys have positions of 31 bits tells a key that stands whole at a
-- place of the pool's keys by a position of 32 bits, the place and 2^31, and by one of 16 bits, the
-- place counted from the end of its own keys, where 16 bits hold that.
abbrev pub LentKeyIsTold : Type 0
LentKeyIsTold =
    (p : Parts) (l : Lent) (key : List ℕ) (at : ℕ) → p.lent ≡ Some l → length p.keys ≤ 2 ^ 31
    → StandsWhole l.keys key at
    → (key_in p (wide_position (at + 2 ^ 31)) ≡ Some key)
    × (at + length p.keys < 2 ^ 16 → key_in p (at + length p.keys) ≡ Some key)

-- at the index that a text has in a pool, reading the pool's block gives just this text
abbrev pub LentTextIsRead : Type 0
LentTextIsRead =
    (block s : List ℕ) (i : ℕ) → IsUtf8 s → LentText block s i → text_at block i ≡ Some s

-- a pool has a key first at one place
abbrev pub OnePlace : Type 0
OnePlace =
    (keys key : List ℕ) (a b : ℕ) → StandsFirst keys key a → StandsFirst keys key b → a ≡ b

-- a text has one index in a pool
abbrev pub OneIndex : Type 0
OneIndex = (block s : List ℕ) (i j : ℕ) → LentText block s i → LentText block s j → i ≡ j

-- Beside the pool, a file tells each string by its index, if its 16-bit block begins with the units
-- of a plan and its limit is the plan's.
abbrev pub PlannedIsRead : Type 0
PlannedIsRead =
    (way : Packing) (p : Parts) (l : Lent) (S : List (List ℕ)) (us is rest : List ℕ)
    → All IsUtf8 S → IsPlanWithBy way l.block S us is l.limit l.short_limit → p.lent ≡ Some l
    → p.block ≡ us ++ rest
    → map (text_in p) is ≡ map Some S

-- two plans of the same strings and packing with a pool are the same
abbrev pub OnePlanWith : Type 0
OnePlanWith =
    (way : Packing) (block : List ℕ) (S : List (List ℕ)) (us vs is js : List ℕ)
    (limit other short small : ℕ)
    → IsPlanWithBy way block S us is limit short → IsPlanWithBy way block S vs js other small
    → (us ≡ vs) × (is ≡ js) × (limit ≡ other) × (short ≡ small)

-- what a pool lends to a file of these parts, as the file's short bodies tell it: its own keys end
-- where they do, and the limits are those of the parts
abbrev pub lends_to : Parts → Lent → Lends
lends_to p l =
    record { own_end = length p.keys; limit = l.limit; short_limit = l.short_limit }

-- a key that has a position is read there among the file's own keys, or its position is 2^31 and
-- the place at which it is read among the pool's
abbrev pub KeysStand : Parts → Lent → (List ℕ → Option ℕ) → Type 0
KeysStand p l position =
    (k : List ℕ) (at : ℕ) → position k ≡ Some at
    → ((at < length p.keys) × (key_at p.keys at ≡ Some k))
    ⊎ ((n : ℕ) × (at ≡ n + 2 ^ 31) × (key_at l.keys n ≡ Some k))

-- Beside the pool, a file reads back what it is given: keys that stand so, and strings at the
-- indexes of a plan with the pool whose units its 16-bit block begins with; and it reads both as 16
-- bits tell them, where they can.
abbrev pub LentIsRead : Type 0
LentIsRead =
    (way : Packing) (p : Parts) (l : Lent) (g : Given) (S : List (List ℕ)) (us is rest : List ℕ)
    → p.lent ≡ Some l → length p.keys ≤ 2 ^ 31 → KeysStand p l g.position → All IsUtf8 S
    → IsPlanWithBy way l.block S us is l.limit l.short_limit → p.block ≡ us ++ rest
    → StandAt S is g.offset → 0 < g.base → g.base % 4 ≡ 0 → IsRead p (Some (lends_to p l)) g

-- Behind a head that is written, whole words of keys, units and a tail, as many as it says, make a
-- file that can be read beside the pool whose checksum the head has: its root's word is the head's,
-- and its parts are these blocks.
abbrev pub HeadWithPoolIsRead : Type 0
HeadWithPoolIsRead =
    (h : HeadWithPool) (pool : Pool) (keys us tail : List ℕ) → IsHead h
    → h.checksum ≡ pool.checksum → length keys ≡ 4 * h.key_words
    → length us ≡ 2 * h.block_words → length tail ≡ 4 * h.tail_words → All (λ u. u < 2 ^ 16) us
    → let file = head_bytes h ++ (keys ++ (units_as_bytes us ++ tail)) in
    IsFileWith (Some pool) file × (root_word file ≡ h.root)
    × (parts_with (Some pool) file ≡ parts_behind h pool keys us tail)
