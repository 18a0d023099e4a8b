-- What the key block of a written file is made of, and where a key stands among keys. (ICU's
-- `uresdata.h`: key block.)
--     used us ks              which keys of a list are among the used ones
--     padded (key_bytes ks)   the bytes of a block of these keys
--     position_in js k        the position of the key k among them, in bytes of the body
use Rattle.std.specs.Prelude.{ℕ, ◌+◌, List, [], ◌∷◌, ◌++◌, length, filter}
use Rattle.std.specs.Prelude.{Option, Some, None, option_map, Bool, if◌then◌else◌}
use Rattle.std.specs.List.{flat_map, list_any}
use Rattle.resb_tree.specs.Keys.{same_text}
use Rattle.resb_layout.specs.Laid.{fill, to_word}

-- the key is one of these
abbrev pub is_among : List (List ℕ) → List ℕ → Bool
is_among us k = list_any (same_text k) us

-- the keys of a list that are among the used ones, in the list's order
abbrev pub used : List (List ℕ) → List (List ℕ) → List (List ℕ)
used us ks = filter (is_among us) ks

-- each key with its zero byte
abbrev pub key_bytes : List (List ℕ) → List ℕ
key_bytes ks = flat_map (λ k. k ++ 0 ∷ []) ks

-- bytes 0xaa up to a word's boundary
abbrev pub padded : List ℕ → List ℕ
padded bytes = bytes ++ fill (to_word (length bytes))

-- how many bytes stand before the last occurrence of k among keys that stand one behind the other
abbrev pub last_place : List ℕ → List (List ℕ) → Option ℕ
last_place k [] = None
last_place k (j ∷ js) = or_here (last_place k js)
  where
    or_here : Option ℕ → Option ℕ
    or_here (Some n) = Some (length j + 1 + n)
    or_here None = if same_text k j then Some 0 else None

-- the root's word and 7 words of the index stand before the keys
abbrev pub keys_start : ℕ
keys_start = 32

-- the position of the last occurrence of k among keys that begin there
abbrev pub position_in : List (List ℕ) → List ℕ → Option ℕ
position_in js k = option_map (λ n. keys_start + n) (last_place k js)
