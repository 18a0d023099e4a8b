-- The names of a path, as the caller in C writes it.
--     is_separator b          a path is parted by this byte, if it begins with it
--     names_in path           the names of a path
use Rattle.std.specs.Prelude.{◌==◌, ℕ, List, [], ◌∷◌, nat_lt, if◌then◌else◌}
use Rattle.std.specs.Prelude.{Bool, ◌&&◌, not}
use Rattle.std.specs.Char.{is_ascii_alphanumeric}
use Rattle.std.specs.List.{slice_split}

-- a path that begins with this byte is parted by it: one of ASCII that is no letter and no digit,
-- nor a percent sign or a low line, with which keys begin too
abbrev pub is_separator : ℕ → Bool
is_separator b = nat_lt b 128 && not (is_ascii_alphanumeric b) && not (b == 37) && not (b == 95)

-- The names of a path. The empty path has none, and leads to the root. Any other is parted by its
-- first character, if that parts paths: what stands between it and the same again is a name. A path
-- that begins with another character is parted by slashes, so that `a/b` has the names of `/a/b`.
abbrev pub names_in : List ℕ → List (List ℕ)
names_in [] = []
names_in (b ∷ bs) =
    if is_separator b then slice_split (λ byte. byte == b) bs
    else slice_split (λ byte. byte == 47) (b ∷ bs)
