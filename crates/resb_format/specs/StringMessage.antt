-- What is answered where no string stands.
use Rattle.std.specs.Prelude.{ℕ, List, length, nat_lt, ◌&&◌, slice_index, codes, if◌then◌else◌}
use Rattle.resb_format.specs.Error.{end_message}
use Rattle.resb_format.specs.Strings.{is_no_marker}

-- the message where no string stands at unit u: its end is looked for only where it has a first
-- unit and no marker
abbrev pub string_message : List ℕ → ℕ → List ℕ
string_message block u =
    if nat_lt u (length block) && is_no_marker (slice_index block u) then
    codes "unterminated string with implicit length"
    else end_message
