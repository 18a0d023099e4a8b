-- What stands in a text ends no earlier than it begins.
use Rattle.std.proofs.Common.{ℕ, ◌+◌, ◌≤◌, List, length, arith}
use Rattle.resb_icu_grammar.specs.Blanks.{Skip, Blanks, Comment, none, white, comment, line, block}
use Rattle.resb_icu_grammar.specs.Escapes as escapes
use Rattle.resb_icu_grammar.specs.Pieces as pieces
use Rattle.resb_icu_grammar.specs.Unquoted.{UnquotedRow, last_one, one_more}
use Rattle.resb_icu_grammar.specs.Words.{Part, a_row, quoted, Text, one_part, more_parts}
use Rattle.resb_icu_files.specs.Ways.{FileGroup, spelling}
use Rattle.resb_icu_files.specs.declared.way.Way.{Way}

-- a comment, and blanks
comment_order : (text : List ℕ) (from to : ℕ) → Comment text from to → from ≤ to
comment_order text from to (line h k r) = omega (arith, r.order)
comment_order text from to (block at h k f e) = omega (arith, f.order, e)

blanks_order : (text : List ℕ) (from to : ℕ) → Blanks text from to → from ≤ to
blanks_order text from to (none _) = omega arith
blanks_order text from to (white _ _ w b) = omega (arith, blanks_order text (from + 1) to b)
blanks_order text from to (comment _ k _ c b) =
    omega (arith, comment_order text from k c, blanks_order text k to b)

pub skip_order : (text : List ℕ) (from to : ℕ) → Skip text from to → from ≤ to
skip_order text from to s = blanks_order text from to s.blanks

-- unquoted strings in a row
row_order : (text : List ℕ) (from to : ℕ) (bytes : List ℕ) → UnquotedRow text from to bytes
    → from ≤ to
row_order text from to bytes (last_one _ _ next _ u s e) = omega (arith, u.some)
row_order text from to bytes (one_more _ mid next _ some later u w s r) =
    omega (arith, u.some, skip_order text mid next s, row_order text next to later r)

-- an escape
escape_order : (text : List ℕ) (at to : ℕ) (bytes : List ℕ) → escapes.Escape text at to bytes
    → at ≤ to
escape_order text at to bytes (escapes.itself l n m) = omega arith
escape_order text at to bytes (escapes.letter e) = omega arith
escape_order text at to bytes (escapes.four_digits c d s n) = omega arith
escape_order text at to bytes (escapes.pair high low h g e l w) = omega arith
escape_order text at to bytes (escapes.eight_digits c e h i l n) = omega arith
escape_order text at to bytes (escapes.control e l h) = omega arith
escape_order text at to bytes (escapes.short_hex c _ e s n) = omega (arith, s.some)
escape_order text at to bytes (escapes.octal c _ o n) = omega (arith, o.some)

-- quoted pieces in a row
bytes_order : (text : List ℕ) (from to : ℕ) (bytes : List ℕ)
    → pieces.QuotedBytes text from to bytes → from ≤ to
bytes_order text from to bytes (pieces.ends _ e) = omega arith
bytes_order text from to bytes (pieces.byte _ _ later l n m r) =
    omega (arith, bytes_order text (from + 1) to later r)
bytes_order text from to bytes (pieces.escape _ next _ first later e s r) =
    omega (arith, escape_order text (from + 1) next first s, bytes_order text next to later r)

piece_order : (text : List ℕ) (from to : ℕ) (bytes : List ℕ)
    → pieces.QuotedPiece text from to bytes → from ≤ to
piece_order text from to bytes q =
    omega (arith, q.ends, bytes_order text (from + 1) q.last bytes q.inside)

joined_order : (text : List ℕ) (from to : ℕ) (bytes : List ℕ) → pieces.Joined text from to bytes
    → from ≤ to
joined_order text from to bytes (pieces.last_piece _ _ next _ q s n) =
    piece_order text from to bytes q
joined_order text from to bytes (pieces.one_more _ mid next _ some later q s r) = omega (
  arith,
  piece_order text from mid some q,
  skip_order text mid next s,
  joined_order text next to later r,
)

part_order : (text : List ℕ) (from to : ℕ) (bytes : List ℕ) → Part text from to bytes → from ≤ to
part_order text from to bytes (a_row r) = row_order text from to bytes r
part_order text from to bytes (quoted j) = joined_order text from to bytes j

text_order : (text : List ℕ) (from to : ℕ) (bytes : List ℕ) → Text text from to bytes → from ≤ to
text_order text from to bytes (one_part _ _ next _ p s e) = part_order text from to bytes p
text_order text from to bytes (more_parts _ mid next _ some later p s e r) = omega (
  arith,
  part_order text from mid some p,
  skip_order text mid next s,
  text_order text next to later r,
)

-- a group that takes a file in ends behind its begin
pub group_order : (text : List ℕ) (at brace last : ℕ) (kind : Way) (name : List ℕ)
    → FileGroup text at kind brace last name → at ≤ last
group_order text at brace last kind name g = omega (
  arith,
  skip_order text (at + 1) g.place g.behind,
  skip_order text (g.place + length (spelling kind)) brace g.between,
  skip_order text (brace + 1) g.from g.before,
  text_order text g.from g.to name g.names,
  skip_order text g.to last g.after,
)
