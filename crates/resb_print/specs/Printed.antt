-- The text that a bundle is printed as in a form: one entry or item a line, indented by its level,
-- up to 32 levels. Each definition ends in `_on` that writes something before what follows it.
--     printed_bundle f name fallback es    the text of a bundle whose root has these entries
--     IsBundleText f text name fallback t
--                                     the text is that of the bundle
--     IsLongBundle f limit name fallback t
--                                     the bundle is printed as more bytes than this
--     plain_spelling                  how the plain form spells names, keys and strings
use Rattle.std.specs.Prelude.{◌≡◌, ◌<◌, ℕ, zero, suc, ◌+◌, nat_lt, Bool, true, false}
use Rattle.std.specs.Prelude.{List, [], ◌∷◌, length}
use Rattle.std.specs.Prelude.{◌++◌, codes, decimal, if◌then◌else◌}
use Rattle.std.specs.List.{list_all}
use Rattle.hex.specs.Hex.{encode_lower}
use Rattle.resb_tree.specs.Tree.{Tree, string, alias, array, table, binary, integer, int_vector}
use Rattle.resb_tree.specs.Tree.{Trees, no_trees, more_trees, Entries, no_entries, entry}
use Rattle.resb_grammar.specs.Ascii as ascii
use Rattle.resb_grammar.specs.ByteRuns.{is_word}
use Rattle.resb_print.specs.Spelling.{Spelling}
use Rattle.resb_print.specs.declared.place.Place.{Place}
use Rattle.resb_print.specs.declared.place.Place.TheVariants.{InTable, InArray}

-- the indentation one level deeper, which ends at 32 levels
abbrev pub deeper : ℕ → ℕ
deeper n = if nat_lt n 32 then n + 1 else n

-- the indentation: four spaces a level
abbrev pub indent_on : ℕ → List ℕ → List ℕ
indent_on zero rest = rest
indent_on (suc n) rest = ascii.space ∷ ascii.space ∷ ascii.space ∷ ascii.space ∷ indent_on n rest

-- a new line with its indentation
abbrev pub line_on : ℕ → List ℕ → List ℕ
line_on n rest = ascii.line_feed ∷ indent_on n rest

-- a string in quotes
abbrev pub quoted_on : List ℕ → List ℕ → List ℕ
quoted_on s rest = ascii.quote ∷ (s ++ (ascii.quote ∷ rest))

-- a string may stand without quotes: it has only letters, digits and dashes, and one at least
abbrev pub is_bare : List ℕ → Bool
is_bare [] = false
is_bare (b ∷ bs) = list_all is_word (b ∷ bs)

-- a name or key, quoted where it has to be
abbrev pub name_on : List ℕ → List ℕ → List ℕ
name_on s rest = if is_bare s then s ++ rest else quoted_on s rest

-- the plain form: names and keys stand without quotes where they may
abbrev pub plain_spelling : Spelling
plain_spelling = record { name_on = name_on; key_on = name_on; piece_on = quoted_on }

-- numbers, each behind a comma
abbrev pub more_numbers_on : List ℕ → List ℕ → List ℕ
more_numbers_on [] rest = rest
more_numbers_on (n ∷ ns) rest = ascii.comma ∷ (decimal n ++ more_numbers_on ns rest)

-- numbers with a comma between two of them
abbrev pub numbers_on : List ℕ → List ℕ → List ℕ
numbers_on [] rest = rest
numbers_on (n ∷ ns) rest = decimal n ++ more_numbers_on ns rest

-- a comma follows each item of an array
abbrev pub end_on : Place → List ℕ → List ℕ
end_on InTable rest = rest
end_on InArray rest = ascii.comma ∷ rest

-- a string: in braces behind a key, before a comma in an array
abbrev pub string_on : Spelling → Place → List ℕ → List ℕ → List ℕ
string_on f InTable s rest = ascii.left_brace ∷ f.piece_on s (ascii.right_brace ∷ rest)
string_on f InArray s rest = f.piece_on s (ascii.comma ∷ rest)

-- an alias, its path as a string is written: no text that is given in the plain form has one
abbrev pub alias_on : Spelling → Place → List ℕ → List ℕ → List ℕ
alias_on f p s rest = codes ":alias{" ++ f.piece_on s (ascii.right_brace ∷ end_on p rest)

-- the end of a collection, on a line of its own
abbrev pub close_on : ℕ → List ℕ → List ℕ
close_on n rest = line_on n (ascii.right_brace ∷ rest)

-- the end of a collection, right behind its `{` where it is empty
abbrev pub trees_end : Trees → ℕ → List ℕ → List ℕ
trees_end no_trees n rest = ascii.right_brace ∷ rest
trees_end (more_trees t ts) n rest = close_on n rest

-- the end of a table, right behind its `{` where it is empty
abbrev pub entries_end : Entries → ℕ → List ℕ → List ℕ
entries_end no_entries n rest = ascii.right_brace ∷ rest
entries_end (entry k t es) n rest = close_on n rest

-- the beginning of a table, which names its type where no entry shows it
abbrev pub table_on : Entries → List ℕ → List ℕ
table_on no_entries rest = codes ":table{" ++ rest
table_on (entry k t es) rest = ascii.left_brace ∷ rest

abbrev mutual
  -- a resource at this level
  pub tree_on : Spelling → Place → ℕ → Tree → List ℕ → List ℕ
  tree_on f p n (string s) rest = string_on f p s rest
  tree_on f p n (alias s) rest = alias_on f p s rest
  tree_on f p n (array ts) rest =
      codes ":array{" ++ trees_on f (deeper n) ts (trees_end ts n (end_on p rest))
  tree_on f p n (table es) rest =
      table_on es (entries_on f (deeper n) es (entries_end es n (end_on p rest)))
  tree_on f p n (binary bs) rest =
      codes ":bin{" ++ quoted_on (encode_lower bs) (ascii.right_brace ∷ end_on p rest)
  tree_on f p n (integer v) rest =
      codes ":int{" ++ (decimal v ++ (ascii.right_brace ∷ end_on p rest))
  tree_on f p n (int_vector ns) rest =
      codes ":intvector{" ++ numbers_on ns (ascii.right_brace ∷ end_on p rest)

  -- the items of an array
  pub trees_on : Spelling → ℕ → Trees → List ℕ → List ℕ
  trees_on f n no_trees rest = rest
  trees_on f n (more_trees t ts) rest = line_on n (tree_on f InArray n t (trees_on f n ts rest))

  -- the entries of a table
  pub entries_on : Spelling → ℕ → Entries → List ℕ → List ℕ
  entries_on f n no_entries rest = rest
  entries_on f n (entry k t es) rest =
      line_on n (f.key_on k (tree_on f InTable n t (entries_on f n es rest)))

-- the root's type, which is named where fallback is off
abbrev pub root_type_on : Bool → List ℕ → List ℕ
root_type_on true rest = rest
root_type_on false rest = codes ":table(nofallback)" ++ rest

-- the name, the root's type, and the entries between braces, each on its line
abbrev pub printed_bundle : Spelling → List ℕ → Bool → Entries → List ℕ
printed_bundle f name fallback es =
    f.name_on name (root_type_on fallback (ascii.left_brace ∷ entries_on f 1 es (ascii.line_feed ∷
    ascii.right_brace ∷ ascii.line_feed ∷ [])))

-- the text is that of a bundle of this name, flag and root, which is a table
pub record IsBundleText (f : Spelling) (text name : List ℕ) (fallback : Bool) (t : Tree)
    : Type 0 where
  pub entries : Entries
  pub root : t ≡ table entries
  pub is : text ≡ printed_bundle f name fallback entries

-- a bundle of this name, flag and root, which is a table, is printed as more bytes than this, be
-- that a text of the bundle or not
pub record IsLongBundle (f : Spelling) (limit : ℕ) (name : List ℕ) (fallback : Bool) (t : Tree)
    : Type 0 where
  pub entries : Entries
  pub root : t ≡ table entries
  pub longer : limit < length (printed_bundle f name fallback entries)
