-- No printed text is longer than its limit.
use Rattle.std.proofs.Common.{◌≡◌, ℕ, zero, suc, ◌+◌, ◌*◌, ◌^◌, ◌≤◌, Bool, true, false, List}
use Rattle.std.proofs.Common.{[], ◌∷◌, ◌++◌, length, sym, subst, arith}
use Rattle.std.specs.Prelude.{cond}
use Rattle.std.proofs.lemmas.Bool.Decides.{nat_tests}
use Rattle.std.proofs.lemmas.List.{length-append}
use Rattle.hex.specs.Hex.{encode_lower, lower_digits}
use Rattle.hex.proofs.HexLemmas.{length-encode_with}
use Rattle.resb_tree.specs.Tree.{Tree, string, alias, array, table, binary, integer, int_vector}
use Rattle.resb_tree.specs.Tree.{Trees, no_trees, more_trees, Entries, no_entries, entry}
use Rattle.resb_tree.specs.Tree.{tree_count}
use Rattle.resb_tree.specs.Tree.{trees_count, entries_count}
use Rattle.resb_print.specs.declared.place.Place.{Place}
use Rattle.resb_print.specs.declared.place.Place.TheVariants.{InTable, InArray}
use Rattle.resb_print.specs.Held.{AreBelow, IsHeld, AreHeld, HeldIn}
use Rattle.resb_print.specs.Printed.{deeper, indent_on, line_on, quoted_on, is_bare, name_on}
use Rattle.resb_print.specs.Printed.{more_numbers_on, numbers_on, end_on, string_on}
use Rattle.resb_print.specs.Printed.{trees_end, entries_end, table_on, tree_on, trees_on}
use Rattle.resb_print.specs.Printed.{entries_on, root_type_on, printed_bundle, plain_spelling}
use Rattle.resb_print.specs.Sizes.{data_length, data_lengths, data_length_in, text_limit}
use Rattle.resb_print.proofs.Lists.{number_length}

-- one level deeper than a level up to 32 is such a level too
pub deeper_le : (n : ℕ) → n ≤ 32 → deeper n ≤ 32
deeper_le n h = grind (arith, nat_tests)

-- each level of an indentation takes four bytes
pub indent_length : (n : ℕ) (rest : List ℕ) → length (indent_on n rest) ≡ 4 * n + length rest
indent_length zero rest = omega arith
indent_length (suc n) rest = omega (arith, indent_length n rest)

-- a line feed and an indentation take 129 bytes at most
pub line_length : (n : ℕ) (rest : List ℕ) → n ≤ 32 → length (line_on n rest) ≤ 129 + length rest
line_length n rest h = omega (arith, indent_length n rest)

-- a text between quotes takes two bytes more
pub quoted_length : (s rest : List ℕ) → length (quoted_on s rest) ≡ length s + 2 + length rest
quoted_length s rest = omega (arith, length-append s (34 ∷ rest))

name_length : (s rest : List ℕ) → length (name_on s rest) ≤ length s + 2 + length rest
name_length s rest = by (is_bare s)
  where
    by : (b : Bool) → length (cond b (s ++ rest) (quoted_on s rest)) ≤ length s + 2 + length rest
    by true = omega (arith, length-append s rest)
    by false = omega (arith, quoted_length s rest)

more_numbers_length : (ns rest : List ℕ) → AreBelow (2 ^ 32) ns
    → length (more_numbers_on ns rest) ≤ 11 * length ns + length rest
more_numbers_length [] rest h = omega arith
more_numbers_length (n ∷ ns) rest h =
    omega (
      arith,
      number_length n (more_numbers_on ns rest) (h 0 (omega arith)),
      more_numbers_length ns rest (λ k l. h (suc k) (omega arith)),
    )

-- numbers take 11 bytes each at most, with a comma
pub numbers_length : (ns rest : List ℕ) → AreBelow (2 ^ 32) ns
    → length (numbers_on ns rest) ≤ 11 * length ns + length rest
numbers_length [] rest h = omega arith
numbers_length (n ∷ ns) rest h =
    omega (
      arith,
      number_length n (more_numbers_on ns rest) (h 0 (omega arith)),
      more_numbers_length ns rest (λ k l. h (suc k) (omega arith)),
    )

-- what ends a resource takes one byte at most
pub end_length : (p : Place) (rest : List ℕ) → length (end_on p rest) ≤ 1 + length rest
end_length InTable rest = omega arith
end_length InArray rest = omega arith

string_length : (p : Place) (s rest : List ℕ)
    → length (string_on plain_spelling p s rest) ≤ length s + 4 + length rest
string_length InTable s rest = omega (arith, quoted_length s (125 ∷ rest))
string_length InArray s rest = omega (arith, quoted_length s (44 ∷ rest))

-- what ends an array takes 130 bytes at most
pub trees_end_length : (ts : Trees) (n : ℕ) (rest : List ℕ) → n ≤ 32
    → length (trees_end ts n rest) ≤ 130 + length rest
trees_end_length no_trees n rest h = omega arith
trees_end_length (more_trees t ts) n rest h = omega (arith, line_length n (125 ∷ rest) h)

-- what ends a table takes 130 bytes at most
pub entries_end_length : (es : Entries) (n : ℕ) (rest : List ℕ) → n ≤ 32
    → length (entries_end es n rest) ≤ 130 + length rest
entries_end_length no_entries n rest h = omega arith
entries_end_length (entry k t es) n rest h = omega (arith, line_length n (125 ∷ rest) h)

-- a table's type takes 7 bytes at most
pub table_length : (es : Entries) (rest : List ℕ) → length (table_on es rest) ≤ 7 + length rest
table_length no_entries rest = omega arith
table_length (entry k t es) rest = omega arith

-- of a resource's 270, its line and the quotes of its key have 131, and 139 are for the rest
mutual
  tree_length : (p : Place) (n : ℕ) (t : Tree) (rest : List ℕ) → n ≤ 32 → IsHeld t
      → 131 + length (tree_on plain_spelling p n t rest)
      ≤ 270 * tree_count t + data_length 1 t + length rest
  tree_length p n (string s) rest h held = omega (arith, string_length p s rest)
  tree_length p n (alias s) rest h held =
      omega (arith, quoted_length s (125 ∷ end_on p rest), end_length p rest)
  tree_length p n (array ts) rest h held =
      let end = trees_end ts n (end_on p rest) in
      omega (
        arith,
        trees_length (deeper n) ts end (deeper_le n h) held,
        trees_end_length ts n (end_on p rest) h,
        end_length p rest,
      )
  tree_length p n (table es) rest h held =
      let end = entries_end es n (end_on p rest) in
      omega (
        arith,
        table_length es (entries_on plain_spelling (deeper n) es end),
        entries_length (deeper n) es end (deeper_le n h) held.1,
        entries_end_length es n (end_on p rest) h,
        end_length p rest,
      )
  tree_length p n (binary bs) rest h held =
      omega (
        arith,
        quoted_length (encode_lower bs) (125 ∷ end_on p rest),
        length-encode_with lower_digits bs,
        end_length p rest,
      )
  tree_length p n (integer v) rest h held =
      omega (arith, number_length v (125 ∷ end_on p rest) (omega arith), end_length p rest)
  tree_length p n (int_vector ns) rest h held =
      omega (arith, numbers_length ns (125 ∷ end_on p rest) held, end_length p rest)

  trees_length : (n : ℕ) (ts : Trees) (rest : List ℕ) → n ≤ 32 → AreHeld ts
      → length (trees_on plain_spelling n ts rest)
      ≤ 270 * trees_count ts + data_lengths 1 ts + length rest
  trees_length n no_trees rest h held = omega arith
  trees_length n (more_trees t ts) rest h held =
      omega (
        arith,
        line_length n (tree_on plain_spelling InArray n t (trees_on plain_spelling n ts rest)) h,
        tree_length InArray n t (trees_on plain_spelling n ts rest) h held.0,
        trees_length n ts rest h held.1,
      )

  entries_length : (n : ℕ) (es : Entries) (rest : List ℕ) → n ≤ 32 → HeldIn es
      → length (entries_on plain_spelling n es rest)
      ≤ 270 * entries_count es + data_length_in 1 es + length rest
  entries_length n no_entries rest h held = omega arith
  entries_length n (entry k t es) rest h held =
      let more = tree_on plain_spelling InTable n t (entries_on plain_spelling n es rest) in
      omega (
        arith,
        line_length n (name_on k more) h,
        name_length k more,
        tree_length InTable n t (entries_on plain_spelling n es rest) h held.0,
        entries_length n es rest h held.1,
      )

-- a name and a string are no shorter as they are printed
pub name_grows : (s rest : List ℕ) → length s + length rest ≤ length (name_on s rest)
name_grows s rest = by (is_bare s)
  where
    by : (b : Bool) → length s + length rest ≤ length (cond b (s ++ rest) (quoted_on s rest))
    by true = omega (arith, length-append s rest)
    by false = omega (arith, quoted_length s rest)

pub quoted_grows : (s rest : List ℕ) → length s ≤ length (quoted_on s rest)
quoted_grows s rest = omega (arith, quoted_length s rest)

-- the type of a root takes 18 bytes at most
pub root_type_length : (f : Bool) (rest : List ℕ) → length (root_type_on f rest) ≤ 18 + length rest
root_type_length true rest = omega arith
root_type_length false rest = omega arith

-- no text of a bundle is longer than its limit
pub within_limit : (name : List ℕ) (fallback : Bool) (es : Entries) → HeldIn es
    → length (printed_bundle plain_spelling name fallback es) ≤ text_limit 1 name (table es)
within_limit name fallback es held =
    let last = 10 ∷ 125 ∷ 10 ∷ [] in
    let body = entries_on plain_spelling 1 es last in
    omega (
      arith,
      name_length name (root_type_on fallback (123 ∷ body)),
      root_type_length fallback (123 ∷ body),
      entries_length 1 es last (omega arith) held,
    )

-- so for what is printed
pub printed_within : (text name : List ℕ) (fallback : Bool) (es : Entries) (t : Tree)
    → text ≡ printed_bundle plain_spelling name fallback es → HeldIn es → t ≡ table es
    → length text ≤ text_limit 1 name t
printed_within text name fallback es t is held root =
    subst (λ (u : Tree). length text ≤ text_limit 1 name u) (sym root)
    (subst (λ w. length w ≤ text_limit 1 name (table es)) (sym is)
    (within_limit name fallback es held))
