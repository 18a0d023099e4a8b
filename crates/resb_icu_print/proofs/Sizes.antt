-- No text that is printed in ICU's form is longer than its limit.
use Rattle.std.proofs.Common.{◌≡◌, ℕ, ◌+◌, ◌*◌, ◌≤◌, Bool, true, false, List, [], ◌∷◌}
use Rattle.std.proofs.Common.{◌++◌, length, sym, subst, arith}
use Rattle.std.specs.Prelude.{cond, codes}
use Rattle.std.proofs.lemmas.List.{length-append}
use Rattle.std.specs.Char.{is_ascii_control}
use Rattle.hex.specs.Hex.{encode_lower, lower_digits}
use Rattle.hex.proofs.HexLemmas.{length-encode_with}
use Rattle.resb_tree.specs.Tree.{Tree, string, alias, array, table, binary, integer, int_vector}
use Rattle.resb_tree.specs.Tree.{Trees, no_trees, more_trees, Entries, no_entries, entry}
use Rattle.resb_tree.specs.Tree.{tree_count}
use Rattle.resb_tree.specs.Tree.{trees_count, entries_count}
use Rattle.resb_print.specs.declared.place.Place.{Place}
use Rattle.resb_print.specs.declared.place.Place.TheVariants.{InTable, InArray}
use Rattle.resb_print.specs.Held.{IsHeld, AreHeld, HeldIn}
use Rattle.resb_print.specs.Printed.{deeper, quoted_on, end_on, trees_end, entries_end}
use Rattle.resb_print.specs.Printed.{root_type_on, string_on, tree_on, trees_on, entries_on}
use Rattle.resb_print.specs.Printed.{printed_bundle}
use Rattle.resb_print.specs.Sizes.{data_length, data_lengths, data_length_in, text_limit}
use Rattle.resb_print.proofs.Sizes.{deeper_le, line_length, quoted_length}
use Rattle.resb_print.proofs.Lists.{number_length}
use Rattle.resb_print.proofs.Sizes.{numbers_length, end_length, trees_end_length}
use Rattle.resb_print.proofs.Sizes.{entries_end_length, table_length, root_type_length}
use Rattle.resb_icu_grammar.specs.Bytes.{backslash}
use Rattle.resb_icu_print.specs.Printed.{is_marked, escaped_on, inside_on}
use Rattle.resb_icu_print.specs.Printed.{is_bare, key_on, piece_on, icu_spelling}

escaped_length : (b : ℕ) (rest : List ℕ) → length (escaped_on b rest) ≤ 6 + length rest
escaped_length b rest = by (is_marked b) (is_ascii_control b)
  where
    by : (m c : Bool)
        → length (cond m (backslash ∷ b ∷ rest) (cond c (codes "\\u00" ++ (encode_lower (b ∷ [])
        ++ rest)) (b ∷ rest))) ≤ 6 + length rest
    by true c = omega arith
    by false true =
        omega (
          arith,
          length-append (encode_lower (b ∷ [])) rest,
          length-encode_with lower_digits (b ∷ []),
        )
    by false false = omega arith

inside_length : (s rest : List ℕ) → length (inside_on s rest) ≤ 6 * length s + length rest
inside_length [] rest = omega arith
inside_length (b ∷ s) rest =
    omega (arith, escaped_length b (inside_on s rest), inside_length s rest)

key_length : (k rest : List ℕ) → length (key_on k rest) ≤ length k + 2 + length rest
key_length k rest = by (is_bare k)
  where
    by : (b : Bool) → length (cond b (k ++ rest) (quoted_on k rest)) ≤ length k + 2 + length rest
    by true = omega (arith, length-append k rest)
    by false = omega (arith, quoted_length k rest)

string_length : (p : Place) (s rest : List ℕ)
    → length (string_on icu_spelling p s rest) ≤ 6 * length s + 4 + length rest
string_length InTable s rest = omega (arith, inside_length s (34 ∷ 125 ∷ rest))
string_length InArray s rest = omega (arith, inside_length s (34 ∷ 44 ∷ rest))

-- of a resource's 270, its line and the quotes of its key have 131, and 139 are for the rest
mutual
  tree_length : (p : Place) (n : ℕ) (t : Tree) (rest : List ℕ) → n ≤ 32 → IsHeld t
      → 131 + length (tree_on icu_spelling p n t rest)
      ≤ 270 * tree_count t + data_length 6 t + length rest
  tree_length p n (string s) rest h held = omega (arith, string_length p s rest)
  tree_length p n (alias s) rest h held =
      omega (arith, inside_length s (34 ∷ 125 ∷ end_on p rest), end_length p rest)
  tree_length p n (array ts) rest h held =
      let end = trees_end ts n (end_on p rest) in
      omega (
        arith,
        trees_length (deeper n) ts end (deeper_le n h) held,
        trees_end_length ts n (end_on p rest) h,
        end_length p rest,
      )
  tree_length p n (table es) rest h held =
      let end = entries_end es n (end_on p rest) in
      omega (
        arith,
        table_length es (entries_on icu_spelling (deeper n) es end),
        entries_length (deeper n) es end (deeper_le n h) held.1,
        entries_end_length es n (end_on p rest) h,
        end_length p rest,
      )
  tree_length p n (binary bs) rest h held =
      omega (
        arith,
        quoted_length (encode_lower bs) (125 ∷ end_on p rest),
        length-encode_with lower_digits bs,
        end_length p rest,
      )
  tree_length p n (integer v) rest h held =
      omega (arith, number_length v (125 ∷ end_on p rest) (omega arith), end_length p rest)
  tree_length p n (int_vector ns) rest h held =
      omega (arith, numbers_length ns (125 ∷ end_on p rest) held, end_length p rest)

  trees_length : (n : ℕ) (ts : Trees) (rest : List ℕ) → n ≤ 32 → AreHeld ts
      → length (trees_on icu_spelling n ts rest)
      ≤ 270 * trees_count ts + data_lengths 6 ts + length rest
  trees_length n no_trees rest h held = omega arith
  trees_length n (more_trees t ts) rest h held =
      omega (
        arith,
        line_length n (tree_on icu_spelling InArray n t (trees_on icu_spelling n ts rest)) h,
        tree_length InArray n t (trees_on icu_spelling n ts rest) h held.0,
        trees_length n ts rest h held.1,
      )

  entries_length : (n : ℕ) (es : Entries) (rest : List ℕ) → n ≤ 32 → HeldIn es
      → length (entries_on icu_spelling n es rest)
      ≤ 270 * entries_count es + data_length_in 6 es + length rest
  entries_length n no_entries rest h held = omega arith
  entries_length n (entry k t es) rest h held =
      let more = tree_on icu_spelling InTable n t (entries_on icu_spelling n es rest) in
      omega (
        arith,
        line_length n (key_on k more) h,
        key_length k more,
        tree_length InTable n t (entries_on icu_spelling n es rest) h held.0,
        entries_length n es rest h held.1,
      )

escaped_least : (b : ℕ) (rest : List ℕ) → 1 + length rest ≤ length (escaped_on b rest)
escaped_least b rest = by (is_marked b) (is_ascii_control b)
  where
    by : (m c : Bool)
        → 1 + length rest ≤ length (cond m (backslash ∷ b ∷ rest) (cond c (codes "\\u00"
        ++ (encode_lower (b ∷ []) ++ rest)) (b ∷ rest)))
    by true c = omega arith
    by false true = omega (arith, length-append (encode_lower (b ∷ [])) rest)
    by false false = omega arith

inside_least : (s rest : List ℕ) → length s + length rest ≤ length (inside_on s rest)
inside_least [] rest = omega arith
inside_least (b ∷ s) rest =
    omega (arith, escaped_least b (inside_on s rest), inside_least s rest)

-- a key and a string are no shorter as they are printed
pub key_grows : (k rest : List ℕ) → length k + length rest ≤ length (key_on k rest)
key_grows k rest = by (is_bare k)
  where
    by : (b : Bool) → length k + length rest ≤ length (cond b (k ++ rest) (quoted_on k rest))
    by true = omega (arith, length-append k rest)
    by false = omega (arith, quoted_length k rest)

pub piece_grows : (s rest : List ℕ) → length s ≤ length (piece_on s rest)
piece_grows s rest = omega (arith, inside_least s (34 ∷ rest))

-- no text of a bundle is longer than its limit
pub within_limit : (name : List ℕ) (fallback : Bool) (es : Entries) → HeldIn es
    → length (printed_bundle icu_spelling name fallback es) ≤ text_limit 6 name (table es)
within_limit name fallback es held =
    let last = 10 ∷ 125 ∷ 10 ∷ [] in
    let body = entries_on icu_spelling 1 es last in
    omega (
      arith,
      length-append name (root_type_on fallback (123 ∷ body)),
      root_type_length fallback (123 ∷ body),
      entries_length 1 es last (omega arith) held,
    )

-- so for what is printed
pub printed_within : (text name : List ℕ) (fallback : Bool) (es : Entries) (t : Tree)
    → text ≡ printed_bundle icu_spelling name fallback es → HeldIn es → t ≡ table es
    → length text ≤ text_limit 6 name t
printed_within text name fallback es t is held root =
    subst (λ (u : Tree). length text ≤ text_limit 6 name u) (sym root)
    (subst (λ w. length w ≤ text_limit 6 name (table es)) (sym is)
    (within_limit name fallback es held))
