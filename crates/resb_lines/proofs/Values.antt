-- What each kind of resource writes at once, and what it leaves.
use Rattle.std.specs.Prelude.{◌≡◌, ℕ, ◌+◌, List, [], ◌∷◌, ◌++◌, length, drop, slice_get}
use Rattle.std.specs.Prelude.{Bool, true, false, codes, decimal, nat_lt, Some, None}
use Rattle.std.specs.declared.alloc.Global.{Global}
use Rattle.std.specs.declared.string.String.{String}
use Rattle.std.specs.String.{string_bytes}
use Rattle.std.proofs.Common.{refl, sym, ap, subst, ◌∙◌, ◌<◌, ◌/◌, ◌%◌, arith, suc, zero}
use Rattle.std.proofs.Common.{slice_index}
use Rattle.std.proofs.lemmas.Bool.Decides.{nat_tests}
use Rattle.std.proofs.lemmas.Option.{none-some, same_Some}
use Rattle.std.proofs.Math.Seq.{drop-nil}
use Rattle.hex.specs.Hex.{encode_lower, encode_with, lower_digits}
use Rattle.resb_grammar.specs.Ascii as ascii
use Rattle.resb_print.specs.Inner.Appends.{Appends}
use Rattle.resb_print.specs.Printed.{deeper, end_on, more_numbers_on}
use Rattle.resb_print.specs.declared.place.Place.{Place}
use Rattle.resb_shown.specs.Shown.{text_in, numbers_in}
use Rattle.resb_tree.specs.Tree.{Tree, string, alias, array, table, binary, integer, int_vector}
use Rattle.resb_tree.specs.Tree.{Trees, no_trees, more_trees, Entries, no_entries, entry}
use Rattle.resb_print.specs.Spelling.{Spelling}
use Rattle.resb_print.specs.Printed.{alias_on, string_on, tree_on}
use Rattle.resb_lines.specs.Lines.{end_line_on}
use Rattle.resb_lines.specs.Inner.Jobs.{Job, entry_job, member_job, value_job}
use Rattle.resb_lines.specs.Inner.Jobs.{entries_job, members_job, numbers_job, digits_job}
use Rattle.resb_lines.specs.Inner.Jobs.{comma_on, numbers_left, DoesJob}
use Rattle.resb_lines.proofs.Jobs.{does, does_all}

-- what stands from a place on, where a number stands there, and where none does
number_next : (ns : List ℕ) (at n : ℕ) → slice_get ns at ≡ Some n
    → drop at ns ≡ n ∷ drop (suc at) ns
number_next [] at n e = absurd (none-some n e)
number_next (m ∷ ns) zero n e = ap (λ x. x ∷ ns) (same_Some m n e)
number_next (m ∷ ns) (suc at) n e = number_next ns at n e

number_none : (ns : List ℕ) (at : ℕ) → slice_get ns at ≡ None → drop at ns ≡ []
number_none [] at e = drop-nil at
number_none (m ∷ ns) zero e = absurd (none-some m (sym e))
number_none (m ∷ ns) (suc at) e = number_none ns at e

none_left : (later : Bool) (rest : List ℕ) → numbers_left later [] rest ≡ rest
none_left true rest = refl
none_left false rest = refl

one_left : (later : Bool) (n : ℕ) (ns rest : List ℕ)
    → numbers_left later (n ∷ ns) rest ≡ comma_on later (decimal n ++ more_numbers_on ns rest)
one_left true n ns rest = refl
one_left false n ns rest = refl

-- hex digits of bytes behind others
digits_behind : (xs ys rest : List ℕ)
    → encode_lower (xs ++ ys) ++ rest ≡ encode_lower xs ++ (encode_lower ys ++ rest)
unfolding encode_with
digits_behind [] ys rest = refl
digits_behind (x ∷ xs) ys rest =
    ap (λ l. slice_index lower_digits (x / 16) ∷ slice_index lower_digits (x % 16) ∷ l)
    (digits_behind xs ys rest)

module _ (f : Spelling) (old new : String Global) (before after : List Job) (p : Place) (n : ℕ)
  where
    -- a job of the tree, where that of its value is known
    pub as_tree : (t u : Tree) → t ≡ u → DoesJob f old new before after (value_job p n u)
        → DoesJob f old new before after (value_job p n t)
    as_tree t u e d = subst (λ x. DoesJob f old new before after (value_job p n x)) (sym e) d

    pub value_string : (t : Tree) (s : List ℕ) → t ≡ string s
        → Appends old new (string_on f p (text_in t)) → after ≡ before
        → DoesJob f old new before after (value_job p n t)
    value_string t s e w a =
        as_tree t (string s) e
        (does_all f old new (string_on f p s) before after (value_job p n (string s))
        (subst (λ x. Appends old new (string_on f p (text_in x))) e w) a (λ rest. refl)
        (omega arith))

    pub value_alias : (t : Tree) (s : List ℕ) → t ≡ alias s
        → Appends old new (alias_on f p (text_in t)) → after ≡ before
        → DoesJob f old new before after (value_job p n t)
    value_alias t s e w a =
        as_tree t (alias s) e
        (does_all f old new (alias_on f p s) before after (value_job p n (alias s))
        (subst (λ x. Appends old new (alias_on f p (text_in x))) e w) a (λ rest. refl)
        (omega arith))

    pub value_binary : (t : Tree) (bytes : List ℕ) → t ≡ binary bytes
        → Appends old new (λ rest. codes ":bin{\"" ++ rest)
        → after ≡ before ++ digits_job p bytes ∷ []
        → DoesJob f old new before after (value_job p n t)
    value_binary t bytes e w a =
        as_tree t (binary bytes) e
        (does f old new (λ rest. codes ":bin{\"" ++ rest) before after (digits_job p bytes ∷ [])
        (value_job p n (binary bytes)) w a (λ rest. refl) (omega arith))

    pub value_integer : (t : Tree) (v : ℕ) → t ≡ integer v
        → Appends old new (tree_on f p n (integer v)) → after ≡ before
        → DoesJob f old new before after (value_job p n t)
    value_integer t v e w a =
        as_tree t (integer v) e
        (does_all f old new (tree_on f p n (integer v)) before after (value_job p n (integer v)) w a
        (λ rest. refl) (omega arith))

    pub value_vector : (t : Tree) (ns : List ℕ) → t ≡ int_vector ns
        → Appends old new (λ rest. codes ":intvector{" ++ rest)
        → after ≡ before ++ numbers_job p false (numbers_in t) ∷ []
        → DoesJob f old new before after (value_job p n t)
    value_vector t ns e w a =
        as_tree t (int_vector ns) e
        (does f old new (λ rest. codes ":intvector{" ++ rest) before after
        (numbers_job p false ns ∷ []) (value_job p n (int_vector ns)) w
        (a ∙ ap (λ x. before ++ numbers_job p false (numbers_in x) ∷ []) e) (λ rest. refl)
        (omega arith))

    -- an array or a table without anything inside
    pub array_empty : (ts : Trees) → ts ≡ no_trees
        → Appends old new (λ rest. codes ":array{" ++ (ascii.right_brace ∷ end_on p rest))
        → after ≡ before → DoesJob f old new before after (value_job p n (array ts))
    array_empty ts e w a =
        as_tree (array ts) (array no_trees) (ap array e)
        (does_all f old new (λ rest. codes ":array{" ++ (ascii.right_brace ∷ end_on p rest)) before
        after (value_job p n (array no_trees)) w a (λ rest. refl) (omega arith))

    pub table_empty : (es : Entries) → es ≡ no_entries
        → Appends old new (λ rest. codes ":table{}" ++ end_on p rest)
        → after ≡ before → DoesJob f old new before after (value_job p n (table es))
    table_empty es e w a =
        as_tree (table es) (table no_entries) (ap table e)
        (does_all f old new (λ rest. codes ":table{}" ++ end_on p rest) before after
        (value_job p n (table no_entries)) w a (λ rest. refl) (omega arith))

    -- and with something inside, whose first one is put
    pub array_more : (ts left : Trees) (t : Tree) → ts ≡ more_trees t left
        → Appends old new (λ rest. codes ":array{" ++ rest)
        → after ≡ before ++ members_job p n left ∷ member_job (deeper n) t ∷ []
        → DoesJob f old new before after (value_job p n (array ts))
    array_more ts left t e w a =
        as_tree (array ts) (array (more_trees t left)) (ap array e)
        (does f old new (λ rest. codes ":array{" ++ rest) before after
        (members_job p n left ∷ member_job (deeper n) t ∷ [])
        (value_job p n (array (more_trees t left))) w a (λ rest. refl) (omega arith))

    pub table_more : (es left : Entries) (k : List ℕ) (t : Tree) → es ≡ entry k t left
        → Appends old new (λ rest. codes "{" ++ rest)
        → after ≡ before ++ entries_job p n left ∷ entry_job (deeper n) k t ∷ []
        → DoesJob f old new before after (value_job p n (table es))
    table_more es left k t e w a =
        as_tree (table es) (table (entry k t left)) (ap table e)
        (does f old new (λ rest. codes "{" ++ rest) before after
        (entries_job p n left ∷ entry_job (deeper n) k t ∷ [])
        (value_job p n (table (entry k t left))) w a (λ rest. refl) (omega arith))

    -- the end of a collection
    pub members_end : (ts : Trees) → ts ≡ no_trees → Appends old new (end_line_on n p)
        → after ≡ before → DoesJob f old new before after (members_job p n ts)
    members_end ts e w a =
        subst (λ x. DoesJob f old new before after (members_job p n x)) (sym e)
        (does_all f old new (end_line_on n p) before after (members_job p n no_trees) w a
        (λ rest. refl) (omega arith))

    pub entries_end : (es : Entries) → es ≡ no_entries → Appends old new (end_line_on n p)
        → after ≡ before → DoesJob f old new before after (entries_job p n es)
    entries_end es e w a =
        subst (λ x. DoesJob f old new before after (entries_job p n x)) (sym e)
        (does_all f old new (end_line_on n p) before after (entries_job p n no_entries) w a
        (λ rest. refl) (omega arith))

    -- what comes next of it is put
    pub members_next : (ts left : Trees) (t : Tree) → ts ≡ more_trees t left → new ≡ old
        → after ≡ before ++ members_job p n left ∷ member_job (deeper n) t ∷ []
        → DoesJob f old new before after (members_job p n ts)
    members_next ts left t e w a =
        subst (λ x. DoesJob f old new before after (members_job p n x)) (sym e)
        (does f old new (λ rest. rest) before after
        (members_job p n left ∷ member_job (deeper n) t ∷ []) (members_job p n (more_trees t left))
        (λ rest. ap (λ s. string_bytes s ++ rest) w) a (λ rest. refl) (omega arith))

    pub entries_next : (es left : Entries) (k : List ℕ) (t : Tree) → es ≡ entry k t left → new ≡ old
        → after ≡ before ++ entries_job p n left ∷ entry_job (deeper n) k t ∷ []
        → DoesJob f old new before after (entries_job p n es)
    entries_next es left k t e w a =
        subst (λ x. DoesJob f old new before after (entries_job p n x)) (sym e)
        (does f old new (λ rest. rest) before after
        (entries_job p n left ∷ entry_job (deeper n) k t ∷ []) (entries_job p n (entry k t left))
        (λ rest. ap (λ s. string_bytes s ++ rest) w) a (λ rest. refl) (omega arith))

    pub numbers_end : (later : Bool) (ns : List ℕ) (at : ℕ) → None ≡ slice_get ns at
        → Appends old new (λ rest. ascii.right_brace ∷ end_on p rest) → after ≡ before
        → DoesJob f old new before after (numbers_job p later (drop at ns))
    numbers_end later ns at e w a =
        does_all f old new (λ rest. ascii.right_brace ∷ end_on p rest) before after
        (numbers_job p later (drop at ns)) w a
        (λ rest. ap (λ l. numbers_left later l (ascii.right_brace ∷ end_on p rest))
        (number_none ns at (sym e)) ∙ none_left later (ascii.right_brace ∷ end_on p rest))
        (omega arith)

    pub numbers_next : (later : Bool) (ns : List ℕ) (at m : ℕ) → Some m ≡ slice_get ns at
        → Appends old new (λ rest. comma_on later (decimal m ++ rest))
        → after ≡ before ++ numbers_job p (nat_lt 0 (at + 1)) (drop (at + 1) ns) ∷ []
        → DoesJob f old new before after (numbers_job p later (drop at ns))
    numbers_next later ns at m e w a =
        let left = drop (suc at) ns in
        let next : drop at ns ≡ m ∷ left = number_next ns at m (sym e) in
        let more : at + 1 ≡ suc at = omega arith in
        let some : nat_lt 0 (at + 1) ≡ true = grind (arith, nat_tests) in
        does f old new (λ rest. comma_on later (decimal m ++ rest)) before after
        (numbers_job p true left ∷ []) (numbers_job p later (drop at ns)) w
        (a ∙ (λ i. before ++ numbers_job p (some i) (drop (more i) ns) ∷ []))
        (λ rest. ap (λ l. numbers_left later l (ascii.right_brace ∷ end_on p rest)) next
        ∙ one_left later m left (ascii.right_brace ∷ end_on p rest))
        (omega (arith, ap length next))

    -- the end of a binary, and the digits of its next bytes
    pub digits_end : (bytes : List ℕ) → bytes ≡ []
        → Appends old new (λ rest. codes "\"}" ++ end_on p rest) → after ≡ before
        → DoesJob f old new before after (digits_job p bytes)
    unfolding encode_with
    digits_end bytes e w a =
        subst (λ x. DoesJob f old new before after (digits_job p x)) (sym e)
        (does_all f old new (λ rest. codes "\"}" ++ end_on p rest) before after (digits_job p []) w
        a (λ rest. refl) (omega arith))

    pub digits_next : (bytes next left : List ℕ) → next ++ left ≡ bytes
        → length left < length bytes
        → Appends old new (λ rest. encode_lower next ++ rest)
        → after ≡ before ++ digits_job p left ∷ []
        → DoesJob f old new before after (digits_job p bytes)
    digits_next bytes next left e l w a =
        does f old new (λ rest. encode_lower next ++ rest) before after (digits_job p left ∷ [])
        (digits_job p bytes) w a
        (λ rest. let end = ascii.quote ∷ ascii.right_brace ∷ end_on p rest in
        ap (λ x. encode_lower x ++ end) (sym e) ∙ digits_behind next left end) (omega (arith, l))
