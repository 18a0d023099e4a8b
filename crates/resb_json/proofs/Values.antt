-- What each kind of resource writes at once, and what it leaves.
use Rattle.std.specs.Prelude.{◌≡◌, ℕ, ◌+◌, ◌<◌, List, [], ◌∷◌, ◌++◌, length, map, drop, slice_get}
use Rattle.std.specs.Prelude.{Bool, true, false, codes, nat_lt, Some, None}
use Rattle.std.specs.Int.{cast_signed, w32}
use Rattle.std.proofs.Common.{refl, sym, ap, subst, ◌∙◌, arith, suc, zero, append_assoc, append-nil}
use Rattle.std.proofs.lemmas.Option.{none-some, same_Some}
use Rattle.std.proofs.lemmas.Bool.Decides.{nat_tests}
use Rattle.std.proofs.Math.Seq.{drop-nil}
use Rattle.hex.specs.Hex.{encode_lower, encode_with}
use Rattle.json.specs.Print.{quoted, escape, escape_byte}
use Rattle.serde_json.specs.Find.{of_integer}
use Rattle.serde_json.specs.View.{items_of}
use Rattle.serde_json.specs.Written.{compact_text, comma_if, number_text, items_text, members_text}
use Rattle.resb_tree.specs.Tree.{Tree, string, alias, array, table, binary, integer, int_vector}
use Rattle.resb_tree.specs.Tree.{Trees, no_trees, more_trees, Entries, no_entries, entry}
use Rattle.resb_tree.specs.Int28.{signed}
use Rattle.resb_tree.specs.Maps.{IsMap}
use Rattle.resb_shown.specs.Shown.{text_in, numbers_in}
use Rattle.resb_json.specs.Json.{json_of, members_json, vector_number}
use Rattle.resb_json.specs.Inner.Jobs.{Job, value_job, members_job, entries_job, numbers_job}
use Rattle.resb_json.specs.Inner.Jobs.{digits_job, job_turns, texts_of, turns_of}
use Rattle.resb_json.specs.Inner.Jobs.{DoesJob, listed_json}
use Rattle.resb_json.proofs.Jobs.{does, texts_behind, turns_behind}
use Rattle.resb_json.proofs.Listed.{put_is_listed}

-- the names of the members that aliases and binaries have
alias_name : quoted (codes "alias") ≡ codes "\"alias\""
unfolding escape_byte
alias_name = refl

binary_name : quoted (codes "binary") ≡ codes "\"binary\""
unfolding escape_byte
binary_name = refl

-- no bytes have no digits
no_digits : escape (encode_lower []) ++ codes "\"}" ≡ codes "\"}"
unfolding encode_with
no_digits = refl

module _ (old new : List ℕ) (before after : List Job) (t : Tree) where
  -- a job of the tree, where that of its value is known
  as_tree : (u : Tree) → t ≡ u → DoesJob old new before after (value_job u)
      → DoesJob old new before after (value_job t)
  as_tree u e d = subst (λ x. DoesJob old new before after (value_job x)) (sym e) d

  pub value_string : (s : List ℕ) → t ≡ string s → new ≡ old ++ quoted (text_in t)
      → after ≡ before → DoesJob old new before after (value_job t)
  value_string s e w f =
      as_tree (string s) e
      (does old new (quoted s) before after [] (value_job (string s))
      (w ∙ ap (λ x. old ++ quoted (text_in x)) e) (f ∙ sym (append-nil before))
      (sym (append-nil (quoted s))) (omega arith))

  pub value_alias : (begun path : List ℕ) (s : List ℕ) → t ≡ alias s
      → begun ≡ old ++ codes "{\"alias\":" → path ≡ begun ++ quoted (text_in t)
      → new ≡ path ++ codes "}" → after ≡ before → DoesJob old new before after (value_job t)
  value_alias begun path s e b p w f =
      let text = codes "{\"alias\":" ++ (quoted s ++ codes "}") in
      as_tree (alias s) e
      (does old new text before after [] (value_job (alias s))
      (w ∙ ap (λ l. l ++ codes "}") (p ∙ (λ i. b i ++ quoted (text_in (e i))))
      ∙ append_assoc (old ++ codes "{\"alias\":") (quoted s) (codes "}")
      ∙ append_assoc old (codes "{\"alias\":") (quoted s ++ codes "}"))
      (f ∙ sym (append-nil before))
      (ap (λ l. 123 ∷ (l ++ 58 ∷ (quoted s ++ 125 ∷ []))) alias_name ∙ sym (append-nil text))
      (omega arith))

  pub value_array : (ts : Trees) → t ≡ array ts → new ≡ old ++ codes "["
      → after ≡ before ++ members_job false ts ∷ [] → DoesJob old new before after (value_job t)
  value_array ts e w f =
      as_tree (array ts) e
      (does old new (codes "[") before after (members_job false ts ∷ []) (value_job (array ts)) w f
      refl (omega arith))

  pub value_table : (es : Entries) → (t ≡ table es) × IsMap es → new ≡ old ++ codes "{"
      → after ≡ before ++ entries_job false es ∷ [] → DoesJob old new before after (value_job t)
  value_table es e w f =
      as_tree (table es) e.0
      (does old new (codes "{") before after (entries_job false es ∷ []) (value_job (table es)) w f
      (ap (λ ms. 123 ∷ members_text false ms) (put_is_listed es e.1)) (omega arith))

  pub value_binary : (bytes : List ℕ) → t ≡ binary bytes → new ≡ old ++ codes "{\"binary\":\""
      → after ≡ before ++ digits_job bytes ∷ [] → DoesJob old new before after (value_job t)
  value_binary bytes e w f =
      let digits = escape (encode_lower bytes) in
      as_tree (binary bytes) e
      (does old new (codes "{\"binary\":\"") before after (digits_job bytes ∷ [])
      (value_job (binary bytes)) w f
      (ap (λ l. 123 ∷ (l ++ 58 ∷ (34 ∷ ((digits ++ 34 ∷ []) ++ 125 ∷ [])))) binary_name
      ∙ ap (λ l. codes "{\"binary\":\"" ++ l) (append_assoc digits (34 ∷ []) (125 ∷ [])))
      (omega arith))

  pub value_integer : (n : ℕ) → t ≡ integer n → new ≡ old ++ number_text (of_integer (signed n))
      → after ≡ before → DoesJob old new before after (value_job t)
  value_integer n e w f =
      let text = number_text (of_integer (signed n)) in
      as_tree (integer n) e
      (does old new text before after [] (value_job (integer n)) w (f ∙ sym (append-nil before))
      (sym (append-nil text)) (omega arith))

  pub value_vector : (ns : List ℕ) → t ≡ int_vector ns → new ≡ old ++ codes "["
      → after ≡ before ++ numbers_job false (numbers_in t) ∷ []
      → DoesJob old new before after (value_job t)
  value_vector ns e w f =
      as_tree (int_vector ns) e
      (does old new (codes "[") before after (numbers_job false ns ∷ []) (value_job (int_vector ns))
      w (f ∙ ap (λ x. before ++ numbers_job false (numbers_in x) ∷ []) e) refl (omega arith))

-- what stands from a place on, where a number stands there, and where none does
number_next : (ns : List ℕ) (at n : ℕ) → slice_get ns at ≡ Some n
    → drop at ns ≡ n ∷ drop (suc at) ns
number_next [] at n e = absurd (none-some n e)
number_next (m ∷ ns) zero n e = ap (λ x. x ∷ ns) (same_Some m n e)
number_next (m ∷ ns) (suc at) n e = number_next ns at n e

number_none : (ns : List ℕ) (at : ℕ) → slice_get ns at ≡ None → drop at ns ≡ []
number_none [] at e = drop-nil at
number_none (m ∷ ns) zero e = absurd (none-some m (sym e))
number_none (m ∷ ns) (suc at) e = number_none ns at e

module _ (old new : List ℕ) (before after : List Job) where
  -- the end of a collection
  pub members_end : (later : Bool) (ts : Trees) → ts ≡ no_trees → new ≡ old ++ codes "]"
      → after ≡ before → DoesJob old new before after (members_job later ts)
  members_end later ts e w f =
      does old new (codes "]") before after [] (members_job later ts) w
      (f ∙ sym (append-nil before))
      (ap (λ t. items_text later (members_json t)) e) (omega arith)

  pub entries_end : (later : Bool) (es : Entries) → es ≡ no_entries → new ≡ old ++ codes "}"
      → after ≡ before → DoesJob old new before after (entries_job later es)
  entries_end later es e w f =
      does old new (codes "}") before after [] (entries_job later es) w
      (f ∙ sym (append-nil before))
      (ap (λ t. members_text later (listed_json t)) e) (omega arith)

  pub numbers_end : (later : Bool) (ns : List ℕ) (at : ℕ) → None ≡ slice_get ns at
      → new ≡ old ++ codes "]" → after ≡ before
      → DoesJob old new before after (numbers_job later (drop at ns))
  numbers_end later ns at e w f =
      does old new (codes "]") before after [] (numbers_job later (drop at ns)) w
      (f ∙ sym (append-nil before))
      (ap (λ l. items_text later (items_of (map vector_number l))) (number_none ns at (sym e)))
      (omega arith)

  pub digits_end : (bytes : List ℕ) → bytes ≡ [] → new ≡ old ++ codes "\"}" → after ≡ before
      → DoesJob old new before after (digits_job bytes)
  digits_end bytes e w f =
      does old new (codes "\"}") before after [] (digits_job bytes) w
      (f ∙ sym (append-nil before))
      (ap (λ l. escape (encode_lower l) ++ codes "\"}") e ∙ no_digits) (omega arith)

  -- what comes next of it
  pub members_next : (later : Bool) (all left : Trees) (t : Tree) → all ≡ more_trees t left
      → new ≡ old ++ comma_if later
      → after ≡ before ++ members_job true left ∷ value_job t ∷ []
      → DoesJob old new before after (members_job later all)
  members_next later all left t e w f =
      does old new (comma_if later) before after (members_job true left ∷ value_job t ∷ [])
      (members_job later all) w f (ap (λ ts. items_text later (members_json ts)) e)
      (omega (arith, ap (λ ts. job_turns (members_job later ts)) e))

  pub entries_next : (later : Bool) (all left : Entries) (k : List ℕ) (t : Tree)
      (comma key : List ℕ) → all ≡ entry k t left → comma ≡ old ++ comma_if later
      → key ≡ comma ++ quoted k → new ≡ key ++ codes ":"
      → after ≡ before ++ entries_job true left ∷ value_job t ∷ []
      → DoesJob old new before after (entries_job later all)
  entries_next later all left k t comma key e a b w f =
      let begun = comma_if later ++ (quoted k ++ codes ":") in
      let rest = compact_text (json_of t) ++ members_text true (listed_json left) in
      does old new begun before after (entries_job true left ∷ value_job t ∷ [])
      (entries_job later all)
      (w ∙ ap (λ l. l ++ codes ":") (b ∙ ap (λ l. l ++ quoted k) a)
      ∙ append_assoc (old ++ comma_if later) (quoted k) (codes ":")
      ∙ append_assoc old (comma_if later) (quoted k ++ codes ":")) f
      (ap (λ es. members_text later (listed_json es)) e
      ∙ ap (λ l. comma_if later ++ l) (sym (append_assoc (quoted k) (codes ":") rest))
      ∙ sym (append_assoc (comma_if later) (quoted k ++ codes ":") rest))
      (omega (arith, ap (λ es. job_turns (entries_job later es)) e))

  pub numbers_next : (later : Bool) (ns : List ℕ) (at n : ℕ) (comma : List ℕ)
      → Some n ≡ slice_get ns at → comma ≡ old ++ comma_if later
      → new ≡ comma ++ number_text (of_integer (cast_signed w32 n))
      → after ≡ before ++ numbers_job (nat_lt 0 (at + 1)) (drop (at + 1) ns) ∷ []
      → DoesJob old new before after (numbers_job later (drop at ns))
  numbers_next later ns at n comma e a w f =
      let digits = number_text (of_integer (cast_signed w32 n)) in
      let left = drop (suc at) ns in
      let next : drop at ns ≡ n ∷ left = number_next ns at n (sym e) in
      let more : at + 1 ≡ suc at = omega arith in
      let some : nat_lt 0 (at + 1) ≡ true = grind (arith, nat_tests) in
      let rest = items_text true (items_of (map vector_number left)) in
      does old new (comma_if later ++ digits) before after (numbers_job true left ∷ [])
      (numbers_job later (drop at ns))
      (w ∙ ap (λ l. l ++ digits) a ∙ append_assoc old (comma_if later) digits)
      (f ∙ (λ i. before ++ numbers_job (some i) (drop (more i) ns) ∷ []))
      (ap (λ l. items_text later (items_of (map vector_number l))) next
      ∙ sym (append_assoc (comma_if later) digits rest))
      (omega (arith, ap length next))

  pub digits_next : (bytes left : List ℕ)
      → new ++ escape (encode_lower left) ≡ old ++ escape (encode_lower bytes)
      → length left < length bytes → after ≡ before ++ digits_job left ∷ []
      → DoesJob old new before after (digits_job bytes)
  digits_next bytes left w h f =
      let digits = escape (encode_lower left) in
      let all = escape (encode_lower bytes) in
      let last = codes "\"}" in
      record {
        text = ap (λ js. new ++ texts_of js) f
            ∙ ap (λ l. new ++ l) (texts_behind before (digits_job left ∷ []))
            ∙ sym (append_assoc new (digits ++ last) (texts_of before))
            ∙ ap (λ l. l ++ texts_of before) (sym (append_assoc new digits last)
            ∙ ap (λ l. l ++ last) w ∙ append_assoc old all last)
            ∙ append_assoc old (all ++ last) (texts_of before);
        fewer = omega (arith, turns_behind before (digits_job left ∷ []), ap turns_of f);
      }
