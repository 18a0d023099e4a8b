-- The first line that is indented too little.
use Rattle.std.proofs.Common.{◌≡◌, ◌∙◌, ℕ, zero, suc, ◌+◌, ◌-◌, ◌<◌, ◌≤◌, Bool, true, false, ◌==◌}
use Rattle.std.proofs.Common.{◌&&◌, List, [], ◌∷◌, ◌++◌, length, refl, sym, ap, subst, arith}
use Rattle.std.proofs.Common.{⊎_elim, Option, Some, None, take}
use Rattle.std.specs.Prelude.{slice_index, slice_get, if◌then◌else◌}
use Rattle.std.proofs.lemmas.Bool.{cases_lt, false≢true, and_parts, eqb-true}
use Rattle.std.proofs.lemmas.List.{length-append}
use Rattle.std.proofs.Math.Seq.{take-append_seam}
use Rattle.resb_grammar.specs.Ascii.{left_brace, right_brace}
use Rattle.resb_diagnostics.specs.Braces.{Form, mode_in}
use Rattle.resb_diagnostics.specs.Partners.{Opens, Closes, Balanced, nothing}
use Rattle.resb_diagnostics.specs.Partners.{another, group}
use Rattle.resb_diagnostics.specs.Clues.{or_else, is_first, indent_at, open_behind, indents_at}
use Rattle.resb_diagnostics.specs.Clues.{stands_out, is_outdent, outdent_in}
use Rattle.resb_diagnostics.specs.Hints.{Encloses, IsOutdent, IsFirstOutdent}
use Rattle.resb_diagnostics.proofs.PartnersLemmas.{within, opening, closing, neither, step}
use Rattle.resb_diagnostics.proofs.LineLemmas.{LineOf, line_of, start_one, indent_one}

last_place : (xs : List ℕ) (x : ℕ) → length (xs ++ x ∷ []) - 1 ≡ length xs
last_place xs x = let e = length-append xs (x ∷ []) in omega (arith, e)

take_all : (xs : List ℕ) (x : ℕ)
    → take (length (xs ++ x ∷ []) - 1) (xs ++ x ∷ []) ≡ xs
take_all xs x =
    ap (λ n. take n (xs ++ x ∷ [])) (last_place xs x) ∙ take-append_seam xs (x ∷ [])

get_seam : (xs : List ℕ) (x : ℕ) → slice_get (xs ++ x ∷ []) (length xs) ≡ Some x
get_seam [] x = refl
get_seam (y ∷ xs) x = get_seam xs x

get_last : (xs : List ℕ) (x : ℕ)
    → slice_get (xs ++ x ∷ []) (length (xs ++ x ∷ []) - 1) ≡ Some x
get_last xs x = ap (slice_get (xs ++ x ∷ [])) (last_place xs x) ∙ get_seam xs x

module _ {M : Type 0} (f : Form M) (text : List ℕ) where
  indents_open : (n : ℕ) → Opens f text n
      → indents_at f text (suc n) ≡ indents_at f text n ++ indent_at text n ∷ []
  indents_open n o =
      ap (λ t. if t then open_behind (slice_index text n) (indent_at text n)
      (indents_at f text n) else indents_at f text n) o.tokens
      ∙ ap (λ b. open_behind b (indent_at text n) (indents_at f text n)) o.stands

  indents_close : (n : ℕ) → Closes f text n
      → indents_at f text (suc n)
      ≡ take (length (indents_at f text n) - 1) (indents_at f text n)
  indents_close n c =
      ap (λ t. if t then open_behind (slice_index text n) (indent_at text n)
      (indents_at f text n) else indents_at f text n) c.tokens
      ∙ ap (λ b. open_behind b (indent_at text n) (indents_at f text n)) c.stands

  indents_same : (n : ℕ) → (Opens f text n → ⊥) → (Closes f text n → ⊥)
      → indents_at f text (suc n) ≡ indents_at f text n
  indents_same n o c =
      by (f.has_tokens (mode_in f text n)) (slice_index text n == left_brace)
      (slice_index text n == right_brace) refl refl refl
    where
      by : (t l r : Bool) → f.has_tokens (mode_in f text n) ≡ t
          → (slice_index text n == left_brace) ≡ l → (slice_index text n == right_brace) ≡ r
          → (if t then (if l then indents_at f text n ++ indent_at text n ∷ []
          else (if r then take (length (indents_at f text n) - 1) (indents_at f text n)
          else indents_at f text n)) else indents_at f text n) ≡ indents_at f text n
      by false l r t a b = refl
      by true false false t a b = refl
      by true true r t a b =
          let e = eqb-true (slice_index text n) left_brace a in
          absurd (o (record { fits = within text n 122 e; tokens = t; stands = e }))
      by true false true t a b =
          let e = eqb-true (slice_index text n) right_brace b in
          absurd (c (record { fits = within text n 124 e; tokens = t; stands = e }))

  -- behind braces that have their partners the indents are those from before
  balanced_indents : (a b : ℕ) → Balanced f text a b
      → indents_at f text b ≡ indents_at f text a
  balanced_indents a b (nothing _) = refl
  balanced_indents a b (another _ _ o c rest) =
      balanced_indents (suc a) b rest ∙ indents_same a o c
  balanced_indents a b (group _ m _ o inner c rest) =
      balanced_indents (suc m) b rest ∙ indents_close m c
      ∙ ap (λ xs. take (length xs - 1) xs)
      (balanced_indents (suc a) m inner ∙ indents_open a o)
      ∙ take_all (indents_at f text a) (indent_at text a)

  pub join : (a b c : ℕ) → Balanced f text a b → Balanced f text b c → Balanced f text a c
  join a b c (nothing _) k = k
  join a b c (another _ _ o s rest) k = another a c o s (join (suc a) b c rest k)
  join a b c (group _ m _ o inner s rest) k = group a m c o inner s (join (suc m) b c rest k)

  -- the braces that are open at a place, from the inside out
  data OpenBraces : ℕ → Type 0 where
    outside : (n : ℕ) → indents_at f text n ≡ [] → OpenBraces n
    inside : (p n : ℕ) → Encloses f text p n → OpenBraces p → OpenBraces n

  further : (a b : ℕ) → Balanced f text a b → OpenBraces a → OpenBraces b
  further a b s (outside _ e) = outside b (balanced_indents a b s ∙ e)
  further a b s (inside p _ e rest) =
      inside p b (record { opens = e.opens; between = join (suc p) a b e.between s }) rest

  closed : (n : ℕ) → Closes f text n → OpenBraces n → OpenBraces (suc n)
  closed n c (outside _ e) =
      outside (suc n) (indents_close n c ∙ ap (λ xs. take (length xs - 1) xs) e)
  closed n c (inside p _ e rest) =
      further p (suc n) (group p n (suc n) e.opens e.between c (nothing (suc n))) rest

  open_braces : (n : ℕ) → OpenBraces n
  open_braces zero = outside 0 refl
  open_braces (suc n) = elim (step f text n) [
    | opening o e ↦
        inside n (suc n) (record { opens = o; between = nothing (suc n) }) (open_braces n)
    | closing c e ↦ closed n c (open_braces n)
    | neither o c e ↦
        further n (suc n) (another n (suc n) o c (nothing (suc n))) (open_braces n)
  ]

  enclosing : (p n : ℕ) → Encloses f text p n
      → slice_get (indents_at f text n) (length (indents_at f text n) - 1)
      ≡ Some (indent_at text p)
  enclosing p n e =
      ap (λ xs. slice_get xs (length xs - 1))
      (balanced_indents (suc p) n e.between ∙ indents_open p e.opens)
      ∙ get_last (indents_at f text p) (indent_at text p)

  outdent_by : (n : ℕ) → f.has_tokens (mode_in f text n) ≡ true → is_first text n ≡ true
      → stands_out (slice_index text n) (indent_at text n)
      (slice_get (indents_at f text n) (length (indents_at f text n) - 1)) ≡ true
      → OpenBraces n → IsOutdent f text n
  outdent_by n t w out (outside _ e) =
      absurd (false≢true (sym (ap (λ xs. stands_out (slice_index text n) (indent_at text n)
      (slice_get xs (length xs - 1))) e) ∙ out))
  outdent_by n t w out (inside p _ e rest) =
      let l = line_of text n in
      let o = line_of text p in record {
        tokens = t;
        start = l.start;
        indent = l.indent;
        indented = l.indented;
        first = l.first (sym l.tells ∙ w);
        brace = p;
        encloses = e;
        outer_start = o.start;
        outer = o.indent;
        outer_indented = o.indented;
        out = sym (ap (λ k. stands_out (slice_index text n) k
            (slice_get (indents_at f text n) (length (indents_at f text n) - 1))) l.same
            ∙ ap (stands_out (slice_index text n) l.indent)
            (enclosing p n e ∙ ap Some o.same)) ∙ out;
      }

  outdent_is : (n : ℕ) → is_outdent f text n ≡ true → IsOutdent f text n
  outdent_is n h =
      let out = stands_out (slice_index text n) (indent_at text n)
      (slice_get (indents_at f text n) (length (indents_at f text n) - 1)) in
      let all = and_parts (f.has_tokens (mode_in f text n) && is_first text n) out h in
      let both = and_parts (f.has_tokens (mode_in f text n)) (is_first text n) all.0 in
      outdent_by n both.0 both.1 all.1 (open_braces n)

  whole_by : (n : ℕ) (l : LineOf text n) (b : Bool) → l.whole ≡ b → l.start + l.indent ≡ n
      → l.whole ≡ true
  whole_by n l true w e = w
  whole_by n l false w e = let low = l.other w in absurd (omega (arith, low, e))

  is_so : (n : ℕ) → IsOutdent f text n → is_outdent f text n ≡ true
  is_so n h =
      let l = line_of text n in
      let o = line_of text h.brace in
      let start = start_one text n l.start l.indent h.start h.indent l.indented h.indented in
      let indent = indent_one text n l.start l.indent h.start h.indent l.indented h.indented in
      let outer = indent_one text h.brace o.start o.indent h.outer_start h.outer o.indented
      h.outer_indented in
      let first = h.first in
      let w = whole_by n l l.whole refl (omega (arith, start, indent, first)) in
      ap (λ t. (t && is_first text n) && stands_out (slice_index text n) (indent_at text n)
      (slice_get (indents_at f text n) (length (indents_at f text n) - 1))) h.tokens
      ∙ ap (λ t. (true && t) && stands_out (slice_index text n) (indent_at text n)
      (slice_get (indents_at f text n) (length (indents_at f text n) - 1))) (l.tells ∙ w)
      ∙ ap (λ k. (true && true) && stands_out (slice_index text n) k
      (slice_get (indents_at f text n) (length (indents_at f text n) - 1))) (l.same ∙ indent)
      ∙ ap (λ k. (true && true) && stands_out (slice_index text n) h.indent k)
      (enclosing h.brace n h.encloses ∙ ap Some (o.same ∙ outer))
      ∙ h.out

  first_by : (n : ℕ) (o : Option ℕ) (b : Bool) → is_outdent f text n ≡ b
      → IsFirstOutdent f text n o
      → IsFirstOutdent f text (suc n) (or_else o (if b then Some n else None))
  first_by n (Some at) b e h = (omega (arith, h.0), h.1, h.2)
  first_by n None true e h = (omega arith, outdent_is n e, λ k low s. h k low s)
  first_by n None false e h = λ k high s. ⊎_elim (λ (w : k < n). h k w s)
      (λ (w : n ≤ k). let same : k ≡ n = omega (arith, w, high) in
      false≢true (sym e ∙ is_so n (subst (IsOutdent f text) same s))) (cases_lt k n)

  pub outdent_first : (n : ℕ) → IsFirstOutdent f text n (outdent_in f text n)
  outdent_first zero = λ k low s. omega (arith, low)
  outdent_first (suc n) =
      first_by n (outdent_in f text n) (is_outdent f text n) refl (outdent_first n)
