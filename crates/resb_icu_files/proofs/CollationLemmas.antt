-- Laws of what is left of collation rules.
use Rattle.std.proofs.Common.{◌≡◌, ℕ, ◌+◌, ◌*◌, ◌<◌, ◌≤◌, Bool, true, false, List}
use Rattle.std.proofs.Common.{◌∷◌, length, Option, None, drop, sym, ap, ◌∙◌, refl}
use Rattle.std.proofs.Common.{if◌then◌else◌, arith, add-one, drop-cons, subst}
use Rattle.std.specs.Prelude.{slice_index, option_and_then, ◌||◌, ◌&&◌, not, ◌==◌, Some}
use Rattle.std.proofs.lemmas.Bool.{and_from, ne_eqb}
use Rattle.std.proofs.lemmas.List.{at_drop_all}
use Rattle.std.specs.Char.{digit_value}
use Rattle.resb_grammar.specs.Lexical.{digits_value}
use Rattle.resb_grammar.specs.Group.{is_hex}
use Rattle.resb_icu_grammar.specs.Escapes.{are_hex}
use Rattle.resb_icu_files.specs.CollationRules.{Step, by_digits, is_not_said, left_from, quotes}
use Rattle.resb_icu_files.specs.CollationRules.{by_escape, is_no_escape, with_backslash}
use Rattle.resb_icu_files.specs.CollationRules.{collation_step, at_end}
use Rattle.resb_icu_files.specs.Inner.CollationRules.{IsSaid}
use Rattle.resb_icu_files.specs.declared.collation.Part.{Part}

-- a hex digit at a place, with its value
abbrev pub Digit : List ℕ → ℕ → ℕ → Type 0
Digit text at v =
    (is_hex (slice_index text at) ≡ true) × (v ≡ digit_value (slice_index text at)) × (v < 16)

-- four hex digits in a row say a number
pub four_are : (text : List ℕ) (from a b c d : ℕ) → Digit text from a → Digit text (from + 1) b
    → Digit text (from + 2) c → Digit text (from + 3) d
    → (are_hex text from 4 ≡ true)
    × (((a * 16 + b) * 16 + c) * 16 + d ≡ digits_value 16 text from 4)
    × (((a * 16 + b) * 16 + c) * 16 + d < 65536)
four_are text from a b c d first second third fourth =
    let z : from + 0 ≡ from = omega arith in
    let f : Digit text (from + 0) a = subst (λ (i : ℕ). Digit text i a) (sym z) first in (
      and_from _ _ (and_from _ _ (and_from _ _ f.0 second.0) third.0) fourth.0,
      omega (arith, f.1, second.1, third.1, fourth.1),
      omega (arith, f.2, second.2, third.2, fourth.2),
    )

-- where one of four tests fails, not all hold
not_all : (a b c d : Bool) → (a ≡ true → b ≡ true → c ≡ true → d ≡ true → ⊥)
    → (((a && b) && c) && d) ≡ false
not_all true true true true never = absurd (never refl refl refl refl)
not_all true true true false never = refl
not_all true true false d never = refl
not_all true false c d never = refl
not_all false b c d never = refl

-- where one of four characters is no hex digit, they aren't four hex digits
pub four_not : (text : List ℕ) (from : ℕ)
    → (is_hex (slice_index text (from + 0)) ≡ true → is_hex (slice_index text (from + 1)) ≡ true
    → is_hex (slice_index text (from + 2)) ≡ true → is_hex (slice_index text (from + 3)) ≡ true → ⊥)
    → are_hex text from 4 ≡ false
four_not text from never =
    not_all (is_hex (slice_index text (from + 0))) (is_hex (slice_index text (from + 1)))
    (is_hex (slice_index text (from + 2))) (is_hex (slice_index text (from + 3))) never

-- behind a backslash, where what follows makes no escape and has no digits
pub no_escape : (quoted : Bool) (out rest : List ℕ) → (slice_index rest 0 ≡ 117 → ⊥)
    → (slice_index rest 0 ≡ 85 → ⊥) → is_no_escape rest ≡ true
    → by_escape quoted out rest ≡ None
no_escape quoted out rest lower upper e =
    let l : (slice_index rest 0 == 117) ≡ false = ne_eqb _ 117 lower in
    let u : (slice_index rest 0 == 85) ≡ false = ne_eqb _ 85 upper in
    rw (l, u, e) refl

-- and where it stands for itself
pub is_itself : (quoted : Bool) (out rest : List ℕ) → (slice_index rest 0 ≡ 117 → ⊥)
    → (slice_index rest 0 ≡ 85 → ⊥) → is_no_escape rest ≡ false
    → by_escape quoted out rest ≡ Some (quotes quoted, with_backslash out (slice_index rest 0))
is_itself quoted out rest lower upper e =
    let l : (slice_index rest 0 == 117) ≡ false = ne_eqb _ 117 lower in
    let u : (slice_index rest 0 == 85) ≡ false = ne_eqb _ 85 upper in
    rw (l, u, e) refl

neither : (a b : Bool) (s : Step) → (a ≡ true → b ≡ false → ⊥)
    → (if not a || b then None else s) ≡ None
neither true true s never = refl
neither true false s never = absurd (never refl refl)
neither false b s never = refl

-- no character, no step
pub not_said : (quoted : Bool) (out rest : List ℕ) (count : ℕ)
    → ((c : ℕ) → IsSaid rest count c → ⊥) → by_digits quoted out rest count ≡ None
not_said quoted out rest count never =
    neither (are_hex rest 1 count)
    (is_not_said (slice_index rest 0) (digits_value 16 rest 1 count)) _
    (λ h w. never (digits_value 16 rest 1 count) record { hex = h; says = refl; meant = w })

-- the rest, by its first character
drop_one : (cs : List ℕ) (at : ℕ) → at < length cs
    → drop at cs ≡ slice_index cs at ∷ drop (at + 1) cs
drop_one cs at low = rw (add-one, drop-cons cs at 0) refl

-- one character of the rest
left_on : (p : Part) (out cs : List ℕ) (at : ℕ) → at < length cs
    → left_from p out (drop at cs)
    ≡ option_and_then (λ n. left_from n.0 n.1 (drop (at + 1) cs))
    (collation_step p out (slice_index cs at) (drop (at + 1) cs))
unfolding left_from
left_on p out cs at low = ap (λ l. left_from p out l) (drop_one cs at low)

-- behind a step, or where there is none
pub by_step : (p : Part) (out cs : List ℕ) (at c : ℕ) (o : Option (List ℕ)) (s : Step)
    → at < length cs → c ≡ slice_index cs at → collation_step p out c (drop (at + 1) cs) ≡ s
    → left_from p out (drop at cs) ≡ o
    → option_and_then (λ n. left_from n.0 n.1 (drop (at + 1) cs)) s ≡ o
by_step p out cs at c o s low same e f =
    ap (λ (n : Step). option_and_then (λ n. left_from n.0 n.1 (drop (at + 1) cs)) n) (sym e)
    ∙ (ap (λ x. option_and_then (λ n. left_from n.0 n.1 (drop (at + 1) cs))
    (collation_step p out x (drop (at + 1) cs))) same
    ∙ (sym (left_on p out cs at low) ∙ f))

-- the end
pub by_end : (p : Part) (out cs : List ℕ) (at : ℕ) (o : Option (List ℕ)) → length cs ≤ at
    → left_from p out (drop at cs) ≡ o → at_end p out ≡ o
unfolding left_from
by_end p out cs at o high f = sym (at_drop_all (λ l. left_from p out l) cs at high) ∙ f
