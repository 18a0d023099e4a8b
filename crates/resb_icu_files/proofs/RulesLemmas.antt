-- Laws of what is left of rules.
use Rattle.std.proofs.Common.{◌≡◌, ℕ, ◌+◌, ◌-◌, ◌<◌, ◌≤◌, Bool, true, false, List, []}
use Rattle.std.proofs.Common.{◌∷◌, ◌++◌, length}
use Rattle.std.proofs.Common.{Option, Some, None, drop, take, drop-cons, sym, ap, ◌∙◌, refl, arith}
use Rattle.std.proofs.Common.{if◌then◌else◌, add-one, encode_utf8, append-nil}
use Rattle.std.specs.Prelude.{slice_index, option_and_then, ◌||◌, not}
use Rattle.std.specs.Str.{encode_utf8_all}
use Rattle.std.proofs.lemmas.List.{take_more, at_drop_all}
use Rattle.std.proofs.lemmas.Str.{encodes-append}
use Rattle.std.proofs.lemmas.Grind.{common_steps}
use Rattle.resb_grammar.specs.Lexical.{digits_value}
use Rattle.resb_icu_grammar.specs.Bytes.{backslash}
use Rattle.resb_icu_grammar.specs.Escapes.{are_hex}
use Rattle.resb_icu_files.specs.Inner.Rules.{IsEscaped}
use Rattle.resb_icu_files.specs.Rules.{Step, by_number, stays_escaped, stripped, rule_step}
use Rattle.resb_icu_files.specs.Rules.{is_surrogate}
use Rattle.resb_icu_files.specs.declared.rules.Standing.{Standing}
use Rattle.resb_icu_files.specs.declared.rules.Standing.TheVariants as standing

-- a test of two parts that don't hold together
neither : (a b : Bool) (s : Step) → (a ≡ true → b ≡ false → ⊥)
    → (if not a || b then None else s) ≡ None
neither true true s never = refl
neither true false s never = absurd (never refl refl)
neither false b s never = refl

both : (a b : Bool) (s : Step) → a ≡ true → b ≡ false → (if not a || b then None else s) ≡ s
both true true s e f = absurd (cc)
both true false s e f = refl
both false b s e f = absurd (cc)

-- no character, no step
pub not_escaped : (out rest : List ℕ) → ((c : ℕ) → IsEscaped rest c → ⊥)
    → by_number out rest ≡ None
not_escaped out rest never =
    neither (are_hex rest 1 4) (is_surrogate (digits_value 16 rest 1 4)) _
    (λ h w. never (digits_value 16 rest 1 4) record { hex = h; says = refl; whole = w })

chosen : (b : Bool) (s t : Step) → b ≡ true → (if b then s else t) ≡ s
chosen true s t e = refl
chosen false s t e = absurd (cc)

other : (b : Bool) (s t : Step) → b ≡ false → (if b then s else t) ≡ t
other true s t e = absurd (cc)
other false s t e = refl

-- a character that stays an escape, and one that doesn't
pub stays : (out rest : List ℕ) (c : ℕ) → IsEscaped rest c → stays_escaped c ≡ true
    → by_number out rest ≡ Some (standing.Plain, out ++ backslash ∷ [])
stays out rest c e s =
    both (are_hex rest 1 4) (is_surrogate (digits_value 16 rest 1 4)) _ e.hex e.whole
    ∙ chosen (stays_escaped (digits_value 16 rest 1 4)) _ _ (ap stays_escaped (sym e.says) ∙ s)

pub stands_for : (out rest : List ℕ) (c : ℕ) → IsEscaped rest c → stays_escaped c ≡ false
    → by_number out rest ≡ Some (standing.Dropping 5, out ++ c ∷ [])
stands_for out rest c e s =
    both (are_hex rest 1 4) (is_surrogate (digits_value 16 rest 1 4)) _ e.hex e.whole
    ∙ (other (stays_escaped (digits_value 16 rest 1 4)) _ _ (ap stays_escaped (sym e.says) ∙ s)
    ∙ ap (λ n. Some (standing.Dropping 5, out ++ n ∷ [])) (sym e.says))

-- all that is behind a place
pub all_behind : (cs : List ℕ) (at : ℕ) → take (length cs - at) (drop at cs) ≡ drop at cs
all_behind cs at = grind (arith, common_steps)

-- the rest, by its first character
drop_one : (cs : List ℕ) (at : ℕ) → at < length cs
    → drop at cs ≡ slice_index cs at ∷ drop (at + 1) cs
drop_one cs at low = rw (add-one, drop-cons cs at 0) refl

-- one character of the rest
strip_on : (s : Standing) (out cs : List ℕ) (at : ℕ) → at < length cs
    → stripped s out (drop at cs)
    ≡ option_and_then (λ n. stripped n.0 n.1 (drop (at + 1) cs))
    (rule_step s out (slice_index cs at) (drop (at + 1) cs))
unfolding stripped
strip_on s out cs at low = ap (λ l. stripped s out l) (drop_one cs at low)

-- behind a step
pub goes_on : (s next : Standing) (out new cs : List ℕ) (at c : ℕ) (o : Option (List ℕ))
    → at < length cs → c ≡ slice_index cs at
    → rule_step s out c (drop (at + 1) cs) ≡ Some (next, new)
    → stripped s out (drop at cs) ≡ o → stripped next new (drop (at + 1) cs) ≡ o
goes_on s next out new cs at c o low same e f =
    ap (λ (n : Step). option_and_then (λ n. stripped n.0 n.1 (drop (at + 1) cs)) n) (sym e)
    ∙ (ap (λ x. option_and_then (λ n. stripped n.0 n.1 (drop (at + 1) cs))
    (rule_step s out x (drop (at + 1) cs))) same
    ∙ (sym (strip_on s out cs at low) ∙ f))

-- no step
pub ends_none : (s : Standing) (out cs : List ℕ) (at c : ℕ) (o : Option (List ℕ))
    → at < length cs → c ≡ slice_index cs at → rule_step s out c (drop (at + 1) cs) ≡ None
    → stripped s out (drop at cs) ≡ o → None ≡ o
ends_none s out cs at c o low same e f =
    ap (λ (n : Step). option_and_then (λ n. stripped n.0 n.1 (drop (at + 1) cs)) n) (sym e)
    ∙ (ap (λ x. option_and_then (λ n. stripped n.0 n.1 (drop (at + 1) cs))
    (rule_step s out x (drop (at + 1) cs))) same
    ∙ (sym (strip_on s out cs at low) ∙ f))

-- the end
pub ends_some : (s : Standing) (out cs : List ℕ) (at : ℕ) (o : Option (List ℕ)) → length cs ≤ at
    → stripped s out (drop at cs) ≡ o → Some out ≡ o
unfolding stripped
ends_some s out cs at o high f =
    sym (at_drop_all (λ l. stripped s out l) cs at high) ∙ f

-- one character more is written
pub written_more : (cs : List ℕ) (i c : ℕ) → i < length cs → c ≡ slice_index cs i
    → encode_utf8_all (take (i + 1) cs) ≡ encode_utf8_all (take i cs) ++ encode_utf8 c
written_more cs i c low e =
    ap encode_utf8_all (take_more cs i 0 low)
    ∙ (encodes-append (take i cs) (slice_index cs i ∷ [])
    ∙ (ap (λ l. encode_utf8_all (take i cs) ++ l) (append-nil (encode_utf8 (slice_index cs i)))
    ∙ ap (λ n. encode_utf8_all (take i cs) ++ encode_utf8 n) (sym e)))
