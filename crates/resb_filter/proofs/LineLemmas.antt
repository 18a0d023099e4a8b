-- What lines say: by the character with which each begins.
use Rattle.std.proofs.Common.{◌≡◌, ◌≢◌, ℕ, Bool, true, false, ◌||◌, List, [], ◌∷◌, Bor, refl, ap}
use Rattle.std.proofs.Common.{sym}
use Rattle.std.proofs.Common.{◌∙◌, ◌+◌, ◌<◌, ◌≤◌, ◌++◌, length, subst, arith, map, take, get_or}
use Rattle.std.proofs.Common.{append-nil}
use Rattle.std.specs.Prelude.{◌==◌, nat_eq, Ok, Err, Result, Option, None, Some, is_some}
use Rattle.std.specs.Prelude.{IsErrAnd, IfErr, if◌then◌else◌}
use Rattle.std.specs.List.{list_any, slice_split, flat_map}
use Rattle.std.proofs.lemmas.Bool.{false≢true, eqb-true, and_from}
use Rattle.std.proofs.lemmas.List.{map_push, take_more, take_all, length-map, take-map, get_or-map}
use Rattle.std.proofs.lemmas.List.Concat.{flat_map-append}
use Rattle.resb_tree.specs.Borrowing.{all_true}
use Rattle.resb_draft.proofs.Lists.{all_append}
use Rattle.resb_draft.specs.Drafts.{texts}
use Rattle.resb_filter.specs.Lines.{line_says, path_says, has_empty, pieces_in, pieces_say}
use Rattle.resb_filter.specs.Lines.{lines_of, is_right, are_right, rules_said, IsRead, IsOfLine}
use Rattle.resb_filter.specs.Lines.{Refuses}
use Rattle.resb_filter.specs.Filtered.{Rule}
use Rattle.resb_filter.specs.declared.error.RuleError.{RuleError}
use Rattle.resb_filter.specs.declared.error.RuleError.TheVariants.{Line, OutOfMemory}
use Rattle.resb_filter.specs.declared.error.RuleFault.{RuleFault}
use Rattle.resb_filter.specs.declared.error.RuleFault.TheVariants.{NoSign, NoSlash, EmptyPiece}

-- one of the texts is empty where one of the borrowed ones is
pub any_texts : (ks : List (Bor (List ℕ)))
    → list_any (λ k. length k.now == 0) ks ≡ has_empty (texts ks)
any_texts [] = refl
any_texts (k ∷ ks) = ap (λ b. (length k.now == 0) || b) (any_texts ks)

-- a test of a byte for another one
other_byte : (b c : ℕ) (t : Bool) → nat_eq b c ≡ t → b ≢ c → nat_eq b c ≡ false
other_byte b c true e h = absurd (h (eqb-true b c e))
other_byte b c false e h = e

begins_other : (b c : ℕ) (bs : List ℕ) → ((rest : List ℕ) → b ∷ bs ≢ c ∷ rest) → b ≢ c
begins_other b c bs h e = h bs (ap (λ x. x ∷ bs) e)

is_other : (b c : ℕ) (bs : List ℕ) → ((rest : List ℕ) → b ∷ bs ≢ c ∷ rest) → nat_eq b c ≡ false
is_other b c bs h = other_byte b c (nat_eq b c) refl (begins_other b c bs h)

-- a line that is not empty and begins with none of the three
pub no_sign : (line : List ℕ) → (length line == 0) ≡ false
    → ((rest : List ℕ) → line ≢ 35 ∷ rest) → ((rest : List ℕ) → line ≢ 43 ∷ rest)
    → ((rest : List ℕ) → line ≢ 45 ∷ rest) → line_says line ≡ Err NoSign
no_sign [] h f g k = absurd (false≢true (sym h))
no_sign (b ∷ bs) h f g k =
    rw (is_other b 35 bs f, is_other b 43 bs g, is_other b 45 bs k) refl

-- a path that does not begin with a slash
pub no_slash : (path : List ℕ) → ((rest : List ℕ) → path ≢ 47 ∷ rest) → (keeps : Bool)
    → path_says keeps path ≡ Err NoSlash
no_slash [] f keeps = refl
no_slash (b ∷ bs) f keeps = rw (is_other b 47 bs f) refl

-- what holds where there is none
pub not_some : {T : Type 0} (r : Option T) → is_some r ≡ false → r ≡ None
not_some None h = refl
not_some (Some x) h = absurd (false≢true (sym h))

-- the pieces of a path behind whose slash something stands
pub pieces_some : (path : List ℕ) → (length path == 0) ≡ false
    → slice_split (λ b. nat_eq b 47) path ≡ pieces_in path
pieces_some [] h = absurd (false≢true (sym h))
pieces_some (b ∷ bs) h = refl

-- what pieces say by a test
abbrev said_by : Bool → Bool → List (List ℕ) → Result (Option Rule) RuleFault
said_by empty keeps ps = if empty then Err EmptyPiece else Ok (Some (keeps, ps))

-- one of the pieces is empty
pub empty_say : (ps : List (List ℕ)) (keeps : Bool) → has_empty ps ≡ true
    → pieces_say keeps ps ≡ Err EmptyPiece
empty_say ps keeps h = ap (λ e. said_by e keeps ps) h

-- none is
pub rule_say : (ps : List (List ℕ)) (keeps : Bool) → has_empty ps ≡ false
    → pieces_say keeps ps ≡ Ok (Some (keeps, ps))
rule_say ps keeps h = ap (λ e. said_by e keeps ps) h

-- the lines so far with the next one
lines_more : (ls : List (Bor (List ℕ))) (i : ℕ) (d : Bor (List ℕ)) → i < length ls
    → texts (take (i + 1) ls) ≡ texts (take i ls) ++ (get_or ls i d).now ∷ []
lines_more ls i d lt =
    ap texts (take_more ls i d lt)
    ∙ map_push (λ (b : Bor (List ℕ)). b.now) (take i ls) (get_or ls i d)

-- what was read of the lines so far
pub record ReadSoFar (ls : List (List ℕ)) (rs : List Rule) : Type 0 where
  pub right : are_right ls ≡ true
  pub rules : rs ≡ flat_map rules_said ls

-- one line more
pub read_step : (ls : List (Bor (List ℕ))) (i : ℕ) (d : Bor (List ℕ)) (rs ss : List Rule)
    → i < length ls → ReadSoFar (texts (take i ls)) rs → is_right (get_or ls i d).now ≡ true
    → ss ≡ rs ++ rules_said (get_or ls i d).now → ReadSoFar (texts (take (i + 1) ls)) ss
read_step ls i d rs ss lt so h e =
    let front = texts (take i ls) in
    let line = (get_or ls i d).now in
    let more = lines_more ls i d lt in
    record {
      right = ap are_right more ∙ ap all_true (map_push is_right front line)
          ∙ all_append (map is_right front) (is_right line ∷ []) so.right (and_from _ _ h refl);
      rules = e ∙ ap (λ l. l ++ rules_said line) so.rules
          ∙ ap (λ l. flat_map rules_said front ++ l) (sym (append-nil (rules_said line)))
          ∙ sym (flat_map-append rules_said front (line ∷ []))
          ∙ ap (flat_map rules_said) (sym more);
    }

-- all lines
pub read_all : (text : List ℕ) (ls : List (Bor (List ℕ))) (i : ℕ) (rs : List Rule)
    → texts ls ≡ lines_of text → length ls ≤ i → ReadSoFar (texts (take i ls)) rs → IsRead text rs
read_all text ls i rs is all so =
    let whole : texts (take i ls) ≡ lines_of text = ap texts (take_all i ls all) ∙ is in
    (ap are_right (sym whole) ∙ so.right, so.rules ∙ ap (flat_map rules_said) whole)

-- a line that is no rule
pub refused : (text : List ℕ) (ls : List (Bor (List ℕ))) (i : ℕ) (d : Bor (List ℕ))
    (rs : List Rule) (e : RuleError) → texts ls ≡ lines_of text → i < length ls
    → ReadSoFar (texts (take i ls)) rs → IsOfLine (i + 1) (get_or ls i d).now e → Refuses text e
refused text ls i d rs OutOfMemory is lt so h = tt
refused text ls i d rs (Line m f) is lt so h =
    let now : Bor (List ℕ) → List ℕ = λ b. b.now in
    let front : texts (take i ls) ≡ take i (lines_of text) =
    sym (take-map now i ls) ∙ ap (take i) is in
    let line : get_or (lines_of text) i [] ≡ (get_or ls i d).now =
    ap (λ l. get_or l i []) (sym is) ∙ get_or-map now ls i d [] lt in (
      i,
      h.0,
      omega (arith, lt, ap length is, length-map ls now),
      ap are_right (sym front) ∙ so.right,
      ap line_says line ∙ h.1,
    )

-- an error that is handed on
pub handed_on : {T E : Type 0} (P : E → Type 0) (x : E) (r : Result T E)
    → IsErrAnd r (λ e. e ≡ x) → P x → IfErr r P
handed_on P x (Ok t) h p = tt
handed_on P x (Err e) h p = subst P (sym h) p
