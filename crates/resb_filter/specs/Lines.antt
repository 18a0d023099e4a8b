-- What the text of a rule file says.
--     lines_of text       its lines, without the line feeds at their ends
--     line_says l         the rule of a line, none, or what is wrong with it
--     is_right l          nothing is wrong with it
--     rules_said l        the rule of a line as a list of one, or none
--     IsRead text rs      the text is read as these rules
--     IsOfLine n l e      an error says what is wrong with this line, or is want of memory
--     Refuses text e      an error says what is wrong with the first wrong line of the text
use Rattle.std.specs.Prelude.{◌≡◌, ◌<◌, ◌+◌, ◌==◌, ℕ, Bool, true, false, nat_eq}
use Rattle.std.specs.Prelude.{List, [], ◌∷◌, Option, Some, None, Result, Ok, Err, length, take}
use Rattle.std.specs.Prelude.{map, get_or, if◌then◌else◌}
use Rattle.std.specs.List.{slice_split, flat_map, list_any}
use Rattle.resb_tree.specs.Borrowing.{all_true}
use Rattle.resb_filter.specs.Filtered.{Rule}
use Rattle.resb_filter.specs.declared.error.RuleError.{RuleError}
use Rattle.resb_filter.specs.declared.error.RuleError.TheVariants.{Line, OutOfMemory}
use Rattle.resb_filter.specs.declared.error.RuleFault.{RuleFault}
use Rattle.resb_filter.specs.declared.error.RuleFault.TheVariants.{NoSign, NoSlash, EmptyPiece}

-- the lines of a text: what stands between its line feeds, which are the byte 10
abbrev pub lines_of : List ℕ → List (List ℕ)
lines_of text = slice_split (λ b. nat_eq b 10) text

-- the pieces of a path, from what stands behind its first `/`: none, if that is nothing; else what
-- stands between the slashes, which are the byte 47
abbrev pub pieces_in : List ℕ → List (List ℕ)
pieces_in [] = []
pieces_in (c ∷ cs) = slice_split (λ b. nat_eq b 47) (c ∷ cs)

-- whether one of the texts is empty
abbrev pub has_empty : List (List ℕ) → Bool
has_empty ps = list_any (λ p. length p == 0) ps

-- what a sign and these pieces say: a rule, if none is empty
abbrev pub pieces_say : Bool → List (List ℕ) → Result (Option Rule) RuleFault
pieces_say keeps ps = if has_empty ps then Err EmptyPiece else Ok (Some (keeps, ps))

-- what a sign and what stands behind it say: that has to begin with `/`
abbrev pub path_says : Bool → List ℕ → Result (Option Rule) RuleFault
path_says keeps [] = Err NoSlash
path_says keeps (c ∷ cs) = if nat_eq c 47 then pieces_say keeps (pieces_in cs) else Err NoSlash

-- what a line says: nothing, if it is empty or begins with `#`, the byte 35; else it begins with
-- `+`, the byte 43, for a rule that keeps, or `-`, the byte 45, for one that leaves out
abbrev pub line_says : List ℕ → Result (Option Rule) RuleFault
line_says [] = Ok None
line_says (c ∷ cs) =
    if nat_eq c 35 then Ok None
    else (if nat_eq c 43 then path_says true cs
    else (if nat_eq c 45 then path_says false cs else Err NoSign))

-- whether nothing is wrong with what a line says
abbrev pub is_well : Result (Option Rule) RuleFault → Bool
is_well (Ok o) = true
is_well (Err f) = false

-- whether nothing is wrong with a line
abbrev pub is_right : List ℕ → Bool
is_right l = is_well (line_says l)

-- the rule that is said, as a list of one, or none
abbrev pub rule_said : Result (Option Rule) RuleFault → List Rule
rule_said (Ok (Some r)) = r ∷ []
rule_said (Ok None) = []
rule_said (Err f) = []

-- the rule of a line as a list of one, or none
abbrev pub rules_said : List ℕ → List Rule
rules_said l = rule_said (line_says l)

-- nothing is wrong with any of these lines
abbrev pub are_right : List (List ℕ) → Bool
are_right ls = all_true (map is_right ls)

-- a text is read as these rules: nothing is wrong with any line, and they are the lines' rules in
-- their order
abbrev pub IsRead : List ℕ → List Rule → Type 0
IsRead text rs = (are_right (lines_of text) ≡ true) × (rs ≡ flat_map rules_said (lines_of text))

-- an error says what is wrong with the line of this number, or is want of memory
abbrev pub IsOfLine : ℕ → List ℕ → RuleError → Type 0
IsOfLine n l (Line m f) = (m ≡ n) × (line_says l ≡ Err f)
IsOfLine n l OutOfMemory = Unit {0}

-- an error is want of memory, or says what is wrong with a line of these by its number, from 1 on,
-- where nothing is wrong with those before it
abbrev pub RefusesLines : List (List ℕ) → RuleError → Type 0
RefusesLines ls (Line m f) = (i : ℕ) × (m ≡ i + 1) × (i < length ls)
    × (are_right (take i ls) ≡ true) × (line_says (get_or ls i []) ≡ Err f)
RefusesLines ls OutOfMemory = Unit {0}

-- an error says what is wrong with the first wrong line of a text, or is want of memory
abbrev pub Refuses : List ℕ → RuleError → Type 0
Refuses text e = RefusesLines (lines_of text) e
