-- What stands for rules in the program.
--     rules_of rs         the rules of a rule file
--     rule_left r         a rule of which some pieces are left
--     forms_view fs       the listed binary forms of types of collation
use Rattle.std.specs.Prelude.{ℕ, List, [], ◌∷◌, Option, Some, None, map}
use Rattle.resb_draft.specs.Drafts.{texts}
use Rattle.resb_filter.specs.Filtered.{Rule}
use Rattle.resb_filter.specs.declared.collation.CollationForm.{CollationForm}
use Rattle.resb_filter.specs.declared.remaining.Remaining.{Remaining}
use Rattle.resb_filter.specs.declared.rules.Rule.{Rule as RuleRead}
use Rattle.resb_filter.specs.declared.rules.Rules.{Rules}

-- rules that were read
abbrev pub rules_view : List RuleRead → List Rule
rules_view rs = map (λ r. (r.keeps, texts r.pieces.items)) rs

-- the rules of a rule file
abbrev pub rules_of : Rules → List Rule
rules_of rs = rules_view rs.rules.items

-- a rule of which these pieces are left
abbrev pub rule_left : Remaining → Rule
rule_left r = (r.keeps, texts r.pieces.now)

-- the same of each
abbrev pub rules_left : List Remaining → List Rule
rules_left rs = map rule_left rs

-- a rule that may be left, as a list of one, or none
abbrev pub option_list : Option Remaining → List Rule
option_list None = []
option_list (Some r) = rule_left r ∷ []

-- the listed binary forms: the key of each type, and its bytes
abbrev pub forms_view : List CollationForm → List (List ℕ × List ℕ)
forms_view fs = map (λ f. (f.key.now, f.bytes.now)) fs
