-- What stands at a member, and what is said where nothing does.
--     LeadsToCounted p m v    m is a string or an alias whose text begins at word v of the body
--     IsPartOf body v bytes   the bytes are units behind the count at word v of the body
use Rattle.std.specs.Prelude.{◌≡◌, ◌⊎◌, ◌≤◌, ◌+◌, ◌*◌, ◌/◌, ℕ, List, length, take, drop, Option}
use Rattle.std.specs.Prelude.{option_map}
use Rattle.resb_tree.specs.Tree.{Tree, string, alias}
use Rattle.resb_format.specs.Bytes.{units_of}
use Rattle.resb_format.specs.Content.{Member, word, unit, Content, leaf, content_at, text_leaf}
use Rattle.resb_format.specs.Content.{counted_text}
use Rattle.resb_format.specs.Error.{Refusal}
use Rattle.resb_format.specs.Parts.{Parts}
use Rattle.resb_format.specs.Lookups.{index_in}
use Rattle.resb_walk.specs.BlockRefusals.{text_refusal_in, counted_refusal, word_refusal}

abbrev pub member_content : Parts → Member → Option Content
member_content p (word w) = content_at p w
member_content p (unit u) = text_leaf p (index_in p u)

abbrev pub content_refusal : Parts → Member → Refusal
content_refusal p (word w) = word_refusal p w
content_refusal p (unit u) = text_refusal_in p (index_in p u)

-- a string or an alias, by the text behind a count at a word of the body
abbrev pub counted_leaf : (List ℕ → Tree) → Parts → ℕ → Option Content
counted_leaf is p v = option_map (λ s. leaf (is s)) (counted_text p v)

-- the member is a string of the older form, or an alias, whose text begins at a word of the body
abbrev pub LeadsToCounted : Parts → Member → ℕ → Type 0
LeadsToCounted p m v =
    ((member_content p m ≡ counted_leaf string p v) ⊎ (member_content p m ≡ counted_leaf alias p v))
    × (content_refusal p m ≡ counted_refusal p v)

-- the bytes are as many units of the body, from behind the count at a word on
abbrev pub IsPartOf : List ℕ → ℕ → List ℕ → Type 0
IsPartOf body v bytes =
    (2 * v + 2 + length bytes / 2 ≤ length (units_of body))
    × (units_of bytes ≡ take (length bytes / 2) (drop (2 * v + 2) (units_of body)))
