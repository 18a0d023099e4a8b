-- A member whose type is that of the strings of the 16-bit block has a string.
use Rattle.std.proofs.Common.{◌≡◌, ℕ, ◌/◌, ◌%◌, ◌^◌, ◌==◌, Bool, true, false, List, [], Option}
use Rattle.std.proofs.Common.{Some, None, refl, option_map}
use Rattle.resb_tree.specs.Tree.{Tree, string}
use Rattle.resb_format.specs.Content.{Member, word, unit, Content, leaf, content_at}
use Rattle.resb_format.specs.Lookups.{text_in, index_in}
use Rattle.resb_format.specs.Parts.{Parts}
use Rattle.resb_format.specs.Descriptor.{type_number}
use Rattle.resb_format.specs.declared.repr_type.ResourceReprType.TheVariants as kind
use Rattle.resb_walk.specs.Inner.MemberContent.{member_content}
use Rattle.resb_opened.proofs.StandingLemmas.{holds, never_none}
use Rattle.resb_opened.specs.Standing.{Denoted}

-- a string, or nothing
abbrev may_be : Option (List ℕ) → Option Content
may_be o = option_map (λ s. leaf (string s)) o

-- a word of that type leads to a string, or to nothing
by_value : (p : Parts) (w : ℕ) → w / 2 ^ 28 ≡ type_number kind.StringV2 → (b : Bool)
    → (w % 2 ^ 28 == 0) ≡ b → (o : Option (List ℕ)) × (content_at p w ≡ may_be o)
unfolding content_at
by_value p w e true h = (Some [], rw (e, h) refl)
by_value p w e false h = (text_in p (w % 2 ^ 28), rw (e, h) refl)

by_text : (p : Parts) (m : Member) (t : Tree) (o : Option (List ℕ)) → member_content p m ≡ may_be o
    → Denoted p m t → (s : List ℕ) × (t ≡ string s)
by_text p m t None e d = absurd (never_none p m t e d)
by_text p m t (Some s) e d = (s, holds p m t (leaf (string s)) e d)

-- a word of that type stands for a string
pub typed_word : (p : Parts) (w : ℕ) (t : Tree) → w / 2 ^ 28 ≡ type_number kind.StringV2
    → Denoted p (word w) t → (s : List ℕ) × (t ≡ string s)
typed_word p w t e d =
    let (o, is) = by_value p w e (w % 2 ^ 28 == 0) refl in by_text p (word w) t o is d

-- and so does a unit
pub any_unit : (p : Parts) (u : ℕ) (t : Tree) → Denoted p (unit u) t
    → (s : List ℕ) × (t ≡ string s)
any_unit p u t d = by_text p (unit u) t (text_in p (index_in p u)) refl d
