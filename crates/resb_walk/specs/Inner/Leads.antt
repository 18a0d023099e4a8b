-- What a member leads to, as far as its word shows.
--     LeadsTo p m r           the answer r says where the member m leads
--     Shows p m g             g is what the member m is, as far as its word shows
use Rattle.std.specs.Prelude.{◌≡◌, ◌<◌, ◌%◌, ◌^◌, Result, Ok, Err, Some, None}
use Rattle.resb_tree.specs.Tree.{integer}
use Rattle.resb_format.specs.Content.{Member, word, leaf, text_leaf}
use Rattle.resb_format.specs.Parts.{Parts}
use Rattle.resb_format.specs.declared.error.ReadingError.{ReadingError}
use Rattle.resb_walk.specs.BlockRefusals.{Says, text_refusal_in}
use Rattle.resb_walk.specs.Inner.MemberContent.{member_content, content_refusal, LeadsToCounted}
use Rattle.resb_walk.specs.Inner.Members.{content_of}
use Rattle.resb_walk.specs.Refusals.{IsFault}
use Rattle.resb_walk.specs.declared.leads.Glance.{Glance}
use Rattle.resb_walk.specs.declared.leads.Glance.TheVariants as glance
use Rattle.resb_walk.specs.declared.leads.Lead.{Lead}
use Rattle.resb_walk.specs.declared.leads.Lead.TheVariants.{Text, Counted, Plain}

-- to the string with an index; to the text behind a count at a word of the body; to what stands
-- there; or to nothing, and the fault of it is said
abbrev pub LeadsTo : Parts → Member → Result Lead ReadingError → Type 0
LeadsTo p m (Ok (Text u)) =
    (member_content p m ≡ text_leaf p u) × (content_refusal p m ≡ text_refusal_in p u)
LeadsTo p m (Ok (Counted v)) = LeadsToCounted p m v × (v < 2 ^ 28)
LeadsTo p m (Ok (Plain s)) = member_content p m ≡ Some (content_of s)
LeadsTo p m (Err e) = (member_content p m ≡ None) × IsFault e × Says (content_refusal p m) e

-- the string with an index; the number of a word; or what stands at a word
abbrev pub Shows : Parts → Member → Glance → Type 0
Shows p m (glance.Text u) =
    (member_content p m ≡ text_leaf p u) × (content_refusal p m ≡ text_refusal_in p u)
Shows p m (glance.Integer w) = member_content p m ≡ Some (leaf (integer (w % 2 ^ 28)))
Shows p m (glance.Other w) = m ≡ word w
