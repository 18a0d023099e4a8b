use Rattle.std.proofs.Common.{ap, sym, ◌∙◌, ℕ, option_map}
use Rattle.resb_format.specs.Content.{Member}
use Rattle.resb_walk.specs.Inner.Members.{keyed_members}
use Rattle.resb_c.proofs.WithinLemmas.{get_first, get_none}
use Rattle.resb_c.proofs.within.value_at.Goals as goal

pub returns-in-Some : goal.returns-in-Some
returns-in-Some c =
    sym (ap (option_map (λ (e : ℕ × Member). e.1))
    (get_first (keyed_members c.args.entries) c.args.number _ _
    (sym c.behind.ensures ∙ c.in-Some.ensures)))

pub returns-in-None : goal.returns-in-None
returns-in-None c =
    sym (ap (option_map (λ (e : ℕ × Member). e.1))
    (get_none (keyed_members c.args.entries) c.args.number
    (sym c.behind.ensures ∙ c.in-None.ensures)))
