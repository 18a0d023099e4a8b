use Rattle.std.proofs.Common.{◌∙◌, sym, ap}
use Rattle.std.specs.Prelude.{option_map}
use Rattle.resb_tree.specs.Tree.{string}
use Rattle.resb_format.specs.Content.{leaf}
use Rattle.resb_format.specs.Lookups.{text_in}
use Rattle.resb_format.specs.Parts.{parts_in}
use Rattle.resb_walk.specs.Inner.MemberContent.{member_content}
use Rattle.resb_walk.specs.Inner.Members.{member_of, content_of}
use Rattle.resb_opened.specs.Handles.{tree_at}
use Rattle.resb_opened.proofs.StandingLemmas.{holds, never_none}
use Rattle.resb_opened.proofs.handle.Handle.standing.Goals as goal

pub unreachable-requires : goal.unreachable-requires
unreachable-requires c =
    let self = c.args.self in
    let p = parts_in self.file.now.parts in
    never_none p (member_of self.at) (tree_at self)
    (ap (λ m. member_content p (member_of m)) c.in-Word.is ∙ c.in-Err.ensures.stands.0)
    self.stands.1

pub unreachable-requires-in-Err-text_at : goal.unreachable-requires-in-Err-text_at
unreachable-requires-in-Err-text_at c =
    let self = c.args.self in
    let p = parts_in self.file.now.parts in
    never_none p (member_of self.at) (tree_at self)
    (ap (λ m. member_content p (member_of m)) c.in-Unit.is
    ∙ ap (option_map (λ s. leaf (string s)))
    (ap (text_in p) (sym c.index_of.ensures) ∙ c.in-Err-text_at.ensures.stands.0))
    self.stands.1

pub returns-in-Ok-clause-holds : goal.returns-in-Ok-clause-holds
returns-in-Ok-clause-holds c =
    let self = c.args.self in
    let p = parts_in self.file.now.parts in
    holds p (member_of self.at) (tree_at self) (content_of c.in-Ok.standing)
    (ap (λ m. member_content p (member_of m)) c.in-Word.is ∙ c.in-Ok.ensures.stands)
    self.stands.1

pub returns-in-Ok-text_at-clause-holds : goal.returns-in-Ok-text_at-clause-holds
returns-in-Ok-text_at-clause-holds c =
    let self = c.args.self in
    let p = parts_in self.file.now.parts in
    holds p (member_of self.at) (tree_at self) _
    (ap (λ m. member_content p (member_of m)) c.in-Unit.is
    ∙ ap (option_map (λ s. leaf (string s)))
    (ap (text_in p) (sym c.index_of.ensures) ∙ c.in-Ok-text_at.ensures.stands))
    self.stands.1
