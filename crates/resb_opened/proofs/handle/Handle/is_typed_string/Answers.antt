use Rattle.std.proofs.Common.{◌≡◌, ◌/◌, ◌^◌, subst, arith}
use Rattle.resb_format.specs.Parts.{parts_in}
use Rattle.resb_format.specs.Descriptor.{type_number}
use Rattle.resb_format.specs.declared.repr_type.ResourceReprType.TheVariants as kind
use Rattle.resb_walk.specs.Inner.Members.{member_of}
use Rattle.resb_opened.specs.Handles.{tree_at}
use Rattle.resb_opened.specs.Standing.{Denoted}
use Rattle.resb_opened.proofs.TypedLemmas.{typed_word, any_unit}
use Rattle.resb_opened.proofs.handle.Handle.is_typed_string.Goals as goal

pub returns-in-Word : goal.returns-in-Word
returns-in-Word c e =
    let self = c.args.self in
    let p = parts_in self.file.now.parts in
    let is : c.in-Word.word / 2 ^ 28 ≡ type_number kind.StringV2 = grind (arith, e) in
    typed_word p c.in-Word.word (tree_at self) is
    (subst (λ m. Denoted p (member_of m) (tree_at self)) c.in-Word.is self.stands.1)

pub returns-in-Unit : goal.returns-in-Unit
returns-in-Unit c e =
    let self = c.args.self in
    let p = parts_in self.file.now.parts in
    any_unit p c.in-Unit.field-0 (tree_at self)
    (subst (λ m. Denoted p (member_of m) (tree_at self)) c.in-Unit.is self.stands.1)
