use Rattle.std.proofs.Common.{refl, subst, [], ◌∷◌, ◌++◌, ap, ◌∙◌, sym, append_assoc, Some}
use Rattle.std.proofs.Common.{append-nil}
use Rattle.resb_format.specs.Content.{list, entry_list}
use Rattle.resb_format.specs.Parts.{parts_in}
use Rattle.resb_walk.specs.Inner.Members.{member_of, members_of, keyed_members}
use Rattle.resb_walk.specs.Inner.Weighing.{IsEndOf, RestHolds}
use Rattle.resb_walk.specs.Pieces.{key_piece}
use Rattle.resb_walk.specs.Sums.{AddsUp}
use Rattle.resb_walk.proofs.Holding.{first_member_holds, first_entry_holds}
use Rattle.resb_walk.proofs.scale.Scale.next.Goals as goal

pub returns-in-Some-clause-taken : goal.returns-in-Some-clause-taken
returns-in-Some-clause-taken c xs zs h adds =
    let p = parts_in c.args.self.now.file in
    let ms = members_of c.in-List.members in
    let ns = members_of c.in-Some.later in
    let m = member_of c.in-Some.member in
    let ends = subst (λ r. IsEndOf p r c.args.inner.word) c.in-List.is h.ends in
    let holds = subst (λ r. RestHolds p r xs) c.in-List.is h.holds in
    let split = c.in-Some.ensures in
    let f = first_member_holds p ms ns m xs split holds in (
      [],
      f.0,
      f.1,
      f.2,
      refl,
      subst (AddsUp c.args.sums.now) (sym (append-nil zs)) adds,
      f.3,
      record {
        ends = (
          ends.0 ++ m ∷ [],
          ends.1 ∙ ap (λ ls. Some (list (ends.0 ++ ls))) split
              ∙ ap (λ ls. Some (list ls)) (sym (append_assoc ends.0 (m ∷ []) ns)),
        );
        holds = f.4;
      },
    )

pub returns-in_ok-len-in-Table-clause-taken : goal.returns-in_ok-len-in-Table-clause-taken
returns-in_ok-len-in-Table-clause-taken c xs zs h adds =
    let p = parts_in c.args.self.now.file in
    let es = keyed_members c.in-Table.entries in
    let fs = keyed_members c.in-Some-split.later in
    let place = c.in-Some-split.position in
    let m = member_of c.in-Some-split.member in
    let ends = subst (λ r. IsEndOf p r c.args.inner.word) c.in-Table.is h.ends in
    let holds = subst (λ r. RestHolds p r xs) c.in-Table.is h.holds in
    let split = c.in-Some-split.ensures in
    let f = first_entry_holds p es fs place m xs split holds in (
      key_piece f.0 ∷ [],
      f.1,
      f.2,
      f.4,
      refl,
      c.with_key.ensures zs f.0 adds (c.in_ok-len-in-Table.ensures.len f.0 f.3),
      f.5,
      record {
        ends = (
          ends.0 ++ (place, m) ∷ [],
          ends.1 ∙ ap (λ ls. Some (entry_list (ends.0 ++ ls))) split
              ∙ ap (λ ls. Some (entry_list ls)) (sym (append_assoc ends.0 ((place, m) ∷ []) fs)),
        );
        holds = f.6;
      },
    )
