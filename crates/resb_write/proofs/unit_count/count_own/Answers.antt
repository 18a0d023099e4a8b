use Rattle.std.proofs.Common.{◌≡◌, ◌∙◌, ◌++◌, ◌∷◌, length, map, refl, ap, sym, subst, arith}
use Rattle.std.proofs.Common.{length-take}
use Rattle.std.proofs.lemmas.Result.{IfOk-weaker}
use Rattle.resb_tree.specs.Tree.{string, alias, binary, integer, int_vector}
use Rattle.resb_tree.specs.LayingOrder.{children, entry_keys}
use Rattle.resb_write.specs.Inner.Lending.{lent_of}
use Rattle.resb_write.specs.Inner.Room.{GivesInTurn}
use Rattle.resb_write.specs.Inner.Counted.{is_near, CountsOne}
use Rattle.resb_write.specs.Inner.Nodes.{IsNode, IsArrayOf, IsTableOf}
use Rattle.resb_write.proofs.KeyViews.{keys_values}
use Rattle.resb_write.proofs.PlacesLeft.{behind_table}
use Rattle.resb_write.proofs.Marks.{string_one, other_one, array_one, table_one}
use Rattle.resb_write.proofs.unit_count.count_own.Goals as goal

pub count_array-requires : goal.count_array-requires
count_array-requires c =
    let r = c.requires in
    let a : IsArrayOf c.in-Array.count r.0 = subst (λ m. IsNode m r.0) c.in-Array.is r.1 in
    omega (arith, r.2, ap (λ u. length (children u)) a.is, a.many)

pub take_positions-requires : goal.take_positions-requires
take_positions-requires c =
    let r = c.requires in
    let a : IsTableOf c.in-Table.count r.0 = subst (λ m. IsNode m r.0) c.in-Table.is r.1 in
    let ps = c.args.coming.now.positions.now in
    let os = c.args.coming.now.offsets.now in
    (behind_table r.3 ps os a.entries r.4 c.in-Table.count (keys_values a.entries ∙ a.many)
    (subst (λ u. GivesInTurn r.3 ps os (u ∷ r.4)) a.is r.5)).enough

pub count_table-requires : goal.count_table-requires
count_table-requires c =
    let r = c.requires in
    let a : IsTableOf c.in-Table.count r.0 = subst (λ m. IsNode m r.0) c.in-Table.is r.1 in
    omega (
      arith,
      r.2,
      ap (λ u. length (children u)) a.is,
      a.many,
      ap length c.take_positions.ensures.taken,
      length-take c.in-Table.count c.args.coming.now.positions.now,
    )

pub returns-in-String : goal.returns-in-String
returns-in-String c =
    let s = c.in-String.field-0.now in
    let ps = c.args.coming.now.positions.now in
    let os = c.args.coming.now.offsets.now in
    let ms = c.args.marks.now.items in
    let new = c.count_string.new.coming in
    let out = c.count_string.new.marks.items in
    record {
      counts = IfOk-weaker c.count_string.result _ _ (λ n h given t rest below is m are.
          let e : t ≡ string s = subst (λ k. IsNode k t) c.in-String.is is in
          subst (λ u. CountsOne (lent_of c.args.lent) given u rest below n new out) (sym e)
          (string_one (lent_of c.args.lent) given rest below ps os new ms out n s
          (subst (λ u. GivesInTurn given ps os (u ∷ rest)) e m)
          (subst (λ u. ms ≡ map (is_near (lent_of c.args.lent) given)
          (below ++ children u)) e are) h.0
          c.count_string.ensures.keeps h.1)) c.count_string.ensures.counts;
    }

pub returns-in-Array : goal.returns-in-Array
returns-in-Array c =
    let ps = c.args.coming.now.positions.now in
    let os = c.args.coming.now.offsets.now in
    let ms = c.args.marks.now.items in
    let out = c.count_array.new.marks.items in
    record {
      counts = IfOk-weaker c.count_array.result _ _ (λ n h given t rest below is m are.
          let a : IsArrayOf c.in-Array.count t = subst (λ k. IsNode k t) c.in-Array.is is in
          let k = subst (λ u. GivesInTurn given ps os (u ∷ rest)) a.is m in
          subst (λ u. CountsOne (lent_of c.args.lent) given u rest below n c.args.coming.now out)
          (sym a.is)
          (array_one (lent_of c.args.lent) given rest below ps os c.args.coming.now ms out n
          a.members c.in-Array.count
          a.many (record { keys = k.keys; texts = k.texts; near = k.near })
          (subst (λ u. ms ≡ map (is_near (lent_of c.args.lent) given)
          (below ++ children u)) a.is are) h))
          c.count_array.ensures;
    }

pub returns-in-Table : goal.returns-in-Table
returns-in-Table c =
    let ps = c.args.coming.now.positions.now in
    let os = c.args.coming.now.offsets.now in
    let ms = c.args.marks.now.items in
    let qs = c.take_positions.result.now in
    let k = c.in-Table.count in
    let new = c.take_positions.new.self in
    let out = c.count_table.new.marks.items in
    let r = c.requires in
    let b : IsTableOf k r.0 = subst (λ m. IsNode m r.0) c.in-Table.is r.1 in
    let enough = (behind_table r.3 ps os b.entries r.4 k (keys_values b.entries ∙ b.many)
    (subst (λ u. GivesInTurn r.3 ps os (u ∷ r.4)) b.is r.5)).enough in
    let long : length qs ≡ k = omega (
      arith,
      enough,
      ap length c.take_positions.ensures.taken,
      length-take k ps,
    ) in
    record {
      counts = IfOk-weaker c.count_table.result _ _ (λ n h given t rest below is m are.
          let a : IsTableOf k t = subst (λ j. IsNode j t) c.in-Table.is is in
          let es = a.entries in
          let many : length (entry_keys es) ≡ k = keys_values es ∙ a.many in
          subst (λ u. CountsOne (lent_of c.args.lent) given u rest below n new out) (sym a.is)
          (table_one (lent_of c.args.lent) given rest below ps os new ms out n es qs k many long
          c.take_positions.ensures.taken c.take_positions.ensures.left
          c.take_positions.ensures.keeps
          (subst (λ u. GivesInTurn given ps os (u ∷ rest)) a.is m)
          (subst (λ u. ms ≡ map (is_near (lent_of c.args.lent) given)
          (below ++ children u)) a.is are) h))
          c.count_table.ensures;
    }

pub returns-in-Alias : goal.returns-in-Alias
returns-in-Alias c =
    let b = alias c.in-Alias.field-0.now in
    let ps = c.args.coming.now.positions.now in
    let os = c.args.coming.now.offsets.now in
    let ms = c.args.marks.now.items in
    let out = c.count_other.new.marks.items in
    record {
      counts = IfOk-weaker c.count_other.result _ _ (λ n h given t rest below is m are.
          let e = subst (λ k. IsNode k t) c.in-Alias.is is in
          let k = subst (λ u. GivesInTurn given ps os (u ∷ rest)) e m in
          subst (λ u. CountsOne (lent_of c.args.lent) given u rest below n c.args.coming.now out)
          (sym e)
          (other_one (lent_of c.args.lent) given rest below ps os c.args.coming.now ms out n b refl
          refl refl
          (record { keys = k.keys; texts = k.texts; near = k.near })
          (subst (λ u. ms ≡ map (is_near (lent_of c.args.lent) given)
          (below ++ children u)) e are) h))
          c.count_other.ensures;
    }

pub returns-in-Binary : goal.returns-in-Binary
returns-in-Binary c =
    let b = binary c.in-Binary.field-0.now in
    let ps = c.args.coming.now.positions.now in
    let os = c.args.coming.now.offsets.now in
    let ms = c.args.marks.now.items in
    let out = c.count_other-in-Binary.new.marks.items in
    record {
      counts = IfOk-weaker c.count_other-in-Binary.result _ _ (λ n h given t rest below is m are.
          let e = subst (λ k. IsNode k t) c.in-Binary.is is in
          let k = subst (λ u. GivesInTurn given ps os (u ∷ rest)) e m in
          subst (λ u. CountsOne (lent_of c.args.lent) given u rest below n c.args.coming.now out)
          (sym e)
          (other_one (lent_of c.args.lent) given rest below ps os c.args.coming.now ms out n b refl
          refl refl
          (record { keys = k.keys; texts = k.texts; near = k.near })
          (subst (λ u. ms ≡ map (is_near (lent_of c.args.lent) given)
          (below ++ children u)) e are) h))
          c.count_other-in-Binary.ensures;
    }

pub returns-in-Integer : goal.returns-in-Integer
returns-in-Integer c =
    let b = integer c.in-Integer.field-0 in
    let ps = c.args.coming.now.positions.now in
    let os = c.args.coming.now.offsets.now in
    let ms = c.args.marks.now.items in
    let out = c.count_other-in-Integer.new.marks.items in
    record {
      counts = IfOk-weaker c.count_other-in-Integer.result _ _ (λ n h given t rest below is m are.
          let e = (subst (λ k. IsNode k t) c.in-Integer.is is).0 in
          let k = subst (λ u. GivesInTurn given ps os (u ∷ rest)) e m in
          subst (λ u. CountsOne (lent_of c.args.lent) given u rest below n c.args.coming.now out)
          (sym e)
          (other_one (lent_of c.args.lent) given rest below ps os c.args.coming.now ms out n b refl
          refl refl
          (record { keys = k.keys; texts = k.texts; near = k.near })
          (subst (λ u. ms ≡ map (is_near (lent_of c.args.lent) given)
          (below ++ children u)) e are) h))
          c.count_other-in-Integer.ensures;
    }

pub returns-in-IntVector : goal.returns-in-IntVector
returns-in-IntVector c =
    let b = int_vector c.in-IntVector.field-0.now in
    let ps = c.args.coming.now.positions.now in
    let os = c.args.coming.now.offsets.now in
    let ms = c.args.marks.now.items in
    let out = c.count_other-in-IntVector.new.marks.items in
    record {
      counts = IfOk-weaker c.count_other-in-IntVector.result _ _ (λ n h given t rest below is m are.
          let e = subst (λ k. IsNode k t) c.in-IntVector.is is in
          let k = subst (λ u. GivesInTurn given ps os (u ∷ rest)) e m in
          subst (λ u. CountsOne (lent_of c.args.lent) given u rest below n c.args.coming.now out)
          (sym e)
          (other_one (lent_of c.args.lent) given rest below ps os c.args.coming.now ms out n b refl
          refl refl
          (record { keys = k.keys; texts = k.texts; near = k.near })
          (subst (λ u. ms ≡ map (is_near (lent_of c.args.lent) given)
          (below ++ children u)) e are) h))
          c.count_other-in-IntVector.ensures;
    }
