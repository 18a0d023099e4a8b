use Rattle.std.proofs.Common.{◌≡◌, ◌∙◌, ◌∷◌, length, length-take, ap, sym, subst}
use Rattle.std.proofs.Common.{arith}
use Rattle.std.proofs.lemmas.Result.{on_ok_weaker}
use Rattle.resb_tree.specs.Tree.{string, alias, binary, integer, int_vector}
use Rattle.resb_tree.specs.LayingOrder.{children}
use Rattle.resb_write.specs.Inner.Lending.{lent_of}
use Rattle.resb_write.specs.Inner.StackSteps.{LaysNext}
use Rattle.resb_write.specs.Inner.Room.{laid_of, own_size, GivesInTurn}
use Rattle.resb_write.specs.Inner.Seen.{HasRoom, TakesNoMore}
use Rattle.resb_write.specs.Inner.Nodes.{IsNode, IsArrayOf, IsTableOf}
use Rattle.resb_write.proofs.KeyViews.{keys_values}
use Rattle.resb_write.proofs.PlacesLeft.{string_left, string_known, behind_string, behind_table}
use Rattle.resb_write.proofs.PlacesLeft.{table_known, table_left}
use Rattle.resb_write.proofs.tree_bodies.step.Goals as goal

pub take_offset-requires : goal.take_offset-requires
take_offset-requires c =
    let r = c.requires in
    let ps = c.args.coming.now.positions.now in
    let os = c.args.coming.now.offsets.now in
    let s = c.in-String.field-0.now in
    let e : r.0 ≡ string s = subst (λ m. IsNode m r.0) c.in-String.is r.1 in
    let b = behind_string r.4 ps os s r.5 (subst (λ u. GivesInTurn r.4 ps os (u ∷ r.5)) e r.6) in
    omega (arith, ap length b.is)

pub step_string-requires : goal.step_string-requires
step_string-requires c =
    let r = c.requires in
    let ps = c.args.coming.now.positions.now in
    let os = c.args.coming.now.offsets.now in
    let s = c.in-String.field-0.now in
    let e : r.0 ≡ string s = subst (λ m. IsNode m r.0) c.in-String.is r.1 in
    (string_known r.4 ps os s r.5 c.take_offset.result c.take_offset.new.self.offsets.now
    c.take_offset.ensures.taken (subst (λ u. GivesInTurn r.4 ps os (u ∷ r.5)) e r.6)).1

pub returns-in-String-clause-step : goal.returns-in-String-clause-step
returns-in-String-clause-step c =
    let ps = c.args.coming.now.positions.now in
    let os = c.args.coming.now.offsets.now in
    let s = c.in-String.field-0.now in
    let laid = laid_of c.args.bodies.now in
    on_ok_weaker c.step_string.result (λ h given at t rest pack is n.
    let e : t ≡ string s = subst (λ m. IsNode m t) c.in-String.is is in
    subst (λ u. LaysNext (lent_of c.args.ground.now.lent) given laid c.args.words.now.items u laid
    c.step_string.new.words.items)
    (sym e) (h (lent_of c.args.ground.now.lent) given laid s pack (string_known given ps os s rest
    c.take_offset.result
    c.take_offset.new.self.offsets.now c.take_offset.ensures.taken
    (subst (λ u. GivesInTurn given ps os (u ∷ rest)) e n)).0)) c.step_string.ensures

pub returns-in-String-clause-left : goal.returns-in-String-clause-left
returns-in-String-clause-left c =
    let ps = c.args.coming.now.positions.now in
    let os = c.args.coming.now.offsets.now in
    let s = c.in-String.field-0.now in
    on_ok_weaker c.step_string.result (λ h given t rest is n.
    let e : t ≡ string s = subst (λ m. IsNode m t) c.in-String.is is in
    string_left given ps os s rest c.take_offset.result c.take_offset.new.self.positions.now
    c.take_offset.new.self.offsets.now c.take_offset.ensures.taken c.take_offset.ensures.keeps
    (subst (λ u. GivesInTurn given ps os (u ∷ rest)) e n)) c.step_string.ensures

pub returns-in-String-clause-takes : goal.returns-in-String-clause-takes
returns-in-String-clause-takes c =
    let room = c.requires.2 in
    on_ok_weaker c.step_string.result (λ h t is. record {
      aligned = room.aligned;
      units = omega arith;
      bytes = omega arith;
    }) c.step_string.ensures

pub step_path-requires : goal.step_path-requires
step_path-requires c =
    let r = c.requires in
    let e : r.0 ≡ alias c.in-Alias.path.now = subst (λ m. IsNode m r.0) c.in-Alias.is r.1 in
    subst (λ u. HasRoom c.args.ground.now.base c.args.bodies.now (own_size u)) e r.2

pub returns-in-Alias-clause-step : goal.returns-in-Alias-clause-step
returns-in-Alias-clause-step c =
    on_ok_weaker c.step_path.result (λ h given at t rest pack is n.
    let e : t ≡ alias c.in-Alias.path.now = subst (λ m. IsNode m t) c.in-Alias.is is in
    subst (λ u. LaysNext (lent_of c.args.ground.now.lent) given
    (laid_of c.args.bodies.now) c.args.words.now.items u
    (laid_of c.step_path.new.bodies) c.step_path.new.words.items) (sym e) (h given at))
    c.step_path.ensures.step

pub returns-in-Alias-clause-left : goal.returns-in-Alias-clause-left
returns-in-Alias-clause-left c =
    let ps = c.args.coming.now.positions.now in
    let os = c.args.coming.now.offsets.now in
    on_ok_weaker c.step_path.result (λ h given t rest is n.
    let e : t ≡ alias c.in-Alias.path.now = subst (λ m. IsNode m t) c.in-Alias.is is in
    let k = subst (λ u. GivesInTurn given ps os (u ∷ rest)) e n in
    record { keys = k.keys; texts = k.texts; near = k.near }) c.step_path.ensures.step

pub returns-in-Alias-clause-takes : goal.returns-in-Alias-clause-takes
returns-in-Alias-clause-takes c =
    on_ok_weaker c.step_path.result (λ h t is.
    let e : t ≡ alias c.in-Alias.path.now = subst (λ m. IsNode m t) c.in-Alias.is is in
    subst (λ u. TakesNoMore c.args.ground.now.base c.args.bodies.now c.step_path.new.bodies
    (own_size u))
    (sym e) h)
    c.step_path.ensures.takes

pub step_array-requires-clause-room : goal.step_array-requires-clause-room
step_array-requires-clause-room c =
    let r = c.requires in
    let a : IsArrayOf c.in-Array.count r.0 = subst (λ m. IsNode m r.0) c.in-Array.is r.1 in
    subst (HasRoom c.args.ground.now.base c.args.bodies.now) (ap own_size a.is ∙ a.many) r.2

pub step_array-requires-clause-enough : goal.step_array-requires-clause-enough
step_array-requires-clause-enough c =
    let r = c.requires in
    let a : IsArrayOf c.in-Array.count r.0 = subst (λ m. IsNode m r.0) c.in-Array.is r.1 in
    omega (arith, r.3, ap (λ u. length (children u)) a.is, a.many)

pub returns-in-Array-clause-step : goal.returns-in-Array-clause-step
returns-in-Array-clause-step c =
    on_ok_weaker c.step_array.result (λ h given at t rest pack is n.
    let a : IsArrayOf c.in-Array.count t = subst (λ m. IsNode m t) c.in-Array.is is in
    subst (λ u. LaysNext (lent_of c.args.ground.now.lent) given
    (laid_of c.args.bodies.now) c.args.words.now.items u
    (laid_of c.step_array.new.bodies) c.step_array.new.words.items) (sym a.is)
    (h given at a.members a.many)) c.step_array.ensures.step

pub returns-in-Array-clause-left : goal.returns-in-Array-clause-left
returns-in-Array-clause-left c =
    let ps = c.args.coming.now.positions.now in
    let os = c.args.coming.now.offsets.now in
    on_ok_weaker c.step_array.result (λ h given t rest is n.
    let a : IsArrayOf c.in-Array.count t = subst (λ m. IsNode m t) c.in-Array.is is in
    let k = subst (λ u. GivesInTurn given ps os (u ∷ rest)) a.is n in
    record { keys = k.keys; texts = k.texts; near = k.near }) c.step_array.ensures.step

pub returns-in-Array-clause-takes : goal.returns-in-Array-clause-takes
returns-in-Array-clause-takes c =
    on_ok_weaker c.step_array.result (λ h t is.
    let a : IsArrayOf c.in-Array.count t = subst (λ m. IsNode m t) c.in-Array.is is in
    subst (TakesNoMore c.args.ground.now.base c.args.bodies.now c.step_array.new.bodies)
    (sym (ap own_size a.is ∙ a.many)) h) c.step_array.ensures.takes

pub take_positions-positions-requires : goal.take_positions-positions-requires
take_positions-positions-requires c =
    let r = c.requires in
    let a : IsTableOf c.in-Table.count r.0 = subst (λ m. IsNode m r.0) c.in-Table.is r.1 in
    let ps = c.args.coming.now.positions.now in
    let os = c.args.coming.now.offsets.now in
    (behind_table r.4 ps os a.entries r.5 c.in-Table.count (keys_values a.entries ∙ a.many)
    (subst (λ u. GivesInTurn r.4 ps os (u ∷ r.5)) a.is r.6)).enough

pub step_table-requires-clause-room : goal.step_table-requires-clause-room
step_table-requires-clause-room c =
    let r = c.requires in
    let b : IsTableOf c.in-Table.count r.0 = subst (λ m. IsNode m r.0) c.in-Table.is r.1 in
    let ps = c.args.coming.now.positions.now in
    let os = c.args.coming.now.offsets.now in
    let enough = (behind_table r.4 ps os b.entries r.5 c.in-Table.count
    (keys_values b.entries ∙ b.many)
    (subst (λ u. GivesInTurn r.4 ps os (u ∷ r.5)) b.is r.6)).enough in
    let long : length c.take_positions-positions.result.now ≡ c.in-Table.count = omega (
      arith,
      enough,
      ap length c.take_positions-positions.ensures.taken,
      length-take c.in-Table.count ps,
    ) in
    subst (HasRoom c.args.ground.now.base c.args.bodies.now) (ap own_size b.is ∙ b.many
    ∙ sym long) r.2

pub step_table-requires-clause-enough : goal.step_table-requires-clause-enough
step_table-requires-clause-enough c =
    let r = c.requires in
    let b : IsTableOf c.in-Table.count r.0 = subst (λ m. IsNode m r.0) c.in-Table.is r.1 in
    let ps = c.args.coming.now.positions.now in
    let os = c.args.coming.now.offsets.now in
    let enough = (behind_table r.4 ps os b.entries r.5 c.in-Table.count
    (keys_values b.entries ∙ b.many)
    (subst (λ u. GivesInTurn r.4 ps os (u ∷ r.5)) b.is r.6)).enough in
    let long : length c.take_positions-positions.result.now ≡ c.in-Table.count = omega (
      arith,
      enough,
      ap length c.take_positions-positions.ensures.taken,
      length-take c.in-Table.count ps,
    ) in
    omega (arith, r.3, ap (λ u. length (children u)) b.is, b.many, long)

pub returns-in-Table-clause-step : goal.returns-in-Table-clause-step
returns-in-Table-clause-step c =
    let r = c.requires in
    let b : IsTableOf c.in-Table.count r.0 = subst (λ m. IsNode m r.0) c.in-Table.is r.1 in
    let ps = c.args.coming.now.positions.now in
    let os = c.args.coming.now.offsets.now in
    let enough = (behind_table r.4 ps os b.entries r.5 c.in-Table.count
    (keys_values b.entries ∙ b.many)
    (subst (λ u. GivesInTurn r.4 ps os (u ∷ r.5)) b.is r.6)).enough in
    let long : length c.take_positions-positions.result.now ≡ c.in-Table.count = omega (
      arith,
      enough,
      ap length c.take_positions-positions.ensures.taken,
      length-take c.in-Table.count ps,
    ) in
    on_ok_weaker c.step_table.result (λ h given at t rest pack is n.
    let a : IsTableOf c.in-Table.count t = subst (λ m. IsNode m t) c.in-Table.is is in
    let es = a.entries in
    subst (λ u. LaysNext (lent_of c.args.ground.now.lent) given
    (laid_of c.args.bodies.now) c.args.words.now.items u
    (laid_of c.step_table.new.bodies) c.step_table.new.words.items) (sym a.is)
    (h given at es (a.many ∙ sym long) (record {
      ascend = a.ascend;
      positions = table_known given ps os es rest c.in-Table.count (keys_values es ∙ a.many)
          c.take_positions-positions.result.now c.take_positions-positions.ensures.taken
          (subst (λ u. GivesInTurn given ps os (u ∷ rest)) a.is n);
    }))) c.step_table.ensures.step

pub returns-in-Table-clause-left : goal.returns-in-Table-clause-left
returns-in-Table-clause-left c =
    let ps = c.args.coming.now.positions.now in
    let os = c.args.coming.now.offsets.now in
    on_ok_weaker c.step_table.result (λ h given t rest is n.
    let a : IsTableOf c.in-Table.count t = subst (λ m. IsNode m t) c.in-Table.is is in
    let es = a.entries in
    table_left given ps os es rest c.in-Table.count (keys_values es ∙ a.many)
    c.take_positions-positions.new.self.positions.now
    c.take_positions-positions.new.self.offsets.now
    c.take_positions-positions.ensures.left c.take_positions-positions.ensures.keeps
    (subst (λ u. GivesInTurn given ps os (u ∷ rest)) a.is n)) c.step_table.ensures.step

pub returns-in-Table-clause-takes : goal.returns-in-Table-clause-takes
returns-in-Table-clause-takes c =
    let r = c.requires in
    let b : IsTableOf c.in-Table.count r.0 = subst (λ m. IsNode m r.0) c.in-Table.is r.1 in
    let ps = c.args.coming.now.positions.now in
    let os = c.args.coming.now.offsets.now in
    let enough = (behind_table r.4 ps os b.entries r.5 c.in-Table.count
    (keys_values b.entries ∙ b.many)
    (subst (λ u. GivesInTurn r.4 ps os (u ∷ r.5)) b.is r.6)).enough in
    let long : length c.take_positions-positions.result.now ≡ c.in-Table.count = omega (
      arith,
      enough,
      ap length c.take_positions-positions.ensures.taken,
      length-take c.in-Table.count ps,
    ) in
    on_ok_weaker c.step_table.result (λ h t is.
    let a : IsTableOf c.in-Table.count t = subst (λ m. IsNode m t) c.in-Table.is is in
    subst (TakesNoMore c.args.ground.now.base c.args.bodies.now c.step_table.new.bodies)
    (long ∙ sym a.many ∙ sym (ap own_size a.is)) h) c.step_table.ensures.takes

pub step_bytes-requires : goal.step_bytes-requires
step_bytes-requires c =
    let r = c.requires in
    let e : r.0 ≡ binary c.in-Binary.bytes.now = subst (λ m. IsNode m r.0) c.in-Binary.is r.1 in
    subst (λ u. HasRoom c.args.ground.now.base c.args.bodies.now (own_size u)) e r.2

pub returns-in-Binary-clause-step : goal.returns-in-Binary-clause-step
returns-in-Binary-clause-step c =
    on_ok_weaker c.step_bytes.result (λ h given at t rest pack is n.
    let e : t ≡ binary c.in-Binary.bytes.now = subst (λ m. IsNode m t) c.in-Binary.is is in
    subst (λ u. LaysNext (lent_of c.args.ground.now.lent) given
    (laid_of c.args.bodies.now) c.args.words.now.items u
    (laid_of c.step_bytes.new.bodies) c.step_bytes.new.words.items) (sym e) (h given at))
    c.step_bytes.ensures.step

pub returns-in-Binary-clause-left : goal.returns-in-Binary-clause-left
returns-in-Binary-clause-left c =
    let ps = c.args.coming.now.positions.now in
    let os = c.args.coming.now.offsets.now in
    on_ok_weaker c.step_bytes.result (λ h given t rest is n.
    let e : t ≡ binary c.in-Binary.bytes.now = subst (λ m. IsNode m t) c.in-Binary.is is in
    let k = subst (λ u. GivesInTurn given ps os (u ∷ rest)) e n in
    record { keys = k.keys; texts = k.texts; near = k.near }) c.step_bytes.ensures.step

pub returns-in-Binary-clause-takes : goal.returns-in-Binary-clause-takes
returns-in-Binary-clause-takes c =
    on_ok_weaker c.step_bytes.result (λ h t is.
    let e : t ≡ binary c.in-Binary.bytes.now = subst (λ m. IsNode m t) c.in-Binary.is is in
    subst (λ u. TakesNoMore c.args.ground.now.base c.args.bodies.now c.step_bytes.new.bodies
    (own_size u))
    (sym e) h)
    c.step_bytes.ensures.takes

pub step_integer-requires : goal.step_integer-requires
step_integer-requires c = let r = c.requires in (subst (λ m. IsNode m r.0) c.in-Integer.is r.1).1

pub returns-in-Integer-clause-step : goal.returns-in-Integer-clause-step
returns-in-Integer-clause-step c =
    on_ok_weaker c.step_integer.result (λ h given at t rest pack is n.
    let e : t ≡ integer c.in-Integer.number = (subst (λ m. IsNode m t) c.in-Integer.is is).0 in
    subst (λ u. LaysNext (lent_of c.args.ground.now.lent) given
    (laid_of c.args.bodies.now) c.args.words.now.items u
    (laid_of c.args.bodies.now) c.step_integer.new.words.items) (sym e)
    (h (lent_of c.args.ground.now.lent) given (laid_of c.args.bodies.now))) c.step_integer.ensures

pub returns-in-Integer-clause-left : goal.returns-in-Integer-clause-left
returns-in-Integer-clause-left c =
    let ps = c.args.coming.now.positions.now in
    let os = c.args.coming.now.offsets.now in
    on_ok_weaker c.step_integer.result (λ h given t rest is n.
    let e : t ≡ integer c.in-Integer.number = (subst (λ m. IsNode m t) c.in-Integer.is is).0 in
    let k = subst (λ u. GivesInTurn given ps os (u ∷ rest)) e n in
    record { keys = k.keys; texts = k.texts; near = k.near }) c.step_integer.ensures

pub returns-in-Integer-clause-takes : goal.returns-in-Integer-clause-takes
returns-in-Integer-clause-takes c =
    let room = c.requires.2 in
    on_ok_weaker c.step_integer.result (λ h t is. record {
      aligned = room.aligned;
      units = omega arith;
      bytes = omega arith;
    }) c.step_integer.ensures

pub step_numbers-requires : goal.step_numbers-requires
step_numbers-requires c =
    let r = c.requires in
    let e : r.0 ≡ int_vector c.in-IntVector.numbers.now = subst (λ m. IsNode m r.0)
    c.in-IntVector.is r.1 in
    subst (λ u. HasRoom c.args.ground.now.base c.args.bodies.now (own_size u)) e r.2

pub returns-in-IntVector-clause-step : goal.returns-in-IntVector-clause-step
returns-in-IntVector-clause-step c =
    on_ok_weaker c.step_numbers.result (λ h given at t rest pack is n.
    let e : t ≡ int_vector c.in-IntVector.numbers.now =
    subst (λ m. IsNode m t) c.in-IntVector.is is in
    subst (λ u. LaysNext (lent_of c.args.ground.now.lent) given
    (laid_of c.args.bodies.now) c.args.words.now.items u
    (laid_of c.step_numbers.new.bodies) c.step_numbers.new.words.items) (sym e) (h given at))
    c.step_numbers.ensures.step

pub returns-in-IntVector-clause-left : goal.returns-in-IntVector-clause-left
returns-in-IntVector-clause-left c =
    let ps = c.args.coming.now.positions.now in
    let os = c.args.coming.now.offsets.now in
    on_ok_weaker c.step_numbers.result (λ h given t rest is n.
    let e : t ≡ int_vector c.in-IntVector.numbers.now =
    subst (λ m. IsNode m t) c.in-IntVector.is is in
    let k = subst (λ u. GivesInTurn given ps os (u ∷ rest)) e n in
    record { keys = k.keys; texts = k.texts; near = k.near }) c.step_numbers.ensures.step

pub returns-in-IntVector-clause-takes : goal.returns-in-IntVector-clause-takes
returns-in-IntVector-clause-takes c =
    on_ok_weaker c.step_numbers.result (λ h t is.
    let e : t ≡ int_vector c.in-IntVector.numbers.now =
    subst (λ m. IsNode m t) c.in-IntVector.is is in
    subst (λ u. TakesNoMore c.args.ground.now.base c.args.bodies.now c.step_numbers.new.bodies
    (own_size u))
    (sym e) h)
    c.step_numbers.ensures.takes
