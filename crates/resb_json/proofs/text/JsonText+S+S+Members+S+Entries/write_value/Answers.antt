use Rattle.std.proofs.Common.{◌≡◌, ◌++◌, ◌∷◌, [], ap, refl, false, codes}
use Rattle.std.proofs.lemmas.Result.{on_ok_weaker}
use Rattle.resb_json.specs.Inner.Jobs.{jobs_in}
use Rattle.resb_json.specs.declared.task.Task.TheVariants.{Members, Entries, Digits, Numbers}
use Rattle.resb_json.proofs.Calls.{extended}
use Rattle.resb_json.proofs.Jobs.{put_one}
use Rattle.resb_json.proofs.Values.{value_alias, value_array, value_table, value_binary}
use Rattle.resb_json.proofs.Values.{value_vector}
use Rattle.resb_json.proofs.text.JsonText+S+S+Members+S+Entries.write_value.Goals as goal

pub returns-in_ok-write_text-in-Alias : goal.returns-in_ok-write_text-in-Alias
returns-in_ok-write_text-in-Alias g c =
    let s = g.S.Shown in
    let first = c.args.self.now.pending.items in
    let path = c.write_text-in-Alias.new.block.items in
    let new = c.extend_from_slice-in-Alias.new.self.items in
    on_ok_weaker c.extend_from_slice-in-Alias.result (λ (w : new ≡ path ++ codes "}").
    value_alias c.args.block.now.items new (jobs_in s.tree s.members s.entries first)
    (jobs_in s.tree s.members s.entries c.write_text-in-Alias.new.self.pending.items)
    (s.tree c.args.shown) c.extend_from_slice.new.self.items path c.in-Alias.ensures.0
    c.in-Alias.ensures.1 c.in_ok-extend_from_slice-in-Alias.ensures.items
    c.in_ok-write_text-in-Alias.ensures.written w
    (ap (λ p. jobs_in s.tree s.members s.entries p.items)
    c.in_ok-write_text-in-Alias.ensures.kept))
    (extended c.extend_from_slice-in-Alias.result new path (codes "}") (path ++ codes "}")
    c.extend_from_slice-in-Alias.ensures.items refl)

pub returns-in_ok-extend_from_slice-in-Array : goal.returns-in_ok-extend_from_slice-in-Array
returns-in_ok-extend_from_slice-in-Array g c =
    let s = g.S.Shown in
    let first = c.args.self.now.pending.items in
    let left = Members c.in-Array.members false in
    let new = c.put.new.self.pending.items in
    on_ok_weaker c.put.result (λ (w : new ≡ first ++ left ∷ []).
    value_array c.args.block.now.items c.extend_from_slice-in-Array.new.self.items
    (jobs_in s.tree s.members s.entries first) (jobs_in s.tree s.members s.entries new)
    (s.tree c.args.shown) (s.members c.in-Array.members) c.in-Array.ensures
    c.in_ok-extend_from_slice-in-Array.ensures.items
    (put_one s.tree s.members s.entries first new left w)) c.put.ensures

pub returns-in_ok-extend_from_slice-in-Table : goal.returns-in_ok-extend_from_slice-in-Table
returns-in_ok-extend_from_slice-in-Table g c =
    let s = g.S.Shown in
    let first = c.args.self.now.pending.items in
    let left = Entries c.in-Table.entries false in
    let new = c.put-in-Table.new.self.pending.items in
    on_ok_weaker c.put-in-Table.result (λ (w : new ≡ first ++ left ∷ []).
    value_table c.args.block.now.items c.extend_from_slice-in-Table.new.self.items
    (jobs_in s.tree s.members s.entries first) (jobs_in s.tree s.members s.entries new)
    (s.tree c.args.shown) (s.entries c.in-Table.entries) c.in-Table.ensures
    c.in_ok-extend_from_slice-in-Table.ensures.items
    (put_one s.tree s.members s.entries first new left w)) c.put-in-Table.ensures

pub returns-in_ok-extend_from_slice-in-Binary : goal.returns-in_ok-extend_from_slice-in-Binary
returns-in_ok-extend_from_slice-in-Binary g c =
    let s = g.S.Shown in
    let first = c.args.self.now.pending.items in
    let left = Digits c.in-Binary.bytes in
    let new = c.put-in-Binary.new.self.pending.items in
    on_ok_weaker c.put-in-Binary.result (λ (w : new ≡ first ++ left ∷ []).
    value_binary c.args.block.now.items c.extend_from_slice-in-Binary.new.self.items
    (jobs_in s.tree s.members s.entries first) (jobs_in s.tree s.members s.entries new)
    (s.tree c.args.shown) c.in-Binary.bytes.now c.in-Binary.ensures
    c.in_ok-extend_from_slice-in-Binary.ensures.items
    (put_one s.tree s.members s.entries first new left w)) c.put-in-Binary.ensures

pub returns-in_ok-extend_from_slice-in-IntVector : goal.returns-in_ok-extend_from_slice-in-IntVector
returns-in_ok-extend_from_slice-in-IntVector g c =
    let s = g.S.Shown in
    let first = c.args.self.now.pending.items in
    let left = Numbers c.args.shown 0 in
    let new = c.put-in-IntVector.new.self.pending.items in
    on_ok_weaker c.put-in-IntVector.result (λ (w : new ≡ first ++ left ∷ []).
    value_vector c.args.block.now.items c.extend_from_slice-in-IntVector.new.self.items
    (jobs_in s.tree s.members s.entries first) (jobs_in s.tree s.members s.entries new)
    (s.tree c.args.shown) c.in-IntVector.ensures.0 c.in-IntVector.ensures.1
    c.in_ok-extend_from_slice-in-IntVector.ensures.items
    (put_one s.tree s.members s.entries first new left w)) c.put-in-IntVector.ensures
