-- An iteration puts the next key at the position behind those before it.
use Rattle.std.proofs.Common.{◌≡◌, ◌+◌, ◌-◌, ◌^◌, min, List, ℕ, [], ◌∷◌, ◌++◌, Bor, length, take}
use Rattle.std.proofs.Common.{get_or, sym, ◌∙◌, ap, arith}
use Rattle.std.proofs.lemmas.Map.Text.{hash_map_updates_str}
use Rattle.resb_pool.specs.Plan.{nows, at_text}
use Rattle.resb_pool.proofs.PlacingLemmas.{at_empty}
use Rattle.resb_layout.specs.KeyBlock.{key_bytes}
use Rattle.resb_write.specs.Inner.NearPositions.{near_position_in}
use Rattle.resb_pool.proofs.TextLoops.{nows-take}
use Rattle.resb_write.proofs.Keys.{place_moves, position_moves}
use Rattle.resb_write.proofs.key_block.last_positions.Goals as goal

pub loop-key-init : goal.loop-key-init
loop-key-init c = record {
  position = omega arith;
  positions =
      λ q. at_empty c.new-positions.result q c.new-positions.ensures.empty;
}

pub loop-key-preserved : goal.loop-key-preserved
loop-key-preserved c =
    let xs = c.args.keys.now in
    let i = c.loop-key.key-index in
    let d : Bor (List ℕ) = record { ref_ptr = (0, 0); now = [] } in
    let a = (get_or xs i d).now in
    let js = nows (take i xs) in
    let e : nows (take (i + 1) xs) ≡ js ++ a ∷ [] = nows-take xs i d (omega arith) in
    let v = c.loop-key.invariant in
    record {
      position = position_moves a js c.loop-key.position c.saturating_add-position.result
          (c.saturating_add-position.ensures) v.position
          ∙ ap (λ l. min (32 + length (key_bytes l)) (2 ^ 64 - 1)) (sym e);
      positions = λ q. place_moves a q js _ (at_text c.loop-key.positions q)
          (at_text c.insert.new.self q)
          (hash_map_updates_str a c.loop-key.positions c.insert.new.self _
          c.in_ok-insert.ensures.updates q) (omega (arith, v.position)) (v.positions q)
          ∙ ap (λ l. near_position_in l q) (sym e);
    }
