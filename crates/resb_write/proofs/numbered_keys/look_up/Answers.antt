use Rattle.std.proofs.Common.{sym, subst, ◌++◌, ◌∷◌, []}
use Rattle.std.specs.Map.{keys_of}
use Rattle.std.proofs.lemmas.Map.Text.{hash_map_updates_str}
use Rattle.resb_pool.specs.Plan.{nows, at_text}
use Rattle.resb_write.specs.Inner.Numbered.{AreNumbered}
use Rattle.resb_write.proofs.Keys.{key_moves}
use Rattle.resb_write.proofs.NumberedKeys.{numbered_push}
use Rattle.resb_write.proofs.numbered_keys.look_up.Goals as goal

pub returns : goal.returns
returns c = λ ns ks h. record {
  among = λ q. key_moves c.args.key.now q (at_text c.args.distinct.now q)
      (at_text c.insert_full.new.self q) ks
      (hash_map_updates_str c.args.key.now c.args.distinct.now c.insert_full.new.self _
      c.in_ok-number.ensures.updates q) (h.among q);
  numbers = subst (λ es. AreNumbered (nows (keys_of es)) (ns ++ c.in_ok-number.number ∷ [])
      (ks ++ c.args.key.now ∷ [])) (sym c.in_ok-number.ensures.entries)
      (numbered_push c.args.distinct.now.entries c.args.key tt ns ks h.numbers
      c.in_ok-number.number c.in_ok-number.ensures.index);
}
