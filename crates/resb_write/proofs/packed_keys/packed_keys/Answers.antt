use Rattle.std.proofs.Common.{ap, map, sym, ◌∙◌, subst, List, ℕ}
use Rattle.std.specs.List.{All}
use Rattle.std.specs.Str.{IsUtf8}
use Rattle.std.proofs.lemmas.Result.{IfOk-weaker}
use Rattle.resb_pool.specs.Plan.{nows}
use Rattle.resb_layout.specs.KeyBlock.{position_in}
use Rattle.resb_layout.specs.TreeFaults.{key_fault}
use Rattle.resb_pool.specs.declared.packing.Packing.TheVariants.{Plain}
use Rattle.resb_write.specs.Inner.NearPositions.{IsKeyBlock, IsKeyBlockBy}
use Rattle.resb_write.proofs.EndKeys.{block_alone}
use Rattle.resb_write.proofs.packed_keys.packed_keys.Goals as goal

alone : (us ks js : List (List ℕ)) (ps : List ℕ) → IsKeyBlock us ks js ps
    → IsKeyBlockBy Plain us ks js ps
alone us ks js ps k = record {
  keys = k.keys;
  positions = λ small. ap (λ l. map (position_in l) us) (sym k.keys) ∙ k.positions;
  utf8 = subst (All IsUtf8) k.keys k.utf8;
  faultless = ap (key_fault us) (sym k.keys) ∙ k.faultless;
}

pub returns-in-Plain-clause-ok : goal.returns-in-Plain-clause-ok
returns-in-Plain-clause-ok c = IfOk-weaker c.new.result _ _ (λ b h us n.
    subst (λ q. IsKeyBlockBy q us c.args.list.now (nows b.keys.items) b.positions.items)
    (sym c.in-Plain.is)
    (alone us c.args.list.now (nows b.keys.items) b.positions.items (h us n))) c.new.ensures.ok

pub returns-in-Compact-clause-ok : goal.returns-in-Compact-clause-ok
returns-in-Compact-clause-ok c = IfOk-weaker c.end_keys.result _ _ (λ b h us n.
    subst (λ q. IsKeyBlockBy q us c.args.list.now (nows b.keys.items) b.positions.items)
    (sym c.in-Compact.is)
    (block_alone us c.args.list.now (nows b.keys.items) b.positions.items (h us n)))
    c.end_keys.ensures.ok
