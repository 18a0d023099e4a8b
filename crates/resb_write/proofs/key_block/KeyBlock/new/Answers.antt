-- The listed keys that are used, and where those of the tables stand.
use Rattle.std.proofs.Common.{◌≡◌, ℕ, List, map, filter, Some, inl, inr, sym, ◌∙◌}
use Rattle.std.proofs.Common.{ap, unwrap_or}
use Rattle.std.specs.Prelude.{slice_index}
use Rattle.std.proofs.lemmas.Result.{err_from_is_err_and}
use Rattle.resb_pool.specs.Plan.{nows}
use Rattle.indexmap.specs.IndexMap.{keys}
use Rattle.resb_layout.specs.KeyBlock.{used, position_in}
use Rattle.resb_layout.specs.TreeFaults.{key_fault}
use Rattle.resb_write.proofs.Distinct.{fault_same, same_keys}
use Rattle.resb_write.proofs.Known.{exact, placed}
use Rattle.resb_write.specs.Inner.NearPositions.{near_position_in}
use Rattle.resb_write.proofs.key_block.KeyBlock.new.Goals as goal
use Rattle.resb_write.proofs.Lists.{in_turn}
use Rattle.resb_write.proofs.NumberedKeys.{by_number}

pub returns-in_err-places-clause-err : goal.returns-in_err-places-clause-err
returns-in_err-places-clause-err c =
    let p = err_from_is_err_and c.from_residual-in_err-places.result
    c.from_residual-in_err-places.ensures.1 in
    rw (p.1, p.2) (λ us h. elim c.in_err-places.ensures.err [
      | inl memory ↦ inl memory
      | inr fault ↦
          let numbered = c.into_parts-distinct.ensures us h in
          let m = c.into_parts-distinct.result.0 in
          let list = c.args.list.now in
          let ks = used us list in
          let js = ap nows c.deref.ensures.value ∙ c.in_ok-keys.ensures.keys
          ∙ (λ i. filter (λ k. numbered.among k i) list) in
          let ws = nows c.as_slice.result.now in
          let ds : ws ≡ nows (keys m) = ap nows (c.as_slice.ensures ∙ c.keys.ensures.rest) in
          let same = fault_same (nows (keys m)) us (same_keys m.entries us numbered.among) ks in
          inr (sym (ap (λ l. key_fault l ks) ds ∙ same) ∙ sym (ap (key_fault ws) js) ∙ fault)
    ])

pub returns-clause-ok : goal.returns-clause-ok
returns-clause-ok c = λ us h.
    let numbered = c.into_parts-distinct.ensures us h in
    let m = c.into_parts-distinct.result.0 in
    let ns = c.into_parts-distinct.result.1.items in
    let ks = nows c.in_ok-keys.field-0.keys.items in
    let list = c.args.list.now in
    let js = c.in_ok-keys.ensures.keys ∙ (λ i. filter (λ k. numbered.among k i) list) in
    let here = ap nows c.deref.ensures.value in
    let ws = nows c.as_slice.result.now in
    let ds : ws ≡ nows (keys m) = ap nows (c.as_slice.ensures ∙ c.keys.ensures.rest) in
    let same = fault_same (nows (keys m)) us (same_keys m.entries us numbered.among) ks in
    let faultless = sym (ap (λ l. key_fault l ks) ds ∙ same) ∙ sym (ap (key_fault ws) here)
    ∙ c.in_ok-places.ensures.faultless in
    let is : (q : List ℕ) → near_position_in (nows c.deref.result.now) q ≡ position_in ks q =
    (λ q. ap (λ l. near_position_in l q) here ∙ exact us ks faultless list js q) in
    let found = λ (k : List ℕ). unwrap_or (near_position_in (nows c.deref.result.now) k) 0 in
    let places = c.deref-2.ensures.value ∙ c.in_ok-places.ensures.positions ∙ ap (map found) ds in
    record {
      keys = js;
      positions = in_turn (position_in ks) us (placed us ks faultless)
          ∙ ap (map Some) (sym (c.values_at-positions.ensures
          ∙ (λ i. map (slice_index (places i)) ns)
          ∙ by_number found (nows (keys m)) ns us numbered.numbers
          ∙ (λ i. map (λ k. unwrap_or (is k i) 0) us)));
      utf8 = c.in_ok-keys.ensures.utf8;
      faultless = faultless;
    }
