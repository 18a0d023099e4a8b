-- The listed keys that are used and that the pool lacks, and where those of the tables stand.
use Rattle.std.proofs.Common.{◌≡◌, ℕ, List, map, filter, inl, inr, sym, ◌∙◌, ap, Some, None}
use Rattle.std.proofs.Common.{◌<◌, ◌^◌, length, subst}
use Rattle.std.specs.List.{All}
use Rattle.std.specs.Option.{is_none}
use Rattle.std.specs.Str.{IsUtf8}
use Rattle.std.specs.Prelude.{slice_index}
use Rattle.std.proofs.lemmas.Result.{err_from_is_err_and}
use Rattle.resb_pool.specs.Plan.{nows}
use Rattle.indexmap.specs.IndexMap.{keys}
use Rattle.resb_layout.specs.KeyBlock.{used, key_bytes}
use Rattle.resb_layout.specs.TreeFaults.{key_fault}
use Rattle.resb_pool.specs.declared.packing.Packing.TheVariants.{Plain}
use Rattle.resb_lent.specs.Lending.{lent_place}
use Rattle.resb_write.specs.WrittenWith.{position_beside}
use Rattle.resb_write.specs.Inner.Beside.{told_beside}
use Rattle.resb_write.specs.Inner.NearPositions.{near_position_in}
use Rattle.resb_write.proofs.Distinct.{fault_same, same_keys}
use Rattle.resb_write.proofs.KeysBeside.{all_told}
use Rattle.resb_write.proofs.NumberedKeys.{by_number}
use Rattle.resb_write.proofs.keys_beside.whole_keys_beside.Goals as goal

pub returns-in_err-check_used-clause-err : goal.returns-in_err-check_used-clause-err
returns-in_err-check_used-clause-err c =
    let p = err_from_is_err_and c.from_residual-in_err-check_used.result
    c.from_residual-in_err-check_used.ensures.1 in
    rw (p.1, p.2) (λ us h. elim c.in_err-check_used.ensures.err [
      | inl memory ↦ inl memory
      | inr fault ↦
          let numbered = c.into_parts-distinct.ensures us h in
          let m = c.into_parts-distinct.result.0 in
          let list = c.args.list.now in
          let ks = used us list in
          let js = ap nows c.deref.ensures.value ∙ c.in_ok-used.ensures.keys
          ∙ (λ i. filter (λ k. numbered.among k i) list) in
          let ws = nows c.as_slice.result.now in
          let ds : ws ≡ nows (keys m) = ap nows (c.as_slice.ensures ∙ c.keys.ensures.rest) in
          let same = fault_same (nows (keys m)) us (same_keys m.entries us numbered.among) ks in
          inr (sym (ap (λ l. key_fault l ks) ds ∙ same) ∙ sym (ap (key_fault ws) js) ∙ fault)
    ])

pub returns-clause-ok : goal.returns-clause-ok
returns-clause-ok c = λ us h.
    let numbered = c.into_parts-distinct.ensures us h in
    let m = c.into_parts-distinct.result.0 in
    let ns = c.into_parts-distinct.result.1.items in
    let list = c.args.list.now in
    let lent = c.args.lent.now in
    let place = lent_place lent in
    let ks = used us list in
    let own = filter (λ k. is_none (place k)) ks in
    let used_are : nows c.in_ok-used.used.keys.items ≡ ks = c.in_ok-used.ensures.keys
    ∙ (λ i. filter (λ k. numbered.among k i) list) in
    let js : nows c.in_ok-keys.keys.items ≡ own = c.in_ok-keys.ensures
    ∙ ap (filter (λ k. is_none (place k))) (ap nows c.deref-2.ensures.value ∙ used_are) in
    let ws = nows c.as_slice.result.now in
    let ds : ws ≡ nows (keys m) = ap nows (c.as_slice.ensures ∙ c.keys.ensures.rest) in
    let same = fault_same (nows (keys m)) us (same_keys m.entries us numbered.among) ks in
    let faultless : key_fault us ks ≡ None = sym (ap (λ l. key_fault l ks) ds ∙ same)
    ∙ sym (ap (key_fault ws) (ap nows c.deref.ensures.value ∙ used_are))
    ∙ c.in_ok-check_used.ensures.ok in
    let told = λ (k : List ℕ). told_beside (place k) (near_position_in own k) in
    let here = ap nows c.deref-3.ensures.value ∙ js in
    let names : nows c.as_slice-2.result.now ≡ nows (keys m) =
    ap nows (c.as_slice-2.ensures ∙ c.keys-2.ensures.rest) in
    let places = c.deref-4.ensures.value ∙ c.in_ok-places.ensures
    ∙ (λ i. map (λ k. told_beside (place k) (near_position_in (here i) k)) (names i)) in
    record {
      place = place;
      places = λ k. lent.lent k;
      own = js;
      positions = λ small.
          (λ i. map (position_beside Plain place ks (js i)) us)
          ∙ all_told place us list faultless
          (subst (λ l. length (key_bytes l) < 2 ^ 28) js small)
          ∙ ap (map Some) (sym (c.values_at-positions.ensures
          ∙ (λ i. map (slice_index (places i)) ns)
          ∙ by_number told (nows (keys m)) ns us numbered.numbers));
      utf8 = subst (All IsUtf8) used_are c.in_ok-used.ensures.utf8;
      faultless = faultless;
    }
