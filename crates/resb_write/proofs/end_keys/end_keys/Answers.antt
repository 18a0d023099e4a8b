-- The used keys that lie in themselves and not in the pool, and where those of the tables stand.
use Rattle.std.proofs.Common.{◌≡◌, map, filter, inl, inr, sym, ◌∙◌, ap, None, subst}
use Rattle.std.specs.List.{All}
use Rattle.std.specs.Str.{IsUtf8}
use Rattle.std.specs.Prelude.{slice_index}
use Rattle.std.proofs.lemmas.Result.{err_from_is_err_and}
use Rattle.resb_pool.specs.Plan.{nows}
use Rattle.indexmap.specs.IndexMap.{keys as keys_in}
use Rattle.resb_layout.specs.KeyBlock.{used}
use Rattle.resb_layout.specs.TreeFaults.{key_fault}
use Rattle.resb_layout.specs.KeyEnds.{AreByEnd}
use Rattle.resb_write.specs.Inner.KeyEnds.{place_by, more_by, told_at_end, is_own, AreKeyEnds}
use Rattle.resb_write.proofs.Distinct.{fault_same, same_keys}
use Rattle.resb_write.proofs.NumberedKeys.{by_number}
use Rattle.resb_write.proofs.end_keys.end_keys.Goals as goal

pub returns-in_err-check_used-clause-err : goal.returns-in_err-check_used-clause-err
returns-in_err-check_used-clause-err c =
    let p = err_from_is_err_and c.from_residual-in_err-check_used.result
    c.from_residual-in_err-check_used.ensures.1 in
    rw (p.1, p.2) (λ us h. elim c.in_err-check_used.ensures.err [
      | inl memory ↦ inl memory
      | inr fault ↦
          let numbered = c.into_parts-distinct.ensures us h in
          let m = c.into_parts-distinct.result.0 in
          let list = c.args.list.now in
          let ks = used us list in
          let js = ap nows c.deref.ensures.value ∙ c.in_ok-used.ensures.keys
          ∙ (λ i. filter (λ k. numbered.among k i) list) in
          let ws = nows c.as_slice.result.now in
          let ds : ws ≡ nows (keys_in m) = ap nows (c.as_slice.ensures ∙ c.keys.ensures.rest) in
          let same = fault_same (nows (keys_in m)) us (same_keys m.entries us numbered.among) ks in
          inr (sym (ap (λ l. key_fault l ks) ds ∙ same) ∙ sym (ap (key_fault ws) js) ∙ fault)
    ])

pub returns-clause-ok : goal.returns-clause-ok
returns-clause-ok c = λ us h.
    let numbered = c.into_parts-distinct.ensures us h in
    let m = c.into_parts-distinct.result.0 in
    let ns = c.into_parts-distinct.result.1.items in
    let T = nows (keys_in m) in
    let list = c.args.list.now in
    let js = used us list in
    let place = place_by c.args.lent js in
    let used_are : nows c.in_ok-used.used.keys.items ≡ js = c.in_ok-used.ensures.keys
    ∙ (λ i. filter (λ k. numbered.among k i) list) in
    let ws = nows c.as_slice.result.now in
    let ds : ws ≡ T = ap nows (c.as_slice.ensures ∙ c.keys.ensures.rest) in
    let same = fault_same T us (same_keys m.entries us numbered.among) js in
    let faultless : key_fault us js ≡ None = sym (ap (λ l. key_fault l js) ds ∙ same)
    ∙ sym (ap (key_fault ws) (ap nows c.deref.ensures.value ∙ used_are))
    ∙ c.in_ok-check_used.ensures.ok in
    let sorted : AreByEnd js c.deref-3.result.now =
    subst (AreByEnd js) (sym c.deref-3.ensures.value)
    (subst (λ l. AreByEnd l c.in_ok-sorted.sorted.items)
    (ap nows c.deref-2.ensures.value ∙ used_are) c.in_ok-sorted.ensures) in
    let names : nows c.as_slice-2.result.now ≡ T =
    ap nows (c.as_slice-2.ensures ∙ c.keys-2.ensures.rest) in
    let again : nows c.as_slice-3.result.now ≡ T =
    ap nows (c.as_slice-3.ensures ∙ c.keys-3.ensures.rest) in
    let ends : AreKeyEnds place js T c.in_ok-ends.ends.items =
    subst (λ l. AreKeyEnds place js l c.in_ok-ends.ends.items) names
    (c.in_ok-ends.ensures.ends js sorted) in
    let own_are : nows c.in_ok-keys.keys.items ≡ filter (is_own place js) js =
    c.in_ok-keys.ensures js T place
    (subst (AreKeyEnds place js T) (sym c.deref-4.ensures.value) ends)
    c.in_ok-used.ensures.numbers ∙ ap (filter (is_own place js)) used_are in
    let told = told_at_end (more_by c.args.lent) place js (nows c.in_ok-keys.keys.items) in
    let places : c.deref-7.result.now ≡ map told T = c.deref-7.ensures.value
    ∙ c.in_ok-places.ensures js place
    (subst (AreKeyEnds place js (nows c.as_slice-3.result.now)) (sym c.deref-5.ensures.value)
    (subst (λ l. AreKeyEnds place js l c.in_ok-ends.ends.items) (sym again) ends))
    ∙ (λ i. map (told_at_end (c.more_of.ensures i) place js (nows (c.deref-6.ensures.value i)))
    (again i)) in
    record {
      own = own_are;
      positions = c.values_at-positions.ensures ∙ (λ i. map (slice_index (places i)) ns)
          ∙ by_number told T ns us numbered.numbers;
      utf8 = subst (All IsUtf8) used_are c.in_ok-used.ensures.utf8;
      faultless = faultless;
    }
