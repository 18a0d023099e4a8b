-- Each fault with its reason, and that there is none.
use Rattle.std.proofs.Common.{◌≡◌, List, ℕ, Bool, true, false, Some, Option, nat_lt, unwrap_or, sym}
use Rattle.std.proofs.Common.{◌∙◌, ap}
use Rattle.std.specs.List.{list_any}
use Rattle.std.specs.Option.{is_none}
use Rattle.resb_pool.specs.Plan.{nows, at_text}
use Rattle.resb_layout.specs.TreeFaults.{has_nul}
use Rattle.resb_write.specs.Inner.NearPositions.{near_position_in}
use Rattle.resb_write.proofs.FaultsLemmas.{any_now, unlisted_fault, nul_fault, far_fault}
use Rattle.resb_write.proofs.FaultsLemmas.{no_key_fault}
use Rattle.resb_write.proofs.key_block.check_keys.Goals as goal

module _ (p : Option ℕ → Bool) (us : List (List ℕ)) (js : List (List ℕ)) (at : List ℕ
    → Option ℕ) (h : (q : List ℕ) → at q ≡ near_position_in js q) where
  tested : (b : Bool) → b ≡ list_any (λ k. p (at k)) us
      → list_any (λ k. p (near_position_in js k)) us ≡ b
  tested b e = (λ i. list_any (λ k. p (sym (h k) i)) us) ∙ sym e

pub returns-then-has_unlisted_key-clause-err : goal.returns-then-has_unlisted_key-clause-err
returns-then-has_unlisted_key-clause-err c = λ js h.
    let us = nows c.args.keys.now in
    let at = at_text c.args.positions.now in
    let e = sym c.if-has_unlisted_key.true ∙ c.has_unlisted_key.ensures
    ∙ any_now (λ k. is_none (at k)) c.args.keys.now in
    unlisted_fault us js (tested is_none us js at h true e) ∙ ap Some (sym c.unexpected.ensures)

pub returns-then-has_nul_key-clause-err : goal.returns-then-has_nul_key-clause-err
returns-then-has_nul_key-clause-err c = λ js h.
    let us = nows c.args.keys.now in
    let at = at_text c.args.positions.now in
    let e = sym c.if-has_unlisted_key.false ∙ c.has_unlisted_key.ensures
    ∙ any_now (λ k. is_none (at k)) c.args.keys.now in
    let n = sym (any_now has_nul c.args.keys.now) ∙ sym c.has_nul_key.ensures
    ∙ c.if-has_nul_key.true in
    nul_fault us js (tested is_none us js at h false e) n
    ∙ ap Some (sym c.unexpected-then-has_nul_key.ensures)

pub returns-then-has_far_key-clause-err : goal.returns-then-has_far_key-clause-err
returns-then-has_far_key-clause-err c = λ js h.
    let us = nows c.args.keys.now in
    let at = at_text c.args.positions.now in
    let e = sym c.if-has_unlisted_key.false ∙ c.has_unlisted_key.ensures
    ∙ any_now (λ k. is_none (at k)) c.args.keys.now in
    let n = sym (any_now has_nul c.args.keys.now) ∙ sym c.has_nul_key.ensures
    ∙ c.if-has_nul_key.false in
    let f = sym c.if-has_far_key.true ∙ c.has_far_key.ensures
    ∙ any_now (λ k. nat_lt 2147483647 (unwrap_or (at k) 0)) c.args.keys.now in
    far_fault us js (tested is_none us js at h false e) n
    (tested (λ o. nat_lt 2147483647 (unwrap_or o 0)) us js at h true f)
    ∙ ap Some (sym c.limit.ensures)

pub returns-clause-ok : goal.returns-clause-ok
returns-clause-ok c = λ js h.
    let us = nows c.args.keys.now in
    let at = at_text c.args.positions.now in
    let e = sym c.if-has_unlisted_key.false ∙ c.has_unlisted_key.ensures
    ∙ any_now (λ k. is_none (at k)) c.args.keys.now in
    let n = sym (any_now has_nul c.args.keys.now) ∙ sym c.has_nul_key.ensures
    ∙ c.if-has_nul_key.false in
    let f = sym c.if-has_far_key.false ∙ c.has_far_key.ensures
    ∙ any_now (λ k. nat_lt 2147483647 (unwrap_or (at k) 0)) c.args.keys.now in
    no_key_fault us js (tested is_none us js at h false e) n
    (tested (λ o. nat_lt 2147483647 (unwrap_or o 0)) us js at h false f)
