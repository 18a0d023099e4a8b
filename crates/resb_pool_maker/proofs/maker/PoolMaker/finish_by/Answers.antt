-- The keys and records that are held are those of the bundles.
use Rattle.std.proofs.Common.{◌≡◌, ℕ, ◌<◌, ◌≤◌, ◌^◌, List, length, get_or, ◌∙◌, ap, subst}
use Rattle.std.proofs.Common.{[], refl}
use Rattle.std.specs.List.{flat_map}
use Rattle.std.proofs.lemmas.Result.{err_from_is_err_and}
use Rattle.resb_layout.specs.KeyBlock.{key_bytes, padded}
use Rattle.resb_layout.specs.Written.{even}
use Rattle.resb_layout.specs.TreeFaults.{has_nul}
use Rattle.resb_pool.specs.Plan.{nows, NotPlanned}
use Rattle.resb_pool.specs.Shared.{IsSharedPool}
use Rattle.resb_pool_maker.specs.Holding.{Holds}
use Rattle.resb_pool_maker.specs.Inner.Given.{gift_keys, gift_records}
use Rattle.resb_pool_maker.specs.PoolFault.{pool_memory}
use Rattle.resb_pool_maker.specs.PoolFile.{pool_file, blocks_checksum}
use Rattle.resb_pool_maker.specs.PoolOf.{Bundle, used_keys, each_once, pool_keys_by, least_saved}
use Rattle.resb_pool_maker.specs.declared.gathering.Gift.{Gift}
use Rattle.resb_layout.specs.CompactKeys.{keys_by}
use Rattle.resb_pool_maker.proofs.Faults.{pool_keys_far, pool_strings}
use Rattle.resb_pool_maker.proofs.Given.{keys_given, records_given, plain_given, none_kept}
use Rattle.resb_pool_maker.proofs.Joining.{none_once}
use Rattle.resb_pool_maker.proofs.maker.PoolMaker.finish_by.Goals as goal
use Rattle.resb_pool_maker.proofs.maker.PoolMaker.finish_by.Goals.{In_ok-keys}

keys_are : (c : In_ok-keys) (bs : List Bundle) → Holds c.args.self.now bs
    → nows c.in_ok-keys.keys.items ≡ pool_keys_by c.args.packing bs
keys_are c bs h =
    let q = c.args.packing in
    c.in_ok-keys.ensures
    ∙ ap (λ (g : List Gift). keys_by q (each_once (gift_keys q g))) c.deref.ensures.value
    ∙ ap (λ ks. keys_by q (each_once ks)) (keys_given q h)

pub returns-in_err-keys-clause-err : goal.returns-in_err-keys-clause-err
returns-in_err-keys-clause-err c =
    let r = c.from_residual in
    let p = err_from_is_err_and r.result r.ensures.1 in rw (p.1, p.2) (λ bs h. pool_memory)

pub returns-in_err-check_near-clause-err : goal.returns-in_err-check_near-clause-err
returns-in_err-check_near-clause-err c =
    let r = c.from_residual-in_err-check_near in
    let p = err_from_is_err_and r.result r.ensures.1 in
    let e = c.in_err-check_near.ensures.err in
    rw (p.1, p.2, e.0) (λ bs h. pool_keys_far c.args.packing bs (records_given h) (subst (λ ks. 2 ^ 31 < length (key_bytes ks))
    (ap nows c.deref-2.ensures.value
    ∙ keys_are (goal.at.returns-in_err-check_near-clause-err c).In_ok-keys bs h) e.1))

pub returns-in_err-units-clause-err : goal.returns-in_err-units-clause-err
returns-in_err-units-clause-err c =
    let r = c.from_residual-in_err-units in
    let p = err_from_is_err_and r.result r.ensures.1 in
    rw (p.1, p.2) (λ bs h. pool_strings c.args.packing bs (records_given h)
    (subst (λ ks. length (key_bytes ks) ≤ 2 ^ 31)
    (ap nows c.deref-2.ensures.value
    ∙ keys_are (goal.at.returns-in_err-units-clause-err c).In_ok-keys bs h)
    c.in_ok-check_near.ensures.ok) _
    (subst (λ (g : List Gift). NotPlanned (gift_records g) c.in_err-units.field-0.0)
    c.deref-3.ensures.value c.in_err-units.ensures.err))

pub returns-in_err-assemble-clause-err : goal.returns-in_err-assemble-clause-err
returns-in_err-assemble-clause-err c =
    let r = c.from_residual-in_err-assemble in
    let p = err_from_is_err_and r.result r.ensures.1 in rw (p.1, p.2) (λ bs h. pool_memory)

pub returns-clause-ok : goal.returns-clause-ok
returns-clause-ok c = λ bs h.
    let here = keys_are (goal.at.returns-clause-ok c).In_ok-keys bs h in
    let keys = ap nows c.deref-4.ensures.value ∙ here in
    let us = c.in_ok-units.units.items in
    record {
      given = gift_records c.args.self.now.gifts.items;
      gives = records_given h;
      units = us;
      plain =
          let q = c.args.packing in
          none_kept q has_nul (each_once (flat_map (λ b. keys_by q (used_keys b)) bs))
          (none_once has_nul (flat_map (λ b. keys_by q (used_keys b)) bs) [] refl
          (plain_given q h));
      shared = subst
          (λ (g : List Gift). IsSharedPool c.args.packing (gift_records g) least_saved us)
          c.deref-3.ensures.value c.in_ok-units.ensures.ok;
      near = subst (λ ks. length (key_bytes ks) ≤ 2 ^ 31)
          (ap nows c.deref-2.ensures.value ∙ here) c.in_ok-check_near.ensures.ok;
      units_fit = subst (λ (z : List ℕ). (k : ℕ) → get_or z k 0 < 2 ^ 16)
          c.deref-5.ensures.value c.in_ok-assemble.ensures.units_fit;
      checksum_fits = subst (λ n. n < 2 ^ 32)
          (λ i. blocks_checksum (padded (key_bytes (keys i))) (even (c.deref-5.ensures.value i)))
          c.in_ok-assemble.ensures.checksum_fits;
      file = c.in_ok-assemble.ensures.file
          ∙ (λ i. pool_file c.args.packing (keys i) (c.deref-5.ensures.value i));
    }
