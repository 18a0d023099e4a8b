-- Bundles leave one pool bundle.
use Rattle.std.proofs.Common.{◌≡◌, ℕ, List, ◌++◌, refl, sym, ◌∙◌, ap, subst}
use Rattle.resb_tree.specs.LayingOrder.{texts_of}
use Rattle.resb_pool.specs.Shared.{IsSharedPool}
use Rattle.resb_pool.specs.declared.packing.Packing.TheVariants.{Plain}
use Rattle.resb_pool.proofs.OnePool.{one_list}
use Rattle.resb_pool.proofs.OneShared.{one_shared_pool}
use Rattle.resb_pool_maker.specs.Laws.{OnePoolFile}
use Rattle.resb_pool_maker.specs.PoolFile.{pool_file}
use Rattle.resb_pool_maker.specs.PoolOf.{Bundle, GiveRecords, give_none, give_more, least_saved}
use Rattle.resb_pool_maker.specs.PoolOf.{pool_keys_by}

-- bundles give one list of records
one_given : {bs : List Bundle} {S R : List (List ℕ)} → GiveRecords bs S → GiveRecords bs R → S ≡ R
one_given give_none give_none = refl
one_given (give_more {b} {Q} p g) (give_more {Q = P} q h) =
    let own = one_list Plain (texts_of b.tree) Q P p q in
    let rest = one_given g h in
    λ i. own i ++ rest i

pub one_pool_file : OnePoolFile
one_pool_file q bytes others bs p r =
    let given = subst (λ S. IsSharedPool q S least_saved p.units) (one_given p.gives r.gives)
    p.shared in
    let units = one_shared_pool q r.given least_saved p.units r.units given r.shared in
    p.file ∙ ap (pool_file q (pool_keys_by q bs)) units ∙ sym r.file
