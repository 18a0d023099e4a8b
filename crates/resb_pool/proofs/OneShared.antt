-- Strings leave one pool that many bundles share.
use Rattle.std.proofs.Common.{◌≡◌, ℕ, List, ◌∷◌, refl, sym, ◌∙◌, ap, subst, arith}
use Rattle.std.specs.List.{Contains, flat_map}
use Rattle.resb_pool.specs.Pool.{record_units}
use Rattle.resb_pool.specs.Shared.{AreWorth, worth_none, worth_kept, worth_left, IsSharedPool}
use Rattle.resb_pool.specs.declared.packing.Packing.{Packing}
use Rattle.resb_pool.proofs.OnePool.{one_list, saved_once}
use Rattle.resb_pool.proofs.TextLists.{TextList}

module _ (way : Packing) (S : TextList) (least : ℕ) where
  one_worth : {Q K L : TextList} → AreWorth way S least Q K → AreWorth way S least Q L → K ≡ L
  one_worth worth_none worth_none = refl
  one_worth (worth_kept {r} {n = m} p g a) (worth_kept {n} q h b) = ap (λ l. r ∷ l) (one_worth a b)
  one_worth (worth_kept {r} {n = m} p g a) (worth_left {n} q h b) =
      absurd (omega (arith, saved_once way (Contains S) S r m n p q, g, h))
  one_worth (worth_left {r} {n = m} p g a) (worth_kept {n} q h b) =
      absurd (omega (arith, saved_once way (Contains S) S r m n p q, g, h))
  one_worth (worth_left {r} {n = m} p g a) (worth_left {n} q h b) = one_worth a b

  -- unit 0 and the records that are worth it
  pub one_shared_pool : (us vs : List ℕ) → IsSharedPool way S least us
      → IsSharedPool way S least vs → us ≡ vs
  one_shared_pool us vs p q =
      let records = one_list way S p.records q.records p.pool q.pool in
      let kept = one_worth (subst (λ Q. AreWorth way S least Q p.kept) records p.worth) q.worth in
      p.units ∙ ap (λ K. 0 ∷ flat_map record_units K) kept ∙ sym q.units
