-- What a maker holds of the bundles that were added to it.
--     IsGift b g              the gift g is what the bundle b gives
--     Holds m bs              the maker m holds what the bundles bs give, in their order
use Rattle.std.specs.Prelude.{◌≡◌, ℕ, List, [], ◌∷◌, map, false}
use Rattle.std.specs.List.{list_any}
use Rattle.std.specs.String.{string_bytes}
use Rattle.std.specs.declared.string.String.{String}
use Rattle.resb_tree.specs.LayingOrder.{texts_of}
use Rattle.resb_layout.specs.TreeFaults.{has_nul}
use Rattle.resb_pool.specs.Shared.{InPoolOrder}
use Rattle.resb_pool.specs.declared.packing.Packing.TheVariants.{Plain}
use Rattle.resb_pool_maker.specs.PoolOf.{Bundle, used_keys}
use Rattle.resb_pool_maker.specs.declared.gathering.Gift.{Gift}
use Rattle.resb_pool_maker.specs.declared.maker.PoolMaker.{PoolMaker}

-- the texts of strings
abbrev pub bytes_each : {A : Type 0} → List (String A) → List (List ℕ)
bytes_each ss = map string_bytes ss

-- a bundle's used keys, of which none holds U+0000, and the texts of its records in their order
pub record IsGift (b : Bundle) (g : Gift) : Type 0 where
  pub keys : bytes_each g.keys.items ≡ used_keys b
  pub plain : list_any has_nul (used_keys b) ≡ false
  pub records : InPoolOrder Plain (texts_of b.tree) (bytes_each g.records.items)

-- a gift for each bundle
pub data AreGifts : List Bundle → List Gift → Type 0 where
  no_gifts : AreGifts [] []
  more_gifts : {b : Bundle} {bs : List Bundle} {g : Gift} {gs : List Gift} → IsGift b g
      → AreGifts bs gs → AreGifts (b ∷ bs) (g ∷ gs)

-- the gifts of these bundles
abbrev pub Holds : PoolMaker → List Bundle → Type 0
Holds m bs = AreGifts bs m.gifts.items
