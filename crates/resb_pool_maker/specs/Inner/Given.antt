-- What gifts come to.
--     gift_keys q gs          their keys that the packing keeps, one gift's behind the other's
--     gift_records gs         their records, in the same way
--     Gives b g               the gift g has the keys and the records of the bundle b, whose
--                         strings have a plan
use Rattle.std.specs.Prelude.{◌≡◌, ℕ, List}
use Rattle.std.specs.List.{flat_map}
use Rattle.resb_pool.specs.Shared.{ArePlanned, InPoolOrder}
use Rattle.resb_pool.specs.declared.packing.Packing.TheVariants.{Plain}
use Rattle.resb_tree.specs.LayingOrder.{texts_of}
use Rattle.resb_layout.specs.CompactKeys.{keys_by}
use Rattle.resb_pool.specs.declared.packing.Packing.{Packing}
use Rattle.resb_pool_maker.specs.Holding.{bytes_each}
use Rattle.resb_pool_maker.specs.PoolOf.{Bundle, used_keys}
use Rattle.resb_pool_maker.specs.declared.gathering.Gift.{Gift}

abbrev pub gift_keys : Packing → List Gift → List (List ℕ)
gift_keys q gs = flat_map (λ g. keys_by q (bytes_each g.keys.items)) gs

abbrev pub gift_records : List Gift → List (List ℕ)
gift_records gs = flat_map (λ g. bytes_each g.records.items) gs

pub record Gives (b : Bundle) (g : Gift) : Type 0 where
  pub keys : bytes_each g.keys.items ≡ used_keys b
  pub records : InPoolOrder Plain (texts_of b.tree) (bytes_each g.records.items)
  pub planned : ArePlanned (texts_of b.tree)
