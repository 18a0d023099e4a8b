-- A file that was opened, and what its resources stand for, where the caller hands both in.
--     parts_of o              the parts of the file, as the struct says them
--     spot_of r               the spot that a resource names
--     AscendsAt p spot        the keys of all tables ascend in what stands at a spot
--     Shows o r s             what this resource names is this tree, or this number of a vector
--     HoldsEntries o r ts     a table stands there, with these entries in this order
--     IsClosed o              nothing stands in the file but an empty string
use Rattle.std.specs.Prelude.{◌≡◌, ◌==◌, ◌&&◌, ◌^◌, not, ℕ, Bool, true, List, [], Some, nat_lt}
use Rattle.std.specs.Prelude.{if◌then◌else◌}
use Rattle.resb_tree.specs.Tree.{Tree, string}
use Rattle.resb_format.specs.Bytes.{units_of}
use Rattle.resb_format.specs.Content.{Member, word, unit, entry_list}
use Rattle.resb_format.specs.Denotes.{DenEntries}
use Rattle.resb_format.specs.Parts.{Parts}
use Rattle.resb_read.specs.Places.{Place}
use Rattle.resb_read.specs.declared.cursor.Spot as cursor
use Rattle.resb_read.specs.declared.cursor.Spot.TheVariants as spot
use Rattle.resb_opened.specs.Ordered.{Ordered}
use Rattle.resb_path.specs.Finding.{Spot, tree_spot}
use Rattle.resb_path.specs.InFiles.{IsAt}
use Rattle.resb_c.specs.AtPlaces.{content_from}
use Rattle.resb_c.specs.declared.opened.ResbOpened.{ResbOpened}
use Rattle.resb_c.specs.declared.resource.ResbResource.{ResbResource}

-- the parts of a file, as the struct says them; aliases and strings of the older form are read
abbrev pub parts_of : ResbOpened → Parts
parts_of o = record {
  body = o.body.now;
  keys = o.keys.now;
  block = units_of o.block.now;
  lent = Some (record {
    keys = o.pool_keys.now;
    block = units_of o.pool_block.now;
    limit = o.limit;
    short_limit = o.short_limit;
  });
}

-- the spot that a resource names: a descriptor, a unit of 16 bits, and else a number of a vector
abbrev pub spot_of : ResbResource → cursor.Spot
spot_of r =
    if r.form == 0 then spot.Descriptor r.number
    else if r.form == 1 && nat_lt r.number (2 ^ 16) then spot.Unit r.number
    else spot.Word r.number

-- where a resource stands in the file of the struct
abbrev pub place_in : ResbOpened → ResbResource → Place
place_in o r = record { parts = parts_of o; at = spot_of r }

-- the keys of all tables ascend in what stands at a spot; in a number of a vector there are none
abbrev pub AscendsAt : Parts → cursor.Spot → Type 0
AscendsAt p (spot.Descriptor w) = Ordered p (word w)
AscendsAt p (spot.Unit u) = Ordered p (unit u)
AscendsAt p (spot.Word n) = Unit {0}
AscendsAt p (spot.Key k) = Unit {0}

-- the struct says that the keys of all tables ascend
abbrev pub says_ascending : ResbOpened → Bool
says_ascending o = not (o.ascends == 0)

-- in the file of the struct the resource denotes this tree, or names this number of a vector, and
-- the keys of its tables ascend if the struct says so
abbrev pub Shows : ResbOpened → ResbResource → Spot → Type 0
Shows o r s =
    IsAt (place_in o r) s × (says_ascending o ≡ true → AscendsAt (parts_of o) (spot_of r))

-- a table stands there, and its entries, those that are replaced too, have these keys and trees in
-- this order
abbrev pub HoldsEntries : ResbOpened → ResbResource → List (List ℕ × Tree) → Type 0
HoldsEntries o r ts =
    (es : List (ℕ × Member)) × (n : ℕ)
    × (content_from (parts_of o) (spot_of r) ≡ Some (entry_list es))
    × DenEntries (parts_of o) es ts n

-- nothing stands in the file of the struct: it has no resources, and no bytes. It may be handed on:
-- its root is an empty string, which needs none
pub record IsClosed (o : ResbOpened) : Type 0 where
  pub empty : Shows o o.root (tree_spot (string []))
  pub count : o.count ≡ 0
  pub body : o.body.now ≡ []
  pub keys : o.keys.now ≡ []
  pub block : o.block.now ≡ []
  pub pool_keys : o.pool_keys.now ≡ []
  pub pool_block : o.pool_block.now ≡ []
