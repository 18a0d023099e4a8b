-- How the answers of an opened file reach the caller.
--     status_of r             the status of an answer
--     IsOpenedAs r o          the struct that the caller gets where a file is opened
--     HandsOn r status m      the status and the resource that he gets of an answer
--     HandsPart f x status b      the status and the bytes that he gets of what is there
--     units_handed text       the bytes of a text's units
--     TellsKeyOf o r k s status b     the same of the key of the kth entry
use Rattle.std.specs.Prelude.{◌≡◌, ℕ, List, [], Option, Some, None, Result, Ok, Err, slice_get}
use Rattle.resb_tree.specs.Tree.{Tree, string, alias, array, table, binary, integer, int_vector}
use Rattle.resb_format.specs.Bytes.{units_as_bytes}
use Rattle.resb_format.specs.Units.{units}
use Rattle.resb_path.specs.Finding.{Spot, tree_spot, number_spot}
use Rattle.resb_read.specs.declared.cursor.Spot.TheVariants as spot
use Rattle.resb_c.specs.Faults.{number_of}
use Rattle.resb_c.specs.Opened.{spot_of, HoldsEntries, IsClosed}
use Rattle.resb_c.specs.declared.fault.Fault.{Fault}
use Rattle.resb_c.specs.declared.handed.ResbBytes.{ResbBytes}
use Rattle.resb_c.specs.declared.opened.ResbOpened.{ResbOpened}
use Rattle.resb_c.specs.declared.resource.ResbResource.{ResbResource}

-- 0 where there is an answer, else the fault's number
abbrev pub status_of : {A : Type 0} → Result A Fault → ℕ
status_of (Ok x) = 0
status_of (Err fault) = number_of fault

-- the file that was opened, or one in which nothing stands
abbrev pub IsOpenedAs : Result ResbOpened Fault → ResbOpened → Type 0
IsOpenedAs (Ok o) new = new ≡ o
IsOpenedAs (Err fault) new = IsClosed new

-- the status, and what was found, or the number 0
abbrev pub HandsOn : Result ResbResource Fault → ℕ → ResbResource → Type 0
HandsOn (Ok r) status new = (status ≡ 0) × (new ≡ r)
HandsOn (Err fault) status new = (status ≡ number_of fault) × (spot_of new ≡ spot.Word 0)

-- the status is 0, and the bytes are those of what is there; or it is 13, and there are none
abbrev pub HandsPart : (List ℕ → List ℕ) → Option (List ℕ) → ℕ → ResbBytes → Type 0
HandsPart bytes_of (Some x) status b = (status ≡ 0) × (b.bytes.now ≡ bytes_of x)
HandsPart bytes_of None status b = (status ≡ 13) × (b.bytes.now ≡ [])

-- the bytes of a text's units of 16 bits, the lower one of each first
abbrev pub units_handed : List ℕ → List ℕ
units_handed text = units_as_bytes (units text)

-- the status is 0, and the bytes are the entry's key; or it is 12, and there are none
abbrev pub HandsKey : Option (List ℕ × Tree) → ℕ → ResbBytes → Type 0
HandsKey (Some e) status b = (status ≡ 0) × (b.bytes.now ≡ e.0)
HandsKey None status b = (status ≡ 12) × (b.bytes.now ≡ [])

-- the key of the entry of this number is handed on where a table stands there; else the status is
-- 13, and there are no bytes
abbrev pub TellsKeyOf : ResbOpened → ResbResource → ℕ → Spot → ℕ → ResbBytes → Type 0
TellsKeyOf o r k (tree_spot (table es)) status b =
    (ts : List (List ℕ × Tree)) → HoldsEntries o r ts → HandsKey (slice_get ts k) status b
TellsKeyOf o r k (tree_spot (array ts)) status b = (status ≡ 13) × (b.bytes.now ≡ [])
TellsKeyOf o r k (tree_spot (int_vector ns)) status b = (status ≡ 13) × (b.bytes.now ≡ [])
TellsKeyOf o r k (tree_spot (string s)) status b = (status ≡ 13) × (b.bytes.now ≡ [])
TellsKeyOf o r k (tree_spot (alias s)) status b = (status ≡ 13) × (b.bytes.now ≡ [])
TellsKeyOf o r k (tree_spot (binary x)) status b = (status ≡ 13) × (b.bytes.now ≡ [])
TellsKeyOf o r k (tree_spot (integer n)) status b = (status ≡ 13) × (b.bytes.now ≡ [])
TellsKeyOf o r k (number_spot n) status b = (status ≡ 13) × (b.bytes.now ≡ [])
