-- How a file is opened.
--     Opens w r       what opening answers of what a file comes to
--     FindsAscending w room o     that keys ascend is found where reading them is paid for
use Rattle.std.specs.Prelude.{◌≡◌, ◌≤◌, ℕ, Result, Ok, Err, true}
use Rattle.resb_format.specs.Content.{word}
use Rattle.resb_format.specs.declared.error.ReadingError.{ReadingError}
use Rattle.resb_read.specs.Roots.{Whole, RefusesWhole}
use Rattle.resb_opened.specs.Handles.{tree_in}
use Rattle.resb_opened.specs.Ordered.{Ordered, key_price}
use Rattle.resb_opened.specs.declared.opened.Opened.{Opened}

-- the file denotes the tree, of as many resources as were counted, within the budget; or its
-- refusal
abbrev pub Opens : Whole → Result Opened ReadingError → Type 0
Opens w (Ok o) = w.denotes (tree_in o) o.count × (o.count ≤ w.budget)
Opens w (Err e) = RefusesWhole w e

-- where the keys of all tables of the file ascend, and no more is paid for reading them than a room
-- has, this is found
abbrev pub FindsAscending : Whole → ℕ → Opened → Type 0
FindsAscending w room o =
    (keys : Ordered w.parts (word w.root)) → key_price w.parts keys ≤ room → o.ascends ≡ true
