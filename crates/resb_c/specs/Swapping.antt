-- What swapping a file answers, and leaves in the buffer.
--     SwapsInto file old new r    what it answers, and leaves in the buffer
use Rattle.std.specs.Prelude.{◌≡◌, ℕ, List, Result, Ok, Err}
use Rattle.resb_swap.specs.Faults.{IsFault}
use Rattle.resb_swap.specs.Swapped.{IsSwapped}
use Rattle.resb_c.specs.Calls.{Fills}
use Rattle.resb_c.specs.declared.fault.Fault.{Fault}
use Rattle.resb_c.specs.declared.fault.Fault.TheVariants.{TooShort, Swapping}

-- the file in the other order of bytes is in the buffer, or would be if it had room; or there is
-- none, which the error says, and the buffer is as it was
abbrev pub SwapsInto : List ℕ → List ℕ → List ℕ → Result ℕ Fault → Type 0
SwapsInto file old new (Ok n) =
    (other : List ℕ) × IsSwapped file other × Fills other old new (Ok n)
SwapsInto file old new (Err (TooShort n)) =
    (other : List ℕ) × IsSwapped file other × Fills other old new (Err n)
SwapsInto file old new (Err (Swapping e)) = IsFault file e × (new ≡ old)
SwapsInto file old new (Err _) = ⊥
