-- What is written so far, and the path of the steps that are left, are the whole path.
use Rattle.std.proofs.Common.{◌≡◌, ◌≤◌, ℕ, List, ◌++◌, length, map, reverse, take}
use Rattle.std.specs.Fmt.{HasWritten, IsPlainFormatter}
use Rattle.resb_diff.specs.Paths.{step_of}
use Rattle.resb_blame.specs.Message.{path_text}
use Rattle.resb_blame.proofs.message.write_path.Given as goal

abbrev pub invariant-loop-number : goal.invariant-loop-number
invariant-loop-number g l =
    (l.number ≤ length l.steps)
    × (IsPlainFormatter l.initial.f → (done : List ℕ)
    × HasWritten g.W.Write.write_str_gives l.initial.f done l.f
    × (done ++ path_text (reverse (map step_of (take l.number l.steps)))
    ≡ path_text (reverse (map step_of l.steps))))
