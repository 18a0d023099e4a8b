-- What a place of an integer lacks where no number is read there.
use Rattle.std.proofs.Common.{ℕ, inl, inr}
use Rattle.resb.specs.Places.{Place}
use Rattle.resb.specs.Reading.{Lacks, LacksOrMemory}
use Rattle.resb.specs.declared.binary.ReadingError.{ReadingError}
use Rattle.resb_zoneinfo.specs.Linked.{IsInteger, CountsNumber, CountsLinked}
use Rattle.resb_zoneinfo.specs.LinkedLaws.{not_both}

pub lacks_link : (counts : Place → ℕ → Type 0) (p : Place) (left : ℕ) → IsInteger p
    → Lacks (CountsNumber p) left → Lacks (CountsLinked counts p) left
lacks_link counts p left is lacks n (inl (_, h)) small = lacks n h small
lacks_link counts p left is lacks n (inr (other, h)) small = absurd (not_both p is other)

pub link_refused : (counts : Place → ℕ → Type 0) (p : Place) (left : ℕ) (e : ReadingError)
    → IsInteger p → LacksOrMemory (CountsNumber p) left e
    → LacksOrMemory (CountsLinked counts p) left e
link_refused counts p left e is (inl memory) = inl memory
link_refused counts p left e is (inr lacks) = inr (lacks_link counts p left is lacks)
