-- The record in which a text lies, in a file that is packed one way or the other.
--     IsTop IsText s              no other one of these texts ends with s
--     MayHold way S s r           the record r may hold the text s, which it ends with
--     IsContainer way S s r       s lies in the record r
use Rattle.std.specs.Prelude.{◌≡◌, ℕ, ◌<◌, List, length, ◌⊎◌, Contains}
use Rattle.std.specs.declared.cmp.Ordering.TheVariants.{Greater}
use Rattle.resb_pool.specs.Order.{suffix_cmp}
use Rattle.resb_pool.specs.Records.{EndsWith}
use Rattle.resb_pool.specs.Records.{IsRecord}
use Rattle.resb_pool.specs.declared.packing.Packing.{Packing}
use Rattle.resb_pool.specs.declared.packing.Packing.TheVariants.{Plain, Compact}

-- of some texts, a non-empty one that no other one of them ends with
pub record IsTop (IsText : List ℕ → Type 0) (s : List ℕ) : Type 0 where
  pub given : IsText s
  pub nonempty : 0 < length s
  pub alone : (t : List ℕ) → IsText t → EndsWith t s → t ≡ s

-- Each record may hold a text that it ends with; in a compact file it may only if it is that text,
-- or if no other text of S ends with it.
abbrev pub MayHold : Packing → List (List ℕ) → List ℕ → List ℕ → Type 0
MayHold Plain S s r = Unit {0}
MayHold Compact S s r = (r ≡ s) ⊎ IsTop (Contains S) r

-- among the texts S, r is the greatest record in suffix order that ends with s and may hold it
pub record IsContainer (way : Packing) (S : List (List ℕ)) (s r : List ℕ) : Type 0 where
  pub own : IsRecord S r
  pub ends : EndsWith r s
  pub holds : MayHold way S s r
  pub greatest : (q : List ℕ) → IsRecord S q → EndsWith q s → MayHold way S s q
      → suffix_cmp way q r ≡ Greater → ⊥
