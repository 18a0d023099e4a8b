-- The texts that no other one ends with, in suffix order.
--     IsTopOf T s r           r is the greatest top of T that ends with s
--     StepsTo p s i top hs top' c hs'     what the text s of index i, right behind p, comes to
use Rattle.std.specs.Prelude.{◌≡◌, ℕ, List, [], ◌∷◌, ◌++◌, true, false, Contains}
use Rattle.std.specs.declared.cmp.Ordering.TheVariants.{Greater}
use Rattle.resb_format.specs.Units.{is_unmarked}
use Rattle.resb_pool.specs.Container.{IsTop}
use Rattle.resb_pool.specs.Order.{suffix_cmp}
use Rattle.resb_pool.specs.Records.{EndsWith}
use Rattle.resb_pool.specs.declared.packing.Packing.TheVariants.{Compact}
use Rattle.resb_pool.specs.Inner.Suffixes.{IsEnd}

pub record IsTopOf (T : List (List ℕ)) (s r : List ℕ) : Type 0 where
  pub own : IsTop (Contains T) r
  pub ends : EndsWith r s
  pub greatest : (q : List ℕ) → IsTop (Contains T) q → EndsWith q s
      → suffix_cmp Compact q r ≡ Greater → ⊥

-- The text that stands right behind p and doesn't end it is a top, and the one up to now is left
-- behind. One that ends it lies in the top, or, where it has a marker, in itself, and is hidden.
pub data StepsTo (p s : List ℕ) (i top : ℕ) (hs : List ℕ) : ℕ → ℕ → List ℕ → Type 0 where
  new_top : (IsEnd p s → ⊥) → StepsTo p s i top hs i i hs
  shares : IsEnd p s → is_unmarked s ≡ true → StepsTo p s i top hs top top hs
  hides : IsEnd p s → is_unmarked s ≡ false → StepsTo p s i top hs top i (hs ++ i ∷ [])
