-- Strings whose texts are listed in their own room.
--     IsListing xs fs n l     the texts of the first n of the strings xs are listed, where fs are
--                             the numbers of first copies
use Rattle.std.specs.Prelude.{◌≡◌, ℕ, ◌≤◌, List, length, take, drop}
use Rattle.std.specs.Borrow.{Bor}
use Rattle.resb_pool.specs.Plan.{nows}
use Rattle.resb_pool.specs.Inner.Placing.{AreTexts, AreTurns}
use Rattle.resb_pool.specs.declared.listed_texts.Listing.{Listing}

-- the first count places have the texts of the first n strings, and from n on the strings stand
-- where they stood; so do, in the order, the indexes of texts and the numbers of first copies
pub record IsListing (xs : List (Bor (List ℕ))) (fs : List ℕ) (n : ℕ) (l : Listing) : Type 0 where
  pub strings_len : length l.strings.items ≡ length xs
  pub order_len : length l.order.items ≡ length xs
  pub firsts_len : length fs ≡ length xs
  pub within : l.count ≤ n
  pub left : drop n l.strings.items ≡ drop n xs
  pub unread : drop n l.order.items ≡ drop n fs
  pub texts : AreTexts (nows (take n xs)) (nows (take l.count l.strings.items)) l.measures.items
  pub turns : AreTurns (nows (take n xs)) (nows (take l.count l.strings.items))
      (take n l.order.items)
