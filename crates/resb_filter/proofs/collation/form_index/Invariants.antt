-- Each type has the first form of those that were passed.
use Rattle.std.proofs.Common.{◌≡◌, ℕ, List, drop}
use Rattle.resb_filter.specs.Collated.{form_of}
use Rattle.resb_filter.specs.Inner.Forms.{form_in}
use Rattle.resb_filter.specs.View.{forms_view}
use Rattle.resb_filter.proofs.collation.form_index.Given as goal

abbrev pub invariant-loop-at : goal.invariant-loop-at
invariant-loop-at l =
    (key : List ℕ) → form_in l.index key ≡ form_of (forms_view (drop l.at l.forms)) key
