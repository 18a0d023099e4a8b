-- The short name that proofs have for a list of texts.
use Rattle.std.proofs.Common.{ℕ, List}

-- texts, each as its UTF-8 bytes
abbrev pub TextList : Type 0
TextList = List (List ℕ)
