-- Where nothing was written yet.
use Rattle.std.specs.Prelude.{ℕ, List, [], Option, Result, Ok, Err, OnErr}
use Rattle.std.proofs.Common.{refl}
use Rattle.std.proofs.KnownBytes.{Appends-nil}
use Rattle.resb_shown.specs.Sink.{AppendsPart}

-- a writer that gained nothing has a part of any text
pub nothing_written : {T E : Type 0} (r : Result T E) (old : Option (List ℕ)) (text : List ℕ)
    → OnErr r (AppendsPart old old text)
nothing_written (Ok x) old text = tt
nothing_written (Err e) old text =
    record { part = []; rest = text; is = refl; gained = Appends-nil old }
