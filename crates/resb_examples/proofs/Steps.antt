-- Steps of an access to the entries of a table.
use Rattle.std.proofs.Common.{List, [], ◌∷◌, ◌≡◌, Some, None, Ok, Result, Option, ap, subst}
use Rattle.resb.specs.Places.{Place, place_of}
use Rattle.resb.specs.Access.{EntryAccess, EntersTo, StepsOver, StepsAfter, HandsOnBoth}
use Rattle.resb.specs.Access.{RefusesNone}
use Rattle.resb.specs.declared.binary.Cursor.{Cursor}
use Rattle.resb.specs.declared.binary.ReadingError.{ReadingError}

some_first : (rest : List (Place × Place)) (new : EntryAccess) (c : Cursor × Cursor)
    → StepsOver HandsOnBoth RefusesNone rest 0 new 0 (Ok (Some c))
    → (rest ≡ (place_of c.0, place_of c.1) ∷ new.rest) × (new.failed ≡ None)
some_first [] new c h = absurd h
some_first ((a, b) ∷ ps) new c (e, at) =
    let k : place_of c.0 ≡ a = at.0 in
    let v : place_of c.1 ≡ b = at.1 in
    let r : new.rest ≡ ps = ap (λ n. n.rest) e in
    (cc, ap (λ n. n.failed) e)

module _ (old new : EntryAccess) (fresh : old.failed ≡ None) where
  at_first : (r : Result (Option (Cursor × Cursor)) ReadingError) → EntersTo old new r
      → StepsOver HandsOnBoth RefusesNone old.rest 0 new 0 r
  at_first r h = subst (λ f. StepsAfter HandsOnBoth RefusesNone f old 0 new 0 r) fresh h

  pub entry_step_some : (c : Cursor × Cursor) → EntersTo old new (Ok (Some c))
      → (old.rest ≡ (place_of c.0, place_of c.1) ∷ new.rest) × (new.failed ≡ None)
  entry_step_some c h = some_first old.rest new c (at_first (Ok (Some c)) h)
