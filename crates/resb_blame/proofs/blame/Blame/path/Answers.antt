use Rattle.std.proofs.Common.{◌≡◌, List, [], ◌∷◌, ◌++◌, map, reverse, refl, sym, ◌∙◌, ap}
use Rattle.std.proofs.lemmas.List.{reverse-append, map-append}
use Rattle.resb_diff.specs.Paths.{step_of}
use Rattle.resb_blame.specs.Blamed.{Blamed}
use Rattle.resb_blame.proofs.blame.Blame.path.Goals as goal

map_reverse : {X Y : Type 0} (f : X → Y) (xs : List X) → map f (reverse xs) ≡ reverse (map f xs)
map_reverse f [] = refl
map_reverse f (x ∷ xs) =
    ap (map f) (reverse-append (x ∷ []) xs)
    ∙ map-append f (reverse xs) (x ∷ [])
    ∙ ap (λ r. r ++ f x ∷ []) (map_reverse f xs)
    ∙ sym (reverse-append (f x ∷ []) (map f xs))

pub returns : goal.returns
returns c =
    let copied = c.in_ok-path.ensures.items ∙ c.deref.ensures.value in
    ap (map step_of) c.reverse.ensures.items
    ∙ map_reverse step_of c.in_ok-path.path.items
    ∙ ap (λ steps. reverse (map step_of steps)) copied
    ∙ ap (λ (b : Blamed). b.path) c.self.view_is
