-- Where a string has a fault none stands, and it has one fault.
use Rattle.std.proofs.Common.{◌≡◌, ◌≢◌, ℕ, ◌+◌, ◌≤◌, List, refl, ◌∙◌, ap, subst, arith, length}
use Rattle.std.specs.Prelude.{slice_index}
use Rattle.std.proofs.lemmas.List.{get_or_past}
use Rattle.resb_grammar.specs.Ascii as ascii
use Rattle.resb_icu_grammar.specs.Blanks.{Skip}
use Rattle.resb_icu_grammar.specs.Pieces.{QuotedBytes, ends, byte, escape, QuotedPiece, Joined}
use Rattle.resb_icu_grammar.specs.Pieces.{last_piece, one_more}
use Rattle.resb_icu_grammar.specs.Unquoted.{UnquotedRow}
use Rattle.resb_icu_grammar.specs.Words.{Part, a_row, quoted, Text, one_part, more_parts}
use Rattle.resb_icu_grammar.specs.Faults as fault
use Rattle.resb_icu_grammar.specs.Faults.{PieceFault, PiecesFault, this_piece, later_piece}
use Rattle.resb_icu_grammar.specs.Faults.{StringFault, this_part, later_part, Told, a_fault}
use Rattle.resb_icu_grammar.specs.Faults.{no_fault}
use Rattle.resb_icu_grammar.specs.declared.expected.IcuExpected.{IcuExpected}
use Rattle.resb_icu_grammar.proofs.Lexical.{Escape-one, Piece-one, Skip-one, Part-one}
use Rattle.resb_icu_grammar.proofs.Lexical.{follows_once, joined_first, no_quote_row}

past : (text : List ℕ) (at : ℕ) → length text ≤ at → slice_index text at ≡ 0
past text at l = get_or_past text at 0 l

-- where a piece has a fault it has no end
pub fault_no_end : (text : List ℕ) (opening at to : ℕ) (x : IcuExpected)
    → PieceFault text opening at to x → (end : ℕ) (s : List ℕ) → QuotedBytes text at end s → ⊥
fault_no_end text o at _ _ (fault.no_escape _ b f) end _ (ends _ q) = omega (arith, b, q)
fault_no_end text o at _ _ (fault.no_escape _ b f) end _ (byte _ _ s l q c r) = c b
fault_no_end text o at _ _ (fault.no_escape _ b f) end _ (escape _ n _ v s c e r) = f n v e
fault_no_end text o at _ _ (fault.no_end _ l) end _ (ends _ q) =
    let z = past text at l in omega (arith, z, q)
fault_no_end text o at _ _ (fault.no_end _ l) end _ (byte _ _ s m q c r) = omega (arith, l, m)
fault_no_end text o at _ _ (fault.no_end _ l) end _ (escape _ n _ v s c e r) =
    let z = past text at l in omega (arith, z, c)
fault_no_end text o at to x (fault.byte _ _ _ l q b h) end _ (ends _ p) = q p
fault_no_end text o at to x (fault.byte _ _ _ l q b h) end _ (byte _ _ s m p c r) =
    fault_no_end text o (at + 1) to x h end s r
fault_no_end text o at to x (fault.byte _ _ _ l q b h) end _ (escape _ n _ v s c e r) = b c
fault_no_end text o at to x (fault.escape _ n _ v _ b e h) end _ (ends _ q) = omega (arith, b, q)
fault_no_end text o at to x (fault.escape _ n _ v _ b e h) end _ (byte _ _ s m p c r) = c b
fault_no_end text o at to x (fault.escape _ n _ v _ b e h) end _ (escape _ m _ w s c f r) =
    fault_no_end text o n to x h end s
    (subst (λ i. QuotedBytes text i end s) (Escape-one text (at + 1) m n w v f e).0 r)

-- a piece has one fault
pub PieceFault-one : (text : List ℕ) (opening at to end : ℕ) (x y : IcuExpected)
    → PieceFault text opening at to x → PieceFault text opening at end y → (to ≡ end) × (x ≡ y)
PieceFault-one text o at _ _ _ _ (fault.no_escape _ b f) (fault.no_escape _ c g) = (refl, refl)
PieceFault-one text o at _ _ _ _ (fault.no_escape _ b f) (fault.no_end _ l) =
    let z = past text at l in absurd (omega (arith, z, b))
PieceFault-one text o at _ _ _ _ (fault.no_escape _ b f) (fault.byte _ _ _ l q c h) = absurd (c b)
PieceFault-one text o at _ _ _ _ (fault.no_escape _ b f) (fault.escape _ n _ v _ c e h) =
    absurd (f n v e)
PieceFault-one text o at _ _ _ _ (fault.no_end _ l) (fault.no_escape _ b f) =
    let z = past text at l in absurd (omega (arith, z, b))
PieceFault-one text o at _ _ _ _ (fault.no_end _ l) (fault.no_end _ m) = (refl, refl)
PieceFault-one text o at _ _ _ _ (fault.no_end _ l) (fault.byte _ _ _ m q c h) =
    absurd (omega (arith, l, m))
PieceFault-one text o at _ _ _ _ (fault.no_end _ l) (fault.escape _ n _ v _ b e h) =
    let z = past text at l in absurd (omega (arith, z, b))
PieceFault-one text o at _ _ _ _ (fault.byte _ _ _ l q c h) (fault.no_escape _ b f) = absurd (c b)
PieceFault-one text o at _ _ _ _ (fault.byte _ _ _ m q c h) (fault.no_end _ l) =
    absurd (omega (arith, l, m))
PieceFault-one text o at to end x y (fault.byte _ _ _ l q c h) (fault.byte _ _ _ m p b g) =
    PieceFault-one text o (at + 1) to end x y h g
PieceFault-one text o at _ _ _ _ (fault.byte _ _ _ l q c h) (fault.escape _ n _ v _ b e g) =
    absurd (c b)
PieceFault-one text o at _ _ _ _ (fault.escape _ n _ v _ c e h) (fault.no_escape _ b f) =
    absurd (f n v e)
PieceFault-one text o at _ _ _ _ (fault.escape _ n _ v _ b e h) (fault.no_end _ l) =
    let z = past text at l in absurd (omega (arith, z, b))
PieceFault-one text o at _ _ _ _ (fault.escape _ n _ v _ b e g) (fault.byte _ _ _ l q c h) =
    absurd (c b)
PieceFault-one text o at to end x y (fault.escape _ n _ v _ b e h)
    (fault.escape _ m _ w _ c f g) =
    PieceFault-one text o n to end x y h
    (subst (λ i. PieceFault text o i end y) (Escape-one text (at + 1) m n w v f e).0 g)

-- where a piece has a fault none ends
pub fault_no_piece : (text : List ℕ) (from to : ℕ) (x : IcuExpected)
    → PieceFault text from (from + 1) to x → (end : ℕ) (s : List ℕ) → QuotedPiece text from end s
    → ⊥
fault_no_piece text from to x h end s p =
    fault_no_end text from (from + 1) to x h p.last s p.inside

-- quoted pieces with a fault begin with a quote
pub fault_first : (text : List ℕ) (from to : ℕ) (x : IcuExpected) → PiecesFault text from to x
    → slice_index text from ≡ ascii.quote
fault_first text from to x (this_piece _ _ _ q h) = q
fault_first text from to x (later_piece _ m n _ s _ p k h) = p.opens

fault_no_row : (text : List ℕ) (from to : ℕ) (x : IcuExpected) → PiecesFault text from to x
    → (end : ℕ) (s : List ℕ) → Joined text from end s → ⊥
fault_no_row text from to x (this_piece _ _ _ q h) end s (last_piece _ _ n _ p k e) =
    fault_no_piece text from to x h end s p
fault_no_row text from to x (this_piece _ _ _ q h) end _ (one_more _ m n _ u v p k r) =
    fault_no_piece text from to x h m u p
fault_no_row text from to x (later_piece _ m n _ s _ p k h) end t (last_piece _ _ i _ q l e) =
    let same = Piece-one text from end m t s q p in
    let there : i ≡ n = Skip-one text m i n (subst (λ j. Skip text j i) same.0 l) k in
    e (ap (λ j. slice_index text j) there ∙ fault_first text n to x h)
fault_no_row text from to x (later_piece _ m n _ s _ p k h) end _ (one_more _ j i _ u v q l r) =
    let same = Piece-one text from j m u s q p in
    let there : i ≡ n = Skip-one text m i n (subst (λ a. Skip text a i) same.0 l) k in
    fault_no_row text n to x h end v (subst (λ a. Joined text a end v) there r)

-- where quoted pieces have a fault no part of a string stands
pub fault_no_part : (text : List ℕ) (from to : ℕ) (x : IcuExpected) → PiecesFault text from to x
    → (end : ℕ) (s : List ℕ) → Part text from end s → ⊥
fault_no_part text from to x h end s (a_row r) =
    no_quote_row text from end s (fault_first text from to x h) r
fault_no_part text from to x h end s (quoted j) = fault_no_row text from to x h end s j

-- where a string has a fault none stands
pub fault_no_string : (text : List ℕ) (from to : ℕ) (x : IcuExpected) → StringFault text from to x
    → (end : ℕ) (s : List ℕ) → Text text from end s → ⊥
fault_no_string text from to x (this_part _ _ _ h) end s (one_part _ _ n _ p k f) =
    fault_no_part text from to x h end s p
fault_no_string text from to x (this_part _ _ _ h) end s (more_parts _ m n _ u v p k f r) =
    fault_no_part text from to x h m u p
fault_no_string text from to x (later_part _ m n _ s _ p k f h) end t (one_part _ _ i _ q l g) =
    follows_once text from end m i n t s q l g p k f
fault_no_string text from to x (later_part _ m n _ s _ p k f h) end _
    (more_parts _ j i _ u v q l g r) =
    let same = Part-one text from j m u s q p in
    let there : i ≡ n = Skip-one text m i n (subst (λ a. Skip text a i) same.0 l) k in
    fault_no_string text n to x h end v (subst (λ a. Text text a end v) there r)

-- quoted pieces have one fault
pub PiecesFault-one : (text : List ℕ) (from to end : ℕ) (x y : IcuExpected)
    → PiecesFault text from to x → PiecesFault text from end y → (to ≡ end) × (x ≡ y)
PiecesFault-one text from to end x y (this_piece _ _ _ q h) (this_piece _ _ _ p g) =
    PieceFault-one text from (from + 1) to end x y h g
PiecesFault-one text from to end x y (this_piece _ _ _ q h) (later_piece _ m n _ s _ p k g) =
    absurd (fault_no_piece text from to x h m s p)
PiecesFault-one text from to end x y (later_piece _ m n _ s _ p k g) (this_piece _ _ _ q h) =
    absurd (fault_no_piece text from end y h m s p)
PiecesFault-one text from to end x y (later_piece _ m n _ s _ p k h)
    (later_piece _ i j _ t _ q l g) =
    let same = Piece-one text from i m t s q p in
    let there : j ≡ n = Skip-one text m j n (subst (λ a. Skip text a j) same.0 l) k in
    PiecesFault-one text n to end x y h (subst (λ a. PiecesFault text a end y) there g)

-- a string has one fault
pub StringFault-one : (text : List ℕ) (from to end : ℕ) (x y : IcuExpected)
    → StringFault text from to x → StringFault text from end y → (to ≡ end) × (x ≡ y)
StringFault-one text from to end x y (this_part _ _ _ h) (this_part _ _ _ g) =
    PiecesFault-one text from to end x y h g
StringFault-one text from to end x y (this_part _ _ _ h) (later_part _ m n _ s _ p k f g) =
    absurd (fault_no_part text from to x h m s p)
StringFault-one text from to end x y (later_part _ m n _ s _ p k f g) (this_part _ _ _ h) =
    absurd (fault_no_part text from end y h m s p)
StringFault-one text from to end x y (later_part _ m n _ s _ p k f h)
    (later_part _ i j _ t _ q l e g) =
    let same = Part-one text from i m t s q p in
    let there : j ≡ n = Skip-one text m j n (subst (λ a. Skip text a j) same.0 l) k in
    StringFault-one text n to end x y h (subst (λ a. StringFault text a end y) there g)

-- where one thing was expected, one thing is told
pub Told-one : (text : List ℕ) (at to end : ℕ) (e x y : IcuExpected) → Told text at e to x
    → Told text at e end y → (to ≡ end) × (x ≡ y)
Told-one text at to end e x y (a_fault _ _ h) (a_fault _ _ g) =
    StringFault-one text at to end x y h g
Told-one text at to end e x y (a_fault _ _ h) (no_fault n) = absurd (n to x h)
Told-one text at to end e x y (no_fault n) (a_fault _ _ h) = absurd (n end y h)
Told-one text at to end e x y (no_fault n) (no_fault m) = (refl, refl)

-- of a string no fault is told
pub string_told : (text : List ℕ) (at i : ℕ) (s : List ℕ) (x : IcuExpected) → Text text at i s
    → Told text at x at x
string_told text at i s x p = no_fault (λ to y h. fault_no_string text at to y h i s p)

-- nor where neither a quote stands nor an unquoted string begins
pub unquoted_told : (text : List ℕ) (at : ℕ) (x : IcuExpected)
    → slice_index text at ≢ ascii.quote
    → ((to : ℕ) (s : List ℕ) → UnquotedRow text at to s → ⊥) → Told text at x at x
unquoted_told text at x n none = no_fault by
  where
    by : (to : ℕ) (y : IcuExpected) → StringFault text at to y → ⊥
    by to y (this_part _ _ _ h) = n (fault_first text at to y h)
    by to y (later_part _ m i _ s _ (a_row r) k f h) = none m s r
    by to y (later_part _ m i _ s _ (quoted j) k f h) = n (joined_first text at m s j)
