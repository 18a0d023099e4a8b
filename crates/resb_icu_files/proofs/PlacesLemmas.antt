-- Places of a new text keep their order, since what was changed stands in a row in both texts.
use Rattle.std.proofs.Common.{◌≡◌, ℕ, ◌+◌, ◌-◌, ◌^◌, ◌<◌, ◌≤◌, ◌⊎◌, inl, inr, ⊎_elim, Bool, true}
use Rattle.std.proofs.Common.{false, List, [], ◌∷◌, ◌++◌, Option, Some, None, length, arith, refl}
use Rattle.std.proofs.Common.{sym, ap, ◌∙◌, if◌then◌else◌, ◌==◌, nat_lt, IfSome}
use Rattle.std.specs.Prelude.{fold, min, slice_index, slice_range}
use Rattle.std.proofs.lemmas.Grind.{common_steps}
use Rattle.std.proofs.lemmas.Bool.{lt-ltb, le-ltb, ltb-true, ltb-false}
use Rattle.std.proofs.lemmas.List.{get_or_past, length-append}
use Rattle.resb_grammar.specs.Ascii as ascii
use Rattle.resb_icu_files.specs.Places.{place_by, place_before}
use Rattle.resb_icu_files.specs.Stretches.{Stretch, Passes, nothing, more, blanks, quoted, other}
use Rattle.resb_icu_files.specs.Stretches.{closer_at}
use Rattle.resb_icu_files.specs.TakenIn.{Taken, ends, group, ended}
use Rattle.resb_icu_files.specs.Writing.{Output, no_output, copied, rewritten, with_listed}
use Rattle.resb_icu_files.specs.Writing.{entry_of}
use Rattle.resb_icu_files.specs.declared.file.TextFile.{TextFile}
use Rattle.resb_icu_files.specs.declared.way.Way.{Way}
use Rattle.resb_icu_files.specs.declared.way.Way.TheVariants as way
use Rattle.resb_icu_files.proofs.OrderLemmas.{group_order}
use Rattle.resb_icu_files.proofs.TakingLemmas.{IsCloser, closer_here}
use Rattle.resb_icu_files.specs.declared.taken.Change.{Change}

-- a place as far behind the end of a change, or the last one that is counted
abbrev pub counted : ℕ → ℕ
counted n = min n (2 ^ 64 - 1)

-- a place before a change, within it, and behind it
earlier : (p before : ℕ) (c : Change) → p < c.new_from → place_by p before c ≡ before
earlier p before c low = rw (lt-ltb p c.new_from low) refl

within : (p before : ℕ) (c : Change) → c.new_from ≤ p → p < c.new_to
    → place_by p before c ≡ c.from
within p before c high low = rw (le-ltb p c.new_from high, lt-ltb p c.new_to low) refl

behind : (p before : ℕ) (c : Change) → c.new_from ≤ p → c.new_to ≤ p
    → place_by p before c ≡ counted (c.to + (p - c.new_to))
behind p before c high end = rw (le-ltb p c.new_from high, le-ltb p c.new_to end) refl

-- a number is less than another, or isn't
split : (a b : ℕ) → (a < b) ⊎ (b ≤ a)
split a b = by (nat_lt a b) refl
  where
    by : (t : Bool) → nat_lt a b ≡ t → (a < b) ⊎ (b ≤ a)
    by true e = inl (ltb-true a b e)
    by false e = inr (ltb-false a b e)

-- a change begins behind a place of the old text and one of the new, as far in both
pub record Follows (old new : ℕ) (c : Change) : Type 0 where
  pub order : old ≤ c.from
  pub new_order : new ≤ c.new_from
  pub same : c.from + new ≡ old + c.new_from
  pub ahead : c.from ≤ c.to
  pub new_ahead : c.new_from ≤ c.new_to
  pub fits : c.from < 2 ^ 64

-- changes that each follow the one before
pub data Row : ℕ → ℕ → List Change → ℕ → ℕ → Type 0 where
  no_change : (old new : ℕ) → Row old new [] old new
  a_change : (old new last last_new : ℕ) (c : Change) (cs : List Change) → Follows old new c
      → Row c.to c.new_to cs last last_new → Row old new (c ∷ cs) last last_new

-- one more
pub row_on : (old new last last_new : ℕ) (cs : List Change) (c : Change)
    → Row old new cs last last_new → Follows last last_new c
    → Row old new (cs ++ c ∷ []) c.to c.new_to
row_on old new last last_new cs c (no_change _ _) f =
    a_change _ _ _ _ c [] f (no_change c.to c.new_to)
row_on old new last last_new cs c (a_change _ _ _ _ d ds g r) f =
    a_change _ _ _ _ d _ g (row_on d.to d.new_to last last_new ds c r f)

-- a place before a row is left as it is
stays : (old new last last_new p b : ℕ) (cs : List Change) → Row old new cs last last_new → p < new
    → fold (place_by p) b cs ≡ b
stays old new last last_new p b cs (no_change _ _) low = refl
stays old new last last_new p b cs (a_change _ _ _ _ c ds f r) low =
    ap (λ n. fold (place_by p) n ds)
    (earlier p b c (omega (arith, low, f.new_order)))
    ∙ stays c.to c.new_to last last_new p b ds r (omega (arith, low, f.new_order, f.new_ahead))

-- where a place goes by the first change of a row
by_first : (p b n : ℕ) (c : Change) (cs : List Change) → place_by p b c ≡ n
    → fold (place_by p) b (c ∷ cs) ≡ fold (place_by p) n cs
by_first p b n c cs e = ap (λ m. fold (place_by p) m cs) e

-- where a place goes that stands before the end of the first change
by_first_alone : (old new last last_new p b n : ℕ) (c : Change) (cs : List Change)
    → Row c.to c.new_to cs last last_new → p < c.new_to → place_by p b c ≡ n
    → fold (place_by p) b (c ∷ cs) ≡ n
by_first_alone old new last last_new p b n c cs r low e =
    by_first p b n c cs e ∙ stays c.to c.new_to last last_new p n cs r low

-- a place behind the begin of a row stays behind it
at_least : (old new last last_new q : ℕ) (cs : List Change) → Row old new cs last last_new
    → new ≤ q → counted old ≤ fold (place_by q) (counted (old + (q - new))) cs
at_least old new last last_new q cs (no_change _ _) high = omega arith
at_least old new last last_new q cs (a_change _ _ _ _ c ds f r) high =
    let b = counted (old + (q - new)) in
    ⊎_elim (λ (low : q < c.new_from).
    let e = by_first_alone old new last last_new q b b c ds r
    (omega (arith, low, f.new_ahead)) (earlier q b c low) in
    omega (arith, e))
    (λ (begun : c.new_from ≤ q).
    ⊎_elim (λ (low : q < c.new_to).
    let e = by_first_alone old new last last_new q b c.from c ds r low
    (within q b c begun low) in
    omega (arith, e, f.order))
    (λ (past : c.new_to ≤ q).
    let e = by_first q b (counted (c.to + (q - c.new_to))) c ds (behind q b c begun past) in
    omega (arith, e, f.order, f.ahead, at_least c.to c.new_to last last_new q ds r past))
    (split q c.new_to))
    (split q c.new_from)

-- two places behind the begin of a row keep their order
pub keep_order : (old new last last_new p q : ℕ) (cs : List Change) → Row old new cs last last_new
    → new ≤ p → p ≤ q
    → fold (place_by p) (counted (old + (p - new))) cs
    ≤ fold (place_by q) (counted (old + (q - new))) cs
keep_order old new last last_new p q cs (no_change _ _) high order = omega (arith, order, high)
keep_order old new last last_new p q cs (a_change _ _ _ _ c ds f r) high order =
    let b = counted (old + (p - new)) in
    let d = counted (old + (q - new)) in
    ⊎_elim (λ (low : p < c.new_from).
    let e = by_first_alone old new last last_new p b b c ds r
    (omega (arith, low, f.new_ahead)) (earlier p b c low) in
    ⊎_elim (λ (also : q < c.new_from).
    let g = by_first_alone old new last last_new q d d c ds r
    (omega (arith, also, f.new_ahead)) (earlier q d c also) in
    omega (arith, e, g, high, order))
    (λ (begun : c.new_from ≤ q).
    ⊎_elim (λ (also : q < c.new_to).
    let g = by_first_alone old new last last_new q d c.from c ds r also
    (within q d c begun also) in
    omega (arith, e, g, high, low, f.same, f.new_order))
    (λ (past : c.new_to ≤ q).
    let g = by_first q d (counted (c.to + (q - c.new_to))) c ds (behind q d c begun past) in
    let l = at_least c.to c.new_to last last_new q ds r past in
    omega (arith, e, g, l, high, low, f.same, f.new_order, f.ahead))
    (split q c.new_to))
    (split q c.new_from))
    (λ (begun : c.new_from ≤ p).
    ⊎_elim (λ (low : p < c.new_to).
    let e = by_first_alone old new last last_new p b c.from c ds r low
    (within p b c begun low) in
    ⊎_elim (λ (also : q < c.new_to).
    let g = by_first_alone old new last last_new q d c.from c ds r also
    (within q d c (omega (arith, begun, order)) also) in
    omega (arith, e, g))
    (λ (past : c.new_to ≤ q).
    let g = by_first q d (counted (c.to + (q - c.new_to))) c ds
    (behind q d c (omega (arith, begun, order)) past) in
    let l = at_least c.to c.new_to last last_new q ds r past in
    omega (arith, e, g, l, f.ahead, f.fits))
    (split q c.new_to))
    (λ (past : c.new_to ≤ p).
    let e = by_first p b (counted (c.to + (p - c.new_to))) c ds (behind p b c begun past) in
    let g = by_first q d (counted (c.to + (q - c.new_to))) c ds
    (behind q d c (omega (arith, begun, order)) (omega (arith, past, order))) in
    omega (arith, e, g, keep_order c.to c.new_to last last_new p q ds r past order))
    (split p c.new_to))
    (split p c.new_from)

-- what a text has become up to a place: its changes stand in a row, and as far behind the last of
-- them as the place does, the new text ends
record InStep (from : ℕ) (m : Output) : Type 0 where
  last : ℕ
  last_new : ℕ
  row : Row 0 0 m.changes last last_new
  order : last ≤ from
  same : from + last_new ≡ last + length m.said

-- a copy is as long as what it is of
copied_length : (text : List ℕ) (from at : ℕ) (m : Output) → from ≤ at → at ≤ length text
    → length (copied text from at m).said ≡ length m.said + (at - from)
copied_length text from at m low high =
    let e : length (slice_range text from at) ≡ at - from =
    grind (arith, common_steps, low, high) in
    length-append m.said (slice_range text from at) ∙ ap (λ n. length m.said + n) e

-- what is written anew behind a copy follows the row
rewritten_step : (text : List ℕ) (from at to : ℕ) (bytes : List ℕ) (m : Output) → from ≤ at
    → at ≤ length text → at ≤ to → length text < 2 ^ 64 → InStep from m
    → InStep to (rewritten at to bytes (copied text from at m))
rewritten_step text from at to bytes m low high order small j =
    let n = copied text from at m in
    let e = copied_length text from at m low high in
    let c : Change = record {
      from = at;
      to = to;
      new_from = length n.said;
      new_to = length n.said + length bytes;
    } in
    let f : Follows j.last j.last_new c = record {
      order = omega (arith, j.order, low);
      new_order = omega (arith, e, j.same, j.order);
      same = omega (arith, e, j.same, j.order, low);
      ahead = order;
      new_ahead = omega arith;
      fits = omega (arith, high, small);
    } in
    record {
      last = to;
      last_new = length n.said + length bytes;
      row = row_on 0 0 j.last j.last_new m.changes c j.row f;
      order = omega arith;
      same = ap (λ n. to + n) (sym (length-append n.said bytes));
    }

-- what is listed is no change
listed_step : (kind : Way) (inside : List ℕ) (place : ℕ) (name : List ℕ) (from : ℕ) (m : Output)
    → InStep from m → InStep from (with_listed kind inside place name m)
listed_step way.Dependency inside place name from m j = record {
  last = j.last;
  last_new = j.last_new;
  row = j.row;
  order = j.order;
  same = j.same;
}
listed_step way.Include inside place name from m j = j
listed_step way.Import inside place name from m j = j
listed_step way.Rules inside place name from m j = j
listed_step way.CollationRules inside place name from m j = j

-- a row of the changes, whatever stands behind them
record InRow (m : Output) : Type 0 where
  last : ℕ
  last_new : ℕ
  row : Row 0 0 m.changes last last_new

-- the end of a text changes nothing, or writes the entry before a `}`
end_row : (b : Bool) (text : List ℕ) (from at : ℕ) (m : Output) → from ≤ at → at < length text
    → length text < 2 ^ 64 → InStep from m
    → InRow (if b then copied text from (length text) m
    else copied text at (length text) (rewritten at at (entry_of m.listed) (copied text from at m)))
end_row true text from at m low high small j =
    record { last = j.last; last_new = j.last_new; row = j.row }
end_row false text from at m low high small j =
    let r = rewritten_step text from at at (entry_of m.listed) m low (omega (arith, high))
    (omega arith) small j in
    record { last = r.last; last_new = r.last_new; row = r.row }

-- where a byte other than 0 stands, the text goes on
inside : (text : List ℕ) (at b : ℕ) → slice_index text at ≡ b → 0 < b → at < length text
inside text at b e some =
    ⊎_elim (λ low. low) (λ high. absurd (omega (arith, get_or_past text at 0 high, e, some)))
    (split at (length text))

ended_row : (text : List ℕ) (from : ℕ) (closer : Option ℕ) (m : Output) → length text < 2 ^ 64
    → IfSome closer (IsCloser text from) → InStep from m → InRow (ended text from closer m)
ended_row text from None m small is j =
    record { last = j.last; last_new = j.last_new; row = j.row }
ended_row text from (Some at) m small is j =
    end_row (length m.listed == 0) text from at m is.0
    (inside text at ascii.right_brace is.1 (omega arith)) small j

-- a stretch ends no earlier than it begins
passes_order : (text : List ℕ) (at to depth behind : ℕ) → Passes text at depth to behind → at ≤ to
passes_order text at to depth behind (blanks _ o s) = omega (arith, o)
passes_order text at to depth behind (quoted _ bytes o q t) = omega (arith, o)
passes_order text at to depth behind (other o n) = omega arith

stretch_order : (text : List ℕ) (at to depth last : ℕ) → Stretch text at depth to last → at ≤ to
stretch_order text at to depth last (nothing _ _) = omega arith
stretch_order text at to depth last (more _ mid _ _ behind _ p s) =
    omega (arith, passes_order text at mid depth behind p, stretch_order text mid to behind last s)

taken_row : (files : List TextFile) (text : List ℕ) (from depth : ℕ) (m a : Output)
    → length text < 2 ^ 64 → InStep from m → Taken files text from depth m a → InRow a
taken_row files text from depth m a small j (ends _ _ to last _ s e) =
    ended_row text from (closer_at text to) m small
    (closer_here text from to (stretch_order text from to depth last s)) j
taken_row files text from depth m a small j
    (group _ _ at deep brace last kind name bytes _ _ s g w t) =
    let high = inside text at ascii.colon g.colon (omega arith) in
    let r = rewritten_step text from at (last + 1) bytes m
    (stretch_order text from at depth deep s) (omega (arith, high))
    (omega (arith, group_order text at brace last kind name g)) small j in
    taken_row files text (last + 1) deep _ a small
    (listed_step kind (slice_range text (brace + 1) last) at name (last + 1)
    (rewritten at (last + 1) bytes (copied text from at m)) r) t

-- where a place stands behind nothing, it is counted as it is
counted_whole : (p : ℕ) → p < 2 ^ 64 → p ≡ counted (0 + (p - 0))
counted_whole p low = omega (arith, low)

pub places_order : (files : List TextFile) (text : List ℕ) (a : Output) (p q : ℕ)
    → length text < 2 ^ 64 → Taken files text 0 0 no_output a → p ≤ q → q < 2 ^ 64
    → place_before a.changes p ≤ place_before a.changes q
places_order files text a p q small t order low =
    let begun : InStep 0 no_output = record {
      last = 0;
      last_new = 0;
      row = no_change 0 0;
      order = omega arith;
      same = refl;
    } in
    let r = taken_row files text 0 0 no_output a small begun t in
    let k = keep_order 0 0 r.last r.last_new p q a.changes r.row (omega arith) order in
    let e : fold (place_by p) p a.changes ≡ fold (place_by p) (counted (0 + (p - 0))) a.changes =
    ap (λ b. fold (place_by p) b a.changes) (counted_whole p (omega (arith, order, low))) in
    let f : fold (place_by q) q a.changes ≡ fold (place_by q) (counted (0 + (q - 0))) a.changes =
    ap (λ b. fold (place_by q) b a.changes) (counted_whole q low) in
    omega (arith, k, e, f)
