-- Laws of strings of several parts, as the reader's functions use them.
use Rattle.std.proofs.Common.{◌≡◌, ◌≢◌, ℕ, ◌+◌, ◌-◌, ◌<◌, ◌≤◌, Bool, true, false, List, [], ◌∷◌, ◌++◌}
use Rattle.std.proofs.Common.{length, arith, subst, sym, refl, ap, ◌∙◌, ◌⊎◌, inl, inr, ◌==◌, ◌&&◌}
use Rattle.std.proofs.Common.{slice_index, if◌then◌else◌, eqb-true, append_assoc, not}
use Rattle.std.proofs.lemmas.Bool.{false≢true, and_parts}
use Rattle.std.proofs.lemmas.Bool.Decides.{nat_tests}
use Rattle.resb_grammar.specs.Ascii as ascii
use Rattle.resb_grammar.proofs.Lists.{nonzero_inside}
use Rattle.resb_icu_grammar.specs.Blanks.{Skip}
use Rattle.resb_icu_grammar.specs.Bytes.{is_unquoted}
use Rattle.resb_icu_grammar.specs.Faults.{PieceFault, StringFault, this_part}
use Rattle.resb_icu_grammar.proofs.Faults.{fault_no_piece}
use Rattle.resb_icu_grammar.specs.Pieces.{QuotedBytes, QuotedPiece, Joined, last_piece, one_more}
use Rattle.resb_icu_text.specs.Inner.Found.{OfParts}
use Rattle.resb_icu_text.specs.Inner.Reach.{reach}
use Rattle.resb_icu_text.proofs.ReachLemmas.{reach_quote, reach_unquoted}
use Rattle.resb_icu_grammar.specs.Unquoted.{Unquoted, UnquotedRow, last_one, begins_unquoted}
use Rattle.resb_icu_grammar.specs.Unquoted as rows
use Rattle.resb_icu_grammar.specs.Words.{Part, a_row, quoted, another_follows, Text, one_part}
use Rattle.resb_icu_grammar.specs.Words.{more_parts}
use Rattle.resb_icu_grammar.specs.declared.expected.IcuExpected.{IcuExpected}
use Rattle.resb_icu_grammar.proofs.Lexical.{Skip-one, Piece-one, Unquoted-one, joined_first}
use Rattle.resb_icu_grammar.proofs.Lexical.{no_quote_word, no_quote_row, word_first}
use Rattle.resb_icu_text.specs.Inner.Ahead.{PartFails, in_pieces, nothing}
use Rattle.resb_icu_text.specs.Inner.Parts.{Single, a_piece, a_word, Begun, gap}
use Rattle.resb_icu_text.specs.declared.error.IcuTextError.{IcuTextError}
use Rattle.resb_icu_text.proofs.LengthLemmas.{blanks_order, follows_row, follows_pieces}
use Rattle.resb_icu_text.proofs.LengthLemmas.{row_short, row_order, joined_short, string_short}
use Rattle.resb_icu_text.proofs.PartsLemmas.{RowFrom, one_alone, and_others}
use Rattle.resb_icu_text.proofs.PiecesLemmas.{inside_order}

-- where another part follows, one seems to begin
pub begun_next : (text : List ℕ) (from mid n : ℕ) (u : List ℕ) → Part text from mid u
    → another_follows text from u n ≡ true → Begun text n
begun_next text from mid n u (a_row r) h = inl (follows_row text from mid n u r h)
begun_next text from mid n u (quoted j) h = inr (follows_pieces text from mid n u j h)

-- and where one seems to, none is missing but for the fault of quoted pieces
pub begun_fault : (text : List ℕ) (at : ℕ) (x : IcuExpected) (e : IcuTextError) → Begun text at
    → PartFails text at x e → StringFault text at e.position e.expected
begun_fault text at x e b (in_pieces f) = this_part at e.position e.expected f
begun_fault text at x e (inl q) (nothing n w h) = absurd (n q)
begun_fault text at x e (inr b) (nothing n w h) = absurd (false≢true (sym w.1 ∙ b))

-- so many bytes are said before a part: no more than those of the text before it, or one more where
-- quoted pieces follow
abbrev pub IsCounted : List ℕ → ℕ → ℕ → ℕ → Type 0
IsCounted text from at k =
    (k + from ≤ at) ⊎ ((k + from ≤ at + 1) × (slice_index text at ≡ ascii.quote))

pub counted_first : (text : List ℕ) (from mid n k : ℕ) (u : List ℕ) → Part text from mid u
    → mid ≤ n → another_follows text from u n ≡ true → k ≡ length u + 1
    → IsCounted text from n k
counted_first text from mid n k u (a_row r) o h e =
    inr (omega (arith, row_short text from mid u r, o, e), follows_row text from mid n u r h)
counted_first text from mid n k u (quoted j) o h e =
    inl (omega (arith, joined_short text from mid u j, o, e))

-- with one more part
pub counted_with : (text : List ℕ) (from at mid k : ℕ) (u : List ℕ) → Part text at mid u
    → IsCounted text from at k → k + length u + from ≤ mid
counted_with text from at mid k u (a_row r) (inl l) =
    omega (arith, row_short text at mid u r, l)
counted_with text from at mid k u (a_row r) (inr l) = absurd (no_quote_row text at mid u l.1 r)
counted_with text from at mid k u (quoted j) (inl l) =
    omega (arith, joined_short text at mid u j, l)
counted_with text from at mid k u (quoted j) (inr l) =
    omega (arith, joined_short text at mid u j, l.0)

pub counted_more : (text : List ℕ) (from at mid n k m : ℕ) (u : List ℕ) → Part text at mid u
    → mid ≤ n → another_follows text at u n ≡ true → IsCounted text from at k
    → m ≡ k + length u + 1 → IsCounted text from n m
counted_more text from at mid n k m u (a_row r) o h (inl l) e =
    inr (omega (arith, row_short text at mid u r, o, e, l), follows_row text at mid n u r h)
counted_more text from at mid n k m u (a_row r) o h (inr l) e =
    absurd (no_quote_row text at mid u l.1 r)
counted_more text from at mid n k m u (quoted j) o h (inl l) e =
    inl (omega (arith, joined_short text at mid u j, o, e, l))
counted_more text from at mid n k m u (quoted j) o h (inr l) e =
    inl (omega (arith, joined_short text at mid u j, o, e, l.0))

-- no more than the text has
pub counted_fits : (text : List ℕ) (from at k : ℕ) → at ≤ length text → IsCounted text from at k
    → k ≤ length text
counted_fits text from at k fits (inl l) = omega (arith, l, fits)
counted_fits text from at k fits (inr l) =
    let low : at < length text = nonzero_inside text at (omega (arith, l.1)) in
    omega (arith, l.0, low)

-- one piece or unquoted string after another, with what they say
pub data Strung (text : List ℕ) : ℕ → ℕ → List ℕ → Type 0 where
  last_single : (from to : ℕ) (s : List ℕ) → Single text from to s → Strung text from to s
  and_more : (from mid next to : ℕ) (s later : List ℕ) → Single text from mid s
      → Skip text mid next → mid ≤ next → next < to → Strung text next to later
      → Strung text from to (s ++ (gap text from next ++ later))

-- they end behind their begin
pub single_order : (text : List ℕ) (from to : ℕ) (s : List ℕ) → Single text from to s → from < to
single_order text from to s (a_piece p) =
    omega (arith, p.ends, inside_order text (from + 1) p.last s p.inside)
single_order text from to s (a_word w) = w.some

pub strung_order : (text : List ℕ) (from to : ℕ) (s : List ℕ) → Strung text from to s → from < to
strung_order text from to s (last_single _ _ _ g) = single_order text from to s g
strung_order text from to s (and_more _ m n _ u v g k o l r) =
    omega (arith, single_order text from m u g, o, l)

-- a piece or an unquoted string is one
pub Single-one : (text : List ℕ) (from a b : ℕ) (s t : List ℕ) → Single text from a s
    → Single text from b t → (a ≡ b) × (s ≡ t)
Single-one text from a b s t (a_piece p) (a_piece q) = Piece-one text from a b s t p q
Single-one text from a b s t (a_piece p) (a_word w) =
    absurd (no_quote_word text from b t p.opens w)
Single-one text from a b s t (a_word w) (a_piece p) =
    absurd (no_quote_word text from a s p.opens w)
Single-one text from a b s t (a_word v) (a_word w) = Unquoted-one text from a b s t v w

no_quote_is : (text : List ℕ) (at : ℕ) → slice_index text at ≢ ascii.quote
    → (slice_index text at == ascii.quote) ≡ false
no_quote_is text at n = by (slice_index text at == ascii.quote) refl
  where
    by : (b : Bool) → (slice_index text at == ascii.quote) ≡ b → b ≡ false
    by true e = absurd (n (eqb-true _ _ e))
    by false e = refl

never : (b : Bool) → (b && false) ≡ false
never true = refl
never false = refl

-- where either is no piece, a blank stands between
pub blank_gap : (text : List ℕ) (at next : ℕ)
    → (slice_index text at ≢ ascii.quote) ⊎ (slice_index text next ≢ ascii.quote)
    → gap text at next ≡ ascii.space ∷ []
blank_gap text at next (inl n) =
    ap (λ b. if b && slice_index text next == ascii.quote then [] else ascii.space ∷ [])
    (no_quote_is text at n)
blank_gap text at next (inr n) =
    ap (λ b. if (slice_index text at == ascii.quote) && b then [] else ascii.space ∷ [])
    (no_quote_is text next n)
    ∙ ap (λ b. if b then [] else ascii.space ∷ []) (never (slice_index text at == ascii.quote))

-- where both are, none does
pub no_gap : (text : List ℕ) (at next : ℕ) → slice_index text at ≡ ascii.quote
    → slice_index text next ≡ ascii.quote → gap text at next ≡ []
no_gap text at next p q =
    ap (λ b. if (b == ascii.quote) && slice_index text next == ascii.quote then []
    else ascii.space ∷ []) p
    ∙ ap (λ b. if (ascii.quote == ascii.quote) && b == ascii.quote then []
    else ascii.space ∷ []) q

word_no_quote : (text : List ℕ) (at to : ℕ) (s : List ℕ) → Unquoted text at to s
    → slice_index text at ≢ ascii.quote
word_no_quote text at to s w q = no_quote_word text at to s q w

begun_no_quote : (text : List ℕ) (at : ℕ) → begins_unquoted text at ≡ true
    → slice_index text at ≢ ascii.quote
begun_no_quote text at h q =
    let goes = (and_parts _ _ h).1 in
    false≢true (ap is_unquoted (sym q) ∙ (and_parts _ _ goes).0)

-- quoted pieces, and what follows them
strung_pieces : (text : List ℕ) (from to : ℕ) (s : List ℕ) → Joined text from to s
    → Strung text from to s
strung_pieces text from to s (last_piece _ _ n _ p k h) = last_single from to s (a_piece p)
strung_pieces text from to _ (one_more _ m n _ u v p k j) =
    subst (λ (g : List ℕ). Strung text from to (u ++ (g ++ v)))
    (no_gap text from n p.opens (joined_first text n to v j))
    (and_more from m n to u v (a_piece p) k (blanks_order text m n k.blanks)
    (omega (arith, joined_short text n to v j)) (strung_pieces text n to v j))

pieces_then : (text : List ℕ) (from mid next to : ℕ) (s later : List ℕ) → Joined text from mid s
    → Skip text mid next → slice_index text next ≢ ascii.quote → Strung text next to later
    → Strung text from to (s ++ ascii.space ∷ later)
pieces_then text from mid next to s later (last_piece _ _ n _ p k h) l q t =
    subst (λ (g : List ℕ). Strung text from to (s ++ (g ++ later)))
    (blank_gap text from next (inr q))
    (and_more from mid next to s later (a_piece p) l (blanks_order text mid next l.blanks)
    (strung_order text next to later t) t)
pieces_then text from mid next to _ later (one_more _ m n _ u v p k j) l q t =
    let rest = pieces_then text n mid next to v later j l q t in
    subst (Strung text from to) (sym (append_assoc u v (ascii.space ∷ later)))
    (subst (λ (g : List ℕ). Strung text from to (u ++ (g ++ (v ++ ascii.space ∷ later))))
    (no_gap text from n p.opens (joined_first text n mid v j))
    (and_more from m n to u (v ++ ascii.space ∷ later) (a_piece p) k
    (blanks_order text m n k.blanks)
    (strung_order text n to (v ++ ascii.space ∷ later) rest) rest))

-- unquoted strings, and what follows them
strung_row : (text : List ℕ) (from to : ℕ) (s : List ℕ) → UnquotedRow text from to s
    → Strung text from to s
strung_row text from to s (last_one _ _ n _ w k h) = last_single from to s (a_word w)
strung_row text from to _ (rows.one_more _ m n _ u v w h k r) =
    subst (λ (g : List ℕ). Strung text from to (u ++ (g ++ v)))
    (blank_gap text from n (inl (word_no_quote text from m u w)))
    (and_more from m n to u v (a_word w) k (blanks_order text m n k.blanks)
    (row_order text n to v r) (strung_row text n to v r))

row_then : (text : List ℕ) (from mid next to : ℕ) (s later : List ℕ) → UnquotedRow text from mid s
    → Skip text mid next → Strung text next to later
    → Strung text from to (s ++ ascii.space ∷ later)
row_then text from mid next to s later (last_one _ _ n _ w k h) l t =
    subst (λ (g : List ℕ). Strung text from to (s ++ (g ++ later)))
    (blank_gap text from next (inl (word_no_quote text from mid s w)))
    (and_more from mid next to s later (a_word w) l (blanks_order text mid next l.blanks)
    (strung_order text next to later t) t)
row_then text from mid next to _ later (rows.one_more _ m n _ u v w h k r) l t =
    let rest = row_then text n mid next to v later r l t in
    subst (Strung text from to) (sym (append_assoc u (ascii.space ∷ v) (ascii.space ∷ later)))
    (subst (λ (g : List ℕ). Strung text from to (u ++ (g ++ (v ++ ascii.space ∷ later))))
    (blank_gap text from n (inl (word_no_quote text from m u w)))
    (and_more from m n to u (v ++ ascii.space ∷ later) (a_word w) k
    (blanks_order text m n k.blanks)
    (strung_order text n to (v ++ ascii.space ∷ later) rest) rest))

-- a string by its pieces and unquoted strings
pub strung_text : (text : List ℕ) (from to : ℕ) (s : List ℕ) → Text text from to s
    → Strung text from to s
strung_text text from to s (one_part _ _ n _ (a_row r) k h) = strung_row text from to s r
strung_text text from to s (one_part _ _ n _ (quoted j) k h) = strung_pieces text from to s j
strung_text text from to _ (more_parts _ m n _ u v (a_row r) k h t) =
    row_then text from m n to u v r k (strung_text text n to v t)
strung_text text from to _ (more_parts _ m n _ u v (quoted j) k h t) =
    pieces_then text from m n to u v j k
    (begun_no_quote text n (follows_pieces text from m n u j h)) (strung_text text n to v t)

-- what begins them
pub strung_first : (text : List ℕ) (from to : ℕ) (s : List ℕ) → Strung text from to s
    → (mid : ℕ) × (u : List ℕ) × Single text from mid u × (mid ≤ to)
strung_first text from to s (last_single _ _ _ g) = (to, s, g, omega arith)
strung_first text from to s (and_more _ m n _ u v g k o l r) = (m, u, g, omega (arith, o, l))

-- those by the first one, and the place behind the blanks that follow it
pub strung_from : (text : List ℕ) (at mid next to : ℕ) (first s : List ℕ)
    → Single text at mid first → Skip text mid next → Strung text at to s
    → RowFrom text (λ i v. Strung text i to v) (gap text at next) mid to first s
strung_from text at mid next to first s g k (last_single _ _ _ h) =
    let same = Single-one text at mid to first s g h in
    subst (RowFrom text (λ i v. Strung text i to v) (gap text at next) mid to first) same.1
    (one_alone same.0)
strung_from text at mid next to first _ g k (and_more _ m n _ u v h l o w r) =
    let same = Single-one text at m mid u first h g in
    let there : n ≡ next = Skip-one text mid n next (subst (λ i. Skip text i n) same.0 l) k in
    subst (λ (a : List ℕ). RowFrom text (λ i v. Strung text i to v) (gap text at next) mid to first
    (a ++ (gap text at n ++ v))) (sym same.1)
    (subst (λ i. RowFrom text (λ i v. Strung text i to v) (gap text at next) mid to first
    (first ++ (gap text at i ++ v))) (sym there)
    (and_others next v k (subst (λ i. Strung text i to v) there r)
    (omega (arith, same.0, there, o)) (omega (arith, there, w))))

-- where a single one that begins with a quote stands, quoted pieces have no fault
pub single_fault : (text : List ℕ) (at to : ℕ) (s : List ℕ) (n : ℕ) (x : IcuExpected)
    → slice_index text at ≡ ascii.quote → Single text at to s
    → PieceFault text (at + 1 - 1) (at + 1) n x → ⊥
single_fault text at to s n x q (a_piece p) h =
    let same : at + 1 - 1 ≡ at = omega arith in
    fault_no_piece text at n x (subst (λ i. PieceFault text i (at + 1) n x) same h) to s p
single_fault text at to s n x q (a_word w) h = no_quote_word text at to s q w

-- its piece ends in one place
pub single_piece : (text : List ℕ) (at last to : ℕ) (u s : List ℕ)
    → slice_index text at ≡ ascii.quote → QuotedBytes text (at + 1) last u → Single text at to s
    → last + 1 ≡ to
single_piece text at last to u s q h g =
    (Single-one text at (last + 1) to u s
    (a_piece (record { last = last; opens = q; inside = h; ends = refl })) g).0

-- and so does its unquoted string
pub single_word : (text : List ℕ) (at end to : ℕ) (u s : List ℕ) → Unquoted text at end u
    → Single text at to s → end ≡ to
single_word text at end to u s w g = (Single-one text at end to u s (a_word w) g).0

-- a string of several parts is one
pub text_of : {text : List ℕ} {from to : ℕ} {s : List ℕ} → OfParts text from to s
    → Text text from to s
text_of {text} {from} {to} p =
    subst (Text text from to) (sym p.means)
    (more_parts from p.mid p.next to p.first p.later p.part p.after p.more p.rest)

-- where a single one begins, a reading has looked up to its place
pub strung_reach : (text : List ℕ) (at to : ℕ) (s : List ℕ) → Strung text at to s
    → reach text at ≡ at
strung_reach text at to s t = by (strung_first text at to s t)
  where
    by : (mid : ℕ) × (u : List ℕ) × Single text at mid u × (mid ≤ to) → reach text at ≡ at
    by (m, u, a_piece p, l) = reach_quote text at p.opens
    by (m, u, a_word w, l) = reach_unquoted text at m u w

-- where the first of some ends with them, it says all
pub strung_alone : (text : List ℕ) (at to : ℕ) (first s : List ℕ) → Single text at to first
    → Strung text at to s → s ≡ first
strung_alone text at to first s g (last_single _ _ _ h) = (Single-one text at to to s first h g).1
strung_alone text at to first _ g (and_more _ m n _ u v h l o w r) =
    absurd (omega (arith, (Single-one text at m to u first h g).0, o, w))

-- it ends no later than they do
pub strung_fits : (text : List ℕ) (at mid to : ℕ) (first s : List ℕ) → Single text at mid first
    → Strung text at to s → mid ≤ to
strung_fits text at mid to first s g (last_single _ _ _ h) =
    omega (arith, (Single-one text at to mid s first h g).0)
strung_fits text at mid to first _ g (and_more _ m n _ u v h l o w r) =
    omega (arith, (Single-one text at m mid u first h g).0, o, w)
