-- Laws of strings and keys, as the reader's functions use them.
use Rattle.std.proofs.Common.{◌≡◌, ◌≢◌, ℕ, suc, ◌+◌, ◌-◌, ◌<◌, ◌≤◌, true, false, List, [], ◌∷◌}
use Rattle.std.proofs.Common.{◌++◌, length, arith, subst, sym, refl, ap, ◌∙◌, take, drop, drop-cons}
use Rattle.std.proofs.Common.{◌⊎◌, inl, inr, slice_index, slice_range, IsTrue, ◌↔◌}
use Rattle.std.specs.Borrow.{Bor}
use Rattle.std.proofs.lemmas.Bool.{false≢true}
use Rattle.resb_grammar.specs.Ascii as ascii
use Rattle.resb_icu_grammar.specs.Bytes.{are_key_bytes}
use Rattle.resb_icu_grammar.specs.Blanks.{Skip}
use Rattle.resb_icu_grammar.specs.Pieces.{QuotedBytes, ends, byte, escape, QuotedPiece, Joined}
use Rattle.resb_icu_grammar.specs.Pieces.{last_piece, one_more}
use Rattle.resb_icu_grammar.specs.Faults.{PieceFault, PiecesFault, this_piece, StringFault}
use Rattle.resb_icu_grammar.specs.Faults.{this_part, Told, a_fault}
use Rattle.resb_icu_grammar.specs.declared.expected.IcuExpected.{IcuExpected}
use Rattle.resb_icu_grammar.proofs.Faults.{fault_no_string, unquoted_told}
use Rattle.resb_icu_grammar.specs.Unquoted.{Unquoted, last_one, UnquotedRow}
use Rattle.resb_icu_grammar.specs.Words.{Part, another_follows, Text, one_part, more_parts}
use Rattle.resb_icu_grammar.specs.Words.{KeyText, HasNoEscape, Verbatim, a_word, a_piece}
use Rattle.resb_icu_grammar.specs.Unquoted as rows
use Rattle.resb_icu_grammar.specs.Words as words
use Rattle.resb_icu_grammar.proofs.Lexical.{Piece-one, no_quote_word, joined_first, Inside-one}
use Rattle.resb_icu_grammar.proofs.Lexical.{Unquoted-one, no_quote_row}
use Rattle.std.proofs.lemmas.List.{length-append}
use Rattle.resb_icu_text.proofs.LengthLemmas.{blanks_order, part_short, string_short, joined_short}
use Rattle.resb_icu_text.proofs.LengthLemmas.{ends_alone}
use Rattle.resb_icu_text.proofs.PartsLemmas.{Rows, RowFrom, one_alone, and_others, Walked, IsApart}
use Rattle.resb_icu_text.proofs.ReachLemmas.{reach_part}
use Rattle.resb_icu_text.proofs.ReachLemmas.{reach_low, reach_high}
use Rattle.resb_icu_text.specs.declared.strings.Said.{Said}
use Rattle.resb_icu_grammar.specs.Stuck.{NoStringAt}
use Rattle.resb_icu_text.specs.Lexemes.{IsLexeme}
use Rattle.resb_icu_text.specs.Inner.Ahead.{StringFails, PartFails, in_pieces, nothing}
use Rattle.resb_icu_text.specs.Inner.Found.{IsPart, IsFound, IsSaid, Shows, OfParts, length_of}
use Rattle.resb_icu_text.specs.Inner.Found.{fits_key, is_whole}
use Rattle.resb_icu_text.specs.Inner.Unquoted.{row_goes_on}
use Rattle.resb_icu_text.specs.declared.strings.Found.{Found}
use Rattle.resb_icu_text.specs.declared.strings.Stands.{Stands}
use Rattle.resb_icu_text.specs.declared.strings.Stands.TheVariants as found
use Rattle.resb_icu_text.specs.declared.error.IcuTextError.{IcuTextError}
use Rattle.resb_icu_text.proofs.PiecesLemmas.{inside_order, inside_closes, escape_order}
use Rattle.resb_icu_text.proofs.Lists.{slice_none}

-- a quoted piece by its inside
pub piece_of : (text : List ℕ) (from last : ℕ) (bytes : List ℕ)
    → slice_index text from ≡ ascii.quote → QuotedBytes text (from + 1) last bytes
    → QuotedPiece text from (last + 1) bytes
piece_of text from last bytes q h = record { last = last; opens = q; inside = h; ends = refl }

-- where no unquoted string stands, no row does
no_row : (text : List ℕ) (from : ℕ) → ((to : ℕ) (s : List ℕ) → Unquoted text from to s → ⊥)
    → (to : ℕ) (s : List ℕ) → UnquotedRow text from to s → ⊥
no_row text from never to s (last_one _ _ m _ w k h) = never to s w
no_row text from never to s (rows.one_more _ m i _ us vs w h k r) = never m us w

-- where neither a quote nor an unquoted string stands, no string does
pub no_lexeme : (text : List ℕ) (from : ℕ) → slice_index text from ≢ ascii.quote
    → ((to : ℕ) (s : List ℕ) → Unquoted text from to s → ⊥) → NoStringAt text from
no_lexeme text from n never to s t = by t
  where
    no_part : {end : ℕ} {u : List ℕ} → Part text from end u → ⊥
    no_part {end} {u} (words.a_row r) = no_row text from never end u r
    no_part {end} {u} (words.quoted j) = n (joined_first text from end u j)

    by : {end : ℕ} {u : List ℕ} → Text text from end u → ⊥
    by (one_part _ _ m _ p k h) = no_part p
    by (more_parts _ m i _ us vs p k h r) = no_part p

-- the fault of the piece that begins here
pub piece_fault : (text : List ℕ) (from to : ℕ) (x : IcuExpected)
    → slice_index text from ≡ ascii.quote
    → PieceFault text (from + 1 - 1) (from + 1) to x → PiecesFault text from to x
piece_fault text from to x q h =
    let same : from + 1 - 1 ≡ from = omega arith in
    this_piece from to x q (subst (λ i. PieceFault text i (from + 1) to x) same h)

-- where a string has a fault none stands, and the fault is told
pub fault_fails : (text : List ℕ) (from : ℕ) (x : IcuExpected) (e : IcuTextError)
    → StringFault text from e.position e.expected → StringFails text from x e
fault_fails text from x e f =
    (fault_no_string text from e.position e.expected f, a_fault e.position e.expected f)

-- where neither a quote nor an unquoted string stands, what was expected is told
pub unquoted_fails : (text : List ℕ) (from : ℕ) (x : IcuExpected) (e : IcuTextError)
    → e ≡ record { position = from; expected = x } → slice_index text from ≢ ascii.quote
    → ((to : ℕ) (s : List ℕ) → Unquoted text from to s → ⊥) → StringFails text from x e
unquoted_fails text from x e h n w = (
  no_lexeme text from n w,
  subst (λ (f : IcuTextError). Told text from x f.position f.expected) (sym h)
      (unquoted_told text from x n (no_row text from w)),
)

-- where no part of a string stands, no string does, and the same is told
pub part_fails : (text : List ℕ) (from : ℕ) (x : IcuExpected) (e : IcuTextError)
    → PartFails text from x e → StringFails text from x e
part_fails text from x e (in_pieces f) =
    fault_fails text from x e (this_part from e.position e.expected f)
part_fails text from x e (nothing n w h) = unquoted_fails text from x e h n w.0

-- what stands between two places is its first byte and the others
pub slice_cons : (text : List ℕ) (at to : ℕ) → at < to → at < length text
    → slice_range text at to ≡ slice_index text at ∷ slice_range text (at + 1) to
slice_cons text at to low fits =
    let n : to - at ≡ suc (to - (at + 1)) = omega arith in
    let m : suc at ≡ at + 1 = omega arith in
    ap (λ k. take k (drop at text)) n
    ∙ ap (λ l. take (suc (to - (at + 1))) l) (drop-cons text at 0 fits)
    ∙ ap (λ k. slice_index text at ∷ take (to - (at + 1)) (drop k text)) m

-- what stands in a piece without escapes is what it stands for
pub plain_inside : (text : List ℕ) (at to : ℕ) (s : List ℕ) → QuotedBytes text at to s
    → HasNoEscape text at to → s ≡ slice_range text at to
plain_inside text at to s (ends _ h) n = sym (slice_none text at)
plain_inside text at to s (byte _ _ vs l q b r) n =
    let low : at + 1 ≤ to = inside_order text (at + 1) to vs r in
    ap (λ k. slice_index text at ∷ k)
    (plain_inside text (at + 1) to vs r (λ i o p. n i (omega (arith, o)) p))
    ∙ sym (slice_cons text at to (omega (arith, low)) l)
plain_inside text at to s (escape _ m _ xs vs b x r) n =
    absurd (n at (omega arith) (omega (
      arith,
      escape_order text (at + 1) m xs x,
      inside_order text m to vs r,
    )) b)

-- a piece without escapes has none from its first quote to its last
no_escape_quoted : (text : List ℕ) (from last : ℕ) → slice_index text from ≡ ascii.quote
    → slice_index text last ≡ ascii.quote → HasNoEscape text (from + 1) last
    → HasNoEscape text from (last + 1)
no_escape_quoted text from last q r n k low high b =
    n k (omega (arith, low, other from q)) (omega (arith, high, other last r)) b
  where
    other : (i : ℕ) → slice_index text i ≡ ascii.quote → k ≢ i
    other i e s = absurd (omega (arith, e, b, ap (λ n. slice_index text n) s))

-- what may be a key is what stands in the text as it is, with bytes that a key may have
pub key_plain : (text : List ℕ) (from to : ℕ) (s : List ℕ) → KeyText text from to s
    → Verbatim text from to s × (are_key_bytes s ≡ true)
key_plain text from to s k = (k.verbatim, k.fits)

plain_is_part : (text : List ℕ) (from to : ℕ) (s : List ℕ) → Verbatim text from to s
    → Part text from to s
plain_is_part text from to s (a_word r w) = words.a_row r
plain_is_part text from to s (a_piece j p n) = words.quoted j

-- what was found says just as many bytes as it is told to
pub length_shown : (text : List ℕ) (from end : ℕ) (said : List ℕ) (s : Stands)
    → Shows text from end said s → length said ≡ length_of s
length_shown text from end said (found.Whole slice) h = ap length (sym h)
length_shown text from end said (found.InPieces n) h = sym h.0
length_shown text from end said (found.InRow n) h = sym h.0
length_shown text from end said (found.InParts n) h = sym h.0

module _ {text : List ℕ} {from end next : ℕ} {said : List ℕ} (stands : Stands)
    (p : Part text from end said) (shows : Shows text from end said stands)
    (blanks : Skip text end next) (order : end ≤ next) (fits : next ≤ length text) where
  -- a part that stands there, and whether it is a slice
  found_there : IsTrue (is_whole stands) ↔ Verbatim text from end said
      → IsPart text from (record { end = end; next = next; stands = stands })
  found_there slice =
      let short = part_short text from end said p in
      record {
        said = said;
        shows = shows;
        part = p;
        slice = slice;
        blanks = blanks;
        after = short.1;
        order = order;
        fits = fits;
        counted = length_shown text from end said stands shows;
        short = short.0;
        here = reach_part text from end said p;
        low = reach_low text next fits;
        high = reach_high text next fits;
      }

  -- one that has to be put together
  together_found : is_whole stands ≡ false → (Verbatim text from end said → ⊥)
      → IsPart text from (record { end = end; next = next; stands = stands })
  together_found w never =
      found_there (λ b. absurd (false≢true (sym w ∙ b)), λ v. absurd (never v))

-- one that stands in the text as it is
plain_found : (text : List ℕ) (from end next : ℕ) (slice : Bor (List ℕ))
    → Verbatim text from end slice.now → Skip text end next → end ≤ next → next ≤ length text
    → IsPart text from (record { end = end; next = next; stands = found.Whole slice })
plain_found text from end next slice p blanks order fits =
    found_there (found.Whole slice) (plain_is_part text from end slice.now p) refl blanks order
    fits (λ _. p, λ _. refl)

-- an unquoted string with no other behind it
pub word_found : (text : List ℕ) (from end next : ℕ) (slice : Bor (List ℕ))
    → Unquoted text from end slice.now → Skip text end next
    → row_goes_on text end next ≡ false → end ≤ next → next ≤ length text
    → IsPart text from (record { end = end; next = next; stands = found.Whole slice })
word_found text from end next slice w s h order fits =
    plain_found text from end next slice (a_word (last_one from end next slice.now w s h) w) s order
    fits

-- the last unquoted string of a row, which is not the first
pub row_found : (text : List ℕ) (from at end next n m : ℕ) (s : List ℕ) → Skip text end next
    → end ≤ next → next ≤ length text → m ≡ n + length s → Unquoted text at end s
    → row_goes_on text end next ≡ false → at ≢ from
    → Walked (Unquoted text) (UnquotedRow text) from at n
    → IsPart text from (record { end = end; next = next; stands = found.InRow m })
row_found text from at end next n m s blanks order fits sum w h other a =
    let r = a.on end s (last_one at end next s w blanks h) in
    together_found (found.InRow m) (words.a_row r)
    (omega (arith, sum, a.counted, length-append a.said s), r) blanks order fits refl
    (never a.apart)
  where
    never : (at ≡ from) ⊎ IsApart (Unquoted text) from at → {said : List ℕ}
        → Verbatim text from end said → ⊥
    never (inl e) v = other e
    never (inr b) {said} (a_word r v) =
        omega (arith, b.low, w.some, (Unquoted-one text from b.mid end b.first said b.stands v).0)
    never (inr b) {said} (a_piece j p m) =
        no_quote_word text from b.mid b.first (joined_first text from end said j) b.stands

-- the last quoted piece of a row, which is not the first or has an escape
pub pieces_found : (text : List ℕ) (from at last next n m : ℕ) (s : List ℕ)
    → Skip text (last + 1) next → last + 1 ≤ next → next ≤ length text → m ≡ n + length s
    → slice_index text at ≡ ascii.quote → QuotedBytes text (at + 1) last s
    → slice_index text next ≢ ascii.quote
    → (at ≢ from) ⊎ (HasNoEscape text (at + 1) last → ⊥)
    → Walked (QuotedPiece text) (Joined text) from at n
    → IsPart text from (record { end = last + 1; next = next; stands = found.InPieces m })
pieces_found text from at last next n m s blanks order fits sum q i h either a =
    let p = piece_of text at last s q i in
    let j = a.on (last + 1) s (last_piece at (last + 1) next s p blanks h) in
    together_found (found.InPieces m) (words.quoted j)
    (omega (arith, sum, a.counted, length-append a.said s), j) blanks order fits refl
    (never a.apart either)
  where
    opens : (at ≡ from) ⊎ IsApart (QuotedPiece text) from at → slice_index text from ≡ ascii.quote
    opens (inl e) = subst (λ i. slice_index text i ≡ ascii.quote) e q
    opens (inr b) = b.stands.opens

    never : (at ≡ from) ⊎ IsApart (QuotedPiece text) from at
        → (at ≢ from) ⊎ (HasNoEscape text (at + 1) last → ⊥) → {said : List ℕ}
        → Verbatim text from (last + 1) said → ⊥
    never b o {said} (a_word r w) = no_quote_row text from (last + 1) said (opens b) r
    never (inl e) (inl o) {said} (a_piece j p k) = o e
    never (inl e) (inr o) {said} (a_piece j p k) =
        o (λ i low high. k i (omega (arith, e, low)) (omega (arith, high)))
    never (inr b) o {said} (a_piece j p k) =
        let same = Piece-one text from b.mid (last + 1) b.first said b.stands p in
        omega (arith, b.low, inside_order text (at + 1) last s i, same.0)

-- one piece without escapes and with no other behind it
pub piece_found : (text : List ℕ) (from last next : ℕ) (first : List ℕ) (slice : Bor (List ℕ))
    → slice_index text from ≡ ascii.quote → QuotedBytes text (from + 1) last first
    → Skip text (last + 1) next → slice_index text next ≢ ascii.quote
    → HasNoEscape text (from + 1) last → slice.now ≡ slice_range text (from + 1) last
    → last + 1 ≤ next → next ≤ length text
    → IsPart text from (record { end = last + 1; next = next; stands = found.Whole slice })
piece_found text from last next first slice opens h s n f e order fits =
    let b : first ≡ slice.now = plain_inside text (from + 1) last first h f ∙ sym e in
    let p = subst (QuotedPiece text from (last + 1)) b (piece_of text from last first opens h) in
    plain_found text from (last + 1) next slice
    (a_piece (last_piece from (last + 1) next slice.now p s n) p
    (no_escape_quoted text from last opens (inside_closes text (from + 1) last first h) f)) s order
    fits

-- whether what was found may be a key
key_found : (text : List ℕ) (from end : ℕ) (said : List ℕ) (stands : Stands)
    → Shows text from end said stands → IsTrue (is_whole stands) ↔ Verbatim text from end said
    → Text text from end said → IsTrue (fits_key stands) ↔ KeyText text from end said
key_found text from end said (found.Whole s) h w t = (
  λ e. record {
    whole = t;
    verbatim = w.0 refl;
    fits = subst (λ u. are_key_bytes u ≡ true) h e;
  },
  λ k. subst (λ u. are_key_bytes u ≡ true) (sym h) k.fits,
)
key_found text from end said (found.InPieces n) h w t =
    (λ e. absurd (false≢true e), λ k. absurd (false≢true (w.1 k.verbatim)))
key_found text from end said (found.InRow n) h w t =
    (λ e. absurd (false≢true e), λ k. absurd (false≢true (w.1 k.verbatim)))
key_found text from end said (found.InParts n) h w t =
    (λ e. absurd (false≢true e), λ k. absurd (false≢true (w.1 k.verbatim)))

-- a part behind which no other follows is a string
pub alone : (text : List ℕ) (from : ℕ) (f : Found) → (is : IsPart text from f)
    → another_follows text from is.said f.next ≡ false → IsFound text from f
alone text from f is h =
    let t = one_part from f.end f.next is.said is.part is.blanks h in
    record {
      said = is.said;
      shows = is.shows;
      string = t;
      key = key_found text from f.end is.said f.stands is.shows is.slice t;
      slice = is.slice;
      blanks = is.blanks;
      after = is.after;
      order = is.order;
      fits = is.fits;
      counted = is.counted;
      short = is.short;
      here = is.here;
      low = is.low;
      high = is.high;
    }

-- a string of several parts
pub of_parts : (text : List ℕ) (from end next n : ℕ) (said : List ℕ) → OfParts text from end said
    → n ≡ length said → Skip text end next → end ≤ next → next ≤ length text
    → IsFound text from (record { end = end; next = next; stands = found.InParts n })
of_parts text from end next n said p sum blanks order fits =
    let t = subst (Text text from end) (sym p.means)
    (more_parts from p.mid p.next end p.first p.later p.part p.after p.more p.rest) in
    let short = string_short text from end said t in
    record {
      said = said;
      shows = (sum, p);
      string = t;
      key = (λ e. absurd (false≢true e), λ k. absurd (never k.verbatim));
      slice = (λ e. absurd (false≢true e), λ v. absurd (never v));
      blanks = blanks;
      after = short.1;
      order = order;
      fits = fits;
      counted = sym sum;
      short = short.0;
      here = reach_part text from p.mid p.first p.part;
      low = reach_low text next fits;
      high = reach_high text next fits;
    }
  where
    never : Verbatim text from end said → ⊥
    never v =
        ends_alone text from p.mid p.next end said p.first p.later
        (plain_is_part text from end said v) p.part p.after p.rest

-- what was found and is made
pub made_lexeme : (text : List ℕ) (from : ℕ) (f : Found) (s : Said) → IsFound text from f
    → IsSaid text from f s
    → IsLexeme text from (record { end = f.end; next = f.next; said = s })
made_lexeme text from f s is m = record {
  string = rw (m.bytes is) is.string;
  key = rw (m.bytes is, m.key) is.key;
  slice = rw (m.bytes is, m.whole) is.slice;
  blanks = is.blanks;
  after = is.after;
  order = is.order;
  fits = is.fits;
}

-- a row of pieces by its first one
abbrev pub Pieces : List ℕ → ℕ → Rows
Pieces text to at s = Joined text at to s

abbrev pub Row : List ℕ → ℕ → ℕ → List ℕ → List ℕ → Type 0
Row text mid to first s = RowFrom text (Pieces text to) [] mid to first s

pub row : (text : List ℕ) (at last to : ℕ) (first s : List ℕ) → QuotedBytes text (at + 1) last first
    → Joined text at to s → Row text (last + 1) to first s
row text at last to first s h (last_piece _ _ n _ p t q) =
    let same = Inside-one text (at + 1) p.last last s first p.inside h in
    subst (λ (u : List ℕ). Row text (last + 1) to first u) (sym same.1)
    (one_alone (omega (arith, p.ends, same.0)))
row text at last to first s h (one_more _ m n _ us vs p t j) =
    let same = Inside-one text (at + 1) p.last last us first p.inside h in
    let behind : m ≡ last + 1 = omega (arith, p.ends, same.0) in
    subst (λ (u : List ℕ). Row text (last + 1) to first (u ++ vs)) (sym same.1)
    (and_others n vs (subst (λ i. Skip text i n) behind t) j
    (omega (arith, behind, blanks_order text m n t.blanks))
    (omega (arith, joined_short text n to vs j)))
