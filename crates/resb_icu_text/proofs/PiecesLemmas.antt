-- Laws of quoted pieces, as the reader's functions use them.
use Rattle.std.proofs.Common.{◌≡◌, ◌≢◌, ℕ, zero, suc, ◌+◌, ◌-◌, ◌<◌, ◌≤◌, Bool, true, false, List}
use Rattle.std.proofs.Common.{[], ◌∷◌, ◌++◌, length, arith, subst, sym, refl, ap, ◌∙◌, take, drop}
use Rattle.std.proofs.Common.{append_assoc, append-nil, length-drop, Result, Ok, Err, OnOk, is_ok}
use Rattle.std.proofs.Common.{if◌then◌else◌, slice_range, slice_index, nat_lt}
use Rattle.std.specs.Str.{IsUtf8, IsCharBoundary}
use Rattle.std.proofs.lemmas.Str.{IsCharBoundary-after_ascii}
use Rattle.std.proofs.lemmas.List.{take_more, get_or-drop, length-append}
use Rattle.std.proofs.lemmas.Bool.Decides.{nat_tests}
use Rattle.resb_icu_text.proofs.Lists.{slice_none}
use Rattle.resb_grammar.specs.Ascii as ascii
use Rattle.resb_icu_grammar.specs.Bytes.{backslash}
use Rattle.resb_icu_grammar.specs.Escapes.{Escape, itself, letter, four_digits, pair, eight_digits}
use Rattle.resb_icu_grammar.specs.Escapes.{control, short_hex, octal}
use Rattle.resb_icu_grammar.specs.Faults.{PieceFault, NoEscapeAt, escape_there}
use Rattle.resb_icu_grammar.specs.Faults as faults
use Rattle.resb_icu_grammar.specs.declared.expected.IcuExpected.{IcuExpected}
use Rattle.resb_icu_grammar.specs.declared.expected.IcuExpected.TheVariants as expect
use Rattle.resb_icu_text.specs.declared.error.IcuTextError.{IcuTextError}
use Rattle.resb_icu_grammar.specs.Pieces.{QuotedBytes, ends, byte, escape}
use Rattle.resb_icu_grammar.specs.Words.{HasNoEscape}
use Rattle.resb_icu_text.specs.Inner.Stops.{HasNoStop}
use Rattle.resb_icu_grammar.proofs.Lexical.{Escape-one, Inside-one}

-- some inside of a piece stands between these places, and says so many bytes
abbrev pub SomeInside : List ℕ → ℕ → ℕ → ℕ → Type 0
SomeInside text from to n = (s : List ℕ) × QuotedBytes text from to s × (length s ≡ n)

-- what goes on from one place goes on from the other, and says so many bytes more there
abbrev pub GoesOn : List ℕ → ℕ → ℕ → ℕ → Type 0
GoesOn text at from n = (to m : ℕ) → SomeInside text at to m → SomeInside text from to (n + m)

-- a fault that stands from one place on stands from the other on
abbrev pub FaultOn : List ℕ → ℕ → ℕ → ℕ → Type 0
FaultOn text opening at from =
    (to : ℕ) (x : IcuExpected) → PieceFault text opening at to x → PieceFault text opening from to x

-- what each byte that stands for itself keeps, bytes up to the first quote or backslash keep
kept_bytes : (text : List ℕ) (P : ℕ → Type 0)
    → ((i : ℕ) → i < length text → slice_index text i ≢ ascii.quote
    → slice_index text i ≢ backslash → P i → P (i + 1))
    → (n at stop : ℕ) → stop ≡ at + n → stop ≤ length text → HasNoStop text at stop → P at → P stop
kept_bytes text P keeps zero at stop e l h p =
    let same : at ≡ stop = omega (arith, e) in subst P same p
kept_bytes text P keeps (suc n) at stop e l h p =
    let b = h at (omega arith) (omega (arith, e)) in
    kept_bytes text P keeps n (at + 1) stop (omega (arith, e)) l
    (λ k low high. h k (omega (arith, low)) high) (keeps at (omega (arith, e, l)) b.0 b.1 p)

-- bytes that stand for themselves, up to the first quote or backslash
pub goes_bytes : (text : List ℕ) (from at stop n : ℕ) → at ≤ stop → stop ≤ length text
    → HasNoStop text at stop → GoesOn text at from n → GoesOn text stop from (n + (stop - at))
goes_bytes text from at stop n o l h f =
    (kept_bytes text (λ i. (at ≤ i) × GoesOn text i from (n + (i - at)))
    (λ i l q s g. (
      omega (arith, g.0),
      λ to m r. subst (λ k. SomeInside text from to k)
          (omega (arith, g.0)) (g.1 to (suc m) (_, byte i to r.0 l q s r.1, ap suc r.2)),
    ))
    (stop - at) at stop (omega (arith, o)) l h
    (omega arith, subst (λ j. GoesOn text at from j) (omega arith) f)).1

-- and a fault behind them
pub fault_bytes : (text : List ℕ) (opening from at stop : ℕ) → at ≤ stop → stop ≤ length text
    → HasNoStop text at stop → FaultOn text opening at from → FaultOn text opening stop from
fault_bytes text o from at stop low =
    kept_bytes text (λ i. FaultOn text o i from)
    (λ i l q s f to x r. f to x (faults.byte i to x l q s r)) (stop - at) at stop
    (omega (arith, low))

pub goes_escape : (text : List ℕ) (from at next b n k : ℕ) (xs : List ℕ) → b ≡ slice_index text at
    → b ≡ backslash → Escape text (at + 1) next xs → k ≡ length xs → GoesOn text at from n
    → GoesOn text next from (n + k)
goes_escape text from at next b n k xs e s x c f to m h =
    let more = f to (k + m) (
      _,
      escape at next to xs h.0 (sym e ∙ s) x h.1,
      omega (arith, length-append xs h.0, c, h.2),
    ) in
    subst (λ j. SomeInside text from to j) (omega arith) more

pub fault_escape : (text : List ℕ) (opening from at next b : ℕ) (xs : List ℕ)
    → b ≡ slice_index text at → b ≡ backslash → Escape text (at + 1) next xs
    → FaultOn text opening at from → FaultOn text opening next from
fault_escape text o from at next b xs e s x f to y h =
    f to y (faults.escape at next to xs y (sym e ∙ s) x h)

-- a backslash with no escape behind it is the fault of a piece
pub no_escape_fault : (text : List ℕ) (opening from at : ℕ) → slice_index text at ≡ backslash
    → NoEscapeAt text (at + 1) → FaultOn text opening at from
    → PieceFault text opening from at (escape_there text (at + 1))
no_escape_fault text o from at s f g =
    g at (escape_there text (at + 1)) (faults.no_escape at s f)

-- where neither a quote nor a backslash follows, no quote closes a piece
pub no_end_fault : (text : List ℕ) (opening from at : ℕ) → at ≤ length text
    → HasNoStop text at (length text) → FaultOn text opening at from
    → PieceFault text opening from opening expect.ClosingQuote
no_end_fault text o from at l h g =
    fault_bytes text o from at (length text) l (omega arith) h g o expect.ClosingQuote
    (faults.no_end (length text) (omega arith))

-- a fault by what an error says
pub says_fault : (text : List ℕ) (opening from to : ℕ) (x : IcuExpected) (e : IcuTextError)
    → e ≡ record { position = to; expected = x } → PieceFault text opening from to x
    → PieceFault text opening from e.position e.expected
says_fault text o from to x e h f =
    subst (λ (g : IcuTextError). PieceFault text o from g.position g.expected) (sym h) f

-- the fault by another word for what was expected there
pub fault_said : (text : List ℕ) (opening from at : ℕ) (x y : IcuExpected) → x ≡ y
    → PieceFault text opening from at y → PieceFault text opening from at x
fault_said text o from at x y e f = subst (λ z. PieceFault text o from at z) (sym e) f

-- a closing quote
pub piece_closes : (text : List ℕ) (from at n : ℕ) → slice_index text at ≡ ascii.quote
    → GoesOn text at from n → SomeInside text from at n
piece_closes text from at n q f =
    subst (λ k. SomeInside text from at k) (omega arith) (f at 0 ([], ends at q, refl))

-- bytes more without a backslash
pub no_escape_more : (text : List ℕ) (from at stop : ℕ) → HasNoStop text at stop
    → HasNoEscape text from at → HasNoEscape text from stop
no_escape_more text from at stop h f k low high = pick (nat_lt k at) refl
  where
    pick : (c : Bool) → nat_lt k at ≡ c → slice_index text k ≢ backslash
    pick true e = f k low (grind (arith, nat_tests, e))
    pick false e = (h k (grind (arith, nat_tests, e)) high).1

-- a slice of one byte more
slice_more : (text : List ℕ) (start at : ℕ) → start ≤ at → at < length text
    → slice_range text start (at + 1) ≡ slice_range text start at ++ slice_index text at ∷ []
slice_more text start at low high =
    let n : at + 1 - start ≡ (at - start) + 1 = omega arith in
    let there : at - start < length (drop start text) =
    omega (arith, length-drop start text) in
    let same : start + (at - start) ≡ at = omega arith in
    ap (λ k. take k (drop start text)) n ∙ take_more (drop start text) (at - start) 0 there
    ∙ ap (λ b. take (at - start) (drop start text) ++ b ∷ [])
    (get_or-drop start text (at - start) 0 ∙ ap (λ k. slice_index text k) same)

-- the value, what is not yet added of it, and what follows are the whole
pub record Adds (text : List ℕ) (from last start at : ℕ) (old value bytes : List ℕ) : Type 0 where
  pub rest : List ℕ
  pub inside : QuotedBytes text at last rest
  pub whole : value ++ (slice_range text start at ++ rest) ≡ old ++ bytes

pub adds_none : (text : List ℕ) (from last : ℕ) (old bytes : List ℕ)
    → QuotedBytes text from last bytes
    → Adds text from last from from old old bytes
adds_none text from last old bytes h = record {
  rest = bytes;
  inside = h;
  whole = ap (λ s. old ++ (s ++ bytes)) (slice_none text from);
}

-- before the closing quote a byte that is no backslash stands for itself
rest_byte : (text : List ℕ) (at last : ℕ) (rest : List ℕ) → at < last
    → slice_index text at ≢ backslash → QuotedBytes text at last rest
    → (more : List ℕ) × (rest ≡ slice_index text at ∷ more) × QuotedBytes text (at + 1) last more
rest_byte text at last rest l s (ends _ k) = absurd (omega arith)
rest_byte text at last rest l s (byte _ _ vs m k n r) = (vs, refl, r)
rest_byte text at last rest l s (escape _ n _ xs vs k m r) = absurd (s k)

pub adds_byte : (text : List ℕ) (from last start at : ℕ) (old value bytes : List ℕ) → start ≤ at
    → at < last → last < length text → slice_index text at ≢ backslash
    → Adds text from last start at old value bytes
    → Adds text from last start (at + 1) old value bytes
adds_byte text from last start at old value bytes o l f s a =
    let r = rest_byte text at last a.rest l s a.inside in
    record {
      rest = r.0;
      inside = r.2;
      whole =
          ap (λ x. value ++ (x ++ r.0)) (slice_more text start at o (omega arith))
          ∙ ap (λ x. value ++ x)
          (append_assoc (slice_range text start at) (slice_index text at ∷ []) r.0)
          ∙ ap (λ x. value ++ (slice_range text start at ++ x)) (sym r.1)
          ∙ a.whole;
    }

-- behind a backslash an escape stands for what it says
pub rest_escape : (text : List ℕ) (at next last : ℕ) (first rest : List ℕ)
    → slice_index text at ≡ backslash → Escape text (at + 1) next first
    → QuotedBytes text at last rest
    → (more : List ℕ) × (rest ≡ first ++ more) × QuotedBytes text next last more
rest_escape text at next last first rest s x (ends _ k) = absurd (omega arith)
rest_escape text at next last first rest s x (byte _ _ vs m k n r) = absurd (n s)
rest_escape text at next last first rest s x (escape _ n _ ys vs k m r) =
    let same = Escape-one text (at + 1) n next ys first m x in
    (vs, ap (λ l. l ++ vs) same.1, subst (λ i. QuotedBytes text i last vs) same.0 r)

-- what was read and the character of an escape are added
pub adds_character : (text : List ℕ) (from last start at next : ℕ)
    (old value bytes first value1 value2 : List ℕ) → slice_index text at ≡ backslash
    → Escape text (at + 1) next first → value1 ≡ value ++ slice_range text start at
    → value2 ≡ value1 ++ first → Adds text from last start at old value bytes
    → Adds text from last next next old value2 bytes
adds_character text from last start at next old value bytes first value1 value2 s x e f a =
    let r = rest_escape text at next last first a.rest s x a.inside in
    record {
      rest = r.0;
      inside = r.2;
      whole =
          ap (λ l. value2 ++ (l ++ r.0)) (slice_none text next)
          ∙ ap (λ l. l ++ r.0) (f ∙ ap (λ l. l ++ first) e)
          ∙ append_assoc (value ++ slice_range text start at) first r.0
          ∙ append_assoc value (slice_range text start at) (first ++ r.0)
          ∙ ap (λ l. value ++ (slice_range text start at ++ l)) (sym r.1)
          ∙ a.whole;
    }

-- what was read is added, and the byte behind the backslash begins what is read next
pub adds_itself : (text : List ℕ) (from last start at next : ℕ) (old value bytes value1 : List ℕ)
    → slice_index text at ≡ backslash → next ≡ at + 1 + 1 → at + 1 < length text
    → Escape text (at + 1) next (slice_index text (at + 1) ∷ [])
    → value1 ≡ value ++ slice_range text start at → Adds text from last start at old value bytes
    → Adds text from last (at + 1) next old value1 bytes
adds_itself text from last start at next old value bytes value1 s n l x e a =
    let b = slice_index text (at + 1) in
    let r = rest_escape text at next last (b ∷ []) a.rest s x a.inside in
    let one : slice_range text (at + 1) next ≡ b ∷ [] =
    ap (λ k. slice_range text (at + 1) k) n ∙ slice_more text (at + 1) (at + 1) (omega arith) l
    ∙ ap (λ k. k ++ b ∷ []) (slice_none text (at + 1)) in
    record {
      rest = r.0;
      inside = r.2;
      whole =
          ap (λ k. value1 ++ (k ++ r.0)) one
          ∙ ap (λ k. k ++ (b ∷ r.0)) e
          ∙ append_assoc value (slice_range text start at) (b ∷ r.0)
          ∙ ap (λ k. value ++ (slice_range text start at ++ k)) (sym r.1)
          ∙ a.whole;
    }

-- the last that was read is added
pub adds_all : (text : List ℕ) (from last start at : ℕ) (old value bytes value1 : List ℕ)
    → slice_index text last ≡ ascii.quote → at ≡ last
    → value1 ≡ value ++ slice_range text start last
    → Adds text from last start at old value bytes → value1 ≡ old ++ bytes
adds_all text from last start at old value bytes value1 q e f a =
    let h : QuotedBytes text last last a.rest =
    subst (λ i. QuotedBytes text i last a.rest) e a.inside in
    f ∙ sym (append-nil (value ++ slice_range text start last))
    ∙ append_assoc value (slice_range text start last) []
    ∙ ap (λ k. value ++ (slice_range text start last ++ k))
    (sym (Inside-one text last last last a.rest [] h (ends last q)).1)
    ∙ ap (λ k. value ++ (slice_range text start k ++ a.rest)) (sym e) ∙ a.whole

-- an escape has some byte behind its backslash
pub escape_order : (text : List ℕ) (at to : ℕ) (s : List ℕ) → Escape text at to s → at < to
escape_order text at to s (itself f l o) = omega arith
escape_order text at to s (letter h) = omega arith
escape_order text at to s (four_digits c w f g) = omega arith
escape_order text at to s (pair m n w p d x q) = omega arith
escape_order text at to s (eight_digits c h k e f g) = omega arith
escape_order text at to s (control h l m) = omega arith
escape_order text at to s (short_hex _ _ _ p _) = omega (arith, p.some)
escape_order text at to s (octal _ _ p _) = omega (arith, p.some)

-- a piece ends no earlier than it begins
pub inside_order : (text : List ℕ) (at to : ℕ) (s : List ℕ) → QuotedBytes text at to s → at ≤ to
inside_order text at to s (ends _ h) = omega arith
inside_order text at to s (byte _ _ vs l q b r) =
    omega (arith, inside_order text (at + 1) to vs r)
inside_order text at to s (escape _ n _ xs vs b x r) =
    omega (arith, escape_order text (at + 1) n xs x, inside_order text n to vs r)

-- a piece ends with a quote
pub inside_closes : (text : List ℕ) (at to : ℕ) (s : List ℕ) → QuotedBytes text at to s
    → slice_index text to ≡ ascii.quote
inside_closes text at to s (ends _ h) = h
inside_closes text at to s (byte _ _ vs l q b r) = inside_closes text (at + 1) to vs r
inside_closes text at to s (escape _ n _ xs vs b x r) = inside_closes text n to vs r

-- an escape of a piece ends before the closing quote
pub escape_fits : (text : List ℕ) (at next last : ℕ) (first rest : List ℕ)
    → slice_index text at ≡ backslash → Escape text (at + 1) next first
    → QuotedBytes text at last rest
    → next ≤ last
escape_fits text at next last first rest s x h =
    let r = rest_escape text at next last first rest s x h in inside_order text next last r.0 r.2

-- a character begins behind a byte of ASCII
pub begins_behind : (text : List ℕ) (at : ℕ) → IsUtf8 text → 0 < at → at ≤ length text
    → slice_index text (at - 1) < 128 → IsCharBoundary text at
begins_behind text at u some low h =
    let e : at - 1 + 1 ≡ at = omega arith in
    subst (λ i. IsCharBoundary text i) e
    (IsCharBoundary-after_ascii text (at - 1) u (omega arith) h)

-- what a call added, where it is one that had the memory
pub on_ok_added : {E : Type 0} (r : Result (Unit {0}) E) (value more less : List ℕ) (P : Type 0)
    → value ≡ if is_ok r then more else less → (value ≡ more → P) → OnOk r P
on_ok_added (Ok x) value more less P e f = f e
on_ok_added (Err x) value more less P e f = tt
