-- Blanks, escapes, strings, numbers and types each have one end and one meaning.
use Rattle.std.proofs.Common.{◌≡◌, ◌≢◌, ℕ, ◌+◌, ◌<◌, ◌≤◌, Bool, true, false, List, ◌∷◌, ◌++◌}
use Rattle.std.proofs.Common.{length, arith, subst, sym, refl, ◌∙◌, ap, ⊎_elim, encode_utf8}
use Rattle.std.specs.Prelude.{◌==◌, ◌||◌, ◌&&◌, slice_index, slice_range}
use Rattle.std.specs.Char.{is_ascii_digit, is_digit, IsScalar}
use Rattle.std.specs.Char.Utf16.{is_high_surrogate, surrogate_pair_char}
use Rattle.std.proofs.lemmas.Bool.{false≢true, and_parts, and_from}
use Rattle.std.proofs.lemmas.Bool.Decides.{nat_tests}
use Rattle.resb_grammar.specs.Ascii as ascii
use Rattle.resb_grammar.specs.ByteRuns.{is_white}
use Rattle.resb_grammar.specs.Lexical as plain
use Rattle.resb_grammar.specs.GroupTypes.{NoFallback}
use Rattle.resb_icu_grammar.specs.Kinds.{Kind, Names}
use Rattle.resb_grammar.proofs.ByteRunsLemmas.{Run-one}
use Rattle.resb_grammar.proofs.Unique.{FirstCloser-one}
use Rattle.resb_grammar.proofs.Numbers.{places_meet}
use Rattle.resb_icu_grammar.specs.Bytes.{is_word, is_unquoted}
use Rattle.resb_icu_grammar.proofs.KindNames.{Names-one}
use Rattle.resb_icu_grammar.specs.Blanks.{Begins, behind_the_mark, without_a_mark}
use Rattle.resb_icu_grammar.specs.Blanks.{LineRest, Comment, line, block, Blanks, none}
use Rattle.resb_grammar.specs.ByteRuns.{is_line_end}
use Rattle.resb_icu_grammar.specs.Blanks.{white, comment, IsSolid, Skip}
use Rattle.resb_icu_grammar.specs.Escapes.{Escape, itself, letter, four_digits, pair, eight_digits}
use Rattle.resb_icu_grammar.specs.Escapes.{control, short_hex, octal, is_letter, begins_longer}
use Rattle.resb_icu_grammar.proofs.FewDigitsLemmas.{FewDigits-one, few_first}
use Rattle.resb_icu_grammar.specs.Pieces.{QuotedBytes, ends, byte, escape, QuotedPiece, Joined}
use Rattle.resb_icu_grammar.specs.Pieces.{last_piece}
use Rattle.resb_icu_grammar.specs.Pieces.{one_more}
use Rattle.resb_icu_grammar.specs.Unquoted.{Unquoted, UnquotedRow, last_one, begins_unquoted}
use Rattle.resb_icu_grammar.specs.Unquoted as rows
use Rattle.resb_icu_grammar.specs.Words.{Word, Part, a_row, quoted, another_follows, Text, one_part}
use Rattle.resb_icu_grammar.specs.Words.{more_parts, KeyText, Name}
use Rattle.resb_icu_grammar.specs.Numbers.{AllDigits, Magnitude, decimal, hex, is_hex_letter}
use Rattle.resb_icu_grammar.specs.Numbers.{Signed, unsigned, plus, minus, Number, a_word, in_quotes}
use Rattle.resb_icu_grammar.specs.Numbers.{nothing}
use Rattle.resb_icu_grammar.specs.Numbers as numbers
use Rattle.resb_icu_grammar.specs.Words.{TypeName, GroupType, RootType}
use Rattle.resb_icu_grammar.specs.Words.{table_type, no_fallback_type}

-- a text begins at one place
pub Begins-one : (text : List ℕ) (a b : ℕ) → Begins text a → Begins text b → a ≡ b
Begins-one text a b (behind_the_mark m e) (behind_the_mark n f) = e ∙ sym f
Begins-one text a b (behind_the_mark m e) (without_a_mark n f) = absurd (false≢true (sym n ∙ m))
Begins-one text a b (without_a_mark m e) (behind_the_mark n f) = absurd (false≢true (sym m ∙ n))
Begins-one text a b (without_a_mark m e) (without_a_mark n f) = e ∙ sym f

line_stops : (text : List ℕ) (from a b : ℕ) → LineRest text from a → LineRest text from b → a < b
    → ⊥
line_stops text from a b p q w =
    ⊎_elim (λ (e : a ≡ length text). let f : b ≤ length text = q.fits in omega arith)
    (λ (e : is_line_end (slice_index text a) ≡ true).
    false≢true (sym (q.inner a p.order w) ∙ e)) p.ends

LineRest-one : (text : List ℕ) (from a b : ℕ) → LineRest text from a → LineRest text from b → a ≡ b
LineRest-one text from a b p q =
    places_meet a b (line_stops text from a b p q) (line_stops text from b a q p)

Comment-one : (text : List ℕ) (from a b : ℕ) → Comment text from a → Comment text from b → a ≡ b
Comment-one text from a b (line h k r) (line h' k' r') = LineRest-one text (from + 2) a b r r'
Comment-one text from a b (line h k r) (block at' h' k' f' e') = absurd (omega arith)
Comment-one text from a b (block at h k f e) (line h' k' r') = absurd (omega arith)
Comment-one text from a b (block at h k f e) (block at' h' k' f' e') =
    e ∙ ap (λ n. n + 2) (FirstCloser-one text (from + 3) at at' f f') ∙ sym e'

not_white : (text : List ℕ) (i to : ℕ) → is_white (slice_index text i) ≡ true → Comment text i to
    → ⊥
not_white text i to w (line h k r) = grind (arith, nat_tests)
not_white text i to w (block at h k f e) = grind (arith, nat_tests)

Blanks-one : (text : List ℕ) (i a b : ℕ) → Blanks text i a → Blanks text i b → IsSolid text a
    → IsSolid text b → a ≡ b
Blanks-one text i a b (none _) (none _) s t = refl
Blanks-one text i a b (none _) (white _ _ w r) s t = absurd (false≢true (sym s.no_white ∙ w))
Blanks-one text i a b (none _) (comment _ k _ c r) s t = absurd (s.no_comment k c)
Blanks-one text i a b (white _ _ w r) (none _) s t = absurd (false≢true (sym t.no_white ∙ w))
Blanks-one text i a b (white _ _ w r) (white _ _ w' r') s t = Blanks-one text (i + 1) a b r r' s t
Blanks-one text i a b (white _ _ w r) (comment _ k _ c r') s t = absurd (not_white text i k w c)
Blanks-one text i a b (comment _ k _ c r) (none _) s t = absurd (t.no_comment k c)
Blanks-one text i a b (comment _ k _ c r) (white _ _ w' r') s t = absurd (not_white text i k w' c)
Blanks-one text i a b (comment _ k _ c r) (comment _ k' _ c' r') s t =
    let e : k' ≡ k = Comment-one text i k' k c' c in
    Blanks-one text k a b r (subst (λ n. Blanks text n b) e r') s t

-- blanks end at one place
pub Skip-one : (text : List ℕ) (i a b : ℕ) → Skip text i a → Skip text i b → a ≡ b
Skip-one text i a b p q = Blanks-one text i a b p.blanks q.blanks p.solid q.solid

-- the bytes that begin longer escapes begin no other, and neither do letters
pub no_longer : (b n : ℕ) → begins_longer b ≡ false → b ≡ n → begins_longer n ≡ true → ⊥
no_longer b n h e f = false≢true (sym h ∙ ap begins_longer e ∙ f)

pub no_letter : (b n : ℕ) → is_letter b ≡ true → b ≡ n → is_letter n ≡ false → ⊥
no_letter b n h e f = false≢true (sym f ∙ ap is_letter (sym e) ∙ h)

octal_longer : (b : ℕ) → begins_longer b ≡ false → is_digit b 8 ≡ true → ⊥
octal_longer b h k = false≢true (sym h ∙ longer)
  where
    longer : begins_longer b ≡ true
    longer = grind (arith, nat_tests, k)

octal_letter : (b : ℕ) → is_letter b ≡ true → is_digit b 8 ≡ true → ⊥
octal_letter b h k = grind (arith, nat_tests, h, k)

-- a digit is no other byte
pub no_octal : (b n : ℕ) → is_digit b 8 ≡ true → b ≡ n → is_digit n 8 ≡ false → ⊥
no_octal b n h e f = false≢true (sym f ∙ ap (λ c. is_digit c 8) (sym e) ∙ h)

-- half of a pair is no character
pub half_no_scalar : (c high : ℕ) → c ≡ high → IsScalar c → is_high_surrogate high ≡ true → ⊥
half_no_scalar c high e y h = grind (arith, nat_tests, e, y, h)

-- an escape has one end and stands for one thing
pub Escape-one : (text : List ℕ) (at a b : ℕ) (s t : List ℕ) → Escape text at a s
    → Escape text at b t
    → (a ≡ b) × (s ≡ t)
Escape-one text at a b s t (itself f l o) (itself f' l' o') =
    (refl, refl)
Escape-one text at a b s t (itself f l o) (letter h') =
    absurd (false≢true (sym l ∙ h'))
Escape-one text at a b s t (itself f l o) (four_digits c' w' y' z') =
    absurd (no_longer _ 117 o w'.letter refl)
Escape-one text at a b s t (itself f l o) (pair m' n' w' p' d' x' q') =
    absurd (no_longer _ 117 o w'.letter refl)
Escape-one text at a b s t (itself f l o) (eight_digits c' k' x' e' y' z') =
    absurd (no_longer _ 85 o k' refl)
Escape-one text at a b s t (itself f l o) (control k' y' z') =
    absurd (no_longer _ 99 o k' refl)
Escape-one text at a b s t (itself f l o) (short_hex c' _ k' q' r') =
    absurd (no_longer _ 120 o k' refl)
Escape-one text at a b s t (itself f l o) (octal c' _ q' r') =
    absurd (octal_longer (slice_index text at) o (few_first q'))
Escape-one text at a b s t (letter h) (itself f' l' o') =
    absurd (false≢true (sym l' ∙ h))
Escape-one text at a b s t (letter h) (letter h') =
    (refl, refl)
Escape-one text at a b s t (letter h) (four_digits c' w' y' z') =
    absurd (no_letter _ 117 h w'.letter refl)
Escape-one text at a b s t (letter h) (pair m' n' w' p' d' x' q') =
    absurd (no_letter _ 117 h w'.letter refl)
Escape-one text at a b s t (letter h) (eight_digits c' k' x' e' y' z') =
    absurd (no_letter _ 85 h k' refl)
Escape-one text at a b s t (letter h) (control k' y' z') =
    absurd (no_letter _ 99 h k' refl)
Escape-one text at a b s t (letter h) (short_hex c' _ k' q' r') =
    absurd (no_letter _ 120 h k' refl)
Escape-one text at a b s t (letter h) (octal c' _ q' r') =
    absurd (octal_letter (slice_index text at) h (few_first q'))
Escape-one text at a b s t (four_digits c w y z) (itself f' l' o') =
    absurd (no_longer _ 117 o' w.letter refl)
Escape-one text at a b s t (four_digits c w y z) (letter h') =
    absurd (no_letter _ 117 h' w.letter refl)
Escape-one text at a b s t (four_digits c w y z) (four_digits c' w' y' z') =
    (refl, ap encode_utf8 (w.means ∙ sym w'.means))
Escape-one text at a b s t (four_digits c w y z) (pair m' n' w' p' d' x' q') =
    absurd (half_no_scalar _ _ (w.means ∙ sym w'.means) y p')
Escape-one text at a b s t (four_digits c w y z) (eight_digits c' k' x' e' y' z') =
    absurd (omega (arith, w.letter, k'))
Escape-one text at a b s t (four_digits c w y z) (control k' y' z') =
    absurd (omega (arith, w.letter, k'))
Escape-one text at a b s t (four_digits c w y z) (short_hex c' _ k' q' r') =
    absurd (omega (arith, w.letter, k'))
Escape-one text at a b s t (four_digits c w y z) (octal c' _ q' r') =
    absurd (no_octal _ 117 (few_first q') w.letter refl)
Escape-one text at a b s t (pair m n w p d x q) (itself f' l' o') =
    absurd (no_longer _ 117 o' w.letter refl)
Escape-one text at a b s t (pair m n w p d x q) (letter h') =
    absurd (no_letter _ 117 h' w.letter refl)
Escape-one text at a b s t (pair m n w p d x q) (four_digits c' w' y' z') =
    absurd (half_no_scalar _ _ (w'.means ∙ sym w.means) y' p)
Escape-one text at a b s t (pair m n w p d x q) (pair m' n' w' p' d' x' q') = (
  refl,
  (λ i. encode_utf8 (surrogate_pair_char ((w.means ∙ sym w'.means) i)
      ((x.means ∙ sym x'.means) i))),
)
Escape-one text at a b s t (pair m n w p d x q) (eight_digits c' k' x' e' y' z') =
    absurd (omega (arith, w.letter, k'))
Escape-one text at a b s t (pair m n w p d x q) (control k' y' z') =
    absurd (omega (arith, w.letter, k'))
Escape-one text at a b s t (pair m n w p d x q) (short_hex c' _ k' q' r') =
    absurd (omega (arith, w.letter, k'))
Escape-one text at a b s t (pair m n w p d x q) (octal c' _ q' r') =
    absurd (no_octal _ 117 (few_first q') w.letter refl)
Escape-one text at a b s t (eight_digits c k x e y z) (itself f' l' o') =
    absurd (no_longer _ 85 o' k refl)
Escape-one text at a b s t (eight_digits c k x e y z) (letter h') =
    absurd (no_letter _ 85 h' k refl)
Escape-one text at a b s t (eight_digits c k x e y z) (four_digits c' w' y' z') =
    absurd (omega (arith, k, w'.letter))
Escape-one text at a b s t (eight_digits c k x e y z) (pair m' n' w' p' d' x' q') =
    absurd (omega (arith, k, w'.letter))
Escape-one text at a b s t (eight_digits c k x e y z) (eight_digits c' k' x' e' y' z') =
    (refl, ap encode_utf8 (e ∙ sym e'))
Escape-one text at a b s t (eight_digits c k x e y z) (control k' y' z') =
    absurd (omega (arith, k, k'))
Escape-one text at a b s t (eight_digits c k x e y z) (short_hex c' _ k' q' r') =
    absurd (omega (arith, k, k'))
Escape-one text at a b s t (eight_digits c k x e y z) (octal c' _ q' r') =
    absurd (no_octal _ 85 (few_first q') k refl)
Escape-one text at a b s t (control k y z) (itself f' l' o') =
    absurd (no_longer _ 99 o' k refl)
Escape-one text at a b s t (control k y z) (letter h') =
    absurd (no_letter _ 99 h' k refl)
Escape-one text at a b s t (control k y z) (four_digits c' w' y' z') =
    absurd (omega (arith, k, w'.letter))
Escape-one text at a b s t (control k y z) (pair m' n' w' p' d' x' q') =
    absurd (omega (arith, k, w'.letter))
Escape-one text at a b s t (control k y z) (eight_digits c' k' x' e' y' z') =
    absurd (omega (arith, k, k'))
Escape-one text at a b s t (control k y z) (control k' y' z') =
    (refl, refl)
Escape-one text at a b s t (control k y z) (short_hex c' _ k' q' r') =
    absurd (omega (arith, k, k'))
Escape-one text at a b s t (control k y z) (octal c' _ q' r') =
    absurd (no_octal _ 99 (few_first q') k refl)
Escape-one text at a b s t (short_hex c _ k q r) (itself f' l' o') =
    absurd (no_longer _ 120 o' k refl)
Escape-one text at a b s t (short_hex c _ k q r) (letter h') =
    absurd (no_letter _ 120 h' k refl)
Escape-one text at a b s t (short_hex c _ k q r) (four_digits c' w' y' z') =
    absurd (omega (arith, k, w'.letter))
Escape-one text at a b s t (short_hex c _ k q r) (pair m' n' w' p' d' x' q') =
    absurd (omega (arith, k, w'.letter))
Escape-one text at a b s t (short_hex c _ k q r) (eight_digits c' k' x' e' y' z') =
    absurd (omega (arith, k, k'))
Escape-one text at a b s t (short_hex c _ k q r) (control k' y' z') =
    absurd (omega (arith, k, k'))
Escape-one text at a b s t (short_hex c _ k q r) (short_hex c' _ k' q' r') =
    let both = FewDigits-one 16 2 text (at + 1) a b c c' q q' in
    (both.0, ap encode_utf8 both.1)
Escape-one text at a b s t (short_hex c _ k q r) (octal c' _ q' r') =
    absurd (no_octal _ 120 (few_first q') k refl)
Escape-one text at a b s t (octal c _ q r) (itself f' l' o') =
    absurd (octal_longer (slice_index text at) o' (few_first q))
Escape-one text at a b s t (octal c _ q r) (letter h') =
    absurd (octal_letter (slice_index text at) h' (few_first q))
Escape-one text at a b s t (octal c _ q r) (four_digits c' w' y' z') =
    absurd (no_octal _ 117 (few_first q) w'.letter refl)
Escape-one text at a b s t (octal c _ q r) (pair m' n' w' p' d' x' q') =
    absurd (no_octal _ 117 (few_first q) w'.letter refl)
Escape-one text at a b s t (octal c _ q r) (eight_digits c' k' x' e' y' z') =
    absurd (no_octal _ 85 (few_first q) k' refl)
Escape-one text at a b s t (octal c _ q r) (control k' y' z') =
    absurd (no_octal _ 99 (few_first q) k' refl)
Escape-one text at a b s t (octal c _ q r) (short_hex c' _ k' q' r') =
    absurd (no_octal _ 120 (few_first q) k' refl)
Escape-one text at a b s t (octal c _ q r) (octal c' _ q' r') =
    let both = FewDigits-one 8 3 text at a b c c' q q' in (both.0, ap encode_utf8 both.1)

-- what stands inside quotes has one end and says one thing
pub Inside-one : (text : List ℕ) (at a b : ℕ) (s t : List ℕ) → QuotedBytes text at a s
    → QuotedBytes text at b t
    → (a ≡ b) × (s ≡ t)
Inside-one text at a b s t (ends _ h) (ends _ k) = (refl, refl)
Inside-one text at a b s t (ends _ h) (byte _ _ us f k l r) = absurd (k h)
Inside-one text at a b s t (ends _ h) (escape _ n _ vs us k e r) = absurd (omega arith)
Inside-one text at a b s t (byte _ _ us f k l r) (ends _ h) = absurd (k h)
Inside-one text at a b s t (byte _ _ us f k l r) (byte _ _ ws f' k' l' r') =
    let both = Inside-one text (at + 1) a b us ws r r' in
    (both.0, ap (λ bs. slice_index text at ∷ bs) both.1)
Inside-one text at a b s t (byte _ _ us f k l r) (escape _ n _ vs ws h e r') = absurd (l h)
Inside-one text at a b s t (escape _ n _ vs us k e r) (ends _ h) = absurd (omega arith)
Inside-one text at a b s t (escape _ n _ vs us k e r) (byte _ _ ws f h l r') = absurd (l k)
Inside-one text at a b s t (escape _ n _ vs us k e r) (escape _ m _ xs ws h f r') =
    let first = Escape-one text (at + 1) n m vs xs e f in
    let both = Inside-one text n a b us ws r
    (subst (λ i. QuotedBytes text i b ws) (sym first.0) r') in
    (both.0, (λ i. first.1 i ++ both.1 i))

-- so has a quoted piece
pub Piece-one : (text : List ℕ) (from a b : ℕ) (s t : List ℕ) → QuotedPiece text from a s
    → QuotedPiece text from b t → (a ≡ b) × (s ≡ t)
Piece-one text from a b s t p q =
    let both = Inside-one text (from + 1) p.last q.last s t p.inside q.inside in
    (p.ends ∙ ap (λ n. n + 1) both.0 ∙ sym q.ends, both.1)

-- joined pieces begin with a quote
pub joined_first : (text : List ℕ) (from to : ℕ) (s : List ℕ) → Joined text from to s
    → slice_index text from ≡ ascii.quote
joined_first text from to s (last_piece _ _ n _ p k h) = p.opens
joined_first text from to s (one_more _ m n _ us vs p k r) = p.opens

pub Joined-one : (text : List ℕ) (from a b : ℕ) (s t : List ℕ) → Joined text from a s
    → Joined text from b t → (a ≡ b) × (s ≡ t)
Joined-one text from a b s t (last_piece _ _ n _ p k h) (last_piece _ _ m _ q l g) =
    Piece-one text from a b s t p q
Joined-one text from a b s t (last_piece _ _ n _ p k h) (one_more _ m i _ us vs q l r) =
    let both = Piece-one text from a m s us p q in
    let e : i ≡ n = Skip-one text a i n (subst (λ j. Skip text j i) (sym both.0) l) k in
    absurd (h (subst (λ j. slice_index text j ≡ ascii.quote) e (joined_first text i b vs r)))
Joined-one text from a b s t (one_more _ m i _ us vs q l r) (last_piece _ _ n _ p k h) =
    let both = Piece-one text from b m t us p q in
    let e : i ≡ n = Skip-one text b i n (subst (λ j. Skip text j i) (sym both.0) l) k in
    absurd (h (subst (λ j. slice_index text j ≡ ascii.quote) e (joined_first text i a vs r)))
Joined-one text from a b s t (one_more _ m i _ us vs p k r) (one_more _ n j _ ws xs q l z) =
    let first = Piece-one text from m n us ws p q in
    let e : i ≡ j = Skip-one text m i j k (subst (λ x. Skip text x j) (sym first.0) l) in
    let both = Joined-one text i a b vs xs r (subst (λ x. Joined text x b xs) (sym e) z) in
    (both.0, (λ x. first.1 x ++ both.1 x))

pub Word-one : (text : List ℕ) (from a b : ℕ) (s t : List ℕ) → Word text from a s
    → Word text from b t
    → (a ≡ b) × (s ≡ t)
Word-one text from a b s t p q =
    let k : a ≡ b = Run-one is_word text from a b p.run q.run in
    (k, p.means ∙ ap (λ n. slice_range text from n) k ∙ sym q.means)

unquoted_stops : (text : List ℕ) (from a b : ℕ) (s t : List ℕ) → Unquoted text from a s
    → Unquoted text from b t → a < b → ⊥
unquoted_stops text from a b s t p q l =
    false≢true (sym p.longest ∙ q.each a (omega (arith, p.some)) l)

-- an unquoted string has one end and says one thing
pub Unquoted-one : (text : List ℕ) (from a b : ℕ) (s t : List ℕ) → Unquoted text from a s
    → Unquoted text from b t
    → (a ≡ b) × (s ≡ t)
Unquoted-one text from a b s t p q =
    let k : a ≡ b = places_meet a b (unquoted_stops text from a b s t p q)
    (unquoted_stops text from b a t s q p) in
    (k, p.means ∙ ap (λ n. slice_range text from n) k ∙ sym q.means)

-- it begins with a byte that may stand in one
pub word_first : (text : List ℕ) (from to : ℕ) (s : List ℕ) → Unquoted text from to s
    → is_unquoted (slice_index text from) ≡ true
word_first text from to s w = (and_parts _ _ (w.each from (omega arith) w.some)).0

-- where a quote stands, none does
pub no_quote_word : (text : List ℕ) (from to : ℕ) (s : List ℕ) → slice_index text from ≡ ascii.quote
    → Unquoted text from to s → ⊥
no_quote_word text from to s h w =
    false≢true (ap is_unquoted (sym h) ∙ word_first text from to s w)

-- where a row of them begins one does, which may begin there
pub row_first : (text : List ℕ) (from to : ℕ) (s : List ℕ) → UnquotedRow text from to s
    → begins_unquoted text from ≡ true
row_first text from to s (last_one _ _ n _ p k h) =
    and_from _ _ p.begins (p.each from (omega arith) p.some)
row_first text from to s (rows.one_more _ m n _ us vs p w k r) =
    and_from _ _ p.begins (p.each from (omega arith) p.some)

row_goes_on : (text : List ℕ) (from end to at : ℕ) (s : List ℕ)
    → (is_white (slice_index text from) && begins_unquoted text end) ≡ false
    → is_white (slice_index text from) ≡ true → end ≡ at → UnquotedRow text at to s → ⊥
row_goes_on text from end to at s h w e r =
    false≢true (sym h ∙ and_from _ _ w
    (subst (λ i. begins_unquoted text i ≡ true) (sym e) (row_first text at to s r)))

-- a row has one end and says one thing
pub UnquotedRow-one : (text : List ℕ) (from a b : ℕ) (s t : List ℕ) → UnquotedRow text from a s
    → UnquotedRow text from b t → (a ≡ b) × (s ≡ t)
UnquotedRow-one text from a b s t (last_one _ _ n _ p k h) (last_one _ _ m _ q l g) =
    Unquoted-one text from a b s t p q
UnquotedRow-one text from a b s t (last_one _ _ n _ p k h) (rows.one_more _ m i _ us vs q w l r) =
    let both = Unquoted-one text from a m s us p q in
    let e : n ≡ i = Skip-one text a n i k (subst (λ j. Skip text j i) (sym both.0) l) in
    absurd (row_goes_on text a n b i vs h
    (subst (λ j. is_white (slice_index text j) ≡ true) (sym both.0) w) e r)
UnquotedRow-one text from a b s t (rows.one_more _ m i _ us vs q w l r) (last_one _ _ n _ p k h) =
    let both = Unquoted-one text from b m t us p q in
    let e : n ≡ i = Skip-one text b n i k (subst (λ j. Skip text j i) (sym both.0) l) in
    absurd (row_goes_on text b n a i vs h
    (subst (λ j. is_white (slice_index text j) ≡ true) (sym both.0) w) e r)
UnquotedRow-one text from a b s t (rows.one_more _ m i _ us vs p w k r)
    (rows.one_more _ n j _ ws xs q x l z) =
    let first = Unquoted-one text from m n us ws p q in
    let e : i ≡ j = Skip-one text m i j k (subst (λ x. Skip text x j) (sym first.0) l) in
    let both = UnquotedRow-one text i a b vs xs r (subst (λ x. UnquotedRow text x b xs) (sym e) z)
    in
    (both.0, (λ x. first.1 x ++ ascii.space ∷ both.1 x))

-- it begins with a byte that may stand in one
row_byte : (text : List ℕ) (from to : ℕ) (s : List ℕ) → UnquotedRow text from to s
    → is_unquoted (slice_index text from) ≡ true
row_byte text from to s (last_one _ _ n _ p k h) = word_first text from to s p
row_byte text from to s (rows.one_more _ m n _ us vs p w k r) = word_first text from m us p

-- where a quote stands, no row does
pub no_quote_row : (text : List ℕ) (from to : ℕ) (s : List ℕ) → slice_index text from ≡ ascii.quote
    → UnquotedRow text from to s → ⊥
no_quote_row text from to s h r =
    false≢true (ap is_unquoted (sym h) ∙ row_byte text from to s r)

-- a part of a string has one end and says one thing
pub Part-one : (text : List ℕ) (from a b : ℕ) (s t : List ℕ) → Part text from a s
    → Part text from b t → (a ≡ b) × (s ≡ t)
Part-one text from a b s t (a_row p) (a_row q) = UnquotedRow-one text from a b s t p q
Part-one text from a b s t (a_row p) (quoted q) =
    absurd (no_quote_row text from a s (joined_first text from b t q) p)
Part-one text from a b s t (quoted p) (a_row q) =
    absurd (no_quote_row text from b t (joined_first text from a s p) q)
Part-one text from a b s t (quoted p) (quoted q) = Joined-one text from a b s t p q

-- behind a part another one follows, or none does, at one place
pub follows_once : (text : List ℕ) (from a b m n : ℕ) (s t : List ℕ) → Part text from a s
    → Skip text a m → another_follows text from s m ≡ false → Part text from b t → Skip text b n
    → another_follows text from t n ≡ true → ⊥
follows_once text from a b m n s t p k h q l g =
    let both = Part-one text from a b s t p q in
    let e : m ≡ n = Skip-one text a m n k (subst (λ i. Skip text i n) (sym both.0) l) in
    false≢true (sym h ∙ (λ x. another_follows text from (both.1 x) (e x)) ∙ g)

-- a string has one end and says one thing
pub String-one : (text : List ℕ) (from a b : ℕ) (s t : List ℕ) → Text text from a s
    → Text text from b t → (a ≡ b) × (s ≡ t)
String-one text from a b s t (one_part _ _ m _ p k h) (one_part _ _ n _ q l g) =
    Part-one text from a b s t p q
String-one text from a b s t (one_part _ _ m _ p k h) (more_parts _ i n _ u v q l g r) =
    absurd (follows_once text from a i m n s u p k h q l g)
String-one text from a b s t (more_parts _ i n _ u v q l g r) (one_part _ _ m _ p k h) =
    absurd (follows_once text from b i m n t u p k h q l g)
String-one text from a b s t (more_parts _ i m _ u v p k h r) (more_parts _ j n _ w x q l g z) =
    let first = Part-one text from i j u w p q in
    let e : m ≡ n = Skip-one text i m n k (subst (λ y. Skip text y n) (sym first.0) l) in
    let both = String-one text m a b v x r (subst (λ y. Text text y b x) (sym e) z) in
    (both.0, (λ y. first.1 y ++ ascii.space ∷ both.1 y))

-- a string begins with a quote or a byte that may stand in an unquoted one
abbrev pub starts_string : ℕ → Bool
starts_string b = b == ascii.quote || is_unquoted b

pub part_first : (text : List ℕ) (from to : ℕ) (s : List ℕ) → Part text from to s
    → starts_string (slice_index text from) ≡ true
part_first text from to s (a_row r) =
    ap (λ c. (slice_index text from == ascii.quote) || c) (row_byte text from to s r) ∙ either _
  where
    either : (c : Bool) → (c || true) ≡ true
    either true = refl
    either false = refl
part_first text from to s (quoted j) = ap starts_string (joined_first text from to s j)

pub string_first : (text : List ℕ) (from to : ℕ) (s : List ℕ) → Text text from to s
    → starts_string (slice_index text from) ≡ true
string_first text from to s (one_part _ _ n _ p k h) = part_first text from to s p
string_first text from to s (more_parts _ m n _ u v p k h r) = part_first text from m u p

-- a key is a string
pub key_string : (text : List ℕ) (from to : ℕ) (s : List ℕ) → KeyText text from to s
    → Text text from to s
key_string text from to s k = k.whole

-- digits between two places say one number
all_one : {radix : ℕ} (text : List ℕ) (from to v w : ℕ) → AllDigits radix text from to v
    → AllDigits radix text from to w → v ≡ w
all_one text from to v w p q = p.means ∙ sym q.means

-- they begin with a digit
all_first : {radix : ℕ} (text : List ℕ) (from to v : ℕ) → AllDigits radix text from to v
    → is_digit (slice_index text from) radix ≡ true
all_first text from to v p = p.each from (omega arith) p.some

-- octal ones have no `x`
octal_no_hex : (text : List ℕ) (from to v w : ℕ) → AllDigits 8 text from to v
    → is_hex_letter (slice_index text (from + 1)) ≡ true → AllDigits 16 text (from + 2) to w → ⊥
octal_no_hex text from to v w p h q =
    let k : is_digit (slice_index text (from + 1)) 8 ≡ true =
    p.each (from + 1) (omega arith) (omega (arith, q.some)) in
    grind (arith, nat_tests, h, k)

-- a number without its sign says one number
Magnitude-one : (text : List ℕ) (from to v w : ℕ) → Magnitude text from to v
    → Magnitude text from to w → v ≡ w
Magnitude-one text from to v w (decimal _ z p) (decimal _ y q) = all_one text from to v w p q
Magnitude-one text from to v w (decimal _ z p) (numbers.octal _ y q) = absurd (z y)
Magnitude-one text from to v w (decimal _ z p) (hex _ y x q) = absurd (z y)
Magnitude-one text from to v w (numbers.octal _ z p) (decimal _ y q) = absurd (y z)
Magnitude-one text from to v w (numbers.octal _ z p) (numbers.octal _ y q) =
    all_one text from to v w p q
Magnitude-one text from to v w (numbers.octal _ z p) (hex _ y x q) =
    absurd (octal_no_hex text from to v w p x q)
Magnitude-one text from to v w (hex _ z x p) (decimal _ y q) = absurd (y z)
Magnitude-one text from to v w (hex _ z x p) (numbers.octal _ y q) =
    absurd (octal_no_hex text from to w v q x p)
Magnitude-one text from to v w (hex _ z x p) (hex _ y x' q) = all_one text (from + 2) to v w p q

-- and begins with a digit
pub magnitude_first : (text : List ℕ) (from to v : ℕ) → Magnitude text from to v
    → 48 ≤ slice_index text from
magnitude_first text from to v (decimal _ z p) =
    let k : is_digit (slice_index text from) 10 ≡ true = all_first text from to v p in
    grind (arith, nat_tests, k)
magnitude_first text from to v (numbers.octal _ z p) = omega (arith, z)
magnitude_first text from to v (hex _ z x p) = omega (arith, z)

-- digits are no braces
magnitude_low : (text : List ℕ) (from to v : ℕ) → Magnitude text from to v
    → slice_index text from < 58
magnitude_low text from to v (decimal _ z p) =
    let k : is_digit (slice_index text from) 10 ≡ true = all_first text from to v p in
    grind (arith, nat_tests, k)
magnitude_low text from to v (numbers.octal _ z p) = omega (arith, z)
magnitude_low text from to v (hex _ z x p) = omega (arith, z)

-- a number with its sign says one number
Signed-one : (text : List ℕ) (from to v w : ℕ) → Signed text from to v → Signed text from to w
    → v ≡ w
Signed-one text from to v w (unsigned _ m l) (unsigned _ n k) = Magnitude-one text from to v w m n
Signed-one text from to v w (unsigned _ m l) (plus _ h n k) =
    absurd (omega (arith, magnitude_first text from to v m, h))
Signed-one text from to v w (unsigned _ m l) (minus x h n k) =
    absurd (omega (arith, magnitude_first text from to v m, h))
Signed-one text from to v w (plus _ h m l) (unsigned _ n k) =
    absurd (omega (arith, magnitude_first text from to w n, h))
Signed-one text from to v w (plus _ h m l) (plus _ g n k) =
    Magnitude-one text (from + 1) to v w m n
Signed-one text from to v w (plus _ h m l) (minus x g n k) = absurd (omega (arith, h, g))
Signed-one text from to v w (minus x h m l) (unsigned _ n k) =
    absurd (omega (arith, magnitude_first text from to w n, h))
Signed-one text from to v w (minus x h m l) (plus _ g n k) = absurd (omega (arith, h, g))
Signed-one text from to v w (minus x h m l) (minus y g n k) =
    ap plain.negated (Magnitude-one text (from + 1) to x y m n)

-- it begins with a sign or a digit
pub signed_first : (text : List ℕ) (from to v : ℕ) → Signed text from to v
    → (43 ≤ slice_index text from) × (slice_index text from < 58)
signed_first text from to v (unsigned _ m l) =
    (omega (arith, magnitude_first text from to v m), magnitude_low text from to v m)
signed_first text from to v (plus _ h m l) = (omega (arith, h), omega (arith, h))
signed_first text from to v (minus x h m l) = (omega (arith, h), omega (arith, h))

-- and stands before its end
pub magnitude_order : (text : List ℕ) (from to v : ℕ) → Magnitude text from to v → from < to
magnitude_order text from to v (decimal _ z p) = p.some
magnitude_order text from to v (numbers.octal _ z p) = p.some
magnitude_order text from to v (hex _ z x p) = omega (arith, p.some)

pub signed_order : (text : List ℕ) (from to v : ℕ) → Signed text from to v → from < to
signed_order text from to v (unsigned _ m l) = magnitude_order text from to v m
signed_order text from to v (plus _ h m l) =
    omega (arith, magnitude_order text (from + 1) to v m)
signed_order text from to v (minus x h m l) =
    omega (arith, magnitude_order text (from + 1) to x m)

-- where two quotes stand with nothing between them, no number does
not_between : (text : List ℕ) (from last v : ℕ) → slice_index text from ≡ ascii.quote
    → Signed text from last v → ⊥
not_between text from last v h s =
    let k = signed_first text from last v s in absurd (omega (arith, h, k.0))

-- a number has one end and one value
pub Number-one : (text : List ℕ) (from a b v w : ℕ) → Number text from a v → Number text from b w
    → (a ≡ b) × (v ≡ w)
Number-one text from a b v w (a_word _ r s) (a_word _ r' s') =
    let e : a ≡ b = Run-one is_word text from a b r r' in
    (e, Signed-one text from a v w s (subst (λ i. Signed text from i w) (sym e) s'))
Number-one text from a b v w (a_word _ r s) (in_quotes last _ h r' s' q e) =
    absurd (not_between text from a v h s)
Number-one text from a b v w (a_word _ r s) (nothing h q e) =
    absurd (not_between text from a v h s)
Number-one text from a b v w (in_quotes last _ h r s q e) (a_word _ r' s') =
    absurd (not_between text from b w h s')
Number-one text from a b v w (in_quotes last _ h r s q e) (in_quotes end _ h' r' s' q' e') =
    let same : last ≡ end = Run-one is_word text (from + 1) last end r r' in (
      e ∙ ap (λ n. n + 1) same ∙ sym e',
      Signed-one text (from + 1) last v w s
          (subst (λ i. Signed text (from + 1) i w) (sym same) s'),
    )
Number-one text from a b v w (in_quotes last _ h r s q e) (nothing h' q' e') =
    absurd (not_between text (from + 1) last v q' s)
Number-one text from a b v w (nothing h q e) (a_word _ r' s') =
    absurd (not_between text from b w h s')
Number-one text from a b v w (nothing h q e) (in_quotes last _ h' r' s' q' e') =
    absurd (not_between text (from + 1) last w q s')
Number-one text from a b v w (nothing h q e) (nothing h' q' e') = (e ∙ sym e', refl)

-- a number begins with a quote, a sign or a digit
pub number_first : (text : List ℕ) (from to v : ℕ) → Number text from to v
    → slice_index text from ≢ ascii.right_brace
number_first text from to v (a_word _ r s) e =
    let k = signed_first text from to v s in absurd (omega (arith, k.1, e))
number_first text from to v (in_quotes last _ h r s q i) e = absurd (omega (arith, h, e))
number_first text from to v (nothing h q i) e = absurd (omega (arith, h, e))

pub TypeName-one : (text : List ℕ) (from a b : ℕ) (v w : List ℕ) → TypeName text from a v
    → TypeName text from b w → (a ≡ b) × (v ≡ w)
TypeName-one text from a b v w p q =
    let e : p.place ≡ q.place = Skip-one text (from + 1) p.place q.place p.between q.between in
    Word-one text q.place a b v w (subst (λ i. Word text i a v) e p.word) q.word

-- a type has one end and is one kind
pub GroupType-one : (text : List ℕ) (from a b : ℕ) (k l : Kind) → GroupType text from a k
    → GroupType text from b l → (a ≡ b) × (k ≡ l)
GroupType-one text from a b k l p q =
    let both = TypeName-one text from a b p.name q.name p.stands q.stands in
    (both.0, Names-one p.name k l p.names (subst (λ (w : List ℕ). Names w l) (sym both.1) q.names))

-- the type of a root has one end and says one thing of fallback
pub RootType-one : (text : List ℕ) (from a b : ℕ) (f g : Bool) → RootType text from a f
    → RootType text from b g → (a ≡ b) × (f ≡ g)
RootType-one text from a b true true (table_type p never) (table_type q never') =
    ((TypeName-one text from a b _ _ p q).0, refl)
RootType-one text from a b true false (table_type p never) (no_fallback_type j q n e) =
    let same : j ≡ a = (TypeName-one text from j a _ _ q p).0 in
    absurd (never (subst (λ (i : ℕ). NoFallback text i) same n))
RootType-one text from a b false true (no_fallback_type i p n e) (table_type q never) =
    let same : i ≡ b = (TypeName-one text from i b _ _ p q).0 in
    absurd (never (subst (λ (i : ℕ). NoFallback text i) same n))
RootType-one text from a b false false (no_fallback_type i p n e) (no_fallback_type j q n' e') =
    let same : i ≡ j = (TypeName-one text from i j _ _ p q).0 in
    (e ∙ ap (λ k. k + 12) same ∙ sym e', refl)

-- a type of the root begins with a colon
pub root_type_first : (text : List ℕ) (from to : ℕ) (f : Bool) → RootType text from to f
    → slice_index text from ≡ ascii.colon
root_type_first text from to f (table_type p never) = p.colon
root_type_first text from to f (no_fallback_type i p n e) = p.colon

pub Name-one : (text : List ℕ) (from a b : ℕ) (s t : List ℕ) → Name text from a s
    → Name text from b t → (a ≡ b) × (s ≡ t)
Name-one text from a b s t p q =
    String-one text from a b s t (key_string text from a s p.key) (key_string text from b t q.key)
