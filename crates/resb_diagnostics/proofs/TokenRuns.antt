-- Runs of blanks and words, and single bytes among tokens.
use Rattle.std.proofs.Common.{◌≡◌, ◌∙◌, ℕ, suc, ◌+◌, ◌-◌, ◌<◌, ◌≤◌, Bool, true, false}
use Rattle.std.proofs.Common.{◌==◌, List, [], length, refl, sym, ap, subst, arith, eqb-true, ◌||◌}
use Rattle.std.proofs.Common.{Option, Some, None, inl, inr}
use Rattle.std.specs.Prelude.{slice_index, if◌then◌else◌, ◌⊎◌}
use Rattle.std.proofs.lemmas.Bool.{cases_lt}
use Rattle.std.proofs.lemmas.Bool.{false≢true}
use Rattle.std.proofs.lemmas.Option.{none-some}
use Rattle.resb_diagnostics.specs.Braces.{mode_at, mode_behind, behind_token, has_tokens}
use Rattle.resb_diagnostics.specs.Pieces.{TextPiece, opening, closing, a_comma, token_at, word_at}
use Rattle.resb_diagnostics.specs.Pieces.{word_from, word_start}
use Rattle.resb_diagnostics.specs.Inner.Tokens.{IsAmong, IsBetween, Passes, GoesOn, one_byte_piece}
use Rattle.resb_diagnostics.specs.declared.braces.Mode.TheVariants as modes
use Rattle.resb_grammar.specs.ByteRuns.{is_white, is_word, Run}
use Rattle.resb_grammar.specs.Ascii.{quote, slash, left_brace, right_brace, comma}
use Rattle.resb_diagnostics.proofs.Passing.{up, still, one_token, further, then_piece}
use Rattle.resb_diagnostics.proofs.Passing.{between_behind}

-- the byte is one of the four blanks
pub white_cases : (P : ℕ → Type 0) → P 32 → P 9 → P 13 → P 10 → (b : ℕ) → is_white b ≡ true → P b
white_cases P space tab return feed b h =
    by (b == 32) refl (b == 9) refl (b == 13) refl (b == 10) refl h
  where
    by : (s : Bool) → (b == 32) ≡ s → (t : Bool) → (b == 9) ≡ t → (r : Bool) → (b == 13) ≡ r
        → (f : Bool) → (b == 10) ≡ f → ((s || t) || (r || f)) ≡ true → P b
    by true e t _ r _ f _ i = subst P (sym (eqb-true b 32 e)) space
    by false _ true e r _ f _ i = subst P (sym (eqb-true b 9 e)) tab
    by false _ false _ true e f _ i = subst P (sym (eqb-true b 13 e)) return
    by false _ false _ false _ true e i = subst P (sym (eqb-true b 10 e)) feed
    by false _ false _ false _ false _ i = absurd (false≢true i)

-- a byte that begins neither a string nor a comment, and is no word character
pub record IsSign (text : List ℕ) (n b : ℕ) (p : Option TextPiece) : Type 0 where
  pub word : is_word b ≡ false
  pub stays : behind_token b ≡ modes.Tokens
  pub piece : token_at text n b ≡ p

white_sign : (text : List ℕ) (n b : ℕ) → is_white b ≡ true → IsSign text n b None
white_sign text n b h =
    white_cases (λ c. IsSign text n c None) (record { word = refl; stays = refl; piece = refl })
    (record { word = refl; stays = refl; piece = refl })
    (record { word = refl; stays = refl; piece = refl })
    (record { word = refl; stays = refl; piece = refl }) b h

-- such a byte is passed
one_sign : (text : List ℕ) (n : ℕ) (p : Option TextPiece) → n < length text → IsBetween text n
    → IsSign text n (slice_index text n) p → IsBetween text (suc n) × Passes text n (suc n) [] p
one_sign text n p fits between sign = (
  between_behind text n (between.among.next ∙ sign.stays) sign.word,
  one_token text n p fits between.among.tokens sign.piece,
)

pub sign_goes_on : (text : List ℕ) (n : ℕ) (p : Option TextPiece) → n < length text
    → IsBetween text n → IsSign text n (slice_index text n) p → GoesOn text n (n + 1) [] p
sign_goes_on text n p fits between sign =
    let (later, passes) = one_sign text n p fits between sign in
    let next : suc n ≡ n + 1 = omega arith in
    subst (λ m. GoesOn text n m [] p) next
    (record { more = omega arith; passes = passes; between = λ _. later })

-- behind a run of blanks
pub behind_blanks : (text : List ℕ) (from to : ℕ) → IsBetween text from
    → Run is_white text from to → IsBetween text to × Passes text from to [] None
behind_blanks text from to between run =
    up (λ k. IsBetween text k × Passes text from k [] None) from to
    (between, still text from (omega (arith, run.order, run.fits))) run.order
    (λ k low high so_far.
    let (later, here) = one_sign text k None (omega (arith, run.fits)) so_far.0
    (white_sign text k (slice_index text k) (run.each k low high)) in
    (later, further text from k [] so_far.1 here))

-- a word character leaves tokens behind it
word_stays : (b : ℕ) → is_word b ≡ true → behind_token b ≡ modes.Tokens
word_stays b h = by (b == quote) refl (b == slash) refl
  where
    by : (q : Bool) → (b == quote) ≡ q → (s : Bool) → (b == slash) ≡ s
        → (if q then modes.Quotes else (if s then modes.Slash else modes.Tokens)) ≡ modes.Tokens
    by true e s _ = absurd (false≢true (ap is_word (sym (eqb-true b quote e)) ∙ h))
    by false _ true e = absurd (false≢true (ap is_word (sym (eqb-true b slash e)) ∙ h))
    by false _ false _ = refl

-- in a word that began at a place, not behind its last byte
record InWord (text : List ℕ) (from k : ℕ) : Type 0 where
  pub among : IsAmong text k
  pub start : word_start text k ≡ from
  pub passes : Passes text from k [] None

word_token : (text : List ℕ) (n : ℕ) (o : Option TextPiece) → is_word (slice_index text n) ≡ true
    → word_at text n ≡ o → token_at text n (slice_index text n) ≡ o
word_token text n o h e =
    ap (λ w. if w then word_at text n
    else (if slice_index text n == left_brace then Some opening
    else (if slice_index text n == right_brace then Some (closing n)
    else (if slice_index text n == comma then Some (a_comma n) else None)))) h ∙ e

no_word_end : (text : List ℕ) (n : ℕ) → is_word (slice_index text (n + 1)) ≡ true
    → word_at text n ≡ None
no_word_end text n h =
    ap (λ w. if w then None else Some (word_from text (word_start text n) (n + 1))) h

a_word_end : (text : List ℕ) (n from : ℕ) → is_word (slice_index text (n + 1)) ≡ false
    → word_start text n ≡ from → word_at text n ≡ Some (word_from text from (n + 1))
a_word_end text n from h e =
    ap (λ w. if w then None else Some (word_from text (word_start text n) (n + 1))) h
    ∙ ap (λ s. Some (word_from text s (n + 1))) e

among_behind : (text : List ℕ) (k : ℕ) → mode_at text (suc k) ≡ modes.Tokens
    → IsAmong text (suc k)
among_behind text k e = record {
  tokens = ap has_tokens e;
  next = ap (λ m. mode_behind m (slice_index text (suc k))) e;
}

-- a word is passed
pub word_goes_on : (text : List ℕ) (from to : ℕ) → IsBetween text from → from < to
    → Run is_word text from to → GoesOn text from to [] (Some (word_from text from to))
word_goes_on text from to between more run =
    let last = to - 1 in
    let at_last : InWord text from last =
    up (InWord text from) from last
    (record {
      among = between.among;
      start = between.word (run.each from (omega arith) more);
      passes = still text from (omega (arith, run.fits));
    }) (omega arith)
    (λ k low high so_far.
    let this = run.each k low (omega arith) in
    let next = run.each (k + 1) (omega arith) (omega arith) in record {
      among = among_behind text k (so_far.among.next ∙ word_stays (slice_index text k) this);
      start = ap (λ w. if w then word_start text k else suc k) this ∙ so_far.start;
      passes = further text from k [] so_far.passes
          (one_token text k None (omega (arith, run.fits)) so_far.among.tokens
          (word_token text k None this (no_word_end text k next)));
    }) in
    let this = run.each last (omega arith) (omega arith) in
    let is : last + 1 ≡ to = omega arith in
    let behind : is_word (slice_index text (last + 1)) ≡ false =
    ap (λ n. is_word (slice_index text n)) is ∙ run.longest in
    let mode : mode_at text (suc last) ≡ modes.Tokens =
    at_last.among.next ∙ word_stays (slice_index text last) this in
    let later : suc last ≡ to = omega arith in
    record {
      more = more;
      passes = subst (λ n. Passes text from n [] (Some (word_from text from to))) later
          (then_piece text from last (suc last) [] (Some (word_from text from to)) at_last.passes
          (one_token text last (Some (word_from text from to)) (omega (arith, run.fits))
          at_last.among.tokens
          (word_token text last (Some (word_from text from to)) this
          (a_word_end text last from behind at_last.start
          ∙ ap (λ n. Some (word_from text from n)) is))));
      between = λ _. record {
        among = subst (IsAmong text) later (among_behind text last mode);
        word = λ w. absurd (false≢true (sym run.longest ∙ w));
      };
    }

-- a word character stands at a run's start
pub some_word : (text : List ℕ) (from to : ℕ) → Run is_word text from to
    → is_word (slice_index text from) ≡ true → from < to
some_word text from to run h = by (cases_lt from to)
  where
    by : (from < to) ⊎ (to ≤ from) → from < to
    by (inl lt) = lt
    by (inr le) =
        let same : from ≡ to = omega (arith, run.order) in
        absurd (false≢true (sym run.longest ∙ ap (λ n. is_word (slice_index text n)) (sym same)
        ∙ h))

-- a byte that is neither of a word nor a quote or a slash
pub lone_sign : (text : List ℕ) (n b : ℕ) → is_word b ≡ false → (b == quote) ≡ false
    → (b == slash) ≡ false → IsSign text n b (one_byte_piece n b)
lone_sign text n b word is_quote is_slash = record {
  word = word;
  stays = ap (λ q. if q then modes.Quotes else (if b == slash then modes.Slash else modes.Tokens))
      is_quote ∙ ap (λ s. if s then modes.Slash else modes.Tokens) is_slash;
  piece = ap (λ w. if w then word_at text n else one_byte_piece n b) word;
}

-- a byte that is a piece
pub piece_sign : (text : List ℕ) (n b : ℕ) (p : TextPiece) → Some p ≡ one_byte_piece n b
    → IsSign text n b (Some p)
piece_sign text n b p e =
    by (b == left_brace) refl (b == right_brace) refl (b == comma) refl e
  where
    from : (c : ℕ) → (b == c) ≡ true → IsSign text n c (one_byte_piece n c)
        → IsSign text n b (Some p)
    from c is sign =
        let same : b ≡ c = eqb-true b c is in
        subst (λ d. IsSign text n d (Some p)) (sym same)
        (subst (IsSign text n c) (sym (e ∙ ap (one_byte_piece n) same)) sign)

    by : (o : Bool) → (b == left_brace) ≡ o → (k : Bool) → (b == right_brace) ≡ k
        → (m : Bool) → (b == comma) ≡ m
        → Some p
        ≡ (if o then Some opening else (if k then Some (closing n)
        else (if m then Some (a_comma n) else None))) → IsSign text n b (Some p)
    by true f _ _ _ _ _ = from left_brace f (record { word = refl; stays = refl; piece = refl })
    by false _ true f _ _ _ =
        from right_brace f (record { word = refl; stays = refl; piece = refl })
    by false _ false _ true f _ = from comma f (record { word = refl; stays = refl; piece = refl })
    by false _ false _ false _ g = absurd (none-some p (sym g))
