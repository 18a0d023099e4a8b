-- Runs of blanks, words, pieces in quotes, and single bytes among the tokens of a text of ICU's
-- form.
use Rattle.std.proofs.Common.{◌≡◌, ◌∙◌, ℕ, suc, ◌+◌, ◌-◌, ◌<◌, ◌≤◌, Bool, true, false, ◌&&◌, ◌||◌}
use Rattle.std.proofs.Common.{◌==◌, List, length, refl, sym, ap, subst, arith, eqb-true}
use Rattle.std.proofs.Common.{Option, Some, None, inl, inr}
use Rattle.std.specs.Prelude.{slice_index, not, if◌then◌else◌, ◌⊎◌}
use Rattle.std.proofs.lemmas.Bool.{cases_lt, false≢true}
use Rattle.std.proofs.lemmas.Option.{none-some}
use Rattle.resb_grammar.specs.ByteRuns.{is_white, is_line_end, Run}
use Rattle.resb_grammar.specs.Ascii.{quote, slash, star, left_brace, right_brace, comma, line_feed}
use Rattle.resb_grammar.specs.Ascii.{carriage_return, colon}
use Rattle.resb_icu_grammar.specs.Bytes.{is_unquoted}
use Rattle.resb_icu_grammar.specs.Unquoted.{begins_comment}
use Rattle.resb_diagnostics.specs.Braces.{mode_behind, icu_mode_behind, has_tokens}
use Rattle.resb_diagnostics.specs.Braces.{has_icu_tokens, behind_token}
use Rattle.resb_diagnostics.specs.IcuWarnings.{word_goes_on, is_in_word, is_in_string}
use Rattle.resb_diagnostics.specs.IcuWarnings.{line_ended, icu_word_start}
use Rattle.resb_diagnostics.specs.IcuWarnings.{icu_token_of}
use Rattle.resb_diagnostics.specs.Inner.IcuTokens.{icu_sign, icu_mode_at, IsIcuBetween, IcuPasses}
use Rattle.resb_diagnostics.specs.Inner.IcuTokens.{IsIn, BeginsAt, IsBefore, IsBeforeSome, IsSilent}
use Rattle.resb_diagnostics.specs.Inner.IcuTokens.{IsWordRest, IsIcuQuiet, IsIcuStep}
use Rattle.resb_diagnostics.specs.Inner.IcuTokens.{IsQuotedRest}
use Rattle.resb_diagnostics.specs.declared.braces.IcuMode.TheVariants.{As, BlockStart}
use Rattle.resb_diagnostics.specs.declared.braces.Mode.TheVariants as modes
use Rattle.resb_diagnostics.specs.declared.icu_runs.Before.{Before}
use Rattle.resb_diagnostics.specs.declared.icu_tokens.IcuToken.{IcuToken}
use Rattle.resb_diagnostics.specs.declared.icu_tokens.IcuToken.TheVariants as token
use Rattle.resb_diagnostics.proofs.Passing.{up}
use Rattle.resb_diagnostics.proofs.TokenRuns.{white_cases}
use Rattle.resb_diagnostics.proofs.IcuPassing.{still, one_token, one_silent, then_quiet, then_word}
use Rattle.resb_diagnostics.proofs.IcuPassing.{open_mode, quoted_mode, more_silent, ended_same}
use Rattle.resb_diagnostics.proofs.IcuPassing.{between_behind, silent_word, no_word, not_unquoted}
use Rattle.resb_diagnostics.proofs.IcuPassing.{no_string, ends_none, other_colon, colon_none}
use Rattle.resb_diagnostics.proofs.IcuPassing.{colon_byte}

-- a byte that begins neither a string nor a comment
pub record IsIcuSign (text : List ℕ) (n b : ℕ) (t : Option IcuToken) : Type 0 where
  pub other : is_unquoted b ≡ false
  pub stays : behind_token b ≡ modes.Tokens
  pub token : is_in_word text n ≡ false → icu_token_of text n b ≡ t

-- a byte that is none of a word is a token by itself, or none
not_so : (text : List ℕ) (n : ℕ) → is_in_word text n ≡ false
    → (if is_in_word text n && not (is_in_word text (suc n))
    then Some (token.Word (icu_word_start text n) (n + 1)) else None) ≡ None
not_so text n h =
    ap (λ w. if w && not (is_in_word text (suc n))
    then Some (token.Word (icu_word_start text n) (n + 1)) else None) h

white_sign : (text : List ℕ) (n b : ℕ) → is_white b ≡ true → IsIcuSign text n b None
white_sign text n b h =
    white_cases (λ c. IsIcuSign text n c None)
    (record { other = refl; stays = refl; token = not_so text n })
    (record { other = refl; stays = refl; token = not_so text n })
    (record { other = refl; stays = refl; token = not_so text n })
    (record { other = refl; stays = refl; token = not_so text n }) b h

-- a byte that may not stand in an unquoted string is none of a word
sign_alone : (text : List ℕ) (n : ℕ) → is_unquoted (slice_index text n) ≡ false
    → is_in_word text n ≡ false
sign_alone text n h = no_word text n (not_unquoted text n h)

-- a white character is no colon
white_colon : (b : ℕ) → is_white b ≡ true → (b == colon) ≡ false
white_colon b h = white_cases (λ c. (c == colon) ≡ false) refl refl refl refl b h

-- behind a run of blanks
pub behind_blanks : (text : List ℕ) (from to : ℕ) → IsIcuBetween text from
    → Run is_white text from to
    → IsIcuBetween text to × IcuPasses text from to None × IsSilent text from to
behind_blanks text from to between run =
    up (λ k. IsIcuBetween text k × IcuPasses text from k None × IsSilent text from k) from to (
      between,
      still text from (omega (arith, run.order, run.fits)),
      λ k low high. absurd (omega (arith, low, high)),
    ) run.order
    (λ k low high so_far.
    let sign = white_sign text k (slice_index text k) (run.each k low high) in
    let alone = sign_alone text k sign.other in
    let (here, passes, plain) = so_far in (
      between_behind text k (here.next ∙ ap As sign.stays) alone,
      then_quiet text from k (suc k) None passes
          (one_token text k None (omega (arith, run.fits)) here.tokens (sign.token alone)),
      more_silent text from k plain
          (no_string text k (open_mode (icu_mode_at text k) here.tokens) alone)
          (other_colon text k (slice_index text k) refl
          (white_colon (slice_index text k) (run.each k low high))),
    ))

-- a byte that may stand in an unquoted string is not this one, which may not
no_mark : (b c : ℕ) → is_unquoted b ≡ true → is_unquoted c ≡ false → (b == c) ≡ true
    → false ≡ true
no_mark b c h other e = sym (ap is_unquoted (eqb-true b c e) ∙ other) ∙ h

-- behind such a byte tokens may stand
open_behind : (b : ℕ) → is_unquoted b ≡ true → has_tokens (behind_token b) ≡ true
open_behind b h = by (b == quote) refl (b == slash)
  where
    by : (q : Bool) → (b == quote) ≡ q → (s : Bool)
        → has_tokens (if q then modes.Quotes else (if s then modes.Slash else modes.Tokens))
        ≡ true
    by true e s = absurd (false≢true (no_mark b quote h refl e))
    by false _ true = refl
    by false _ false = refl

-- it begins no other token
pub word_token : (text : List ℕ) (n b : ℕ) → is_unquoted b ≡ true → is_in_word text n ≡ true
    → icu_token_of text n b
    ≡ (if not (is_in_word text (suc n))
    then Some (token.Word (icu_word_start text n) (n + 1)) else None)
word_token text n b h inside =
    by (b == quote) refl (b == left_brace) refl (b == right_brace) refl (b == comma) refl
  where
    end : Option IcuToken
    end =
        if not (is_in_word text (suc n))
        then Some (token.Word (icu_word_start text n) (n + 1)) else None

    by : (q : Bool) → (b == quote) ≡ q → (o : Bool) → (b == left_brace) ≡ o
        → (c : Bool) → (b == right_brace) ≡ c → (m : Bool) → (b == comma) ≡ m
        → (if q then Some (token.Piece n)
        else (if o then Some (token.Open n)
        else (if c then Some token.Close
        else (if m then Some token.Comma
        else (if is_in_word text n && not (is_in_word text (suc n))
        then Some (token.Word (icu_word_start text n) (n + 1)) else None))))) ≡ end
    by true e _ _ _ _ _ _ = absurd (false≢true (no_mark b quote h refl e))
    by false _ true e _ _ _ _ = absurd (false≢true (no_mark b left_brace h refl e))
    by false _ false _ true e _ _ = absurd (false≢true (no_mark b right_brace h refl e))
    by false _ false _ false _ true e = absurd (false≢true (no_mark b comma h refl e))
    by false _ false _ false _ false _ =
        ap (λ w. if w && not (is_in_word text (suc n))
        then Some (token.Word (icu_word_start text n) (n + 1)) else None) inside

-- a byte with which a word goes on may stand in an unquoted string
pub word_byte : (text : List ℕ) (k : ℕ) → word_goes_on text k ≡ true
    → is_unquoted (slice_index text k) ≡ true
word_byte text k h = by (is_unquoted (slice_index text k)) h
  where
    by : (u : Bool) → (u && not (begins_comment text k)) ≡ true → u ≡ true
    by true _ = refl
    by false i = i

-- with a slash in a word no comment begins
word_comment : (text : List ℕ) (k : ℕ) → word_goes_on text k ≡ true
    → begins_comment text k ≡ false
word_comment text k h = by (is_unquoted (slice_index text k)) (begins_comment text k) h
  where
    by : (u c : Bool) → (u && not c) ≡ true → c ≡ false
    by u false _ = refl
    by true true i = sym i
    by false true i = absurd (false≢true i)

-- at a place in a word, or behind one: tokens stand there, and no comment goes on
record IsAmongTokens (text : List ℕ) (k : ℕ) : Type 0 where
  pub tokens : has_icu_tokens (icu_mode_at text k) ≡ true
  pub next : icu_mode_behind (icu_mode_at text k) (slice_index text k)
      ≡ As (behind_token (slice_index text k))

-- there the byte is one of the word
in_word : (text : List ℕ) (k : ℕ) → IsAmongTokens text k → word_goes_on text k ≡ true
    → is_in_word text k ≡ true
in_word text k here h =
    ap (λ a. (a && has_icu_tokens (icu_mode_at text (suc k))) && word_goes_on text k) here.tokens
    ∙ ap (λ b. b && word_goes_on text k)
    (ap has_icu_tokens here.next ∙ open_behind (slice_index text k) (word_byte text k h)) ∙ h

-- behind a slash with which no comment begins
slash_next : (text : List ℕ) (k : ℕ) → slice_index text k ≡ slash
    → begins_comment text k ≡ false
    → icu_mode_behind (As modes.Slash) (slice_index text (suc k))
    ≡ As (behind_token (slice_index text (suc k)))
slash_next text k e none = by (b == slash) refl (b == star) refl second
  where
    b : ℕ
    b = slice_index text (suc k)

    next : k + 1 ≡ suc k
    next = omega arith

    second : (b == slash || b == star) ≡ false
    second =
        sym (ap (λ n. slice_index text n == slash || slice_index text n == star) next)
        ∙ sym (ap (λ c. c == slash
        && (slice_index text (k + 1) == slash || slice_index text (k + 1) == star)) e) ∙ none

    by : (s : Bool) → (b == slash) ≡ s → (t : Bool) → (b == star) ≡ t → (s || t) ≡ false
        → icu_mode_behind (As modes.Slash) b ≡ As (behind_token b)
    by true _ t _ i = absurd (false≢true (sym i))
    by false _ true _ i = absurd (false≢true (sym i))
    by false f false g _ =
        ap (λ s. if s then BlockStart else As (mode_behind modes.Slash b)) g
        ∙ ap (λ s. As (if s then modes.LineComment
        else (if b == star then modes.BlockComment else behind_token b))) f
        ∙ ap (λ s. As (if s then modes.BlockComment else behind_token b)) g

-- tokens stand behind a byte of a word too
word_on : (text : List ℕ) (k : ℕ) → IsAmongTokens text k → word_goes_on text k ≡ true
    → IsAmongTokens text (suc k)
word_on text k here h = record {
  tokens = ap has_icu_tokens here.next ∙ open_behind b (word_byte text k h);
  next = by (b == quote) refl (b == slash) refl;
}
  where
    b : ℕ
    b = slice_index text k

    behind : (q : Bool) → (b == quote) ≡ q → (s : Bool) → (b == slash) ≡ s
        → icu_mode_at text (suc k)
        ≡ As (if q then modes.Quotes else (if s then modes.Slash else modes.Tokens))
    behind q e s f =
        here.next
        ∙ ap (λ i. As (if i then modes.Quotes
        else (if b == slash then modes.Slash else modes.Tokens))) e
        ∙ ap (λ i. As (if q then modes.Quotes else (if i then modes.Slash else modes.Tokens))) f

    by : (q : Bool) → (b == quote) ≡ q → (s : Bool) → (b == slash) ≡ s
        → icu_mode_behind (icu_mode_at text (suc k)) (slice_index text (suc k))
        ≡ As (behind_token (slice_index text (suc k)))
    by true e _ _ = absurd (false≢true (no_mark b quote (word_byte text k h) refl e))
    by false e true f =
        ap (λ m. icu_mode_behind m (slice_index text (suc k))) (behind false e true f)
        ∙ slash_next text k (eqb-true b slash f) (word_comment text k h)
    by false e false f =
        ap (λ m. icu_mode_behind m (slice_index text (suc k))) (behind false e false f)

-- in a word that began at a place, not behind its last byte
record InIcuWord (text : List ℕ) (from k : ℕ) : Type 0 where
  pub among : IsAmongTokens text k
  pub start : icu_word_start text k ≡ from
  pub passes : IcuPasses text from k None

-- a byte stands at a word's start
some_word : (text : List ℕ) (from to : ℕ) → IsWordRest text from to
    → word_goes_on text from ≡ true → from < to
some_word text from to rest h = by (cases_lt from to)
  where
    by : (from < to) ⊎ (to ≤ from) → from < to
    by (inl lt) = lt
    by (inr le) =
        let same : to ≡ from = omega (arith, rest.order) in
        absurd (false≢true (sym rest.longest ∙ ap (word_goes_on text) same ∙ h))

-- a byte of a word at a place, behind which it goes on, is no token by itself
word_goes : (text : List ℕ) (from j : ℕ) → j < length text → InIcuWord text from j
    → word_goes_on text j ≡ true → word_goes_on text (suc j) ≡ true
    → InIcuWord text from (suc j)
word_goes text from j fits so_far this more =
    let inside = in_word text j so_far.among this in
    let among = word_on text j so_far.among this in record {
      among = among;
      start = ap (λ w. if w then icu_word_start text j else suc j) inside ∙ so_far.start;
      passes = then_quiet text from j (suc j) None so_far.passes
          (one_token text j None fits so_far.among.tokens
          (word_token text j (slice_index text j) (word_byte text j this) inside
          ∙ ap (λ g. if not g then Some (token.Word (icu_word_start text j) (j + 1)) else None)
          (in_word text (suc j) among more)));
    }

-- a word up to its last byte
within_word : (text : List ℕ) (from to k : ℕ) → IsIcuBetween text from → IsWordRest text from to
    → from ≤ k → k < to → InIcuWord text from k
within_word text from to k between rest after before =
    up (InIcuWord text from) from k
    (record {
      among = record { tokens = between.tokens; next = between.next };
      start = between.word (rest.each from (omega arith) (omega arith));
      passes = still text from (omega (arith, rest.fits));
    }) after
    (λ j low high so_far.
    word_goes text from j (omega (arith, rest.fits)) so_far
    (rest.each j low (omega arith)) (rest.each (suc j) (omega arith) (omega arith)))

-- a word is passed
pub word_step : (text : List ℕ) (from to : ℕ) → from < length text
    → IsIcuBetween text from → word_goes_on text from ≡ true → IsWordRest text from to
    → (b : Before) → b.has_ended ≡ false → b.has_colon ≡ false
    → IsIcuStep text from (record { token = Some (token.Word from to); before = b; end = to })
word_step text from to fits between first rest b no_end no_colon =
    let more = some_word text from to rest first in
    let last = to - 1 in
    let is : last + 1 ≡ to = omega arith in
    let later : suc last ≡ to = omega arith in
    let so_far = within_word text from to last between rest (omega arith) (omega arith) in
    let this = rest.each last (omega arith) (omega arith) in
    let inside = in_word text last so_far.among this in
    let behind : is_in_word text (suc last) ≡ false =
    no_word text (suc last) (ap (word_goes_on text) later ∙ rest.longest) in
    let among = word_on text last so_far.among this in
    let ends : icu_token_of text last (slice_index text last) ≡ Some (token.Word from to) =
    word_token text last (slice_index text last) (word_byte text last this) inside
    ∙ ap (λ g. if not g then Some (token.Word (icu_word_start text last) (last + 1)) else None)
    behind
    ∙ ap (λ s. Some (token.Word s (last + 1))) so_far.start
    ∙ ap (λ n. Some (token.Word from n)) is in
    let string : is_in_string text last ≡ true =
    ap (λ q. q || is_in_word text last) (open_mode (icu_mode_at text last) so_far.among.tokens)
    ∙ inside in
    record {
      more = more;
      passes = then_word text from last to from to so_far.passes
          (subst (λ n. IcuPasses text last n (Some (token.Word from to))) later
          (one_token text last (Some (token.Word from to)) (omega (arith, rest.fits))
          so_far.among.tokens ends));
      inside = (more, rest.fits);
      begins = refl;
      before = λ _. subst (λ n. IsBefore text n b) later (record {
        ended = no_end ∙ sym (ends_none text last string);
        colon = no_colon ∙ sym (colon_none text last string);
      });
      between = λ _. subst (IsIcuBetween text) later
          (record {
            tokens = among.tokens;
            next = among.next;
            word = λ w. absurd (false≢true
                (sym rest.longest ∙ ap (word_goes_on text) (sym later) ∙ w));
          });
    }

-- a byte that is neither of a word nor a quote or a slash
pub lone_sign : (text : List ℕ) (n b : ℕ) → is_unquoted b ≡ false → (b == quote) ≡ false
    → (b == slash) ≡ false → IsIcuSign text n b (icu_sign n b)
lone_sign text n b other no_quote no_slash = record {
  other = other;
  stays = ap (λ q. if q then modes.Quotes else (if b == slash then modes.Slash else modes.Tokens))
      no_quote ∙ ap (λ s. if s then modes.Slash else modes.Tokens) no_slash;
  token = λ h. ap (λ q. if q then Some (token.Piece n)
      else (if b == left_brace then Some (token.Open n)
      else (if b == right_brace then Some token.Close
      else (if b == comma then Some token.Comma
      else (if is_in_word text n && not (is_in_word text (suc n))
      then Some (token.Word (icu_word_start text n) (n + 1)) else None))))) no_quote
      ∙ ap (λ w. if b == left_brace then Some (token.Open n)
      else (if b == right_brace then Some token.Close
      else (if b == comma then Some token.Comma else w))) (not_so text n h);
}

-- a byte with which no word goes on, and that is no slash, may not stand in an unquoted string
pub no_slash_alone : (text : List ℕ) (n : ℕ) → (slice_index text n == slash) ≡ false
    → word_goes_on text n ≡ false → is_unquoted (slice_index text n) ≡ false
no_slash_alone text n e h =
    by (is_unquoted (slice_index text n)) (begins_comment text n) h
    (ap (λ s. s && (slice_index text (n + 1) == slash || slice_index text (n + 1) == star)) e)
  where
    by : (u c : Bool) → (u && not c) ≡ false → c ≡ false → u ≡ false
    by false _ _ _ = refl
    by true false i _ = i
    by true true _ i = absurd (false≢true (sym i))

-- what is no blank ends no line
dark_no_end : (b : ℕ) → is_white b ≡ false → is_line_end b ≡ false
dark_no_end b h = by (b == line_feed) refl (b == carriage_return) refl
  where
    by : (f : Bool) → (b == line_feed) ≡ f → (r : Bool) → (b == carriage_return) ≡ r
        → (f || r) ≡ false
    by true e r _ = absurd (false≢true (sym h ∙ ap is_white (eqb-true b line_feed e)))
    by false _ true e =
        absurd (false≢true (sym h ∙ ap is_white (eqb-true b carriage_return e)))
    by false _ false _ = refl

sign_inside : (text : List ℕ) (n b : ℕ)
    → IsIn text (icu_sign n b) × BeginsAt n (icu_sign n b)
sign_inside text n b = by (b == left_brace) (b == right_brace) (b == comma)
  where
    sign : Bool → Bool → Bool → Option IcuToken
    sign o c m =
        if o then Some (token.Open n) else (if c then Some token.Close
        else (if m then Some token.Comma else None))

    by : (o c m : Bool) → IsIn text (sign o c m) × BeginsAt n (sign o c m)
    by true c m = (tt, tt)
    by false true m = (tt, tt)
    by false false true = (tt, tt)
    by false false false = (tt, tt)

-- a byte that is a token
pub piece_sign : (text : List ℕ) (n b : ℕ) (t : IcuToken) → Some t ≡ icu_sign n b
    → IsIcuSign text n b (Some t)
piece_sign text n b t e =
    by (b == left_brace) refl (b == right_brace) refl (b == comma) refl e
  where
    from : (c : ℕ) → (b == c) ≡ true → IsIcuSign text n c (icu_sign n c)
        → IsIcuSign text n b (Some t)
    from c is sign =
        let same : b ≡ c = eqb-true b c is in
        subst (λ d. IsIcuSign text n d (Some t)) (sym same)
        (subst (IsIcuSign text n c) (sym (e ∙ ap (icu_sign n) same)) sign)

    by : (o : Bool) → (b == left_brace) ≡ o → (c : Bool) → (b == right_brace) ≡ c
        → (m : Bool) → (b == comma) ≡ m
        → Some t
        ≡ (if o then Some (token.Open n) else (if c then Some token.Close
        else (if m then Some token.Comma else None))) → IsIcuSign text n b (Some t)
    by true f _ _ _ _ _ =
        from left_brace f (record { other = refl; stays = refl; token = λ _. refl })
    by false _ true f _ _ _ =
        from right_brace f (record { other = refl; stays = refl; token = λ _. refl })
    by false _ false _ true f _ =
        from comma f (record { other = refl; stays = refl; token = λ _. refl })
    by false _ false _ false _ g = absurd (none-some t (sym g))

-- such a byte is passed
pub sign_step : (text : List ℕ) (at : ℕ) (t : Option IcuToken) (old new : Before)
    → at < length text → IsIcuBetween text at → is_white (slice_index text at) ≡ false
    → IsIcuSign text at (slice_index text at) t → t ≡ icu_sign at (slice_index text at)
    → IsBefore text at old → new.has_ended ≡ old.has_ended
    → new.has_colon ≡ (slice_index text at == colon || old.has_colon)
    → IsIcuStep text at (record { token = t; before = new; end = at + 1 })
sign_step text at t old new fits between dark sign is before ended behind =
    let b = slice_index text at in
    let later : suc at ≡ at + 1 = omega arith in
    let alone = sign_alone text at sign.other in
    let plain = no_string text at (open_mode (icu_mode_at text at) between.tokens) alone in
    subst (λ n. IsIcuStep text at (record { token = t; before = new; end = n })) later
    (record {
      more = omega arith;
      passes = one_token text at t fits between.tokens (sign.token alone);
      inside = subst (IsIn text) (sym is) (sign_inside text at b).0;
      begins = subst (BeginsAt at) (sym is) (sign_inside text at b).1;
      before = λ _. record {
        ended = ended ∙ before.ended ∙ sym (ended_same text at plain (dark_no_end b dark));
        colon = behind ∙ ap (λ c. b == colon || c) before.colon
            ∙ sym (colon_byte text at plain between.tokens);
      };
      between = λ _. between_behind text at (between.next ∙ ap As sign.stays) alone;
    })

-- bytes in quotes are passed
quoted_passes : (text : List ℕ) (from to : ℕ) → IsQuotedRest text from to
    → IcuPasses text from to None
quoted_passes text from to rest =
    up (λ k. IcuPasses text from k None) from to
    (still text from (omega (arith, rest.order, rest.fits))) rest.order
    (λ k low high so_far.
    then_quiet text from k (suc k) None so_far
    (one_silent text k (omega (arith, rest.fits))
    (quoted_mode (icu_mode_at text k) (rest.quoted k low high))))

-- a piece in quotes is passed
pub piece_step : (text : List ℕ) (at to : ℕ) → at < length text → IsIcuBetween text at
    → slice_index text at ≡ quote → IsQuotedRest text (at + 1) to
    → (b : Before) → b.has_ended ≡ false → b.has_colon ≡ false
    → IsIcuStep text at (record { token = Some (token.Piece at); before = b; end = to })
piece_step text at to fits between e rest b no_end no_colon =
    let later : suc at ≡ at + 1 = omega arith in
    let last = to - 1 in
    record {
      more = omega (arith, rest.order);
      passes = then_quiet text at (at + 1) to (Some (token.Piece at))
          (subst (λ n. IcuPasses text at n (Some (token.Piece at))) later
          (one_token text at (Some (token.Piece at)) fits between.tokens
          (ap (icu_token_of text at) e)))
          (quoted_passes text (at + 1) to rest);
      inside = fits;
      begins = refl;
      before = λ lt.
          let (more, quotes, closes) = rest.ends lt in
          let is : suc last ≡ to = omega (arith, more) in
          let string : is_in_string text last ≡ true =
          ap (λ q. q || is_in_word text last)
          (rest.quoted last (omega (arith, more)) (omega (arith, more))) in
          subst (λ n. IsBefore text n b) is (record {
            ended = no_end ∙ sym (ends_none text last string);
            colon = no_colon ∙ sym (colon_none text last string);
          });
      between = λ lt.
          let (more, quotes, closes) = rest.ends lt in
          let is : suc last ≡ to = omega (arith, more) in
          subst (IsIcuBetween text) is
          (between_behind text last
          (ap (λ m. icu_mode_behind m (slice_index text last)) quotes.mode
          ∙ ap (icu_mode_behind (As modes.Quotes)) closes)
          (silent_word text last (ap has_icu_tokens quotes.mode)));
    }

-- what is quiet is passed
pub quiet_step : (text : List ℕ) (at end : ℕ) (b : Before) → IsIcuQuiet text at end
    → IsBefore text end b
    → IsIcuStep text at (record { token = None; before = b; end = end })
quiet_step text at end b quiet before = record {
  more = quiet.more;
  passes = quiet.passes;
  inside = tt;
  begins = tt;
  before = λ _. before;
  between = quiet.between;
}

-- what stands before a place stands before the token that begins there
pub before_some : (text : List ℕ) (at : ℕ) (t : Option IcuToken) (b : Before) → BeginsAt at t
    → IsBefore text at b → IsBeforeSome text t b
before_some text at None b e h = tt
before_some text at (Some (token.Piece n)) b e h = subst (λ k. IsBefore text k b) (sym e) h
before_some text at (Some (token.Word from to)) b e h = subst (λ k. IsBefore text k b) (sym e) h
before_some text at (Some (token.Open n)) b e h = tt
before_some text at (Some token.Close) b e h = tt
before_some text at (Some token.Comma) b e h = tt
