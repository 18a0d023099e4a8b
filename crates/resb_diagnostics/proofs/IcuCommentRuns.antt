-- Comments of a text of ICU's form.
use Rattle.std.proofs.Common.{◌≡◌, ◌∙◌, ℕ, suc, ◌+◌, ◌-◌, ◌<◌, ◌≤◌, Bool, true, false, ◌&&◌}
use Rattle.std.proofs.Common.{◌||◌, ◌==◌, List, length, refl, sym, ap, subst, arith, eqb-true}
use Rattle.std.proofs.Common.{Some, None, inl, inr}
use Rattle.std.specs.Prelude.{slice_index, not, if◌then◌else◌, ◌⊎◌}
use Rattle.std.proofs.lemmas.Bool.{cases_lt, false≢true}
use Rattle.resb_grammar.specs.Ascii.{slash, star, colon, line_feed, carriage_return}
use Rattle.resb_grammar.specs.ByteRuns.{is_line_end}
use Rattle.resb_grammar.specs.Lexical.{Closer}
use Rattle.resb_icu_grammar.specs.Unquoted.{begins_comment}
use Rattle.resb_diagnostics.specs.Braces.{behind_token, behind_block, icu_mode_behind}
use Rattle.resb_diagnostics.specs.Braces.{has_icu_tokens}
use Rattle.resb_diagnostics.specs.IcuWarnings.{is_icu_quoted, is_in_word, icu_word_start}
use Rattle.resb_diagnostics.specs.IcuWarnings.{icu_token_of}
use Rattle.resb_diagnostics.specs.Inner.IcuTokens.{icu_mode_at, IsIcuBetween, IcuPasses}
use Rattle.resb_diagnostics.specs.Inner.IcuTokens.{IsIcuQuiet, IsIcuLineRest, IsSilent}
use Rattle.resb_diagnostics.specs.Inner.Tokens.{IsBlockRest}
use Rattle.resb_diagnostics.specs.declared.braces.IcuMode.{IcuMode}
use Rattle.resb_diagnostics.specs.declared.braces.IcuMode.TheVariants.{As, BlockStart}
use Rattle.resb_diagnostics.specs.declared.braces.Mode.TheVariants as modes
use Rattle.resb_diagnostics.specs.declared.icu_tokens.IcuToken.TheVariants as token
use Rattle.resb_diagnostics.proofs.Passing.{up}
use Rattle.resb_diagnostics.proofs.IcuPassing.{one_token, one_silent, then_quiet, open_mode}
use Rattle.resb_diagnostics.proofs.IcuPassing.{more_silent, between_behind, silent_word}
use Rattle.resb_diagnostics.proofs.IcuPassing.{last_word, no_word, not_comment, no_string}
use Rattle.resb_diagnostics.proofs.IcuPassing.{other_colon, silent_colon}

-- a comment begins with a slash, and goes on with another one or with a star
pub begins_slash : (text : List ℕ) (at : ℕ) → begins_comment text at ≡ true
    → slice_index text at ≡ slash
begins_slash text at h = by (slice_index text at == slash) refl h
  where
    second : Bool
    second = slice_index text (at + 1) == slash || slice_index text (at + 1) == star

    by : (b : Bool) → (slice_index text at == slash) ≡ b → (b && second) ≡ true
        → slice_index text at ≡ slash
    by true e _ = eqb-true (slice_index text at) slash e
    by false _ i = absurd (false≢true i)

pub begins_star : (text : List ℕ) (at : ℕ) → begins_comment text at ≡ true
    → (slice_index text (at + 1) == slash) ≡ false → slice_index text (at + 1) ≡ star
begins_star text at h other =
    by (slice_index text at == slash) (slice_index text (at + 1) == slash) other
    (slice_index text (at + 1) == star) refl h
  where
    by : (a b : Bool) → b ≡ false → (c : Bool) → (slice_index text (at + 1) == star) ≡ c
        → (a && (b || c)) ≡ true → slice_index text (at + 1) ≡ star
    by a true e _ _ _ = absurd (false≢true (sym e))
    by a false _ true f _ = eqb-true (slice_index text (at + 1)) star f
    by true false _ false _ i = absurd (false≢true i)
    by false false _ false _ i = absurd (false≢true i)

-- a slash or a star that is none of a word is no token
slash_token : (text : List ℕ) (n : ℕ) → is_in_word text n ≡ false
    → icu_token_of text n slash ≡ None
slash_token text n h =
    ap (λ w. if w && not (is_in_word text (suc n))
    then Some (token.Word (icu_word_start text n) (n + 1)) else None) h

star_token : (text : List ℕ) (n : ℕ) → is_in_word text n ≡ false
    → icu_token_of text n star ≡ None
star_token text n h =
    ap (λ w. if w && not (is_in_word text (suc n))
    then Some (token.Word (icu_word_start text n) (n + 1)) else None) h

-- the way from a comment's first byte on, up to a place where the byte stands in this
record InComment (text : List ℕ) (at k : ℕ) (m : IcuMode) : Type 0 where
  pub mode : icu_mode_at text k ≡ m
  pub passes : IcuPasses text at k None
  pub silence : IsSilent text at k

-- a byte more, that is no token
silent_more : (text : List ℕ) (at k : ℕ) (m n : IcuMode) → k < length text
    → has_icu_tokens m ≡ false → is_icu_quoted m ≡ false
    → icu_mode_behind m (slice_index text k) ≡ n → InComment text at k m
    → InComment text at (suc k) n
silent_more text at k m n fits no_tokens plain behind so_far =
    let silent = ap has_icu_tokens so_far.mode ∙ no_tokens in record {
      mode = ap (λ i. icu_mode_behind i (slice_index text k)) so_far.mode ∙ behind;
      passes = then_quiet text at k (suc k) None so_far.passes (one_silent text k fits silent);
      silence = more_silent text at k so_far.silence
          (no_string text k (ap is_icu_quoted so_far.mode ∙ plain) (silent_word text k silent))
          (silent_colon text k silent);
    }

-- behind the slash with which a comment begins
behind_slash : (text : List ℕ) (at : ℕ) → at < length text → IsIcuBetween text at
    → begins_comment text at ≡ true → InComment text at (suc at) (As modes.Slash)
behind_slash text at fits between begins =
    let e = begins_slash text at begins in
    let other = no_word text at (not_comment text at begins) in record {
      mode = between.next ∙ ap (λ b. As (behind_token b)) e;
      passes = one_token text at None fits between.tokens
          (ap (icu_token_of text at) e ∙ slash_token text at other);
      silence = more_silent text at at (λ k low high. absurd (omega (arith, low, high)))
          (no_string text at (open_mode (icu_mode_at text at) between.tokens) other)
          (other_colon text at slash e refl);
    }

-- a comment begins with two bytes
comment_opens : (text : List ℕ) (at c : ℕ) (m : IcuMode) → at + 1 < length text
    → IsIcuBetween text at → begins_comment text at ≡ true → slice_index text (at + 1) ≡ c
    → icu_mode_behind (As modes.Slash) c ≡ m → has_icu_tokens m ≡ false
    → (is_in_word text (suc at) ≡ false → icu_token_of text (suc at) c ≡ None)
    → (c == colon) ≡ false → InComment text at (suc (suc at)) m
comment_opens text at c m fits between begins f behind silent not_so no_colon =
    let so_far = behind_slash text at (omega arith) between begins in
    let next : suc at ≡ at + 1 = omega arith in
    let f' : slice_index text (suc at) ≡ c = ap (slice_index text) next ∙ f in
    let mode : icu_mode_at text (suc (suc at)) ≡ m =
    ap (λ k. icu_mode_behind k (slice_index text (suc at))) so_far.mode
    ∙ ap (icu_mode_behind (As modes.Slash)) f' ∙ behind in
    let other = last_word text (suc at) (ap has_icu_tokens mode ∙ silent) in record {
      mode = mode;
      passes = then_quiet text at (suc at) (suc (suc at)) None so_far.passes
          (one_token text (suc at) None (omega arith) (ap has_icu_tokens so_far.mode)
          (ap (icu_token_of text (suc at)) f' ∙ not_so other));
      silence = more_silent text at (suc at) so_far.silence
          (no_string text (suc at) (ap is_icu_quoted so_far.mode) other)
          (other_colon text (suc at) c f' no_colon);
    }

-- a byte that ends no line keeps the comment going, and one that does ends it
line_on : (b : ℕ) → is_line_end b ≡ false
    → icu_mode_behind (As modes.LineComment) b ≡ As modes.LineComment
line_on b h = by (b == line_feed) refl (b == carriage_return) refl h
  where
    by : (f : Bool) → (b == line_feed) ≡ f → (r : Bool) → (b == carriage_return) ≡ r
        → (f || r) ≡ false
        → (if b == carriage_return then As modes.Tokens
        else As (if b == line_feed then modes.Tokens else modes.LineComment))
        ≡ As modes.LineComment
    by true _ r _ i = absurd (false≢true (sym i))
    by false _ true _ i = absurd (false≢true (sym i))
    by false e false g _ =
        ap (λ r. if r then As modes.Tokens
        else As (if b == line_feed then modes.Tokens else modes.LineComment)) g
        ∙ ap (λ f. As (if f then modes.Tokens else modes.LineComment)) e

-- a line end, by its two bytes
end_cases : (P : ℕ → Type 0) → P line_feed → P carriage_return → (b : ℕ)
    → is_line_end b ≡ true → P b
end_cases P feed return b h = by (b == line_feed) refl (b == carriage_return) refl h
  where
    by : (f : Bool) → (b == line_feed) ≡ f → (r : Bool) → (b == carriage_return) ≡ r
        → (f || r) ≡ true → P b
    by true e r _ _ = subst P (sym (eqb-true b line_feed e)) feed
    by false _ true e _ = subst P (sym (eqb-true b carriage_return e)) return
    by false _ false _ i = absurd (false≢true i)

pub line_comment : (text : List ℕ) (at to : ℕ) → at + 1 < length text → IsIcuBetween text at
    → begins_comment text at ≡ true → slice_index text (at + 1) ≡ slash
    → IsIcuLineRest text (at + 2) to → IsIcuQuiet text at to
line_comment text at to fits between begins f rest = by (cases_lt (suc (suc at)) to)
  where
    start : InComment text at (suc (suc at)) (As modes.LineComment)
    start = comment_opens text at slash (As modes.LineComment) fits between begins f refl refl
        (slash_token text (suc at)) refl

    by : (suc (suc at) < to) ⊎ (to ≤ suc (suc at)) → IsIcuQuiet text at to
    by (inr le) =
        let is : suc (suc at) ≡ to = omega (arith, rest.order) in record {
          more = omega (arith, rest.order);
          passes = subst (λ n. IcuPasses text at n None) is start.passes;
          silence = subst (IsSilent text at) is start.silence;
          between = λ lt. absurd (omega (arith, (rest.ends lt).0));
        }
    by (inl lt) =
        let k = to - 1 in
        let is : suc k ≡ to = omega arith in
        let last : InComment text at k (As modes.LineComment) =
        up (λ j. InComment text at j (As modes.LineComment)) (suc (suc at)) k start (omega arith)
        (λ j low high so_far.
        silent_more text at j (As modes.LineComment) (As modes.LineComment)
        (omega (arith, rest.fits)) refl refl
        (line_on (slice_index text j) (rest.none j (omega arith) (omega arith))) so_far) in
        let whole : InComment text at (suc k) (icu_mode_at text (suc k)) =
        silent_more text at k (As modes.LineComment) (icu_mode_at text (suc k))
        (omega (arith, rest.fits)) refl refl
        (ap (λ m. icu_mode_behind m (slice_index text k)) (sym last.mode)) last in record {
          more = omega arith;
          passes = subst (λ n. IcuPasses text at n None) is whole.passes;
          silence = subst (IsSilent text at) is whole.silence;
          between = λ more.
              let ends = (rest.ends more).1 in
              subst (IsIcuBetween text) is (between_behind text k
              (ap (λ m. icu_mode_behind m (slice_index text k)) last.mode
              ∙ end_cases (λ b. icu_mode_behind (As modes.LineComment) b ≡ As modes.Tokens) refl
              refl (slice_index text k) ends)
              (silent_word text k (ap has_icu_tokens last.mode)));
        }

-- in a comment of stars, that may end from a place on: behind a star or not
data InStars (text : List ℕ) (at from k : ℕ) : Type 0 where
  inner : InComment text at k (As modes.BlockComment) → InStars text at from k
  starred : InComment text at k (As modes.Star) → (j : ℕ) → from ≤ j → k ≡ suc j
      → slice_index text j ≡ star → InStars text at from k

-- a byte behind which the comment goes on
star_step : (text : List ℕ) (at from k : ℕ) → k < length text → from ≤ k
    → ((j : ℕ) → from ≤ j → k ≡ suc j → Closer text j → ⊥)
    → InStars text at from k → InStars text at from (suc k)
star_step text at from k fits low not_so (inner so_far) = by (slice_index text k == star) refl
  where
    by : (b : Bool) → (slice_index text k == star) ≡ b → InStars text at from (suc k)
    by true f =
        starred (silent_more text at k (As modes.BlockComment) (As modes.Star) fits refl refl
        (ap (λ b. As (if b then modes.Star else modes.BlockComment)) f) so_far) k low refl
        (eqb-true (slice_index text k) star f)
    by false f =
        inner (silent_more text at k (As modes.BlockComment) (As modes.BlockComment) fits refl refl
        (ap (λ b. As (if b then modes.Star else modes.BlockComment)) f) so_far)
star_step text at from k fits low not_so (starred so_far j le is s) =
    by (slice_index text k == slash) refl (slice_index text k == star) refl
  where
    behind : (c d : Bool) → (slice_index text k == slash) ≡ c → (slice_index text k == star) ≡ d
        → icu_mode_behind (As modes.Star) (slice_index text k)
        ≡ As (if c then modes.Tokens else (if d then modes.Star else modes.BlockComment))
    behind c d f g =
        ap (λ b. As (if b then modes.Tokens else behind_block (slice_index text k))) f
        ∙ ap (λ b. As (if c then modes.Tokens
        else (if b then modes.Star else modes.BlockComment))) g

    by : (c : Bool) → (slice_index text k == slash) ≡ c → (d : Bool)
        → (slice_index text k == star) ≡ d → InStars text at from (suc k)
    by true f d g =
        let slash_there : slice_index text (j + 1) ≡ slash =
        ap (slice_index text) (omega arith) ∙ eqb-true (slice_index text k) slash f in
        absurd (not_so j le is (record { star = s; slash = slash_there }))
    by false f true g =
        starred (silent_more text at k (As modes.Star) (As modes.Star) fits refl refl
        (behind false true f g) so_far) k low refl (eqb-true (slice_index text k) star g)
    by false f false g =
        inner (silent_more text at k (As modes.Star) (As modes.BlockComment) fits refl refl
        (behind false false f g) so_far)

-- the last byte, whatever stands there
stars_end : (text : List ℕ) (at from k : ℕ) → k < length text → InStars text at from k
    → InComment text at (suc k) (icu_mode_at text (suc k))
stars_end text at from k fits (inner so_far) =
    silent_more text at k (As modes.BlockComment) (icu_mode_at text (suc k)) fits refl refl
    (ap (λ m. icu_mode_behind m (slice_index text k)) (sym so_far.mode)) so_far
stars_end text at from k fits (starred so_far j low is s) =
    silent_more text at k (As modes.Star) (icu_mode_at text (suc k)) fits refl refl
    (ap (λ m. icu_mode_behind m (slice_index text k)) (sym so_far.mode)) so_far

star_behind : (text : List ℕ) (at from k : ℕ) → slice_index text k ≡ star
    → InStars text at from k → icu_mode_at text (suc k) ≡ As modes.Star
star_behind text at from k s (inner so_far) =
    ap (λ m. icu_mode_behind m (slice_index text k)) so_far.mode
    ∙ ap (icu_mode_behind (As modes.BlockComment)) s
star_behind text at from k s (starred so_far j low is t) =
    ap (λ m. icu_mode_behind m (slice_index text k)) so_far.mode
    ∙ ap (icu_mode_behind (As modes.Star)) s

-- a comment of which no more than its first two bytes stands there
pub bare_block : (text : List ℕ) (at : ℕ) → at + 2 ≡ length text → IsIcuBetween text at
    → begins_comment text at ≡ true → slice_index text (at + 1) ≡ star
    → IsIcuQuiet text at (at + 2)
bare_block text at last between begins f =
    let start = comment_opens text at star BlockStart (omega arith) between begins f refl refl
    (star_token text (suc at)) refl in
    let next : suc (suc at) ≡ at + 2 = omega arith in
    subst (IsIcuQuiet text at) next
    (record {
      more = omega arith;
      passes = start.passes;
      silence = start.silence;
      between = λ lt. absurd (omega (arith, lt));
    })

pub block_comment : (text : List ℕ) (at to : ℕ) → at + 2 < length text → IsIcuBetween text at
    → begins_comment text at ≡ true → slice_index text (at + 1) ≡ star
    → IsBlockRest text (at + 3) to → IsIcuQuiet text at to
block_comment text at to fits between begins f rest = by (cases_lt (suc (suc (suc at))) to)
  where
    start : InComment text at (suc (suc (suc at))) (As modes.BlockComment)
    start =
        silent_more text at (suc (suc at)) BlockStart (As modes.BlockComment) (omega arith) refl
        refl refl
        (comment_opens text at star BlockStart (omega arith) between begins f refl refl
        (star_token text (suc at)) refl)

    inside : (k : ℕ) → at + 3 ≤ k → k < to → InStars text at (at + 3) k
    inside k low high =
        up (InStars text at (at + 3)) (suc (suc (suc at))) k (inner start) (omega arith)
        (λ j le lt so_far.
        star_step text at (at + 3) j (omega (arith, rest.fits)) (omega arith)
        (λ i less is closer. rest.none i less (omega arith) closer) so_far)

    by : (suc (suc (suc at)) < to) ⊎ (to ≤ suc (suc (suc at))) → IsIcuQuiet text at to
    by (inr le) =
        let is : suc (suc (suc at)) ≡ to = omega (arith, rest.order) in record {
          more = omega (arith, rest.order);
          passes = subst (λ n. IcuPasses text at n None) is start.passes;
          silence = subst (IsSilent text at) is start.silence;
          between = λ lt. absurd (omega (arith, (rest.ends lt).0));
        }
    by (inl lt) =
        let k = to - 1 in
        let is : suc k ≡ to = omega arith in
        let whole =
        stars_end text at (at + 3) k (omega (arith, rest.fits))
        (inside k (omega arith) (omega arith)) in record {
          more = omega arith;
          passes = subst (λ n. IcuPasses text at n None) is whole.passes;
          silence = subst (IsSilent text at) is whole.silence;
          between = λ more.
              let (low, closer) = rest.ends more in
              let j = to - 2 in
              let next : suc j ≡ k = omega arith in
              let starred_there : icu_mode_at text (suc j) ≡ As modes.Star =
              star_behind text at (at + 3) j closer.star (inside j (omega arith) (omega arith)) in
              let mode : icu_mode_at text k ≡ As modes.Star =
              ap (icu_mode_at text) (sym next) ∙ starred_there in
              let is_slash : slice_index text k ≡ slash =
              ap (slice_index text) (omega arith) ∙ closer.slash in
              subst (IsIcuBetween text) is (between_behind text k
              (ap (λ m. icu_mode_behind m (slice_index text k)) mode
              ∙ ap (icu_mode_behind (As modes.Star)) is_slash)
              (silent_word text k (ap has_icu_tokens mode)));
        }
