-- Comments, and slashes that begin none.
use Rattle.std.proofs.Common.{◌≡◌, ◌∙◌, ℕ, suc, ◌+◌, ◌-◌, ◌<◌, ◌≤◌, Bool, true, false}
use Rattle.std.proofs.Common.{◌==◌, List, [], length, refl, sym, ap, subst, arith, eqb-true}
use Rattle.std.proofs.Common.{None, inl, inr}
use Rattle.std.specs.Prelude.{slice_index, if◌then◌else◌, ◌⊎◌}
use Rattle.std.proofs.lemmas.Bool.{cases_lt}
use Rattle.resb_diagnostics.specs.Braces.{mode_at, mode_behind, behind_token, behind_block}
use Rattle.resb_diagnostics.specs.Braces.{has_tokens}
use Rattle.resb_diagnostics.specs.Pieces.{token_at, word_start}
use Rattle.resb_diagnostics.specs.Inner.Tokens.{IsBetween, IsQuiet, Passes, IsLineRest}
use Rattle.resb_diagnostics.specs.Inner.Tokens.{IsBlockRest}
use Rattle.resb_diagnostics.specs.declared.braces.Mode.{Mode}
use Rattle.resb_diagnostics.specs.declared.braces.Mode.TheVariants as modes
use Rattle.resb_grammar.specs.ByteRuns.{is_word}
use Rattle.resb_grammar.specs.Lexical.{Closer}
use Rattle.resb_grammar.specs.Ascii.{slash, star, line_feed}
use Rattle.resb_diagnostics.proofs.Passing.{up, one_token, one_silent, further, between_behind}

-- behind a slash among tokens
behind_slash : (text : List ℕ) (at : ℕ) → at < length text → IsBetween text at
    → slice_index text at ≡ slash
    → (mode_at text (suc at) ≡ modes.Slash) × Passes text at (suc at) [] None
behind_slash text at fits between e = (
  between.among.next ∙ ap behind_token e,
  one_token text at None fits between.among.tokens (ap (token_at text at) e),
)

pub last_slash : (text : List ℕ) (at : ℕ) → at + 1 ≡ length text → IsBetween text at
    → slice_index text at ≡ slash → IsQuiet text at (at + 1)
last_slash text at last between e =
    let (mode, passes) = behind_slash text at (omega arith) between e in
    let next : suc at ≡ at + 1 = omega arith in
    subst (λ n. IsQuiet text at n) next
    (record { more = omega arith; passes = passes; between = λ lt. absurd (omega (arith, lt)) })

-- a slash with no comment
pub lone_slash : (text : List ℕ) (at : ℕ) → at < length text → IsBetween text at
    → slice_index text at ≡ slash → (slice_index text (at + 1) == slash) ≡ false
    → (slice_index text (at + 1) == star) ≡ false → IsQuiet text at (at + 1)
lone_slash text at fits between e f g =
    let (mode, passes) = behind_slash text at fits between e in
    let next : suc at ≡ at + 1 = omega arith in
    let b = slice_index text (suc at) in
    let f' : (b == slash) ≡ false = ap (λ n. slice_index text n == slash) next ∙ f in
    let g' : (b == star) ≡ false = ap (λ n. slice_index text n == star) next ∙ g in
    subst (λ n. IsQuiet text at n) next
    (record {
      more = omega arith;
      passes = passes;
      between = λ _. record {
        among = record {
          tokens = ap has_tokens mode;
          next = ap (λ m. mode_behind m b) mode
              ∙ ap (λ s. if s then modes.LineComment
              else (if b == star then modes.BlockComment else behind_token b)) f'
              ∙ ap (λ s. if s then modes.BlockComment else behind_token b) g';
        };
        word = λ _. ap (λ c. if is_word c then word_start text at else suc at) e;
      };
    })

-- a comment begins with two bytes
comment_opens : (text : List ℕ) (at c : ℕ) (m : Mode) → at + 1 < length text → IsBetween text at
    → slice_index text at ≡ slash → slice_index text (at + 1) ≡ c → mode_behind modes.Slash c ≡ m
    → token_at text (suc at) c ≡ None
    → (mode_at text (suc (suc at)) ≡ m) × Passes text at (suc (suc at)) [] None
comment_opens text at c m fits between e f behind not_so =
    let (mode, passes) = behind_slash text at (omega arith) between e in
    let next : suc at ≡ at + 1 = omega arith in
    let f' : slice_index text (suc at) ≡ c = ap (slice_index text) next ∙ f in (
      ap (λ k. mode_behind k (slice_index text (suc at))) mode
          ∙ ap (mode_behind modes.Slash) f' ∙ behind,
      further text at (suc at) [] passes
          (one_token text (suc at) None (omega arith) (ap has_tokens mode)
          (ap (token_at text (suc at)) f' ∙ not_so)),
    )

-- in a comment of a line, that began at a place
record InLine (text : List ℕ) (at k : ℕ) : Type 0 where
  pub mode : mode_at text k ≡ modes.LineComment
  pub passes : Passes text at k [] None

line_step : (text : List ℕ) (at k : ℕ) → k < length text → InLine text at k
    → (slice_index text k == line_feed) ≡ false → InLine text at (suc k)
line_step text at k fits so_far not_so = record {
  mode = ap (λ m. mode_behind m (slice_index text k)) so_far.mode
      ∙ ap (λ b. if b then modes.Tokens else modes.LineComment) not_so;
  passes = further text at k [] so_far.passes
      (one_silent text k modes.LineComment fits so_far.mode refl refl);
}

pub line_comment : (text : List ℕ) (at to : ℕ) → at + 1 < length text → IsBetween text at
    → slice_index text at ≡ slash → slice_index text (at + 1) ≡ slash
    → IsLineRest text (at + 2) to → IsQuiet text at to
line_comment text at to fits between e f rest = by (cases_lt (suc (suc at)) to)
  where
    start : InLine text at (suc (suc at))
    start =
        let (mode, passes) =
        comment_opens text at slash modes.LineComment fits between e f refl refl in
        record { mode = mode; passes = passes }

    by : (suc (suc at) < to) ⊎ (to ≤ suc (suc at)) → IsQuiet text at to
    by (inr le) =
        let is : suc (suc at) ≡ to = omega (arith, rest.order) in record {
          more = omega (arith, rest.order);
          passes = subst (λ n. Passes text at n [] None) is start.passes;
          between = λ lt. absurd (omega (arith, (rest.ends lt).0));
        }
    by (inl lt) =
        let k = to - 1 in
        let is : suc k ≡ to = omega arith in
        let last : InLine text at k =
        up (InLine text at) (suc (suc at)) k start (omega arith)
        (λ j low high so_far. line_step text at j (omega (arith, rest.fits)) so_far
        (rest.none j (omega arith) (omega arith))) in record {
          more = omega arith;
          passes = subst (λ n. Passes text at n [] None) is
              (further text at k [] last.passes
              (one_silent text k modes.LineComment (omega (arith, rest.fits)) last.mode refl refl));
          between = λ more.
              let feed : slice_index text k ≡ line_feed = (rest.ends more).1 in
              subst (IsBetween text) is (between_behind text k
              (ap (λ m. mode_behind m (slice_index text k)) last.mode
              ∙ ap (mode_behind modes.LineComment) feed) (ap is_word feed));
        }

-- in a comment of stars, that began at a place: behind a star or not
data BlockMode (text : List ℕ) (from k : ℕ) : Type 0 where
  inner : mode_at text k ≡ modes.BlockComment → BlockMode text from k
  starred : mode_at text k ≡ modes.Star → (j : ℕ) → from ≤ j → k ≡ suc j
      → slice_index text j ≡ star → BlockMode text from k

record InBlock (text : List ℕ) (at k : ℕ) : Type 0 where
  pub mode : BlockMode text (at + 2) k
  pub passes : Passes text at k [] None

silent : (text : List ℕ) (from k : ℕ) → k < length text → BlockMode text from k
    → Passes text k (suc k) [] None
silent text from k fits (inner e) = one_silent text k modes.BlockComment fits e refl refl
silent text from k fits (starred e j low is s) = one_silent text k modes.Star fits e refl refl

-- a byte behind which the comment goes on
mode_step : (text : List ℕ) (from k : ℕ) → from ≤ k
    → ((j : ℕ) → from ≤ j → k ≡ suc j → Closer text j → ⊥)
    → BlockMode text from k → BlockMode text from (suc k)
mode_step text from k low not_so (inner e) = by (slice_index text k == star) refl
  where
    by : (b : Bool) → (slice_index text k == star) ≡ b → BlockMode text from (suc k)
    by true f =
        starred (ap (λ m. mode_behind m (slice_index text k)) e
        ∙ ap (λ b. if b then modes.Star else modes.BlockComment) f) k low refl
        (eqb-true (slice_index text k) star f)
    by false f =
        inner (ap (λ m. mode_behind m (slice_index text k)) e
        ∙ ap (λ b. if b then modes.Star else modes.BlockComment) f)
mode_step text from k low not_so (starred e j le is s) =
    by (slice_index text k == slash) refl (slice_index text k == star) refl
  where
    behind : (c d : Bool) → (slice_index text k == slash) ≡ c → (slice_index text k == star) ≡ d
        → mode_at text (suc k)
        ≡ (if c then modes.Tokens else (if d then modes.Star else modes.BlockComment))
    behind c d f g =
        ap (λ m. mode_behind m (slice_index text k)) e
        ∙ ap (λ b. if b then modes.Tokens else behind_block (slice_index text k)) f
        ∙ ap (λ b. if c then modes.Tokens else (if b then modes.Star else modes.BlockComment)) g

    by : (c : Bool) → (slice_index text k == slash) ≡ c → (d : Bool)
        → (slice_index text k == star) ≡ d → BlockMode text from (suc k)
    by true f d g =
        let slash_there : slice_index text (j + 1) ≡ slash =
        ap (slice_index text) (omega arith) ∙ eqb-true (slice_index text k) slash f in
        absurd (not_so j le is (record { star = s; slash = slash_there }))
    by false f true g =
        starred (behind false true f g) k low refl (eqb-true (slice_index text k) star g)
    by false f false g = inner (behind false false f g)

star_behind : (text : List ℕ) (from k : ℕ) → slice_index text k ≡ star → BlockMode text from k
    → mode_at text (suc k) ≡ modes.Star
star_behind text from k s (inner e) =
    ap (λ m. mode_behind m (slice_index text k)) e ∙ ap (mode_behind modes.BlockComment) s
star_behind text from k s (starred e j low is t) =
    ap (λ m. mode_behind m (slice_index text k)) e ∙ ap (mode_behind modes.Star) s

pub block_comment : (text : List ℕ) (at to : ℕ) → at + 1 < length text → IsBetween text at
    → slice_index text at ≡ slash → slice_index text (at + 1) ≡ star
    → IsBlockRest text (at + 2) to → IsQuiet text at to
block_comment text at to fits between e f rest = by (cases_lt (suc (suc at)) to)
  where
    start : InBlock text at (suc (suc at))
    start =
        let (mode, passes) =
        comment_opens text at star modes.BlockComment fits between e f refl refl in
        record { mode = inner mode; passes = passes }

    inside : (k : ℕ) → at + 2 ≤ k → k < to → InBlock text at k
    inside k low high =
        up (InBlock text at) (suc (suc at)) k start (omega arith)
        (λ j le lt so_far. record {
          mode = mode_step text (at + 2) j (omega arith)
              (λ i less is closer. rest.none i less (omega arith) closer) so_far.mode;
          passes = further text at j [] so_far.passes
              (silent text (at + 2) j (omega (arith, rest.fits)) so_far.mode);
        })

    by : (suc (suc at) < to) ⊎ (to ≤ suc (suc at)) → IsQuiet text at to
    by (inr le) =
        let is : suc (suc at) ≡ to = omega (arith, rest.order) in record {
          more = omega (arith, rest.order);
          passes = subst (λ n. Passes text at n [] None) is start.passes;
          between = λ lt. absurd (omega (arith, (rest.ends lt).0));
        }
    by (inl lt) =
        let k = to - 1 in
        let is : suc k ≡ to = omega arith in
        let last : InBlock text at k = inside k (omega arith) (omega arith) in record {
          more = omega arith;
          passes = subst (λ n. Passes text at n [] None) is
              (further text at k [] last.passes
              (silent text (at + 2) k (omega (arith, rest.fits)) last.mode));
          between = λ more.
              let (low, closer) = rest.ends more in
              let j = to - 2 in
              let next : suc j ≡ k = omega arith in
              let starred_there : mode_at text (suc j) ≡ modes.Star =
              star_behind text (at + 2) j closer.star (inside j (omega arith) (omega arith)).mode in
              let mode : mode_at text k ≡ modes.Star =
              ap (mode_at text) (sym next) ∙ starred_there in
              let is_slash : slice_index text k ≡ slash =
              ap (slice_index text) (omega arith) ∙ closer.slash in
              subst (IsBetween text) is (between_behind text k
              (ap (λ m. mode_behind m (slice_index text k)) mode
              ∙ ap (mode_behind modes.Star) is_slash) (ap is_word is_slash));
        }
