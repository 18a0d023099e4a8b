-- What stands before the root's items: where it leads to, and where it is refused.
use Rattle.std.proofs.Common.{◌≡◌, ◌≢◌, ℕ, Bool, true, false, List, refl, sym, ap, subst}
use Rattle.std.proofs.Common.{arith, Some, None, inl, inr, ⊎_elim}
use Rattle.std.specs.Prelude.{◌⊎◌, ◌==◌, slice_index, Result, Ok, Err, IfErr, if◌then◌else◌}
use Rattle.std.proofs.lemmas.Bool.Decides.{nat_tests}
use Rattle.resb_grammar.specs.Ascii as ascii
use Rattle.resb_grammar.specs.Lexical.{Skip, Text}
use Rattle.resb_grammar.specs.GroupTypes.{RootType}
use Rattle.resb_grammar.specs.BundleText.{Typing, without, with}
use Rattle.resb_grammar.specs.Machine.{a_text, a_root_type, State, start, named, titled}
use Rattle.resb_grammar.specs.Stuck.{expectation, NoToken, IsEnd, HasDigits, Stuck}
use Rattle.resb_grammar.specs.Stuck.{blocked}
use Rattle.resb_grammar.specs.Limit.{Makes}
use Rattle.resb_grammar.specs.declared.limit.Weights.{Weights}
use Rattle.resb_text.specs.Refusal.{want_of_memory}
use Rattle.resb_text.specs.Answer.{Fails, IsNoBundle}
use Rattle.resb_grammar.proofs.GrammarLaws.{stuck_none}
use Rattle.resb_text.specs.Inner.Failing.{StuckAfter, HeaderFails}
use Rattle.resb_text.specs.Inner.Steps.{HasBundleName, TypingFails}
use Rattle.resb_grammar.specs.declared.expected.Expected.{Expected}
use Rattle.resb_grammar.specs.declared.expected.Expected.TheVariants as expect
use Rattle.resb_text.specs.declared.error.TextParserError.{TextParserError}
use Rattle.resb_grammar.proofs.Making.{reading_of, makes_none, makes_on}
use Rattle.resb_grammar.proofs.Moves.{none_some, root_colon}
use Rattle.resb_grammar.proofs.Numbers.{plus_no_bytes}
use Rattle.resb_text.proofs.NoTokens.{no_token}

-- the refusal of a place, where this was expected
abbrev pub error_at : ℕ → Expected → TextParserError
error_at at x = record { position = at; expected = x }

-- a token with a content that leads nowhere
pub nowhere : {A B : Type 0} (P : A → B → Type 0) (a : A) (b : B) (u : State) → P a b
    → None ≡ Some u → ⊥
nowhere P a b u h = none_some u

-- a mark that leads nowhere
pub no_mark : {P : Type 0} (u : State) → P → None ≡ Some u → ⊥
no_mark u h = none_some u

module _ (text : List ℕ) where
  -- no token stands there, and this was expected
  pub stuck_in : {w : Weights} {n : ℕ} (at : ℕ) (s : State) (x : Expected) → Makes w text n at s
      → NoToken text at s → (IsEnd text at s → ⊥) → (HasDigits text at s → ⊥)
      → x ≡ expectation s (slice_index text at) → StuckAfter w text n (error_at at x)
  stuck_in {n} at s x made none no_end no_digits is = record {
    state = s;
    made = made;
    none = none;
    stuck =
        subst (λ (y : Expected). Stuck text at y) (sym is) (blocked s (record {
          reached = reading_of text n at s made;
          none = none;
          no_end = no_end;
          no_digits = no_digits;
        }));
  }

  -- the text begins with no name
  pub no_name : (at : ℕ) → Skip text 0 at → ((to : ℕ) (s : List ℕ) → Text text at to s → ⊥)
      → HeaderFails text (error_at at expect.Text)
  no_name at skip never w =
      stuck_in at start expect.Text (makes_none w text at skip)
      (no_token text at start (λ to w u is e. never to w is) (nowhere _) no_mark no_mark no_mark
      (nowhere _) (nowhere _)) (λ h. h) (λ h. h) refl

  -- nothing is made up to what follows the name
  pub name_made : (w : Weights) (name : List ℕ) (to : ℕ) → HasBundleName text name to
      → Makes w text 0 to (named name)
  name_made w name to h =
      makes_on text 0 0 h.start h.ends to start (named name) (a_text name)
      (makes_none w text h.start h.before) refl h.named refl h.after

  -- no type of a root after a `:`
  pub no_root_type : (at : ℕ) → slice_index text at ≡ ascii.colon
      → ((to : ℕ) (fallback : Bool) → RootType text at to fallback → ⊥)
      → TypingFails text at (error_at at expect.TypeName)
  no_root_type at colon never w name n made =
      stuck_in at (named name) expect.TypeName made
      (no_token text at (named name) (nowhere _) (nowhere _)
      (λ u is e. absurd (omega (arith, is, colon))) no_mark no_mark (nowhere _)
      (λ to f u is e. never to f is)) (λ h. h) (λ h. h) (sym (ap (expectation (named name)) colon))

  brace_expected : (b : ℕ) → b ≢ ascii.colon
      → expect.LeftBrace ≡ (if b == ascii.colon then expect.TypeName else expect.LeftBrace)
  brace_expected b ne =
      let no : (b == ascii.colon) ≡ false = grind (arith, nat_tests) in
      sym (ap (λ k. if k then expect.TypeName else expect.LeftBrace) no)

  -- no `{` where one must stand
  pub no_open : {w : Weights} (n : ℕ) (name : List ℕ) (place brace : ℕ) (f : Bool)
      → Makes w text n place (named name) → Typing text place brace f
      → (brace ≡ place → slice_index text place ≢ ascii.colon)
      → slice_index text brace ≢ ascii.left_brace
      → StuckAfter w text n (error_at brace expect.LeftBrace)
  no_open {w} n name place brace true made (without e) plain never =
      stuck_in brace (named name) expect.LeftBrace
      (subst (λ k. Makes w text n k (named name)) e made)
      (no_token text brace (named name) (nowhere _) (nowhere _) (λ u is e. never is) no_mark no_mark
      (nowhere _) (λ to f u is e. colon_free (root_colon text brace to f is)))
      (λ h. h) (λ h. h) (brace_expected (slice_index text brace) colon_free)
    where
      colon_free : slice_index text brace ≢ ascii.colon
      colon_free = subst (λ n. slice_index text n ≢ ascii.colon) e (plain (sym e))
  no_open n name place brace f made (with i _ t skip) plain never =
      let titles : State = titled (record { name = name; fallback = f }) in
      stuck_in brace titles expect.LeftBrace
      (makes_on text n n place i brace (named name) titles (a_root_type f) made (plus_no_bytes n) t
      refl skip)
      (no_token text brace titles (nowhere _) (nowhere _)
      (λ u is e. never is) no_mark no_mark (nowhere _) (nowhere _)) (λ h. h) (λ h. h) refl

  -- what fails for another reason than memory is no bundle
  pub fails_no_bundle : (e : TextParserError) → Fails text e
      → (e ≡ want_of_memory) ⊎ IsNoBundle text
  fails_no_bundle e h =
      ⊎_elim (λ (m : e ≡ want_of_memory). inl m)
      (λ (s : Stuck text e.position e.expected). inr (stuck_none text e.position e.expected s)) h

  -- so it is of an answer
  pub no_bundle_if_fails : {T : Type 0} (r : Result T TextParserError) → IfErr r (Fails text)
      → IfErr r (λ e. (e ≡ want_of_memory) ⊎ IsNoBundle text)
  no_bundle_if_fails (Ok x) h = tt
  no_bundle_if_fails (Err e) h = fails_no_bundle e h
