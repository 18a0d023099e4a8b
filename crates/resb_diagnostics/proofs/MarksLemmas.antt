-- How far the bytes of a text were looked at, a byte further.
use Rattle.std.proofs.Common.{◌≡◌, ◌≢◌, ℕ, zero, suc, pred, ◌+◌, ◌≤◌, ◌<◌, Bool, true, false}
use Rattle.std.proofs.Common.{List, eqb-true}
use Rattle.std.proofs.lemmas.Bool.{false≢true}
use Rattle.std.proofs.lemmas.Bool.Decides.{nat_tests}
use Rattle.std.proofs.Common.{◌++◌, ◌∷◌, [], Option, Some, None, refl, sym, ◌∙◌, ap, arith, subst}
use Rattle.std.proofs.Common.{append_assoc}
use Rattle.std.specs.Prelude.{◌==◌, ◌&&◌, ◌||◌, not, slice_index, if◌then◌else◌}
use Rattle.resb_grammar.specs.Ascii.{left_brace, right_brace}
use Rattle.resb_diagnostics.specs.Braces.{depth_behind, icu_form, mode_in}
use Rattle.resb_diagnostics.specs.IcuMarks.{icu_marked, escape_mark, has_more, is_behind_root}
use Rattle.resb_diagnostics.specs.IcuMarks.{behind_at, is_of_token, closes_piece, mixed_mark}
use Rattle.resb_diagnostics.specs.IcuMarks.{marked_behind}
use Rattle.resb_diagnostics.specs.Warnings.{warning_at}
use Rattle.resb_diagnostics.specs.IcuWarnings.{and_one}
use Rattle.resb_diagnostics.specs.Inner.Marks.{IsMarkedTo}
use Rattle.resb_diagnostics.specs.declared.braces.IcuMode.{IcuMode}
use Rattle.resb_diagnostics.specs.declared.icu_marks.Marks.{Marks}
use Rattle.resb_diagnostics.specs.declared.warning.Reason.TheVariants as reason
use Rattle.resb_diagnostics.specs.declared.warning.Warning.{Warning}

-- no byte opens more than one brace
depth_low : (t : Bool) (b d n : ℕ) → d ≤ n → depth_behind t b d ≤ n + 1
depth_low false b d n l = omega (arith, l)
depth_low true b d n l = by (b == left_brace) (b == right_brace)
  where
    by : (x y : Bool) → (if x then suc d else (if y then pred d else d)) ≤ n + 1
    by true y = let more : suc d ≤ n + 1 = omega (arith, l) in more
    by false true = less d l
      where
        less : (k : ℕ) → k ≤ n → pred k ≤ n + 1
        less zero h = omega arith
        less (suc k) h = omega (arith, h)
    by false false = let same : d ≤ n + 1 = omega (arith, l) in same

marked_on : (text : List ℕ) (at b d : ℕ) (m : Marks) (mode : IcuMode) (e p : Bool)
    → IsMarkedTo text at m → b ≡ slice_index text at → mode ≡ icu_form.behind m.mode b
    → d ≡ depth_behind (icu_form.has_tokens m.mode) b m.depth
    → e ≡ (m.has_ended || ((icu_form.has_tokens m.mode && b == 125) && m.depth == 1))
    → p ≡ (closes_piece m.mode b || (m.has_piece && not (is_of_token m.mode b)))
    → IsMarkedTo text (suc at) (record {
      mode = mode;
      depth = d;
      has_ended = e;
      has_piece = p;
    })
marked_on text at b d m mode e p is s f g h l = record {
  mode = f ∙ (λ i. icu_form.behind (is.mode i) (s i));
  depth = g ∙ (λ i. depth_behind (icu_form.has_tokens (is.mode i)) (s i) (is.depth i));
  low = omega (arith, g, depth_low (icu_form.has_tokens m.mode) b m.depth at is.low);
  ended = h ∙ (λ i. is.ended i || ((icu_form.has_tokens (is.mode i) && s i == 125)
      && is.depth i == 1));
  piece = l ∙ (λ i. closes_piece (is.mode i) (s i)
      || (is.piece i && not (is_of_token (is.mode i) (s i))));
}

-- what is kept of one byte more
pub marked_next : (text : List ℕ) (at b d : ℕ) (m : Marks) (mode : IcuMode) (e p : Bool)
    → IsMarkedTo text at m → b ≡ slice_index text at → mode ≡ icu_form.behind m.mode b
    → d ≡ depth_behind (icu_form.has_tokens m.mode) b m.depth
    → e ≡ (m.has_ended || ((icu_form.has_tokens m.mode && b == 125) && m.depth == 1))
    → p ≡ (closes_piece m.mode b || (m.has_piece && not (is_of_token m.mode b)))
    → IsMarkedTo text (at + 1) (record {
      mode = mode;
      depth = d;
      has_ended = e;
      has_piece = p;
    })
marked_next text at b d m mode e p is s f g h l =
    let next : suc at ≡ at + 1 = omega arith in
    subst (λ n. IsMarkedTo text n (record {
      mode = mode;
      depth = d;
      has_ended = e;
      has_piece = p;
    })) next (marked_on text at b d m mode e p is s f g h l)

and_one_behind : (xs ws : List Warning) (o : Option Warning)
    → and_one (xs ++ ws) o ≡ xs ++ and_one ws o
and_one_behind xs ws None = refl
and_one_behind xs ws (Some w) = append_assoc xs ws (w ∷ [])

-- what is taken where a test holds, and where it doesn't
then_is : {A : Type 0} (b : Bool) (x y : A) → b ≡ true → (if b then x else y) ≡ x
then_is true x y e = refl
then_is false x y e = absurd (false≢true e)

else_is : {A : Type 0} (b : Bool) (x y : A) → b ≡ false → (if b then x else y) ≡ y
else_is true x y e = absurd (false≢true (sym e))
else_is false x y e = refl

-- what is found of one byte more
pub found_next : (text : List ℕ) (at b : ℕ) (m : Marks)
    (old before first after : List Warning) (o q : Option Warning) → IsMarkedTo text at m
    → has_more text at ≡ false → is_behind_root text at ≡ false
    → b ≡ slice_index text at → before ≡ old ++ icu_marked text at → o ≡ escape_mark m.mode at b
    → first ≡ and_one before o → q ≡ mixed_mark text at → after ≡ and_one first q
    → after ≡ old ++ icu_marked text (at + 1)
found_next text at b m old before first after o q is none front s f g h w z =
    let one : o ≡ escape_mark _ at (slice_index text at) =
    g ∙ (λ i. escape_mark (is.mode i) at (s i)) in
    let first_is : first
    ≡ old ++ and_one (icu_marked text at) (escape_mark _ at (slice_index text at)) =
    h ∙ (λ i. and_one (f i) (one i)) ∙ and_one_behind old (icu_marked text at) _ in
    let next : suc at ≡ at + 1 = omega arith in
    let marks : icu_marked text (suc at) ≡ and_one (and_one (icu_marked text at)
    (escape_mark _ at (slice_index text at))) (mixed_mark text at) =
    else_is (has_more text at) _ _ none ∙ else_is (is_behind_root text at) _ _ front in
    z ∙ (λ i. and_one (first_is i) (w i)) ∙ and_one_behind old _ _
    ∙ ap (λ ws. old ++ ws) (sym marks)
    ∙ ap (λ n. old ++ icu_marked text n) next

-- no text stands behind the root up to the next byte
pub none_next : (text : List ℕ) (at : ℕ) → has_more text at ≡ false
    → is_behind_root text at ≡ false → has_more text (at + 1) ≡ false
none_next text at none front =
    let next : suc at ≡ at + 1 = omega arith in
    ap (λ n. has_more text n) (sym next) ∙ ((λ i. none i || front i))

-- a place isn't before another one
data Later (at : ℕ) : ℕ → Type 0 where
  here : Later at at
  next : (n : ℕ) → Later at n → Later at (suc n)

later : (at n : ℕ) → at ≤ n → Later at n
later at zero l =
    let z : at ≡ zero = omega (arith, l) in subst (λ k. Later at k) z here
later at (suc n) l = by (at == suc n) refl (λ h. later at n h)
  where
    by : (b : Bool) → (at == suc n) ≡ b → (at ≤ n → Later at n) → Later at (suc n)
    by true e f = subst (λ k. Later at k) (eqb-true at (suc n) e) here
    by false e f =
        let other : at ≢ suc n = grind (arith, nat_tests, e) in
        next n (f (omega (arith, l, other)))

-- where text stands behind the root, it still does further on
more_stays : (text : List ℕ) (at n : ℕ) → Later at n → has_more text at ≡ true
    → has_more text n ≡ true
more_stays text at _ here e = e
more_stays text at _ (next n l) e =
    ap (λ b. b || is_behind_root text n) (more_stays text at n l e)

-- and no more is found then
marks_stay : (text : List ℕ) (at n : ℕ) → Later at n → has_more text at ≡ true
    → icu_marked text n ≡ icu_marked text at
marks_stay text at _ here e = refl
marks_stay text at _ (next n l) e =
    then_is (has_more text n) (icu_marked text n) (marked_behind text n (icu_marked text n))
    (more_stays text at n l e)
    ∙ marks_stay text at n l e

-- where none does, the whole front was looked at
pub none_behind : (text : List ℕ) (n : ℕ) → has_more text n ≡ false → behind_at text n ≡ n
none_behind text zero e = refl
none_behind text (suc n) e = else_is (has_more text (suc n)) (behind_at text n) (suc n) e

-- text behind the root begins where the first of it stands
behind_stays : (text : List ℕ) (at n : ℕ) → Later (suc at) n → has_more text at ≡ false
    → has_more text (suc at) ≡ true → behind_at text n ≡ at
behind_stays text at _ here none e =
    then_is (has_more text (suc at)) (behind_at text at) (suc at) e ∙ none_behind text at none
behind_stays text at _ (next n l) none e =
    then_is (has_more text (suc n)) (behind_at text n) (suc n)
    (more_stays text (suc at) (suc n) (next n l) e)
    ∙ behind_stays text at n l none e

-- so does all that is found, where it begins at a place
pub begins_behind : (text : List ℕ) (at n : ℕ) → has_more text at ≡ false
    → is_behind_root text at ≡ true → at < n → behind_at text n ≡ at
begins_behind text at n none front low =
    let more : has_more text (suc at) ≡ true = (λ i. none i || front i) in
    behind_stays text at n (later (suc at) n (omega (arith, low))) none more

pub found_behind : (text : List ℕ) (at n : ℕ) (old before after : List Warning)
    → has_more text at ≡ false → is_behind_root text at ≡ true → at < n
    → before ≡ old ++ icu_marked text at
    → after ≡ before ++ warning_at reason.TextBehind at ∷ [] → after ≡ old ++ icu_marked text n
found_behind text at n old before after none front low f z =
    let more : has_more text (suc at) ≡ true = (λ i. none i || front i) in
    let marks : icu_marked text (suc at)
    ≡ icu_marked text at ++ warning_at reason.TextBehind at ∷ [] =
    else_is (has_more text at) (icu_marked text at) (marked_behind text at (icu_marked text at)) none
    ∙ then_is (is_behind_root text at) (icu_marked text at ++ warning_at reason.TextBehind at ∷ [])
    (and_one (and_one (icu_marked text at)
    (escape_mark (mode_in icu_form text at) at (slice_index text at))) (mixed_mark text at)) front in
    let stays = marks_stay text (suc at) n (later (suc at) n (omega (arith, low))) more in
    z ∙ ap (λ ws. ws ++ warning_at reason.TextBehind at ∷ []) f
    ∙ append_assoc old (icu_marked text at) (warning_at reason.TextBehind at ∷ [])
    ∙ ap (λ ws. old ++ ws) (sym (stays ∙ marks))
