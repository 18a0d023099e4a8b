-- Laws of types of groups that take a file in, and of those groups.
use Rattle.std.proofs.Common.{◌≡◌, ◌≢◌, ℕ, ◌+◌, Bool, true, false, List, [], ◌∷◌, ◌++◌, length}
use Rattle.std.proofs.Common.{arith, sym, refl, ap, ◌∙◌, subst, Some, None, drop, get_or}
use Rattle.std.proofs.Common.{◌⊎◌, ⊎_elim, inl, inr, if◌then◌else◌, ◌<◌, ◌==◌, ◌||◌, Option}
use Rattle.std.specs.List.{starts_with}
use Rattle.std.proofs.lemmas.Bool.{false≢true}
use Rattle.std.proofs.lemmas.List.{get_or-drop, get_or_past, length-append, length-drop}
use Rattle.std.proofs.lemmas.Slice.Eq.{starts_is}
use Rattle.std.specs.Option.{is_some}
use Rattle.std.proofs.lemmas.Bool.Decides.{Decides-eqb}
use Rattle.std.proofs.Math.ListN.{get_or-append}
use Rattle.memchr.specs.Find.{FindsNeedle, OccursAt}
use Rattle.std.proofs.lemmas.Bool.Decides.{nat_tests}
use Rattle.std.specs.Prelude.{slice_index, nat_eq}
use Rattle.resb_grammar.specs.Ascii as ascii
use Rattle.resb_grammar.specs.ByteRuns.{is_white, is_line_end}
use Rattle.resb_grammar.proofs.Lists.{nonzero_inside}
use Rattle.resb_icu_grammar.specs.Blanks.{Skip, Comment, Blanks, line, block, none, white}
use Rattle.resb_icu_grammar.specs.Blanks.{comment}
use Rattle.resb_icu_grammar.specs.Stuck.{NoStringAt}
use Rattle.resb_icu_grammar.specs.Words.{Text}
use Rattle.resb_icu_grammar.proofs.Lexical.{Skip-one, String-one}
use Rattle.resb_icu_files.specs.Ways.{stands_at, way_at, spelling, FileGroup, NoFileGroup}
use Rattle.resb_icu_files.specs.Ways.{may_precede}
use Rattle.resb_icu_files.specs.declared.way.Way.{Way}
use Rattle.resb_icu_files.specs.declared.way.Way.TheVariants as way

-- one type is spelt there
same_kind : (text : List ℕ) (at : ℕ) (kind other : Way) → way_at text at ≡ Some kind
    → way_at text at ≡ Some other → kind ≡ other
same_kind text at kind other e f = cc

-- a `:` and a type that takes a file in, with nothing but blanks between them and behind them
pub record Spelt (text : List ℕ) (at : ℕ) (kind : Way) (brace : ℕ) : Type 0 where
  pub place : ℕ
  pub behind : Skip text (at + 1) place
  pub spelt : way_at text place ≡ Some kind
  pub between : Skip text (place + length (spelling kind)) brace

-- what a group that takes a file in begins with
spelt_of : {text : List ℕ} {at : ℕ} {kind : Way} {brace last : ℕ} {name : List ℕ}
    → FileGroup text at kind brace last name → Spelt text at kind brace
spelt_of g = record {
  place = g.place;
  behind = g.behind;
  spelt = g.spelt;
  between = g.between;
}

-- what stands there, as it is found
pub spelt_there : (text all : List ℕ) (at place brace : ℕ) (kind : Way) (word : List ℕ)
    → all ≡ text → Skip text (at + 1) place → Some kind ≡ way_at all place
    → word ≡ spelling kind → Skip text (place + length word) brace → Spelt text at kind brace
spelt_there text all at place brace kind word same behind e w between = record {
  place = place;
  behind = behind;
  spelt = subst (λ l. way_at l place ≡ Some kind) same (sym e);
  between = subst (λ l. Skip text (place + length l) brace) w between;
}

-- no `:` stands there
pub no_colon : (text : List ℕ) (at : ℕ) → slice_index text at ≢ ascii.colon → NoFileGroup text at
no_colon text at n kind brace last name g = n g.colon

-- the type of a group that takes a file in stands in one place
one_place : (text : List ℕ) (at place brace' last' : ℕ) (kind' : Way) (name' : List ℕ)
    → Skip text (at + 1) place → (g : FileGroup text at kind' brace' last' name')
    → place ≡ g.place
one_place text at place brace' last' kind' name' s g =
    Skip-one text (at + 1) place g.place s g.behind

-- no type stands behind it
pub no_way : (text : List ℕ) (at place : ℕ) → Skip text (at + 1) place → way_at text place ≡ None
    → NoFileGroup text at
no_way text at place s unspelt kind' brace' last' name' g =
    let same = one_place text at place brace' last' kind' name' s g in
    let e : way_at text place ≡ Some kind' =
    subst (λ i. way_at text i ≡ Some kind') (sym same) g.spelt in
    cc

-- one type is spelt at one place behind it
one_kind : (text : List ℕ) (at brace brace' last' : ℕ) (kind kind' : Way) (name' : List ℕ)
    → (s : Spelt text at kind brace) → (g : FileGroup text at kind' brace' last' name')
    → (kind ≡ kind') × (s.place ≡ g.place)
one_kind text at brace brace' last' kind kind' name' s g =
    let same = one_place text at s.place brace' last' kind' name' s.behind g in (
      same_kind text g.place kind kind' (subst (λ i. way_at text i ≡ Some kind) same s.spelt)
          g.spelt,
      same,
    )

-- behind the type of a group that takes a file in stands one brace
one_brace : (text : List ℕ) (at brace brace' last' : ℕ) (kind kind' : Way) (name' : List ℕ)
    → Spelt text at kind brace → FileGroup text at kind' brace' last' name' → brace ≡ brace'
one_brace text at brace brace' last' kind kind' name' s g =
    let k = one_kind text at brace brace' last' kind kind' name' s g in
    let e : s.place + length (spelling kind) ≡ g.place + length (spelling kind') =
    λ x. k.1 x + length (spelling (k.0 x)) in
    Skip-one text (g.place + length (spelling kind')) brace brace'
    (subst (λ i. Skip text i brace) e s.between) g.between

-- no `{` stands behind the type
pub no_opening : (text : List ℕ) (at brace : ℕ) (kind : Way) → Spelt text at kind brace
    → slice_index text brace ≢ ascii.left_brace
    → NoFileGroup text at
no_opening text at brace kind s n kind' brace' last' name' g =
    let same = one_brace text at brace brace' last' kind kind' name' s g in
    n (ap (λ i. slice_index text i) same ∙ g.opens)

-- the name of a group that takes a file in stands in one place
one_start : (text : List ℕ) (at brace from brace' last' : ℕ) (kind kind' : Way) (name' : List ℕ)
    → Spelt text at kind brace
    → Skip text (brace + 1) from → (g : FileGroup text at kind' brace' last' name')
    → from ≡ g.from
one_start text at brace from brace' last' kind kind' name' s b g =
    let same = one_brace text at brace brace' last' kind kind' name' s g in
    Skip-one text (brace + 1) from g.from b
    (subst (λ (i : ℕ). Skip text (i + 1) g.from) (sym same) g.before)

-- no string stands behind the `{`
pub no_name : (text : List ℕ) (at brace from : ℕ) (kind : Way) → Spelt text at kind brace
    → Skip text (brace + 1) from
    → NoStringAt text from → NoFileGroup text at
no_name text at brace from kind s b n kind' brace' last' name' g =
    let same = one_start text at brace from brace' last' kind kind' name' s b g in
    n g.to name' (subst (λ (i : ℕ). Text text i g.to name') (sym same) g.names)

-- the string of a group that takes a file in has one end, and says one name
one_name : (text : List ℕ) (at brace from to brace' last' : ℕ) (kind kind' : Way)
    (name name' : List ℕ)
    → Spelt text at kind brace
    → Skip text (brace + 1) from → Text text from to name
    → (g : FileGroup text at kind' brace' last' name') → (to ≡ g.to) × (name ≡ name')
one_name text at brace from to brace' last' kind kind' name name' s b t g =
    let same = one_start text at brace from brace' last' kind kind' name' s b g in
    String-one text from to g.to name name' t
    (subst (λ (i : ℕ). Text text i g.to name') (sym same) g.names)

-- the `}` of a group that takes a file in stands in one place
one_last : (text : List ℕ) (at brace from to last brace' last' : ℕ) (kind kind' : Way)
    (name name' : List ℕ)
    → Spelt text at kind brace
    → Skip text (brace + 1) from → Text text from to name → Skip text to last
    → FileGroup text at kind' brace' last' name' → last ≡ last'
one_last text at brace from to last brace' last' kind kind' name name' s b t a g =
    let same = (one_name text at brace from to brace' last' kind kind' name name' s b t g).0 in
    Skip-one text to last last' a (subst (λ (i : ℕ). Skip text i last') (sym same) g.after)

-- no `}` stands behind the string
pub no_closing : (text : List ℕ) (at brace from to last : ℕ) (kind : Way) (name : List ℕ)
    → Spelt text at kind brace
    → Skip text (brace + 1) from → Text text from to name → Skip text to last
    → slice_index text last ≢ ascii.right_brace → NoFileGroup text at
no_closing text at brace from to last kind name s b t a n kind' brace' last' name' g =
    let same = one_last text at brace from to last brace' last' kind kind' name name' s b t a g in
    n (ap (λ i. slice_index text i) same ∙ g.closes)

-- a group that takes a file in is one of one type, with its braces in one place, and one name
pub record SameGroup (kind kind' : Way) (brace brace' last last' : ℕ)
    (name name' : List ℕ) : Type 0 where
  pub kinds : kind ≡ kind'
  pub braces : brace ≡ brace'
  pub lasts : last ≡ last'
  pub names : name ≡ name'

pub FileGroup-one : (text : List ℕ) (at : ℕ) (kind kind' : Way) (brace brace' last last' : ℕ)
    (name name' : List ℕ) → FileGroup text at kind brace last name
    → FileGroup text at kind' brace' last' name'
    → SameGroup kind kind' brace brace' last last' name name'
FileGroup-one text at kind kind' brace brace' last last' name name' f g = record {
  kinds = (one_kind text at brace brace' last' kind kind' name' (spelt_of f) g).0;
  braces = one_brace text at brace brace' last' kind kind' name' (spelt_of f) g;
  lasts = one_last text at brace f.from f.to last brace' last' kind kind' name name' (spelt_of f)
      f.before f.names f.after g;
  names = (one_name text at brace f.from f.to brace' last' kind kind' name name' (spelt_of f)
      f.before f.names g).1;
}

-- what begins with a word begins with its first byte
first_of : (l : List ℕ) (b : ℕ) (w : List ℕ) → starts_with nat_eq l (b ∷ w) ≡ true
    → get_or l 0 0 ≡ b
first_of [] b w e = absurd (false≢true e)
first_of (x ∷ l) b w e = grind (arith, nat_tests)

-- a word stands where its first byte does
first_byte : (text : List ℕ) (at b : ℕ) (w : List ℕ) → stands_at text at (b ∷ w) ≡ true
    → slice_index text at ≡ b
unfolding stands_at
first_byte text at b w e =
    let z : at + 0 ≡ at = omega arith in
    ap (λ i. slice_index text i) (sym z)
    ∙ (sym (get_or-drop at text 0 0) ∙ first_of (drop at text) b w e)

-- what is told by tests in a row
by_tests : (a b c d f : Bool) (v w x y z kind : Way)
    → (if a then Some v else if b then Some w else if c then Some x
    else if d then Some y else if f then Some z else None) ≡ Some kind
    → (a ≡ true) ⊎ ((b ≡ true) ⊎ ((c ≡ true) ⊎ ((d ≡ true) ⊎ (f ≡ true))))
by_tests true b c d f v w x y z kind e = inl refl
by_tests false true c d f v w x y z kind e = inr (inl refl)
by_tests false false true d f v w x y z kind e = inr (inr (inl refl))
by_tests false false false true f v w x y z kind e = inr (inr (inr (inl refl)))
by_tests false false false false true v w x y z kind e = inr (inr (inr (inr refl)))
by_tests false false false false false v w x y z kind e = absurd (cc)

-- the byte with which a type begins: an `i` or a `p`
abbrev IsFirst : ℕ → Type 0
IsFirst b = (b ≡ 105) ⊎ (b ≡ 112)

-- a type begins with one
way_first : (text : List ℕ) (at : ℕ) (kind : Way) → way_at text at ≡ Some kind
    → IsFirst (slice_index text at)
way_first text at kind e =
    let by_i = λ (w : List ℕ) (h : stands_at text at (105 ∷ w) ≡ true).
    first_byte text at 105 w h in
    let by_p = λ (w : List ℕ) (h : stands_at text at (112 ∷ w) ≡ true).
    first_byte text at 112 w h in
    ⊎_elim (λ h. inr (by_p _ h)) (λ r. ⊎_elim (λ h. inl (by_i _ h))
    (λ q. ⊎_elim (λ h. inl (by_i _ h))
    (λ s. ⊎_elim (λ h. inr (by_p _ h)) (λ h. inr (by_p _ h)) s) q) r)
    (by_tests (stands_at text at (spelling way.Dependency))
    (stands_at text at (spelling way.Include)) (stands_at text at (spelling way.Import))
    (stands_at text at (spelling way.Rules)) (stands_at text at (spelling way.CollationRules))
    way.Dependency way.Include way.Import way.Rules way.CollationRules kind e)

-- so none is spelt where another byte stands
pub no_first : (text : List ℕ) (at : ℕ) → slice_index text at ≢ 105 → slice_index text at ≢ 112
    → way_at text at ≡ None
no_first text at i p = by (way_at text at) refl
  where
    by : (found : Option Way) → way_at text at ≡ found → way_at text at ≡ None
    by None e = e
    by (Some kind) e = absurd (⊎_elim i p (way_first text at kind e))

-- what stands there begins the rest of the text
standing : (text needle : List ℕ) (k : ℕ) → stands_at text k needle ≡ true
    → drop k text ≡ needle ++ drop (length needle) (drop k text)
unfolding stands_at
standing text needle k e =
    (starts_is (λ a b. Decides-eqb a b) (drop k text) needle (stands_at text k needle) refl).0 e

-- a needle that stands there occurs there
occurs : (text needle : List ℕ) (k : ℕ) → 0 < length needle → stands_at text k needle ≡ true
    → OccursAt text needle k
occurs text needle k more e =
    let s = standing text needle k e in
    let n = ap length s ∙ length-append needle (drop (length needle) (drop k text)) in
    record {
      fits = omega (arith, more, n, length-drop k text);
      reads = λ j low. sym (get_or-drop k text j 0)
          ∙ (ap (λ l. get_or l j 0) s
          ∙ get_or-append needle (drop (length needle) (drop k text)) 0 j low);
    }

-- a needle that is found nowhere stands nowhere
pub not_standing : (text needle : List ℕ) → 0 < length needle → FindsNeedle text needle 0 None
    → (k : ℕ) → stands_at text k needle ≡ false
not_standing text needle more n k = by (stands_at text k needle) refl
  where
    by : (b : Bool) → stands_at text k needle ≡ b → stands_at text k needle ≡ false
    by false e = e
    by true e =
        let o = occurs text needle k more e in
        absurd (n k (omega arith) (omega (arith, o.fits)) o)

-- a type is spelt by some bytes
some_bytes : (kind : Way) → 0 < length (spelling kind)
some_bytes way.Dependency = omega arith
some_bytes way.Include = omega arith
some_bytes way.Import = omega arith
some_bytes way.Rules = omega arith
some_bytes way.CollationRules = omega arith

-- a type whose word is found nowhere is spelt nowhere
pub unspelt : (text : List ℕ) (kind : Way) (word : List ℕ) (found : Option ℕ)
    → word ≡ spelling kind → FindsNeedle text word 0 found → is_some found ≡ false
    → (at : ℕ) → stands_at text at (spelling kind) ≡ false
unspelt text kind word None same n e at =
    subst (λ w. stands_at text at w ≡ false) same
    (not_standing text word (subst (λ w. 0 < length w) (sym same) (some_bytes kind)) n at)
unspelt text kind word (Some x) same n e at = absurd (false≢true (sym e))

-- a byte stands right before a place, behind which a type may stand
abbrev IsPreceded : List ℕ → ℕ → Type 0
IsPreceded text to =
    (n : ℕ) × (n + 1 ≡ to) × (may_precede (slice_index text n) ≡ true)

-- a colon, a white character, and the slash that ends a comment are such bytes
colon_precedes : (b : ℕ) → b ≡ ascii.colon → may_precede b ≡ true
colon_precedes b e = ap may_precede e

slash_precedes : (b : ℕ) → b ≡ ascii.slash → may_precede b ≡ true
slash_precedes b e = ap may_precede e

white_precedes : (b : ℕ) → is_white b ≡ true → may_precede b ≡ true
white_precedes b w = by (b == ascii.colon) (is_white b) w
  where
    by : (a c : Bool) → c ≡ true → (a || (c || b == ascii.slash)) ≡ true
    by true c e = refl
    by false true e = refl
    by false false e = absurd (false≢true e)

-- a comment before a type ends with such a byte
comment_precedes : (text : List ℕ) (from to : ℕ) → IsFirst (slice_index text to)
    → Comment text from to → IsPreceded text to
comment_precedes text from to f (line h k r) = absurd (⊎_elim (λ e. past e f) (λ e. ended e f) r.ends)
  where
    past : to ≡ length text → IsFirst (slice_index text to) → ⊥
    past e (inl i) = omega (arith, get_or_past text to 0 (omega (arith, e)), i)
    past e (inr i) = omega (arith, get_or_past text to 0 (omega (arith, e)), i)

    ended : is_line_end (slice_index text to) ≡ true → IsFirst (slice_index text to) → ⊥
    ended e (inl i) = grind (arith, nat_tests, e, i)
    ended e (inr i) = grind (arith, nat_tests, e, i)
comment_precedes text from to f (block at h k c e) =
    (at + 1, omega (arith, e), slash_precedes _ c.closer.slash)

-- blanks before a type end with such a byte, if there are any
blanks_precede : (text : List ℕ) (from to : ℕ) → IsFirst (slice_index text to)
    → Blanks text from to → (from ≡ to) ⊎ IsPreceded text to
blanks_precede text from to f (none _) = inl refl
blanks_precede text from to f (white _ _ w b) =
    ⊎_elim (λ e. inr (from, e, white_precedes (slice_index text from) w)) (λ p. inr p)
    (blanks_precede text (from + 1) to f b)
blanks_precede text from to f (comment _ k _ c b) =
    ⊎_elim (λ e. inr (comment_precedes text from to f
    (subst (λ i. Comment text from i) e c))) (λ p. inr p)
    (blanks_precede text k to f b)

-- and so does what stands before the type of a group that takes a file in
group_preceded : (text : List ℕ) (at brace last : ℕ) (kind : Way) (name : List ℕ)
    → (g : FileGroup text at kind brace last name) → IsPreceded text g.place
group_preceded text at brace last kind name g =
    ⊎_elim (λ e. (at, e, colon_precedes _ g.colon)) (λ p. p)
    (blanks_precede text (at + 1) g.place (way_first text g.place kind g.spelt) g.behind.blanks)

-- what a type begins with stands inside the text
first_inside : (text : List ℕ) (at : ℕ) → IsFirst (slice_index text at) → at < length text
first_inside text at (inl e) = nonzero_inside text at (omega (arith, e))
first_inside text at (inr e) = nonzero_inside text at (omega (arith, e))

-- where no type is spelt behind such a byte, no group takes a file in
pub none_spelt : (text : List ℕ)
    → ((k : ℕ) → k < length text → may_precede (slice_index text k) ≡ true
    → way_at text (k + 1) ≡ None)
    → (at : ℕ) → NoFileGroup text at
none_spelt text unspelt at kind brace last name g =
    let p = group_preceded text at brace last kind name g in
    let high = first_inside text g.place (way_first text g.place kind g.spelt) in
    let e : way_at text g.place ≡ None =
    subst (λ i. way_at text i ≡ None) p.1 (unspelt p.0 (omega (arith, p.1, high)) p.2) in
    cc
