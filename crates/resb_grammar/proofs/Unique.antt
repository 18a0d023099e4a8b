-- A place has one reading: tokens, steps and paths are determined.
use Rattle.std.proofs.Common.{◌≡◌, ℕ, zero, suc, ◌+◌, ◌-◌, ◌<◌, ◌≤◌, Bool, true, false, List, ◌⊎◌}
use Rattle.std.proofs.Common.{length, arith, subst, sym, refl, ◌∙◌, ap, ⊎_elim, Option, Some, None}
use Rattle.std.proofs.Common.{cond}
use Rattle.std.specs.Prelude.{◌||◌, ◌==◌, nat_eq, codes, slice_index, slice_range}
use Rattle.std.specs.Cmp.Lexicographic.{pointwise}
use Rattle.std.proofs.lemmas.Bool.{cases_lt, false≢true}
use Rattle.std.proofs.lemmas.Bool.Decides.{nat_tests}
use Rattle.std.specs.Char.{is_ascii_digit}
use Rattle.resb_grammar.specs.Ascii as ascii
use Rattle.resb_grammar.specs.ByteRuns.{is_word, is_white, Run, FirstQuote}
use Rattle.resb_grammar.specs.Lexical.{LineRest, FirstCloser, Comment, line, block}
use Rattle.resb_grammar.specs.Lexical.{Blanks}
use Rattle.resb_grammar.specs.Lexical.{none, white, comment, IsSolid, Skip, Text, quoted, unquoted}
use Rattle.resb_grammar.specs.Lexical.{digits_value, Digits, negated, Number, unsigned, plus, minus}
use Rattle.resb_grammar.specs.GroupTypes.{Kind, string_kind, array_kind, table_kind, binary_kind}
use Rattle.resb_grammar.specs.GroupTypes.{integer_kind, vector_kind, Names, TypeName, GroupType}
use Rattle.resb_grammar.specs.GroupTypes.{NoFallback, RootType, table_type, no_fallback_type}
use Rattle.resb_grammar.specs.Machine.{Token, a_text, a_number, a_type, a_root_type, State, next}
use Rattle.resb_grammar.specs.Machine.{Move, TokenStep, Path, begun, went}
use Rattle.resb_grammar.proofs.Lex.{Class, text_class, number_class, open_class, close_class}
use Rattle.resb_grammar.proofs.Lex.{comma_class, type_class, root_type_class, no_class}
use Rattle.resb_grammar.proofs.Lex.{class_in, Lex, mode}
use Rattle.resb_grammar.specs.Stuck.{NoToken}
use Rattle.resb_grammar.proofs.FirstBytes.{lex_of}
use Rattle.resb_grammar.proofs.ByteRunsLemmas.{Run-one}
use Rattle.resb_grammar.proofs.Numbers.{places_meet}

pub FirstQuote-one : (text : List ℕ) (from a b : ℕ) → FirstQuote text from a
    → FirstQuote text from b → a ≡ b
FirstQuote-one text from a b p q =
    places_meet a b (λ w. q.inner a p.order w p.closes) (λ w. p.inner b q.order w q.closes)

-- the first `*/` from a place on is one
pub FirstCloser-one : (text : List ℕ) (from a b : ℕ) → FirstCloser text from a
    → FirstCloser text from b
    → a ≡ b
FirstCloser-one text from a b p q =
    places_meet a b (λ w. q.first a p.order w p.closer) (λ w. p.first b q.order w q.closer)

line_stops : (text : List ℕ) (at to : ℕ) → (at ≡ length text)
    ⊎ ((slice_index text at ≡ ascii.line_feed)
    ⊎ ((slice_index text at ≡ ascii.carriage_return)
    × (slice_index text (at + 1) ≡ ascii.line_feed))) → at < to → to ≤ length text
    → (slice_index text at == ascii.line_feed || slice_index text at == ascii.carriage_return) ≡
    false
    → ⊥
line_stops text at to e low high h =
    ⊎_elim (λ (w : at ≡ length text). omega arith) (⊎_elim
    (λ (w : slice_index text at ≡ ascii.line_feed). grind (arith, nat_tests))
    (λ (w : (slice_index text at ≡ ascii.carriage_return)
    × (slice_index text (at + 1) ≡ ascii.line_feed)). let k : slice_index text at ≡
    ascii.carriage_return = w.0 in
    grind (arith, nat_tests))) e

LineRest-one : (text : List ℕ) (from a b : ℕ) → LineRest text from a → LineRest text from b → a ≡ b
LineRest-one text from a b p q = places_meet a b
    (λ w. line_stops text a b p.ends w q.fits (q.body a p.order w))
    (λ w. line_stops text b a q.ends w p.fits (p.body b q.order w))

pub Comment-one : (text : List ℕ) (from a b : ℕ) → Comment text from a → Comment text from b → a ≡ b
Comment-one text from a b (line h k r) (line h' k' r') = LineRest-one text (from + 2) a b r r'
Comment-one text from a b (line h k r) (block at' h' k' f' e') = absurd (omega arith)
Comment-one text from a b (block at h k f e) (line h' k' r') = absurd (omega arith)
Comment-one text from a b (block at h k f e) (block at' h' k' f' e') =
    e ∙ ap (λ n. n + 2) (FirstCloser-one text (from + 2) at at' f f') ∙ sym e'

not_white : (text : List ℕ) (i to : ℕ) → is_white (slice_index text i) ≡ true → Comment text i to
    → ⊥
not_white text i to w (line h k r) = grind (arith, nat_tests)
not_white text i to w (block at h k f e) = grind (arith, nat_tests)

pub Blanks-one : (text : List ℕ) (i a b : ℕ) → Blanks text i a → Blanks text i b → IsSolid text a
    → IsSolid text b → a ≡ b
Blanks-one text i a b (none _) (none _) s t = refl
Blanks-one text i a b (none _) (white _ _ w r) s t = absurd (false≢true (sym s.no_white ∙ w))
Blanks-one text i a b (none _) (comment _ k _ c r) s t = absurd (s.no_comment k c)
Blanks-one text i a b (white _ _ w r) (none _) s t = absurd (false≢true (sym t.no_white ∙ w))
Blanks-one text i a b (white _ _ w r) (white _ _ w' r') s t = Blanks-one text (i + 1) a b r r' s t
Blanks-one text i a b (white _ _ w r) (comment _ k _ c r') s t = absurd (not_white text i k w c)
Blanks-one text i a b (comment _ k _ c r) (none _) s t = absurd (t.no_comment k c)
Blanks-one text i a b (comment _ k _ c r) (white _ _ w' r') s t = absurd (not_white text i k w' c)
Blanks-one text i a b (comment _ k _ c r) (comment _ k' _ c' r') s t =
    let e : k' ≡ k = Comment-one text i k' k c' c in
    Blanks-one text k a b r (subst (λ n. Blanks text n b) e r') s t

-- what is skipped from a place has one end
pub Skip-one : (text : List ℕ) (i a b : ℕ) → Skip text i a → Skip text i b → a ≡ b
Skip-one text i a b p q = Blanks-one text i a b p.blanks q.blanks p.solid q.solid

no_quote_word : (text : List ℕ) (from to : ℕ) → slice_index text from ≡ ascii.quote
    → Run is_word text from to → from < to → ⊥
no_quote_word text from to h r some =
    let k : is_word (slice_index text from) ≡ true = r.each from (omega arith) some in
    grind (arith, nat_tests)

-- at a place stands one string at most, with one end
pub Text-one : (text : List ℕ) (from a b : ℕ) (s t : List ℕ) → Text text from a s
    → Text text from b t → (a ≡ b) × (s ≡ t)
Text-one text from a b s t (quoted last h q e is) (quoted last' h' q' e' is') =
    let k : last ≡ last' = FirstQuote-one text (from + 1) last last' q q' in
    (e ∙ ap (λ n. n + 1) k ∙ sym e', is ∙ ap (λ n. slice_range text (from + 1) n) k ∙ sym is')
Text-one text from a b s t (quoted last h q e is) (unquoted r some is') =
    absurd (no_quote_word text from b h r some)
Text-one text from a b s t (unquoted r some is) (quoted last' h' q' e' is') =
    absurd (no_quote_word text from a h' r some)
Text-one text from a b s t (unquoted r some is) (unquoted r' some' is') =
    let k : a ≡ b = Run-one is_word text from a b r r' in
    (k, is ∙ ap (λ n. slice_range text from n) k ∙ sym is')

-- a longest run of digits has one end and value
pub Digits-one : (text : List ℕ) (from a b v w : ℕ) → Digits text from a v → Digits text from b w
    → (a ≡ b) × (v ≡ w)
Digits-one text from a b v w d d' =
    let k : a ≡ b = Run-one is_ascii_digit text from a b d.run d'.run in
    (k, d.means ∙ ap (λ n. digits_value 10 text from (n - from)) k ∙ sym d'.means)

sign_digit : (text : List ℕ) (from to v : ℕ) → Digits text from to v → 48 ≤ slice_index text from
sign_digit text from to v d =
    let k : is_ascii_digit (slice_index text from) ≡ true = d.run.each from (omega arith) d.some in
    grind (arith, nat_tests)

pub Number-one : (text : List ℕ) (from a b v w : ℕ) → Number text from a v → Number text from b w
    → (a ≡ b) × (v ≡ w)
Number-one text from a b v w (unsigned d low) (unsigned d' low') = Digits-one text from a b v w d d'
Number-one text from a b v w (unsigned d low) (plus h' d' low') =
    absurd (omega (arith, sign_digit text from a v d))
Number-one text from a b v w (unsigned d low) (minus n' h' d' low' is') =
    absurd (omega (arith, sign_digit text from a v d))
Number-one text from a b v w (plus h d low) (unsigned d' low') =
    absurd (omega (arith, sign_digit text from b w d'))
Number-one text from a b v w (plus h d low) (plus h' d' low') =
    Digits-one text (from + 1) a b v w d d'
Number-one text from a b v w (plus h d low) (minus n' h' d' low' is') = absurd (omega arith)
Number-one text from a b v w (minus n h d low is) (unsigned d' low') =
    absurd (omega (arith, sign_digit text from b w d'))
Number-one text from a b v w (minus n h d low is) (plus h' d' low') = absurd (omega arith)
Number-one text from a b v w (minus n h d low is) (minus n' h' d' low' is') =
    let both = Digits-one text (from + 1) a b n n' d d' in
    (both.0, is ∙ ap negated both.1 ∙ sym is')

TypeName-one : (text : List ℕ) (from a b : ℕ) (v w : List ℕ) → TypeName text from a v
    → TypeName text from b w → (a ≡ b) × (v ≡ w)
TypeName-one text from a b v w p q =
    let k : a ≡ b = Run-one is_word text (from + 1) a b p.run q.run in
    (k, p.means ∙ ap (λ n. slice_range text (from + 1) n) k ∙ sym q.means)

-- the type that a name is of
abbrev if_same : List ℕ → List ℕ → Kind → Option Kind → Option Kind
if_same w name kind other = cond (pointwise nat_eq w name) (Some kind) other

abbrev named_kind : List ℕ → Option Kind
named_kind w =
    if_same w (codes "string") string_kind
    (if_same w (codes "array") array_kind (if_same w (codes "table") table_kind
    (if_same w (codes "binary") binary_kind (if_same w (codes "bin") binary_kind
    (if_same w (codes "integer") integer_kind (if_same w (codes "int") integer_kind
    (if_same w (codes "intvector") vector_kind None)))))))

names_it : (w : List ℕ) (k : Kind) → Names w k → named_kind w ≡ Some k
names_it w string_kind h = ap named_kind h
names_it w array_kind h = ap named_kind h
names_it w table_kind h = ap named_kind h
names_it w binary_kind h =
    ⊎_elim (λ (e : w ≡ codes "binary"). ap named_kind e)
    (λ (e : w ≡ codes "bin"). ap named_kind e) h
names_it w integer_kind h =
    ⊎_elim (λ (e : w ≡ codes "integer"). ap named_kind e)
    (λ (e : w ≡ codes "int"). ap named_kind e) h
names_it w vector_kind h = ap named_kind h

-- a name is of one type
pub Names-one : (w : List ℕ) (k l : Kind) → Names w k → Names w l → k ≡ l
Names-one w k l p q = let e : Some k ≡ Some l = sym (names_it w k p) ∙ names_it w l q in cc

-- at a place stands one type of a group at most, with one end
pub GroupType-one : (text : List ℕ) (from a b : ℕ) (k l : Kind) → GroupType text from a k
    → GroupType text from b l → (a ≡ b) × (k ≡ l)
GroupType-one text from a b k l p q =
    let both = TypeName-one text from a b p.name q.name p.stands q.stands in
    (both.0, Names-one p.name k l p.names (subst (λ (w : List ℕ). Names w l) (sym both.1) q.names))

-- at a place stands one type of the root at most, with one end
pub RootType-one : (text : List ℕ) (from a b : ℕ) (f g : Bool) → RootType text from a f
    → RootType text from b g → (a ≡ b) × (f ≡ g)
RootType-one text from a b true true (table_type p never) (table_type q never') =
    ((TypeName-one text from a b _ _ p q).0, refl)
RootType-one text from a b true false (table_type p never) (no_fallback_type j q n e) =
    let same : j ≡ a = (TypeName-one text from j a _ _ q p).0 in
    absurd (never (subst (λ (i : ℕ). NoFallback text i) same n))
RootType-one text from a b false true (no_fallback_type i p n e) (table_type q never) =
    let same : i ≡ b = (TypeName-one text from i b _ _ p q).0 in
    absurd (never (subst (λ (i : ℕ). NoFallback text i) same n))
RootType-one text from a b false false (no_fallback_type i p n e) (no_fallback_type j q n' e') =
    let same : i ≡ j = (TypeName-one text from i j _ _ p q).0 in
    (e ∙ ap (λ k. k + 12) same ∙ sym e', refl)

pub Lex-one : (k : Class) (text : List ℕ) (from a b : ℕ) (t u : Token) → Lex k text from a t
    → Lex k text from b u → (a ≡ b) × (t ≡ u)
Lex-one text_class text from a b t u p q =
    let both = Text-one text from a b p.0 q.0 p.1 q.1 in (both.0, p.2 ∙ ap a_text both.1 ∙ sym q.2)
Lex-one number_class text from a b t u p q =
    let both = Number-one text from a b p.0 q.0 p.1 q.1 in
    (both.0, p.2 ∙ ap a_number both.1 ∙ sym q.2)
Lex-one open_class text from a b t u p q = (p.0 ∙ sym q.0, p.1 ∙ sym q.1)
Lex-one close_class text from a b t u p q = (p.0 ∙ sym q.0, p.1 ∙ sym q.1)
Lex-one comma_class text from a b t u p q = (p.0 ∙ sym q.0, p.1 ∙ sym q.1)
Lex-one type_class text from a b t u p q =
    let both = GroupType-one text from a b p.0 q.0 p.1 q.1 in
    (both.0, p.2 ∙ ap a_type both.1 ∙ sym q.2)
Lex-one root_type_class text from a b t u p q =
    let both = RootType-one text from a b p.0 q.0 p.1 q.1 in
    (both.0, p.2 ∙ ap a_root_type both.1 ∙ sym q.2)
Lex-one no_class text from a b t u p q = absurd p

pub Move-one : (text : List ℕ) (from : ℕ) (s : State) (a b : ℕ) (u v : State) → Move text from s a u
    → Move text from s b v → (a ≡ b) × (u ≡ v)
Move-one text from s a b u v p q =
    let both = Lex-one (class_in (mode s) (slice_index text from)) text from a b p.token q.token
    (lex_of text from a s u p.token p.means p.moves)
    (lex_of text from b s v q.token q.means q.moves) in
    let same : Some u ≡ Some v = sym p.moves ∙ ap (next s) both.1 ∙ q.moves in
    (both.0, cc)

pub token_step_one : (text : List ℕ) (from : ℕ) (s : State) (a b : ℕ) (u v : State)
    → TokenStep text from s a u → TokenStep text from s b v → (a ≡ b) × (u ≡ v)
token_step_one text from s a b u v p q =
    let both = Move-one text from s p.ends q.ends u v p.move q.move in
    (Skip-one text p.ends a b p.after (subst (λ n. Skip text n b) (sym both.0) q.after), both.1)

pub Path-one : (text : List ℕ) (n a b : ℕ) (s t : State) → Path text n a s → Path text n b t
    → (a ≡ b) × (s ≡ t)
Path-one text zero a b s t (begun _ h) (begun _ h') = (Skip-one text 0 a b h h', refl)
Path-one text (suc n) a b s t (went _ i _ u _ p x) (went _ j _ v _ q y) =
    let both = Path-one text n i j u v p q in
    let y' : TokenStep text i u b t = subst (λ (w : State). TokenStep text i w b t) (sym both.1)
    (subst (λ (k : ℕ). TokenStep text k v b t) (sym both.0) y) in
    token_step_one text i u a b s t x y'

-- a longer path goes on from each shorter one
pub Path-front : (text : List ℕ) (n m a b : ℕ) (s t : State) → Path text n a s → NoToken text a s
    → Path text m b t → n < m → ⊥
Path-front text n zero a b s t p stop (begun _ h) low = omega arith
Path-front text n (suc m) a b s t p stop (went _ i _ u _ q x) low = ⊎_elim
    (λ (w : n < m). Path-front text n m a i s u p stop q w)
    (λ (w : m ≤ n).
    let e : n ≡ m = omega arith in
    let both = Path-one text m a i s u (subst (λ k. Path text k a s) e p) q in
    let x' : TokenStep text a s b t = subst (λ (k : State). TokenStep text a k b t) (sym both.1)
    (subst (λ (k : ℕ). TokenStep text k u b t) (sym both.0) x) in
    stop x'.ends t x'.move)
    (cases_lt n m)

-- a reading ends in one place and state
pub ends_once : (text : List ℕ) (n m a b : ℕ) (s t : State) → Path text n a s → NoToken text a s
    → Path text m b t → NoToken text b t → (a ≡ b) × (s ≡ t)
ends_once text n m a b s t p stop q stop' =
    let e : n ≡ m = places_meet n m (Path-front text n m a b s t p stop q)
    (Path-front text m n b a t s q stop' p) in
    Path-one text m a b s t (subst (λ k. Path text k a s) e p) q
