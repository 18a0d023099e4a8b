-- Laws of unquoted strings in a row, and of the pairs of hex digits that these say.
use Rattle.std.proofs.Common.{◌≡◌, ◌≢◌, ℕ, zero, suc, ◌+◌, ◌-◌, ◌<◌, ◌≤◌, Bool, true, false, List}
use Rattle.std.proofs.Common.{[], ◌∷◌, ◌++◌, length, arith, subst, sym, refl, ap, ◌∙◌, ◌*◌}
use Rattle.std.proofs.Common.{append_assoc, slice_index, slice_range, not, ◌==◌, ◌||◌, Result, Ok}
use Rattle.std.proofs.Common.{Err, IfOk, MatchOption, Option, Some, None, ◌&&◌}
use Rattle.std.specs.List.{list_any}
use Rattle.std.proofs.lemmas.Bool.{false≢true, and_parts}
use Rattle.std.proofs.lemmas.Bool.Decides.{nat_tests}
use Rattle.resb_icu_grammar.specs.Blanks.{Skip}
use Rattle.resb_icu_grammar.specs.Bytes.{is_unquoted}
use Rattle.resb_icu_grammar.specs.Unquoted.{Unquoted, UnquotedRow, last_one, one_more, goes_on}
use Rattle.resb_icu_grammar.specs.Unquoted.{begins_unquoted}
use Rattle.resb_icu_grammar.specs.Limit.{is_put_together, is_joined, joining_bytes}
use Rattle.resb_grammar.specs.Limit.{request_bytes}
use Rattle.resb_icu_grammar.proofs.Limited.{joined_same, joining_same}
use Rattle.resb_icu_grammar.proofs.Groups.{digits_same}
use Rattle.resb_icu_grammar.proofs.Lexical.{Unquoted-one, joined_first, no_quote_row, String-one}
use Rattle.resb_icu_text.specs.Inner.Found.{IsFound, Shows, OfParts, is_whole, is_of_parts}
use Rattle.resb_icu_text.specs.Inner.Found.{length_of}
use Rattle.std.specs.Prelude.{nat_lt, if◌then◌else◌}
use Rattle.resb_icu_text.specs.Inner.Unquoted.{StringOfRow}
use Rattle.resb_icu_text.specs.declared.strings.Found.{Found}
use Rattle.resb_icu_text.specs.declared.strings.Stands.{Stands}
use Rattle.resb_icu_text.proofs.LengthLemmas.{white_moves, row_order, ends_alone}
use Rattle.resb_icu_text.proofs.PartsLemmas.{Rows, RowFrom, one_alone, and_others}
use Rattle.resb_icu_text.proofs.StringsLemmas.{slice_cons}
use Rattle.resb_icu_text.proofs.Lists.{slice_none}
use Rattle.std.specs.Option.{option_map}
use Rattle.std.specs.Char.{digit_value}
use Rattle.resb_icu_grammar.specs.Words.{Part, a_row, quoted, Text, one_part, more_parts}
use Rattle.resb_icu_grammar.specs.Words.{Verbatim, a_word, a_piece}
use Rattle.resb_grammar.specs.Group.{is_hex, hex_bytes, byte_before}
use Rattle.resb_icu_grammar.specs.Groups.{spaced_bytes, digit_bytes, digits_of}
use Rattle.resb_icu_grammar.specs.Pieces.{Joined}
use Rattle.resb_icu_text.specs.Inner.Digits.{SaysPairs, SaysNone, RowSaysPairs, RowSaysNone}
use Rattle.resb_grammar.specs.Ascii as ascii
use Rattle.resb_icu_text.specs.declared.strings.Stands.TheVariants as found

-- a row by its first string
abbrev pub Strings : List ℕ → ℕ → Rows
Strings text to at s = UnquotedRow text at to s

pub row_from : (text : List ℕ) (at mid to : ℕ) (first s : List ℕ) → Unquoted text at mid first
    → UnquotedRow text at to s → RowFrom text (Strings text to) (ascii.space ∷ []) mid to first s
row_from text at mid to first s h (last_one _ _ n _ p k g) =
    let same = Unquoted-one text at mid to first s h p in
    subst (RowFrom text (Strings text to) (ascii.space ∷ []) mid to first) same.1 (one_alone same.0)
row_from text at mid to first s h (one_more _ m n _ us vs p w k r) =
    let same = Unquoted-one text at m mid us first p h in
    subst (λ (u : List ℕ). RowFrom text (Strings text to) (ascii.space ∷ []) mid to first
    (u ++ ascii.space ∷ vs)) (sym same.1)
    (and_others n vs (subst (λ i. Skip text i n) same.0 k) r
    (omega (arith, same.0, white_moves text m n w k)) (row_order text n to vs r))

-- where a row begins stands no quote
pub row_no_quote : (text : List ℕ) (from to : ℕ) (s : List ℕ) → UnquotedRow text from to s
    → (slice_index text from == ascii.quote) ≡ false
row_no_quote text from to s r =
    let none : slice_index text from ≢ ascii.quote = λ e. no_quote_row text from to s e r in
    grind (arith, nat_tests, none)

any_append : (p : ℕ → Bool) (s t : List ℕ) → list_any p t ≡ true → list_any p (s ++ t) ≡ true
any_append p [] t h = h
any_append p (b ∷ s) t h = ap (λ c. p b || c) (any_append p s t h) ∙ either (p b)
  where
    either : (c : Bool) → (c || true) ≡ true
    either true = refl
    either false = refl

no_blank : (text : List ℕ) (n at to : ℕ) → to ≡ at + n
    → ((k : ℕ) → at ≤ k → k < to → goes_on text k ≡ true) → to ≤ length text
    → list_any (λ b. b == ascii.space) (slice_range text at to) ≡ false
no_blank text zero at to e each fits =
    ap (λ s. list_any (λ b. b == ascii.space) s)
    (subst (λ i. slice_range text at i ≡ []) (omega (arith, e)) (slice_none text at))
no_blank text (suc n) at to e each fits =
    ap (λ s. list_any (λ b. b == ascii.space) s)
    (slice_cons text at to (omega (arith, e)) (omega (arith, e, fits)))
    ∙ ap (λ c. c || list_any (λ b. b == ascii.space) (slice_range text (at + 1) to)) other
    ∙ no_blank text n (at + 1) to (omega (arith, e))
    (λ k low high. each k (omega (arith, low)) high)
    fits
  where
    unquoted : is_unquoted (slice_index text at) ≡ true
    unquoted = (and_parts _ _ (each at (omega arith) (omega (arith, e)))).0

    other : (slice_index text at == ascii.space) ≡ false
    other = grind (arith, nat_tests, unquoted)

-- no blank is in an unquoted string
pub unquoted_no_blank : (text : List ℕ) (from to : ℕ) (s : List ℕ) → Unquoted text from to s
    → list_any (λ b. b == ascii.space) s ≡ false
unquoted_no_blank text from to s w =
    ap (λ u. list_any (λ b. b == ascii.space) u) w.means
    ∙ no_blank text (to - from) from to (omega (arith, w.some)) w.each w.fits

-- in a row of more than one string is a blank
row_blank : (text : List ℕ) (from to : ℕ) (s : List ℕ) → UnquotedRow text from to s
    → (Verbatim text from to s → ⊥) → list_any (λ b. b == ascii.space) s ≡ true
row_blank text from to s (last_one _ _ n _ p k h) f =
    absurd (f (a_word (last_one from to n s p k h) p))
row_blank text from to s (one_more _ m n _ us vs p w k r) f =
    any_append (λ b. b == ascii.space) us (ascii.space ∷ vs) refl

-- a string that ends with its first part is put together, and says pairs, as that part does
one_joined : (text : List ℕ) (from to : ℕ) (s : List ℕ) → Part text from to s
    → (t : Text text from to s) → is_joined t ≡ is_put_together text from to s
one_joined text from to s p (one_part _ _ n _ q k h) = refl
one_joined text from to _ p (more_parts _ m n _ u v q k h t) =
    absurd (ends_alone text from m n to (u ++ ascii.space ∷ v) u v p q k t)

one_digits : (text : List ℕ) (from to : ℕ) (s : List ℕ) → Part text from to s
    → (t : Text text from to s) → digits_of t ≡ digit_bytes text from s
one_digits text from to s p (one_part _ _ n _ q k h) = refl
one_digits text from to _ p (more_parts _ m n _ u v q k h t) =
    absurd (ends_alone text from m n to (u ++ ascii.space ∷ v) u v p q k t)

-- of several parts it is put together, and says none
parts_shown : (text : List ℕ) (from : ℕ) (f : Found) → is_of_parts f.stands ≡ true
    → (is : IsFound text from f) → OfParts text from f.end is.said
parts_shown text from f h is = by f.stands refl h
  where
    by : (s : Stands) → f.stands ≡ s → is_of_parts s ≡ true → OfParts text from f.end is.said
    by (found.Whole t) e g = absurd (false≢true g)
    by (found.InPieces n) e g = absurd (false≢true g)
    by (found.InRow n) e g = absurd (false≢true g)
    by (found.InParts n) e g =
        (subst (λ (s : Stands). Shows text from f.end is.said s) e is.shows).1

pub parts_joined : (text : List ℕ) (from : ℕ) (f : Found) → is_of_parts f.stands ≡ true
    → (is : IsFound text from f) → is_joined is.string ≡ true
parts_joined text from f h is =
    let p = parts_shown text from f h is in
    joined_same text from f.end f.end is.said _ is.string
    (more_parts from p.mid p.next f.end p.first p.later p.part p.after p.more p.rest)

pub parts_none : (text : List ℕ) (from : ℕ) (f : Found) → is_of_parts f.stands ≡ true
    → (is : IsFound text from f) → digits_of is.string ≡ None
parts_none text from f h is =
    let p = parts_shown text from f h is in
    digits_same text from f.end f.end is.said _ is.string
    (more_parts from p.mid p.next f.end p.first p.later p.part p.after p.more p.rest)

-- so a string that says some has one part
pub of_one_part : (text : List ℕ) (from : ℕ) (f : Found) → (is : IsFound text from f)
    → digits_of is.string ≢ None → is_of_parts f.stands ≡ false
of_one_part text from f is some = by (is_of_parts f.stands) refl
  where
    by : (b : Bool) → is_of_parts f.stands ≡ b → b ≡ false
    by true e = absurd (some (parts_none text from f e is))
    by false e = refl

-- any other is one part
pub part_shown : (text : List ℕ) (from : ℕ) (f : Found) → is_of_parts f.stands ≡ false
    → (is : IsFound text from f) → Part text from f.end is.said
part_shown text from f h is = by f.stands refl h
  where
    whole : {said : List ℕ} → Verbatim text from f.end said → Part text from f.end said
    whole (a_word r w) = a_row r
    whole (a_piece j p n) = quoted j

    shown : (s : Stands) → f.stands ≡ s → Shows text from f.end is.said s
    shown s e = subst (λ (s : Stands). Shows text from f.end is.said s) e is.shows

    by : (s : Stands) → f.stands ≡ s → is_of_parts s ≡ false → Part text from f.end is.said
    by (found.Whole t) e g = whole (is.slice.0 (ap is_whole e))
    by (found.InPieces n) e g = quoted (shown (found.InPieces n) e).1
    by (found.InRow n) e g = a_row (shown (found.InRow n) e).1
    by (found.InParts n) e g = absurd (false≢true (sym g))

-- whether such a one is put together
pub part_joined : (text : List ℕ) (from : ℕ) (f : Found) → is_of_parts f.stands ≡ false
    → (is : IsFound text from f)
    → is_joined is.string ≡ is_put_together text from f.end is.said
part_joined text from f h is =
    one_joined text from f.end is.said (part_shown text from f h is) is.string

-- where no quote stands, a string is put together just where it is no slice
pub unquoted_together : (text : List ℕ) (from : ℕ) (f : Found) (s : Stands) → f.stands ≡ s
    → is_of_parts f.stands ≡ false → (is : IsFound text from f)
    → slice_index text from ≢ ascii.quote → is_joined is.string ≡ not (is_whole s)
unquoted_together text from f s e alone is q =
    part_joined text from f alone is ∙ (
    let other : (slice_index text from == ascii.quote) ≡ false = grind (arith, nat_tests, q) in
    let shown = subst (λ (s : Stands). Shows text from f.end is.said s) e is.shows in
    rw other (by s shown (λ h. is.slice.0 (ap is_whole e ∙ h))
    (λ v. sym (ap is_whole e) ∙ is.slice.1 v)))
  where
    no_parts : {said : List ℕ} → OfParts text from f.end said → ⊥
    no_parts {said} p =
        ends_alone text from p.mid p.next f.end is.said p.first p.later
        (part_shown text from f alone is) p.part p.after p.rest

    no_blank_in : {said : List ℕ} → Verbatim text from f.end said
        → list_any (λ b. b == ascii.space) said ≡ false
    no_blank_in {said} (a_word r w) = unquoted_no_blank text from f.end said w
    no_blank_in {said} (a_piece j p n) = absurd (q (joined_first text from f.end said j))

    by : {said : List ℕ} (s : Stands) → Shows text from f.end said s
        → (is_whole s ≡ true → Verbatim text from f.end said)
        → (Verbatim text from f.end said → is_whole s ≡ true)
        → list_any (λ b. b == ascii.space) said ≡ not (is_whole s)
    by (found.Whole t) h f g = no_blank_in (f refl)
    by {said} (found.InPieces n) h f g = absurd (q (joined_first text from _ said h.1))
    by {said} (found.InRow n) h f g = row_blank text from _ said h.1 (λ v. false≢true (g v))
    by {said} (found.InParts n) h f g = absurd (no_parts h.1)

-- where one does, it is where the string takes more of the text than what it says and two quotes
pub quoted_together : (text : List ℕ) (from : ℕ) (f : Found) → is_of_parts f.stands ≡ false
    → (is : IsFound text from f) → slice_index text from ≡ ascii.quote
    → (n : ℕ) → n ≡ length_of f.stands → is_joined is.string ≡ nat_lt 2 (f.end - from - n)
quoted_together text from f alone is q n e =
    part_joined text from f alone is ∙ (
    let quote : (slice_index text from == ascii.quote) ≡ true = grind (arith, nat_tests, q) in
    rw quote (tests (from + length is.said + 2) f.end 2 (f.end - from - n)
    (λ h. omega (arith, h, e, is.counted, is.short))
    (λ h. omega (arith, h, e, is.counted, is.short))))
  where
    tests : (a b x y : ℕ) → (a < b → x < y) → (x < y → a < b) → nat_lt a b ≡ nat_lt x y
    tests a b x y f g = by (nat_lt a b) (nat_lt x y) refl refl
      where
        by : (s t : Bool) → nat_lt a b ≡ s → nat_lt x y ≡ t → s ≡ t
        by true true h k = refl
        by false false h k = refl
        by true false h k =
            let low : a < b = grind (arith, nat_tests, h) in
            let more = f low in absurd (grind (arith, nat_tests, k, more))
        by false true h k =
            let low : x < y = grind (arith, nat_tests, k) in
            let more = g low in absurd (grind (arith, nat_tests, h, more))

-- what memory is asked for a string that is put together, and for another
pub made_joined : (text : List ℕ) (from to : ℕ) (s t : List ℕ) → (p : Text text from to s)
    → (q : Text text from to t) → is_joined q ≡ true
    → (joining_bytes p ≡ request_bytes + length t) × (length s ≡ length t)
made_joined text from to s t p q h = (
  joining_same text from to to s t p q ∙ ap (λ b. if b then request_bytes + length t else 0) h,
  ap length (String-one text from to to s t p q).1,
)

pub made_alone : (text : List ℕ) (from to : ℕ) (s t : List ℕ) → (p : Text text from to s)
    → (q : Text text from to t) → is_joined q ≡ false
    → (joining_bytes p ≡ 0) × (length s ≡ length t)
made_alone text from to s t p q h = (
  joining_same text from to to s t p q ∙ ap (λ b. if b then request_bytes + length t else 0) h,
  ap length (String-one text from to to s t p q).1,
)

-- no blank is among these bytes
abbrev pub NoBlank : List ℕ → Type 0
NoBlank s = list_any (λ b. b == ascii.space) s ≡ false

blank_parts : (b : ℕ) (s : List ℕ) → NoBlank (b ∷ s) → ((b == ascii.space) ≡ false) × NoBlank s
blank_parts b s h = by (b == ascii.space) refl h
  where
    by : (x : Bool) → (b == ascii.space) ≡ x
        → (x || list_any (λ b. b == ascii.space) s) ≡ false
        → ((b == ascii.space) ≡ false) × NoBlank s
    by true e g = absurd (false≢true (sym g))
    by false e g = (e, g)

-- without blanks pairs are just those
pub spaced_without : (s : List ℕ) → NoBlank s → spaced_bytes s ≡ hex_bytes s
spaced_without [] h = refl
spaced_without (a ∷ []) h = rw ((blank_parts a [] h).0) refl
spaced_without (a ∷ b ∷ s) h =
    let p = blank_parts a (b ∷ s) h in
    let q = blank_parts b s p.1 in
    rw (p.0, spaced_without s q.1) refl

-- behind pairs the others follow
pub spaced_pairs : (w bs rest : List ℕ) (o : Option (List ℕ)) → hex_bytes w ≡ Some bs
    → spaced_bytes rest ≡ o
    → spaced_bytes (w ++ rest) ≡ option_map (λ (l : List ℕ). bs ++ l) o
spaced_pairs [] bs rest o e f = by o f
  where
    same : [] ≡ bs
    same = cc

    by : (o : Option (List ℕ)) → spaced_bytes rest ≡ o
        → spaced_bytes rest ≡ option_map (λ (l : List ℕ). bs ++ l) o
    by None g = g
    by (Some l) g = g ∙ ap (λ (k : List ℕ). Some (k ++ l)) same
spaced_pairs (a ∷ []) bs rest o e f = absurd cc
spaced_pairs (a ∷ b ∷ w) bs rest o e f =
    by (is_hex a) (is_hex b) (hex_bytes w) refl refl e
    (λ l g. spaced_pairs w l rest o g f) o refl
  where
    by : (x y : Bool) (p : Option (List ℕ)) → is_hex a ≡ x → is_hex b ≡ y
        → byte_before (x && y) (digit_value a * 16 + digit_value b) p ≡ Some bs
        → ((l : List ℕ) → p ≡ Some l
        → spaced_bytes (w ++ rest) ≡ option_map (λ (k : List ℕ). l ++ k) o)
        → (q : Option (List ℕ)) → o ≡ q
        → spaced_bytes (a ∷ b ∷ (w ++ rest)) ≡ option_map (λ (l : List ℕ). bs ++ l) o
    by true true (Some l) h k g f None n =
        let other : (a == ascii.space) ≡ false = grind (arith, nat_tests, h) in
        let deeper = f l refl in
        rw (other, h, k, deeper, n) refl
    by true true (Some l) h k g f (Some m) n =
        let other : (a == ascii.space) ≡ false = grind (arith, nat_tests, h) in
        let same : (digit_value a * 16 + digit_value b) ∷ l ≡ bs = cc in
        let deeper = f l refl in
        rw (other, h, k, deeper, n) (ap (λ (j : List ℕ). Some (j ++ m)) same)
    by true true None h k g f q n = absurd cc
    by true false p h k g f q n = absurd cc
    by false y p h k g f q n = absurd cc

-- a blank in front says nothing
pub spaced_blank : (s : List ℕ) → spaced_bytes (ascii.space ∷ s) ≡ spaced_bytes s
spaced_blank [] = refl
spaced_blank (b ∷ s) = refl

-- where no pairs stand before a blank, none are said
pub spaced_none : (w s : List ℕ) → NoBlank w → hex_bytes w ≡ None
    → spaced_bytes (w ++ ascii.space ∷ s) ≡ None
spaced_none [] s h e = absurd cc
spaced_none (a ∷ []) s h e = by (is_hex a) refl
  where
    by : (x : Bool) → is_hex a ≡ x → spaced_bytes (a ∷ ascii.space ∷ s) ≡ None
    by true k = rw ((blank_parts a [] h).0, k) refl
    by false k = rw ((blank_parts a [] h).0, k) refl
spaced_none (a ∷ b ∷ w) s h e =
    by (is_hex a) (is_hex b) (hex_bytes w) refl refl e
    (λ g. spaced_none w s (blank_parts b w (blank_parts a (b ∷ w) h).1).1 g)
  where
    other : (a == ascii.space) ≡ false
    other = (blank_parts a (b ∷ w) h).0

    by : (x y : Bool) (p : Option (List ℕ)) → is_hex a ≡ x → is_hex b ≡ y
        → byte_before (x && y) (digit_value a * 16 + digit_value b) p ≡ None
        → (p ≡ None → spaced_bytes (w ++ ascii.space ∷ s) ≡ None)
        → spaced_bytes (a ∷ b ∷ (w ++ ascii.space ∷ s)) ≡ None
    by true true (Some l) k m g f = absurd cc
    by true true None k m g f = rw (other, k, m, f refl) refl
    by true false p k m g f = rw (other, k, m) refl
    by false y p k m g f = rw (other, k) refl

-- unquoted strings in a row say their pairs with blanks
pub row_digits : (text : List ℕ) (from : ℕ) (f : Found) (n : ℕ) → f.stands ≡ found.InRow n
    → (is : IsFound text from f)
    → UnquotedRow text from f.end is.said × (digits_of is.string ≡ spaced_bytes is.said)
row_digits text from f n e is =
    let r = (subst (λ (s : Stands). Shows text from f.end is.said s) e is.shows).1 in (
      r,
      one_digits text from f.end is.said (a_row r) is.string
          ∙ rw (row_no_quote text from f.end _ r) refl,
    )

-- all but those say them without
pub other_digits : (text : List ℕ) (from : ℕ) (f : Found)
    → ((n : ℕ) → f.stands ≡ found.InRow n → ⊥) → is_of_parts f.stands ≡ false
    → (is : IsFound text from f) → digits_of is.string ≡ hex_bytes is.said
other_digits text from f never alone is =
    one_digits text from f.end is.said (part_shown text from f alone is) is.string
    ∙ by (slice_index text from == ascii.quote) refl
  where
    quoted : {said : List ℕ} → Joined text from f.end said
        → (slice_index text from == ascii.quote) ≡ true
    quoted {said} j = ap (λ b. b == ascii.quote) (joined_first text from f.end said j)

    whole : (slice_index text from == ascii.quote) ≡ false → {said : List ℕ}
        → Verbatim text from f.end said → NoBlank said
    whole q {said} (a_word r w) = unquoted_no_blank text from f.end said w
    whole q {said} (a_piece j p n) = absurd (false≢true (sym q ∙ quoted j))

    other : (slice_index text from == ascii.quote) ≡ false → (s : Stands) → f.stands ≡ s
        → NoBlank is.said
    other q (found.Whole t) e = whole q (is.slice.0 (ap is_whole e))
    other q (found.InPieces n) e =
        let j = (subst (λ (s : Stands). Shows text from f.end is.said s) e is.shows).1 in
        absurd (false≢true (sym q ∙ quoted j))
    other q (found.InRow n) e = absurd (never n e)
    other q (found.InParts n) e = absurd (false≢true (sym alone ∙ ap is_of_parts e))

    by : (x : Bool) → (slice_index text from == ascii.quote) ≡ x
        → digit_bytes text from is.said ≡ hex_bytes is.said
    by true q = rw q refl
    by false q = rw q (spaced_without is.said (other q f.stands refl))

-- what is said of an answer, said by other words
pub ok_by : {T E : Type 0} (P Q : T → Type 0) (r : Result T E) → ((x : T) → P x → Q x)
    → IfOk r P → IfOk r Q
ok_by P Q (Ok x) f h = f x h
ok_by P Q (Err e) f h = h

-- what isn't none is some
pub some_said : (o : Option (List ℕ)) → o ≢ None → (bytes : List ℕ) × (o ≡ Some bytes)
some_said None h = absurd (h refl)
some_said (Some bs) h = (bs, refl)

-- what is found of a row is found of its string
pub pairs_in_row : (text : List ℕ) (from : ℕ) (f : Found) (o : Option ℕ)
    → ((is : IsFound text from f) → UnquotedRow text from f.end is.said
    × (digits_of is.string ≡ spaced_bytes is.said))
    → MatchOption o (RowSaysNone text from f.end) (RowSaysPairs text from f.end)
    → MatchOption o (SaysNone text from f) (SaysPairs text from f)
pairs_in_row text from f None same h = λ is. (let r = same is in r.1 ∙ h is.said r.0)
pairs_in_row text from f (Some n) same h = λ is.
    (let r = same is in let a = h is.said r.0 in (a.0, r.1 ∙ a.1, a.2))

-- what the bytes are that a row says: those that are made, and what is left of it says the others
pub record PairsLeft (text : List ℕ) (at end : ℕ) (made said : List ℕ) : Type 0 where
  pub rest : List ℕ
  pub row : UnquotedRow text at end rest
  pub whole : spaced_bytes said ≡ option_map (λ (l : List ℕ). made ++ l) (spaced_bytes rest)

pub pairs_first : (text : List ℕ) (from end : ℕ) (said : List ℕ) → UnquotedRow text from end said
    → PairsLeft text from end [] said
pairs_first text from end said r =
    record { rest = said; row = r; whole = same (spaced_bytes said) }
  where
    same : (o : Option (List ℕ)) → o ≡ option_map (λ (l : List ℕ). l) o
    same None = refl
    same (Some l) = refl

string_no_blank : {text : List ℕ} {at end next : ℕ} {first : List ℕ}
    → StringOfRow text at end first next → NoBlank first
string_no_blank {text} {at} {end} {next} {first} s = unquoted_no_blank text at s.to first s.word

module _ {text : List ℕ} {at end next : ℕ} {first made said : List ℕ}
    (string : StringOfRow text at end first next) where
  -- a string that is no pairs: none are said
  pub pairs_none : hex_bytes first ≡ None → PairsLeft text at end made said
      → spaced_bytes said ≡ None
  pairs_none e l =
      l.whole ∙ ap (λ o. option_map (λ (l : List ℕ). made ++ l) o) (by (next == end) refl)
    where
      by : (b : Bool) → (next == end) ≡ b → spaced_bytes l.rest ≡ None
      by true q =
          ap spaced_bytes (string.last (grind (arith, nat_tests, q)) l.rest l.row)
          ∙ spaced_without first (string_no_blank string) ∙ e
      by false q =
          let o = string.on (λ n. grind (arith, nat_tests, q, n)) l.rest l.row in
          ap spaced_bytes o.2 ∙ spaced_none first o.0 (string_no_blank string) e

  -- the last one
  pub pairs_over : (bs : List ℕ) → hex_bytes first ≡ Some bs → next ≡ end
      → PairsLeft text at end made said → spaced_bytes said ≡ Some (made ++ bs)
  pairs_over bs e q l =
      l.whole ∙ ap (λ o. option_map (λ (l : List ℕ). made ++ l) o)
      (ap spaced_bytes (string.last q l.rest l.row)
      ∙ spaced_without first (string_no_blank string) ∙ e)

  -- one more
  pub pairs_more : (bs now : List ℕ) → hex_bytes first ≡ Some bs → next ≢ end → now ≡ made ++ bs
      → PairsLeft text at end made said → PairsLeft text next end now said
  pairs_more bs now e q f l =
      let o = string.on q l.rest l.row in
      record {
        rest = o.0;
        row = o.1;
        whole = l.whole ∙ ap (λ o. option_map (λ (l : List ℕ). made ++ l) o)
            (ap spaced_bytes o.2
            ∙ spaced_pairs first bs (ascii.space ∷ o.0) _ e (spaced_blank o.0))
            ∙ twice (spaced_bytes o.0);
      }
    where
      twice : (o : Option (List ℕ))
          → option_map (λ (l : List ℕ). made ++ l) (option_map (λ (l : List ℕ). bs ++ l) o)
          ≡ option_map (λ (l : List ℕ). now ++ l) o
      twice None = refl
      twice (Some l) =
          ap (λ (k : List ℕ). Some k) (sym (append_assoc made bs l) ∙ ap (λ u. u ++ l) (sym f))
