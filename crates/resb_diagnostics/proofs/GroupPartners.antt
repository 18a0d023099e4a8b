-- The braces of a group are partners, and partners are the braces of a group.
use Rattle.std.proofs.Common.{◌≡◌, ◌∙◌, ℕ, suc, ◌+◌, ◌≤◌, Bool, true, false, ◌==◌, List, []}
use Rattle.std.proofs.Common.{◌∷◌, refl, sym, ap, arith, Option, Some, None}
use Rattle.std.specs.Prelude.{◌↔◌, ◌&&◌, not, slice_index, slice_range, if◌then◌else◌}
use Rattle.std.specs.Option.{option_map}
use Rattle.std.proofs.lemmas.Bool.{false≢true, eqb-true}
use Rattle.resb_grammar.specs.Ascii.{left_brace, right_brace, comma, quote}
use Rattle.resb_grammar.specs.ByteRuns.{is_word}
use Rattle.resb_diagnostics.specs.Braces.{Form, mode_in, mode_at, has_tokens, plain_form}
use Rattle.resb_diagnostics.specs.Braces.{has_icu_tokens, icu_form}
use Rattle.resb_diagnostics.specs.Partners.{Opens, Closes, Balanced, nothing, another, ArePartners}
use Rattle.resb_diagnostics.specs.Partners.{group as balanced_group}
use Rattle.resb_diagnostics.specs.Pieces.{TextPiece, a_string, a_type, opening, closing}
use Rattle.resb_diagnostics.specs.Pieces.{a_comma, piece_at, piece_in, token_at, word_at, quoted_at}
use Rattle.resb_diagnostics.specs.Pieces.{bytes_placed}
use Rattle.resb_diagnostics.specs.Groups.{GroupItem, group_item, string_item, comma_item}
use Rattle.resb_diagnostics.specs.Items.{is_no_item, Stand, none, no_item, string, group, stray}
use Rattle.resb_diagnostics.specs.Items.{comma as a_comma_item, IsGroupTo, IsGroup}
use Rattle.resb_diagnostics.specs.Items.{IsIcuGroup}
use Rattle.resb_diagnostics.specs.IcuWarnings.{is_behind_colon, is_in_word, icu_word_start}
use Rattle.resb_diagnostics.specs.IcuWarnings.{icu_token_of}
use Rattle.resb_diagnostics.specs.IcuKeys.{icu_word_piece, icu_piece, icu_piece_at}
use Rattle.resb_diagnostics.specs.declared.icu_tokens.IcuToken.TheVariants as token
use Rattle.resb_diagnostics.specs.declared.braces.Mode.{Mode}
use Rattle.resb_diagnostics.specs.declared.braces.Mode.TheVariants as modes
use Rattle.resb_diagnostics.proofs.PartnersLemmas.{within}
use Rattle.resb_diagnostics.proofs.OutdentLemmas.{join}
use Rattle.resb_diagnostics.proofs.PiecesLemmas.{kind, word_kind}

-- why a brace is this piece, or none
data BraceCause {M : Type 0} (f : Form M) (text : List ℕ) (n mark : ℕ) (p : Option TextPiece)
    : Type 0 where
  no_brace : (kind p ≡ 3 → ⊥) → (kind p ≡ 4 → ⊥) → BraceCause f text n mark p
  left : Opens f text n → p ≡ Some opening → BraceCause f text n mark p
  right : Closes f text n → p ≡ Some (closing mark) → BraceCause f text n mark p

low : {M : Type 0} (f : Form M) (text : List ℕ) (n mark : ℕ) (p : Option TextPiece) → kind p ≤ 2
    → BraceCause f text n mark p
low f text n mark p k = no_brace (λ e. omega (arith, k, e)) (λ e. omega (arith, k, e))

-- the braces of a form are those among pieces; a `}` at a place has this mark
record SameBraces {M : Type 0} (f : Form M) (text : List ℕ) (piece : ℕ → Option TextPiece)
    (mark : ℕ → ℕ) : Type 0 where
  cause : (n : ℕ) → BraceCause f text n (mark n) (piece n)
  opens_opening : (n : ℕ) → Opens f text n → piece n ≡ Some opening
  closes_closing : (n : ℕ) → Closes f text n → piece n ≡ Some (closing (mark n))

token_cause : (text : List ℕ) (n : ℕ) → has_tokens (mode_at text n) ≡ true
    → BraceCause plain_form text n n (token_at text n (slice_index text n))
token_cause text n t =
    by (is_word (slice_index text n)) (slice_index text n == left_brace)
    (slice_index text n == right_brace) (slice_index text n == comma) refl refl
  where
    by : (a b c d : Bool) → (slice_index text n == left_brace) ≡ b
        → (slice_index text n == right_brace) ≡ c
        → BraceCause plain_form text n n (if a then word_at text n
        else (if b then Some opening
        else (if c then Some (closing n) else (if d then Some (a_comma n) else None))))
    by true b c d l r = low plain_form text n n (word_at text n) (word_kind text n)
    by false true c d l r =
        let is = eqb-true (slice_index text n) left_brace l in
        left record { fits = within text n 122 is; tokens = t; stands = is } refl
    by false false true d l r =
        let is = eqb-true (slice_index text n) right_brace r in
        right record { fits = within text n 124 is; tokens = t; stands = is } refl
    by false false false true l r =
        no_brace (λ e. omega (arith, e)) (λ e. omega (arith, e))
    by false false false false l r =
        no_brace (λ e. omega (arith, e)) (λ e. omega (arith, e))

plain_cause : (text : List ℕ) (n : ℕ) → BraceCause plain_form text n n (piece_at text n)
plain_cause text n = by (mode_at text n) refl
  where
    none_here : BraceCause plain_form text n n None
    none_here = low plain_form text n n None (omega arith)

    closes : (b : Bool)
        → BraceCause plain_form text n n (if b then Some (quoted_at text n) else None)
    closes true = low plain_form text n n (Some (quoted_at text n)) (omega arith)
    closes false = none_here

    by : (m : Mode) → mode_at text n ≡ m → BraceCause plain_form text n n (piece_in m text n)
    by modes.Tokens e = token_cause text n (ap has_tokens e)
    by modes.Slash e = token_cause text n (ap has_tokens e)
    by modes.Quotes e = closes (slice_index text n == quote)
    by modes.LineComment e = none_here
    by modes.BlockComment e = none_here
    by modes.Star e = none_here

token_piece : (text : List ℕ) (n : ℕ) → has_tokens (mode_at text n) ≡ true
    → piece_at text n ≡ token_at text n (slice_index text n)
token_piece text n t = by (mode_at text n) t
  where
    by : (m : Mode) → has_tokens m ≡ true
        → piece_in m text n ≡ token_at text n (slice_index text n)
    by modes.Tokens h = refl
    by modes.Slash h = refl
    by modes.Quotes h = absurd (false≢true h)
    by modes.LineComment h = absurd (false≢true h)
    by modes.BlockComment h = absurd (false≢true h)
    by modes.Star h = absurd (false≢true h)

plain_braces : (text : List ℕ) → SameBraces plain_form text (piece_at text) (λ n. n)
plain_braces text = record {
  cause = plain_cause text;
  opens_opening = λ n o. token_piece text n o.tokens ∙ ap (token_at text n) o.stands;
  closes_closing = λ n c. token_piece text n c.tokens ∙ ap (token_at text n) c.stands;
}

icu_word_kind : (text : List ℕ) (from to : ℕ) → kind (Some (icu_word_piece text from to)) ≤ 2
icu_word_kind text from to = by (is_behind_colon text from)
  where
    by : (b : Bool) → kind (Some (if b then a_type (slice_range text from to)
        else a_string (bytes_placed (slice_range text from to) from))) ≤ 2
    by true = omega arith
    by false = omega arith

icu_token_cause : (text : List ℕ) (n : ℕ) → has_icu_tokens (mode_in icu_form text n) ≡ true
    → BraceCause icu_form text n 0
    (option_map (icu_piece text) (icu_token_of text n (slice_index text n)))
icu_token_cause text n t =
    by (slice_index text n == quote) (slice_index text n == left_brace)
    (slice_index text n == right_brace) (slice_index text n == comma)
    (is_in_word text n && not (is_in_word text (suc n))) refl refl
  where
    by : (a b c d w : Bool) → (slice_index text n == left_brace) ≡ b
        → (slice_index text n == right_brace) ≡ c
        → BraceCause icu_form text n 0 (option_map (icu_piece text)
        (if a then Some (token.Piece n)
        else (if b then Some (token.Open n)
        else (if c then Some token.Close
        else (if d then Some token.Comma
        else (if w then Some (token.Word (icu_word_start text n) (n + 1)) else None))))))
    by true b c d w l r = no_brace (λ e. omega (arith, e)) (λ e. omega (arith, e))
    by false true c d w l r =
        let is = eqb-true (slice_index text n) left_brace l in
        left record { fits = within text n 122 is; tokens = t; stands = is } refl
    by false false true d w l r =
        let is = eqb-true (slice_index text n) right_brace r in
        right record { fits = within text n 124 is; tokens = t; stands = is } refl
    by false false false true w l r =
        no_brace (λ e. omega (arith, e)) (λ e. omega (arith, e))
    by false false false false true l r =
        low icu_form text n 0 (Some (icu_word_piece text (icu_word_start text n) (n + 1)))
        (icu_word_kind text (icu_word_start text n) (n + 1))
    by false false false false false l r = low icu_form text n 0 None (omega arith)

icu_cause : (text : List ℕ) (n : ℕ) → BraceCause icu_form text n 0 (icu_piece_at text n)
icu_cause text n = by (has_icu_tokens (mode_in icu_form text n)) refl
  where
    by : (b : Bool) → has_icu_tokens (mode_in icu_form text n) ≡ b
        → BraceCause icu_form text n 0 (option_map (icu_piece text)
        (if b then icu_token_of text n (slice_index text n) else None))
    by true e = icu_token_cause text n e
    by false e = low icu_form text n 0 None (omega arith)

icu_token_piece : (text : List ℕ) (n : ℕ) → has_icu_tokens (mode_in icu_form text n) ≡ true
    → icu_piece_at text n
    ≡ option_map (icu_piece text) (icu_token_of text n (slice_index text n))
icu_token_piece text n t =
    ap (λ b. option_map (icu_piece text)
    (if b then icu_token_of text n (slice_index text n) else None)) t

icu_braces : (text : List ℕ) → SameBraces icu_form text (icu_piece_at text) (λ n. 0)
icu_braces text = record {
  cause = icu_cause text;
  opens_opening = λ n o. icu_token_piece text n o.tokens
      ∙ ap (λ b. option_map (icu_piece text) (icu_token_of text n b)) o.stands;
  closes_closing = λ n c. icu_token_piece text n c.tokens
      ∙ ap (λ b. option_map (icu_piece text) (icu_token_of text n b)) c.stands;
}

stand_order : (piece : ℕ → Option TextPiece) (a b : ℕ) (xs : List GroupItem)
    → Stand piece a b xs → a ≤ b
stand_order piece a b xs (none _) = omega arith
stand_order piece a b xs (no_item _ n _ s e) =
    let h = stand_order piece a n xs s in omega (arith, h)
stand_order piece a b xs (string _ n ys t s e) =
    let h = stand_order piece a n ys s in omega (arith, h)
stand_order piece a b xs (a_comma_item _ n m ys s e) =
    let h = stand_order piece a n ys s in omega (arith, h)
stand_order piece a b xs (group _ n m k ys zs s o i c) =
    let h = stand_order piece a n ys s in
    let j = stand_order piece (suc n) m zs i in
    omega (arith, h, j)
stand_order piece a b xs (stray n m _ s e) = omega arith

-- items, and then more of them
more : (piece : ℕ → Option TextPiece) (a b c : ℕ) (xs ys : List GroupItem) → 1 ≤ a
    → Stand piece a b xs → Stand piece b c ys
    → (zs : List GroupItem) × Stand piece a c zs
more piece a b c xs ys one s (none _) = (xs, s)
more piece a b c xs ys one s (no_item _ n _ r e) =
    let h = more piece a b n xs ys one s r in (h.0, no_item a n h.0 h.1 e)
more piece a b c xs ys one s (string _ n us t r e) =
    let h = more piece a b n xs us one s r in
    (string_item t ∷ h.0, string a n h.0 t h.1 e)
more piece a b c xs ys one s (a_comma_item _ n m us r e) =
    let h = more piece a b n xs us one s r in (comma_item ∷ h.0, a_comma_item a n m h.0 h.1 e)
more piece a b c xs ys one s (group _ n m k us vs r o i e) =
    let h = more piece a b n xs us one s r in
    (group_item ∷ h.0, group a n m k h.0 vs h.1 o i e)
more piece a b c xs ys one s (stray n m _ r e) =
    let h = stand_order piece a 0 xs s in absurd (omega (arith, one, h))

module _ {M : Type 0} (f : Form M) (text : List ℕ) (piece : ℕ → Option TextPiece) (mark : ℕ → ℕ)
    (same : SameBraces f text piece mark) where
  opening_opens : (n : ℕ) → piece n ≡ Some opening → Opens f text n
  opening_opens n e = elim (same.cause n) [
    | no_brace o c ↦ absurd (o (ap kind e))
    | left o _ ↦ o
    | right _ i ↦ absurd (omega (arith, ap kind (sym e ∙ i)))
  ]

  closing_closes : (n m : ℕ) → piece n ≡ Some (closing m) → Closes f text n
  closing_closes n m e = elim (same.cause n) [
    | no_brace o c ↦ absurd (c (ap kind e))
    | left _ i ↦ absurd (omega (arith, ap kind (sym e ∙ i)))
    | right c _ ↦ c
  ]

  -- a byte that is no brace
  one_item : (n : ℕ) (p : Option TextPiece) → piece n ≡ p
      → (Opens f text n → ⊥) → (Closes f text n → ⊥)
      → (xs : List GroupItem) × Stand piece n (suc n) xs
  one_item n None e o c = ([], no_item n n [] (none n) (ap is_no_item e))
  one_item n (Some (a_type name)) e o c = ([], no_item n n [] (none n) (ap is_no_item e))
  one_item n (Some (a_string s)) e o c = (string_item s ∷ [], string n n [] s (none n) e)
  one_item n (Some (a_comma m)) e o c =
      (comma_item ∷ [], a_comma_item n n m [] (none n) e)
  one_item n (Some opening) e o c = absurd (o (opening_opens n e))
  one_item n (Some (closing m)) e o c = absurd (c (closing_closes n m e))

  balanced_stand : (a b : ℕ) → Balanced f text a b → 1 ≤ a
      → (xs : List GroupItem) × Stand piece a b xs
  balanced_stand a b (nothing _) one = ([], none a)
  balanced_stand a b (another _ _ o c rest) one =
      let h = one_item a (piece a) refl o c in
      let r = balanced_stand (suc a) b rest (omega arith) in
      more piece a (suc a) b h.0 r.0 one h.1 r.1
  balanced_stand a b (balanced_group _ m _ o inner c rest) one =
      let i = balanced_stand (suc a) m inner (omega arith) in
      let r = balanced_stand (suc m) b rest (omega arith) in
      more piece a (suc m) b (group_item ∷ []) r.0 one
      (group a a m (mark m) [] i.0 (none a) (same.opens_opening a o) i.1
      (same.closes_closing m c)) r.1

  not_brace : (n : ℕ) (p : Option TextPiece) → piece n ≡ p
      → (kind p ≡ 3 → ⊥) → (kind p ≡ 4 → ⊥) → Balanced f text n (suc n)
  not_brace n p e o c =
      another n (suc n) (λ i. o (ap kind (sym e ∙ same.opens_opening n i)))
      (λ i. c (ap kind (sym e ∙ same.closes_closing n i))) (nothing (suc n))

  silent_brace : (n : ℕ) (p : Option TextPiece) → piece n ≡ p
      → is_no_item p ≡ true → Balanced f text n (suc n)
  silent_brace n None e s =
      not_brace n None e (λ k. omega (arith, k)) (λ k. omega (arith, k))
  silent_brace n (Some (a_type name)) e s =
      not_brace n (Some (a_type name)) e (λ k. omega (arith, k)) (λ k. omega (arith, k))
  silent_brace n (Some (a_string t)) e s = absurd (false≢true s)
  silent_brace n (Some opening) e s = absurd (false≢true s)
  silent_brace n (Some (closing m)) e s = absurd (false≢true s)
  silent_brace n (Some (a_comma m)) e s = absurd (false≢true s)

  stand_balanced : (a b : ℕ) (xs : List GroupItem)
      → Stand piece a b xs → 1 ≤ a → Balanced f text a b
  stand_balanced a b xs (none _) one = nothing a
  stand_balanced a b xs (no_item _ n _ s e) one =
      join f text a n (suc n) (stand_balanced a n xs s one)
      (silent_brace n (piece n) refl e)
  stand_balanced a b xs (string _ n ys t s e) one =
      join f text a n (suc n) (stand_balanced a n ys s one)
      (not_brace n (Some (a_string t)) e (λ k. omega (arith, k)) (λ k. omega (arith, k)))
  stand_balanced a b xs (a_comma_item _ n m ys s e) one =
      join f text a n (suc n) (stand_balanced a n ys s one)
      (not_brace n (Some (a_comma m)) e (λ k. omega (arith, k)) (λ k. omega (arith, k)))
  stand_balanced a b xs (group _ n m k ys zs s o i c) one =
      join f text a n (suc m) (stand_balanced a n ys s one)
      (balanced_group n m (suc m) (opening_opens n o)
      (stand_balanced (suc n) m zs i (omega arith)) (closing_closes m k c)
      (nothing (suc m)))
  stand_balanced a b xs (stray n m _ s e) one = absurd (omega (arith, one))

  partners_group : (p q : ℕ) → ArePartners f text p q → IsGroupTo (closing (mark q)) piece p q
  partners_group p q h =
      let s = balanced_stand (suc p) q h.between (omega arith) in record {
        opens = same.opens_opening p h.opens;
        items = s.0;
        stand = s.1;
        closes = same.closes_closing q h.closes;
      }

  group_partners : (p q : ℕ) → IsGroupTo (closing (mark q)) piece p q → ArePartners f text p q
  group_partners p q h = record {
    opens = opening_opens p h.opens;
    between = stand_balanced (suc p) q h.items h.stand (omega arith);
    closes = closing_closes q (mark q) h.closes;
  }

pub plain_partners : (text : List ℕ) (p q : ℕ)
    → ArePartners plain_form text p q ↔ IsGroup text p q
plain_partners text p q = (
  partners_group plain_form text (piece_at text) (λ n. n) (plain_braces text) p q,
  group_partners plain_form text (piece_at text) (λ n. n) (plain_braces text) p q,
)

pub icu_partners : (text : List ℕ) (p q : ℕ)
    → ArePartners icu_form text p q ↔ IsIcuGroup text p q
icu_partners text p q = (
  partners_group icu_form text (icu_piece_at text) (λ n. 0) (icu_braces text) p q,
  group_partners icu_form text (icu_piece_at text) (λ n. 0) (icu_braces text) p q,
)
