-- A key is a name exactly where the name stands at its position, with a zero byte behind it; and
-- the first bytes of a key order it and a name.
use Rattle.std.proofs.Common.{ℕ, List, [], ◌∷◌, ◌≡◌, ◌+◌, ◌<◌, ◌==◌, Option, Some, None, Bool, true}
use Rattle.std.proofs.Common.{false, refl, sym, ◌∙◌, ap, drop, take, if◌then◌else◌, option_map}
use Rattle.std.proofs.Common.{length, suc, not, cond, nat_eq, arith, length-drop, ◌⊎◌, inl, inr}
use Rattle.std.proofs.Common.{◌≤◌, ◌≢◌}
use Rattle.std.specs.Prelude.{option_and_then, slice_get}
use Rattle.std.specs.List.{position_or_len}
use Rattle.std.specs.Str.{bytes_eq, is_utf8, IsUtf8}
use Rattle.std.proofs.lemmas.Slice.Eq.{bytes_eq-Decides}
use Rattle.std.proofs.lemmas.Str.{is_utf8-from_IsUtf8}
use Rattle.std.proofs.lemmas.Bool.{true≢false, false_from_ne_true, cases_lt, eqb-true}
use Rattle.std.proofs.lemmas.Option.{same_Some, none-some}
use Rattle.std.specs.Ordering.{nat_cmp, ordering_then}
use Rattle.std.specs.Cmp.Lexicographic.{slice_cmp}
use Rattle.std.specs.declared.cmp.Ordering.{Ordering}
use Rattle.std.specs.declared.cmp.Ordering.TheVariants.{Less, Equal, Greater}
use Rattle.resb_format.specs.Strings.{before_zero, if_utf8, key_at}
use Rattle.resb_format.proofs.StringsIn.{ends_at_zero, lacks_zero}
use Rattle.resb_read.specs.Tables.{is_text}
use Rattle.resb_read.specs.Inner.Naming.{is_ended, is_plain, order_ended}

-- the bytes before the first zero byte are this text
abbrev is_bytes : List ℕ → Option (List ℕ) → Bool
is_bytes name (Some t) = bytes_eq t name
is_bytes name None = false

-- where the first zero byte is
abbrev zero_in : List ℕ → ℕ
zero_in xs = position_or_len (λ x. nat_eq x 0) xs

at_zero : (b : ℕ) (bs : List ℕ) → (b == 0) ≡ true → before_zero (b ∷ bs) ≡ Some []
at_zero b bs h =
    let e : zero_in (b ∷ bs) ≡ 0 = ap (λ z. cond (not z) (1 + zero_in bs) 0) h in
    ends_at_zero (b ∷ bs) (omega (arith, e)) ∙ ap (λ k. Some (take k (b ∷ bs))) e

past_first : (b : ℕ) (bs : List ℕ) → (b == 0) ≡ false
    → before_zero (b ∷ bs) ≡ option_map (λ t. b ∷ t) (before_zero bs)
past_first b bs h = by (cases_lt (zero_in bs) (length bs))
  where
    later : zero_in (b ∷ bs) ≡ 1 + zero_in bs
    later = ap (λ z. cond (not z) (1 + zero_in bs) 0) h

    same : zero_in (b ∷ bs) ≡ suc (zero_in bs)
    same = omega (arith, later)

    by : (zero_in bs < length bs) ⊎ (length bs ≤ zero_in bs)
        → before_zero (b ∷ bs) ≡ option_map (λ t. b ∷ t) (before_zero bs)
    by (inl l) =
        ends_at_zero (b ∷ bs) (omega (arith, same, l)) ∙ ap (λ k. Some (take k (b ∷ bs))) same
        ∙ sym (ap (option_map (λ t. b ∷ t)) (ends_at_zero bs l))
    by (inr g) =
        lacks_zero (b ∷ bs) (omega (arith, same, g))
        ∙ sym (ap (option_map (λ t. b ∷ t)) (lacks_zero bs g))

no_name : (b : ℕ) (o : Option (List ℕ)) → is_bytes [] (option_map (λ t. b ∷ t) o) ≡ false
no_name b None = refl
no_name b (Some t) = refl

first_byte : (b w : ℕ) (ws : List ℕ) (o : Option (List ℕ))
    → is_bytes (w ∷ ws) (option_map (λ t. b ∷ t) o)
    ≡ (if b == w then is_bytes ws o else false)
first_byte b w ws None = both (b == w)
  where
    both : (c : Bool) → false ≡ (if c then false else false)
    both true = refl
    both false = refl
first_byte b w ws (Some t) = both (b == w) refl
  where
    both : (c : Bool) → (b == w) ≡ c
        → bytes_eq (b ∷ t) (w ∷ ws) ≡ (if b == w then bytes_eq t ws else false)
    both true e = rw e refl
    both false e = rw e refl

bytes_told : (name xs : List ℕ) → is_bytes name (before_zero xs) ≡ is_ended xs name
bytes_told [] [] = refl
bytes_told (w ∷ ws) [] = refl
bytes_told [] (b ∷ bs) = by (b == 0) refl
  where
    by : (z : Bool) → (b == 0) ≡ z → is_bytes [] (before_zero (b ∷ bs)) ≡ (b == 0)
    by true h = ap (is_bytes []) (at_zero b bs h) ∙ sym h
    by false h = ap (is_bytes []) (past_first b bs h) ∙ no_name b (before_zero bs) ∙ sym h
bytes_told (w ∷ ws) (b ∷ bs) = by (bytes_told ws bs) (b == 0) refl
  where
    by : is_bytes ws (before_zero bs) ≡ is_ended bs ws → (z : Bool) → (b == 0) ≡ z
        → is_bytes (w ∷ ws) (before_zero (b ∷ bs)) ≡ is_ended (b ∷ bs) (w ∷ ws)
    by later true h =
        ap (is_bytes (w ∷ ws)) (at_zero b bs h)
        ∙ sym (ap (λ z. if z then false else if b == w then is_ended bs ws else false) h)
    by later false h =
        ap (is_bytes (w ∷ ws)) (past_first b bs h) ∙ first_byte b w ws (before_zero bs)
        ∙ ap (λ e. if b == w then e else false) later
        ∙ sym (ap (λ z. if z then false else if b == w then is_ended bs ws else false) h)

-- a name is UTF-8, so that bytes that are none are not it
text_told : (name : List ℕ) (o : Option (List ℕ)) → is_utf8 name ≡ true
    → is_text name (option_map (λ s. (s, 0)) (option_and_then if_utf8 o)) ≡ is_bytes name o
text_told name None u = refl
text_told name (Some t) u = by (is_utf8 t) refl
  where
    other : is_utf8 t ≡ false → bytes_eq t name ≡ true → ⊥
    other h e =
        let same : t ≡ name = (bytes_eq-Decides t name).0 e in
        true≢false (sym u ∙ ap is_utf8 (sym same) ∙ h)

    by : (b : Bool) → is_utf8 t ≡ b
        → is_text name (option_map (λ s. (s, 0)) (if_utf8 t)) ≡ bytes_eq t name
    by true h = rw h refl
    by false h = rw h (sym (false_from_ne_true (bytes_eq t name) (other h)))

key_told : (keys name tail : List ℕ) (at : ℕ) → IsUtf8 name → tail ≡ drop at keys
    → is_ended tail name ≡ is_text name (option_map (λ s. (s, 0)) (key_at keys at))
unfolding key_at
key_told keys name tail at u e =
    let w : is_utf8 name ≡ true = is_utf8-from_IsUtf8 name u in
    ap (λ xs. is_ended xs name) e
    ∙ sym (text_told name (before_zero (drop at keys)) w ∙ bytes_told name (drop at keys))

nothing_behind : (name xs : List ℕ) → length xs ≡ 0 → is_ended xs name ≡ false
nothing_behind [] [] h = refl
nothing_behind (w ∷ ws) [] h = refl
nothing_behind name (x ∷ xs) h = absurd (omega arith)

pub past_keys : (keys name : List ℕ) (at : ℕ) → IsUtf8 name → length keys < at
    → is_text name (option_map (λ s. (s, 0)) (key_at keys at)) ≡ false
past_keys keys name at u h =
    sym (key_told keys name (drop at keys) at u refl)
    ∙ nothing_behind name (drop at keys) (omega (arith, length-drop at keys))

-- where no zero byte stands behind a name's length, the name doesn't stand there
open_told : (xs name : List ℕ) → slice_get xs (length name) ≢ Some 0 → is_ended xs name ≡ false
open_told [] [] h = refl
open_told [] (w ∷ ws) h = refl
open_told (b ∷ bs) [] h = by (b == 0) refl
  where
    by : (z : Bool) → (b == 0) ≡ z → (b == 0) ≡ false
    by true e = absurd (h (ap Some (eqb-true b 0 e)))
    by false e = e
open_told (b ∷ bs) (w ∷ ws) h = by (b == 0) (b == w) (open_told bs ws h)
  where
    by : (y z : Bool) → is_ended bs ws ≡ false
        → (if y then false else if z then is_ended bs ws else false) ≡ false
    by true z later = refl
    by false true later = later
    by false false later = refl

-- where one stands there, the name does exactly if it is what stands before
closed_told : (xs name : List ℕ) → slice_get xs (length name) ≡ Some 0
    → is_plain (take (length name) xs) name ≡ is_ended xs name
closed_told [] [] h = absurd (none-some 0 h)
closed_told [] (w ∷ ws) h = refl
closed_told (b ∷ bs) [] h = sym (ap (λ n. n == 0) (same_Some b 0 h))
closed_told (b ∷ bs) (w ∷ ws) h =
    ap (λ e. if b == 0 then false else if b == w then e else false) (closed_told bs ws h)

pub key_open : (keys name tail : List ℕ) (at : ℕ) → IsUtf8 name → tail ≡ drop at keys
    → slice_get tail (length name) ≢ Some 0
    → is_text name (option_map (λ s. (s, 0)) (key_at keys at)) ≡ false
key_open keys name tail at u e h =
    sym (key_told keys name tail at u e) ∙ open_told tail name h

pub key_closed : (keys name tail front : List ℕ) (at : ℕ) → IsUtf8 name → tail ≡ drop at keys
    → slice_get tail (length name) ≡ Some 0 → front ≡ take (length name) tail
    → is_plain front name ≡ is_text name (option_map (λ s. (s, 0)) (key_at keys at))
key_closed keys name tail front at u e h f =
    ap (λ xs. is_plain xs name) f ∙ closed_told tail name h ∙ key_told keys name tail at u e

pub ruleset told = (key_open, key_closed, past_keys)

-- what stands before the first zero byte is nothing, or the first byte and what follows
before_zero_first : (b : ℕ) (bs t : List ℕ) → before_zero (b ∷ bs) ≡ Some t
    → (((b == 0) ≡ true) × (t ≡ []))
    ⊎ (((b == 0) ≡ false) × (s : List ℕ) × (t ≡ b ∷ s) × (before_zero bs ≡ Some s))
before_zero_first b bs t h = by (b == 0) refl (before_zero bs) refl
  where
    by : (z : Bool) → (b == 0) ≡ z → (o : Option (List ℕ)) → before_zero bs ≡ o
        → (((b == 0) ≡ true) × (t ≡ []))
        ⊎ (((b == 0) ≡ false) × (s : List ℕ) × (t ≡ b ∷ s) × (before_zero bs ≡ Some s))
    by true e o k = inl (e, same_Some t [] (sym h ∙ at_zero b bs e))
    by false e None k =
        absurd (none-some t (sym (past_first b bs e ∙ ap (option_map (λ t. b ∷ t)) k) ∙ h))
    by false e (Some s) k =
        inr (
          e,
          s,
          same_Some t (b ∷ s) (sym h ∙ past_first b bs e ∙ ap (option_map (λ t. b ∷ t)) k),
          k,
        )

-- a key's bytes and the zero byte behind them order a name and it
order_told : (name xs t : List ℕ) → before_zero xs ≡ Some t
    → order_ended name xs ≡ slice_cmp nat_cmp name t
order_told [] [] t h = absurd (none-some t h)
order_told (w ∷ ws) [] t h = absurd (none-some t h)
order_told [] (b ∷ bs) t h = by (before_zero_first b bs t h)
  where
    by : (((b == 0) ≡ true) × (t ≡ []))
        ⊎ (((b == 0) ≡ false) × (s : List ℕ) × (t ≡ b ∷ s) × (before_zero bs ≡ Some s))
        → (if b == 0 then Equal else Less) ≡ slice_cmp nat_cmp [] t
    by (inl (e, is)) =
        ap (λ z. if z then Equal else Less) e ∙ sym (ap (slice_cmp nat_cmp []) is)
    by (inr (e, s, is, k)) =
        ap (λ z. if z then Equal else Less) e ∙ sym (ap (slice_cmp nat_cmp []) is)
order_told (w ∷ ws) (b ∷ bs) t h = by (order_told ws bs) (before_zero_first b bs t h)
  where
    later : Ordering
    later = ordering_then (nat_cmp w b) (order_ended ws bs)

    by : ((s : List ℕ) → before_zero bs ≡ Some s → order_ended ws bs ≡ slice_cmp nat_cmp ws s)
        → (((b == 0) ≡ true) × (t ≡ []))
        ⊎ (((b == 0) ≡ false) × (s : List ℕ) × (t ≡ b ∷ s) × (before_zero bs ≡ Some s))
        → (if b == 0 then Greater else later) ≡ slice_cmp nat_cmp (w ∷ ws) t
    by each (inl (e, is)) =
        ap (λ z. if z then Greater else later) e ∙ sym (ap (slice_cmp nat_cmp (w ∷ ws)) is)
    by each (inr (e, s, is, k)) =
        ap (λ z. if z then Greater else later) e
        ∙ ap (ordering_then (nat_cmp w b)) (each s k)
        ∙ sym (ap (slice_cmp nat_cmp (w ∷ ws)) is)

bytes_of_text : (o : Option (List ℕ)) (t : List ℕ) → option_and_then if_utf8 o ≡ Some t
    → o ≡ Some t
bytes_of_text None t h = h
bytes_of_text (Some s) t h = by (is_utf8 s) refl
  where
    by : (z : Bool) → is_utf8 s ≡ z → Some s ≡ Some t
    by true e = sym (ap (λ z. if z then Some s else None) e) ∙ h
    by false e = absurd (none-some t (sym (ap (λ z. if z then Some s else None) e) ∙ h))

pub key_ordered : (keys name tail : List ℕ) (at : ℕ) → tail ≡ drop at keys → (t : List ℕ)
    → key_at keys at ≡ Some t → order_ended name tail ≡ slice_cmp nat_cmp name t
unfolding key_at
key_ordered keys name tail at e t h =
    ap (order_ended name) e
    ∙ order_told name (drop at keys) t (bytes_of_text (before_zero (drop at keys)) t h)

-- bytes that are equal to those before a zero byte stand there
equal_ended : (ws bs : List ℕ) → order_ended ws bs ≡ Equal → is_ended bs ws ≡ true
equal_ended [] [] h = cc
equal_ended (w ∷ ws) [] h = cc
equal_ended [] (b ∷ bs) h = grind (arith, h)
equal_ended (w ∷ ws) (b ∷ bs) h = grind (arith, h, equal_ended ws bs)

pub key_equal : (keys name tail : List ℕ) (at : ℕ) → IsUtf8 name → tail ≡ drop at keys
    → order_ended name tail ≡ Equal
    → is_text name (option_map (λ s. (s, 0)) (key_at keys at)) ≡ true
key_equal keys name tail at u e h = sym (key_told keys name tail at u e) ∙ equal_ended name tail h

pub no_key_past_end : (keys : List ℕ) (at : ℕ) → length keys < at → (t : List ℕ)
    → key_at keys at ≡ Some t → ⊥
unfolding key_at
no_key_past_end keys at l t h =
    none_in (drop at keys) (omega (arith, length-drop at keys))
    (bytes_of_text (before_zero (drop at keys)) t h)
  where
    none_in : (xs : List ℕ) → length xs ≡ 0 → before_zero xs ≡ Some t → ⊥
    none_in [] m k = none-some t k
    none_in (x ∷ xs) m k = omega (arith, m)

pub ruleset ordered = (key_ordered, key_equal)
