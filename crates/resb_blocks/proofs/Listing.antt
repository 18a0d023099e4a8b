-- One key more is listed, or is short: the steps of `of_keys`.
use Rattle.std.proofs.Common.{ℕ, List, [], ◌∷◌, ◌++◌, ◌≡◌, ◌+◌, ◌-◌, ◌<◌, ◌≤◌, ◌⊎◌, inl, inr}
use Rattle.std.proofs.Common.{zero, suc, take, drop, length, nat_eq, Some, arith, sym, ap}
use Rattle.std.proofs.Common.{refl, ◌∙◌, length-drop, length-append}
use Rattle.std.proofs.lemmas.Bool.{cases_lt}
use Rattle.std.proofs.lemmas.List.{drop-drop, length-take-le}
use Rattle.std.proofs.lemmas.List.Quantifiers.{position-Some}
use Rattle.std.proofs.lemmas.List.Elements.{All-push}
use Rattle.std.proofs.lemmas.Str.{IsUtf8-from_is_utf8}
use Rattle.std.specs.List.{position}
use Rattle.std.specs.Str.{IsUtf8}
use Rattle.resb_format.specs.Strings.{before_zero, key_at}
use Rattle.resb_blocks.specs.declared.tails.Tail.{Tail}
use Rattle.resb_blocks.specs.Tails.{IsTail}
use Rattle.resb_blocks.specs.Inner.Listed.{start_of, end_of, AreApart, EndBefore, AreListed}
use Rattle.resb_blocks.specs.Inner.Listed.{ListsUpTo}
use Rattle.resb_blocks.proofs.TailLaws.{key_from_later, is_its_utf8, tail_stands}

-- what stands before the next zero byte
pub record NextEnd (keys rest : List ℕ) (start end : ℕ) : Type 0 where
  pub back : rest ≡ drop start keys
  pub zero : Some end ≡ position (λ b. nat_eq b 0) rest
  pub many : length (take end rest) ≡ end

pub next_end_found : (keys rest : List ℕ) (start end : ℕ) → rest ≡ drop start keys
    → Some end ≡ position (λ b. nat_eq b 0) rest → NextEnd keys rest start end
next_end_found keys rest start end r p =
    let is = position-Some (λ b. nat_eq b 0) rest end 0 (sym p) in
    record { back = r; zero = p; many = length-take-le end rest (omega (arith, is.0)) }

-- a key that begins before the next zero byte is an end of what stands before it
inside : (keys rest : List ℕ) (start end at : ℕ) (s : List ℕ) → NextEnd keys rest start end
    → start ≤ at → at < start + (end + 1) → key_at keys at ≡ Some s
    → (s ≡ drop (at - start) (take end rest)) × IsUtf8 s
unfolding key_at
inside keys rest start end at s n l m e =
    let k = at - start in
    let key = take end rest in
    let found : before_zero rest ≡ Some key = rw (sym n.zero) refl in
    let within : k ≤ length key = omega (arith, n.many, l, m) in
    let same : drop k rest ≡ drop at keys =
    ap (drop k) n.back ∙ drop-drop k start keys ∙ ap (λ i. drop i keys) (omega (arith, l)) in
    let there = key_from_later rest key k found within in
    let its = is_its_utf8 (before_zero (drop at keys)) s e in
    let moved : before_zero (drop at keys) ≡ Some (drop k key) = rw (← same) there in
    let f : s ≡ drop k key = cc in
    (f, IsUtf8-from_is_utf8 s its.1)

-- a short key is not listed
pub short_is_skipped : (keys rest : List ℕ) (ts : List Tail) (start end : ℕ)
    → NextEnd keys rest start end → end ≤ 64 → ListsUpTo keys ts start
    → ListsUpTo keys ts (start + (end + 1))
short_is_skipped keys rest ts start end n short (each, apart, before, listed) =
    (each, apart, λ i l. omega (arith, before i l), more)
  where
    more : AreListed keys ts (start + (end + 1))
    more at s m e long none = cases (cases_lt at start)
      where
        cases : (at < start) ⊎ (start ≤ at) → ⊥
        cases (inl a) = listed at s a e long none
        cases (inr a) =
            let f = inside keys rest start end at s n a m e in
            let many = ap length f.0 ∙ length-drop (at - start) (take end rest) in
            omega (arith, many, n.many, short, long)

-- the longest end of it that is a text
pub record LongEnd (key text : List ℕ) (before : ℕ) : Type 0 where
  pub inside : before ≤ length key
  pub is : text ≡ drop before key
  pub utf8 : IsUtf8 text
  pub longest : (k : ℕ) → k < before → IsUtf8 (drop k key) → ⊥

pub long_end : (key other text : List ℕ) (before : ℕ) → key ≡ other → before ≤ length key
    → text ≡ drop before key → IsUtf8 text → ((k : ℕ) → k < before → IsUtf8 (drop k key) → ⊥)
    → LongEnd other text before
long_end key other text before e l t u h =
    rw (← e) (record { inside = l; is = t; utf8 = u; longest = h })

-- a key that begins before the next zero byte begins in that end
in_end : (keys rest text : List ℕ) (start end before at : ℕ) (s : List ℕ)
    → NextEnd keys rest start end → LongEnd (take end rest) text before → start ≤ at
    → at < start + (end + 1) → key_at keys at ≡ Some s
    → (before ≤ at - start) × (length s ≤ length text)
in_end keys rest text start end before at s n t l m e = cases (cases_lt (at - start) before)
  where
    f : (s ≡ drop (at - start) (take end rest)) × IsUtf8 s
    f = inside keys rest start end at s n l m e

    cases : (at - start < before) ⊎ (before ≤ at - start)
        → (before ≤ at - start) × (length s ≤ length text)
    cases (inl a) = absurd (t.longest (at - start) a (rw f.0 at f.1))
    cases (inr a) =
        let many = ap length f.0 ∙ length-drop (at - start) (take end rest) in
        let all = ap length t.is ∙ length-drop before (take end rest) in
        (a, omega (arith, many, all, a))

pub short_end_is_skipped : (keys rest text : List ℕ) (ts : List Tail) (start end before : ℕ)
    → NextEnd keys rest start end → LongEnd (take end rest) text before → length text ≤ 64
    → ListsUpTo keys ts start → ListsUpTo keys ts (start + (end + 1))
short_end_is_skipped keys rest text ts start end before n t short (each, apart, ended, listed) =
    (each, apart, λ i l. omega (arith, ended i l), more)
  where
    more : AreListed keys ts (start + (end + 1))
    more at s m e long none = cases (cases_lt at start)
      where
        cases : (at < start) ⊎ (start ≤ at) → ⊥
        cases (inl a) = listed at s a e long none
        cases (inr a) =
            let f = in_end keys rest text start end before at s n t a m e in
            omega (arith, f.1, short, long)

-- the list with one tail more, by numbers
start_kept : (ts : List Tail) (t : Tail) (i : ℕ) → i < length ts
    → start_of (ts ++ t ∷ []) i ≡ start_of ts i
start_kept [] t i l = absurd (omega (arith, l))
start_kept (u ∷ ts) t zero l = refl
start_kept (u ∷ ts) t (suc i) l = start_kept ts t i (omega (arith, l))

end_kept : (ts : List Tail) (t : Tail) (i : ℕ) → i < length ts
    → end_of (ts ++ t ∷ []) i ≡ end_of ts i
end_kept [] t i l = absurd (omega (arith, l))
end_kept (u ∷ ts) t zero l = refl
end_kept (u ∷ ts) t (suc i) l = end_kept ts t i (omega (arith, l))

start_new : (ts : List Tail) (t : Tail) → start_of (ts ++ t ∷ []) (length ts) ≡ t.from
start_new [] t = refl
start_new (u ∷ ts) t = start_new ts t

end_new : (ts : List Tail) (t : Tail)
    → end_of (ts ++ t ∷ []) (length ts) ≡ t.from + length t.text.now
end_new [] t = refl
end_new (u ∷ ts) t = end_new ts t

pub long_end_is_listed : (keys rest : List ℕ) (ts : List Tail) (t : Tail) (start end before : ℕ)
    → NextEnd keys rest start end → LongEnd (take end rest) t.text.now before
    → t.from ≡ start + before → ListsUpTo keys ts start
    → ListsUpTo keys (ts ++ t ∷ []) (start + (end + 1))
long_end_is_listed keys rest ts t start end before n is from (each, apart, ended, listed) =
    (All-push (IsTail keys) ts t each stands, stand_apart, end_before, more)
  where
    text : List ℕ
    text = t.text.now

    size : start + before + length text ≡ start + end
    size =
        let all = ap length is.is ∙ length-drop before (take end rest) in
        omega (arith, all, n.many, is.inside)

    stands : IsTail keys t
    stands =
        let f = tail_stands keys rest (take end rest) text start end before n.back n.zero refl
        is.inside is.is is.utf8 in
        rw from f

    last : (i : ℕ) → i < length (ts ++ t ∷ []) → (i < length ts) ⊎ (i ≡ length ts)
    last i l = cases (cases_lt i (length ts))
      where
        cases : (i < length ts) ⊎ (length ts ≤ i) → (i < length ts) ⊎ (i ≡ length ts)
        cases (inl a) = inl a
        cases (inr a) = inr (omega (arith, a, l, length-append ts (t ∷ [])))

    end_before : EndBefore (ts ++ t ∷ []) (start + (end + 1))
    end_before i l = cases (last i l)
      where
        cases : (i < length ts) ⊎ (i ≡ length ts)
            → end_of (ts ++ t ∷ []) i < start + (end + 1)
        cases (inl a) = omega (arith, end_kept ts t i a, ended i a)
        cases (inr a) = rw a (omega (arith, end_new ts t, from, size))

    stand_apart : AreApart (ts ++ t ∷ [])
    stand_apart i j l m = cases (last j m)
      where
        cases : (j < length ts) ⊎ (j ≡ length ts)
            → end_of (ts ++ t ∷ []) i < start_of (ts ++ t ∷ []) j
        cases (inl a) =
            let b : i < length ts = omega (arith, l, a) in
            omega (arith, end_kept ts t i b, start_kept ts t j a, apart i j l a)
        cases (inr a) =
            let b : i < length ts = omega (arith, l, a) in
            rw a (omega (arith, end_kept ts t i b, start_new ts t, ended i b, from))

    more : AreListed keys (ts ++ t ∷ []) (start + (end + 1))
    more at s m e long none = cases (cases_lt at start)
      where
        many : length (ts ++ t ∷ []) ≡ length ts + 1
        many = length-append ts (t ∷ [])

        cases : (at < start) ⊎ (start ≤ at) → ⊥
        cases (inl a) =
            listed at s a e long (λ i l b. (let f = none i (omega (arith, l, many))
            (rw (start_kept ts t i l) b) in rw (end_kept ts t i l) at f))
        cases (inr a) =
            let f = in_end keys rest text start end before at s n is a m e in
            let g : start_of (ts ++ t ∷ []) (length ts) ≤ at =
            omega (arith, start_new ts t, from, f.0, a) in
            let h = none (length ts) (omega (arith, many)) g in
            omega (arith, h, end_new ts t, from, size, m)

-- where no zero byte is left, all are listed
pub all_are_listed : (keys : List ℕ) (ts : List Tail) (start : ℕ)
    → ((at : ℕ) (s : List ℕ) → start ≤ at → key_at keys at ≡ Some s → ⊥)
    → ListsUpTo keys ts start → AreListed keys ts (length keys)
all_are_listed keys ts start behind (each, apart, ended, listed) at s m e long none =
    cases (cases_lt at start)
  where
    cases : (at < start) ⊎ (start ≤ at) → ⊥
    cases (inl a) = listed at s a e long none
    cases (inr a) = behind at s a e
