-- The two blocks of a pool bundle: in whole words, and of units of 16 bits.
use Rattle.std.proofs.Common.{◌≡◌, ℕ, zero, suc, ◌+◌, ◌%◌, ◌^◌, ◌<◌, List, [], ◌∷◌}
use Rattle.std.proofs.Common.{◌++◌, length, get_or, Bool, true, false, cond, sym, ◌∙◌, ap, arith}
use Rattle.std.proofs.Common.{length-append, append-nil, replicate, refl, ◌==◌}
use Rattle.std.proofs.lemmas.List.{length-replicate}
use Rattle.resb_format.specs.Bytes.{units_of, units_as_bytes}
use Rattle.resb_layout.specs.KeyBlock.{padded}
use Rattle.resb_layout.specs.Laid.{to_word}
use Rattle.resb_layout.specs.Written.{even}
use Rattle.resb_layout.proofs.BytesLemmas.{EachBelow, halves_read}

pub even_long : (us : List ℕ) → length (even us) ≡ length us + length us % 2
even_long us = by (length us % 2) refl
  where
    by : (n : ℕ) → length us % 2 ≡ n → length (cond (n == 1) (us ++ 0xaaaa ∷ []) us) ≡ length us + n
    by zero e = omega arith
    by (suc zero) e = length-append us (0xaaaa ∷ [])
    by (suc (suc n)) e = absurd (omega (arith, e))

pub each_below : (n : ℕ) (us : List ℕ) → ((k : ℕ) → get_or us k 0 < n) → EachBelow n us
each_below n [] h = tt
each_below n (u ∷ us) h = (h 0, each_below n us (λ k. h (suc k)))

pub below_even : (us : List ℕ) → EachBelow (2 ^ 16) us → EachBelow (2 ^ 16) (even us)
below_even us h = by (length us % 2 == 1)
  where
    push : (vs : List ℕ) → EachBelow (2 ^ 16) vs → EachBelow (2 ^ 16) (vs ++ 0xaaaa ∷ [])
    push [] e = (omega arith, tt)
    push (v ∷ vs) e = (e.0, push vs e.1)

    by : (c : Bool) → EachBelow (2 ^ 16) (cond c (us ++ 0xaaaa ∷ []) us)
    by true = push us h
    by false = h

pub padded_long : (bytes : List ℕ) → length (padded bytes) ≡ length bytes + to_word (length bytes)
padded_long bytes =
    let n : ℕ = to_word (length bytes) in
    let x : ℕ = 0xaa in
    length-append bytes (replicate n x) ∙ ap (λ m. length bytes + m) (length-replicate n x)

no_units : units_of [] ≡ []
unfolding units_of
no_units = refl

-- units that are written are read back
pub units_back : (us : List ℕ) → EachBelow (2 ^ 16) us → units_of (units_as_bytes us) ≡ us
units_back us h =
    ap units_of (sym (append-nil (units_as_bytes us))) ∙ halves_read us [] h
    ∙ ap (λ l. us ++ l) no_units ∙ append-nil us
