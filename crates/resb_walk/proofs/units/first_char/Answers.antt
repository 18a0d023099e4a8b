use Rattle.std.proofs.Common.{ℕ, List, ◌≡◌, ◌∷◌, ◌<◌, true, false, length, ap, sym, ◌∙◌, arith}
use Rattle.std.specs.Char.Utf16.{is_high_surrogate, is_low_surrogate, utf16_lossy_chars}
use Rattle.resb_format.specs.Bytes.{units_of}
use Rattle.resb_walk.proofs.Surrogates.{char_of_pair, char_unpaired, char_last}
use Rattle.resb_walk.proofs.units.first_char.Goals as goal
use Rattle.resb_walk.proofs.units.first_char.Goals.{in_default-via-in-Some+else-is_low}
use Rattle.resb_walk.proofs.units.first_char.Goals.{in_default-via-in_default}

shorter : (xs : List ℕ) (u : ℕ) (us : List ℕ) → xs ≡ u ∷ us → length us < length xs
shorter xs u us e = let l = ap length e in omega (arith, l)

twice_shorter : (xs : List ℕ) (u v : ℕ) (us vs : List ℕ) → xs ≡ u ∷ us → us ≡ v ∷ vs
    → length vs < length xs
twice_shorter xs u v us vs e f =
    let l = ap length e in let m = ap length f in omega (arith, l, m)

pub returns-in-Some : goal.returns-in-Some
returns-in-Some c =
    let h : is_high_surrogate c.in_ok-first.first ≡ true = cc in
    let l : is_low_surrogate c.in-Some.second ≡ true = cc in
    let e = c.in_ok-first.ensures in
    let f = c.in-Some.ensures in
    let us = units_of c.in_ok-first.later.now in
    let vs = units_of c.in-Some.after.now in (
      char_of_pair _ c.in_ok-first.first c.in-Some.second us vs e f h l
          ∙ ap (λ x. x ∷ utf16_lossy_chars vs) (sym c.pair_char.ensures),
      twice_shorter _ c.in_ok-first.first c.in-Some.second us vs e f,
    )

pub returns-in_default : goal.returns-in_default
returns-in_default c =
    let h : is_high_surrogate c.in_ok-first.first ≡ true = cc in
    let e = c.in_ok-first.ensures in
    let us = units_of c.in_ok-first.later.now in
    let less = shorter _ c.in_ok-first.first us e in
    elim c.in_default.branch [
      | in_default-via-in-Some+else-is_low w ↦
          let l : is_low_surrogate w.in-Some.second ≡ false = cc in (
            char_unpaired _ c.in_ok-first.first w.in-Some.second us (units_of w.in-Some.after.now) e
                w.in-Some.ensures h l,
            less,
          )
      | in_default-via-in_default w ↦ (
        char_last _ c.in_ok-first.first us e w.in_default.ensures h,
        less,
      )
    ]
