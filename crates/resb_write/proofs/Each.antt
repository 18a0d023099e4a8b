-- What a test of all words, or of all positions, says of each, and how lists grow by one of them.
use Rattle.std.proofs.Common.{◌≡◌, ℕ, ◌+◌, ◌-◌, ◌<◌, ◌≤◌, List, [], ◌∷◌, ◌++◌, length, take, map}
use Rattle.std.proofs.Common.{Option, true, sym, ◌∙◌, ap, subst, append_assoc, get_or, arith}
use Rattle.std.proofs.Common.{leb, nat_le, ◌&&◌}
use Rattle.std.specs.List.{list_all}
use Rattle.std.proofs.lemmas.List.{take_more, map-append, get_or-map, length-map}
use Rattle.std.proofs.lemmas.Bool.{leb-true, and_parts}
use Rattle.std.proofs.lemmas.List.Folds.{list_all-map}
use Rattle.resb_layout.specs.Laid.{Lends, is_short_by, are_short_by, are_near, near_by, short_by}
use Rattle.resb_layout.specs.Laid.{nears_by, offsets_by}
use Rattle.resb_layout.proofs.Denoted.{IsShortWord, short_word, all_short}
use Rattle.resb_layout.proofs.Forms.{offsets_are, nears_are}
use Rattle.resb_write.proofs.Lists.{passes}

near_there : (ps : List ℕ) (i : ℕ) → are_near ps ≡ true → i < length ps → get_or ps i 0 ≤ 65535
near_there ps i near h = leb-true (get_or ps i 0) 65535 (passes (λ p. leb p 65535) ps i h
    (and_parts (leb (length ps) 65535) (list_all (λ p. leb p 65535) ps) near).1)

module _ (lent : Option Lends) where
  -- positions are near where each is, and a unit can count them
  pub near_is_each : (ps : List ℕ) → are_near (nears_by lent ps)
      ≡ (nat_le (length ps) 65535 && list_all (λ p. nat_le (near_by lent p) 65535) ps)
  near_is_each ps =
      ap are_near (nears_are lent ps)
      ∙ (λ i. nat_le (length-map ps (near_by lent) i) 65535
      && list_all-map (λ p. nat_le p 65535) (near_by lent) ps i)

  pub near_at : (ps : List ℕ) (i : ℕ) → are_near (nears_by lent ps) ≡ true → i < length ps
      → near_by lent (get_or ps i 0) ≤ 65535
  near_at ps i near h =
      let e = get_or-map (near_by lent) ps i 0 0 h in
      let n = near_there (map (near_by lent) ps) i
      (subst (λ qs. are_near qs ≡ true) (nears_are lent ps) near)
      (omega (arith, h, length-map ps (near_by lent))) in
      omega (arith, e, n)

  pub short_at : (ws : List ℕ) (i : ℕ) → are_short_by lent ws ≡ true → i < length ws
      → IsShortWord lent (get_or ws i 0)
  short_at ws i short h =
      short_word lent (get_or ws i 0) (passes (is_short_by lent) ws i h (all_short lent ws short))

  pub nears_more : (us ps : List ℕ) (i : ℕ) → i < length ps
      → (us ++ nears_by lent (take i ps)) ++ near_by lent (get_or ps i 0) ∷ []
      ≡ us ++ nears_by lent (take (i + 1) ps)
  nears_more us ps i h =
      let one : List ℕ = get_or ps i 0 ∷ [] in
      append_assoc us (nears_by lent (take i ps)) (map (near_by lent) one)
      ∙ ap (λ l. us ++ (l ++ map (near_by lent) one)) (nears_are lent (take i ps))
      ∙ ap (λ l. us ++ l) (sym (map-append (near_by lent) (take i ps) one))
      ∙ ap (λ l. us ++ map (near_by lent) l) (sym (take_more ps i 0 h))
      ∙ ap (λ l. us ++ l) (sym (nears_are lent (take (i + 1) ps)))

  pub offsets_more : (us ws : List ℕ) (i : ℕ) → i < length ws
      → (us ++ offsets_by lent (take i ws)) ++ short_by lent (get_or ws i 0 - 0x6000_0000) ∷ []
      ≡ us ++ offsets_by lent (take (i + 1) ws)
  offsets_more us ws i h =
      let one : List ℕ = get_or ws i 0 ∷ [] in
      let told : ℕ → ℕ = (λ w. short_by lent (w - 0x6000_0000)) in
      append_assoc us (offsets_by lent (take i ws)) (map told one)
      ∙ ap (λ l. us ++ (l ++ map told one)) (offsets_are lent (take i ws))
      ∙ ap (λ l. us ++ l) (sym (map-append told (take i ws) one))
      ∙ ap (λ l. us ++ map told l) (sym (take_more ws i 0 h))
      ∙ ap (λ l. us ++ l) (sym (offsets_are lent (take (i + 1) ws)))
