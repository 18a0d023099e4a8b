-- Braces and their partners, by how many are open.
use Rattle.std.proofs.Common.{◌≡◌, ◌∙◌, ℕ, zero, suc, pred, ◌+◌, ◌-◌, ◌<◌, ◌≤◌, Bool, true, false}
use Rattle.std.proofs.Common.{◌==◌, ◌&&◌, List, length, refl, sym, ap, subst, arith, ⊎_elim}
use Rattle.std.proofs.Common.{Option, Some, None}
use Rattle.std.specs.Prelude.{slice_index, if◌then◌else◌}
use Rattle.std.proofs.lemmas.Bool.{cases_lt, false≢true, and_parts, eqb-true}
use Rattle.std.proofs.lemmas.Bool.{eq-eqb}
use Rattle.std.proofs.lemmas.List.{get_or_past}
use Rattle.resb_grammar.specs.Ascii.{left_brace, right_brace}
use Rattle.resb_grammar.proofs.Numbers.{places_meet}
use Rattle.resb_diagnostics.specs.Braces.{Form, mode_in, depth_at, depth_behind, opens_to, last_to}
use Rattle.resb_diagnostics.specs.Braces.{innermost_in}
use Rattle.resb_diagnostics.specs.Partners.{Opens, Closes, Balanced, nothing}
use Rattle.resb_diagnostics.specs.Partners.{another, group, ArePartners, HasPartner, IsInnermost}
use Rattle.resb_diagnostics.proofs.Passing.{up}

-- a byte that isn't 0 stands within the text
pub within : (text : List ℕ) (n b : ℕ) → slice_index text n ≡ suc b → n < length text
within text n b e = ⊎_elim (λ (w : n < length text). w)
    (λ (w : length text ≤ n). absurd (omega (arith, e, get_or_past text n 0 w)))
    (cases_lt n (length text))

pred_less : (n : ℕ) → pred n ≡ n - 1
pred_less zero = omega arith
pred_less (suc n) = omega arith

module _ {M : Type 0} (f : Form M) (text : List ℕ) where
  -- what a byte does to the count of open braces
  pub data Step (n : ℕ) : Type 0 where
    opening : Opens f text n → depth_at f text (suc n) ≡ depth_at f text n + 1 → Step n
    closing : Closes f text n → depth_at f text (suc n) ≡ depth_at f text n - 1 → Step n
    neither : (Opens f text n → ⊥) → (Closes f text n → ⊥)
        → depth_at f text (suc n) ≡ depth_at f text n → Step n

  pub step : (n : ℕ) → Step n
  step n = by (f.has_tokens (mode_in f text n)) refl
    where
      right : (b : Bool) → f.has_tokens (mode_in f text n) ≡ true
          → (slice_index text n == left_brace) ≡ false
          → (slice_index text n == right_brace) ≡ b → Step n
      right true t l r =
          let e = eqb-true (slice_index text n) right_brace r in
          closing record { fits = within text n 124 e; tokens = t; stands = e }
          (ap (λ u. depth_behind u (slice_index text n) (depth_at f text n)) t
          ∙ ap (λ u. if u then suc (depth_at f text n)
          else (if slice_index text n == right_brace then pred (depth_at f text n)
          else depth_at f text n)) l
          ∙ ap (λ u. if u then pred (depth_at f text n) else depth_at f text n) r
          ∙ pred_less (depth_at f text n))
      right false t l r =
          neither
          (λ o. absurd (false≢true (sym l ∙ ap (λ b. b == left_brace) o.stands)))
          (λ o. absurd (false≢true (sym r ∙ ap (λ b. b == right_brace) o.stands)))
          (ap (λ u. depth_behind u (slice_index text n) (depth_at f text n)) t
          ∙ ap (λ u. if u then suc (depth_at f text n)
          else (if slice_index text n == right_brace then pred (depth_at f text n)
          else depth_at f text n)) l
          ∙ ap (λ u. if u then pred (depth_at f text n) else depth_at f text n) r)

      left : (b : Bool) → f.has_tokens (mode_in f text n) ≡ true
          → (slice_index text n == left_brace) ≡ b → Step n
      left true t l =
          let e = eqb-true (slice_index text n) left_brace l in
          opening record { fits = within text n 122 e; tokens = t; stands = e }
          (ap (λ u. depth_behind u (slice_index text n) (depth_at f text n)) t
          ∙ ap (λ u. if u then suc (depth_at f text n)
          else (if slice_index text n == right_brace then pred (depth_at f text n)
          else depth_at f text n)) l
          ∙ omega arith)
      left false t l = right (slice_index text n == right_brace) t l refl

      by : (t : Bool) → f.has_tokens (mode_in f text n) ≡ t → Step n
      by true t = left (slice_index text n == left_brace) t refl
      by false t =
          neither (λ o. false≢true (sym t ∙ o.tokens)) (λ o. false≢true (sym t ∙ o.tokens))
          (ap (λ u. depth_behind u (slice_index text n) (depth_at f text n)) t)

  -- a `{` is no `}`
  not_both : (n : ℕ) → Opens f text n → Closes f text n → ⊥
  not_both n o c = absurd (omega (arith, o.stands, c.stands))

  pub depth_up : (n : ℕ) → Opens f text n → depth_at f text (suc n) ≡ depth_at f text n + 1
  depth_up n o = elim (step n) [
    | opening _ e ↦ e
    | closing c e ↦ absurd (not_both n o c)
    | neither isnt _ e ↦ absurd (isnt o)
  ]

  pub depth_down : (n : ℕ) → Closes f text n → depth_at f text (suc n) ≡ depth_at f text n - 1
  depth_down n c = elim (step n) [
    | opening o e ↦ absurd (not_both n o c)
    | closing _ e ↦ e
    | neither _ isnt e ↦ absurd (isnt c)
  ]

  pub depth_same : (n : ℕ) → (Opens f text n → ⊥) → (Closes f text n → ⊥)
      → depth_at f text (suc n) ≡ depth_at f text n
  depth_same n o c = elim (step n) [
    | opening is e ↦ absurd (o is)
    | closing is e ↦ absurd (c is)
    | neither _ _ e ↦ e
  ]

  -- behind braces that have their partners as many are open as before
  pub balanced_depth : (a b : ℕ) → Balanced f text a b → depth_at f text b ≡ depth_at f text a
  balanced_depth a b (nothing _) = refl
  balanced_depth a b (another _ _ o c rest) =
      balanced_depth (suc a) b rest ∙ depth_same a o c
  balanced_depth a b (group _ m _ o inner c rest) =
      let i = balanced_depth (suc a) m inner in
      let u = depth_up a o in
      let d = depth_down m c in
      let r = balanced_depth (suc m) b rest in
      omega (arith, i, u, d, r)

  balanced_order : (a b : ℕ) → Balanced f text a b → a ≤ b
  balanced_order a b (nothing _) = omega arith
  balanced_order a b (another _ _ o c rest) =
      let r = balanced_order (suc a) b rest in omega (arith, r)
  balanced_order a b (group _ m _ o inner c rest) =
      let i = balanced_order (suc a) m inner in
      let r = balanced_order (suc m) b rest in
      omega (arith, i, r)

  -- between such braces no fewer are open
  balanced_above : (a b k : ℕ) → Balanced f text a b → a ≤ k → k ≤ b
      → depth_at f text a ≤ depth_at f text k
  balanced_above a b k (nothing _) low high =
      let e : a ≡ k = omega (arith, low, high) in
      omega (arith, ap (depth_at f text) e)
  balanced_above a b k (another _ _ o c rest) low high =
      ⊎_elim (λ (w : a < k).
      let h = balanced_above (suc a) b k rest (omega (arith, w)) high in
      let s = depth_same a o c in omega (arith, h, s))
      (λ (w : k ≤ a). let e : a ≡ k = omega (arith, low, w) in
      omega (arith, ap (depth_at f text) e)) (cases_lt a k)
  balanced_above a b k (group _ m _ o inner c rest) low high =
      let u = depth_up a o in
      let i = balanced_depth (suc a) m inner in
      let d = depth_down m c in
      ⊎_elim (λ (w : a < k).
      ⊎_elim (λ (v : m < k).
      let h = balanced_above (suc m) b k rest (omega (arith, v)) high in
      omega (arith, h, u, i, d))
      (λ (v : k ≤ m).
      let h = balanced_above (suc a) m k inner (omega (arith, w)) v in omega (arith, h, u))
      (cases_lt m k))
      (λ (w : k ≤ a). let e : a ≡ k = omega (arith, low, w) in
      omega (arith, ap (depth_at f text) e)) (cases_lt a k)

  -- where fewer are open at a later place, a `}` ends what is balanced from a place on
  record Falls (a b : ℕ) : Type 0 where
    pub at : ℕ
    pub before : at < b
    pub stretch : Balanced f text a at
    pub closes : Closes f text at

  fall_step : (a b : ℕ) → depth_at f text b < depth_at f text a
      → ((c : ℕ) → a < c → c ≤ b → depth_at f text b < depth_at f text c → Falls c b)
      → a < b → Falls a b
  fall_step a b less on w = elim (step a) [
    | closing c e ↦ record { at = a; before = w; stretch = nothing a; closes = c }
    | neither o c e ↦
        let h = on (suc a) (omega arith) (omega (arith, w)) (omega (arith, less, e)) in
        record {
          at = h.at;
          before = h.before;
          stretch = another a h.at o c h.stretch;
          closes = h.closes;
        }
    | opening o e ↦
        let h = on (suc a) (omega arith) (omega (arith, w)) (omega (arith, less, e)) in
        let s = balanced_depth (suc a) h.at h.stretch in
        let d = depth_down h.at h.closes in
        let order = balanced_order (suc a) h.at h.stretch in
        let k = on (suc h.at) (omega (arith, order)) (omega (arith, h.before))
        (omega (arith, less, e, s, d)) in
        record {
          at = k.at;
          before = k.before;
          stretch = group a h.at k.at o h.stretch h.closes k.stretch;
          closes = k.closes;
        }
  ]

  falls_by : (fuel a b : ℕ) → b ≤ a + fuel → a ≤ b → depth_at f text b < depth_at f text a
      → Falls a b
  falls_by zero a b enough order less =
      let e : a ≡ b = omega (arith, enough, order) in
      absurd (omega (arith, ap (depth_at f text) e, less))
  falls_by (suc fuel) a b enough order less =
      ⊎_elim (fall_step a b less
      (λ c low high h. falls_by fuel c b (omega (arith, enough, low)) high h))
      (λ (w : b ≤ a). let e : a ≡ b = omega (arith, order, w) in
      absurd (omega (arith, ap (depth_at f text) e, less))) (cases_lt a b)

  falls : (a b : ℕ) → a ≤ b → depth_at f text b < depth_at f text a → Falls a b
  falls a b order less = falls_by (b - a) a b (omega (arith, order)) order less

  -- a `{` has its partner where no more than before it are open at a later place
  partner_by : (p b : ℕ) → p < b → Opens f text p → depth_at f text b ≤ depth_at f text p
      → HasPartner f text p
  partner_by p b order o less =
      let u = depth_up p o in
      let h = falls (suc p) b (omega (arith, order)) (omega (arith, less, u)) in
      (h.at, record { opens = o; between = h.stretch; closes = h.closes })

  -- a `{` that leads to this many open braces is told
  not_told : (depth n : ℕ) → opens_to f depth text n ≡ false → Opens f text n
      → depth_at f text n + 1 ≡ depth → ⊥
  not_told depth n isnt o e =
      let s : suc (depth_at f text n) ≡ depth = omega (arith, e) in
      false≢true (sym isnt
      ∙ ap (λ t. (t && slice_index text n == left_brace) && suc (depth_at f text n) == depth)
      o.tokens
      ∙ ap (λ b. (true && b == left_brace) && suc (depth_at f text n) == depth) o.stands
      ∙ ap (λ m. (true && left_brace == left_brace) && m == depth) s
      ∙ eq-eqb depth depth refl)

  -- where no `{` leads to so many open braces, fewer stay open
  stays_below : (depth a b : ℕ) → a ≤ b → depth_at f text a < depth
      → ((k : ℕ) → a ≤ k → k < b → opens_to f depth text k ≡ false) → depth_at f text b < depth
  stays_below depth a b order less none =
      up (λ k. depth_at f text k < depth) a b less order
      (λ k low high h. elim (step k) [
        | opening o e ↦
            ⊎_elim (λ (w : depth_at f text k + 1 < depth). omega (arith, w, e))
            (λ (w : depth ≤ depth_at f text k + 1).
            absurd (not_told depth k (none k low high) o (omega (arith, w, h))))
            (cases_lt (depth_at f text k + 1) depth)
        | closing c e ↦ omega (arith, e, h)
        | neither o c e ↦ omega (arith, e, h)
      ])

  -- the last `{` that leads to so many open braces, and that none does
  record IsLast (depth n p : ℕ) : Type 0 where
    pub before : p < n
    pub told : opens_to f depth text p ≡ true
    pub none : (k : ℕ) → p < k → k < n → opens_to f depth text k ≡ false

  last_on : (depth n p : ℕ) → IsLast depth n p → opens_to f depth text n ≡ false
      → IsLast depth (suc n) p
  last_on depth n p l isnt = record {
    before = omega (arith, l.before);
    told = l.told;
    none = λ k low high. ⊎_elim (λ (w : k < n). l.none k low w)
        (λ (w : n ≤ k). let e : n ≡ k = omega (arith, w, high) in
        subst (λ i. opens_to f depth text i ≡ false) e isnt) (cases_lt k n);
  }

  abbrev Tells : (depth n : ℕ) → Option ℕ → Type 0
  Tells depth n None = (k : ℕ) → k < n → opens_to f depth text k ≡ false
  Tells depth n (Some p) = IsLast depth n p

  tells_on : (depth n : ℕ) (o : Option ℕ) → Tells depth n o
      → opens_to f depth text n ≡ false → Tells depth (suc n) o
  tells_on depth n None h isnt = λ k high. ⊎_elim (λ (w : k < n). h k w)
      (λ (w : n ≤ k). let e : n ≡ k = omega (arith, w, high) in
      subst (λ i. opens_to f depth text i ≡ false) e isnt) (cases_lt k n)
  tells_on depth n (Some p) h isnt = last_on depth n p h isnt

  tells_by : (depth n : ℕ) (b : Bool) → opens_to f depth text n ≡ b
      → Tells depth n (last_to f depth text n)
      → Tells depth (suc n) (if b then Some n else last_to f depth text n)
  tells_by depth n true e h = record {
    before = omega arith;
    told = e;
    none = λ k low high. absurd (omega (arith, low, high));
  }
  tells_by depth n false e h = tells_on depth n (last_to f depth text n) h e

  last_is : (depth n : ℕ) → Tells depth n (last_to f depth text n)
  last_is depth zero = λ k low. absurd (omega (arith, low))
  last_is depth (suc n) =
      tells_by depth n (opens_to f depth text n) refl (last_is depth n)

  told_opens : (depth p : ℕ) → opens_to f depth text p ≡ true → Opens f text p
  told_opens depth p e =
      let all = and_parts (f.has_tokens (mode_in f text p) && slice_index text p == left_brace)
      (suc (depth_at f text p) == depth) e in
      let both = and_parts (f.has_tokens (mode_in f text p)) (slice_index text p == left_brace)
      all.0 in
      let is = eqb-true (slice_index text p) left_brace both.1 in
      record { fits = within text p 122 is; tokens = both.0; stands = is }

  told_depth : (depth p : ℕ) → opens_to f depth text p ≡ true
      → suc (depth_at f text p) ≡ depth
  told_depth depth p e =
      eqb-true (suc (depth_at f text p)) depth
      (and_parts (f.has_tokens (mode_in f text p) && slice_index text p == left_brace)
      (suc (depth_at f text p) == depth) e).1

  -- behind the last `{` that leads to the depth at the end, no fewer are open
  no_fewer : (p k : ℕ) → IsLast (depth_at f text (length text)) (length text) p → p < k
      → k ≤ length text → depth_at f text (length text) ≤ depth_at f text k
  no_fewer p k l low high =
      ⊎_elim (λ (w : depth_at f text k < depth_at f text (length text)).
      let h = stays_below (depth_at f text (length text)) k (length text) high w
      (λ j above below. l.none j (omega (arith, low, above)) below) in
      absurd (omega (arith, h)))
      (λ (w : depth_at f text (length text) ≤ depth_at f text k). w)
      (cases_lt (depth_at f text k) (depth_at f text (length text)))

  pub innermost_is : IsInnermost f text (innermost_in f text)
  innermost_is = by (innermost_in f text)
      (last_is (depth_at f text (length text)) (length text))
    where
      by : (o : Option ℕ) → Tells (depth_at f text (length text)) (length text) o
          → IsInnermost f text o
      by (Some p) l = (
        told_opens (depth_at f text (length text)) p l.told,
        λ has.
            let are = has.1 in
            let u = depth_up p are.opens in
            let i = balanced_depth (suc p) has.0 are.between in
            let d = depth_down has.0 are.closes in
            let order = balanced_order (suc p) has.0 are.between in
            let fits = are.closes.fits in
            let many = no_fewer p (suc has.0) l (omega (arith, order)) (omega (arith, fits)) in
            let t = told_depth (depth_at f text (length text)) p l.told in
            omega (arith, u, i, d, many, t),
        λ q low o.
            let fits = o.fits in
            partner_by q (length text) fits o (no_fewer p q l low (omega (arith, fits))),
      )
      by None h = λ q o.
          let fits = o.fits in
          partner_by q (length text) fits o
          (⊎_elim (λ (w : 0 < depth_at f text (length text)).
          let b = stays_below (depth_at f text (length text)) 0 (length text) (omega arith) w
          (λ k low high. h k high) in
          absurd (omega (arith, b)))
          (λ (w : depth_at f text (length text) ≤ 0). omega (arith, w))
          (cases_lt 0 (depth_at f text (length text))))

  pub one_innermost : (a b : Option ℕ) → IsInnermost f text a → IsInnermost f text b → a ≡ b
  one_innermost None None h k = refl
  one_innermost None (Some r) h k = absurd (k.1 (h r k.0))
  one_innermost (Some p) None h k = absurd (h.1 (k p h.0))
  one_innermost (Some p) (Some r) h k =
      ap Some (places_meet p r (λ w. k.1 (h.2 r w k.0)) (λ w. h.1 (k.2 p w h.0)))

  first_ends : (p q r : ℕ) → ArePartners f text p q → ArePartners f text p r → q < r → ⊥
  first_ends p q r a b low =
      let u = depth_up p a.opens in
      let i = balanced_depth (suc p) q a.between in
      let d = depth_down q a.closes in
      let order = balanced_order (suc p) q a.between in
      let h = balanced_above (suc p) r (suc q) b.between (omega (arith, order))
      (omega (arith, low)) in
      omega (arith, u, i, d, h)

  pub one_partner : (p q r : ℕ) → ArePartners f text p q → ArePartners f text p r → q ≡ r
  one_partner p q r a b = places_meet q r (first_ends p q r a b) (first_ends p r q b a)
