-- A string whose first copy is known, behind the strings done: which of their texts it is.
use Rattle.std.proofs.Common.{◌≡◌, ℕ, ◌+◌, ◌<◌, ◌≤◌, List, [], ◌∷◌, ◌++◌, length, get_or, take}
use Rattle.std.proofs.Common.{refl, sym, ◌∙◌, ap, subst, arith, Bor}
use Rattle.std.specs.List.{Contains}
use Rattle.std.proofs.lemmas.List.{get_or-map, length-map, get_or_append_left, get_or_push}
use Rattle.std.proofs.lemmas.List.{length-take-le, get_or-take, get_or_default, map_push}
use Rattle.std.proofs.lemmas.List.{length_push, take-map}
use Rattle.std.proofs.lemmas.List.Elements.{All-push}
use Rattle.std.specs.Str.{IsUtf8}
use Rattle.resb_format.specs.Units.{units, size}
use Rattle.resb_pool.specs.Plan.{nows}
use Rattle.resb_pool.specs.Inner.Placing.{indexed_text, AreTexts, AreTurns}
use Rattle.resb_pool.specs.Inner.Firsts.{IsFirst}
use Rattle.resb_pool.specs.declared.measure.Measure.{Measure}
use Rattle.resb_pool.proofs.Distinct.{has_text}
use Rattle.resb_pool.proofs.Interning.{IsReady, ready_known, ready_new, length-nows}
use Rattle.resb_pool.proofs.Turns.{grown}
use Rattle.resb_pool.proofs.TextLists.{TextList}
use Rattle.resb_pool.proofs.TextLoops.{blank, nows-take}
use Rattle.resb_pool.proofs.Interning.{length-nows}

-- the text t is behind the strings D: what is known of their texts, and of its index i
pub record IsTaken (D : TextList) (t : List ℕ) (T : TextList) (ms : List Measure) (turns : List ℕ)
    (i : ℕ) : Type 0 where
  pub ready : IsReady D t T ms
  pub within : i < length T
  pub stands : indexed_text T i ≡ t
  pub turned : AreTurns (D ++ t ∷ []) T (turns ++ i ∷ [])

module _ (D T : TextList) (ms : List Measure) (turns : List ℕ) (texts : AreTexts D T ms)
    (order : AreTurns D T turns) (t : List ℕ) (f : ℕ)
    (first : IsFirst (D ++ t ∷ []) (length D) f) where
  turns_len : length turns ≡ length D
  turns_len = sym (length-map turns (indexed_text T)) ∙ ap length order.texts

  at_first : indexed_text (D ++ t ∷ []) f ≡ t
  at_first = first.same ∙ get_or_push D t [] (length D) refl

  -- a copy's text is its first copy's
  known_within : f < length turns → get_or turns f 0 < length T
  known_within l = order.within f 0 l

  known_text : f < length turns → indexed_text T (get_or turns f 0) ≡ t
  known_text l = sym (get_or-map (indexed_text T) turns f 0 [] l)
      ∙ ap (λ z. get_or z f []) order.texts
      ∙ sym (get_or_append_left D (t ∷ []) [] f (omega (arith, l, turns_len))) ∙ at_first

  known_has : f < length turns → Contains T t
  known_has l = subst (Contains T) (known_text l) (has_text T (get_or turns f 0) (known_within l))

  -- a first copy is a new text
  first_new : length turns ≤ f → Contains T t → ⊥
  first_new l h =
      let c = (texts.same t).0 h in
      first.none_before c.0 (omega (arith, c.1, l, turns_len))
      (get_or_append_left D (t ∷ []) [] c.0 c.1 ∙ get_or_default D c.0 [] t c.1 ∙ c.2
      ∙ sym (get_or_push D t [] (length D) refl))

  pub taken_again : IsUtf8 t → f < length turns → IsTaken D t T ms turns (get_or turns f 0)
  taken_again u l =
      let i = get_or turns f 0 in
      record {
        ready = ready_known D T ms texts t u (known_has l);
        within = known_within l;
        stands = known_text l;
        turned = record {
          texts = map_push (indexed_text T) turns i
              ∙ (λ j. order.texts j ++ known_text l j ∷ []);
          within = All-push (λ k. k < length T) turns i order.within (known_within l);
          few = omega (arith, order.few, length_push turns i);
        };
      }

  pub taken_first : IsUtf8 t → length turns ≤ f → (m : Measure) → m.unit_count ≡ length (units t)
      → m.size ≡ size t → m.total ≡ 0 → (new : TextList) (ns : List Measure) (i : ℕ)
      → new ≡ T ++ t ∷ [] → ns ≡ ms ++ m ∷ [] → i ≡ length T → IsTaken D t new ns turns i
  taken_first u l m a b z new ns i p q r =
      let n = length_push T t in
      rw (p, q, r) (record {
        ready = ready_new D T ms texts t u (first_new l) m a b z;
        within = omega (arith, n);
        stands = get_or_push T t [] (length T) refl;
        turned = record {
          texts = map_push (indexed_text (T ++ t ∷ [])) turns (length T)
              ∙ (λ j. (grown T (t ∷ []) turns order.within ∙ order.texts) j
              ++ get_or_push T t [] (length T) refl j ∷ []);
          within = All-push (λ k. k < length (T ++ t ∷ [])) turns (length T)
              (λ k d q. omega (arith, order.within k d q, n)) (omega (arith, n));
          few = omega (arith, order.few, length_push turns (length T), n);
        };
      })

-- the first copy of a string among the strings up to it
pub first_so_far : (xs : List (Bor (List ℕ))) (i f : ℕ) → i < length xs → IsFirst (nows xs) i f
    → IsFirst (nows (take i xs) ++ (get_or xs i blank).now ∷ []) (length (nows (take i xs))) f
first_so_far xs i f l h =
    let n : length (nows (take i xs)) ≡ i = length-nows (take i xs)
    ∙ length-take-le i xs (omega (arith, l)) in
    subst (λ z. IsFirst (nows (take i xs) ++ (get_or xs i blank).now ∷ []) z f) (sym n)
    (subst (λ z. IsFirst z i f) (nows-take xs i blank l) (record {
      reaches = h.reaches;
      same = so_far f (omega (arith, h.reaches)) ∙ h.same ∙ sym (so_far i (omega arith));
      none_before = λ j b e. h.none_before j b
          (sym (so_far j (omega (arith, b, h.reaches))) ∙ e ∙ so_far i (omega arith));
    }))
  where
    so_far : (j : ℕ) → j < i + 1
        → indexed_text (nows (take (i + 1) xs)) j ≡ indexed_text (nows xs) j
    so_far j b = ap (λ z. get_or z j []) (sym (take-map (λ (y : Bor (List ℕ)). y.now) (i + 1) xs))
        ∙ get_or-take (i + 1) (nows xs) j [] b
