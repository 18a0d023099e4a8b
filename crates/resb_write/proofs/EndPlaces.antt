-- Where keys stand in a compact file: at the ends of the keys in which they lie.
use Rattle.std.proofs.Common.{◌≡◌, ℕ, ◌+◌, ◌-◌, ◌^◌, ◌<◌, min, List, ◌∷◌, ◌++◌, length}
use Rattle.std.proofs.Common.{reverse, map, Option, Some, None, option_map, Bool}
use Rattle.std.proofs.Common.{true, false, cond, inl, inr, refl, sym, ◌∙◌, ap, subst, arith}
use Rattle.std.proofs.Common.{append_assoc, length-append, unwrap_or}
use Rattle.std.specs.List.{Contains}
use Rattle.std.specs.Cmp.Lexicographic.{bytes_decides}
use Rattle.std.proofs.lemmas.List.{reverse-reverse, reverse-append}
use Rattle.resb_tree.specs.Keys.{same_text}
use Rattle.resb_pool.specs.Inner.Extends.{Extends}
use Rattle.resb_layout.specs.KeyBlock.{used, is_among, key_bytes, last_place, keys_start}
use Rattle.resb_layout.specs.CompactKeys.{container, kept, end_position}
use Rattle.resb_layout.specs.TreeFaults.{key_fault}
use Rattle.resb_write.specs.Inner.KeyEnds.{near_end_position}
use Rattle.resb_write.specs.Inner.NearPositions.{near_position}
use Rattle.resb_write.proofs.Keys.{last_of-stands, place_contained, no_place, StandsAt}
use Rattle.resb_layout.proofs.KeyEndsLemmas.{container_is, container_ends, container_among}
use Rattle.resb_layout.proofs.KeyEndsLemmas.{container_greatest, ends_itself, ends_extends}
use Rattle.resb_layout.proofs.KeyEndsLemmas.{extends_ends}
use Rattle.resb_write.proofs.KeysBeside.{told_each, filter_room}
use Rattle.resb_write.proofs.Known.{placed}
use Rattle.resb_write.proofs.Lists.{contained-filter, any_member, member_any}

extends_trans : (a b c : List ℕ) → Extends a b → Extends b c → Extends a c
extends_trans a b c h k = record {
  rest = k.rest ++ h.rest;
  is = h.is ∙ ap (λ l. l ++ h.rest) k.is ∙ append_assoc c k.rest h.rest;
}

module _ (js : List (List ℕ)) (k : List ℕ) where
  abbrev holder : List ℕ
  holder = container js k

  -- a container is its own
  pub own_container : holder ≡ container js holder
  own_container = container_is js holder holder (inl refl) (ends_itself holder)
      (λ i h e. container_greatest js k i h (extends_ends i k (extends_trans (reverse i)
      (reverse holder) (reverse k) (ends_extends i holder e) (container_ends js k))))

  -- that of one of the keys is kept
  pub holder_kept : Contains js k → Contains (kept js) holder
  holder_kept h = contained-filter (λ i. same_text i (container js i)) js holder
      ((bytes_decides holder (container js holder)).1 own_container)
      (elim (container_among js k) [
        | inl e ↦ subst (Contains js) (sym e) h
        | inr c ↦ c
      ])

  holder_placed : Contains js k → (n : ℕ) × (last_place holder (kept js) ≡ Some n)
  holder_placed h = by (last_place holder (kept js)) refl
    where
      by : (o : Option ℕ) → last_place holder (kept js) ≡ o
          → (n : ℕ) × (last_place holder (kept js) ≡ Some n)
      by (Some n) e = (n, e)
      by None e = absurd (no_place holder (kept js) e (holder_kept h))

  -- before the key its container has some bytes
  pub front : (x : List ℕ) × (holder ≡ x ++ k)
  front =
      let h = container_ends js k in (
        reverse h.rest,
        sym (reverse-reverse holder) ∙ ap reverse h.is ∙ reverse-append (reverse k) h.rest
            ∙ ap (λ l. reverse h.rest ++ l) (reverse-reverse k),
      )

  front_long : length holder - length k ≡ length front.0
  front_long = omega (arith, ap length front.1, length-append front.0 k)

  -- with its container's zero byte the key stands where the container ends
  pub end_stands : (ls : List (List ℕ)) (n : ℕ) → last_place holder ls ≡ Some n
      → StandsAt (key_bytes ls) k (n + (length holder - length k))
  end_stands ls n e =
      let s = last_of-stands holder ls n e in
      record {
        front = s.front ++ front.0;
        back = s.back;
        place = omega (arith, s.place, front_long, length-append s.front front.0);
        is = s.is ∙ ap (λ l. s.front ++ (l ++ 0 ∷ s.back)) front.1
            ∙ ap (λ l. s.front ++ l) (append_assoc front.0 k (0 ∷ s.back))
            ∙ sym (append_assoc s.front front.0 (k ++ 0 ∷ s.back));
      }

  pub end_inside : (ls : List (List ℕ)) (n : ℕ) → last_place holder ls ≡ Some n
      → n + length holder < length (key_bytes ls)
  end_inside ls n e =
      let s = last_of-stands holder ls n e in
      omega (
        arith,
        ap length s.is,
        s.place,
        length-append s.front (holder ++ 0 ∷ s.back),
        length-append holder (0 ∷ s.back),
      )

  pub among_test : Contains js k → is_among js k ≡ true
  among_test h = member_any (same_text k) js k h ((bytes_decides k k).1 refl)

  pub among_contained : is_among js k ≡ true → Contains js k
  among_contained e =
      let m = any_member (same_text k) js e in
      subst (Contains js) (sym ((bytes_decides k m.0).0 m.2)) m.1

  -- where a key of the list stands
  end_is : Contains js k → (n : ℕ) → last_place holder (kept js) ≡ Some n
      → end_position js k ≡ Some (keys_start + n + (length holder - length k))
  end_is h n e = ap (λ b. cond b (option_map (λ m. keys_start + m + (length holder - length k))
      (last_place holder (kept js))) None) (among_test h)
      ∙ ap (option_map (λ m. keys_start + m + (length holder - length k))) e

  -- what has a position is a key of the list
  pub record IsEnd (at : ℕ) : Type 0 where
    pub given : Contains js k
    pub place : ℕ
    pub placed : last_place holder (kept js) ≡ Some place
    pub is : at ≡ keys_start + place + (length holder - length k)

  pub end_known : (at : ℕ) → end_position js k ≡ Some at → IsEnd at
  end_known at e = by (is_among js k) refl e
    where
      found : (o : Option ℕ) → last_place holder (kept js) ≡ o → is_among js k ≡ true
          → option_map (λ m. keys_start + m + (length holder - length k)) o ≡ Some at → IsEnd at
      found None f g h = (let n : None ≡ Some at = h in cc)
      found (Some n) f g h = record {
        given = among_contained g;
        place = n;
        placed = f;
        is = (let same : Some (keys_start + n + (length holder - length k)) ≡ Some at = h in cc);
      }

      by : (b : Bool) → is_among js k ≡ b
          → cond b (option_map (λ m. keys_start + m + (length holder - length k))
          (last_place holder (kept js))) None ≡ Some at → IsEnd at
      by true g h = found (last_place holder (kept js)) refl g h
      by false g h = (let n : None ≡ Some at = h in cc)

-- where the keys us of tables have no fault with a list ks
module _ (us ks : List (List ℕ)) (faultless : key_fault us (used us ks) ≡ None) where
  abbrev js : List (List ℕ)
  js = used us ks

  pub listed : (k : List ℕ) → Contains us k → Contains js k
  listed k c = by (last_place k js) refl
    where
      by : (o : Option ℕ) → last_place k js ≡ o → Contains js k
      by (Some n) e = place_contained k js n e
      by None e =
          let p = placed us js faultless k c in
          let f : None ≡ Some p.0 = sym (ap (option_map (λ n. 32 + n)) e) ∙ p.1 in
          cc

  abbrev told : List ℕ → ℕ
  told k = near_end_position js (kept js) k

  told_is : length (key_bytes js) < 2 ^ 28 → (k : List ℕ) → Contains us k
      → end_position js k ≡ Some (told k)
  told_is small k c =
      let h = listed k c in
      let (n, e) = holder_placed js k h in
      let inside = end_inside js k (kept js) n e in
      let room = filter_room (λ i. same_text i (container js i)) js in
      let more : ℕ = length (container js k) - length k in
      let same : 32 + n + more
      ≡ min (min (32 + n) (2 ^ 32 - 1) + min more (2 ^ 32 - 1)) (2 ^ 32 - 1) =
      omega (arith, inside, room, small) in
      end_is js k h n e ∙ ap Some same
      ∙ ap (λ o. Some (min (unwrap_or (option_map near_position o) 0 + min more (2 ^ 32 - 1))
      (2 ^ 32 - 1))) (sym e)

  -- each key of the tables has a position
  pub all_at_ends : length (key_bytes js) < 2 ^ 28
      → map (end_position js) us ≡ map Some (map told us)
  all_at_ends small = told_each (end_position js) told us (told_is small)
