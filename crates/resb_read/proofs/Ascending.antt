-- Looking up a name where the keys ascend.
use Rattle.std.proofs.Common.{ℕ, List, [], ◌∷◌, ◌++◌, ◌≡◌, Option, Some, None, Bool, true, false}
use Rattle.std.proofs.Common.{refl, sym, ◌∙◌, ap, subst}
use Rattle.std.specs.Str.{bytes_eq}
use Rattle.std.specs.Ordering.{nat_cmp, is_eq, ordering_reverse}
use Rattle.std.specs.Cmp.Lexicographic.{slice_cmp}
use Rattle.std.specs.declared.cmp.Ordering.TheVariants.{Less, Equal, Greater}
use Rattle.std.proofs.lemmas.Map.Text.{is_eq-slice_cmp}
use Rattle.std.proofs.lemmas.Cmp.{nat_list_cmp_total}
use Rattle.std.proofs.lemmas.Option.{same_Some}
use Rattle.std.proofs.lemmas.Bool.{true≢false, false≢true}
use Rattle.resb_read.specs.Places.{Place}
use Rattle.resb_read.specs.Tables.{is_text, last_from, key_of, IsBelow, AscendAbove, Ascend}
use Rattle.resb_read.specs.Tables.{is_above, text_or_empty, keys_ascend_above, keys_ascend_from}
use Rattle.resb_read.specs.Tables.{keys_ascend}
use Rattle.std.proofs.lemmas.Map.Lookups.{exact_bytes}
use Rattle.std.proofs.Common.{if◌then◌else◌}
use Rattle.resb_read.proofs.PlainLists.{tied_bytes}
use Rattle.resb_tree.proofs.Numbers.{is_lt_tells}

below_not : (s t : List ℕ) → IsBelow s t → bytes_eq s t ≡ false
below_not s t h = sym (is_eq-slice_cmp s t) ∙ ap is_eq h

above_not : (s t : List ℕ) → IsBelow s t → bytes_eq t s ≡ false
above_not s t h =
    let back : slice_cmp nat_cmp t s ≡ Greater = nat_list_cmp_total.antisymm t s
    ∙ ap ordering_reverse h in sym (is_eq-slice_cmp t s) ∙ ap is_eq back

trans : (r s t : List ℕ) → IsBelow r s → IsBelow s t → IsBelow r t
trans r s t h k = nat_list_cmp_total.trans r s t h k

lower : (a b : List ℕ) (es : List (Place × Place)) → IsBelow a b → AscendAbove b es
    → AscendAbove a es
lower a b [] h k = k
lower a b (e ∷ es) h (t, key, above, rest) = (t, key, trans a b t.0 h above, rest)

ascend_of : (low : List ℕ) (es : List (Place × Place)) → AscendAbove low es → Ascend es
ascend_of low [] h = h
ascend_of low (e ∷ es) (t, key, above, rest) = (t, key, rest)

-- no entry above the name has it
pub after_unnamed : (name : List ℕ) (found : Option Place) (es : List (Place × Place))
    → AscendAbove name es → last_from name found es ≡ found
after_unnamed name found [] h = refl
after_unnamed name found (e ∷ es) (t, key, above, rest) =
    let no : is_text name (key_of e) ≡ false = ap (is_text name) key ∙ above_not name t.0 above in
    rw no (after_unnamed name found es (lower name t.0 es above rest))

pub from_append : (name : List ℕ) (front : List (Place × Place)) (found : Option Place)
    (rest : List (Place × Place))
    → last_from name found (front ++ rest) ≡ last_from name (last_from name found front) rest
from_append name [] found rest = refl
from_append name (e ∷ front) found rest =
    from_append name front (if is_text name (key_of e) then Some e.1 else found) rest

below_at : (low : List ℕ) (front : List (Place × Place)) (e : Place × Place)
    (back : List (Place × Place)) (t : List ℕ × ℕ) → AscendAbove low (front ++ e ∷ back)
    → key_of e ≡ Some t → IsBelow low t.0
below_at low [] e back t (s, key, above, rest) k =
    subst (λ u. IsBelow low u.0) (same_Some _ _ (sym key ∙ k)) above
below_at low (f ∷ front) e back t (s, key, above, rest) k =
    trans low s.0 t.0 above (below_at s.0 front e back t rest k)

pub back_above : (front : List (Place × Place)) (e : Place × Place)
    (back : List (Place × Place)) (t : List ℕ × ℕ) → Ascend (front ++ e ∷ back)
    → key_of e ≡ Some t → AscendAbove t.0 back
back_above [] e back t (s, key, rest) k =
    subst (λ u. AscendAbove u.0 back) (same_Some _ _ (sym key ∙ k)) rest
back_above (f ∷ front) e back t (s, key, rest) k =
    back_above front e back t (ascend_of s.0 (front ++ e ∷ back) rest) k

pub back_ascend : (front : List (Place × Place)) (e : Place × Place)
    (back : List (Place × Place)) (t : List ℕ × ℕ) → Ascend (front ++ e ∷ back)
    → key_of e ≡ Some t → Ascend back
back_ascend front e back t h k = ascend_of t.0 back (back_above front e back t h k)

-- an entry among those that ascend has a text as its key
pub key_in : (front : List (Place × Place)) (e : Place × Place) (back : List (Place × Place))
    → Ascend (front ++ e ∷ back) → (t : List ℕ × ℕ) × (key_of e ≡ Some t)
key_in [] e back (t, key, rest) = (t, key)
key_in (f ∷ front) e back (t, key, rest) =
    key_in front e back (ascend_of t.0 (front ++ e ∷ back) rest)

front_above : (low : List ℕ) (front rest : List (Place × Place)) → AscendAbove low (front ++ rest)
    → AscendAbove low front
front_above low [] rest h = tt
front_above low (e ∷ front) rest (t, key, above, later) =
    (t, key, above, front_above t.0 front rest later)

pub front_ascend : (front rest : List (Place × Place)) → Ascend (front ++ rest) → Ascend front
front_ascend [] rest h = tt
front_ascend (e ∷ front) rest (t, key, later) = (t, key, front_above t.0 front rest later)

-- the name is above an entry's key: it stands behind that entry, if anywhere
pub stands_behind : (name : List ℕ) (found : Option Place) (front : List (Place × Place))
    (e : Place × Place) (back : List (Place × Place)) (t : List ℕ × ℕ)
    → Ascend (front ++ e ∷ back) → key_of e ≡ Some t → IsBelow t.0 name
    → last_from name found (front ++ e ∷ back) ≡ last_from name found back
stands_behind name found [] e back t h k below =
    let no : is_text name (key_of e) ≡ false = ap (is_text name) k ∙ below_not t.0 name below in
    ap (λ b. last_from name (if b then Some e.1 else found) back) no
stands_behind name found (f ∷ front) e back t (s, key, rest) k below =
    let first : IsBelow s.0 t.0 = below_at s.0 front e back t rest k in
    let no : is_text name (key_of f) ≡ false = ap (is_text name) key
    ∙ below_not s.0 name (trans s.0 t.0 name first below) in
    ap (λ b. last_from name (if b then Some f.1 else found) (front ++ e ∷ back)) no
    ∙ stands_behind name found front e back t (ascend_of s.0 (front ++ e ∷ back) rest) k below

-- the name is below an entry's key: it stands before that entry, if anywhere
pub stands_before : (name : List ℕ) (found : Option Place) (front : List (Place × Place))
    (e : Place × Place) (back : List (Place × Place)) (t : List ℕ × ℕ)
    → Ascend (front ++ e ∷ back) → key_of e ≡ Some t → IsBelow name t.0
    → last_from name found (front ++ e ∷ back) ≡ last_from name found front
stands_before name found front e back t h k above =
    from_append name front found (e ∷ back)
    ∙ after_unnamed name (last_from name found front) (e ∷ back)
    (t, k, above, back_above front e back t h k)

-- the name is an entry's key
pub stands_here : (name : List ℕ) (found : Option Place) (front : List (Place × Place))
    (e : Place × Place) (back : List (Place × Place)) (t : List ℕ × ℕ)
    → Ascend (front ++ e ∷ back) → key_of e ≡ Some t → t.0 ≡ name → bytes_eq t.0 name ≡ true
    → last_from name found (front ++ e ∷ back) ≡ Some e.1
stands_here name found front e back t h k same is =
    let yes : is_text name (key_of e) ≡ true = ap (is_text name) k ∙ is in
    from_append name front found (e ∷ back)
    ∙ ap (λ b. last_from name (if b then Some e.1 else last_from name found front) back) yes
    ∙ after_unnamed name (Some e.1) back
    (subst (λ n. AscendAbove n back) same (back_above front e back t h k))

-- the test says that they ascend
sound_step : (low : List ℕ) (o : Option (List ℕ × ℕ)) (es : List (Place × Place))
    (b : Bool) → b ≡ is_above low o
    → (if b then keys_ascend_above (text_or_empty o) es else false) ≡ true
    → (t : List ℕ × ℕ) × (o ≡ Some t) × IsBelow low t.0 × (keys_ascend_above t.0 es ≡ true)
sound_step low None es true k h = absurd (true≢false k)
sound_step low None es false k h = absurd (false≢true h)
sound_step low (Some t) es true k h = (t, refl, is_lt_tells (slice_cmp nat_cmp low t.0) (sym k), h)
sound_step low (Some t) es false k h = absurd (false≢true h)

sound_above : (low : List ℕ) (es : List (Place × Place)) → keys_ascend_above low es ≡ true
    → AscendAbove low es
sound_above low [] h = tt
sound_above low (e ∷ es) h =
    let (t, key, above, rest) = sound_step low (key_of e) es (is_above low (key_of e)) refl h in
    (t, key, above, sound_above t.0 es rest)

sound_from : (o : Option (List ℕ × ℕ)) (es : List (Place × Place)) → keys_ascend_from o es ≡ true
    → (t : List ℕ × ℕ) × (o ≡ Some t) × AscendAbove t.0 es
sound_from (Some t) es h = (t, refl, sound_above t.0 es h)
sound_from None es h = absurd (false≢true h)

pub keys_ascend_sound : (es : List (Place × Place)) → keys_ascend es ≡ true → Ascend es
keys_ascend_sound [] h = tt
keys_ascend_sound (e ∷ es) h = sound_from (key_of e) es h

-- a step of the halving
module _ (name : List ℕ) (all : Option Place) (window front later : List (Place × Place))
    (e : Place × Place) (t : List ℕ × ℕ) (is : window ≡ front ++ e ∷ later)
    (holds : Ascend window × (last_from name None window ≡ all)) (key : key_of e ≡ Some t) where
  ascends_so : Ascend (front ++ e ∷ later)
  ascends_so = subst Ascend is holds.0

  found_so : last_from name None (front ++ e ∷ later) ≡ all
  found_so = sym (ap (last_from name None) is) ∙ holds.1

  pub half_less : slice_cmp nat_cmp name t.0 ≡ Less
      → Ascend front × (last_from name None front ≡ all)
  half_less c = (
    front_ascend front (e ∷ later) ascends_so,
    sym (stands_before name None front e later t ascends_so key c) ∙ found_so,
  )

  pub half_greater : slice_cmp nat_cmp name t.0 ≡ Greater
      → Ascend later × (last_from name None later ≡ all)
  half_greater c =
      let below : IsBelow t.0 name = nat_list_cmp_total.antisymm t.0 name
      ∙ ap ordering_reverse c in (
        back_ascend front e later t ascends_so key,
        sym (stands_behind name None front e later t ascends_so key below) ∙ found_so,
      )

  pub half_equal : slice_cmp nat_cmp name t.0 ≡ Equal → Some e.1 ≡ all
  half_equal c =
      let same : name ≡ t.0 = exact_bytes name t.0 c in
      let back : slice_cmp nat_cmp t.0 name ≡ Equal = nat_list_cmp_total.antisymm t.0 name
      ∙ ap ordering_reverse c in
      sym (stands_here name None front e later t ascends_so key (sym same)
      (tied_bytes t.0 name back)) ∙ found_so
