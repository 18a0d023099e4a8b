-- Keys of which an equal one stands before, and the warnings of keys.
use Rattle.std.proofs.Common.{◌≡◌, ◌∙◌, ℕ, Bool, true, false, List, [], ◌∷◌, ◌++◌}
use Rattle.std.proofs.Common.{refl, sym, ap, subst, arith, ⊎_elim, Option, Some, None, Contains}
use Rattle.std.proofs.Common.{nat_eq, append-nil, append_assoc, cond}
use Rattle.std.specs.Cmp.Lexicographic.{pointwise, bytes_decides}
use Rattle.std.proofs.lemmas.Bool.{false≢true}
use Rattle.std.proofs.lemmas.Option.{none-some, same_Some}
use Rattle.std.proofs.lemmas.List.Elements.{Contains-append_left, Contains-append_right}
use Rattle.std.proofs.lemmas.List.Elements.{Contains-append_cases, Contains-push}
use Rattle.std.proofs.lemmas.List.Elements.{Contains-push_cases}
use Rattle.resb_diagnostics.specs.Pieces.{PlacedText}
use Rattle.resb_diagnostics.specs.Warnings.{warning_at, first_place, of_key, of_keys}
use Rattle.resb_diagnostics.specs.Causes.{IsFirstWith, IsRepeated}
use Rattle.resb_diagnostics.specs.declared.warning.Reason.TheVariants as reason
use Rattle.resb_diagnostics.specs.declared.warning.Warning.{Warning}

-- nothing stands in an empty list, and one thing in a list of one
pub never : {A : Type 0} (x : A) → Contains [] x → ⊥
never x h = let low = h.1 in omega (arith, low)

pub single : {A : Type 0} (x y : A) → Contains (x ∷ []) y → y ≡ x
single x y h = ⊎_elim (λ (w : Contains [] y). absurd (never y w)) (λ (e : x ≡ y). sym e)
    (Contains-push_cases [] x y h)

pub has : {A : Type 0} (x : A) → Contains (x ∷ []) x
has x = Contains-push [] x

first_on : (bytes : List ℕ) (k : PlacedText) (ks : List PlacedText) (n : ℕ) (b : Bool)
    → pointwise nat_eq bytes k.bytes ≡ b
    → cond b (Some k.place) (first_place bytes ks) ≡ Some n
    → (first_place bytes ks ≡ Some n → IsFirstWith bytes ks n) → IsFirstWith bytes (k ∷ ks) n
first_on bytes k ks n true t e on = record {
  before = [];
  key = k;
  after = ks;
  parts = refl;
  same = sym ((bytes_decides bytes k.bytes).0 t);
  stands = same_Some k.place n e;
  none = λ j c _. never j c;
}
first_on bytes k ks n false t e on =
    let h = on e in record {
      before = k ∷ h.before;
      key = h.key;
      after = h.after;
      parts = ap (λ l. k ∷ l) h.parts;
      same = h.same;
      stands = h.stands;
      none = λ j c same. ⊎_elim (λ (w : Contains (k ∷ []) j).
          false≢true (sym t ∙ (bytes_decides bytes k.bytes).1
          (sym (sym (ap (λ i. i.bytes) (single k j w)) ∙ same))))
          (λ (w : Contains h.before j). h.none j w same)
          (Contains-append_cases (k ∷ []) h.before j c);
    }

pub first_place_is : (bytes : List ℕ) (keys : List PlacedText) (n : ℕ)
    → first_place bytes keys ≡ Some n → IsFirstWith bytes keys n
first_place_is bytes [] n e = absurd (none-some n e)
first_place_is bytes (k ∷ ks) n e =
    first_on bytes k ks n (pointwise nat_eq bytes k.bytes) refl e (first_place_is bytes ks n)

is_first_in : (bytes : List ℕ) (before : List PlacedText) (key : PlacedText)
    (after : List PlacedText) → key.bytes ≡ bytes
    → ((k : PlacedText) → Contains before k → k.bytes ≡ bytes → ⊥)
    → first_place bytes (before ++ key ∷ after) ≡ Some key.place
is_first_in bytes [] key after same none =
    ap (λ b. cond b (Some key.place) (first_place bytes after))
    ((bytes_decides bytes key.bytes).1 (sym same))
is_first_in bytes (k ∷ ks) key after same none =
    ap (λ b. cond b (Some k.place) (first_place bytes (ks ++ key ∷ after)))
    (by (pointwise nat_eq bytes k.bytes) refl)
    ∙ is_first_in bytes ks key after same
    (λ j c. none j (Contains-append_right (k ∷ []) ks j c))
  where
    by : (b : Bool) → pointwise nat_eq bytes k.bytes ≡ b
        → pointwise nat_eq bytes k.bytes ≡ false
    by true t = absurd (none k (Contains-append_left (k ∷ []) ks k (has k))
        (sym ((bytes_decides bytes k.bytes).0 t)))
    by false t = t

pub is_first_place : (bytes : List ℕ) (keys : List PlacedText) (n : ℕ)
    → IsFirstWith bytes keys n → first_place bytes keys ≡ Some n
is_first_place bytes keys n h =
    ap (first_place bytes) h.parts
    ∙ is_first_in bytes h.before h.key h.after h.same h.none ∙ ap Some h.stands

-- a warning of one of some keys, behind others
pub record RepeatsFrom (before ks : List PlacedText) (w : Warning) : Type 0 where
  pub passed : List PlacedText
  pub key : PlacedText
  pub after : List PlacedText
  pub first : ℕ
  pub parts : ks ≡ passed ++ key ∷ after
  pub found : first_place key.bytes (before ++ passed) ≡ Some first
  pub is : w ≡ warning_at (reason.RepeatedKey first) key.place

pub key_tells : (before : List PlacedText) (k : PlacedText) (ks : List PlacedText) (w : Warning)
    (o : Option ℕ) → first_place k.bytes before ≡ o → Contains (of_key k.place o) w
    → RepeatsFrom before (k ∷ ks) w
key_tells before k ks w None e h = absurd (never w h)
key_tells before k ks w (Some first) e h = record {
  passed = [];
  key = k;
  after = ks;
  first = first;
  parts = refl;
  found = ap (first_place k.bytes) (append-nil before) ∙ e;
  is = single (warning_at (reason.RepeatedKey first) k.place) w h;
}

pub keys_tell : (before ks : List PlacedText) (w : Warning) → Contains (of_keys before ks) w
    → RepeatsFrom before ks w
keys_tell before [] w h = absurd (never w h)
keys_tell before (k ∷ ks) w h =
    ⊎_elim
    (λ (c : Contains (of_key k.place (first_place k.bytes before)) w).
    key_tells before k ks w (first_place k.bytes before) refl c)
    (λ (c : Contains (of_keys (before ++ k ∷ []) ks) w).
    let r = keys_tell (before ++ k ∷ []) ks w c in record {
      passed = k ∷ r.passed;
      key = r.key;
      after = r.after;
      first = r.first;
      parts = ap (λ l. k ∷ l) r.parts;
      found = ap (first_place r.key.bytes) (sym (append_assoc before (k ∷ []) r.passed))
          ∙ r.found;
      is = r.is;
    })
    (Contains-append_cases (of_key k.place (first_place k.bytes before))
    (of_keys (before ++ k ∷ []) ks) w h)

pub keys_told_of : (before passed : List PlacedText) (key : PlacedText) (after : List PlacedText)
    (first : ℕ) → first_place key.bytes (before ++ passed) ≡ Some first
    → Contains (of_keys before (passed ++ key ∷ after))
    (warning_at (reason.RepeatedKey first) key.place)
keys_told_of before [] key after first e =
    let w = warning_at (reason.RepeatedKey first) key.place in
    let is = ap (first_place key.bytes) (sym (append-nil before)) ∙ e in
    Contains-append_left (of_key key.place (first_place key.bytes before))
    (of_keys (before ++ key ∷ []) after) w
    (subst (λ o. Contains (of_key key.place o) w) (sym is) (has w))
keys_told_of before (k ∷ ks) key after first e =
    let w = warning_at (reason.RepeatedKey first) key.place in
    Contains-append_right (of_key k.place (first_place k.bytes before))
    (of_keys (before ++ k ∷ []) (ks ++ key ∷ after)) w
    (keys_told_of (before ++ k ∷ []) ks key after first
    (ap (first_place key.bytes) (append_assoc before (k ∷ []) ks) ∙ e))

-- the keys that repeat
pub repeats : (keys : List PlacedText) (w : Warning) (r : RepeatsFrom [] keys w)
    → IsRepeated keys r.key.place r.first
repeats keys w r = record {
  before = r.passed;
  key = r.key;
  after = r.after;
  parts = r.parts;
  stands = refl;
  other = first_place_is r.key.bytes r.passed r.first r.found;
}

pub repeated_told : (keys : List PlacedText) (place first : ℕ) → IsRepeated keys place first
    → Contains (of_keys [] keys) (warning_at (reason.RepeatedKey first) place)
repeated_told keys place first r =
    subst (λ ks. Contains (of_keys [] ks) (warning_at (reason.RepeatedKey first) place))
    (sym r.parts)
    (subst (λ p. Contains (of_keys [] (r.before ++ r.key ∷ r.after))
    (warning_at (reason.RepeatedKey first) p)) r.stands
    (keys_told_of [] r.before r.key r.after first
    (is_first_place r.key.bytes r.before first r.other)))
