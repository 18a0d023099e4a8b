-- A warning is told where its reason is due, and nowhere else.
use Rattle.std.proofs.Common.{◌≡◌, ◌∙◌, ℕ, zero, suc, ◌<◌, ℤ, Bool, true, false, ◌&&◌}
use Rattle.std.proofs.Common.{List, [], ◌∷◌, ◌++◌, refl, sym, ap, subst, arith, ⊎_elim, inl, inr}
use Rattle.std.proofs.Common.{Option, Some, None, Contains}
use Rattle.std.specs.Prelude.{if◌then◌else◌, ◌⊎◌}
use Rattle.std.proofs.lemmas.Bool.{false≢true, and_parts}
use Rattle.std.proofs.lemmas.List.Elements.{Contains-append_left, Contains-append_right}
use Rattle.std.proofs.lemmas.List.Elements.{Contains-append_cases}
use Rattle.resb_diagnostics.specs.Pieces.{PlacedText, TextPiece, a_string, a_type, opening, closing}
use Rattle.resb_diagnostics.specs.Pieces.{a_comma, piece_at}
use Rattle.resb_diagnostics.specs.Groups.{GroupItem, string_item, group_item, comma_item, OpenGroup}
use Rattle.resb_diagnostics.specs.Groups.{groups_at, is_string_piece, pair_keys}
use Rattle.resb_diagnostics.specs.Items.{IsRightBefore, IsLastBefore, IsOpenAt}
use Rattle.resb_diagnostics.specs.Warnings.{warning_at, is_first_backslash, of_backslash}
use Rattle.resb_diagnostics.specs.Warnings.{of_some_keys, is_array, of_group, is_nothing, has_none}
use Rattle.resb_diagnostics.specs.Warnings.{is_empty, is_below_root, of_empty, of_comma_behind}
use Rattle.resb_diagnostics.specs.Warnings.{of_comma, behind_pairs, lone_string, of_some_lone}
use Rattle.resb_diagnostics.specs.Warnings.{of_lone, of_string, unsigned, number_of, is_octal}
use Rattle.resb_diagnostics.specs.Warnings.{of_octal, is_negative, cut, of_kept, of_cut, of_number}
use Rattle.resb_diagnostics.specs.Warnings.{of_piece, of_end, warned}
use Rattle.resb_diagnostics.specs.Causes.{IsFirstBackslash, IsString, IsInRow, EndsAt}
use Rattle.resb_diagnostics.specs.Causes.{RepeatsKey, IsBehindPairs, IsLone, IsEmpty, IsOctal}
use Rattle.resb_diagnostics.specs.Causes.{IsCut}
use Rattle.resb_diagnostics.specs.Causes.{IsDue, Repeats, RepeatsIcuKey, IsRepeated}
use Rattle.resb_diagnostics.specs.declared.named.Named.{Named}
use Rattle.resb_diagnostics.specs.declared.named.Named.TheVariants as named
use Rattle.resb_diagnostics.specs.declared.warning.Reason.{Reason}
use Rattle.resb_diagnostics.specs.declared.warning.Reason.TheVariants as reason
use Rattle.resb_diagnostics.specs.declared.warning.Warning.{Warning}
use Rattle.resb_diagnostics.proofs.Passing.{up}
use Rattle.resb_diagnostics.proofs.BackslashLemmas.{first_backslash_is, is_first_so}
use Rattle.resb_diagnostics.proofs.PiecesLemmas.{closing_place, comma_place}
use Rattle.resb_diagnostics.proofs.RepeatsLemmas.{never, single, has, keys_tell, repeats}
use Rattle.resb_diagnostics.proofs.RepeatsLemmas.{repeated_told}
use Rattle.resb_diagnostics.proofs.ItemsLemmas.{Levels, level, levels, is_open, open_is}
use Rattle.resb_diagnostics.proofs.ItemsLemmas.{last_is, last_one, around_from}
use Rattle.resb_diagnostics.proofs.ItemsLemmas.{is_icu_open, icu_open_is}
use Rattle.resb_diagnostics.specs.IcuKeys.{icu_repeated, icu_groups_at}

-- one warning, if a test says so
pub once : (b : Bool) (x w : Warning) → Contains (if b then x ∷ [] else []) w
    → (b ≡ true) × (w ≡ x)
once true x w h = (refl, single x w h)
once false x w h = absurd (never w h)

is_once : (b : Bool) (x : Warning) → b ≡ true → Contains (if b then x ∷ [] else []) x
is_once b x e = subst (λ c. Contains (if c then x ∷ [] else []) x) (sym e) (has x)

-- a warning is one of a byte
record ToldAt (text : List ℕ) (n : ℕ) (w : Warning) : Type 0 where
  pub at : ℕ
  pub within : at < n
  pub told : Contains (of_backslash text at) w
      ⊎ Contains (of_end (piece_at text at) (groups_at text at)) w

told_at : (text : List ℕ) (n : ℕ) (w : Warning) → Contains (warned text n) w → ToldAt text n w
told_at text zero w h = absurd (never w h)
told_at text (suc n) w h =
    ⊎_elim
    (λ (c : Contains (warned text n) w).
    let t = told_at text n w c in
    record { at = t.at; within = omega (arith, t.within); told = t.told })
    (λ (c : Contains (of_backslash text n ++ of_end (piece_at text n) (groups_at text n)) w).
    record {
      at = n;
      within = omega arith;
      told = Contains-append_cases (of_backslash text n)
          (of_end (piece_at text n) (groups_at text n)) w c;
    })
    (Contains-append_cases (warned text n)
    (of_backslash text n ++ of_end (piece_at text n) (groups_at text n)) w h)

told_on : (text : List ℕ) (n k : ℕ) (w : Warning) → k < n
    → Contains (of_backslash text k ++ of_end (piece_at text k) (groups_at text k)) w
    → Contains (warned text n) w
told_on text n k w low h =
    up (λ j. Contains (warned text j) w) (suc k) n
    (Contains-append_right (warned text k)
    (of_backslash text k ++ of_end (piece_at text k) (groups_at text k)) w h)
    (omega (arith, low))
    (λ j _ _ c. Contains-append_left (warned text j)
    (of_backslash text j ++ of_end (piece_at text j) (groups_at text j)) w c)

piece_told : (text : List ℕ) (n k : ℕ) (p : Option TextPiece) (w : Warning) → k < n
    → piece_at text k ≡ p → Contains (of_end p (groups_at text k)) w → Contains (warned text n) w
piece_told text n k p w low e h =
    told_on text n k w low
    (Contains-append_right (of_backslash text k) (of_end (piece_at text k) (groups_at text k)) w
    (subst (λ q. Contains (of_end q (groups_at text k)) w) (sym e) h))

due_as : (text : List ℕ) (n : ℕ) (w v : Warning) → w ≡ v → IsDue text n v.reason v.place
    → IsDue text n w.reason w.place
due_as text n w v e h = subst (λ u. IsDue text n u.reason u.place) (sym e) h

backslash_due : (text : List ℕ) (n k : ℕ) (w : Warning) → k < n
    → Contains (of_backslash text k) w → IsDue text n w.reason w.place
backslash_due text n k w low h =
    let o = once (is_first_backslash text k) (warning_at reason.Backslash k) w h in
    due_as text n w (warning_at reason.Backslash k) o.1 (low, first_backslash_is text k o.0)

string_before : (text : List ℕ) (k : ℕ) (o : Option TextPiece) → is_string_piece o ≡ true
    → IsLastBefore (piece_at text) k o
    → (t : PlacedText) × IsRightBefore (piece_at text) k (a_string t)
string_before text k None h b = absurd (false≢true h)
string_before text k (Some (a_string t)) h b = (t, b)
string_before text k (Some (a_type name)) h b = absurd (false≢true h)
string_before text k (Some opening) h b = absurd (false≢true h)
string_before text k (Some (closing m)) h b = absurd (false≢true h)
string_before text k (Some (a_comma m)) h b = absurd (false≢true h)

row_due : (text : List ℕ) (n k : ℕ) (s : PlacedText) (w : Warning) → k < n
    → piece_at text k ≡ Some (a_string s) → Contains (of_string s (groups_at text k).last) w
    → IsDue text n w.reason w.place
row_due text n k s w low e h =
    let l = (groups_at text k).last in
    let o = once (is_string_piece l) (warning_at reason.StringsInRow s.place) w h in
    let b = string_before text k l o.0 (last_is text k) in
    due_as text n w (warning_at reason.StringsInRow s.place) o.1
    (record {
      string = s;
      at = k;
      stands = record { within = low; ends = e; begins = refl };
      other = b.0;
      before = b.1;
    })

-- a string in a group
module _ (text : List ℕ) (n k : ℕ) (s : PlacedText) (g : OpenGroup) (low : k < n)
    (e : piece_at text k ≡ Some (a_string s)) (is : IsOpenAt (piece_at text) k g)
  where
    octal_due : (w : Warning)
        → (g.named ≡ named.Integer) ⊎ (g.named ≡ named.IntVector) → Contains (of_octal s) w
        → IsDue text n w.reason w.place
    octal_due w t h =
        let o = once (is_octal (unsigned s.bytes)) (warning_at reason.LeadingZero s.place) w h in
        due_as text n w (warning_at reason.LeadingZero s.place) o.1
        (record {
          string = s;
          at = k;
          stands = record { within = low; ends = e; begins = refl };
          group = g;
          is_open = is;
          numbers = t;
          octal = o.0;
        })

    cut_due : (w : Warning) (z : Option ℤ)
        → cut (is_negative s.bytes) (number_of (unsigned s.bytes)) ≡ z
        → g.named ≡ named.Integer → Contains (of_kept s.place z) w
        → IsDue text n w.reason w.place
    cut_due w None c t h = absurd (never w h)
    cut_due w (Some z) c t h =
        due_as text n w (warning_at (reason.CutNumber z) s.place)
        (single (warning_at (reason.CutNumber z) s.place) w h)
        (record {
          string = s;
          at = k;
          stands = record { within = low; ends = e; begins = refl };
          group = g;
          is_open = is;
          integer = t;
          is_cut = c;
        })

    number_due : (w : Warning) (t : Named) → g.named ≡ t → Contains (of_number s t) w
        → IsDue text n w.reason w.place
    number_due w named.Integer t h =
        ⊎_elim (λ (c : Contains (of_octal s) w). octal_due w (inl t) c)
        (λ (c : Contains (of_cut s) w).
        cut_due w (cut (is_negative s.bytes) (number_of (unsigned s.bytes))) refl t c)
        (Contains-append_cases (of_octal s) (of_cut s) w h)
    number_due w named.IntVector t h = octal_due w (inr t) h
    number_due w named.Array t h = absurd (never w h)
    number_due w named.Another t h = absurd (never w h)
    number_due w named.Nothing t h = absurd (never w h)

-- the warnings of keys are those of repeated ones
keys_repeat : (g : OpenGroup) (w : Warning) (keys : Option (List PlacedText))
    → pair_keys g.items ≡ keys → is_array g.named ≡ false → Contains (of_some_keys keys) w
    → (first : ℕ) × (w.reason ≡ reason.RepeatedKey first) × Repeats g w.place first
keys_repeat g w None p a h = absurd (never w h)
keys_repeat g w (Some keys) p a h =
    let r = keys_tell [] keys w h in (
      r.first,
      ap (λ v. v.reason) r.is,
      record {
        keys = keys;
        has = record { no_array = a; pairs = p };
        repeated = subst (λ n. IsRepeated keys n r.first) (sym (ap (λ v. v.place) r.is))
            (repeats keys w r);
      },
    )

pub group_repeats : (g : OpenGroup) (w : Warning) → Contains (of_group g) w
    → (first : ℕ) × (w.reason ≡ reason.RepeatedKey first) × Repeats g w.place first
group_repeats g w h = by (is_array g.named) refl h
  where
    by : (b : Bool) → is_array g.named ≡ b
        → Contains (if b then [] else of_some_keys (pair_keys g.items)) w
        → (first : ℕ) × (w.reason ≡ reason.RepeatedKey first) × Repeats g w.place first
    by true a c = absurd (never w c)
    by false a c = keys_repeat g w (pair_keys g.items) refl a c

pub repeats_told : (g : OpenGroup) (place first : ℕ) → Repeats g place first
    → Contains (of_group g) (warning_at (reason.RepeatedKey first) place)
repeats_told g place first h =
    let w = warning_at (reason.RepeatedKey first) place in
    subst (λ b. Contains (if b then [] else of_some_keys (pair_keys g.items)) w)
    (sym h.has.no_array)
    (subst (λ ks. Contains (of_some_keys ks) w) (sym h.has.pairs)
    (repeated_told h.keys place first h.repeated))

-- a group that ends
module _ (text : List ℕ) (n k : ℕ) (g : OpenGroup) (low : k < n) (ends : EndsAt text k g) where
  group_due : (w : Warning) → Contains (of_group g) w → IsDue text n w.reason w.place
  group_due w h =
      let r = group_repeats g w h in
      subst (λ c. IsDue text n c w.place) (sym r.1)
      (record { at = k; within = low; group = g; ends = ends; repeats = r.2 })

  lone_due : (w : Warning) (items : List GroupItem) → g.items ≡ items
      → g.named ≡ named.Nothing → Contains (of_some_lone (lone_string items)) w
      → IsDue text n w.reason w.place
  lone_due w [] e t h = absurd (never w h)
  lone_due w (group_item ∷ xs) e t h = absurd (never w h)
  lone_due w (comma_item ∷ xs) e t h = absurd (never w h)
  lone_due w (string_item s ∷ xs) e t h = by (pair_keys xs) refl h
    where
      by : (keys : Option (List PlacedText)) → pair_keys xs ≡ keys
          → Contains (of_some_lone (behind_pairs s keys)) w → IsDue text n w.reason w.place
      by None p c = absurd (never w c)
      by (Some []) p c = absurd (never w c)
      by (Some (key ∷ keys)) p c =
          due_as text n w (warning_at reason.LoneString s.place)
          (single (warning_at reason.LoneString s.place) w c)
          (record {
            at = k;
            within = low;
            group = g;
            ends = ends;
            no_type = t;
            string = s;
            begins = refl;
            pairs = xs;
            items = e;
            key = key;
            keys = keys;
            has = p;
          })

nothing_is : (t : Named) → is_nothing t ≡ true → t ≡ named.Nothing
nothing_is named.Nothing h = refl
nothing_is named.Array h = absurd (false≢true h)
nothing_is named.Integer h = absurd (false≢true h)
nothing_is named.IntVector h = absurd (false≢true h)
nothing_is named.Another h = absurd (false≢true h)

none_is : (items : List GroupItem) → has_none items ≡ true → items ≡ []
none_is [] h = refl
none_is (x ∷ xs) h = absurd (false≢true h)

named_lone : (text : List ℕ) (n k : ℕ) (g : OpenGroup) → k < n → EndsAt text k g
    → (w : Warning) → Contains (of_lone g) w → IsDue text n w.reason w.place
named_lone text n k g low ends w h = by (is_nothing g.named) refl h
  where
    by : (b : Bool) → is_nothing g.named ≡ b
        → Contains (if b then of_some_lone (lone_string g.items) else []) w
        → IsDue text n w.reason w.place
    by true t c = lone_due text n k g low ends w g.items refl (nothing_is g.named t) c
    by false t c = absurd (never w c)

empty_due : (text : List ℕ) (n k : ℕ) (w : Warning) (g : OpenGroup) (around : List OpenGroup)
    → k < n → piece_at text k ≡ Some (closing k) → Levels (piece_at text) k g around
    → is_empty g ≡ true → is_below_root around ≡ true → w ≡ warning_at reason.EmptyGroup k
    → IsDue text n w.reason w.place
empty_due text n k w g [] low c l e b is = absurd (false≢true b)
empty_due text n k w g (next ∷ []) low c l e b is = absurd (false≢true b)
empty_due text n k w g (next ∷ further ∷ around) low c (level p _ _ _ _ h (level q _ _ _ _ f l)) e b
    is =
    let both = and_parts (is_nothing g.named) (has_none g.items) e in
    due_as text n w (warning_at reason.EmptyGroup k) is
    (record {
      within = low;
      closes = c;
      from = p;
      group = g;
      is_open = h;
      no_type = nothing_is g.named both.0;
      items = none_is g.items both.1;
      outer_from = q;
      outer = next;
      around = f;
    })

closing_due : (text : List ℕ) (n k : ℕ) (w : Warning) → k < n
    → piece_at text k ≡ Some (closing k)
    → Contains (of_piece (closing k) (groups_at text k)) w → IsDue text n w.reason w.place
closing_due text n k w low e h =
    let g = groups_at text k in
    let ends : EndsAt text k g.inner = record { closes = e; is_open = open_is text k } in
    ⊎_elim (λ (c : Contains (of_group g.inner) w). group_due text n k g.inner low ends w c)
    (λ (c : Contains (of_lone g.inner ++ of_empty k g) w).
    ⊎_elim (λ (d : Contains (of_lone g.inner) w). named_lone text n k g.inner low ends w d)
    (λ (d : Contains (of_empty k g) w).
    let o = once (is_empty g.inner && is_below_root g.around) (warning_at reason.EmptyGroup k) w d
    in
    let both = and_parts (is_empty g.inner) (is_below_root g.around) o.0 in
    empty_due text n k w g.inner g.around low e (levels text k) both.0 both.1 o.1)
    (Contains-append_cases (of_lone g.inner) (of_empty k g) w c))
    (Contains-append_cases (of_group g.inner) (of_lone g.inner ++ of_empty k g) w h)

comma_due : (text : List ℕ) (n k : ℕ) (w : Warning) (g : OpenGroup) → k < n
    → piece_at text k ≡ Some (a_comma k) → IsOpenAt (piece_at text) k g → Contains (of_comma k g) w
    → IsDue text n w.reason w.place
comma_due text n k w g low e is h = by (is_array g.named) refl h
  where
    behind : (keys : Option (List PlacedText)) → pair_keys g.items ≡ keys
        → is_array g.named ≡ false → Contains (of_comma_behind k keys) w
        → IsDue text n w.reason w.place
    behind None p a c = absurd (never w c)
    behind (Some []) p a c = absurd (never w c)
    behind (Some (key ∷ keys)) p a c =
        due_as text n w (warning_at reason.CommaBehindPairs k)
        (single (warning_at reason.CommaBehindPairs k) w c)
        (record {
          within = low;
          stands = e;
          group = g;
          is_open = is;
          key = key;
          keys = keys;
          has = record { no_array = a; pairs = p };
        })

    by : (b : Bool) → is_array g.named ≡ b
        → Contains (if b then [] else of_comma_behind k (pair_keys g.items)) w
        → IsDue text n w.reason w.place
    by true a c = absurd (never w c)
    by false a c = behind (pair_keys g.items) refl a c

piece_due : (text : List ℕ) (n k : ℕ) (w : Warning) (p : Option TextPiece) → k < n
    → piece_at text k ≡ p → Contains (of_end p (groups_at text k)) w
    → IsDue text n w.reason w.place
piece_due text n k w None low e h = absurd (never w h)
piece_due text n k w (Some (a_string s)) low e h =
    let g = groups_at text k in
    ⊎_elim (λ (c : Contains (of_string s g.last) w). row_due text n k s w low e c)
    (λ (c : Contains (of_number s g.inner.named) w).
    number_due text n k s g.inner low e (open_is text k) w g.inner.named refl c)
    (Contains-append_cases (of_string s g.last) (of_number s g.inner.named) w h)
piece_due text n k w (Some (a_type name)) low e h = absurd (never w h)
piece_due text n k w (Some opening) low e h = absurd (never w h)
piece_due text n k w (Some (closing m)) low e h =
    let same = closing_place text k m e in
    closing_due text n k w low (e ∙ ap (λ i. Some (closing i)) same)
    (subst (λ i. Contains (of_piece (closing i) (groups_at text k)) w) same h)
piece_due text n k w (Some (a_comma m)) low e h =
    let same = comma_place text k m e in
    comma_due text n k w (groups_at text k).inner low (e ∙ ap (λ i. Some (a_comma i)) same)
    (open_is text k)
    (subst (λ i. Contains (of_comma i (groups_at text k).inner) w) same h)

pub due : (text : List ℕ) (n : ℕ) (w : Warning) → Contains (warned text n) w
    → IsDue text n w.reason w.place
due text n w h =
    let t = told_at text n w h in
    ⊎_elim (λ (c : Contains (of_backslash text t.at) w). backslash_due text n t.at w t.within c)
    (λ (c : Contains (of_end (piece_at text t.at) (groups_at text t.at)) w).
    piece_due text n t.at w (piece_at text t.at) t.within refl c) t.told

-- the warning of a backslash is told
backslash_told : (text : List ℕ) (n place : ℕ) → place < n → IsFirstBackslash text place
    → Contains (warned text n) (warning_at reason.Backslash place)
backslash_told text n place low h =
    let w = warning_at reason.Backslash place in
    told_on text n place w low
    (Contains-append_left (of_backslash text place)
    (of_end (piece_at text place) (groups_at text place)) w
    (is_once (is_first_backslash text place) w (is_first_so text place h)))

-- the warnings of a string are told
string_told : (text : List ℕ) (n place : ℕ) (s : PlacedText) (at : ℕ) (r : Reason)
    → IsString text n place s at
    → Contains (of_string s (groups_at text at).last ++ of_number s (groups_at text at).inner.named)
    (warning_at r s.place)
    → Contains (warned text n) (warning_at r place)
string_told text n place s at r is h =
    subst (λ p. Contains (warned text n) (warning_at r p)) is.begins
    (piece_told text n at (Some (a_string s)) (warning_at r s.place) is.within is.ends h)

row_told : (text : List ℕ) (n place : ℕ) → IsInRow text n place
    → Contains (warned text n) (warning_at reason.StringsInRow place)
row_told text n place h =
    let g = groups_at text h.at in
    let w = warning_at reason.StringsInRow h.string.place in
    let l = last_one (piece_at text) h.at g.last (Some (a_string h.other)) (last_is text h.at)
    h.before in
    string_told text n place h.string h.at reason.StringsInRow h.stands
    (Contains-append_left (of_string h.string g.last) (of_number h.string g.inner.named) w
    (is_once (is_string_piece g.last) w (ap is_string_piece l)))

number_told : (text : List ℕ) (n place : ℕ) (s : PlacedText) (at : ℕ) (r : Reason)
    (g : OpenGroup) → IsString text n place s at → IsOpenAt (piece_at text) at g
    → Contains (of_number s g.named) (warning_at r s.place)
    → Contains (warned text n) (warning_at r place)
number_told text n place s at r g is o h =
    let w = warning_at r s.place in
    let same = is_open text at g o in
    string_told text n place s at r is
    (Contains-append_right (of_string s (groups_at text at).last)
    (of_number s (groups_at text at).inner.named) w
    (subst (λ k. Contains (of_number s k.named) w) (sym same) h))

octal_told : (text : List ℕ) (n place : ℕ) → IsOctal text n place
    → Contains (warned text n) (warning_at reason.LeadingZero place)
octal_told text n place h =
    number_told text n place h.string h.at reason.LeadingZero h.group h.stands h.is_open
    (⊎_elim
    (λ (t : h.group.named ≡ named.Integer).
    subst (λ k. Contains (of_number h.string k) w) (sym t)
    (Contains-append_left (of_octal h.string) (of_cut h.string) w told))
    (λ (t : h.group.named ≡ named.IntVector).
    subst (λ k. Contains (of_number h.string k) w) (sym t) told)
    h.numbers)
  where
    w : Warning
    w = warning_at reason.LeadingZero h.string.place

    told : Contains (of_octal h.string) (warning_at reason.LeadingZero h.string.place)
    told = is_once (is_octal (unsigned h.string.bytes))
        (warning_at reason.LeadingZero h.string.place) h.octal

cut_told : (text : List ℕ) (n : ℕ) (z : ℤ) (place : ℕ) → IsCut text n z place
    → Contains (warned text n) (warning_at (reason.CutNumber z) place)
cut_told text n z place h =
    let w = warning_at (reason.CutNumber z) h.string.place in
    number_told text n place h.string h.at (reason.CutNumber z) h.group h.stands h.is_open
    (subst (λ k. Contains (of_number h.string k) w) (sym h.integer)
    (Contains-append_right (of_octal h.string) (of_cut h.string) w
    (subst (λ o. Contains (of_kept h.string.place o) w) (sym h.is_cut) (has w))))

-- the warnings of a group at its `}` are told
group_told : (text : List ℕ) (n at : ℕ) (g : OpenGroup) (w : Warning) → at < n
    → EndsAt text at g
    → Contains (of_group g ++ (of_lone g ++ of_empty at (groups_at text at))) w
    → Contains (warned text n) w
group_told text n at g w low ends h =
    piece_told text n at (Some (closing at)) w low ends.closes
    (subst (λ k. Contains (of_group k ++ (of_lone k ++ of_empty at (groups_at text at))) w)
    (sym (is_open text at g ends.is_open)) h)

key_told : (text : List ℕ) (n place first : ℕ) → RepeatsKey text n place first
    → Contains (warned text n) (warning_at (reason.RepeatedKey first) place)
key_told text n place first h =
    let w = warning_at (reason.RepeatedKey first) place in
    group_told text n h.at h.group w h.within h.ends
    (Contains-append_left (of_group h.group)
    (of_lone h.group ++ of_empty h.at (groups_at text h.at)) w
    (repeats_told h.group place first h.repeats))

lone_told : (text : List ℕ) (n place : ℕ) → IsLone text n place
    → Contains (warned text n) (warning_at reason.LoneString place)
lone_told text n place h =
    let w = warning_at reason.LoneString h.string.place in
    let e = of_empty h.at (groups_at text h.at) in
    let lone : Contains (of_lone h.group) w =
    subst (λ t. Contains (if is_nothing t then of_some_lone (lone_string h.group.items) else []) w)
    (sym h.no_type)
    (subst (λ xs. Contains (of_some_lone (lone_string xs)) w) (sym h.items)
    (subst (λ ks. Contains (of_some_lone (behind_pairs h.string ks)) w) (sym h.has) (has w))) in
    subst (λ p. Contains (warned text n) (warning_at reason.LoneString p)) h.begins
    (group_told text n h.at h.group w h.within h.ends
    (Contains-append_right (of_group h.group) (of_lone h.group ++ e) w
    (Contains-append_left (of_lone h.group) e w lone)))

empty_told : (text : List ℕ) (n place : ℕ) → IsEmpty text n place
    → Contains (warned text n) (warning_at reason.EmptyGroup place)
empty_told text n place h =
    let w = warning_at reason.EmptyGroup place in
    let g = groups_at text place in
    let inner = is_open text place h.group (inl (h.from, h.is_open)) in
    let around = around_from text h.from place h.group h.is_open
    ∙ ap (λ l. (groups_at text h.from).inner ∷ l)
    (around_from text h.outer_from h.from h.outer h.around) in
    let empty : (is_empty g.inner && is_below_root g.around) ≡ true =
    ap (λ k. is_empty k && is_below_root g.around) inner
    ∙ ap (λ t. (is_nothing t && has_none h.group.items) && is_below_root g.around) h.no_type
    ∙ ap (λ xs. (true && has_none xs) && is_below_root g.around) h.items
    ∙ ap (λ l. (true && true) && is_below_root l) around in
    group_told text n place h.group w h.within
    (record { closes = h.closes; is_open = inl (h.from, h.is_open) })
    (Contains-append_right (of_group h.group) (of_lone h.group ++ of_empty place g) w
    (Contains-append_right (of_lone h.group) (of_empty place g) w
    (is_once (is_empty g.inner && is_below_root g.around) w empty)))

comma_told : (text : List ℕ) (n place : ℕ) → IsBehindPairs text n place
    → Contains (warned text n) (warning_at reason.CommaBehindPairs place)
comma_told text n place h =
    let w = warning_at reason.CommaBehindPairs place in
    piece_told text n place (Some (a_comma place)) w h.within h.stands
    (subst (λ k. Contains (of_comma place k) w) (sym (is_open text place h.group h.is_open))
    (subst (λ b. Contains (if b then [] else of_comma_behind place (pair_keys h.group.items)) w)
    (sym h.has.no_array)
    (subst (λ ks. Contains (of_comma_behind place ks) w) (sym h.has.pairs) (has w))))

pub told : (text : List ℕ) (n : ℕ) (r : Reason) (place : ℕ) → IsDue text n r place
    → Contains (warned text n) (warning_at r place)
told text n (reason.RepeatedKey first) place h = key_told text n place first h
told text n reason.Backslash place h = backslash_told text n place h.0 h.1
told text n reason.StringsInRow place h = row_told text n place h
told text n reason.CommaBehindPairs place h = comma_told text n place h
told text n reason.LoneString place h = lone_told text n place h
told text n reason.EmptyGroup place h = empty_told text n place h
told text n reason.LeadingZero place h = octal_told text n place h
told text n (reason.CutNumber z) place h = cut_told text n z place h
told text n reason.JoinedOverLine place h = absurd h
told text n reason.UnquotedGroup place h = absurd h
told text n reason.OctalNumber place h = absurd h
told text n reason.UnknownEscape place h = absurd h
told text n reason.TextBehind place h = absurd h
told text n reason.MixedQuotes place h = absurd h

-- in a text of ICU's form
pub icu_due : (text : List ℕ) (n : ℕ) (w : Warning) → Contains (icu_repeated text n) w
    → RepeatsIcuKey text n w
icu_due text n w h =
    let r = group_repeats (icu_groups_at text n).inner w h in record {
      group = (icu_groups_at text n).inner;
      is_open = icu_open_is text n;
      first = r.0;
      reason = r.1;
      repeats = r.2;
    }

pub icu_told : (text : List ℕ) (n : ℕ) (w : Warning) → RepeatsIcuKey text n w
    → Contains (icu_repeated text n) w
icu_told text n w h =
    subst (λ g. Contains (of_group g) w) (sym (is_icu_open text n h.group h.is_open))
    (subst (λ r. Contains (of_group h.group) (warning_at r w.place)) (sym h.reason)
    (repeats_told h.group w.place h.first h.repeats))
