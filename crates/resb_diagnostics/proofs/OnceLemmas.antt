-- No warning is told twice of a text in which each `}` ends a group.
use Rattle.std.proofs.Common.{◌≡◌, ◌∙◌, ℕ, zero, suc, ◌≤◌, ℤ, Bool, true, false, ◌&&◌}
use Rattle.std.proofs.Common.{List, [], ◌∷◌, ◌++◌, map, refl, sym, ap, subst, arith, ⊎_elim}
use Rattle.std.proofs.Common.{inl, inr, Option, Some, None, Contains}
use Rattle.std.specs.Prelude.{if◌then◌else◌, ◌⊎◌}
use Rattle.std.specs.Option.{option_map}
use Rattle.std.proofs.lemmas.Option.{none-some, same_Some}
use Rattle.std.proofs.lemmas.List.Elements.{Contains-append_left, Contains-append_right}
use Rattle.std.proofs.lemmas.List.Elements.{Contains-append_cases}
use Rattle.resb_diagnostics.specs.Pieces.{PlacedText, TextPiece, a_string, a_type, opening, closing}
use Rattle.resb_diagnostics.specs.Pieces.{a_comma, piece_at}
use Rattle.resb_diagnostics.specs.Groups.{GroupItem, string_item, group_item, comma_item, OpenGroup}
use Rattle.resb_diagnostics.specs.Groups.{Nesting, groups_at, groups_behind, behind_closing}
use Rattle.resb_diagnostics.specs.Groups.{is_string_piece, pair_keys}
use Rattle.resb_diagnostics.specs.Items.{EndsGroups}
use Rattle.resb_diagnostics.specs.Warnings.{warning_at, is_first_backslash, of_backslash}
use Rattle.resb_diagnostics.specs.Warnings.{first_place}
use Rattle.resb_diagnostics.specs.Warnings.{of_key, of_keys, of_some_keys, is_array, of_group}
use Rattle.resb_diagnostics.specs.Warnings.{is_nothing, is_empty, is_below_root, of_empty}
use Rattle.resb_diagnostics.specs.Warnings.{of_comma_behind, of_comma, behind_pairs, lone_string}
use Rattle.resb_diagnostics.specs.Warnings.{of_some_lone, of_lone, of_string, unsigned, number_of}
use Rattle.resb_diagnostics.specs.Warnings.{is_octal, of_octal, is_negative, cut, of_kept, of_cut}
use Rattle.resb_diagnostics.specs.Warnings.{of_number, of_end, warned}
use Rattle.resb_diagnostics.specs.Causes.{IsString, IsDue}
use Rattle.resb_diagnostics.specs.declared.named.Named.{Named}
use Rattle.resb_diagnostics.specs.declared.named.Named.TheVariants as named
use Rattle.resb_diagnostics.specs.declared.warning.Reason.{Reason}
use Rattle.resb_diagnostics.specs.declared.warning.Reason.TheVariants as reason
use Rattle.resb_diagnostics.specs.declared.warning.Warning.{Warning}
use Rattle.resb_diagnostics.proofs.RepeatsLemmas.{never, single}
use Rattle.resb_diagnostics.proofs.ItemsLemmas.{around_from}
use Rattle.resb_diagnostics.proofs.CausesLemmas.{once, due, group_repeats}
use Rattle.resb_diagnostics.proofs.PiecesLemmas.{closing_place, comma_place}
use Rattle.resb_diagnostics.proofs.StringPlaces.{apart, below}
use Rattle.resb_diagnostics.proofs.OnceLists.{head, tail, head_or_tail, Once, no_more, one}
use Rattle.resb_diagnostics.proofs.OnceLists.{once_single, once_if, once_append, once_suffix}
use Rattle.resb_diagnostics.proofs.OnceLists.{once_prefix, once_apart}

-- the places of the strings that stand right in a group, the last one first
abbrev pub strings_of : List GroupItem → List ℕ
strings_of [] = []
strings_of (string_item s ∷ xs) = s.place ∷ strings_of xs
strings_of (group_item ∷ xs) = strings_of xs
strings_of (comma_item ∷ xs) = strings_of xs

abbrev places_in : List OpenGroup → List ℕ
places_in [] = []
places_in (g ∷ gs) = strings_of g.items ++ places_in gs

-- and in all groups that are open
abbrev places : Nesting → List ℕ
places g = strings_of g.inner.items ++ places_in g.around

-- a string that ends before a place begins at another
record Ended (text : List ℕ) (n x : ℕ) : Type 0 where
  pub string : PlacedText
  pub at : ℕ
  pub stands : IsString text n x string at

ended_on : (text : List ℕ) (n x : ℕ) → Ended text n x → Ended text (suc n) x
ended_on text n x h = record {
  string = h.string;
  at = h.at;
  stands = record {
    within = let low = h.stands.within in omega (arith, low);
    ends = h.stands.ends;
    begins = h.stands.begins;
  };
}

-- no string that ended begins where one does that ends here
no_earlier : (text : List ℕ) (n : ℕ) (s : PlacedText) → piece_at text n ≡ Some (a_string s)
    → Ended text n s.place → ⊥
no_earlier text n s e h =
    let far = apart text h.at n h.string s h.stands.within h.stands.ends e in
    let near = below text h.at h.string h.stands.ends in
    let same = h.stands.begins in
    omega (arith, far, near, same)

-- the places that are open behind a piece
ended_behind : (text : List ℕ) (n : ℕ) (p : Option TextPiece) (g : Nesting) (x : ℕ)
    → piece_at text n ≡ p → ((y : ℕ) → Contains (places g) y → Ended text n y)
    → Contains (places (groups_behind p g)) x → Ended text (suc n) x
ended_behind text n None g x e on c = ended_on text n x (on x c)
ended_behind text n (Some (a_type name)) g x e on c = ended_on text n x (on x c)
ended_behind text n (Some (a_comma m)) g x e on c = ended_on text n x (on x c)
ended_behind text n (Some opening) g x e on c = ended_on text n x (on x c)
ended_behind text n (Some (a_string s)) g x e on c =
    ⊎_elim (λ (same : x ≡ s.place). record {
      string = s;
      at = n;
      stands = record { within = omega arith; ends = e; begins = sym same };
    })
    (λ (w : Contains (places g) x). ended_on text n x (on x w))
    (head_or_tail s.place (places g) x c)
ended_behind text n (Some (closing m)) g x e on c = by g.around on c
  where
    by : (around : List OpenGroup)
        → ((y : ℕ) → Contains (strings_of g.inner.items ++ places_in around) y → Ended text n y)
        → Contains (places (behind_closing m g.inner around)) x
        → Ended text (suc n) x
    by [] h d = ended_on text n x (h x d)
    by (next ∷ around) h d =
        ended_on text n x
        (h x (Contains-append_right (strings_of g.inner.items) (places_in (next ∷ around)) x d))

ended : (text : List ℕ) (n x : ℕ) → Contains (places (groups_at text n)) x → Ended text n x
ended text zero x c = absurd (never x c)
ended text (suc n) x c =
    ended_behind text n (piece_at text n) (groups_at text n) x refl
    (λ y d. ended text n y d) c

once_behind : (text : List ℕ) (n : ℕ) (p : Option TextPiece) (g : Nesting)
    → piece_at text n ≡ p → ((y : ℕ) → Contains (places g) y → Ended text n y)
    → Once (places g) → Once (places (groups_behind p g))
once_behind text n None g e on h = h
once_behind text n (Some (a_type name)) g e on h = h
once_behind text n (Some (a_comma m)) g e on h = h
once_behind text n (Some opening) g e on h = h
once_behind text n (Some (a_string s)) g e on h =
    one s.place (places g) (λ c. no_earlier text n s e (on s.place c)) h
once_behind text n (Some (closing m)) g e on h = by g.around h
  where
    by : (around : List OpenGroup) → Once (strings_of g.inner.items ++ places_in around)
        → Once (places (behind_closing m g.inner around))
    by [] k = k
    by (next ∷ around) k = once_suffix (strings_of g.inner.items) (places_in (next ∷ around)) k

once_places : (text : List ℕ) (n : ℕ) → Once (places (groups_at text n))
once_places text zero = no_more
once_places text (suc n) =
    once_behind text n (piece_at text n) (groups_at text n) refl (ended text n)
    (once_places text n)

-- the places of keys
abbrev pub key_places : List PlacedText → List ℕ
key_places ks = map (λ k. k.place) ks

pub snoc_places : (ks : List PlacedText) (s : PlacedText)
    → key_places (ks ++ s ∷ []) ≡ key_places ks ++ s.place ∷ []
snoc_places [] s = refl
snoc_places (k ∷ ks) s = ap (λ l. k.place ∷ l) (snoc_places ks s)

-- keys have places of strings of their group, each its own
pub record Placed (items : List GroupItem) (keys : List PlacedText) : Type 0 where
  pub stand : (x : ℕ) → Contains (key_places keys) x → Contains (strings_of items) x
  pub differ : Once (strings_of items) → Once (key_places keys)

placed_pair : (xs : List GroupItem) (s : PlacedText) (ks : List PlacedText) → Placed xs ks
    → Placed (group_item ∷ string_item s ∷ xs) (ks ++ s ∷ [])
placed_pair xs s ks p = record {
  stand = λ x c. ⊎_elim
      (λ (w : Contains (key_places ks) x). tail s.place (strings_of xs) x (p.stand x w))
      (λ (w : Contains (s.place ∷ []) x).
      subst (Contains (s.place ∷ strings_of xs)) (sym (single s.place x w))
      (head s.place (strings_of xs)))
      (Contains-append_cases (key_places ks) (s.place ∷ []) x
      (subst (λ l. Contains l x) (snoc_places ks s) c));
  differ = λ h. subst Once (sym (snoc_places ks s))
      (once_append (key_places ks) (s.place ∷ [])
      (p.differ (once_suffix (s.place ∷ []) (strings_of xs) h)) (once_single s.place)
      (λ x c d. once_apart (s.place ∷ []) (strings_of xs) x h d (p.stand x c)));
}

pub placed : (items : List GroupItem) (keys : List PlacedText) → pair_keys items ≡ Some keys
    → Placed items keys
placed [] keys e = subst (Placed []) (same_Some [] keys e)
    (record { stand = λ x c. c; differ = λ h. h })
placed (string_item s ∷ xs) keys e = absurd (none-some keys e)
placed (comma_item ∷ xs) keys e = absurd (none-some keys e)
placed (group_item ∷ []) keys e = absurd (none-some keys e)
placed (group_item ∷ comma_item ∷ xs) keys e = absurd (none-some keys e)
placed (group_item ∷ group_item ∷ xs) keys e = absurd (none-some keys e)
placed (group_item ∷ string_item s ∷ xs) keys e =
    by (pair_keys xs) (λ ks h. placed xs ks h) e
  where
    by : (o : Option (List PlacedText)) → ((ks : List PlacedText) → o ≡ Some ks → Placed xs ks)
        → option_map (λ ks. ks ++ s ∷ []) o ≡ Some keys
        → Placed (group_item ∷ string_item s ∷ xs) keys
    by None on h = absurd (none-some keys h)
    by (Some ks) on h =
        subst (Placed (group_item ∷ string_item s ∷ xs)) (same_Some (ks ++ s ∷ []) keys h)
        (placed_pair xs s ks (on ks refl))

key_place : (n : ℕ) (o : Option ℕ) (w : Warning) → Contains (of_key n o) w → w.place ≡ n
key_place n None w c = absurd (never w c)
key_place n (Some first) w c =
    ap (λ v. v.place) (single (warning_at (reason.RepeatedKey first) n) w c)

pub keys_place : (before ks : List PlacedText) (w : Warning) → Contains (of_keys before ks) w
    → Contains (key_places ks) w.place
keys_place before [] w c = absurd (never w c)
keys_place before (k ∷ ks) w c =
    ⊎_elim (λ (d : Contains (of_key k.place (first_place k.bytes before)) w).
    subst (Contains (k.place ∷ key_places ks))
    (sym (key_place k.place (first_place k.bytes before) w d)) (head k.place (key_places ks)))
    (λ (d : Contains (of_keys (before ++ k ∷ []) ks) w).
    tail k.place (key_places ks) w.place (keys_place (before ++ k ∷ []) ks w d))
    (Contains-append_cases (of_key k.place (first_place k.bytes before))
    (of_keys (before ++ k ∷ []) ks) w c)

once_key : (n : ℕ) (o : Option ℕ) → Once (of_key n o)
once_key n None = no_more
once_key n (Some first) = once_single (warning_at (reason.RepeatedKey first) n)

once_keys : (before ks : List PlacedText) → Once (key_places ks) → Once (of_keys before ks)
once_keys before [] no_more = no_more
once_keys before (k ∷ ks) (one _ _ isnt h) =
    once_append (of_key k.place (first_place k.bytes before)) (of_keys (before ++ k ∷ []) ks)
    (once_key k.place (first_place k.bytes before)) (once_keys (before ++ k ∷ []) ks h)
    (λ w c d. isnt (subst (Contains (key_places ks))
    (key_place k.place (first_place k.bytes before) w c)
    (keys_place (before ++ k ∷ []) ks w d)))

-- the warnings of keys have places of strings of their group, and none is told twice
record GroupPlaced (g : OpenGroup) (ws : List Warning) : Type 0 where
  pub stand : (w : Warning) → Contains ws w → Contains (strings_of g.items) w.place
  pub differ : Once (strings_of g.items) → Once ws

none_placed : (g : OpenGroup) → GroupPlaced g []
none_placed g = record { stand = λ w c. absurd (never w c); differ = λ h. no_more }

group_placed : (g : OpenGroup) → GroupPlaced g (of_group g)
group_placed g = by (is_array g.named) (pair_keys g.items) refl
  where
    by : (b : Bool) (o : Option (List PlacedText)) → pair_keys g.items ≡ o
        → GroupPlaced g (if b then [] else of_some_keys o)
    by true o e = none_placed g
    by false None e = none_placed g
    by false (Some keys) e =
        let p = placed g.items keys e in record {
          stand = λ w c. p.stand w.place (keys_place [] keys w c);
          differ = λ h. once_keys [] keys (p.differ h);
        }

lone_placed : (g : OpenGroup) → GroupPlaced g (of_lone g)
lone_placed g = by (is_nothing g.named) g.items refl
  where
    alone : (s : PlacedText) (xs : List GroupItem) → g.items ≡ string_item s ∷ xs
        → (o : Option (List PlacedText)) → GroupPlaced g (of_some_lone (behind_pairs s o))
    alone s xs e None = none_placed g
    alone s xs e (Some []) = none_placed g
    alone s xs e (Some (k ∷ ks)) = record {
      stand = λ w c. subst (λ items. Contains (strings_of items) w.place) (sym e)
          (subst (Contains (s.place ∷ strings_of xs))
          (sym (ap (λ v. v.place) (single (warning_at reason.LoneString s.place) w c)))
          (head s.place (strings_of xs)));
      differ = λ h. once_single (warning_at reason.LoneString s.place);
    }

    by : (b : Bool) (items : List GroupItem) → g.items ≡ items
        → GroupPlaced g (if b then of_some_lone (lone_string items) else [])
    by false items e = none_placed g
    by true [] e = none_placed g
    by true (group_item ∷ xs) e = none_placed g
    by true (comma_item ∷ xs) e = none_placed g
    by true (string_item s ∷ xs) e = alone s xs e (pair_keys xs)

-- reasons by number
abbrev tag : Reason → ℕ
tag (reason.RepeatedKey first) = 0
tag reason.Backslash = 1
tag reason.StringsInRow = 2
tag reason.CommaBehindPairs = 3
tag reason.LoneString = 4
tag reason.EmptyGroup = 5
tag reason.LeadingZero = 6
tag (reason.CutNumber z) = 7
tag reason.JoinedOverLine = 8
tag reason.UnquotedGroup = 9
tag reason.UnknownEscape = 10
tag reason.TextBehind = 11
tag reason.OctalNumber = 12
tag reason.MixedQuotes = 13

tag_if : (b : Bool) (x w : Warning) → Contains (if b then x ∷ [] else []) w
    → tag w.reason ≡ tag x.reason
tag_if b x w c = ap (λ v. tag v.reason) (once b x w c).1

tag_group : (g : OpenGroup) (w : Warning) → Contains (of_group g) w → tag w.reason ≡ 0
tag_group g w c = ap tag (group_repeats g w c).1

tag_lone : (g : OpenGroup) (w : Warning) → Contains (of_lone g) w → tag w.reason ≡ 4
tag_lone g w c = by (is_nothing g.named) (lone_string g.items) c
  where
    by : (b : Bool) (o : Option PlacedText) → Contains (if b then of_some_lone o else []) w
        → tag w.reason ≡ 4
    by false o d = absurd (never w d)
    by true None d = absurd (never w d)
    by true (Some s) d =
        ap (λ v. tag v.reason) (single (warning_at reason.LoneString s.place) w d)

tag_kept : (n : ℕ) (o : Option ℤ) (w : Warning) → Contains (of_kept n o) w → tag w.reason ≡ 7
tag_kept n None w d = absurd (never w d)
tag_kept n (Some z) w d =
    ap (λ v. tag v.reason) (single (warning_at (reason.CutNumber z) n) w d)

once_kept : (n : ℕ) (o : Option ℤ) → Once (of_kept n o)
once_kept n None = no_more
once_kept n (Some z) = once_single (warning_at (reason.CutNumber z) n)

tag_octal : (s : PlacedText) (w : Warning) → Contains (of_octal s) w → tag w.reason ≡ 6
tag_octal s w c =
    tag_if (is_octal (unsigned s.bytes)) (warning_at reason.LeadingZero s.place) w c

tag_cut : (s : PlacedText) (w : Warning) → Contains (of_cut s) w → tag w.reason ≡ 7
tag_cut s w c = tag_kept s.place (cut (is_negative s.bytes) (number_of (unsigned s.bytes))) w c

tag_number : (s : PlacedText) (t : Named) (w : Warning) → Contains (of_number s t) w
    → 6 ≤ tag w.reason
tag_number s named.Integer w c =
    ⊎_elim (λ (d : Contains (of_octal s) w). let e = tag_octal s w d in omega (arith, e))
    (λ (d : Contains (of_cut s) w). let e = tag_cut s w d in omega (arith, e))
    (Contains-append_cases (of_octal s) (of_cut s) w c)
tag_number s named.IntVector w c = let e = tag_octal s w c in omega (arith, e)
tag_number s named.Array w c = absurd (never w c)
tag_number s named.Another w c = absurd (never w c)
tag_number s named.Nothing w c = absurd (never w c)

once_number : (s : PlacedText) (t : Named) → Once (of_number s t)
once_number s named.Integer =
    once_append (of_octal s) (of_cut s)
    (once_if (is_octal (unsigned s.bytes)) (warning_at reason.LeadingZero s.place))
    (once_kept s.place (cut (is_negative s.bytes) (number_of (unsigned s.bytes))))
    (λ w c d. let e = tag_octal s w c in let k = tag_cut s w d in omega (arith, e, k))
once_number s named.IntVector =
    once_if (is_octal (unsigned s.bytes)) (warning_at reason.LeadingZero s.place)
once_number s named.Array = no_more
once_number s named.Another = no_more
once_number s named.Nothing = no_more

tag_row : (s : PlacedText) (o : Option TextPiece) (w : Warning) → Contains (of_string s o) w
    → tag w.reason ≡ 2
tag_row s o w c = tag_if (is_string_piece o) (warning_at reason.StringsInRow s.place) w c

tag_empty : (n : ℕ) (g : Nesting) (w : Warning) → Contains (of_empty n g) w → tag w.reason ≡ 5
tag_empty n g w c =
    tag_if (is_empty g.inner && is_below_root g.around) (warning_at reason.EmptyGroup n) w c

-- what a comma brings out
comma_is : (n : ℕ) (g : OpenGroup) (w : Warning) → Contains (of_comma n g) w
    → w ≡ warning_at reason.CommaBehindPairs n
comma_is n g w c = by (is_array g.named) (pair_keys g.items) c
  where
    by : (b : Bool) (o : Option (List PlacedText))
        → Contains (if b then [] else of_comma_behind n o) w
        → w ≡ warning_at reason.CommaBehindPairs n
    by true o d = absurd (never w d)
    by false None d = absurd (never w d)
    by false (Some []) d = absurd (never w d)
    by false (Some (k ∷ ks)) d = single (warning_at reason.CommaBehindPairs n) w d

once_comma : (n : ℕ) (g : OpenGroup) → Once (of_comma n g)
once_comma n g = by (is_array g.named) (pair_keys g.items)
  where
    by : (b : Bool) (o : Option (List PlacedText)) → Once (if b then [] else of_comma_behind n o)
    by true o = no_more
    by false None = no_more
    by false (Some []) = no_more
    by false (Some (k ∷ ks)) = once_single (warning_at reason.CommaBehindPairs n)

-- of a place no warning is told twice
once_end : (p : Option TextPiece) (g : Nesting) → Once (places g) → Once (of_end p g)
once_end None g h = no_more
once_end (Some (a_type name)) g h = no_more
once_end (Some opening) g h = no_more
once_end (Some (a_comma n)) g h = once_comma n g.inner
once_end (Some (a_string s)) g h =
    once_append (of_string s g.last) (of_number s g.inner.named)
    (once_if (is_string_piece g.last) (warning_at reason.StringsInRow s.place))
    (once_number s g.inner.named)
    (λ w c d. let e = tag_row s g.last w c in let k = tag_number s g.inner.named w d in
    omega (arith, e, k))
once_end (Some (closing n)) g h =
    let own = once_prefix (strings_of g.inner.items) (places_in g.around) h in
    once_append (of_group g.inner) (of_lone g.inner ++ of_empty n g)
    ((group_placed g.inner).differ own)
    (once_append (of_lone g.inner) (of_empty n g) ((lone_placed g.inner).differ own)
    (once_if (is_empty g.inner && is_below_root g.around) (warning_at reason.EmptyGroup n))
    (λ w c d. let e = tag_lone g.inner w c in let k = tag_empty n g w d in omega (arith, e, k)))
    (λ w c d. let e = tag_group g.inner w c in
    ⊎_elim (λ (l : Contains (of_lone g.inner) w). let k = tag_lone g.inner w l in
    omega (arith, e, k))
    (λ (l : Contains (of_empty n g) w). let k = tag_empty n g w l in omega (arith, e, k))
    (Contains-append_cases (of_lone g.inner) (of_empty n g) w d))

-- no piece brings out the warning of a backslash
end_tag : (p : Option TextPiece) (g : Nesting) (w : Warning) → Contains (of_end p g) w
    → tag w.reason ≡ 1 → ⊥
end_tag None g w c t = never w c
end_tag (Some (a_type name)) g w c t = never w c
end_tag (Some opening) g w c t = never w c
end_tag (Some (a_comma n)) g w c t =
    let e = ap (λ v. tag v.reason) (comma_is n g.inner w c) in omega (arith, e, t)
end_tag (Some (a_string s)) g w c t =
    ⊎_elim (λ (d : Contains (of_string s g.last) w). let e = tag_row s g.last w d in
    omega (arith, e, t))
    (λ (d : Contains (of_number s g.inner.named) w). let e = tag_number s g.inner.named w d in
    omega (arith, e, t))
    (Contains-append_cases (of_string s g.last) (of_number s g.inner.named) w c)
end_tag (Some (closing n)) g w c t =
    ⊎_elim (λ (d : Contains (of_group g.inner) w). let e = tag_group g.inner w d in
    omega (arith, e, t))
    (λ (d : Contains (of_lone g.inner ++ of_empty n g) w).
    ⊎_elim (λ (l : Contains (of_lone g.inner) w). let e = tag_lone g.inner w l in
    omega (arith, e, t))
    (λ (l : Contains (of_empty n g) w). let e = tag_empty n g w l in omega (arith, e, t))
    (Contains-append_cases (of_lone g.inner) (of_empty n g) w d))
    (Contains-append_cases (of_group g.inner) (of_lone g.inner ++ of_empty n g) w c)

-- a warning is one of a key or of a string alone
abbrev IsOfItems : Warning → Type 0
IsOfItems w = (tag w.reason ≡ 0) ⊎ (tag w.reason ≡ 4)

-- its string ended, and stands in no group that is open
record Gone (text : List ℕ) (n x : ℕ) : Type 0 where
  pub isnt : Contains (places (groups_at text n)) x → ⊥
  pub ended : Ended text n x

still_gone : (text : List ℕ) (n : ℕ) (p : Option TextPiece) (g : Nesting) (x : ℕ)
    → piece_at text n ≡ p → (Contains (places g) x → ⊥) → Ended text n x
    → Contains (places (groups_behind p g)) x → ⊥
still_gone text n None g x e isnt h c = isnt c
still_gone text n (Some (a_type name)) g x e isnt h c = isnt c
still_gone text n (Some (a_comma m)) g x e isnt h c = isnt c
still_gone text n (Some opening) g x e isnt h c = isnt c
still_gone text n (Some (a_string s)) g x e isnt h c =
    ⊎_elim (λ (same : x ≡ s.place). no_earlier text n s e (subst (Ended text n) same h)) isnt
    (head_or_tail s.place (places g) x c)
still_gone text n (Some (closing m)) g x e isnt h c = by g.around isnt c
  where
    by : (around : List OpenGroup)
        → (Contains (strings_of g.inner.items ++ places_in around) x → ⊥)
        → Contains (places (behind_closing m g.inner around)) x → ⊥
    by [] k d = k d
    by (next ∷ around) k d =
        k (Contains-append_right (strings_of g.inner.items) (places_in (next ∷ around)) x d)

-- behind the `}` of a group the places that are open are those around it
around_places : (m : ℕ) (inner next : OpenGroup) (rest around : List OpenGroup)
    → around ≡ next ∷ rest → places (behind_closing m inner around) ≡ places_in around
around_places m inner next rest around e =
    ap (λ l. places (behind_closing m inner l)) e ∙ ap places_in (sym e)

-- what a piece tells of its items is gone behind it
new_gone : (text : List ℕ) (n : ℕ) (p : Option TextPiece) (w : Warning) → piece_at text n ≡ p
    → EndsGroups text (suc n) → Contains (of_end p (groups_at text n)) w → IsOfItems w
    → (Contains (places (groups_behind p (groups_at text n))) w.place → ⊥)
    × Ended text n w.place
new_gone text n None w e each c is = absurd (never w c)
new_gone text n (Some (a_type name)) w e each c is = absurd (never w c)
new_gone text n (Some opening) w e each c is = absurd (never w c)
new_gone text n (Some (a_comma m)) w e each c is =
    let k = ap (λ v. tag v.reason) (comma_is m (groups_at text n).inner w c) in
    absurd (⊎_elim (λ (t : tag w.reason ≡ 0). omega (arith, k, t))
    (λ (t : tag w.reason ≡ 4). omega (arith, k, t)) is)
new_gone text n (Some (a_string s)) w e each c is =
    let g = groups_at text n in
    absurd (⊎_elim (λ (d : Contains (of_string s g.last) w). let k = tag_row s g.last w d in
    ⊎_elim (λ (t : tag w.reason ≡ 0). omega (arith, k, t))
    (λ (t : tag w.reason ≡ 4). omega (arith, k, t)) is)
    (λ (d : Contains (of_number s g.inner.named) w). let k = tag_number s g.inner.named w d in
    ⊎_elim (λ (t : tag w.reason ≡ 0). omega (arith, k, t))
    (λ (t : tag w.reason ≡ 4). omega (arith, k, t)) is)
    (Contains-append_cases (of_string s g.last) (of_number s g.inner.named) w c))
new_gone text n (Some (closing m)) w e each c is =
    let g = groups_at text n in
    let own : Contains (strings_of g.inner.items) w.place =
    ⊎_elim (λ (d : Contains (of_group g.inner) w). (group_placed g.inner).stand w d)
    (λ (d : Contains (of_lone g.inner ++ of_empty m g) w).
    ⊎_elim (λ (l : Contains (of_lone g.inner) w). (lone_placed g.inner).stand w l)
    (λ (l : Contains (of_empty m g) w). let k = tag_empty m g w l in
    absurd (⊎_elim (λ (t : tag w.reason ≡ 0). omega (arith, k, t))
    (λ (t : tag w.reason ≡ 4). omega (arith, k, t)) is))
    (Contains-append_cases (of_lone g.inner) (of_empty m g) w d))
    (Contains-append_cases (of_group g.inner) (of_lone g.inner ++ of_empty m g) w c) in
    let group = each n m (omega arith) e in
    let around = around_from text group.0 n group.1 group.2 in
    let after = around_places m g.inner (groups_at text group.0).inner
    (groups_at text group.0).around g.around around in (
      λ d. once_apart (strings_of g.inner.items) (places_in g.around) w.place
          (once_places text n) own (subst (λ l. Contains l w.place) after d),
      ended text n w.place
          (Contains-append_left (strings_of g.inner.items) (places_in g.around) w.place own),
    )

fewer : (text : List ℕ) (n : ℕ) → EndsGroups text (suc n) → EndsGroups text n
fewer text n each q m low c = each q m (omega (arith, low)) c

gone : (text : List ℕ) (n : ℕ) → EndsGroups text n → (w : Warning) → Contains (warned text n) w
    → IsOfItems w → Gone text n w.place
gone text zero each w c is = absurd (never w c)
gone text (suc n) each w c is =
    ⊎_elim (λ (d : Contains (warned text n) w).
    let h = gone text n (fewer text n each) w d is in
    record {
      isnt = still_gone text n (piece_at text n) (groups_at text n) w.place refl h.isnt h.ended;
      ended = ended_on text n w.place h.ended;
    })
    (λ (d : Contains (of_backslash text n ++ of_end (piece_at text n) (groups_at text n)) w).
    ⊎_elim (λ (l : Contains (of_backslash text n) w).
    let k = tag_if (is_first_backslash text n) (warning_at reason.Backslash n) w l in
    absurd (⊎_elim (λ (t : tag w.reason ≡ 0). omega (arith, k, t))
    (λ (t : tag w.reason ≡ 4). omega (arith, k, t)) is))
    (λ (l : Contains (of_end (piece_at text n) (groups_at text n)) w).
    let h = new_gone text n (piece_at text n) w refl each l is in
    record { isnt = h.0; ended = ended_on text n w.place h.1 })
    (Contains-append_cases (of_backslash text n) (of_end (piece_at text n) (groups_at text n))
    w d))
    (Contains-append_cases (warned text n)
    (of_backslash text n ++ of_end (piece_at text n) (groups_at text n)) w c)

-- what is told before a place is due there
due_there : (text : List ℕ) (n : ℕ) (w v : Warning) → w ≡ v → Contains (warned text n) w
    → IsDue text n v.reason v.place
due_there text n w v e c = subst (λ u. IsDue text n u.reason u.place) e (due text n w c)

number_new : (text : List ℕ) (n : ℕ) (s : PlacedText) (t : Named) (w : Warning)
    → piece_at text n ≡ Some (a_string s) → Contains (of_number s t) w
    → Contains (warned text n) w → ⊥
number_new text n s t w e c old = by t c
  where
    octal : Contains (of_octal s) w → ⊥
    octal d =
        let v = warning_at reason.LeadingZero s.place in
        let h = due_there text n w v (once (is_octal (unsigned s.bytes)) v w d).1 old in
        no_earlier text n s e (record { string = h.string; at = h.at; stands = h.stands })

    kept : (o : Option ℤ) → Contains (of_kept s.place o) w → ⊥
    kept None d = never w d
    kept (Some z) d =
        let v = warning_at (reason.CutNumber z) s.place in
        let h = due_there text n w v (single v w d) old in
        no_earlier text n s e (record { string = h.string; at = h.at; stands = h.stands })

    by : (k : Named) → Contains (of_number s k) w → ⊥
    by named.Integer d =
        ⊎_elim octal (kept (cut (is_negative s.bytes) (number_of (unsigned s.bytes))))
        (Contains-append_cases (of_octal s) (of_cut s) w d)
    by named.IntVector d = octal d
    by named.Array d = never w d
    by named.Another d = never w d
    by named.Nothing d = never w d

-- what a piece brings out was not told before
end_new : (text : List ℕ) (n : ℕ) (p : Option TextPiece) (w : Warning) → piece_at text n ≡ p
    → EndsGroups text n → Contains (of_end p (groups_at text n)) w
    → Contains (warned text n) w → ⊥
end_new text n None w e each c old = never w c
end_new text n (Some (a_type name)) w e each c old = never w c
end_new text n (Some opening) w e each c old = never w c
end_new text n (Some (a_comma m)) w e each c old =
    let same = comma_place text n m e in
    let h = due_there text n w (warning_at reason.CommaBehindPairs m)
    (comma_is m (groups_at text n).inner w c) old in
    let low = h.within in omega (arith, same, low)
end_new text n (Some (a_string s)) w e each c old =
    let g = groups_at text n in
    ⊎_elim (λ (d : Contains (of_string s g.last) w).
    let v = warning_at reason.StringsInRow s.place in
    let h = due_there text n w v (once (is_string_piece g.last) v w d).1 old in
    no_earlier text n s e (record { string = h.string; at = h.at; stands = h.stands }))
    (λ (d : Contains (of_number s g.inner.named) w).
    number_new text n s g.inner.named w e d old)
    (Contains-append_cases (of_string s g.last) (of_number s g.inner.named) w c)
end_new text n (Some (closing m)) w e each c old =
    let g = groups_at text n in
    ⊎_elim (λ (d : Contains (of_group g.inner) w).
    (gone text n each w old (inl (tag_group g.inner w d))).isnt
    (Contains-append_left (strings_of g.inner.items) (places_in g.around) w.place
    ((group_placed g.inner).stand w d)))
    (λ (d : Contains (of_lone g.inner ++ of_empty m g) w).
    ⊎_elim (λ (l : Contains (of_lone g.inner) w).
    (gone text n each w old (inr (tag_lone g.inner w l))).isnt
    (Contains-append_left (strings_of g.inner.items) (places_in g.around) w.place
    ((lone_placed g.inner).stand w l)))
    (λ (l : Contains (of_empty m g) w).
    let same = closing_place text n m e in
    let v = warning_at reason.EmptyGroup m in
    let h = due_there text n w v
    (once (is_empty g.inner && is_below_root g.around) v w l).1 old in
    let low = h.within in omega (arith, same, low))
    (Contains-append_cases (of_lone g.inner) (of_empty m g) w d))
    (Contains-append_cases (of_group g.inner) (of_lone g.inner ++ of_empty m g) w c)

backslash_new : (text : List ℕ) (n : ℕ) (w : Warning) → Contains (of_backslash text n) w
    → Contains (warned text n) w → ⊥
backslash_new text n w c old =
    let v = warning_at reason.Backslash n in
    let h = due_there text n w v (once (is_first_backslash text n) v w c).1 old in
    let low = h.0 in omega (arith, low)

pub once_warned : (text : List ℕ) (n : ℕ) → EndsGroups text n → Once (warned text n)
once_warned text zero each = no_more
once_warned text (suc n) each =
    let back = of_backslash text n in
    let end = of_end (piece_at text n) (groups_at text n) in
    once_append (warned text n) (back ++ end) (once_warned text n (fewer text n each))
    (once_append back end
    (once_if (is_first_backslash text n) (warning_at reason.Backslash n))
    (once_end (piece_at text n) (groups_at text n) (once_places text n))
    (λ w c d. end_tag (piece_at text n) (groups_at text n) w d
    (tag_if (is_first_backslash text n) (warning_at reason.Backslash n) w c)))
    (λ w old c. ⊎_elim (λ (d : Contains back w). backslash_new text n w d old)
    (λ (d : Contains end w).
    end_new text n (piece_at text n) w refl (fewer text n each) d old)
    (Contains-append_cases back end w c))
