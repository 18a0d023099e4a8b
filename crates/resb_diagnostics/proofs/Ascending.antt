-- Keys that ascend: none of them stands twice.
use Rattle.std.proofs.Common.{◌≡◌, ◌∙◌, ℕ, Bool, true, false, List, [], ◌∷◌, ◌++◌, Some, None}
use Rattle.std.proofs.Common.{refl, sym, ap, append_assoc, append-nil, nat_eq, cond, Ordering}
use Rattle.std.proofs.Common.{◌==◌, ◌+◌, ◌-◌, ◌<◌, ◌≤◌, length, get_or, take, subst, arith}
use Rattle.std.proofs.lemmas.List.{map-append, take_more, get_or_default}
use Rattle.std.specs.Ordering.{nat_cmp, is_lt, ordering_index}
use Rattle.std.specs.Prelude.{not, map}
use Rattle.std.specs.Cmp.Lexicographic.{pointwise, bytes_decides, slice_cmp}
use Rattle.std.specs.declared.cmp.Ordering.TheVariants.{Less, Equal, Greater}
use Rattle.std.proofs.lemmas.Cmp.{nat_list_cmp_total, tied_itself}
use Rattle.std.proofs.lemmas.Bool.{true≢false}
use Rattle.resb_diagnostics.specs.Pieces.{PlacedText}
use Rattle.resb_diagnostics.specs.Warnings.{first_place, of_key, of_keys}
use Rattle.resb_diagnostics.specs.Inner.Looks.{placed_text_of}
use Rattle.resb_diagnostics.specs.declared.text_pieces.StringAt.{StringAt}

-- each of these keys is below these bytes
abbrev pub AllBelow : List ℕ → List PlacedText → Type 0
AllBelow q [] = Unit
AllBelow q (k ∷ ks) = (slice_cmp nat_cmp k.bytes q ≡ Less) × AllBelow q ks

below_all : (q r : List ℕ) (ks : List PlacedText) → slice_cmp nat_cmp q r ≡ Less → AllBelow q ks
    → AllBelow r ks
below_all q r [] h all = tt
below_all q r (k ∷ ks) h (less, all) =
    (nat_list_cmp_total.trans k.bytes q r less h, below_all q r ks h all)

-- those, and the key that they are below
pub one_below : (k : PlacedText) (r : List ℕ) (ks : List PlacedText)
    → slice_cmp nat_cmp k.bytes r ≡ Less → AllBelow k.bytes ks → AllBelow r (ks ++ k ∷ [])
one_below k r [] h all = (h, tt)
one_below k r (j ∷ ks) h (less, all) =
    (nat_list_cmp_total.trans j.bytes k.bytes r less h, one_below k r ks h all)

differs : (q s : List ℕ) → slice_cmp nat_cmp s q ≡ Less → pointwise nat_eq q s ≡ false
differs q s h = by (pointwise nat_eq q s) refl
  where
    by : (b : Bool) → pointwise nat_eq q s ≡ b → b ≡ false
    by false e = refl
    by true e =
        let same : q ≡ s = (bytes_decides q s).0 e in
        let level : slice_cmp nat_cmp s q ≡ Equal =
        ap (slice_cmp nat_cmp s) same ∙ tied_itself nat_list_cmp_total s in
        absurd (true≢false (ap is_lt (sym h ∙ level)))

-- a key above all of them is none of them
pub not_before : (q : List ℕ) (ks : List PlacedText) → AllBelow q ks → first_place q ks ≡ None
not_before q [] all = refl
not_before q (k ∷ ks) (less, all) =
    ap (λ b. cond b (Some k.place) (first_place q ks)) (differs q k.bytes less)
    ∙ not_before q ks all

-- the warnings of keys, the last of them apart
of_keys-snoc : (before ks : List PlacedText) (k : PlacedText)
    → of_keys before (ks ++ k ∷ [])
    ≡ of_keys before ks ++ of_key k.place (first_place k.bytes (before ++ ks))
of_keys-snoc before [] k =
    append-nil (of_key k.place (first_place k.bytes before))
    ∙ ap (λ l. of_key k.place (first_place k.bytes l)) (sym (append-nil before))
of_keys-snoc before (j ∷ ks) k =
    ap (λ l. of_key j.place (first_place j.bytes before) ++ l)
    (of_keys-snoc (before ++ j ∷ []) ks k
    ∙ ap (λ l. of_keys (before ++ j ∷ []) ks ++ of_key k.place (first_place k.bytes l))
    (append_assoc before (j ∷ []) ks))
    ∙ sym (append_assoc (of_key j.place (first_place j.bytes before))
    (of_keys (before ++ j ∷ []) ks) (of_key k.place (first_place k.bytes (before ++ j ∷ ks))))

-- a key above all before it is not told of
pub none_more : (ks : List PlacedText) (k : PlacedText) → of_keys [] ks ≡ [] → AllBelow k.bytes ks
    → of_keys [] (ks ++ k ∷ []) ≡ []
none_more ks k none all =
    of_keys-snoc [] ks k ∙ ap (λ l. l ++ of_key k.place (first_place k.bytes ks)) none
    ∙ ap (of_key k.place) (not_before k.bytes ks all)

-- a test says that one is below another
pub is_less : (o : Ordering) → not (ordering_index o == 0) ≡ false → o ≡ Less
is_less Less e = refl
is_less Equal e = absurd (true≢false e)
is_less Greater e = absurd (true≢false e)

-- all keys so far
abbrev so_far : List StringAt → ℕ → List PlacedText
so_far xs n = map placed_text_of (take n xs)

pub first_alone : (xs : List StringAt) → of_keys [] (map placed_text_of (take 1 xs)) ≡ []
first_alone [] = refl
first_alone (x ∷ xs) = refl

-- the next key is above the last one
module _ (xs : List StringAt) (at : ℕ) (d : StringAt) (low : 1 ≤ at) (high : at < length xs)
    (none : of_keys [] (so_far xs at) ≡ [])
    (below : AllBelow (get_or xs (at - 1) d).content.now (so_far xs (at - 1)))
    (less : slice_cmp nat_cmp (get_or xs (at - 1) d).content.now (get_or xs at d).content.now
    ≡ Less) where
  last_apart : so_far xs at ≡ so_far xs (at - 1) ++ placed_text_of (get_or xs (at - 1) d) ∷ []
  last_apart =
      let is : at - 1 + 1 ≡ at = omega arith in
      ap (so_far xs) (sym is)
      ∙ ap (map placed_text_of) (take_more xs (at - 1) d (omega arith))
      ∙ map-append placed_text_of (take (at - 1) xs) (get_or xs (at - 1) d ∷ [])

  above : AllBelow (get_or xs at d).content.now (so_far xs at)
  above =
      subst (AllBelow (get_or xs at d).content.now) (sym last_apart)
      (one_below (placed_text_of (get_or xs (at - 1) d)) (get_or xs at d).content.now
      (so_far xs (at - 1)) less below)

  pub still_none : of_keys [] (so_far xs (at + 1)) ≡ []
  still_none =
      ap (of_keys []) (ap (map placed_text_of) (take_more xs at d high)
      ∙ map-append placed_text_of (take at xs) (get_or xs at d ∷ []))
      ∙ none_more (so_far xs at) (placed_text_of (get_or xs at d)) none above

  pub all_below : (e : StringAt)
      → AllBelow (get_or xs (at + 1 - 1) e).content.now (so_far xs (at + 1 - 1))
  all_below e =
      let is : at ≡ at + 1 - 1 = omega arith in
      subst (λ n. AllBelow (get_or xs n e).content.now (so_far xs n)) is
      (subst (λ x. AllBelow x.content.now (so_far xs at)) (get_or_default xs at d e high) above)
