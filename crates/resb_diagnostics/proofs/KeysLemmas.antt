-- The keys of a group beside what the code keeps, and the first places of keys.
use Rattle.std.proofs.Common.{◌≡◌, ℕ, Bool, true, false, cond, List, [], ◌∷◌, ◌++◌, Option, Some}
use Rattle.std.proofs.Common.{None, refl, sym, ◌∙◌, ap, append_assoc, nat_eq, arith}
use Rattle.std.specs.Prelude.{map, not, ◌&&◌, nat_lt, reverse, length, take}
use Rattle.std.specs.Option.{option_map}
use Rattle.std.specs.Cmp.Lexicographic.{pointwise, bytes_decides}
use Rattle.std.proofs.lemmas.Option.{none-some}
use Rattle.std.proofs.lemmas.List.{length-reverse}
use Rattle.resb_diagnostics.specs.Pieces.{PlacedText}
use Rattle.resb_diagnostics.specs.Groups.{GroupItem, string_item, group_item, comma_item, OpenGroup}
use Rattle.resb_diagnostics.specs.Groups.{pair_keys, Nesting}
use Rattle.resb_diagnostics.specs.Warnings.{first_place, of_key, of_keys, of_group}
use Rattle.resb_diagnostics.specs.Warnings.{is_array, is_nothing, is_empty, has_none}
use Rattle.resb_diagnostics.specs.Warnings.{behind_pairs, lone_string, is_below_root}
use Rattle.resb_diagnostics.specs.Warnings.{of_lone, of_some_lone}
use Rattle.resb_diagnostics.specs.Warnings.{of_comma, of_comma_behind, warning_at}
use Rattle.resb_diagnostics.specs.Inner.Looks.{Pairing, pairs, key, other, pairing_of}
use Rattle.resb_diagnostics.specs.Inner.Looks.{pairing_behind, pairing_in, placed_text_of}
use Rattle.resb_diagnostics.specs.Inner.Looks.{is_pairs, is_nil, inner_keys, may_be_table}
use Rattle.resb_diagnostics.specs.Inner.Looks.{has_pairs, has_empty_group, has_lone, is_key}
use Rattle.resb_diagnostics.specs.Inner.Looks.{AreAround, ShowsNesting}
use Rattle.resb_diagnostics.specs.declared.warning.Reason.TheVariants as reason
use Rattle.resb_diagnostics.specs.declared.text_pieces.StringAt.{StringAt}
use Rattle.resb_diagnostics.specs.declared.warning.Warning.{Warning}
use Rattle.resb_diagnostics.specs.declared.groups.Shape.{Shape}
use Rattle.resb_diagnostics.specs.declared.groups.Group.{Group as CodeGroup}
use Rattle.resb_diagnostics.specs.declared.groups.Groups.{Groups as CodeGroups}
use Rattle.resb_diagnostics.proofs.Lists.{either_way}

abbrev keys_if : Pairing → Option (List PlacedText)
keys_if (pairs ks) = Some ks
keys_if (key ks s) = None
keys_if other = None

group_after_string : (s : PlacedText) (l : Pairing)
    → option_map (λ ks. ks ++ s ∷ []) (keys_if l)
    ≡ keys_if (pairing_behind group_item (pairing_behind (string_item s) l))
group_after_string s l = grind arith

group_after_group : (l : Pairing)
    → None ≡ keys_if (pairing_behind group_item (pairing_behind group_item l))
group_after_group l = grind arith

string_last : (s : PlacedText) (l : Pairing) → None ≡ keys_if (pairing_behind (string_item s) l)
string_last s l = grind arith

pub keys_by_pairing : (xs : List GroupItem) → pair_keys xs ≡ keys_if (pairing_of xs)
keys_by_pairing [] = refl
keys_by_pairing (string_item s ∷ xs) = string_last s (pairing_of xs)
keys_by_pairing (comma_item ∷ xs) = refl
keys_by_pairing (group_item ∷ []) = refl
keys_by_pairing (group_item ∷ comma_item ∷ xs) = refl
keys_by_pairing (group_item ∷ group_item ∷ xs) = group_after_group (pairing_of xs)
keys_by_pairing (group_item ∷ string_item s ∷ xs) =
    ap (option_map (λ ks. ks ++ s ∷ [])) (keys_by_pairing xs) ∙ group_after_string s (pairing_of xs)

abbrev is_none : Pairing → Bool
is_none (pairs []) = true
is_none _ = false

none_behind : (x : GroupItem) (l : Pairing) → false ≡ is_none (pairing_behind x l)
none_behind (string_item s) l = grind arith
none_behind comma_item l = refl
none_behind group_item (pairs ks) = refl
none_behind group_item (key [] s) = refl
none_behind group_item (key (k ∷ ks) s) = refl
none_behind group_item other = refl

none_by_pairing : (xs : List GroupItem) → has_none xs ≡ is_none (pairing_of xs)
none_by_pairing [] = refl
none_by_pairing (x ∷ xs) = none_behind x (pairing_of xs)

abbrev lone_if : Pairing → Option PlacedText
lone_if (key (k ∷ ks) s) = Some s
lone_if _ = None

lone_after_string : (s : PlacedText) (l : Pairing)
    → behind_pairs s (keys_if l) ≡ lone_if (pairing_behind (string_item s) l)
lone_after_string s l = grind arith

lone_after_group : (l : Pairing) → None ≡ lone_if (pairing_behind group_item l)
lone_after_group l = grind arith

lone_by_pairing : (xs : List GroupItem) → lone_string xs ≡ lone_if (pairing_of xs)
lone_by_pairing [] = refl
lone_by_pairing (comma_item ∷ xs) = refl
lone_by_pairing (group_item ∷ xs) = lone_after_group (pairing_of xs)
lone_by_pairing (string_item s ∷ xs) =
    ap (behind_pairs s) (keys_by_pairing xs) ∙ lone_after_string s (pairing_of xs)

-- neither the root nor the text itself
below_root : (xs : List CodeGroup) (ks : List StringAt) (gs : List OpenGroup) → AreAround xs ks gs
    → nat_lt 1 (length xs) ≡ is_below_root gs
below_root [] ks [] around = refl
below_root [] ks (g ∷ gs) around = absurd around
below_root (x ∷ xs) ks [] around = absurd around
below_root (x ∷ []) ks (g ∷ []) around = refl
below_root (x ∷ []) ks (g ∷ h ∷ gs) around = absurd around.1
below_root (x ∷ y ∷ xs) ks (g ∷ []) around = absurd around.1
below_root (x ∷ y ∷ xs) ks (g ∷ h ∷ gs) around = grind arith

-- what the code asks of the innermost group is what the definitions ask
module _ (c : CodeGroups) (g : Nesting) (shows : ShowsNesting c g) where
  pub keys_by_code : cond (may_be_table c) (of_keys [] (map placed_text_of (inner_keys c))) []
      ≡ of_group g.inner
  keys_by_code = grind (arith, keys_by_pairing g.inner.items, shows.groups.inner.level)

  pub comma_by_code : (n : ℕ)
      → cond (has_pairs c) (warning_at reason.CommaBehindPairs n ∷ []) [] ≡ of_comma n g.inner
  comma_by_code n =
      grind (
        arith,
        keys_by_pairing g.inner.items,
        shows.groups.inner.level,
        by (is_array c.named) c.shape (inner_keys c),
      )
    where
      by : (b : Bool) (sh : Shape) (ks : List StringAt)
          → cond ((not b && is_pairs sh) && not (is_nil ks))
          (warning_at reason.CommaBehindPairs n ∷ []) []
          ≡ cond b [] (of_comma_behind n (keys_if (pairing_in sh c.last ks)))
      by b sh ks = grind arith

  pub lone_by_code : cond (has_lone c) (warning_at reason.LoneString c.last.place ∷ []) []
      ≡ of_lone g.inner
  lone_by_code =
      grind (
        arith,
        lone_by_pairing g.inner.items,
        shows.groups.inner.level,
        by (is_nothing c.named) c.shape (inner_keys c),
      )
    where
      by : (b : Bool) (sh : Shape) (ks : List StringAt)
          → cond (b && (is_key sh && not (is_nil ks)))
          (warning_at reason.LoneString c.last.place ∷ []) []
          ≡ cond b (of_some_lone (lone_if (pairing_in sh c.last ks))) []
      by b sh ks = grind arith

  pub empty_by_code : has_empty_group c ≡ (is_empty g.inner && is_below_root g.around)
  empty_by_code =
      grind (
        arith,
        none_by_pairing g.inner.items,
        shows.groups.inner.level,
        length-reverse c.around.items,
        below_root (reverse c.around.items) (take c.keys_from c.keys.items) g.around
            shows.groups.around,
      )

abbrev place_if : Bool → ℕ → Option ℕ → Option ℕ
place_if b n (Some m) = Some m
place_if true n None = Some n
place_if false n None = None

first_place-snoc : (q : List ℕ) (ks : List PlacedText) (k : PlacedText)
    → first_place q (ks ++ k ∷ [])
    ≡ place_if (pointwise nat_eq q k.bytes) k.place (first_place q ks)
first_place-snoc q [] k = by (pointwise nat_eq q k.bytes)
  where
    by : (b : Bool) → cond b (Some k.place) None ≡ place_if b k.place None
    by true = refl
    by false = refl
first_place-snoc q (j ∷ ks) k =
    by (pointwise nat_eq q j.bytes) (first_place-snoc q ks k)
  where
    by : (b : Bool)
        → first_place q (ks ++ k ∷ []) ≡ place_if (pointwise nat_eq q k.bytes) k.place
        (first_place q ks)
        → cond b (Some j.place) (first_place q (ks ++ k ∷ []))
        ≡ place_if (pointwise nat_eq q k.bytes) k.place (cond b (Some j.place) (first_place q ks))
    by true e = refl
    by false e = e

-- a key that stands before has its first place there
pub first_stays : (q : List ℕ) (ks : List PlacedText) (k : PlacedText) (n : ℕ)
    → first_place k.bytes ks ≡ Some n → first_place q (ks ++ k ∷ []) ≡ first_place q ks
first_stays q ks k n h =
    first_place-snoc q ks k ∙ by (pointwise nat_eq q k.bytes) refl (first_place q ks) refl
  where
    by : (b : Bool) → pointwise nat_eq q k.bytes ≡ b → (o : Option ℕ) → first_place q ks ≡ o
        → place_if b k.place o ≡ o
    by b e (Some m) f = refl
    by false e None f = refl
    by true e None f =
        absurd (none-some n (sym f
        ∙ ap (λ s. first_place s ks) ((bytes_decides q k.bytes).0 e) ∙ h))

-- a key that doesn't stand before has its first place here
pub first_moves : (q : List ℕ) (ks : List PlacedText) (k : PlacedText)
    → first_place k.bytes ks ≡ None
    → first_place q (ks ++ k ∷ [])
    ≡ cond (pointwise nat_eq k.bytes q) (Some k.place) (first_place q ks)
first_moves q ks k h =
    first_place-snoc q ks k
    ∙ by (pointwise nat_eq q k.bytes) refl (first_place q ks) refl
    ∙ ap (λ b. cond b (Some k.place) (first_place q ks)) (either_way q k.bytes)
  where
    by : (b : Bool) → pointwise nat_eq q k.bytes ≡ b → (o : Option ℕ) → first_place q ks ≡ o
        → place_if b k.place o ≡ cond b (Some k.place) o
    by false e None f = refl
    by false e (Some m) f = refl
    by true e None f = refl
    by true e (Some m) f =
        absurd (none-some m (sym h
        ∙ ap (λ s. first_place s ks) (sym ((bytes_decides q k.bytes).0 e)) ∙ f))

-- one key more is told of
pub keys_told : (found more all : List Warning) (before ks : List PlacedText) (k : PlacedText)
    → found ++ of_keys before (k ∷ ks) ≡ all
    → more ≡ found ++ of_key k.place (first_place k.bytes before)
    → more ++ of_keys (before ++ k ∷ []) ks ≡ all
keys_told found more all before ks k h e =
    ap (λ l. l ++ of_keys (before ++ k ∷ []) ks) e
    ∙ append_assoc found (of_key k.place (first_place k.bytes before))
    (of_keys (before ++ k ∷ []) ks) ∙ h
