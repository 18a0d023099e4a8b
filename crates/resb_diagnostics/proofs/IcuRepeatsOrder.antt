-- The keys of a text of ICU's form that stand twice in a group are told in the order of their
-- places.
use Rattle.std.proofs.Common.{◌≡◌, ◌≢◌, ℕ, zero, suc, ◌<◌, Bool, true, false, List, [], ◌∷◌}
use Rattle.std.proofs.Common.{◌++◌, ◌+◌, refl, sym, ap, subst, arith, ⊎_elim, Option, Some, None}
use Rattle.std.proofs.Common.{Contains, AllPairs}
use Rattle.std.specs.Prelude.{drop, slice_range, if◌then◌else◌}
use Rattle.std.specs.Option.{option_map}
use Rattle.std.proofs.lemmas.Option.{none-some, same_Some}
use Rattle.std.proofs.lemmas.List.Elements.{Contains-append_cases}
use Rattle.std.proofs.lemmas.List.Elements.{All-contains_itself, All-weaker}
use Rattle.std.proofs.lemmas.List.Kept.{AllPairs-cons}
use Rattle.resb_diagnostics.specs.Pieces.{PlacedText, bytes_placed, a_type, a_string}
use Rattle.resb_diagnostics.specs.Groups.{GroupItem, string_item, group_item, comma_item, OpenGroup}
use Rattle.resb_diagnostics.specs.Groups.{Nesting, with_one_more, behind_piece, groups_behind}
use Rattle.resb_diagnostics.specs.Groups.{behind_closing, pair_keys}
use Rattle.resb_diagnostics.specs.Warnings.{warning_at, first_place, of_key, of_keys, of_some_keys}
use Rattle.resb_diagnostics.specs.Warnings.{is_array, of_group}
use Rattle.resb_diagnostics.specs.IcuKeys.{bytes_in_quotes, icu_piece, icu_groups_at}
use Rattle.resb_diagnostics.specs.IcuKeys.{icu_repeated}
use Rattle.resb_diagnostics.specs.IcuCauses.{start_of}
use Rattle.resb_diagnostics.specs.IcuWarnings.{icu_token_at, is_behind_colon}
use Rattle.resb_diagnostics.specs.declared.icu_tokens.IcuToken.{IcuToken}
use Rattle.resb_diagnostics.specs.declared.icu_tokens.IcuToken.TheVariants as token
use Rattle.resb_diagnostics.specs.declared.warning.Reason.TheVariants as reason
use Rattle.resb_diagnostics.specs.declared.warning.Warning.{Warning}
use Rattle.resb_diagnostics.proofs.RepeatsLemmas.{never, single}
use Rattle.resb_diagnostics.proofs.OnceLists.{head, tail, head_or_tail}
use Rattle.resb_diagnostics.proofs.OnceLemmas.{strings_of, key_places, snoc_places, placed}
use Rattle.resb_diagnostics.proofs.OnceLemmas.{keys_place}
use Rattle.resb_diagnostics.proofs.IcuOrder.{begin, TokenAt, a_piece, a_word, an_open}
use Rattle.resb_diagnostics.proofs.IcuOrder.{a_close, a_comma, token_is, begin_low, IsUpTo}
use Rattle.resb_diagnostics.proofs.IcuOrder.{up_to_next, before_token}

-- numbers, each above those behind it
abbrev Descends : List ℕ → Type 0
Descends [] = Unit {0}
Descends (x ∷ xs) = ((y : ℕ) → Contains xs y → y < x) × Descends xs

-- numbers, each below those behind it
abbrev Ascends : List ℕ → Type 0
Ascends [] = Unit {0}
Ascends (x ∷ xs) = ((y : ℕ) → Contains xs y → x < y) × Ascends xs

ascends_push : (xs : List ℕ) (z : ℕ) → Ascends xs → ((y : ℕ) → Contains xs y → y < z)
    → Ascends (xs ++ z ∷ [])
ascends_push [] z h low = (λ y c. absurd (never y c), tt)
ascends_push (x ∷ xs) z h low = (
  λ y c. ⊎_elim (λ (w : Contains xs y). h.0 y w)
      (λ (w : Contains (z ∷ []) y).
      let same = single z y w in let r = low x (head x xs) in omega (arith, same, r))
      (Contains-append_cases xs (z ∷ []) y c),
  ascends_push xs z h.1 (λ y c. low y (tail x xs y c)),
)

-- the strings of a group that is open stand before a place, each behind those before it
record Kept (text : List ℕ) (n : ℕ) (g : OpenGroup) : Type 0 where
  pub up_to : (x : ℕ) → Contains (strings_of g.items) x → IsUpTo text n x
  pub descend : Descends (strings_of g.items)

abbrev AllKept : List ℕ → ℕ → List OpenGroup → Type 0
AllKept text n [] = Unit {0}
AllKept text n (g ∷ gs) = Kept text n g × AllKept text n gs

-- the groups that are open, from the inside out
abbrev nest : Nesting → List OpenGroup
nest g = g.inner ∷ g.around

kept_next : (text : List ℕ) (n : ℕ) (g : OpenGroup) → Kept text n g → Kept text (suc n) g
kept_next text n g h =
    record { up_to = λ x c. up_to_next text n x (h.up_to x c); descend = h.descend }

all_kept_next : (text : List ℕ) (n : ℕ) (gs : List OpenGroup) → AllKept text n gs
    → AllKept text (suc n) gs
all_kept_next text n [] h = tt
all_kept_next text n (g ∷ gs) h = (kept_next text n g h.0, all_kept_next text n gs h.1)

-- one string more
string_kept : (text : List ℕ) (n : ℕ) (g : OpenGroup) (t : IcuToken) (s : PlacedText)
    → icu_token_at text n ≡ Some t → s.place ≡ begin n t → Kept text n g
    → Kept text (suc n) (with_one_more (string_item s) g)
string_kept text n g t s e is h =
    let k = token_is text n t e in record {
      up_to = λ x c. ⊎_elim
          (λ (w : x ≡ s.place). record {
            at = n;
            before = omega arith;
            one = t;
            stands = e;
            low = let low = begin_low text n t k in omega (arith, w, is, low);
          })
          (λ (w : Contains (strings_of g.items) x). up_to_next text n x (h.up_to x w))
          (head_or_tail s.place (strings_of g.items) x c);
      descend = (
        λ y c. (let r = before_token text n y t k (h.up_to y c) in omega (arith, r, is)),
        h.descend,
      );
    }

-- a comma, or a group that ended, is no string
silent_kept : (text : List ℕ) (n : ℕ) (g : OpenGroup) (x : GroupItem)
    → strings_of (x ∷ g.items) ≡ strings_of g.items → Kept text n g
    → Kept text (suc n) (with_one_more x g)
silent_kept text n g x e h = record {
  up_to = λ y c. up_to_next text n y (h.up_to y (subst (λ l. Contains l y) e c));
  descend = subst Descends (sym e) h.descend;
}

-- a piece has the place at which it stands
piece_place : (text : List ℕ) (n m : ℕ) (t : IcuToken) → TokenAt text n t → t ≡ token.Piece m
    → m ≡ n
piece_place text n m t a_piece e = sym (ap start_of e)
piece_place text n m t (a_word h) e = absurd (cc)
piece_place text n m t an_open e = absurd (cc)
piece_place text n m t a_close e = absurd (cc)
piece_place text n m t a_comma e = absurd (cc)

token_kept : (text : List ℕ) (n : ℕ) (g : Nesting) (t : IcuToken) → icu_token_at text n ≡ Some t
    → AllKept text n (nest g) → AllKept text (suc n) (nest (behind_piece (icu_piece text t) g))
token_kept text n g (token.Piece m) e h = (
  string_kept text n g.inner (token.Piece m)
      (bytes_placed (bytes_in_quotes false (drop (m + 1) text)) m) e
      (piece_place text n m (token.Piece m) (token_is text n (token.Piece m) e) refl) h.0,
  all_kept_next text n g.around h.1,
)
token_kept text n g (token.Word from to) e h = by (is_behind_colon text from)
  where
    by : (b : Bool)
        → AllKept text (suc n) (nest (behind_piece (if b then a_type (slice_range text from to)
        else a_string (bytes_placed (slice_range text from to) from)) g))
    by true = all_kept_next text n (nest g) h
    by false = (
      string_kept text n g.inner (token.Word from to)
          (bytes_placed (slice_range text from to) from) e refl h.0,
      all_kept_next text n g.around h.1,
    )
token_kept text n g (token.Open m) e h = (
  record { up_to = λ x c. absurd (never x c); descend = tt },
  all_kept_next text n (nest g) h,
)
token_kept text n g token.Close e h = by g.around h.1
  where
    by : (around : List OpenGroup) → AllKept text n around
        → AllKept text (suc n) (nest (behind_closing 0 g.inner around))
    by [] k = (kept_next text n g.inner h.0, tt)
    by (outer ∷ around) k =
        (silent_kept text n outer group_item refl k.0, all_kept_next text n around k.1)
token_kept text n g token.Comma e h =
    (silent_kept text n g.inner comma_item refl h.0, all_kept_next text n g.around h.1)

groups_kept : (text : List ℕ) (n : ℕ) → AllKept text n (nest (icu_groups_at text n))
groups_kept text zero = (record { up_to = λ x c. absurd (never x c); descend = tt }, tt)
groups_kept text (suc n) =
    by (icu_token_at text n) refl (groups_kept text n)
  where
    by : (o : Option IcuToken) → icu_token_at text n ≡ o
        → AllKept text n (nest (icu_groups_at text n))
        → AllKept text (suc n)
        (nest (groups_behind (option_map (icu_piece text) o) (icu_groups_at text n)))
    by None e h = all_kept_next text n (nest (icu_groups_at text n)) h
    by (Some t) e h = token_kept text n (icu_groups_at text n) t e h

-- the keys of pairs stand in their order
keys_ascend : (items : List GroupItem) (keys : List PlacedText) → pair_keys items ≡ Some keys
    → Descends (strings_of items) → Ascends (key_places keys)
keys_ascend [] keys e h = subst (λ ks. Ascends (key_places ks)) (same_Some [] keys e) tt
keys_ascend (string_item s ∷ xs) keys e h = absurd (none-some keys e)
keys_ascend (comma_item ∷ xs) keys e h = absurd (none-some keys e)
keys_ascend (group_item ∷ []) keys e h = absurd (none-some keys e)
keys_ascend (group_item ∷ comma_item ∷ xs) keys e h = absurd (none-some keys e)
keys_ascend (group_item ∷ group_item ∷ xs) keys e h = absurd (none-some keys e)
keys_ascend (group_item ∷ string_item s ∷ xs) keys e h =
    by (pair_keys xs) refl (λ ks f. keys_ascend xs ks f h.1) e
  where
    by : (o : Option (List PlacedText)) → pair_keys xs ≡ o
        → ((ks : List PlacedText) → o ≡ Some ks → Ascends (key_places ks))
        → option_map (λ ks. ks ++ s ∷ []) o ≡ Some keys → Ascends (key_places keys)
    by None is on f = absurd (none-some keys f)
    by (Some ks) is on f =
        subst (λ l. Ascends (key_places l)) (same_Some (ks ++ s ∷ []) keys f)
        (subst Ascends (sym (snoc_places ks s))
        (ascends_push (key_places ks) s.place (on ks refl)
        (λ y c. h.0 y ((placed xs ks is).stand y c))))

keys_in_order : (before ks : List PlacedText) → Ascends (key_places ks)
    → AllPairs (λ v w. v.place < w.place) (of_keys before ks)
keys_in_order before [] h = λ i j d low high. absurd (omega (arith, high))
keys_in_order before (k ∷ ks) h =
    by (first_place k.bytes before) (keys_in_order (before ++ k ∷ []) ks h.1)
  where
    by : (o : Option ℕ)
        → AllPairs (λ v w. v.place < w.place) (of_keys (before ++ k ∷ []) ks)
        → AllPairs (λ v w. v.place < w.place)
        (of_key k.place o ++ of_keys (before ++ k ∷ []) ks)
    by None r = r
    by (Some first) r =
        AllPairs-cons (λ v w. v.place < w.place)
        (warning_at (reason.RepeatedKey first) k.place) (of_keys (before ++ k ∷ []) ks)
        (All-weaker (Contains (of_keys (before ++ k ∷ []) ks)) (λ w. k.place < w.place)
        (λ w c. h.0 w.place (keys_place (before ++ k ∷ []) ks w c))
        (of_keys (before ++ k ∷ []) ks) (All-contains_itself (of_keys (before ++ k ∷ []) ks))) r

group_in_order : (g : OpenGroup) → Descends (strings_of g.items)
    → AllPairs (λ v w. v.place < w.place) (of_group g)
group_in_order g h = by (is_array g.named) (pair_keys g.items) refl
  where
    none : AllPairs (λ (v w : Warning). v.place < w.place) []
    none = λ i j d low high. absurd (omega (arith, high))

    by : (b : Bool) (o : Option (List PlacedText)) → pair_keys g.items ≡ o
        → AllPairs (λ v w. v.place < w.place) (if b then [] else of_some_keys o)
    by true o e = none
    by false None e = none
    by false (Some keys) e = keys_in_order [] keys (keys_ascend g.items keys e h)

pub repeats_in_order : (text : List ℕ) (n : ℕ)
    → AllPairs (λ v w. v.place < w.place) (icu_repeated text n)
repeats_in_order text n =
    group_in_order (icu_groups_at text n).inner (groups_kept text n).0.descend

pub repeats_once : (text : List ℕ) (n : ℕ) → AllPairs (λ v w. v ≢ w) (icu_repeated text n)
repeats_once text n = λ i j d low high e.
    (let r = repeats_in_order text n i j d low high in
    omega (arith, r, ap (λ v. v.place) e))
