-- Groups that end where a `}` stands, and bundles, each have one meaning.
use Rattle.std.proofs.Common.{◌≡◌, ◌≢◌, ℕ, ◌+◌, Bool, false, List, [], ◌∷◌, ◌++◌}
use Rattle.std.proofs.Common.{arith, subst, sym, refl, ◌∙◌, ap, ◌⊎◌, inl, inr, ⊎_elim, Some}
use Rattle.std.specs.Prelude.{◌%◌, ◌^◌, slice_index}
use Rattle.std.proofs.lemmas.Bool.{false≢true}
use Rattle.resb_grammar.specs.Ascii as ascii
use Rattle.resb_icu_grammar.specs.Groups.{digit_bytes, digits_of}
use Rattle.resb_icu_grammar.specs.Kinds.{Kind}
use Rattle.resb_grammar.specs.BundleText.{first_places}
use Rattle.resb_tree.specs.Tree.{Tree, string, alias, array, table, binary, integer}
use Rattle.resb_tree.specs.Tree.{int_vector, trees_of, map_of}
use Rattle.resb_icu_grammar.specs.Blanks.{Skip}
use Rattle.resb_icu_grammar.specs.Words.{one_part, more_parts, Text, KeyText, Name, Number}
use Rattle.resb_icu_grammar.specs.Groups.{TypedOpening, Numbers, last_number, last_comma, one_more}
use Rattle.resb_icu_grammar.specs.Groups.{LeafContent, string_content, alias_content}
use Rattle.resb_icu_grammar.specs.Groups.{binary_content}
use Rattle.resb_icu_grammar.specs.Groups.{integer_content, no_numbers, numbers, Last, nothing}
use Rattle.resb_icu_grammar.specs.Groups.{a_string, a_group, a_comma}
use Rattle.resb_icu_grammar.specs.Groups.{BeginsArray, with_a_group, with_a_string, Members}
use Rattle.resb_icu_grammar.specs.Groups.{no_member, string_member, group_member, comma_behind}
use Rattle.resb_icu_grammar.specs.Groups.{Entries, no_entry, one_entry, Untyped, an_empty_array}
use Rattle.resb_icu_grammar.specs.Groups.{one_string, an_array, a_table, Typed, members, entries}
use Rattle.resb_icu_grammar.specs.Groups.{leaf, Group, untyped, typed}
use Rattle.resb_icu_grammar.specs.Bundle.{Typing, without, with, Header}
use Rattle.resb_grammar.specs.Laws.{OneText}
use Rattle.resb_icu_grammar.specs.Bundle.{IcuText}
use Rattle.resb_icu_grammar.proofs.Lexical.{Begins-one, Skip-one, String-one, string_first}
use Rattle.resb_icu_grammar.proofs.Lexical.{Part-one, follows_once, starts_string, key_string, Number-one, number_first}
use Rattle.resb_icu_grammar.proofs.Lexical.{GroupType-one, RootType-one, root_type_first, Name-one}

-- a `}` stands there
abbrev pub Closes : List ℕ → ℕ → Type 0
Closes text at = slice_index text at ≡ ascii.right_brace

-- no string begins with this byte
pub no_string : (text : List ℕ) (at to b : ℕ) (s : List ℕ) → Text text at to s
    → slice_index text at ≡ b → starts_string b ≡ false → ⊥
no_string text at to b s h e f =
    false≢true (sym f ∙ ap starts_string (sym e) ∙ string_first text at to s h)

-- a group begins with a brace or a colon
pub group_first : (text : List ℕ) (from to : ℕ) (t : Tree) (ks : List (List ℕ))
    → Group text from to t ks
    → (slice_index text from ≡ ascii.left_brace) ⊎ (slice_index text from ≡ ascii.colon)
group_first text from to t ks (untyped _ i k _ _ h s u c) = inl h
group_first text from to t ks (typed _ i k kind _ _ h u c) = inr h.named.stands.colon

-- no group begins with this byte
pub no_group : (text : List ℕ) (from to b : ℕ) (t : Tree) (ks : List (List ℕ))
    → Group text from to t ks
    → slice_index text from ≡ b → b ≢ ascii.left_brace → b ≢ ascii.colon → ⊥
no_group text from to b t ks g e p q =
    ⊎_elim (λ (h : slice_index text from ≡ ascii.left_brace). p (sym e ∙ h))
    (λ (h : slice_index text from ≡ ascii.colon). q (sym e ∙ h)) (group_first text from to t ks g)

-- where a group begins no string does
pub no_both : (text : List ℕ) (from i to : ℕ) (s : List ℕ) (t : Tree) (ks : List (List ℕ))
    → Text text from i s → Group text from to t ks → ⊥
no_both text from i to s t ks h g =
    ⊎_elim (λ (e : slice_index text from ≡ ascii.left_brace). no_string text from i _ s h e refl)
    (λ (e : slice_index text from ≡ ascii.colon). no_string text from i _ s h e refl)
    (group_first text from to t ks g)

pub TypedOpening-one : (text : List ℕ) (from a b : ℕ) (k l : Kind) → TypedOpening text from k a
    → TypedOpening text from l b
    → (k ≡ l) × (a ≡ b)
TypedOpening-one text from a b k l p q =
    let named = GroupType-one text from p.ends q.ends k l p.named q.named in
    let brace : p.brace ≡ q.brace = Skip-one text p.ends p.brace q.brace p.between
    (subst (λ n. Skip text n q.brace) (sym named.0) q.between) in (
      named.1,
      Skip-one text (p.brace + 1) a b p.after
          (subst (λ n. Skip text (n + 1) b) (sym brace) q.after),
    )

-- a number, and the blanks behind it
number_skipped : (text : List ℕ) (from i j a b v w : ℕ) → Number text from i v → Skip text i a
    → Number text from j w → Skip text j b → (a ≡ b) × (v ≡ w)
number_skipped text from i j a b v w p k q l =
    let both = Number-one text from i j v w p q in
    (Skip-one text i a b k (subst (λ n. Skip text n b) (sym both.0) l), both.1)

-- behind a comma
pub comma_skipped : (text : List ℕ) (i j a b : ℕ) → i ≡ j → Skip text (i + 1) a
    → Skip text (j + 1) b
    → a ≡ b
comma_skipped text i j a b e k l =
    Skip-one text (i + 1) a b k (subst (λ n. Skip text (n + 1) b) (sym e) l)

pub no_comma_closes : (text : List ℕ) (i j : ℕ) → slice_index text i ≡ ascii.comma → i ≡ j
    → Closes text j → ⊥
no_comma_closes text i j h e c =
    let g : slice_index text i ≡ ascii.right_brace =
    subst (λ n. slice_index text n ≡ ascii.right_brace) (sym e) c in
    omega arith

no_numbers_close : (text : List ℕ) (from to : ℕ) (ns : List ℕ) → Numbers text from to ns
    → Closes text from → ⊥
no_numbers_close text from to ns (last_number _ i _ v p k) c = number_first text from i v p c
no_numbers_close text from to ns (last_comma _ i j _ v p k h l) c = number_first text from i v p c
no_numbers_close text from to ns (one_more _ i j m _ v ms p k h l r) c =
    number_first text from i v p c

Numbers-one : (text : List ℕ) (from a b : ℕ) (ns ms : List ℕ) → Numbers text from a ns
    → Numbers text from b ms → Closes text a → Closes text b → (a ≡ b) × (ns ≡ ms)
Numbers-one text from a b ns ms (last_number _ i _ v p k) (last_number _ j _ w q l) c d =
    let both = number_skipped text from i j a b v w p k q l in (both.0, ap (λ n. n ∷ []) both.1)
Numbers-one text from a b ns ms (last_number _ i _ v p k) (last_comma _ j m _ w q l h x) c d =
    let both = number_skipped text from i j a m v w p k q l in
    absurd (no_comma_closes text m a h (sym both.0) c)
Numbers-one text from a b ns ms (last_number _ i _ v p k) (one_more _ j m n _ w us q l h x r) c d =
    let both = number_skipped text from i j a m v w p k q l in
    absurd (no_comma_closes text m a h (sym both.0) c)
Numbers-one text from a b ns ms (last_comma _ i m _ v p k h x) (last_number _ j _ w q l) c d =
    let both = number_skipped text from i j m b v w p k q l in
    absurd (no_comma_closes text m b h both.0 d)
Numbers-one text from a b ns ms (last_comma _ i m _ v p k h x) (last_comma _ j n _ w q l g y) c d =
    let both = number_skipped text from i j m n v w p k q l in
    (comma_skipped text m n a b both.0 x y, ap (λ u. u ∷ []) both.1)
Numbers-one text from a b ns ms (last_comma _ i m _ v p k h x)
    (one_more _ j n o _ w us q l g y r) c d =
    let both = number_skipped text from i j m n v w p k q l in
    let e : a ≡ o = comma_skipped text m n a o both.0 x y in
    absurd (no_numbers_close text o b us r (subst (λ u. Closes text u) e c))
Numbers-one text from a b ns ms (one_more _ i m o _ v us p k h x r) (last_number _ j _ w q l) c d =
    let both = number_skipped text from i j m b v w p k q l in
    absurd (no_comma_closes text m b h both.0 d)
Numbers-one text from a b ns ms (one_more _ i m o _ v us p k h x r)
    (last_comma _ j n _ w q l g y) c d =
    let both = number_skipped text from i j m n v w p k q l in
    let e : o ≡ b = comma_skipped text m n o b both.0 x y in
    absurd (no_numbers_close text o a us r (subst (λ u. Closes text u) (sym e) d))
Numbers-one text from a b ns ms (one_more _ i m o _ v us p k h x r)
    (one_more _ j n z _ w vs q l g y s) c d =
    let both = number_skipped text from i j m n v w p k q l in
    let e : o ≡ z = comma_skipped text m n o z both.0 x y in
    let more = Numbers-one text o a b us vs r (subst (λ u. Numbers text u b vs) (sym e) s) c d in
    (more.0, (λ u. both.1 u ∷ more.1 u))

-- a string, and the blanks behind it
pub string_skipped : (text : List ℕ) (from i j a b : ℕ) (s t : List ℕ) → Text text from i s
    → Skip text i a → Text text from j t → Skip text j b → (a ≡ b) × (s ≡ t)
string_skipped text from i j a b s t p k q l =
    let both = String-one text from i j s t p q in
    (Skip-one text i a b k (subst (λ n. Skip text n b) (sym both.0) l), both.1)

-- it says one thing as pairs of hex digits
pub digits_same : (text : List ℕ) (from a b : ℕ) (s t : List ℕ) → (p : Text text from a s)
    → (q : Text text from b t) → digits_of p ≡ digits_of q
digits_same text from a b s t (one_part _ _ m _ p k h) (one_part _ _ n _ q l g) =
    ap (digit_bytes text from) (Part-one text from a b s t p q).1
digits_same text from a b s t (one_part _ _ m _ p k h) (more_parts _ i n _ u v q l g r) =
    absurd (follows_once text from a i m n s u p k h q l g)
digits_same text from a b s t (more_parts _ i n _ u v q l g r) (one_part _ _ m _ p k h) =
    absurd (follows_once text from b i m n t u p k h q l g)
digits_same text from a b s t (more_parts _ i m _ u v p k h r)
    (more_parts _ j n _ w x q l g z) = refl

pub LeafContent-one : (text : List ℕ) (from a b : ℕ) (kind : Kind) (t u : Tree)
    → LeafContent text from a kind t → LeafContent text from b kind u → Closes text a
    → Closes text b → (a ≡ b) × (t ≡ u)
LeafContent-one text from a b _ t u (string_content i s p k) (string_content j r q l) c d =
    let both = string_skipped text from i j a b s r p k q l in (both.0, ap string both.1)
LeafContent-one text from a b _ t u (alias_content i s p k) (alias_content j r q l) c d =
    let both = string_skipped text from i j a b s r p k q l in (both.0, ap alias both.1)
LeafContent-one text from a b _ t u (binary_content i s bs p h k) (binary_content j r cs q g l) c d
    =
    let both = string_skipped text from i j a b s r p k q l in
    let e : Some bs ≡ Some cs = sym h ∙ digits_same text from i j s r p q ∙ g in
    let f : bs ≡ cs = cc in
    (both.0, ap binary f)
LeafContent-one text from a b _ t u (integer_content i v p k) (integer_content j w q l) c d =
    let both = number_skipped text from i j a b v w p k q l in
    (both.0, ap (λ n. integer (n % 2 ^ 28)) both.1)
LeafContent-one text from a b _ t u (no_numbers e) (no_numbers f) c d = (sym e ∙ f, refl)
LeafContent-one text from a b _ t u (no_numbers e) (numbers ms q) c d =
    absurd (no_numbers_close text from b ms q (subst (λ n. Closes text n) (sym e) c))
LeafContent-one text from a b _ t u (numbers ns p) (no_numbers e) c d =
    absurd (no_numbers_close text from a ns p (subst (λ n. Closes text n) (sym e) d))
LeafContent-one text from a b _ t u (numbers ns p) (numbers ms q) c d =
    let both = Numbers-one text from a b ns ms p q c d in (both.0, ap int_vector both.1)

-- a byte is not both a brace and a colon
pub no_brace_colon : (text : List ℕ) (from : ℕ) → slice_index text from ≡ ascii.left_brace
    → slice_index text from ≡ ascii.colon → ⊥
no_brace_colon text from h g = omega arith

-- what begins an array doesn't close a group
pub no_array : (text : List ℕ) (at : ℕ) → BeginsArray text at → Closes text at → ⊥
no_array text at (with_a_group h) c =
    ⊎_elim (λ (e : slice_index text at ≡ ascii.left_brace). omega arith)
    (λ (e : slice_index text at ≡ ascii.colon). omega arith) h
no_array text at (with_a_string i k s p l e) c = no_string text at i _ s p c refl

-- where one string is closed no array begins
pub no_string_array : (text : List ℕ) (from i a : ℕ) (s : List ℕ) → Text text from i s
    → Skip text i a → Closes text a → BeginsArray text from → ⊥
no_string_array text from i a s p k c (with_a_group h) =
    ⊎_elim (λ (e : slice_index text from ≡ ascii.left_brace). no_string text from i _ s p e refl)
    (λ (e : slice_index text from ≡ ascii.colon). no_string text from i _ s p e refl) h
no_string_array text from i a s p k c (with_a_string j m q x l e) =
    no_comma_closes text m a e (string_skipped text from j i m a q s x l p k).0 c

-- where one string is closed no entry begins
pub no_string_table : (text : List ℕ) (from i i' a j m : ℕ) (s q : List ℕ) (v : Tree)
    (zs : List (List ℕ)) → Text text from i s → Skip text i a → KeyText text from i' q
    → Skip text i' j → Group text j m v zs → Closes text a → ⊥
no_string_table text from i i' a j m s q v zs p k x l g c =
    let e : a ≡ j = (string_skipped text from i i' a j s q p k (key_string text from i' q x) l).0 in
    no_group text j m _ v zs g (subst (λ n. Closes text n) e c) (λ f. omega arith)
    (λ f. omega arith)

-- where an array begins no entry does
pub no_array_table : (text : List ℕ) (from i j m : ℕ) (q : List ℕ) (v : Tree) (zs : List (List ℕ))
    → KeyText text from i q → Skip text i j → Group text j m v zs → BeginsArray text from → ⊥
no_array_table text from i j m q v zs x l g (with_a_group h) =
    ⊎_elim (λ (e : slice_index text from ≡ ascii.left_brace).
    no_string text from i _ q (key_string text from i q x) e refl)
    (λ (e : slice_index text from ≡ ascii.colon).
    no_string text from i _ q (key_string text from i q x) e refl) h
no_array_table text from i j m q v zs x l g (with_a_string n k s p o e) =
    let same : k ≡ j =
    (string_skipped text from n i k j s q p o (key_string text from i q x) l).0 in
    no_group text j m _ v zs g (subst (λ u. slice_index text u ≡ ascii.comma) same e)
    (λ f. omega arith) (λ f. omega arith)

mutual
  Members-one : (text : List ℕ) (last : Last) (from a b : ℕ) (ts us : List Tree)
      (ks js : List (List ℕ)) → Members text last from a ts ks → Members text last from b us js
      → Closes text a → Closes text b → (a ≡ b) × (ts ≡ us) × (ks ≡ js)
  Members-one text last from a b ts us ks js (no_member _ _) (no_member _ _) c d =
      (refl, refl, refl)
  Members-one text last from a b ts us ks js (no_member _ _)
      (string_member _ _ i j _ s _ _ h p k r) c d = absurd (no_string text from i _ s p c refl)
  Members-one text last from a b ts us ks js (no_member _ _)
      (group_member _ _ i j _ t zs _ _ g k r) c d =
      absurd (no_group text from i _ t zs g c (λ e. omega arith) (λ e. omega arith))
  Members-one text last from a b ts us ks js (no_member _ _) (comma_behind _ _ j _ _ _ h e k r) c d
      =
      absurd (omega arith)
  Members-one text last from a b ts us ks js (string_member _ _ i j _ s _ _ h p k r)
      (no_member _ _) c d = absurd (no_string text from i _ s p d refl)
  Members-one text last from a b ts us ks js (string_member _ _ i j _ s ts' _ h p k r)
      (string_member _ _ m n _ q us' _ g x l z) c d =
      let both = string_skipped text from i m j n s q p k x l in
      let more = Members-one text a_string j a b ts' us' ks js r
      (subst (λ u. Members text a_string u b us' js) (sym both.0) z) c d in
      (more.0, (λ u. string (both.1 u) ∷ more.1 u), more.2)
  Members-one text last from a b ts us ks js (string_member _ _ i j _ s _ _ h p k r)
      (group_member _ _ m n _ t zs _ _ g l z) c d = absurd (no_both text from i m s t zs p g)
  Members-one text last from a b ts us ks js (string_member _ _ i j _ s _ _ h p k r)
      (comma_behind _ _ n _ _ _ g e l z) c d = absurd (no_string text from i _ s p e refl)
  Members-one text last from a b ts us ks js (group_member _ _ i j _ t zs _ _ g k r)
      (no_member _ _) c d =
      absurd (no_group text from i _ t zs g d (λ e. omega arith) (λ e. omega arith))
  Members-one text last from a b ts us ks js (group_member _ _ i j _ t zs _ _ g k r)
      (string_member _ _ m n _ s _ _ h p l z) c d = absurd (no_both text from m i s t zs p g)
  Members-one text last from a b ts us ks js (group_member _ _ i j _ t zs ks' ts' g k r)
      (group_member _ _ m n _ u ys js' us' x l z) c d =
      let both = Group-one text from i m t u zs ys g x in
      let e : j ≡ n = Skip-one text i j n k (subst (λ w. Skip text w n) (sym both.0) l) in
      let more = Members-one text a_group j a b ts' us' ks' js' r
      (subst (λ w. Members text a_group w b us' js') (sym e) z) c d in
      (more.0, (λ w. both.1 w ∷ more.1 w), (λ w. both.2 w ++ more.2 w))
  Members-one text last from a b ts us ks js (group_member _ _ i j _ t zs _ _ g k r)
      (comma_behind _ _ n _ _ _ h e l z) c d =
      absurd (no_group text from i _ t zs g e (λ f. omega arith) (λ f. omega arith))
  Members-one text last from a b ts us ks js (comma_behind _ _ j _ _ _ h e k r) (no_member _ _) c d
      =
      absurd (omega arith)
  Members-one text last from a b ts us ks js (comma_behind _ _ j _ _ _ h e k r)
      (string_member _ _ m n _ s _ _ g p l z) c d = absurd (no_string text from m _ s p e refl)
  Members-one text last from a b ts us ks js (comma_behind _ _ j _ _ _ h e k r)
      (group_member _ _ m n _ t zs _ _ g l z) c d =
      absurd (no_group text from m _ t zs g e (λ f. omega arith) (λ f. omega arith))
  Members-one text last from a b ts us ks js (comma_behind _ _ j _ _ _ h e k r)
      (comma_behind _ _ n _ _ _ g f l z) c d =
      let same : j ≡ n = Skip-one text (from + 1) j n k l in
      Members-one text a_comma j a b ts us ks js r
      (subst (λ u. Members text a_comma u b us js) (sym same) z) c d

  Entries-one : (text : List ℕ) (from a b : ℕ) (es fs : List (List ℕ × Tree))
      (ks js : List (List ℕ)) → Entries text from a es ks → Entries text from b fs js
      → Closes text a → Closes text b → (a ≡ b) × (es ≡ fs) × (ks ≡ js)
  Entries-one text from a b es fs ks js (no_entry _) (no_entry _) c d = (refl, refl, refl)
  Entries-one text from a b es fs ks js (no_entry _) (one_entry _ i j m n _ k t _ zs _ p l g o r
      w)
      c d = absurd (no_string text from i _ k (key_string text from i k p) c refl)
  Entries-one text from a b es fs ks js (one_entry _ i j m n _ k t _ zs _ p l g o r w) (no_entry
      _)
      c d = absurd (no_string text from i _ k (key_string text from i k p) d refl)
  Entries-one text from a b es fs ks js (one_entry _ i j m n _ k t es' zs ks' p l g o r w)
      (one_entry _ i' j' m' n' _ k' t' fs' ys js' p' l' g' o' r' w') c d =
      let key = string_skipped text from i i' j j' k k' (key_string text from i k p) l
      (key_string text from i' k' p') l' in
      let value = Group-one text j m m' t t' zs ys g
      (subst (λ u. Group text u m' t' ys) (sym key.0) g') in
      let e : n ≡ n' = Skip-one text m n n' o (subst (λ u. Skip text u n') (sym value.0) o') in
      let more = Entries-one text n a b es' fs' ks' js' r
      (subst (λ u. Entries text u b fs' js') (sym e) r') c d in
      (more.0, (λ u. (key.1 u, value.1 u) ∷ more.1 u), (λ u. key.1 u ∷ value.2 u ++ more.2 u))

  pub Untyped-one : (text : List ℕ) (from a b : ℕ) (t u : Tree) (ks js : List (List ℕ))
      → Untyped text from a t ks → Untyped text from b u js → Closes text a → Closes text b
      → (a ≡ b) × (t ≡ u) × (ks ≡ js)
  Untyped-one text from a b t u ks js (an_empty_array _) (an_empty_array _) c d = (refl, refl, refl)
  Untyped-one text from a b t u ks js (an_empty_array _) (one_string _ i _ s p k) c d =
      absurd (no_string text from i _ s p c refl)
  Untyped-one text from a b t u ks js (an_empty_array _) (an_array _ _ us _ h r) c d =
      absurd (no_array text from h c)
  Untyped-one text from a b t u ks js (an_empty_array _)
      (a_table _ _ _ _ _ (one_entry _ i j m n _ k v _ zs _ p l g o r w)) c d =
      absurd (no_string text from i _ k (key_string text from i k p) c refl)
  Untyped-one text from a b t u ks js (one_string _ i _ s p k) (an_empty_array _) c d =
      absurd (no_string text from i _ s p d refl)
  Untyped-one text from a b t u ks js (one_string _ i _ s p k) (one_string _ j _ r q l) c d =
      let both = string_skipped text from i j a b s r p k q l in (both.0, ap string both.1, refl)
  Untyped-one text from a b t u ks js (one_string _ i _ s p k) (an_array _ _ us _ h r) c d =
      absurd (no_string_array text from i a s p k c h)
  Untyped-one text from a b t u ks js (one_string _ i _ s p k)
      (a_table _ _ _ _ _ (one_entry _ i' j m n _ q v _ zs _ x l g o r w)) c d =
      absurd (no_string_table text from i i' a j m s q v zs p k x l g c)
  Untyped-one text from a b t u ks js (an_array _ _ ts _ h r) (an_empty_array _) c d =
      absurd (no_array text from h d)
  Untyped-one text from a b t u ks js (an_array _ _ ts _ h r) (one_string _ i _ s p k) c d =
      absurd (no_string_array text from i b s p k d h)
  Untyped-one text from a b t u ks js (an_array _ _ ts _ h r) (an_array _ _ us _ g z) c d =
      let both = Members-one text nothing from a b ts us ks js r z c d in
      (both.0, ap (λ vs. array (trees_of vs)) both.1, both.2)
  Untyped-one text from a b t u ks js (an_array _ _ ts _ h r)
      (a_table _ _ _ _ _ (one_entry _ i j m n _ q v _ zs _ x l g o y w)) c d =
      absurd (no_array_table text from i j m q v zs x l g h)
  Untyped-one text from a b t u ks js
      (a_table _ _ _ _ _ (one_entry _ i j m n _ k v _ zs _ p l g o r w)) (an_empty_array _) c d =
      absurd (no_string text from i _ k (key_string text from i k p) d refl)
  Untyped-one text from a b t u ks js
      (a_table _ _ _ _ _ (one_entry _ i' j m n _ q v _ zs _ x l g o r w))
      (one_string _ i _ s p k) c d =
      absurd (no_string_table text from i i' b j m s q v zs p k x l g d)
  Untyped-one text from a b t u ks js
      (a_table _ _ _ _ _ (one_entry _ i j m n _ q v _ zs _ x l g o y w))
      (an_array _ _ us _ h r) c d = absurd (no_array_table text from i j m q v zs x l g h)
  Untyped-one text from a b t u ks js (a_table _ _ e es _ p) (a_table _ _ f fs _ q) c d =
      let both = Entries-one text from a b (e ∷ es) (f ∷ fs) ks js p q c d in
      (both.0, ap (λ vs. table (map_of vs)) both.1, both.2)

  Typed-one : (text : List ℕ) (kind : Kind) (from a b : ℕ) (t u : Tree) (ks js : List (List ℕ))
      → Typed text kind from a t ks → Typed text kind from b u js → Closes text a → Closes text b
      → (a ≡ b) × (t ≡ u) × (ks ≡ js)
  Typed-one text _ from a b t u ks js (members _ _ ts _ p) (members _ _ us _ q) c d =
      let both = Members-one text nothing from a b ts us ks js p q c d in
      (both.0, ap (λ vs. array (trees_of vs)) both.1, both.2)
  Typed-one text _ from a b t u ks js (entries _ _ es _ p) (entries _ _ fs _ q) c d =
      let both = Entries-one text from a b es fs ks js p q c d in
      (both.0, ap (λ vs. table (map_of vs)) both.1, both.2)
  Typed-one text _ from a b t u ks js (members _ _ ts _ p) (leaf _ _ _ _ q) c d = elim q [ ]
  Typed-one text _ from a b t u ks js (entries _ _ es _ p) (leaf _ _ _ _ q) c d = elim q [ ]
  Typed-one text _ from a b t u ks js (leaf _ _ _ _ p) (members _ _ us _ q) c d = elim p [ ]
  Typed-one text _ from a b t u ks js (leaf _ _ _ _ p) (entries _ _ fs _ q) c d = elim p [ ]
  Typed-one text kind from a b t u ks js (leaf _ _ _ _ p) (leaf _ _ _ _ q) c d =
      let both = LeafContent-one text from a b kind t u p q c d in (both.0, both.1, refl)

  pub Group-one : (text : List ℕ) (from a b : ℕ) (t u : Tree) (ks js : List (List ℕ))
      → Group text from a t ks → Group text from b u js → (a ≡ b) × (t ≡ u) × (ks ≡ js)
  Group-one text from a b t u ks js (untyped _ i k _ _ h s p c) (untyped _ j m _ _ g z q d) =
      let e : i ≡ j = Skip-one text (from + 1) i j s z in
      let both = Untyped-one text i k m t u ks js p
      (subst (λ n. Untyped text n m u js) (sym e) q) c d in
      (ap (λ n. n + 1) both.0, both.1, both.2)
  Group-one text from a b t u ks js (untyped _ i k _ _ h s p c) (typed _ j m kind _ _ g q d) =
      absurd (no_brace_colon text from h g.named.stands.colon)
  Group-one text from a b t u ks js (typed _ i k kind _ _ h p c) (untyped _ j m _ _ g z q d) =
      absurd (no_brace_colon text from g h.named.stands.colon)
  Group-one text from a b t u ks js (typed _ i k kind _ _ h p c) (typed _ j m other _ _ g q d) =
      let heads = TypedOpening-one text from i j kind other h g in
      let q' : Typed text kind i m u js = subst (λ n. Typed text kind n m u js) (sym heads.1)
      (subst (λ l. Typed text l j m u js) (sym heads.0) q) in
      let both = Typed-one text kind i k m t u ks js p q' c d in
      (ap (λ n. n + 1) both.0, both.1, both.2)

Typing-one : (text : List ℕ) (from a b : ℕ) (f g : Bool) → Typing text from a f
    → Typing text from b g → slice_index text a ≡ ascii.left_brace
    → slice_index text b ≡ ascii.left_brace → (a ≡ b) × (f ≡ g)
Typing-one text from a b f g (without e) (without d) h k = (sym e ∙ d, refl)
Typing-one text from a b f g (without e) (with j _ q l) h k =
    absurd (no_brace_colon text from (subst (λ n. slice_index text n ≡ ascii.left_brace) (sym e) h)
    (root_type_first text from j g q))
Typing-one text from a b f g (with i _ p s) (without d) h k =
    absurd (no_brace_colon text from (subst (λ n. slice_index text n ≡ ascii.left_brace) (sym d) k)
    (root_type_first text from i f p))
Typing-one text from a b f g (with i _ p s) (with j _ q l) h k =
    let both = RootType-one text from i j f g p q in
    (Skip-one text i a b s (subst (λ n. Skip text n b) (sym both.0) l), both.1)

pub Header-one : (text name other : List ℕ) (f g : Bool) (a b : ℕ) → Header text name f a
    → Header text other g b → (name ≡ other) × (f ≡ g) × (a ≡ b)
Header-one text name other f g a b p q =
    let begins : p.begin ≡ q.begin = Begins-one text p.begin q.begin p.begins q.begins in
    let start : p.start ≡ q.start = Skip-one text p.begin p.start q.start p.before
    (subst (λ n. Skip text n q.start) (sym begins) q.before) in
    let named = Name-one text p.start p.ends q.ends name other p.named
    (subst (λ n. Name text n q.ends other) (sym start) q.named) in
    let place : p.place ≡ q.place = Skip-one text p.ends p.place q.place p.between
    (subst (λ n. Skip text n q.place) (sym named.0) q.between) in
    let typing = Typing-one text p.place p.brace q.brace f g p.typed
    (subst (λ n. Typing text n q.brace g) (sym place) q.typed) p.opens q.opens in (
      named.1,
      typing.1,
      Skip-one text (p.brace + 1) a b p.after
          (subst (λ n. Skip text (n + 1) b) (sym typing.0) q.after),
    )

-- a text is one bundle at most
pub one_icu_text : OneText IcuText
one_icu_text text name other f g tree root keys ks p q =
    let heads = Header-one text name other f g p.first q.first p.header q.header in
    let both = Entries-one text p.first p.last q.last p.entries q.entries p.places q.places p.body
    (subst (λ n. Entries text n q.last q.entries q.places) (sym heads.2) q.body) p.closes q.closes
    in (
      heads.0,
      heads.1,
      p.means ∙ ap (λ es. table (map_of es)) both.1 ∙ sym q.means,
      p.lists ∙ ap first_places both.2 ∙ sym q.lists,
    )
