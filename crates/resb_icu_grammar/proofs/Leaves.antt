-- Where the content of a group that holds no items is stuck, none stands.
use Rattle.std.proofs.Common.{◌≡◌, ◌≢◌, ℕ, ◌+◌, Bool, true, false, List, ◌∷◌, [], refl, sym, ◌∙◌}
use Rattle.std.proofs.Common.{ap, subst, arith}
use Rattle.std.specs.Prelude.{slice_index}
use Rattle.std.proofs.lemmas.Bool.{false≢true}
use Rattle.std.proofs.lemmas.Option.{none-some}
use Rattle.resb_grammar.specs.Ascii as ascii
use Rattle.resb_icu_grammar.specs.Kinds.{Kind, array_kind, table_kind}
use Rattle.resb_icu_grammar.specs.Kinds.{vector_kind}
use Rattle.resb_tree.specs.Tree.{Tree}
use Rattle.resb_icu_grammar.specs.Blanks.{Skip}
use Rattle.resb_icu_grammar.specs.Words.{Number}
use Rattle.resb_icu_grammar.specs.Groups.{Numbers, last_number, last_comma, one_more, LeafContent}
use Rattle.resb_icu_grammar.specs.Groups.{string_content, alias_content, binary_content}
use Rattle.resb_icu_grammar.specs.Groups.{integer_content}
use Rattle.resb_icu_grammar.specs.Groups.{no_numbers, numbers}
use Rattle.resb_icu_grammar.specs.declared.expected.IcuExpected.{IcuExpected}
use Rattle.resb_icu_grammar.specs.Stuck.{NoNumberAt, NumbersSoFar, none_yet, one_number, LeafStuck}
use Rattle.resb_icu_grammar.specs.Stuck.{no_string, open_string, no_path, open_alias, no_digits}
use Rattle.resb_icu_grammar.specs.Stuck.{odd_digits, open_binary}
use Rattle.resb_icu_grammar.specs.Stuck.{no_integer, open_integer, no_number, open_vector}
use Rattle.resb_icu_grammar.proofs.Groups.{Closes, digits_same}
use Rattle.resb_icu_grammar.proofs.Lexical.{Skip-one, String-one, Number-one, number_first}

-- numbers stand there up to a `}`
pub record SomeNumbers (text : List ℕ) (at : ℕ) : Type 0 where
  pub to : ℕ
  pub items : List ℕ
  pub stand : Numbers text at to items
  pub closes : Closes text to

-- what stands behind a first number and its blanks
pub data Behind (text : List ℕ) (place v : ℕ) : ℕ → List ℕ → Type 0 where
  the_end : Behind text place v place (v ∷ [])
  a_comma : (to : ℕ) → slice_index text place ≡ ascii.comma → Skip text (place + 1) to
      → Behind text place v to (v ∷ [])
  others : (k to : ℕ) (ns : List ℕ) → slice_index text place ≡ ascii.comma
      → Skip text (place + 1) k → Numbers text k to ns → Behind text place v to (v ∷ ns)

pub behind_first : (text : List ℕ) (at i place v to : ℕ) (ns : List ℕ) → Number text at i v
    → Skip text i place → Numbers text at to ns → Behind text place v to ns
behind_first text at i place v to ns p k (last_number _ j _ w q l) =
    let n = Number-one text at i j v w p q in
    let e : place ≡ to = Skip-one text i place to k (subst (λ u. Skip text u to) (sym n.0) l) in
    subst (λ u. Behind text place v u (w ∷ [])) e
    (subst (λ u. Behind text place v place (u ∷ [])) n.1 the_end)
behind_first text at i place v to ns p k (last_comma _ j m _ w q l c r) =
    let n = Number-one text at i j v w p q in
    let e : place ≡ m = Skip-one text i place m k (subst (λ u. Skip text u m) (sym n.0) l) in
    subst (λ u. Behind text place v to (u ∷ [])) n.1
    (a_comma to (ap (λ u. slice_index text u) e ∙ c)
    (subst (λ u. Skip text (u + 1) to) (sym e) r))
behind_first text at i place v to _ p k (one_more _ j m o _ w us q l c r s) =
    let n = Number-one text at i j v w p q in
    let e : place ≡ m = Skip-one text i place m k (subst (λ u. Skip text u m) (sym n.0) l) in
    subst (λ u. Behind text place v to (u ∷ us)) n.1
    (others o to us (ap (λ u. slice_index text u) e ∙ c)
    (subst (λ u. Skip text (u + 1) o) (sym e) r) s)

-- numbers behind a number and its comma
numbers_on : (text : List ℕ) (at i place v next : ℕ) → Number text at i v → Skip text i place
    → slice_index text place ≡ ascii.comma → Skip text (place + 1) next
    → slice_index text next ≢ ascii.right_brace → SomeNumbers text at → SomeNumbers text next
numbers_on text at i place v next p k c l b w =
    by w.to w.items (behind_first text at i place v w.to w.items p k w.stand) w.closes
  where
    by : (to : ℕ) (ms : List ℕ) → Behind text place v to ms → Closes text to
        → SomeNumbers text next
    by to ms the_end d = absurd (omega (arith, c, d))
    by to ms (a_comma _ e r) d =
        absurd (b (ap (λ u. slice_index text u) (Skip-one text (place + 1) next to l r) ∙ d))
    by to _ (others m _ us e r s) d = record {
      to = to;
      items = us;
      stand = subst (λ u. Numbers text u to us) (sym (Skip-one text (place + 1) next m l r)) s;
      closes = d;
    }

first_number : (text : List ℕ) (at to : ℕ) (ns : List ℕ) → Numbers text at to ns
    → NoNumberAt text at → ⊥
first_number text at to ns (last_number _ i _ v p k) f = f i v p
first_number text at to ns (last_comma _ i j _ v p k c l) f = f i v p
first_number text at to ns (one_more _ i j m _ v us p k c l r) f = f i v p

-- behind some numbers and their commas stand the others
counted_on : (text : List ℕ) (from to : ℕ) → NumbersSoFar text from to
    → slice_index text to ≢ ascii.right_brace → SomeNumbers text from → SomeNumbers text to
counted_on text from _ (none_yet _) b w = w
counted_on text from to (one_number _ k i j _ v c p s e l) b w =
    numbers_on text k i j v to p s e l b
    (counted_on text from k c (number_first text k i v p) w)

-- and no `}` stands where they begin
pub counted_begin : (text : List ℕ) (from to : ℕ) → NumbersSoFar text from to
    → slice_index text to ≢ ascii.right_brace → slice_index text from ≢ ascii.right_brace
counted_begin text from _ (none_yet _) b = b
counted_begin text from to (one_number _ k i j _ v c p s e l) b =
    counted_begin text from k c (number_first text k i v p)

some_numbers : (text : List ℕ) (from to : ℕ) (t : Tree) → LeafContent text from to vector_kind t
    → Closes text to → slice_index text from ≢ ascii.right_brace → SomeNumbers text from
some_numbers text from to _ (no_numbers e) c b = absurd (b (ap (λ u. slice_index text u) e ∙ c))
some_numbers text from to _ (numbers ns r) c b =
    record { to = to; items = ns; stand = r; closes = c }

-- the numbers from a place on, where a vector stands
vector_on : (text : List ℕ) (from at to : ℕ) (t : Tree) → NumbersSoFar text from at
    → slice_index text at ≢ ascii.right_brace → LeafContent text from to vector_kind t
    → Closes text to → SomeNumbers text at
vector_on text from at to t c b l d =
    counted_on text from at c b (some_numbers text from to t l d (counted_begin text from at c b))

-- behind a number stands neither a comma nor a `}`
unended : (text : List ℕ) (at i place v : ℕ) → Number text at i v → Skip text i place
    → slice_index text place ≢ ascii.comma → slice_index text place ≢ ascii.right_brace
    → SomeNumbers text at → ⊥
unended text at i place v p k a b w =
    by w.to w.items (behind_first text at i place v w.to w.items p k w.stand) w.closes
  where
    by : (to : ℕ) (ns : List ℕ) → Behind text place v to ns → Closes text to → ⊥
    by to ns the_end c = b c
    by to ns (a_comma _ e l) c = a e
    by to ns (others m _ us e l r) c = a e

-- where the content of a group is stuck, none stands up to a `}`
pub no_leaf_there : (text : List ℕ) (from : ℕ) (kind : Kind) (at : ℕ) (x : IcuExpected)
    → LeafStuck text from kind at x → (to : ℕ) (t : Tree) → LeafContent text from to kind t
    → Closes text to → ⊥
no_leaf_there text from _ _ _ (no_string _ _ f w) to _ (string_content i s p k) c = f i s p
no_leaf_there text from _ at _ (open_string j _ s p l n) to _ (string_content i u q k) c =
    let same = String-one text from i j u s q p in
    n (ap (λ w. slice_index text w) (sym (Skip-one text j to at
    (subst (λ w. Skip text w to) same.0 k) l)) ∙ c)
no_leaf_there text from _ _ _ (no_path _ _ f w) to _ (alias_content i s p k) c = f i s p
no_leaf_there text from _ at _ (open_alias j _ s p l n) to _ (alias_content i u q k) c =
    let same = String-one text from i j u s q p in
    n (ap (λ w. slice_index text w) (sym (Skip-one text j to at
    (subst (λ w. Skip text w to) same.0 k) l)) ∙ c)
no_leaf_there text from _ _ _ (no_digits _ _ f w) to _ (binary_content i s bytes p e k) c = f i s p
no_leaf_there text from _ _ _ (odd_digits j s p n) to _ (binary_content i u bytes q e k) c =
    none-some bytes (sym n ∙ digits_same text from j i s u p q ∙ e)
no_leaf_there text from _ at _ (open_binary j _ s p h l n) to _ (binary_content i u bytes q e k) c =
    let same = String-one text from i j u s q p in
    n (ap (λ w. slice_index text w) (sym (Skip-one text j to at
    (subst (λ w. Skip text w to) same.0 k) l)) ∙ c)
no_leaf_there text from _ _ _ (no_integer f) to _ (integer_content i v p k) c = f i v p
no_leaf_there text from _ at _ (open_integer j _ v p l n) to _ (integer_content i w q k) c =
    let same = Number-one text from i j w v q p in
    n (ap (λ u. slice_index text u) (sym (Skip-one text j to at
    (subst (λ u. Skip text u to) same.0 k) l)) ∙ c)
no_leaf_there text from _ _ _ (no_number at d b f) to t l c =
    let w = vector_on text from at to t d b l c in first_number text at w.to w.items w.stand f
no_leaf_there text from _ _ _ (open_vector at i j v d p l m n) to t h c =
    unended text at i j v p l m n
    (vector_on text from at to t d (number_first text at i v p) h c)

abbrev has_items : Kind → Bool
has_items array_kind = true
has_items table_kind = true
has_items _ = false

no_items : (text : List ℕ) (from : ℕ) (kind : Kind) (at : ℕ) (x : IcuExpected)
    → LeafStuck text from kind at x → has_items kind ≡ false
no_items text from _ _ _ (no_string _ _ f w) = refl
no_items text from _ _ _ (open_string j _ s p l n) = refl
no_items text from _ _ _ (no_path _ _ f w) = refl
no_items text from _ _ _ (open_alias j _ s p l n) = refl
no_items text from _ _ _ (no_digits _ _ f w) = refl
no_items text from _ _ _ (odd_digits j s p n) = refl
no_items text from _ _ _ (open_binary j _ s p h l n) = refl
no_items text from _ _ _ (no_integer f) = refl
no_items text from _ _ _ (open_integer j _ v p l n) = refl
no_items text from _ _ _ (no_number at d b f) = refl
no_items text from _ _ _ (open_vector at i j v d p l m n) = refl

-- a group whose content may be stuck so is neither an array nor a table
pub stuck_kind : (text : List ℕ) (from : ℕ) (kind : Kind) (at : ℕ) (x : IcuExpected)
    → LeafStuck text from kind at x → (kind ≢ array_kind) × (kind ≢ table_kind)
stuck_kind text from kind at x h =
    let n = no_items text from kind at x h in
    (λ e. false≢true (sym n ∙ ap has_items e), λ e. false≢true (sym n ∙ ap has_items e))
