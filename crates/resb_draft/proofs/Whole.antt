-- A piece that is whole: what is right inside it, and what it says of its tree.
use Rattle.std.proofs.Common.{◌≡◌, ℕ, ◌+◌, ◌≤◌, ◌<◌, Bool, true, ◌&&◌, List, [], ◌∷◌, ◌++◌}
use Rattle.std.proofs.Common.{map, refl, sym, ◌∙◌, ap, arith, length, get_or, zero, suc}
use Rattle.std.proofs.Common.{◌-◌, drop, length-take, length-drop, Bor}
use Rattle.std.specs.List.{zip}
use Rattle.std.specs.Global.{Box}
use Rattle.std.proofs.lemmas.Bool.{and_from, and_parts, false≢true, leb-true, eq-eqb}
use Rattle.std.proofs.lemmas.List.{get_or_append_left, get_or_push, length-append, length-map}
use Rattle.resb_tree.proofs.LayingOrderLemmas.{members-trees_of}
use Rattle.resb_tree.specs.Inner.EqualityLemmas.{tree_eq_refl}
use Rattle.resb_tree.specs.LayingOrder.{values_of, entry_keys, children, own_keys}
use Rattle.resb_tree.specs.Tree.{Tree, string, alias, array, table, binary, integer, int_vector}
use Rattle.resb_tree.specs.Tree.{trees_of, entries_of}
use Rattle.resb_tree.specs.View.{tree_of}
use Rattle.resb_tree.specs.Borrowing.{all_true}
use Rattle.resb_tree.specs.declared.resource.Resource.{Resource}
use Rattle.resb_draft.specs.Drafts.{texts, texts_ascend, is_leaf, nothing}
use Rattle.resb_draft.specs.Drafts.{part, is_inside, piece_meaning, all_stand, pieces_stand}
use Rattle.resb_draft.specs.Drafts.{tree_at, is_whole}
use Rattle.resb_draft.specs.Pieces.{is_piece}
use Rattle.resb_draft.specs.declared.draft.Draft.{Draft}
use Rattle.resb_draft.specs.declared.draft.Members.{Members}
use Rattle.resb_draft.specs.declared.draft.Piece.{Piece}
use Rattle.resb_draft.specs.declared.draft.Piece.TheVariants as piece
use Rattle.resb_draft.proofs.Standing.{stands_on, longer_same, stand_length, before_agrees}

-- what stands in front of pieces stays
before_at : (ns : List ℕ) (ks : List (List ℕ)) (ps : List Piece) (ms : List (Tree × Bool)) (n : ℕ)
    → n < length ms → get_or (all_stand ns ks ms ps) n nothing ≡ get_or ms n nothing
before_at ns ks [] ms n h = refl
before_at ns ks (p ∷ ps) ms n h =
    before_at ns ks ps (ms ++ piece_meaning ns ks ms p ∷ []) n
    (omega (arith, h, length-append ms (piece_meaning ns ks ms p ∷ [])))
    ∙ get_or_append_left ms (piece_meaning ns ks ms p ∷ []) nothing n h

-- a piece that is whole stands for what it does beside all others
whole_at : (ns : List ℕ) (ks : List (List ℕ)) (ps : List Piece) (ms : List (Tree × Bool))
    (n : ℕ) (x : Piece) → n < length ps
    → (get_or (all_stand ns ks ms ps) (length ms + n) nothing).1 ≡ true
    → get_or (all_stand ns ks ms ps) (length ms + n) nothing
    ≡ piece_meaning ns ks (all_stand ns ks ms ps) (get_or ps n x)
whole_at ns ks [] ms n x h w = absurd (omega (arith, h))
whole_at ns ks (p ∷ ps) ms zero x h w =
    let y = piece_meaning ns ks ms p in
    let on = ms ++ y ∷ [] in
    let all = all_stand ns ks on ps in
    let is : get_or all (length ms + zero) nothing ≡ y =
    before_at ns ks ps on (length ms + zero) (omega (arith, length-append ms (y ∷ [])))
    ∙ get_or_push ms y nothing (length ms + zero) (omega arith) in
    is ∙ sym (stands_on ns ns ks ks ms all (longer_same ns) (longer_same ks)
    (before_agrees ns ks (p ∷ ps) ms) p (ap (λ (m : Tree × Bool). m.1) (sym is) ∙ w))
whole_at ns ks (p ∷ ps) ms (suc n) x h w =
    let on = ms ++ piece_meaning ns ks ms p ∷ [] in
    let at : length ms + suc n ≡ length on + n =
    omega (arith, length-append ms (piece_meaning ns ks ms p ∷ [])) in
    ap (λ k. get_or (all_stand ns ks on ps) k nothing) at
    ∙ whole_at ns ks ps on n x (omega (arith, h))
    (ap (λ k. (get_or (all_stand ns ks on ps) k nothing).1) (sym at) ∙ w)

inside_of : (ms : List (Tree × Bool)) (n : ℕ) → (get_or ms n nothing).1 ≡ true → n < length ms
inside_of [] n h = absurd (false≢true h)
inside_of (m ∷ ms) zero h = omega arith
inside_of (m ∷ ms) (suc n) h = omega (arith, inside_of ms n h)

-- a number of a piece that is whole is one of a piece
pub whole_inside : (d : Draft) (n : ℕ) → is_whole d n ≡ true → n < length d.pieces.items
whole_inside d n h =
    omega (
      arith,
      inside_of (pieces_stand d) n h,
      stand_length d.members.items (texts d.keys.items) d.pieces.items [],
    )

-- a piece that is whole, with what it stands for
pub whole_is : (d : Draft) (n : ℕ) (p : Piece) → p ≡ get_or d.pieces.items n p
    → is_whole d n ≡ true
    → get_or (pieces_stand d) n nothing
    ≡ piece_meaning d.members.items (texts d.keys.items) (pieces_stand d) p
whole_is d n p is h =
    let at : length {A = Tree × Bool} [] + n ≡ n = omega arith in
    let ms = pieces_stand d in
    ap (λ k. get_or ms k nothing) (sym at)
    ∙ whole_at d.members.items (texts d.keys.items) d.pieces.items [] n p (whole_inside d n h)
    (ap (λ k. (get_or ms k nothing).1) at ∙ h)
    ∙ ap (piece_meaning d.members.items (texts d.keys.items) ms) (sym is)

-- a piece that was found, and then seen to be another
pub found_as : (ps : List Piece) (n : ℕ) (p q : Piece) → p ≡ get_or ps n p → p ≡ q
    → q ≡ get_or ps n q
found_as ps n p q h e = sym e ∙ h ∙ ap (get_or ps n) e

-- an array that is whole
pub record WholeArray (d : Draft) (n : ℕ) (m : Members) : Type 0 where
  pub tree : tree_at d n ≡ array (trees_of (map (tree_at d) (part d.members.items m.from m)))
  pub inside : m.from + m.count ≤ length d.members.items
  pub whole : all_true (map (is_whole d) (part d.members.items m.from m)) ≡ true

-- what is said of an array that is whole
pub whole_array : (d : Draft) (n : ℕ) (m : Members)
    → piece.Array m ≡ get_or d.pieces.items n (piece.Array m) → is_whole d n ≡ true
    → WholeArray d n m
whole_array d n m is h =
    let e = whole_is d n (piece.Array m) is h in
    let both = and_parts (is_inside d.members.items m.from m) _
    (ap (λ (x : Tree × Bool). x.1) (sym e) ∙ h) in
    record {
      tree = ap (λ (x : Tree × Bool). x.0) e;
      inside = leb-true (m.from + m.count) (length d.members.items) both.0;
      whole = both.1;
    }

-- a table that is whole
pub record WholeTable (d : Draft) (n : ℕ) (m : Members) (k : ℕ) : Type 0 where
  pub tree : tree_at d n ≡ table (entries_of (zip (part (texts d.keys.items) k m)
      (map (tree_at d) (part d.members.items m.from m))))
  pub inside : m.from + m.count ≤ length d.members.items
  pub keys : k + m.count ≤ length d.keys.items
  pub ascend : texts_ascend (part (texts d.keys.items) k m) ≡ true
  pub whole : all_true (map (is_whole d) (part d.members.items m.from m)) ≡ true

-- what is said of a table that is whole
pub whole_table : (d : Draft) (n : ℕ) (m : Members) (k : ℕ)
    → piece.Table m k ≡ get_or d.pieces.items n (piece.Table m k) → is_whole d n ≡ true
    → WholeTable d n m k
whole_table d n m k is h =
    let e = whole_is d n (piece.Table m k) is h in
    let ks = texts d.keys.items in
    let both = and_parts (is_inside d.members.items m.from m && is_inside ks k m) _
    (ap (λ (x : Tree × Bool). x.1) (sym e) ∙ h) in
    let places = and_parts (is_inside d.members.items m.from m) _ both.0 in
    let rest = and_parts (texts_ascend (part ks k m)) _ both.1 in
    record {
      tree = ap (λ (x : Tree × Bool). x.0) e;
      inside = leb-true (m.from + m.count) (length d.members.items) places.0;
      keys = omega (
        arith,
        leb-true (k + m.count) (length ks) places.1,
        length-map d.keys.items (λ (b : Bor (List ℕ)). b.now),
      );
      ascend = rest.0;
      whole = rest.1;
    }

-- how many a part inside a list are
pub part_length : {X : Type 0} (xs : List X) (from : ℕ) (m : Members)
    → from + m.count ≤ length xs → length (part xs from m) ≡ m.count
part_length xs from m h = omega (
  arith,
  h,
  length-take (from + m.count - from) (drop from xs),
  length-drop from xs,
)

values_zipped : (ks : List (List ℕ)) (ts : List Tree) → length ks ≡ length ts
    → values_of (entries_of (zip ks ts)) ≡ ts
values_zipped [] [] h = refl
values_zipped [] (t ∷ ts) h = absurd (omega (arith, h))
values_zipped (k ∷ ks) [] h = absurd (omega (arith, h))
values_zipped (k ∷ ks) (t ∷ ts) h = ap (λ l. t ∷ l) (values_zipped ks ts (omega (arith, h)))

keys_zipped : (ks : List (List ℕ)) (ts : List Tree) → length ks ≡ length ts
    → entry_keys (entries_of (zip ks ts)) ≡ ks
keys_zipped [] [] h = refl
keys_zipped [] (t ∷ ts) h = absurd (omega (arith, h))
keys_zipped (k ∷ ks) [] h = absurd (omega (arith, h))
keys_zipped (k ∷ ks) (t ∷ ts) h = ap (λ l. k ∷ l) (keys_zipped ks ts (omega (arith, h)))

-- a table has as many keys as values
as_many : (d : Draft) (n : ℕ) (m : Members) (k : ℕ) → WholeTable d n m k
    → length (part (texts d.keys.items) k m)
    ≡ length (map (tree_at d) (part d.members.items m.from m))
as_many d n m k w =
    part_length (texts d.keys.items) k m
    (omega (arith, w.keys, length-map d.keys.items (λ (b : Bor (List ℕ)). b.now)))
    ∙ sym (part_length d.members.items m.from m w.inside)
    ∙ sym (length-map (part d.members.items m.from m) (tree_at d))

-- what is right inside an array
pub array_children : (d : Draft) (n : ℕ) (m : Members) → WholeArray d n m
    → children (tree_at d n) ≡ map (tree_at d) (part d.members.items m.from m)
array_children d n m w =
    ap children w.tree ∙ members-trees_of (map (tree_at d) (part d.members.items m.from m))

-- what is right inside a table
pub table_children : (d : Draft) (n : ℕ) (m : Members) (k : ℕ) → WholeTable d n m k
    → children (tree_at d n) ≡ map (tree_at d) (part d.members.items m.from m)
table_children d n m k w =
    ap children w.tree
    ∙ values_zipped (part (texts d.keys.items) k m) _ (as_many d n m k w)

-- a table's own keys
pub table_keys : (d : Draft) (n : ℕ) (m : Members) (k : ℕ) → WholeTable d n m k
    → own_keys (tree_at d n) ≡ part (texts d.keys.items) k m
table_keys d n m k w =
    ap own_keys w.tree ∙ keys_zipped (part (texts d.keys.items) k m) _ (as_many d n m k w)

-- a leaf has nothing inside, and no keys
leaf_empty : (t : Tree) → is_leaf t ≡ true → (children t ≡ []) × (own_keys t ≡ [])
leaf_empty (string s) h = (refl, refl)
leaf_empty (alias s) h = (refl, refl)
leaf_empty (array ts) h = absurd (false≢true h)
leaf_empty (table es) h = absurd (false≢true h)
leaf_empty (binary bs) h = (refl, refl)
leaf_empty (integer n) h = (refl, refl)
leaf_empty (int_vector ns) h = (refl, refl)

-- the tree of a text has nothing inside, and no keys
pub text_empty : (d : Draft) (n : ℕ) (s : Bor (List ℕ))
    → piece.String s ≡ get_or d.pieces.items n (piece.String s) → is_whole d n ≡ true
    → (children (tree_at d n) ≡ []) × (own_keys (tree_at d n) ≡ [])
text_empty d n s is h =
    let e = ap (λ (x : Tree × Bool). x.0) (whole_is d n (piece.String s) is h) in
    (ap children e, ap own_keys e)

-- nor has that of a number
pub number_empty : (d : Draft) (n i : ℕ)
    → piece.Integer i ≡ get_or d.pieces.items n (piece.Integer i) → is_whole d n ≡ true
    → (children (tree_at d n) ≡ []) × (own_keys (tree_at d n) ≡ [])
number_empty d n i is h =
    let e = ap (λ (x : Tree × Bool). x.0) (whole_is d n (piece.Integer i) is h) in
    (ap children e, ap own_keys e)

-- nor has that of any other leaf
pub piece_empty : (d : Draft) (n : ℕ) (r : Box Resource)
    → piece.Leaf r ≡ get_or d.pieces.items n (piece.Leaf r) → is_whole d n ≡ true
    → (children (tree_at d n) ≡ []) × (own_keys (tree_at d n) ≡ [])
piece_empty d n r is h =
    let e = whole_is d n (piece.Leaf r) is h in
    let t = ap (λ (x : Tree × Bool). x.0) e in
    let none = leaf_empty (tree_of r.value) (ap (λ (x : Tree × Bool). x.1) (sym e) ∙ h) in
    (ap children t ∙ none.0, ap own_keys t ∙ none.1)

-- an array has no keys
pub array_empty : (d : Draft) (n : ℕ) (m : Members) → WholeArray d n m
    → own_keys (tree_at d n) ≡ []
array_empty d n m w = ap own_keys w.tree

-- what a whole piece says fits its tree
pub whole_piece : (d : Draft) (n : ℕ) (p : Piece) → p ≡ get_or d.pieces.items n p
    → is_whole d n ≡ true → is_piece p (tree_at d n) ≡ true
whole_piece d n (piece.String s) is h =
    ap (is_piece (piece.String s))
    (ap (λ (x : Tree × Bool). x.0) (whole_is d n (piece.String s) is h))
    ∙ tree_eq_refl (string s.now)
whole_piece d n (piece.Integer i) is h =
    ap (is_piece (piece.Integer i))
    (ap (λ (x : Tree × Bool). x.0) (whole_is d n (piece.Integer i) is h))
    ∙ tree_eq_refl (integer i)
whole_piece d n (piece.Leaf r) is h =
    let e = whole_is d n (piece.Leaf r) is h in
    ap (is_piece (piece.Leaf r)) (ap (λ (x : Tree × Bool). x.0) e)
    ∙ and_from _ _ (ap (λ (x : Tree × Bool). x.1) (sym e) ∙ h) (tree_eq_refl (tree_of r.value))
whole_piece d n (piece.Array m) is h =
    let w = whole_array d n m is h in
    let ns = part d.members.items m.from m in
    ap (is_piece (piece.Array m)) w.tree
    ∙ eq-eqb m.count _ (
    sym (part_length d.members.items m.from m w.inside) ∙ sym (length-map ns (tree_at d))
    ∙ ap length (sym (members-trees_of (map (tree_at d) ns)))
    )
whole_piece d n (piece.Table m k) is h =
    let w = whole_table d n m k is h in
    let ns = part d.members.items m.from m in
    let ks = part (texts d.keys.items) k m in
    ap (is_piece (piece.Table m k)) w.tree
    ∙ and_from _ _
    (eq-eqb m.count _ (
    sym (part_length d.members.items m.from m w.inside) ∙ sym (length-map ns (tree_at d))
    ∙ ap length (sym (values_zipped ks (map (tree_at d) ns) (as_many d n m k w)))
    ))
    (ap texts_ascend (keys_zipped ks (map (tree_at d) ns) (as_many d n m k w)) ∙ w.ascend)
