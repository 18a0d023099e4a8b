-- What pieces stand for, and that it stays while a draft grows.
use Rattle.std.proofs.Common.{◌≡◌, ℕ, ◌+◌, Bool, true, ◌&&◌, List, [], ◌∷◌, ◌++◌}
use Rattle.std.proofs.Common.{Bor, refl, sym, ◌∙◌, ap, subst, arith, length, get_or, zero, suc}
use Rattle.std.proofs.Common.{append-nil}
use Rattle.std.specs.List.{zip}
use Rattle.std.proofs.lemmas.Bool.{and_from, and_parts, false≢true, leb-true, le-leb}
use Rattle.std.proofs.lemmas.List.{get_or_push, length-append}
use Rattle.resb_tree.specs.Tree.{Tree, array, table, trees_of, entries_of}
use Rattle.resb_draft.specs.Drafts.{texts, texts_ascend, nothing, trees_at, all_whole}
use Rattle.resb_draft.specs.Drafts.{part, is_inside, piece_meaning, all_stand, pieces_stand}
use Rattle.resb_draft.specs.Drafts.{IsMade, Keeps}
use Rattle.resb_draft.specs.declared.draft.Draft.{Draft}
use Rattle.resb_draft.specs.declared.draft.Members.{Members}
use Rattle.resb_draft.specs.declared.draft.Piece.{Piece}
use Rattle.resb_draft.specs.declared.draft.Piece.TheVariants as piece
use Rattle.resb_draft.proofs.Lists.{part_stays, texts-append}

-- what is whole in one list stands in the other too
abbrev pub Agrees : List (Tree × Bool) → List (Tree × Bool) → Type 0
Agrees ms qs =
    (n : ℕ) → (get_or ms n nothing).1 ≡ true → get_or qs n nothing ≡ get_or ms n nothing

-- a list agrees with itself
pub agrees_same : (ms : List (Tree × Bool)) → Agrees ms ms
agrees_same ms n h = refl

-- what agrees twice agrees
pub agrees_on : (ms ns qs : List (Tree × Bool)) → Agrees ms ns → Agrees ns qs → Agrees ms qs
agrees_on ms ns qs f g n h =
    g n (ap (λ (m : Tree × Bool). m.1) (f n h) ∙ h) ∙ f n h

-- the pieces of some numbers are whole and stand for the same trees
pub same_trees : (ms qs : List (Tree × Bool)) → Agrees ms qs → (ns : List ℕ)
    → all_whole ms ns ≡ true → (trees_at qs ns ≡ trees_at ms ns) × (all_whole qs ns ≡ true)
same_trees ms qs f [] h = (refl, refl)
same_trees ms qs f (n ∷ ns) h =
    let both = and_parts (get_or ms n nothing).1 _ h in
    let rest = same_trees ms qs f ns both.1 in
    let same = f n both.0 in (
      (λ i. (same i).0 ∷ rest.0 i),
      and_from _ _ (ap (λ (m : Tree × Bool). m.1) same ∙ both.0) rest.1,
    )

-- parts of one list are parts of the other
abbrev pub Longer : {X : Type 0} → List X → List X → Type 0
Longer xs ys =
    (from : ℕ) (m : Members) → is_inside xs from m ≡ true
    → (part ys from m ≡ part xs from m) × (is_inside ys from m ≡ true)

-- its parts are its own
pub longer_same : {X : Type 0} (xs : List X) → Longer xs xs
longer_same xs from m h = (refl, h)

-- and those of a list that goes on
pub longer_append : {X : Type 0} (xs ys : List X) → Longer xs (xs ++ ys)
longer_append xs ys from m h =
    let inside = leb-true (from + m.count) (length xs) h in (
      part_stays xs ys from (from + m.count) (omega arith) inside,
      le-leb (from + m.count) (length (xs ++ ys)) (omega (arith, inside, length-append xs ys)),
    )

-- a piece that is whole stands for the same with more before it, more members and more keys
pub stands_on : (ns ns' : List ℕ) (ks ks' : List (List ℕ)) (ms qs : List (Tree × Bool))
    → Longer ns ns' → Longer ks ks' → Agrees ms qs → (p : Piece)
    → (piece_meaning ns ks ms p).1 ≡ true → piece_meaning ns' ks' qs p ≡ piece_meaning ns ks ms p
stands_on ns ns' ks ks' ms qs more keys f (piece.String s) h = refl
stands_on ns ns' ks ks' ms qs more keys f (piece.Integer n) h = refl
stands_on ns ns' ks ks' ms qs more keys f (piece.Leaf r) h = refl
stands_on ns ns' ks ks' ms qs more keys f (piece.Array m) h =
    let both = and_parts (is_inside ns m.from m) _ h in
    let inside = more m.from m both.0 in
    let whole = same_trees ms qs f (part ns m.from m) both.1 in
    let trees = ap (trees_at qs) inside.0 ∙ whole.0 in
    let test = and_from _ _ inside.1 (ap (all_whole qs) inside.0 ∙ whole.1) ∙ sym h in
    λ i. (array (trees_of (trees i)), test i)
stands_on ns ns' ks ks' ms qs more keys f (piece.Table m k) h =
    let both = and_parts (is_inside ns m.from m && is_inside ks k m) _ h in
    let places = and_parts (is_inside ns m.from m) _ both.0 in
    let rest = and_parts (texts_ascend (part ks k m)) _ both.1 in
    let inside = more m.from m places.0 in
    let own = keys k m places.1 in
    let whole = same_trees ms qs f (part ns m.from m) rest.1 in
    let trees = ap (trees_at qs) inside.0 ∙ whole.0 in
    let test = and_from _ _ (and_from _ _ inside.1 own.1)
    (and_from _ _ (ap texts_ascend own.0 ∙ rest.0) (ap (all_whole qs) inside.0 ∙ whole.1))
    ∙ sym h in
    λ i. (table (entries_of (zip (own.0 i) (trees i))), test i)

-- of two lists, each of the second is that of the first where this is whole
abbrev pub Kept : List (Tree × Bool) → List (Tree × Bool) → Type 0
Kept [] [] = Unit {0}
Kept [] (q ∷ qs) = ⊥
Kept (m ∷ ms) [] = ⊥
Kept (m ∷ ms) (q ∷ qs) = (m.1 ≡ true → q ≡ m) × Kept ms qs

kept_agrees : (ms qs : List (Tree × Bool)) → Kept ms qs → Agrees ms qs
kept_agrees [] [] k n h = refl
kept_agrees [] (q ∷ qs) k n h = absurd k
kept_agrees (m ∷ ms) [] k n h = absurd k
kept_agrees (m ∷ ms) (q ∷ qs) k zero h = k.0 h
kept_agrees (m ∷ ms) (q ∷ qs) k (suc n) h = kept_agrees ms qs k.1 n h

kept_push : (ms qs : List (Tree × Bool)) (m q : Tree × Bool) → Kept ms qs → (m.1 ≡ true → q ≡ m)
    → Kept (ms ++ m ∷ []) (qs ++ q ∷ [])
kept_push [] [] m q k f = (f, tt)
kept_push [] (r ∷ qs) m q k f = absurd k
kept_push (n ∷ ms) [] m q k f = absurd k
kept_push (n ∷ ms) (r ∷ qs) m q k f = (k.0, kept_push ms qs m q k.1 f)

all_kept : (ns ns' : List ℕ) (ks ks' : List (List ℕ)) → Longer ns ns' → Longer ks ks'
    → (ps : List Piece) (ms qs : List (Tree × Bool)) → Kept ms qs
    → Kept (all_stand ns ks ms ps) (all_stand ns' ks' qs ps)
all_kept ns ns' ks ks' more keys [] ms qs k = k
all_kept ns ns' ks ks' more keys (p ∷ ps) ms qs k =
    all_kept ns ns' ks ks' more keys ps (ms ++ piece_meaning ns ks ms p ∷ [])
    (qs ++ piece_meaning ns' ks' qs p ∷ [])
    (kept_push ms qs (piece_meaning ns ks ms p) (piece_meaning ns' ks' qs p) k
    (stands_on ns ns' ks ks' ms qs more keys (kept_agrees ms qs k) p))

-- pieces one behind another
all_stand-append : (ns : List ℕ) (ks : List (List ℕ)) (ps qs : List Piece)
    (ms : List (Tree × Bool))
    → all_stand ns ks ms (ps ++ qs) ≡ all_stand ns ks (all_stand ns ks ms ps) qs
all_stand-append ns ks [] qs ms = refl
all_stand-append ns ks (p ∷ ps) qs ms =
    all_stand-append ns ks ps qs (ms ++ piece_meaning ns ks ms p ∷ [])

front_agrees : (ms qs : List (Tree × Bool)) → Agrees ms (ms ++ qs)
front_agrees [] qs n h = absurd (false≢true h)
front_agrees (m ∷ ms) qs zero h = refl
front_agrees (m ∷ ms) qs (suc n) h = front_agrees ms qs n h

-- what pieces before others stand for
pub before_agrees : (ns : List ℕ) (ks : List (List ℕ)) (ps : List Piece) (ms : List (Tree × Bool))
    → Agrees ms (all_stand ns ks ms ps)
before_agrees ns ks [] ms n h = refl
before_agrees ns ks (p ∷ ps) ms n h =
    let on = ms ++ piece_meaning ns ks ms p ∷ [] in
    agrees_on ms on (all_stand ns ks on ps) (front_agrees ms (piece_meaning ns ks ms p ∷ []))
    (before_agrees ns ks ps on) n h

-- as many stand as there are pieces
pub stand_length : (ns : List ℕ) (ks : List (List ℕ)) (ps : List Piece) (ms : List (Tree × Bool))
    → length (all_stand ns ks ms ps) ≡ length ms + length ps
stand_length ns ks [] ms = omega arith
stand_length ns ks (p ∷ ps) ms = omega (
  arith,
  stand_length ns ks ps (ms ++ piece_meaning ns ks ms p ∷ []),
  length-append ms (piece_meaning ns ks ms p ∷ []),
)

-- a draft with more behind its own
pub record Extends (old new : Draft) : Type 0 where
  pub pieces : List Piece
  pub members : List ℕ
  pub keys : List (Bor (List ℕ))
  pub more_pieces : new.pieces.items ≡ old.pieces.items ++ pieces
  pub more_members : new.members.items ≡ old.members.items ++ members
  pub more_keys : new.keys.items ≡ old.keys.items ++ keys

-- what is whole in it stays
pub grown : (old new : Draft) → Extends old new → Agrees (pieces_stand old) (pieces_stand new)
grown old new e =
    let ns = old.members.items in
    let ks = texts old.keys.items in
    let ns' = ns ++ e.members in
    let ks' = ks ++ texts e.keys in
    let ps = old.pieces.items in
    let mid = all_stand ns' ks' [] ps in
    let same : all_stand ns' ks' mid e.pieces ≡ pieces_stand new =
    sym (all_stand-append ns' ks' ps e.pieces [])
    ∙ (λ i. all_stand (sym e.more_members i) (sym (texts-append old.keys.items e.keys) i) []
    (sym e.more_pieces i))
    ∙ (λ i. all_stand new.members.items (texts (sym e.more_keys i)) [] new.pieces.items) in
    subst (Agrees (pieces_stand old)) same
    (agrees_on (pieces_stand old) mid (all_stand ns' ks' mid e.pieces)
    (kept_agrees (pieces_stand old) mid
    (all_kept ns ns' ks ks' (longer_append ns e.members) (longer_append ks (texts e.keys)) ps [] []
    tt))
    (before_agrees ns' ks' e.pieces mid))

-- where the pieces of one draft stand for what those of another do, as far as these go, the other's
-- are kept
pub agrees_keeps : (old new : Draft) → Agrees (pieces_stand old) (pieces_stand new) → Keeps old new
agrees_keeps old new f n h =
    (ap (λ (m : Tree × Bool). m.0) (f n h), ap (λ (m : Tree × Bool). m.1) (f n h) ∙ h)

-- what stays twice stays
pub keeps_on : (old mid new : Draft) → Keeps old mid → Keeps mid new → Keeps old new
keeps_on old mid new f g n h =
    let first = f n h in
    let second = g n first.1 in
    (second.0 ∙ first.0, second.1)

-- a draft with one piece more
pub one_piece : (old new : Draft) (p : Piece) → new.pieces.items ≡ old.pieces.items ++ p ∷ []
    → new.members.items ≡ old.members.items → new.keys.items ≡ old.keys.items → Extends old new
one_piece old new p pieces members keys = record {
  pieces = p ∷ [];
  members = [];
  keys = [];
  more_pieces = pieces;
  more_members = members ∙ sym (append-nil old.members.items);
  more_keys = keys ∙ sym (append-nil old.keys.items);
}

-- a draft with more members
pub more_members : (old new : Draft) (ns : List ℕ) → new.pieces.items ≡ old.pieces.items
    → new.members.items ≡ old.members.items ++ ns → new.keys.items ≡ old.keys.items
    → Extends old new
more_members old new ns pieces members keys = record {
  pieces = [];
  members = ns;
  keys = [];
  more_pieces = pieces ∙ sym (append-nil old.pieces.items);
  more_members = members;
  more_keys = keys ∙ sym (append-nil old.keys.items);
}

-- a draft with more members and more keys
pub more_entries : (old new : Draft) (ns : List ℕ) (ks : List (Bor (List ℕ)))
    → new.pieces.items ≡ old.pieces.items → new.members.items ≡ old.members.items ++ ns
    → new.keys.items ≡ old.keys.items ++ ks → Extends old new
more_entries old new ns ks pieces members keys = record {
  pieces = [];
  members = ns;
  keys = ks;
  more_pieces = pieces ∙ sym (append-nil old.pieces.items);
  more_members = members;
  more_keys = keys;
}

-- what stands at a number is made of that tree
pub made_of : (d : Draft) (n : ℕ) (t : Tree) → get_or (pieces_stand d) n nothing ≡ (t, true)
    → IsMade d n t
made_of d n t e = (ap (λ (m : Tree × Bool). m.0) e, ap (λ (m : Tree × Bool). m.1) e)

-- what a piece behind all others stands for
pub pushed : (old new : Draft) (p : Piece) (n : ℕ) → new.pieces.items ≡ old.pieces.items ++ p ∷ []
    → new.members.items ≡ old.members.items → new.keys.items ≡ old.keys.items
    → n ≡ length old.pieces.items
    → get_or (pieces_stand new) n nothing
    ≡ piece_meaning old.members.items (texts old.keys.items) (pieces_stand old) p
pushed old new p n pieces members keys at =
    let ns = old.members.items in
    let ks = texts old.keys.items in
    let ms = pieces_stand old in
    (λ i. get_or (all_stand (members i) (texts (keys i)) [] (pieces i)) n nothing)
    ∙ ap (λ l. get_or l n nothing) (all_stand-append ns ks old.pieces.items (p ∷ []) [])
    ∙ get_or_push ms (piece_meaning ns ks ms p) nothing n
    (omega (arith, stand_length ns ks old.pieces.items [], at))
