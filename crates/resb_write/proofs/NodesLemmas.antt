-- The trees before one of some and behind it, and those of nodes and of resources.
use Rattle.std.proofs.Common.{◌≡◌, ℕ, zero, suc, ◌+◌, ◌<◌, List, [], ◌∷◌, ◌++◌, Bor, length}
use Rattle.std.proofs.Common.{get_or, take, drop, map, refl, sym, ◌∙◌, ap}
use Rattle.std.proofs.Common.{arith}
use Rattle.std.proofs.lemmas.List.{at_drop_more, take_more, map_more}
use Rattle.resb_tree.specs.Tree.{Tree}
use Rattle.resb_write.specs.declared.nodes.Node.{Node}
use Rattle.resb_write.specs.Inner.Nodes.{IsNode, AreNodes, no_tree}

-- the trees from one on are that one, and those behind it
pub trees-drop : (ts : List Tree) (i : ℕ) → i < length ts
    → drop i ts ≡ get_or ts i no_tree ∷ drop (i + 1) ts
trees-drop ts i h = at_drop_more (λ us. us) ts i no_tree h

-- one tree more is those before it, and that one
pub trees-take : (ts : List Tree) (i : ℕ) → i < length ts
    → take (i + 1) ts ≡ take i ts ++ get_or ts i no_tree ∷ []
trees-take ts i h = take_more ts i no_tree h

-- there are as many trees as nodes
pub nodes_long : (ns : List Node) (ts : List Tree) → AreNodes ns ts → length ts ≡ length ns
nodes_long [] [] f = refl
nodes_long [] (t ∷ ts) f = absurd f
nodes_long (n ∷ ns) [] f = absurd f
nodes_long (n ∷ ns) (t ∷ ts) f = omega (arith, nodes_long ns ts f.1)

-- a node is one of the tree at its place
pub node_at : (ns : List Node) (ts : List Tree) (i : ℕ) (n : Node) → AreNodes ns ts
    → i < length ns → IsNode (get_or ns i n) (get_or ts i no_tree)
node_at [] ts i n f h = absurd (omega (arith, h))
node_at (m ∷ ns) [] i n f h = absurd f
node_at (m ∷ ns) (t ∷ ts) zero n f h = f.0
node_at (m ∷ ns) (t ∷ ts) (suc i) n f h = node_at ns ts i n f.1 (omega (arith, h))

-- one node more, and its tree
pub nodes_push : (ns : List Node) (ts : List Tree) (n : Node) (t : Tree) → AreNodes ns ts
    → IsNode n t → AreNodes (ns ++ n ∷ []) (ts ++ t ∷ [])
nodes_push [] [] n t f g = (g, tt)
nodes_push [] (u ∷ ts) n t f g = absurd f
nodes_push (m ∷ ns) [] n t f g = absurd f
nodes_push (m ∷ ns) (u ∷ ts) n t f g = (f.0, nodes_push ns ts n t f.1 g)

-- the trees of one resource more are those before it, and its own
pub seen-take : {R : Type 0} (tree : R → Tree) (rs : List (Bor R)) (i : ℕ) (r : Bor R)
    → r ≡ get_or rs i r → i < length rs
    → map (λ (x : Bor R). tree x.now) (take (i + 1) rs)
    ≡ map (λ (x : Bor R). tree x.now) (take i rs) ++ tree r.now ∷ []
seen-take {R = R} tree rs i r at h = map_more (λ (x : Bor R). tree x.now) rs i r h
    ∙ ap (λ (x : Bor R). map (λ (y : Bor R). tree y.now) (take i rs) ++ tree x.now ∷ []) (sym at)
