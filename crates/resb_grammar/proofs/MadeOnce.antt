-- What a text's reading makes is one number, and no part of it makes more than the whole.
use Rattle.std.proofs.Common.{◌≡◌, ℕ, zero, suc, ◌+◌, ◌<◌, ◌≤◌, Bool, List, length, refl, sym, ◌∙◌}
use Rattle.std.proofs.Common.{ap, subst, arith, ⊎_elim}
use Rattle.std.specs.Prelude.{slice_index}
use Rattle.std.proofs.lemmas.Bool.{cases_lt}
use Rattle.resb_tree.specs.Tree.{Tree}
use Rattle.resb_grammar.specs.Items.{Item}
use Rattle.resb_grammar.specs.BundleText.{BundleText}
use Rattle.resb_grammar.specs.Machine.{Title, State, finished, Move, Path, begun, went}
use Rattle.resb_grammar.specs.Stuck.{NoToken}
use Rattle.resb_grammar.specs.Limit.{made_by, path_bytes, Makes, MadeWithin, MakesMore}
use Rattle.resb_grammar.specs.declared.limit.Limit.{Limit}
use Rattle.resb_grammar.specs.declared.limit.Weights.{Weights}
use Rattle.resb_grammar.proofs.Lex.{mode, class_in, Lex}
use Rattle.resb_grammar.proofs.FirstBytes.{lex_of}
use Rattle.resb_grammar.proofs.Unique.{Lex-one, Path-one, Path-front}
use Rattle.resb_grammar.proofs.Complete.{complete}
use Rattle.resb_grammar.proofs.GrammarLaws.{no_token_finished}

-- one token stands at a place, where the state is the same
token_same : (text : List ℕ) (i j a b : ℕ) (u v s t : State) → i ≡ j → u ≡ v
    → (x : Move text i u a s) → (y : Move text j v b t) → x.token ≡ y.token
token_same text i j a b u v s t ei eu x y =
    (Lex-one (class_in (mode u) (slice_index text i)) text i a b x.token y.token
    (lex_of text i a u s x.token x.means x.moves)
    (subst (λ w. Lex (class_in (mode w) (slice_index text i)) text i b y.token) (sym eu)
    (subst (λ k. Lex (class_in (mode v) (slice_index text k)) text k b y.token) (sym ei)
    (lex_of text j b v t y.token y.means y.moves)))).1

adds_same : (g : Weights) (text : List ℕ) (i j a b : ℕ) (u v s t : State) → i ≡ j → u ≡ v
    → (x : Move text i u a s) → (y : Move text j v b t)
    → made_by g u x.token ≡ made_by g v y.token
adds_same g text i j a b u v s t ei eu x y =
    ap (λ w. made_by g w x.token) eu
    ∙ ap (made_by g v) (token_same text i j a b u v s t ei eu x y)

-- paths of as many tokens make the same
bytes_one : (g : Weights) (text : List ℕ) (n m a b : ℕ) (s t : State) → (p : Path text n a s)
    → (q : Path text m b t) → n ≡ m → path_bytes g text n a s p ≡ path_bytes g text m b t q
bytes_one g text zero zero a b s t (begun _ h) (begun _ k) e = refl
bytes_one g text zero (suc m) a b s t (begun _ h) (went _ j _ v _ q y) e = absurd (omega (arith, e))
bytes_one g text (suc n) zero a b s t (went _ i _ u _ p x) (begun _ k) e = absurd (omega (arith, e))
bytes_one g text (suc n) (suc m) a b s t (went _ i _ u _ p x) (went _ j _ v _ q y) e =
    let e' : n ≡ m = omega (arith, e) in
    let both = Path-one text m i j u v (subst (λ k. Path text k i u) e' p) q in
    let same = bytes_one g text n m i j u v p q e' in
    let adds = adds_same g text i j x.ends y.ends u v s t both.0 both.1 x.move y.move in
    omega (arith, same, adds)

-- a longer path makes no less
bytes_front : (g : Weights) (text : List ℕ) (n m a b : ℕ) (s t : State) → (p : Path text n a s)
    → (q : Path text m b t) → n ≤ m → path_bytes g text n a s p ≤ path_bytes g text m b t q
bytes_front g text n zero a b s t p (begun _ k) le =
    let same = bytes_one g text n zero a b s t p (begun _ k) (omega (arith, le)) in
    omega (arith, same)
bytes_front g text n (suc m) a b s t p (went _ j _ v _ q y) le = ⊎_elim
    (λ (w : n < suc m).
    let less = bytes_front g text n m a j s v p q (omega (arith, w)) in omega (arith, less))
    (λ (w : suc m ≤ n).
    let same = bytes_one g text n (suc m) a b s t p (went m j b v t q y) (omega (arith, w, le)) in
    omega (arith, same))
    (cases_lt n (suc m))

-- a longer path makes no less than a shorter one with the token behind it
bytes_behind : (g : Weights) (text : List ℕ) (n m a b e : ℕ) (s t v : State) → (p : Path text n a s)
    → (x : Move text a s e v) → (q : Path text m b t) → n < m
    → path_bytes g text n a s p + made_by g s x.token ≤ path_bytes g text m b t q
bytes_behind g text n zero a b e s t v p x (begun _ k) less = absurd (omega (arith, less))
bytes_behind g text n (suc m) a b e s t v p x (went _ j _ u _ q y) less = ⊎_elim
    (λ (w : n < m).
    let more = bytes_behind g text n m a j e s u v p x q w in omega (arith, more))
    (λ (w : m ≤ n).
    let e' : n ≡ m = omega (arith, w, less) in
    let both = Path-one text m a j s u (subst (λ k. Path text k a s) e' p) q in
    let same = bytes_one g text n m a j s u p q e' in
    let adds = adds_same g text a j e y.ends s u v t both.0 both.1 x y.move in
    omega (arith, same, adds))
    (cases_lt n m)

-- where a token stands, the reading that ends elsewhere is longer
shorter : (text : List ℕ) (n m a b e : ℕ) (s t v : State) → Path text n a s → Move text a s e v
    → Path text m b t → NoToken text b t → n < m
shorter text n m a b e s t v p x q stop = ⊎_elim (λ (w : n < m). w)
    (λ (w : m ≤ n). ⊎_elim
    (λ (l : m < n). absurd (Path-front text m n b a t s q stop p l))
    (λ (l : n ≤ m).
    let e' : n ≡ m = omega (arith, w, l) in
    let both = Path-one text m a b s t (subst (λ k. Path text k a s) e' p) q in
    absurd (stop e v (subst (λ (z : State). Move text b z e v) both.1
    (subst (λ (k : ℕ). Move text k s e v) both.0 x))))
    (cases_lt m n))
    (cases_lt n m)

pub one_making : (g : Weights) (text : List ℕ) (n m : ℕ) (title other : Title) (xs ys : List Item)
    → Makes g text n (length text) (finished title xs)
    → Makes g text m (length text) (finished other ys) → n ≡ m
one_making g text n m title other xs ys p q =
    p.sum ∙ ⊎_elim
    (λ (w : p.tokens < q.tokens). absurd (Path-front text p.tokens q.tokens _ _ _ _ p.path
    (no_token_finished text (length text) title xs) q.path w))
    (λ (w : q.tokens ≤ p.tokens). ⊎_elim
    (λ (l : q.tokens < p.tokens). absurd (Path-front text q.tokens p.tokens _ _ _ _ q.path
    (no_token_finished text (length text) other ys) p.path l))
    (λ (l : p.tokens ≤ q.tokens).
    bytes_one g text p.tokens q.tokens _ _ _ _ p.path q.path (omega (arith, w, l)))
    (cases_lt q.tokens p.tokens))
    (cases_lt p.tokens q.tokens)
    ∙ sym q.sum

pub bundle_made : (g : Weights) (text name : List ℕ) (fallback : Bool) (tree : Tree)
    (keys : List (List ℕ)) → BundleText text name fallback tree keys
    → (items : List Item) × (n : ℕ)
    × Makes g text n (length text) (finished (record { name = name; fallback = fallback }) items)
bundle_made g text name fallback tree keys b =
    let p = complete text name fallback tree keys b in (
      b.items,
      path_bytes g text p.tokens (length text) _ p.path,
      record {
        tokens = p.tokens;
        path = p.path;
        sum = refl;
      },
    )

-- where a reading that can't go on has made no more than the limit, no reading makes more
pub blocked_never_more : (text : List ℕ) (limit : Limit) (n at : ℕ) (s : State)
    → Makes limit.weights text n at s → NoToken text at s → n ≤ limit.bytes → MakesMore text limit
    → ⊥
blocked_never_more text limit n at s made stop within x =
    let less = shorter text x.made.tokens made.tokens x.at at x.ends x.state s x.after x.made.path
    x.move made.path stop in
    let more = bytes_behind limit.weights text x.made.tokens made.tokens x.at at x.ends x.state s
    x.after x.made.path x.move made.path less in
    omega (arith, more, within, x.more, x.made.sum, made.sum)

-- a text that makes no more than the limit does not make more
pub never_more : (text : List ℕ) (limit : Limit) → MadeWithin text limit → MakesMore text limit → ⊥
never_more text limit w =
    blocked_never_more text limit w.bytes (length text) (finished w.title w.items) w.made
    (no_token_finished text (length text) w.title w.items) w.within
