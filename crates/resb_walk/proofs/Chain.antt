-- The open collections from the root to the word that is being read.
use Rattle.std.proofs.Common.{ℕ, List, [], ◌∷◌, ◌++◌, ◌≡◌, ◌+◌, refl, subst}
use Rattle.std.proofs.Common.{arith}
use Rattle.resb_tree.specs.Tree.{Tree}
use Rattle.resb_format.specs.Parts.{Parts}
use Rattle.resb_format.specs.Content.{word}
use Rattle.resb_format.specs.Denotes.{Den, Reaches}
use Rattle.resb_walk.specs.Inner.Frames.{Opened, Waits}
use Rattle.resb_walk.specs.Refusals.{Refuses}
use Rattle.resb_walk.specs.declared.frame.Open.{Open}
use Rattle.resb_walk.specs.declared.frame.Waiting.{Waiting}
use Rattle.resb_format.specs.declared.error.ReadingError.{ReadingError}
use Rattle.resb_walk.proofs.Lift.{refused_word}
use Rattle.resb_walk.proofs.Waits.{waits_refused}

module _ {L T : Type 0} (lists : L → List Tree → Type 0)
    (tables : T → List (List ℕ × Tree) → Type 0) (p : Parts) where
  -- The first collection stands at the first word and waits for the word of the next, and the last
  -- waits for the second word. They and their members so far are so many resources.
  pub data Chain : ℕ → List (Waiting L T) → ℕ → ℕ → Type 0 where
    chain_none : {w : ℕ} → Chain w [] w 0
    chain_more : {w v s : ℕ} {f : Waiting L T} {fs : List (Waiting L T)} (u n : ℕ)
        → Waits lists tables p f w (word u) n → Chain u fs v s → Chain w (f ∷ fs) v (1 + n + s)

module _ {L T : Type 0} (lists : L → List Tree → Type 0)
    (tables : T → List (List ℕ × Tree) → Type 0) (p : Parts) where
  -- one more collection, at the inner end
  pub chain_push : {w v s : ℕ} {fs : List (Waiting L T)} (f : Waiting L T) (u n : ℕ)
      → Chain lists tables p w fs v s → Waits lists tables p f v (word u) n
      → Chain lists tables p w (fs ++ f ∷ []) u (s + (1 + n))
  chain_push f u n (chain_none {w = w'}) h =
      let e : 1 + n + 0 ≡ 0 + (1 + n) = omega arith in
      subst (λ i. Chain lists tables p w' (f ∷ []) u i) e (chain_more u n h chain_none)
  chain_push f u n (chain_more {w = w'} {s = s'} {f = f'} {fs = fs'} u' n' g c) h =
      let e : 1 + n' + (s' + (1 + n)) ≡ 1 + n' + s' + (1 + n) = omega arith in
      subst (λ i. Chain lists tables p w' (f' ∷ (fs' ++ f ∷ [])) u i) e
      (chain_more u' n' g (chain_push f u n c h))

  pub record Popped (w : ℕ) (fs : List (Waiting L T)) (f : Waiting L T) (u s : ℕ) : Type 0 where
    pub place : ℕ
    pub outer : ℕ
    pub inner : ℕ
    pub chain : Chain lists tables p w fs place outer
    pub waits : Waits lists tables p f place (word u) inner
    pub sum : s ≡ outer + (1 + inner)

  -- the innermost collection
  pub chain_pop : (w u s : ℕ) (fs : List (Waiting L T)) (f : Waiting L T)
      → Chain lists tables p w (fs ++ f ∷ []) u s → Popped w fs f u s
  chain_pop w u s [] f (chain_more u' n' h chain_none) =
      record { place = w; outer = 0; inner = n'; chain = chain_none; waits = h; sum = omega arith }
  chain_pop w u s (g ∷ fs) f (chain_more {s = s'} u' n' h c) =
      let r = chain_pop u' u s' fs f c in
      let e : s' ≡ r.outer + (1 + r.inner) = r.sum in
      record {
        place = r.place;
        outer = 1 + n' + r.outer;
        inner = r.inner;
        chain = chain_more u' n' h r.chain;
        waits = r.waits;
        sum = omega arith;
      }

  pub chain_empty : (w u s : ℕ) → Chain lists tables p w [] u s → (w ≡ u) × (s ≡ 0)
  chain_empty w u s chain_none = (refl, refl)

  -- what is refused at the inner end is refused at the root
  pub chain_refused : {w v s : ℕ} {fs : List (Waiting L T)} (left before : ℕ) (d : ReadingError)
      → Chain lists tables p w fs v s → left + s ≡ before → Refuses (Den p v) (Reaches p v) left d
      → Refuses (Den p w) (Reaches p w) before d
  chain_refused left before d (chain_none {w = w'}) e r = let same : left ≡ before = omega arith in
      subst (λ i. Refuses (Den p w') (Reaches p w') i d) same r
  chain_refused left before d (chain_more {w = w'} {s = s'} {f = f'} u' n' h c) e r =
      let sum : left + s' + (1 + n') ≡ before = omega arith in
      waits_refused lists tables p f' w' n' (left + s') before (word u') d h sum
      (refused_word p u' (left + s') d (chain_refused left (left + s') d c refl r))

  -- the state of the reader between rounds
  pub record Round (root before : ℕ) (fs : List (Waiting L T)) (f : Open L T)
      (left : ℕ) : Type 0 where
    pub place : ℕ
    pub outer : ℕ
    pub inner : ℕ
    pub chain : Chain lists tables p root fs place outer
    pub opened : Opened lists tables p f place inner
    pub paid : left + (outer + (1 + inner)) ≡ before
