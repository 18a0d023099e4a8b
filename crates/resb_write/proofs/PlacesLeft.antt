-- Where the keys and strings stand that are left behind one resource.
use Rattle.std.proofs.Common.{◌≡◌, ℕ, ◌^◌, ◌<◌, ◌≤◌, List, [], ◌∷◌, ◌++◌, length, map, take}
use Rattle.std.proofs.Common.{drop, Option, Some, refl, sym, ◌∙◌, ap, subst, arith}
use Rattle.std.specs.List.{flat_map}
use Rattle.std.proofs.lemmas.List.Elements.{All-head, All-tail}
use Rattle.resb_tree.specs.Tree.{Tree, Entries, string, table}
use Rattle.resb_tree.specs.LayingOrder.{entry_keys, own_keys, text_in}
use Rattle.resb_pool.specs.declared.packing.Packing.{Packing}
use Rattle.resb_layout.specs.Laid.{Given}
use Rattle.resb_write.specs.Inner.Room.{GivesInTurn}

-- of places that are known for two lists in a row, the first ones are those of the first list
record SplitPlaces (f : List ℕ → Option ℕ) (xs ys : List (List ℕ)) (ps : List ℕ) : Type 0 where
  enough : length xs ≤ length ps
  first : map f xs ≡ map Some (take (length xs) ps)
  left : map f ys ≡ map Some (drop (length xs) ps)

places_split : (f : List ℕ → Option ℕ) (xs ys : List (List ℕ)) (ps : List ℕ)
    → map f (xs ++ ys) ≡ map Some ps → SplitPlaces f xs ys ps
places_split f [] ys ps e = record { enough = omega arith; first = refl; left = e }
places_split f (x ∷ xs) ys [] e = absurd (omega (arith, ap length e))
places_split f (x ∷ xs) ys (p ∷ ps) e =
    let h : f x ≡ Some p = cc in
    let t : map f (xs ++ ys) ≡ map Some ps = cc in
    let r = places_split f xs ys ps t in
    record {
      enough = omega (arith, r.enough);
      first = (λ i. h i ∷ r.first i);
      left = r.left;
    }

-- behind a string, its offset is the first one
pub record BehindString (g : Given) (ps os : List ℕ) (s : List ℕ) (rest : List Tree) : Type 0 where
  pub first : ℕ
  pub more : List ℕ
  pub is : os ≡ first ∷ more
  pub known : g.offset s ≡ Some first
  pub near : first < 2 ^ 28
  pub left : GivesInTurn g ps more rest

pub behind_string : (g : Given) (ps os : List ℕ) (s : List ℕ) (rest : List Tree)
    → GivesInTurn g ps os (string s ∷ rest) → BehindString g ps os s rest
behind_string g ps [] s rest n = absurd (omega (arith, ap length n.texts))
behind_string g ps (k ∷ os) s rest n =
    let h : g.offset s ≡ Some k = cc in
    let t : map g.offset (flat_map text_in rest) ≡ map Some os = cc in
    record {
      first = k;
      more = os;
      is = refl;
      known = h;
      near = All-head (λ k. k < 2 ^ 28) k os n.near;
      left = record { keys = n.keys; texts = t; near = All-tail (λ k. k < 2 ^ 28) k os n.near };
    }

-- behind a table, the positions of its keys are the first ones
pub record BehindTable (g : Given) (ps os : List ℕ) (es : Entries) (rest : List Tree) (n : ℕ)
    : Type 0 where
  pub enough : n ≤ length ps
  pub known : map g.position (entry_keys es) ≡ map Some (take n ps)
  pub left : GivesInTurn g (drop n ps) os rest

pub behind_table : (g : Given) (ps os : List ℕ) (es : Entries) (rest : List Tree) (n : ℕ)
    → length (entry_keys es) ≡ n → GivesInTurn g ps os (table es ∷ rest)
    → BehindTable g ps os es rest n
behind_table g ps os es rest n e h =
    let r = places_split g.position (entry_keys es) (flat_map own_keys rest) ps h.keys in
    subst (BehindTable g ps os es rest) e (record {
      enough = r.enough;
      known = r.first;
      left = record { keys = r.left; texts = h.texts; near = h.near };
    })

pub string_left : (g : Given) (ps os : List ℕ) (s : List ℕ) (rest : List Tree) (k : ℕ)
    (qs more : List ℕ) → os ≡ k ∷ more → qs ≡ ps → GivesInTurn g ps os (string s ∷ rest)
    → GivesInTurn g qs more rest
string_left g ps os s rest k qs more e f n =
    let b = behind_string g ps os s rest n in
    let h : b.more ≡ more = (let i = sym b.is ∙ e in cc) in
    subst (λ l. GivesInTurn g l more rest) (sym f) (subst (λ l. GivesInTurn g ps l rest) h b.left)

pub string_known : (g : Given) (ps os : List ℕ) (s : List ℕ) (rest : List Tree) (k : ℕ)
    (more : List ℕ) → os ≡ k ∷ more → GivesInTurn g ps os (string s ∷ rest)
    → (g.offset s ≡ Some k) × (k < 2 ^ 28)
string_known g ps os s rest k more e n =
    let b = behind_string g ps os s rest n in
    let h : b.first ≡ k = (let i = sym b.is ∙ e in cc) in
    (b.known ∙ ap Some h, subst (λ j. j < 2 ^ 28) h b.near)

pub table_known : (g : Given) (ps os : List ℕ) (es : Entries) (rest : List Tree) (n : ℕ)
    → length (entry_keys es) ≡ n → (qs : List ℕ) → qs ≡ take n ps
    → GivesInTurn g ps os (table es ∷ rest) → map g.position (entry_keys es) ≡ map Some qs
table_known g ps os es rest n e qs f h =
    (behind_table g ps os es rest n e h).known ∙ ap (map Some) (sym f)

pub table_left : (g : Given) (ps os : List ℕ) (es : Entries) (rest : List Tree) (n : ℕ)
    → length (entry_keys es) ≡ n → (qs rs : List ℕ) → qs ≡ drop n ps → rs ≡ os
    → GivesInTurn g ps os (table es ∷ rest) → GivesInTurn g qs rs rest
table_left g ps os es rest n e qs rs f k h =
    subst (λ l. GivesInTurn g l rs rest) (sym f)
    (subst (λ l. GivesInTurn g (drop n ps) l rest) (sym k)
    (behind_table g ps os es rest n e h).left)

-- the same places, where the tail begins at byte n of a file that is packed like this
abbrev pub based : Given → ℕ → Packing → Given
based g n q = record { position = g.position; offset = g.offset; base = n; packing = q }

-- what gives places in turn does so wherever the tail begins
pub same_places_based : {g : Given} {ps os : List ℕ} {ts : List Tree} {n : ℕ} {q : Packing}
    → GivesInTurn g ps os ts → GivesInTurn (based g n q) ps os ts
same_places_based h = record { keys = h.keys; texts = h.texts; near = h.near }
