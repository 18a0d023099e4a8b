-- The two laws of each given type: the count of every reading is a count of the place, and a place
-- has at most one. Those of options, lists and maps come from their parts' laws alone.
use Rattle.std.specs.Prelude.{◌≡◌, ℕ, ℤ, ◌≤◌, ◌%◌, List, length, Bool, Option, Some, None, [], ◌∷◌}
use Rattle.std.specs.Prelude.{◌+◌, IsSomeAnd}
use Rattle.std.proofs.Common.{sym, ap, ◌∙◌, subst, arith}
use Rattle.std.proofs.lemmas.Option.{same_Some}
use Rattle.resb_read.specs.Places.{Place}
use Rattle.resb_read.specs.Reading.{any, IsThere}
use Rattle.resb_read.specs.Leaves.{LiesInRange, signed_at, unsigned_at, bool_at, bits_at, text_from}
use Rattle.resb_read.specs.Leaves.{key_from, bytes_from, CountsOf, ReadsSigned, ReadsUnsigned}
use Rattle.resb_read.specs.Leaves.{ReadsBool, ReadsBits, ReadsText, ReadsKey, ReadsBytes, ReadsView}
use Rattle.std.specs.declared.cmp.Ordering.{Ordering}
use Rattle.resb_read.specs.Sequences.{members_at, entries_at, Collects, ReadsEach, CountsEach}
use Rattle.resb_read.specs.Sequences.{ReadsSeq, CountsSeq, ReadsEntry, CountsEntry, ReadsMap}
use Rattle.resb_read.specs.Sequences.{CountsMap}
use Rattle.resb_tree.specs.Tree.{Tree}
use Rattle.resb_format.specs.Parts.{Parts}
use Rattle.resb_format.proofs.Denoting.{unique, unique_member}
use Rattle.resb_read.specs.Resources.{DenSpot, DenPlace}
use Rattle.resb_read.specs.declared.cursor.Spot.{Spot}
use Rattle.resb_read.specs.declared.cursor.Spot.TheVariants as spot

-- some value that fits stands there, with its count
abbrev CountsThere : {X : Type 0} → (X → Type 0) → Option (X × ℕ) → ℕ → Type 0
CountsThere {X} fits there n = (x : X) × IsThere fits there x n

module _ {X : Type 0} (fits : X → Type 0) (there : Option (X × ℕ)) where
  there_counted : (x : X) (n : ℕ) → IsThere fits there x n → CountsThere fits there n
  there_counted x n h = (x, h)

  count_of : Option (X × ℕ) → ℕ
  count_of (Some r) = r.1
  count_of None = 0

  same_count : {x y : X} {m n : ℕ} → there ≡ Some (x, m) → there ≡ Some (y, n) → m ≡ n
  unfolding count_of
  same_count e f = sym (ap count_of e) ∙ ap count_of f

  there_one : (m n : ℕ) → CountsThere fits there m → CountsThere fits there n → m ≡ n
  there_one m n h k = same_count h.1.1 k.1.1

pub signed_counted : (low high : ℤ) (p : Place) (x : ℤ) (n : ℕ) → ReadsSigned low high p x n
    → CountsOf (ReadsSigned low high) p n
signed_counted low high p = there_counted (LiesInRange low high) (signed_at p.at)

pub signed_one : (low high : ℤ) (p : Place) (m n : ℕ) → CountsOf (ReadsSigned low high) p m
    → CountsOf (ReadsSigned low high) p n → m ≡ n
signed_one low high p = there_one (LiesInRange low high) (signed_at p.at)

pub unsigned_counted : (high : ℕ) (p : Place) (x : ℕ) (n : ℕ) → ReadsUnsigned high p x n
    → CountsOf (ReadsUnsigned high) p n
unsigned_counted high p = there_counted (λ x. x ≤ high) (unsigned_at p.at)

pub unsigned_one : (high : ℕ) (p : Place) (m n : ℕ) → CountsOf (ReadsUnsigned high) p m
    → CountsOf (ReadsUnsigned high) p n → m ≡ n
unsigned_one high p = there_one (λ x. x ≤ high) (unsigned_at p.at)

pub bool_counted : (p : Place) (x : Bool) (n : ℕ) → ReadsBool p x n → CountsOf ReadsBool p n
bool_counted p = there_counted any (bool_at p.at)

pub bool_one : (p : Place) (m n : ℕ) → CountsOf ReadsBool p m → CountsOf ReadsBool p n → m ≡ n
bool_one p = there_one any (bool_at p.at)

-- 28 bits that are read have their count
pub bits_counted : (p : Place) (x : ℕ) (n : ℕ) → ReadsBits p x n → CountsOf ReadsBits p n
bits_counted p = there_counted any (bits_at p.at)

-- and one count
pub bits_one : (p : Place) (m n : ℕ) → CountsOf ReadsBits p m → CountsOf ReadsBits p n → m ≡ n
bits_one p = there_one any (bits_at p.at)

pub text_counted : (p : Place) (x : List ℕ) (n : ℕ) → ReadsText p x n → CountsOf ReadsText p n
text_counted p = there_counted any (text_from p.parts p.at)

pub text_one : (p : Place) (m n : ℕ) → CountsOf ReadsText p m → CountsOf ReadsText p n → m ≡ n
text_one p = there_one any (text_from p.parts p.at)

pub key_counted : (p : Place) (x : List ℕ) (n : ℕ) → ReadsKey p x n → CountsOf ReadsKey p n
key_counted p = there_counted any (key_from p.parts p.at)

pub key_one : (p : Place) (m n : ℕ) → CountsOf ReadsKey p m → CountsOf ReadsKey p n → m ≡ n
key_one p = there_one any (key_from p.parts p.at)

pub bytes_counted : (p : Place) (x : List ℕ) (n : ℕ) → ReadsBytes p x n → CountsOf ReadsBytes p n
bytes_counted p = there_counted any (bytes_from p.parts p.at)

pub bytes_one : (p : Place) (m n : ℕ) → CountsOf ReadsBytes p m → CountsOf ReadsBytes p n → m ≡ n
bytes_one p = there_one any (bytes_from p.parts p.at)

pub view_counted : (each : ℕ) (p : Place) (b : List ℕ) (n : ℕ) → ReadsView each p b n
    → CountsOf (ReadsView each) p n
view_counted each p = there_counted (λ b. length b % each ≡ 0) (bytes_from p.parts p.at)

pub view_one : (each : ℕ) (p : Place) (m n : ℕ) → CountsOf (ReadsView each) p m
    → CountsOf (ReadsView each) p n → m ≡ n
view_one each p = there_one (λ b. length b % each ≡ 0) (bytes_from p.parts p.at)

module _ {P X : Type 0} (reads : P → X → ℕ → Type 0) (counts : P → ℕ → Type 0)
    (counted : (p : P) (v : X) (n : ℕ) → reads p v n → counts p n) where
  pub each_counted : (ps : List P) (xs : List X) (n : ℕ) → ReadsEach reads ps xs n
      → CountsEach counts ps n
  each_counted [] [] n h = h
  each_counted [] (x ∷ xs) n h = absurd h
  each_counted (p ∷ ps) [] n h = absurd h
  each_counted (p ∷ ps) (x ∷ xs) n (a, b, r, rest, e) =
      (a, b, counted p x a r, each_counted ps xs b rest, e)

module _ {X : Type 0} (reads : Place → X → ℕ → Type 0) (counts : Place → ℕ → Type 0)
    (counted : (p : Place) (v : X) (n : ℕ) → reads p v n → counts p n) where
  pub option_counted : (p : Place) (o : Option X) (n : ℕ) → IsSomeAnd o (λ x. reads p x n)
      → counts p n
  option_counted p (Some x) n h = counted p x n h
  option_counted p None n h = absurd h

  pub seq_counted : (p : Place) (xs : List X) (n : ℕ) → ReadsSeq reads p xs n → CountsSeq counts p n
  seq_counted p xs n h =
      record {
        places = h.places;
        total = h.total;
        are = h.are;
        each = each_counted reads counts counted h.places xs h.total h.each;
        count = h.count;
      }

module _ {P : Type 0} (counts : P → ℕ → Type 0)
    (one : (p : P) (m n : ℕ) → counts p m → counts p n → m ≡ n) where
  pub each_one : (ps : List P) (m n : ℕ) → CountsEach counts ps m → CountsEach counts ps n → m ≡ n
  each_one [] m n h k = h ∙ sym k
  each_one (p ∷ ps) m n (a, b, c, rest, e) (a', b', c', rest', e') =
      let h : a ≡ a' = one p a a' c c' in
      let k : b ≡ b' = each_one ps b b' rest rest' in omega arith

  held_one : (there : Option (List P)) (m n : ℕ) → Collects there (CountsEach counts) m
      → Collects there (CountsEach counts) n → m ≡ n
  held_one there m n h k =
      let same : h.places ≡ k.places = same_Some _ _ (sym h.are ∙ k.are) in
      let moved = subst (λ ps. CountsEach counts ps h.total) same h.each in
      let e : h.total ≡ k.total = each_one k.places h.total k.total moved k.each in
      let f : m ≡ 1 + h.total = h.count in
      let g : n ≡ 1 + k.total = k.count in omega arith

module _ (counts : Place → ℕ → Type 0)
    (one : (p : Place) (m n : ℕ) → counts p m → counts p n → m ≡ n) where
  pub seq_one : (p : Place) (m n : ℕ) → CountsSeq counts p m → CountsSeq counts p n → m ≡ n
  seq_one p = held_one counts one (members_at p)

module _ {K X : Type 0} (rk : Place → K → ℕ → Type 0) (rv : Place → X → ℕ → Type 0)
    (ck cv : Place → ℕ → Type 0) (hk : (p : Place) (v : K) (n : ℕ) → rk p v n → ck p n)
    (hv : (p : Place) (v : X) (n : ℕ) → rv p v n → cv p n) where
  pub entry_counted : (p : Place × Place) (e : K × X) (n : ℕ) → ReadsEntry rk rv p e n
      → CountsEntry ck cv p n
  entry_counted p e n (a, b, x, y, s) = (a, b, hk p.0 e.0 a x, hv p.1 e.1 b y, s)

  pub map_counted : (cmp : K → K → Ordering) (p : Place) (m : List (K × X)) (n : ℕ)
      → ReadsMap cmp rk rv p m n → CountsMap ck cv p n
  map_counted cmp p m n h =
      record {
        places = h.places;
        total = h.total;
        are = h.are;
        each = each_counted (ReadsEntry rk rv) (CountsEntry ck cv) entry_counted h.places h.each.0
            h.total h.each.1;
        count = h.count;
      }

module _ (ck cv : Place → ℕ → Type 0) (ok : (p : Place) (m n : ℕ) → ck p m → ck p n → m ≡ n)
    (ov : (p : Place) (m n : ℕ) → cv p m → cv p n → m ≡ n) where
  pub entry_one : (p : Place × Place) (m n : ℕ) → CountsEntry ck cv p m → CountsEntry ck cv p n
      → m ≡ n
  entry_one p m n (a, b, x, y, s) (a', b', x', y', s') =
      let h : a ≡ a' = ok p.0 a a' x x' in
      let i : b ≡ b' = ov p.1 b b' y y' in omega arith

  pub map_one : (p : Place) (m n : ℕ) → CountsMap ck cv p m → CountsMap ck cv p n → m ≡ n
  map_one p = held_one (CountsEntry ck cv) entry_one (entries_at p)

-- at a spot stands one tree, of one count
pub one_tree_at : (p : Parts) (s : Spot) (t u : Tree) (m n : ℕ) → DenSpot p s t m → DenSpot p s u n
    → (t ≡ u) × (m ≡ n)
one_tree_at p (spot.Descriptor w) t u m n h k = unique p h k
one_tree_at p (spot.Unit v) t u m n h k = unique_member p h k
one_tree_at p (spot.Word w) t u m n h k = absurd h
one_tree_at p (spot.Key j) t u m n h k = absurd h

pub tree_counted : (p : Place) (t : Tree) (n : ℕ) → DenPlace p t n → CountsOf DenPlace p n
tree_counted p t n h = (t, h)

pub tree_one : (p : Place) (m n : ℕ) → CountsOf DenPlace p m → CountsOf DenPlace p n → m ≡ n
tree_one p m n (t, h) (u, k) = (one_tree_at p.parts p.at t u m n h k).1
