-- The laws of a table of two named fields, from those of the fields' types alone.
use Rattle.std.specs.Prelude.{◌≡◌, ◌-◌, ◌^◌, ℕ, ℤ, pos, negsuc, List, [], ◌∷◌, Option, Some}
use Rattle.std.specs.Prelude.{codes}
use Rattle.std.proofs.Common.{sym, ◌∙◌, subst, arith}
use Rattle.resb_read.specs.Places.{Place}
use Rattle.resb_read.specs.Leaves.{CountsOf, ReadsKey, ReadsSigned}
use Rattle.resb_read.specs.TypeLaws.{key_one, signed_counted, signed_one, seq_counted, seq_one}
use Rattle.resb_read.specs.Sequences.{ReadsSeq, CountsSeq}
use Rattle.resb_read_rows.specs.Fields.{Entry, CountsField, ReadsBoth, CountsBoth, ReadsI32}
use Rattle.resb_read_rows.specs.Fields.{CountsI32}

module _ {I V : Type 0} (ri : Place → I → ℕ → Type 0) (rv : Place → V → ℕ → Type 0)
    (ci cv : Place → ℕ → Type 0) (hi : (p : Place) (x : I) (n : ℕ) → ri p x n → ci p n)
    (hv : (p : Place) (x : V) (n : ℕ) → rv p x n → cv p n) where
  -- the first law, from the first laws of the two
  pub both_counted : (p : Place) (i : I) (v : V) (n : ℕ) → ReadsBoth ri rv p i v n
      → CountsBoth ci cv p n
  both_counted p i v n h =
      let (k, a, named, x, e) = h.read_i in
      let (l, b, called, y, f) = h.read_v in
      record {
        at_i = h.at_i;
        at_v = h.at_v;
        of_i = h.of_i;
        of_v = h.of_v;
        are = h.are;
        read_i = (k, a, named, hi h.at_i.1 i a x, e);
        read_v = (l, b, called, hv h.at_v.1 v b y, f);
        count = h.count;
      }

-- the entries of one table
pub same_entries : {a b c d : Entry} {o : Option (List Entry)} → o ≡ Some (a ∷ b ∷ [])
    → o ≡ Some (c ∷ d ∷ []) → (a ≡ c) × (b ≡ d)
same_entries e f = let g = sym e ∙ f in (cc, cc)

module _ (counts : Place → ℕ → Type 0)
    (one : (p : Place) (m n : ℕ) → counts p m → counts p n → m ≡ n) where
  pub field_one : (name : List ℕ) (e f : Entry) (m n : ℕ) → e ≡ f → CountsField name counts e m
      → CountsField name counts f n → m ≡ n
  field_one name e f m n same (k, a, named, x, s) (l, b, called, y, t) =
      let moved = subst (λ g. ReadsKey g.0 name k × counts g.1 a) same (named, x) in
      let keys : k ≡ l = key_one f.0 k l (name, moved.0) (name, called) in
      let values : a ≡ b = one f.1 a b moved.1 y in
      omega (arith, s, t)

module _ (ci cv : Place → ℕ → Type 0) (oi : (p : Place) (m n : ℕ) → ci p m → ci p n → m ≡ n)
    (ov : (p : Place) (m n : ℕ) → cv p m → cv p n → m ≡ n) where
  -- the second law, from the second laws of the two
  pub both_one : (p : Place) (m n : ℕ) → CountsBoth ci cv p m → CountsBoth ci cv p n → m ≡ n
  both_one p m n h k =
      let same = same_entries h.are k.are in
      let i : h.of_i ≡ k.of_i = field_one ci oi
      (codes "i") h.at_i k.at_i h.of_i k.of_i same.0 h.read_i k.read_i in
      let v : h.of_v ≡ k.of_v = field_one cv ov
      (codes "v") h.at_v k.at_v h.of_v k.of_v same.1 h.read_v k.read_v in
      omega (arith, h.count, k.count)

-- the laws of an i16, and those of a list of i32, which come from those of an i32
pub i16_counted : (p : Place) (x : ℤ) (n : ℕ)
    → ReadsSigned (negsuc (2 ^ 15 - 1)) (pos (2 ^ 15 - 1)) p x n
    → CountsOf (ReadsSigned (negsuc (2 ^ 15 - 1)) (pos (2 ^ 15 - 1))) p n
i16_counted = signed_counted (negsuc (2 ^ 15 - 1)) (pos (2 ^ 15 - 1))

pub i16_one : (p : Place) (m n : ℕ)
    → CountsOf (ReadsSigned (negsuc (2 ^ 15 - 1)) (pos (2 ^ 15 - 1))) p m
    → CountsOf (ReadsSigned (negsuc (2 ^ 15 - 1)) (pos (2 ^ 15 - 1))) p n → m ≡ n
i16_one = signed_one (negsuc (2 ^ 15 - 1)) (pos (2 ^ 15 - 1))

pub list_counted : (p : Place) (xs : List ℤ) (n : ℕ) → ReadsSeq ReadsI32 p xs n
    → CountsSeq CountsI32 p n
list_counted =
    seq_counted ReadsI32 CountsI32 (signed_counted (negsuc (2 ^ 31 - 1)) (pos (2 ^ 31 - 1)))

pub list_one : (p : Place) (m n : ℕ) → CountsSeq CountsI32 p m → CountsSeq CountsI32 p n → m ≡ n
list_one = seq_one CountsI32 (signed_one (negsuc (2 ^ 31 - 1)) (pos (2 ^ 31 - 1)))
