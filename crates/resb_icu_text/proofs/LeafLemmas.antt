-- The content of groups without items: what stands there, and where it is stuck.
use Rattle.std.proofs.Common.{◌≡◌, ◌≢◌, ℕ, ◌%◌, ◌^◌, List, [], ◌∷◌, ◌++◌, Some, inl, refl, sym, ◌∙◌}
use Rattle.std.proofs.Common.{ap, subst, append_assoc, suc, ◌+◌, ◌*◌, ◌≤◌, ◌<◌, false, length}
use Rattle.std.proofs.Common.{arith, length-append, slice_index}
use Rattle.std.proofs.lemmas.Bool.{false≢true}
use Rattle.resb_grammar.specs.Ascii as ascii
use Rattle.resb_icu_grammar.specs.declared.group_kind.IcuKind.{IcuKind as Kind}
use Rattle.resb_icu_grammar.specs.declared.group_kind.IcuKind.TheVariants.{
  String as string_kind,
  Alias as alias_kind,
  Binary as binary_kind,
  Integer as integer_kind,
  IntVector as vector_kind,
}
use Rattle.resb_icu_grammar.specs.Groups.{digits_of, last_number, last_comma, one_more}
use Rattle.resb_icu_grammar.specs.Groups.{string_content, alias_content, binary_content}
use Rattle.resb_icu_grammar.specs.Groups.{integer_content, no_numbers, numbers}
use Rattle.resb_grammar.specs.Limit.{number_bytes}
use Rattle.resb_tree.specs.View.{tree_of}
use Rattle.resb_tree.specs.declared.resource.Resource.{Resource}
use Rattle.resb_tree.specs.Tree.{Tree, string, alias, binary, integer, int_vector}
use Rattle.resb_icu_grammar.specs.Blanks.{Skip}
use Rattle.resb_icu_grammar.specs.Words.{Text, Number}
use Rattle.resb_icu_grammar.specs.Faults.{Told}
use Rattle.resb_icu_grammar.specs.Limit.{leaf_bytes, count_so_far, by_a_number}
use Rattle.resb_icu_grammar.specs.Machine.{reading_at, in_typed, leaf_follows}
use Rattle.resb_icu_grammar.specs.Stuck.{NumbersSoFar, one_number, LeafStuck, NoStringAt, inside}
use Rattle.resb_icu_grammar.specs.Stuck.{in_leaf}
use Rattle.resb_icu_grammar.proofs.Blocked.{is_vector, NumbersFit, NumbersEnd, numbers_most}
use Rattle.resb_icu_grammar.specs.declared.expected.IcuExpected.{IcuExpected}
use Rattle.resb_icu_grammar.specs.declared.expected.IcuExpected.TheVariants as expect
use Rattle.resb_icu_text.specs.Inner.Ahead.{StringFails}
use Rattle.resb_icu_text.specs.Refusal.{want_of_memory}
use Rattle.resb_icu_text.specs.declared.error.IcuTextError.{IcuTextError}
use Rattle.resb_icu_text.specs.declared.quota.Quota.{Quota}
use Rattle.resb_icu_text.specs.Borrowed.{KeepsSlices}
use Rattle.resb_icu_text.specs.Inner.Quota.{TakesBytes, RunsOver}
use Rattle.resb_icu_text.specs.Inner.Leaf.{Leaf, IsReadLeaf, LeafStops, Vector, IsBrace}
use Rattle.resb_icu_text.specs.Inner.Leaf.{IsBehindNumber, at_brace, at_comma}
use Rattle.resb_icu_text.proofs.QuotaLemmas.{over_stops, memory_stops, stuck_stops, as_many}

-- a `}` stands there behind blanks
pub record Closing (text : List ℕ) (from to : ℕ) : Type 0 where
  pub blanks : Skip text from to
  pub closes : slice_index text to ≡ ascii.right_brace

-- the `}` that stands where blanks end
pub closing_at : (text : List ℕ) (at brace to : ℕ) → Skip text at brace
    → IsBrace text brace to → Closing text at to
closing_at text at brace to k c =
    subst (λ i. Closing text at i) (sym c.same) (record { blanks = k; closes = c.closes })

-- the content of a string
pub string_stands : (text : List ℕ) (at i to : ℕ) (s : List ℕ) → Text text at i s
    → Closing text i to → Leaf text at string_kind to (string s)
string_stands text at i to s p c =
    record { content = string_content i s p c.blanks; closes = c.closes }

-- the content of an alias
pub alias_stands : (text : List ℕ) (at i to : ℕ) (s : List ℕ) → Text text at i s
    → Closing text i to → Leaf text at alias_kind to (alias s)
alias_stands text at i to s p c =
    record { content = alias_content i s p c.blanks; closes = c.closes }

-- the content of a binary
pub binary_stands : (text : List ℕ) (at i to : ℕ) (s bytes : List ℕ) → (t : Text text at i s)
    → digits_of t ≡ Some bytes → Closing text i to
    → Leaf text at binary_kind to (binary bytes)
binary_stands text at i to s bytes p e c =
    record { content = binary_content i s bytes p e c.blanks; closes = c.closes }

-- the content of an integer
pub integer_stands : (text : List ℕ) (at i to v : ℕ) → Number text at i v → Closing text i to
    → Leaf text at integer_kind to (integer (v % 2 ^ 28))
integer_stands text at i to v p c =
    record { content = integer_content i v p c.blanks; closes = c.closes }

-- the numbers from one place on are these, and those from a later one
pub record Continues (text : List ℕ) (at here : ℕ) (ns : List ℕ) : Type 0 where
  pub onward : (to : ℕ) (ms : List ℕ) → Vector text here to ms → Vector text at to (ns ++ ms)

pub continues_first : (text : List ℕ) (at : ℕ) → Continues text at at []
continues_first text at = record { onward = λ to ms v. v }

-- the last number, with or without a comma behind it
pub continues_end : (text : List ℕ) (at here i place v to : ℕ) (ns : List ℕ)
    → Number text here i v → Skip text i place → IsBehindNumber text place to
    → slice_index text to ≡ ascii.right_brace → Continues text at here ns
    → Vector text at to (ns ++ v ∷ [])
continues_end text at here i place v to ns p k (at_brace c e) b f =
    f.onward to (v ∷ []) (record {
      numbers = last_number here i to v p (subst (λ u. Skip text i u) (sym e) k);
      closes = b;
    })
continues_end text at here i place v to ns p k (at_comma c l) b f =
    f.onward to (v ∷ []) (record { numbers = last_comma here i place to v p k c l; closes = b })

-- one number more, and a comma behind it
pub continues_more : (text : List ℕ) (at here i place v next : ℕ) (ns : List ℕ)
    → Number text here i v → Skip text i place → IsBehindNumber text place next
    → slice_index text next ≢ ascii.right_brace → Continues text at here ns
    → Continues text at next (ns ++ v ∷ [])
continues_more text at here i place v next ns p k (at_brace c e) b f =
    absurd (b (ap (λ u. slice_index text u) e ∙ c))
continues_more text at here i place v next ns p k (at_comma c l) b f =
    record { onward = onward }
  where
    onward : (to : ℕ) (ms : List ℕ) → Vector text next to ms
        → Vector text at to ((ns ++ v ∷ []) ++ ms)
    onward to ms w =
        subst (λ us. Vector text at to us) (sym (append_assoc ns (v ∷ []) ms))
        (f.onward to (v ∷ ms) (record {
          numbers = one_more here i place next to v ms p k c l w.numbers;
          closes = w.closes;
        }))

-- the numbers so far, each with a comma, and how many these are
abbrev pub Counted : List ℕ → ℕ → ℕ → List ℕ → Type 0
Counted text from at ns = (c : NumbersSoFar text from at) × (count_so_far c ≡ length ns)

pub counted_more : (text : List ℕ) (from at i place v next : ℕ) (ns : List ℕ)
    → Counted text from at ns
    → Number text at i v → Skip text i place → IsBehindNumber text place next
    → slice_index text next ≢ ascii.right_brace → Counted text from next (ns ++ v ∷ [])
counted_more text from at i place v next ns d p k (at_brace c e) b =
    absurd (b (ap (λ u. slice_index text u) e ∙ c))
counted_more text from at i place v next ns d p k (at_comma c l) b =
    (one_number from at i place next v d.0 p k c l, omega (arith, d.1, length-append ns (v ∷ [])))

-- where the content of a group is stuck, said of the error
pub leaf_says : (text : List ℕ) (from : ℕ) (kind : Kind) (e : IcuTextError) (to : ℕ)
    (x : IcuExpected) → e ≡ record { position = to; expected = x } → LeafStuck text from kind to x
    → LeafStuck text from kind e.position e.expected
leaf_says text from kind e to x h s =
    subst (λ (f : IcuTextError). LeafStuck text from kind f.position f.expected) (sym h) s

module _ {text : List ℕ} {p q : Quota} where
  -- an error that says where the content of a group is stuck
  pub leaf_fails : (from : ℕ) (kind : Kind) (e : IcuTextError) (to : ℕ) (x : IcuExpected)
      → TakesBytes p q 0 → is_vector (in_typed kind) ≡ false
      → e ≡ record { position = to; expected = x } → LeafStuck text from kind to x
      → LeafStops text from kind p q e
  leaf_fails from kind e to x t v h s ws ks =
      stuck_stops (reading_at ws ks (in_typed kind) from) e t
      (inside ws ks (in_typed kind) from e.position e.expected
      (in_leaf kind from e.position e.expected (leaf_says text from kind e to x h s)))
      (λ is. absurd (false≢true (sym v ∙ is)))

  -- where the content lacks a string, and what is told in its place
  pub told_leaf : (from : ℕ) (kind : Kind) (e : IcuTextError) → TakesBytes p q 0
      → is_vector (in_typed kind) ≡ false
      → (NoStringAt text from → Told text from expect.String e.position e.expected
      → LeafStuck text from kind e.position e.expected)
      → StringFails text from expect.String e → LeafStops text from kind p q e
  told_leaf from kind e t v f h =
      leaf_fails from kind e e.position e.expected t v refl (f h.0 h.1)

  -- memory is wanted
  pub leaf_lacks : {k : ℕ} (from : ℕ) (kind : Kind) (e : IcuTextError)
      → TakesBytes p q k → e ≡ want_of_memory → LeafStops text from kind p q e
  leaf_lacks from kind e t h ws ks = memory_stops (reading_at ws ks (in_typed kind) from) e t h

  -- what it makes is larger than what is left
  pub leaf_over : {k : ℕ} (from : ℕ) (kind : Kind) (to : ℕ) (u : Tree) (e : IcuTextError)
      → Leaf text from kind to u → RunsOver p q k → k ≡ leaf_bytes p.weights u
      → e ≡ want_of_memory → LeafStops text from kind p q e
  leaf_over from kind to u e l o sum h ws ks =
      over_stops ws ks _ from _ e (leaf_follows kind from to u l.content l.closes) sum o h

  -- what is read and taken of it
  pub leaf_read : {k : ℕ} (from : ℕ) (kind : Kind) (to : ℕ) (r : Resource) (u : Tree)
      → u ≡ tree_of r → Leaf text from kind to u → TakesBytes p q k → k ≡ leaf_bytes p.weights u
      → KeepsSlices text r → from ≤ to → to < length text → IsReadLeaf text from kind p q (to, r)
  leaf_read from kind to r u e l t sum keeps order fits = record {
    leaf = subst (λ v. Leaf text from kind to v) e l;
    takes = subst (λ v. TakesBytes p q (leaf_bytes p.weights v)) e (as_many t sum);
    slices = keeps;
    order = order;
    fits = fits;
  }

  -- where numbers end, and each was taken
  pub numbers_stop : (from a room r : ℕ) (e : IcuTextError) → (c : NumbersSoFar text from a)
      → NumbersEnd text a r → TakesBytes p q (number_bytes * room)
      → room ≡ count_so_far c + r
      → LeafStuck text from vector_kind e.position e.expected
      → LeafStops text from vector_kind p q e
  numbers_stop from a room r e c end t sum s ws ks =
      stuck_stops (reading_at ws ks (in_typed vector_kind) from) e t
      (inside ws ks (in_typed vector_kind) from e.position e.expected
      (in_leaf vector_kind from e.position e.expected s)) fit
    where
      fit : NumbersFit text (reading_at ws ks (in_typed vector_kind) from) (number_bytes * room)
      fit is other same =
          subst (λ u. (at to v : ℕ) → (before : NumbersSoFar text u at) → Number text at to v
          → number_bytes * suc (count_so_far before) ≤ number_bytes * room) same
          (λ at to v before p. omega (
            arith,
            numbers_most text from a at r to v c end before p,
            sum,
          ))

module _ {text : List ℕ} {p o q : Quota} where
  -- one number is larger than what is left
  pub number_over : (from a i v k : ℕ) (e : IcuTextError) → (c : NumbersSoFar text from a)
      → count_so_far c ≡ k → Number text a i v → TakesBytes p o (number_bytes * k)
      → RunsOver o q number_bytes → e ≡ want_of_memory
      → LeafStops text from vector_kind p q e
  number_over from a i v k e c sum p t r h ws ks limit at = record {
    fails = inl h;
    over = λ _. by_a_number at.bytes ws ks from a i v at.made c p
        (omega (arith, at.sum, t.left, r.more, sum));
  }

-- nothing and a `}`
pub empty_vector : (text : List ℕ) (at : ℕ) → slice_index text at ≡ ascii.right_brace
    → Leaf text at vector_kind at (int_vector [])
empty_vector text at c = record { content = no_numbers refl; closes = c }

-- numbers and a `}`
pub vector_stands : (text : List ℕ) (at to : ℕ) (ns : List ℕ) → Vector text at to ns
    → Leaf text at vector_kind to (int_vector ns)
vector_stands text at to ns v = record { content = numbers ns v.numbers; closes = v.closes }
