-- Steps in a row: what is left after one, and that a stack has the words of what comes next.
use Rattle.std.proofs.Common.{◌≡◌, ℕ, ◌+◌, ◌-◌, List, [], ◌∷◌, ◌++◌, length, refl, sym, ap, subst}
use Rattle.std.proofs.Common.{append_assoc, append-nil, length-append, arith, ◌<◌, ◌^◌, Option}
use Rattle.std.specs.List.{sum_by}
use Rattle.std.proofs.lemmas.List.Sums.{sum_by-cons}
use Rattle.resb_tree.specs.Tree.{Tree, string, alias, array, table, binary, integer, int_vector}
use Rattle.resb_tree.specs.Tree.{Trees, no_trees, more_trees, Entries, no_entries, entry}
use Rattle.resb_layout.specs.Laid.{Given, Lends, Laid}
use Rattle.resb_tree.specs.LayingOrder.{array_members, values_of, children, laying_order}
use Rattle.resb_tree.specs.LayingOrder.{laying_each}
use Rattle.resb_tree.specs.LayingOrder.{laying_values}
use Rattle.resb_write.specs.Inner.StackSteps.{LaysNext, LaysRow, row_none, row_more}
use Rattle.resb_write.specs.Inner.Room.{own_size, most_units, most_bytes}
use Rattle.resb_write.specs.Inner.Seen.{HasRoom, TakesNoMore, Suffices, CanLay}
use Rattle.resb_write.specs.declared.sites.Bodies.{Bodies}

pub steps_push : (lent : Option Lends) (g : Given) (s m e : Laid) (ws xs ys : List ℕ)
    (ts : List Tree) (t : Tree)
    → LaysRow lent g s ws ts m xs → LaysNext lent g m xs t e ys → LaysRow lent g s ws
    (ts ++ t ∷ []) e ys
steps_push lent g s m e ws xs ys [] t row_none k = row_more k row_none
steps_push lent g s n e ws xs ys (u ∷ ts) t (row_more {m} {xs = zs} h more) k =
    row_more h (steps_push lent g m n e zs xs ys ts t more k)

pub step_long : (lent : Option Lends) (g : Given) (s e : Laid) (ws xs : List ℕ) (t : Tree)
    → LaysNext lent g s ws t e xs
    → length xs ≡ length ws - length (children t) + 1
step_long lent g s e ws xs t k =
    omega (
      arith,
      ap length k.put,
      ap length k.taken,
      k.many,
      length-append k.below (k.word ∷ []),
      length-append k.below k.members,
      one k.word,
    )
  where
    one : (w : ℕ) → length (w ∷ []) ≡ 1
    one w = refl

to : {m n : ℕ} (ts : List Tree) → m ≡ n → Suffices m ts → Suffices n ts
to ts e h = subst (λ k. Suffices k ts) e h

mutual
  suffices_tree : (t : Tree) (n : ℕ) (rest : List Tree) → Suffices (n + 1) rest
      → Suffices n (laying_order t ++ rest)
  suffices_tree (string x) n rest h = (omega arith, to rest (omega arith) h)
  suffices_tree (alias x) n rest h = (omega arith, to rest (omega arith) h)
  suffices_tree (binary x) n rest h = (omega arith, to rest (omega arith) h)
  suffices_tree (integer x) n rest h = (omega arith, to rest (omega arith) h)
  suffices_tree (int_vector x) n rest h = (omega arith, to rest (omega arith) h)
  suffices_tree (array ts) n rest h =
      subst (Suffices n) (sym (append_assoc (laying_each ts) (array ts ∷ []) rest))
      (suffices_each ts n (array ts ∷ rest) (omega arith, to rest (omega arith) h))
  suffices_tree (table es) n rest h =
      subst (Suffices n) (sym (append_assoc (laying_values es) (table es ∷ []) rest))
      (suffices_values es n (table es ∷ rest) (omega arith, to rest (omega arith) h))

  suffices_each : (ts : Trees) (n : ℕ) (rest : List Tree)
      → Suffices (n + length (array_members ts)) rest
      → Suffices n (laying_each ts ++ rest)
  suffices_each no_trees n rest h = to rest (omega arith) h
  suffices_each (more_trees t ts) n rest h =
      subst (Suffices n) (sym (append_assoc (laying_order t) (laying_each ts) rest))
      (suffices_tree t n (laying_each ts ++ rest)
      (suffices_each ts (n + 1) rest (to rest (omega arith) h)))

  suffices_values : (es : Entries) (n : ℕ) (rest : List Tree)
      → Suffices (n + length (values_of es)) rest → Suffices n (laying_values es ++ rest)
  suffices_values no_entries n rest h = to rest (omega arith) h
  suffices_values (entry k t es) n rest h =
      subst (Suffices n) (sym (append_assoc (laying_order t) (laying_values es) rest))
      (suffices_tree t n (laying_values es ++ rest)
      (suffices_values es (n + 1) rest (to rest (omega arith) h)))

-- an empty stack suffices for a tree
pub empty_stack_suffices : (t : Tree) → Suffices 0 (laying_order t)
empty_stack_suffices t = subst (Suffices 0) (append-nil (laying_order t)) (suffices_tree t 0 [] tt)

part_fits : (a m r s k : ℕ) → s ≡ m + r → a + s < k → a + m < k
part_fits a m r s k e h = omega (arith, e, h)

module _ (p : ℕ) (b : Bodies) (n : ℕ) (t : Tree) (ts : List Tree) (h : CanLay p b n (t ∷ ts))
  where
    pub has_room : HasRoom p b (own_size t)
    has_room = record {
      aligned = h.room.aligned;
      units = part_fits (length b.units.items) (most_units t) (sum_by most_units ts)
          (sum_by most_units (t ∷ ts)) (2 ^ 28) (sum_by-cons most_units t ts) h.room.units;
      bytes = part_fits (p + length b.tail.items) (most_bytes t) (sum_by most_bytes ts)
          (sum_by most_bytes (t ∷ ts)) (2 ^ 30) (sum_by-cons most_bytes t ts) h.room.bytes;
    }

    pub can_go_on : (c : Bodies) (m : ℕ) → TakesNoMore p b c (own_size t)
        → m ≡ n - length (children t) + 1
        → CanLay p c m ts
    can_go_on c m k e =
        record {
          room = record {
            aligned = k.aligned;
            units = omega (arith, h.room.units, sum_by-cons most_units t ts, k.units);
            bytes = omega (arith, h.room.bytes, sum_by-cons most_bytes t ts, k.bytes);
          };
          enough = to ts (sym e) h.enough.1;
        }
