-- What each kind of resource adds.
use Rattle.std.proofs.Common.{◌≡◌, ◌+◌, ◌*◌, ◌/◌, ℕ, List, [], ◌∷◌, ◌++◌, length, nat_lt, refl}
use Rattle.std.proofs.Common.{sym}
use Rattle.std.proofs.Common.{◌∙◌, ap, subst, append-nil, arith}
use Rattle.resb_tree.specs.Tree.{string, alias, array, table, binary, integer, int_vector}
use Rattle.resb_format.specs.Units.{units}
use Rattle.resb_pool.specs.Plan.{nows}
use Rattle.resb_write.specs.Inner.Gathered.{Gathered}
use Rattle.resb_write.specs.Inner.Nodes.{IsNode, IsArrayOf, IsTableOf}
use Rattle.resb_write.proofs.Gathering.{added, adds_plain, one_bytes, one_units, no_bytes_gathered}
use Rattle.resb_write.proofs.Gathering.{no_units_gathered, plain_integer, entries_long}
use Rattle.resb_write.proofs.Lists.{or_none}
use Rattle.std.proofs.Math.Bool.{or-false}
use Rattle.resb_write.proofs.contents.Contents.add.Goals as goal

pub returns-in-Alias : goal.returns-in-Alias
returns-in-Alias c = λ ts t h n.
    let path = c.in-Alias.path.now in
    let us : List ℕ = units path in
    let k : t ≡ alias path = subst (λ m. IsNode m t) c.in-Alias.is n in
    let count : c.utf16_len.result ≡ length us = c.utf16_len.ensures.count in
    subst (λ u. Gathered (ts ++ u ∷ []) c.add_counted.new.self) (sym k)
    (added c.args.self.now c.add_counted.new.self (alias path)
    (adds_plain c.args.self.now c.add_counted.new.self (alias path) (c.utf16_len.result * 1)
    (nat_lt 4294967295 c.utf16_len.result) refl refl (omega (arith, count))
    (ap (nat_lt 4294967295) (sym count)) c.add_counted.ensures)
    ts h)

pub returns-in-Array : goal.returns-in-Array
returns-in-Array c = λ ts t h n.
    let k : IsArrayOf c.in-Array.count t =
    subst (λ m. IsNode m t) c.in-Array.is n in
    let a = array k.members in
    subst (λ u. Gathered (ts ++ u ∷ []) c.add_counted-in-Array.new.self) (sym k.is)
    (added c.args.self.now c.add_counted-in-Array.new.self a
    (adds_plain c.args.self.now c.add_counted-in-Array.new.self a (c.in-Array.count * 4)
    (nat_lt 4294967295 c.in-Array.count) refl refl (omega (arith, k.many))
    (ap (nat_lt 4294967295) k.many) c.add_counted-in-Array.ensures)
    ts h)

pub returns-in-Binary : goal.returns-in-Binary
returns-in-Binary c = λ ts t h n.
    let bytes = c.in-Binary.bytes.now in
    let k : t ≡ binary bytes = subst (λ m. IsNode m t) c.in-Binary.is n in
    subst (λ u. Gathered (ts ++ u ∷ []) c.add_bytes.new.self) (sym k)
    (added c.args.self.now c.add_bytes.new.self (binary bytes)
    (adds_plain c.args.self.now c.add_bytes.new.self (binary bytes) ((length bytes + 1) / 2)
    (nat_lt 4294967295 (length bytes)) refl refl refl refl c.add_bytes.ensures)
    ts h)

pub returns-in-Integer : goal.returns-in-Integer
returns-in-Integer c = λ ts t h n.
    let i = integer c.in-Integer.field-0 in
    let k = subst (λ m. IsNode m t) c.in-Integer.is n in
    subst (λ u. Gathered (ts ++ u ∷ []) c.add_size.new.self) (sym k.0)
    (added c.args.self.now c.add_size.new.self i
    (adds_plain c.args.self.now c.add_size.new.self i 0 _ refl refl refl refl
    (plain_integer c.args.self.now c.add_size.new.self c.add_size.ensures))
    ts h)

pub returns-in-IntVector : goal.returns-in-IntVector
returns-in-IntVector c = λ ts t h n.
    let ns = c.in-IntVector.numbers.now in
    let v = int_vector ns in
    let k : t ≡ v = subst (λ m. IsNode m t) c.in-IntVector.is n in
    subst (λ u. Gathered (ts ++ u ∷ []) c.add_counted-in-IntVector.new.self) (sym k)
    (added c.args.self.now c.add_counted-in-IntVector.new.self v
    (adds_plain c.args.self.now c.add_counted-in-IntVector.new.self v
    (length ns * 2) (nat_lt 4294967295 (length ns)) refl refl (omega arith) refl
    c.add_counted-in-IntVector.ensures)
    ts h)

pub returns-in_ok-add_text-in-String : goal.returns-in_ok-add_text-in-String
returns-in_ok-add_text-in-String c = λ ts t h n.
    let s = string c.in-String.text.now in
    let k : t ≡ s = subst (λ m. IsNode m t) c.in-String.is n in
    let a = c.in_ok-add_text-in-String.ensures in
    let new = a.2 in
    subst (λ u. Gathered (ts ++ u ∷ []) c.add_text.new.self) (sym k)
    (added c.args.self.now c.add_text.new.self s
    (record {
      texts = a.0;
      size = omega (arith, ap (λ x. x.size) new);
      bytes = omega (arith, ap (λ x. x.text_bytes) new, one_bytes c.in-String.text.now);
      within = omega (
        arith,
        a.1,
        one_bytes c.in-String.text.now,
        one_units c.in-String.text.now,
      );
      largest = omega (arith, ap (λ x. x.largest_table) new);
      too_long = ap (λ x. x.too_long) new;
      over = ap (λ x. x.has_count_over_32_bits) new
          ∙ sym (or-false c.args.self.now.has_count_over_32_bits);
    })
    ts h)

pub returns-in-Table : goal.returns-in-Table
returns-in-Table c = λ ts t h n.
    let k : IsTableOf c.in-Table.count t = subst (λ m. IsNode m t) c.in-Table.is n in
    let es = k.entries in
    let new = c.add_table.ensures in
    subst (λ u. Gathered (ts ++ u ∷ []) c.add_table.new.self) (sym k.is)
    (added c.args.self.now c.add_table.new.self (table es)
    (record {
      texts = ap (λ x. nows x.texts.items) new
          ∙ sym (append-nil (nows c.args.self.now.texts.items));
      size = omega (arith, ap (λ x. x.size) new, k.many);
      bytes = omega (arith, ap (λ x. x.text_bytes) new, no_bytes_gathered);
      within = omega (arith, no_bytes_gathered, no_units_gathered);
      largest = omega (arith, ap (λ x. x.largest_table) new, entries_long es, k.many);
      too_long = ap (λ x. x.too_long) new ∙ sym (or_none c.args.self.now.too_long);
      over = ap (λ x. x.has_count_over_32_bits) new
          ∙ sym (or-false c.args.self.now.has_count_over_32_bits);
    })
    ts h)
