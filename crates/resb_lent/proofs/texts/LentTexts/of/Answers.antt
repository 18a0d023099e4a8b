use Rattle.std.proofs.Common.{rules, ◌≡◌, ap, ◌∙◌, Some, refl, sym, subst, map, true}
use Rattle.std.specs.List.{All}
use Rattle.std.specs.Str.{IsUtf8}
use Rattle.std.specs.Ordering.{is_lt}
use Rattle.std.specs.Prelude.{slice_get}
use Rattle.std.proofs.lemmas.Fn.{always_returns_same}
use Rattle.resb_format.specs.Bytes.{units_of}
use Rattle.resb_lent.specs.Entries.{entry_cmp}
use Rattle.resb_lent.specs.declared.lent_record.LentRecord.{LentRecord}
use Rattle.resb_lent.proofs.Lying.{entry_order}
use Rattle.resb_lent.proofs.Sorting.{lends_sorted, utf8_moved}
use Rattle.resb_lent.specs.Inner.Tops.{AreTops}
use Rattle.resb_lent.specs.Inner.Within.{record_bytes}
use Rattle.resb_lent.proofs.texts.LentTexts.of.Goals as goal

pub tops-requires : goal.tops-requires
tops-requires c = subst (λ es. All IsUtf8 (map record_bytes es)) (sym c.deref-3.ensures.value)
    (utf8_moved (units_of c.args.block.now) c.in_ok-records.records.items
    c.sort_unstable_by.new.self.items c.in_ok-records.ensures
    c.sort_unstable_by.ensures.permutation)

pub returns : goal.returns
returns c =
    let block = units_of c.args.block.now in
    let zero : slice_get block 0 ≡ Some 0 =
    rw (c.deref.ensures.value ∙ c.in_ok-units.ensures) at c.if-not-begins_with_zero.ensures in
    lends_sorted record {
      records = c.sort_unstable_by.new.self;
      tops = c.in_ok-tops.tops;
      lends = true;
    } block
    c.in_ok-records.records.items refl zero c.in_ok-records.ensures
    c.sort_unstable_by.ensures.permutation
    (c.sort_unstable_by.ensures.sorted (λ (x y : LentRecord). is_lt (entry_cmp x y)) entry_order
    (always_returns_same _ (λ a r. is_lt r ≡ is_lt (entry_cmp a.0.now a.1.0.now)) _
    (λ a r f q. (let e : r ≡ entry_cmp a.0.now a.1.0.now = search rules in
    (ap is_lt e, search rules)))))
    (subst (λ es. AreTops es c.in_ok-tops.tops.items) c.deref-3.ensures.value c.in_ok-tops.ensures)
