-- An iteration keeps the next key where the set has it.
use Rattle.std.proofs.Common.{◌≡◌, ◌+◌, List, ℕ, [], ◌∷◌, ◌++◌, drop, filter, All, sym, ◌∙◌, ap}
use Rattle.std.proofs.Common.{subst, arith}
use Rattle.std.specs.Map.{keys_of}
use Rattle.std.specs.Str.{IsUtf8}
use Rattle.resb_pool.proofs.TextLoops.{nows-push}
use Rattle.std.specs.Option.{is_some}
use Rattle.std.proofs.lemmas.List.{drop_more}
use Rattle.resb_pool.specs.Plan.{nows, at_text}
use Rattle.std.proofs.lemmas.List.Elements.{All-push}
use Rattle.resb_write.specs.Inner.Numbered.{AreNumbered}
use Rattle.resb_write.specs.declared.key_block.UsedKeys.{UsedKeys}
use Rattle.resb_write.proofs.EndKeys.{found_at}
use Rattle.resb_write.proofs.Keys.{filter_keeps, filter_leaves}
use Rattle.resb_write.proofs.NumberedKeys.{numbered_again}
use Rattle.resb_write.proofs.key_block.used_keys.Goals as goal
use Rattle.resb_write.proofs.key_block.used_keys.Goals.{in-Some+in_ok-add-in-Some, in-None}

pub loop-key-preserved : goal.loop-key-preserved
loop-key-preserved c =
    let xs = c.args.list.now in
    let i = c.loop-key.key-index in
    let x = c.key-item.result in
    let p = λ (k : List ℕ). is_some (at_text c.args.set.now k) in
    let old = c.loop-key.used.keys.items in
    let text = c.as_str-text.result in
    let rest = drop (i + 1) xs in
    let e : drop i xs ≡ x ∷ rest = drop_more xs i x (omega arith)
    ∙ ap (λ y. y ∷ rest) (sym c.key-item.is) in
    let end : nows old ++ filter p (x ∷ rest) ≡ filter p xs =
    ap (λ l. nows old ++ filter p l) (sym e) ∙ c.loop-key.invariant.keys in
    elim c.match-get_index_of.branch [
      | in-Some+in_ok-add-in-Some w ↦
          let more = w.in_ok-add-in-Some.ensures in
          let T = nows (keys_of c.args.set.now.entries) in
          let there = found_at c.args.set.now.entries text.now w.in-Some.number
          (sym c.get_index_of.ensures.index ∙ w.in-Some.is) in
          let grown = nows-push old w.add.new.self.keys.items text more.keys in
          record {
            keys = filter_keeps p old c.match-get_index_of.used.keys.items text rest x
                (ap (λ (u : UsedKeys). u.keys.items) w.used-is ∙ more.keys)
                c.as_str-text.ensures.value
                (sym c.get_index_of.ensures.found ∙ ap is_some w.in-Some.is) ∙ end;
            utf8 = subst (λ (u : UsedKeys). All IsUtf8 (nows u.keys.items)) (sym w.used-is)
                (subst (All IsUtf8) (sym grown)
                (All-push IsUtf8 (nows old) text.now c.loop-key.invariant.utf8
                (subst IsUtf8 (sym c.as_str-text.ensures.value) c.as_str-text.ensures.utf8)));
            numbers = subst (λ (u : UsedKeys). AreNumbered T u.numbers.items (nows u.keys.items))
                (sym w.used-is)
                (subst (AreNumbered T w.add.new.self.numbers.items) (sym grown)
                (subst (λ ns. AreNumbered T ns (nows old ++ text.now ∷ [])) (sym more.numbers)
                (numbered_again T c.loop-key.used.numbers.items (nows old)
                c.loop-key.invariant.numbers w.in-Some.number there.0 text.now there.1)));
          }
      | in-None w ↦
          record {
            keys = filter_leaves p old c.match-get_index_of.used.keys.items text rest x
                (ap (λ (u : UsedKeys). u.keys.items) w.used-is) c.as_str-text.ensures.value
                (sym c.get_index_of.ensures.found ∙ ap is_some w.in-None.is) ∙ end;
            utf8 = subst (λ (u : UsedKeys). All IsUtf8 (nows u.keys.items)) (sym w.used-is)
                c.loop-key.invariant.utf8;
            numbers = subst (λ (u : UsedKeys). AreNumbered (nows (keys_of c.args.set.now.entries))
                u.numbers.items (nows u.keys.items)) (sym w.used-is) c.loop-key.invariant.numbers;
          }
    ]
