use Rattle.std.proofs.Common.{◌≡◌, ◌++◌, All, filter, drop}
use Rattle.std.specs.Map.{keys_of}
use Rattle.std.specs.Str.{IsUtf8}
use Rattle.std.specs.Option.{is_some}
use Rattle.resb_pool.specs.Plan.{nows, at_text}
use Rattle.resb_write.specs.Inner.Numbered.{AreNumbered}
use Rattle.resb_write.proofs.key_block.used_keys.Given as goal

abbrev pub invariant-loop-key : goal.invariant-loop-key
invariant-loop-key l = record {
  keys : nows l.used.keys.items
      ++ filter (λ k. is_some (at_text l.set k)) (drop l.key-index l.list)
      ≡ filter (λ k. is_some (at_text l.set k)) l.list;
  utf8 : All IsUtf8 (nows l.used.keys.items);
  numbers : AreNumbered (nows (keys_of l.set.entries)) l.used.numbers.items
      (nows l.used.keys.items);
}
