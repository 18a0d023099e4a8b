use Rattle.std.proofs.Common.{◌≡◌, ◌∷◌, ◌<◌, length, take, get_or}
use denote.Shadow.{shadow}
use denote.Text.{Utf8}
use Rattle.std.specs.List.{flat_map}
use Rattle.resb_pool.specs.Plan.{nows}
use Rattle.resb_pool.specs.Pool.{record_units}
use Rattle.resb_pool.specs.Inner.Placing.{record_text, record_texts, AreEnds}
use Rattle.resb_pool.specs.declared.records.Record.{Record}
use Rattle.resb_pool.proofs.records.lay.Given as goal

abbrev pub invariant-loop-place : goal.invariant-loop-place
invariant-loop-place l = record {
  units : l.units.items
      ≡ 0 ∷ flat_map record_units (record_texts (nows l.texts) (take l.place l.records));
  utf8 : shadow (Utf8 l.next);
  next : (d : Record) → l.place < length l.records
      → l.next ≡ record_text (nows l.texts) (get_or l.records l.place d);
  len : length l.ends.items ≡ length l.texts;
  ends : AreEnds (nows l.texts) l.records (take l.place l.records) l.ends.items;
}
