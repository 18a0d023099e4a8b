-- The plan of strings whose texts stand in a list of keys, once these are placed.
use Rattle.std.proofs.Common.{◌≡◌, ◌<◌, ◌^◌, ℕ, List, Bor, Option, Some, None, length, map, arith}
use Rattle.std.specs.Prelude.{slice_get, slice_index, position}
use Rattle.std.specs.Option.{option_and_then}
use Rattle.std.specs.Str.{bytes_eq}
use Rattle.resb_pool.specs.Plan.{nows, first_too_long, texts_size, IsPlanAmong}
use Rattle.resb_pool.specs.Inner.Placing.{AreTexts, AreTurns}
use Rattle.resb_pool.specs.Inner.LaidRecords.{HaveOffsets}
use Rattle.resb_pool.specs.declared.measure.Measure.{Measure}
use Rattle.resb_pool.specs.declared.packing.Packing.{Packing}
use Rattle.resb_pool.proofs.Interning.{length-nows}
use Rattle.resb_pool.proofs.TextLists.{TextList}
use Rattle.resb_pool.proofs.TextLoops.{none_too_long}
use Rattle.resb_pool.proofs.PlanLemmas.{planned, offset_at}
use Rattle.resb_pool.proofs.Turns.{offsets_fit, offsets_there}

-- where a text stands, by its place among the keys
abbrev pub offset_in : List (Bor (List ℕ)) → List ℕ → List ℕ → Option ℕ
offset_in keys os s =
    option_and_then (slice_get os) (position (λ (k : Bor (List ℕ)). bytes_eq s k.now) keys)

module _ (way : Packing) (A : List ℕ → Type 0) (S : TextList) (keys : List (Bor (List ℕ)))
    (ms : List Measure)
    (us os : List ℕ)
    (texts : AreTexts S (nows keys) ms) (p : HaveOffsets way A (nows keys) ms us os) where
  fits : length os ≡ length keys
  fits = omega (arith, offsets_fit way A (nows keys) ms us os p, length-nows keys)

  pub plan_of_keys : first_too_long S ≡ None → texts_size S < 2 ^ 28
      → IsPlanAmong way A S us (offset_in keys os)
  plan_of_keys short small =
      let b = p.block in
      planned way S (nows keys) ms texts small p.containers p.containers_are p.hidden b.sums
      b.lying b.rows b.records b.each p.ends b.len b.ends os p.offsets_are A p.hidden_are
      b.ascend (none_too_long S short) us
      (offset_in keys os) b.units (λ s. offset_at s keys os fits)

  pub turns_of_keys : (turns : List ℕ) → AreTurns S (nows keys) turns
      → map (offset_in keys os) S ≡ map Some (map (slice_index os) turns)
  turns_of_keys turns h = offsets_there S keys turns os fits texts.once h
