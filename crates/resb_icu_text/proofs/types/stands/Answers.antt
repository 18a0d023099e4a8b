use Rattle.std.proofs.Common.{◌≡◌, ◌<◌, ◌≤◌, length, arith, refl, get_or, slice_index, sym, ◌∙◌, ap}
use Rattle.std.proofs.Common.{Some, slice_get}
use Rattle.std.proofs.lemmas.Bool.{false≢true}
use Rattle.resb_icu_text.proofs.TypesLemmas.{not_there}
use Rattle.resb_icu_text.proofs.Lists.{past_end, other_byte, byte_there}
use Rattle.resb_icu_text.proofs.types.stands.Goals.{then-here-all-via-then-here-all}
use Rattle.resb_icu_text.proofs.types.stands.Goals.{then-here-all-via-else-here-all+then-all-here}
use Rattle.resb_icu_text.proofs.types.stands.Goals as goal
use Rattle.resb_grammar.proofs.BothReaders.{stands_next}

pub returns-then-here-all-clause-stands : goal.returns-then-here-all-clause-stands
returns-then-here-all-clause-stands c =
    let text = c.args.text.now in
    let here = c.loop-b.here in
    let b = get_or c.args.bytes.now c.loop-b.b-index 0 in
    let same = c.as_bytes-all.ensures.value in
    let never : slice_get text here ≡ Some b → ⊥ = elim c.then-here-all.branch [
      | then-here-all-via-then-here-all w ↦
          let low : length text ≤ here = omega (arith, w.if-here-all.true, ap length same) in
          past_end text here b low
      | then-here-all-via-else-here-all+then-all-here w ↦
          let low : here < length text = omega (arith, w.if-here-all.false, ap length same) in
          other_byte text here b low
          (λ e. w.if-all-here.true (ap (λ l. get_or l here 0) same ∙ e))
    ] in (
      λ t. absurd (false≢true t),
      λ s. absurd (not_there text c.args.bytes.now here c.loop-b.b-index
          c.loop-b-test.true never (c.loop-b.invariant.rest.1 s)),
    )

pub loop-b-preserved : goal.loop-b-preserved
loop-b-preserved c =
    let text = c.args.text.now in
    let here = c.loop-b.here in
    let same = c.as_bytes-all.ensures.value in
    let e : slice_index text here ≡ get_or c.args.bytes.now c.loop-b.b-index 0 =
    ap (λ l. get_or l here 0) (sym same) ∙ c.if-all-here.false in
    let low : here < length text = omega (arith, c.if-here-all.false, ap length same) in
    record {
      here = omega (arith, c.loop-b.invariant.here);
      fits = omega (arith, low);
      rest = stands_next text c.args.bytes.now here c.loop-b.b-index _ _ c.loop-b-test.true refl
          (byte_there text here _ low e) c.loop-b.invariant.rest;
    }
