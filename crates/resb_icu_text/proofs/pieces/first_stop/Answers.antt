use Rattle.std.proofs.Common.{arith, inl, inr}
use Rattle.resb_icu_text.proofs.StopsLemmas.{near_stop}
use Rattle.resb_icu_text.proofs.pieces.first_stop.Goals as goal

pub returns-then-quote-slash-clause-found : goal.returns-then-quote-slash-clause-found
returns-then-quote-slash-clause-found c =
    let q = rw c.as_bytes-bytes.ensures.value at c.bytes_before-quote.ensures in
    let s = rw c.as_bytes-bytes.ensures.value at c.bytes_before-slash.ensures in
    near_stop c.args.text.now c.args.from _ _ _ (omega arith) (omega arith) (omega arith)
    (inl (q.stands (omega arith))) q.before s.before

pub returns-then-slash-lt16-clause-found : goal.returns-then-slash-lt16-clause-found
returns-then-slash-lt16-clause-found c =
    let q = rw c.as_bytes-bytes.ensures.value at c.bytes_before-quote.ensures in
    let s = rw c.as_bytes-bytes.ensures.value at c.bytes_before-slash.ensures in
    near_stop c.args.text.now c.args.from _ _ _ (omega arith) (omega arith) (omega arith)
    (inr (s.stands (omega arith))) q.before s.before
