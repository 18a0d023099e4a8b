use Rattle.std.proofs.Common.{◌≡◌, ◌+◌, ◌*◌, ◌-◌, ◌<◌, ℕ, List, [], Bor, length, take, get_or, ap}
use Rattle.std.proofs.Common.{subst}
use Rattle.std.proofs.Common.{sym, ◌∙◌, arith, Bool, true, false, not, nat_eq, ◌&&◌, true≢false}
use Rattle.std.proofs.Common.{refl, inl, inr}
use Rattle.std.specs.List.{All}
use Rattle.std.proofs.lemmas.Bool.{eqb-true, eq-eqb, and_parts, and_cases}
use Rattle.std.proofs.lemmas.List.{map_push, take_more, take_all}
use Rattle.std.proofs.lemmas.List.Elements.{All-push}
use Rattle.resb_pool.specs.Plan.{nows}
use Rattle.resb_pool.specs.Records.{IsRecord}
use Rattle.resb_pool.specs.Inner.Placing.{indexed_text, AreContainers, AreRecordsAmong, IsRecordOf}
use Rattle.resb_pool.specs.Inner.Placing.{AreBytes, front_bytes}
use Rattle.resb_pool.specs.Inner.Placing.{record_text, record_texts}
use Rattle.resb_pool.specs.declared.measure.Measure.{Measure}
use Rattle.resb_pool.specs.declared.records.Record.{Record}
use Rattle.resb_pool.specs.declared.packing.Packing.{Packing}
use Rattle.resb_pool.proofs.TextLoops.{blank}
use Rattle.resb_pool.proofs.Interning.{length-nows, text_nows}
use Rattle.resb_pool.proofs.Distinct.{not_before}
use Rattle.resb_pool.proofs.PlacingLemmas.{listed_keep, listed_push, records_all, lies_in_itself}
use Rattle.resb_pool.proofs.records.find_records.Goals as goal

abbrev no_measure : Measure
no_measure = record { unit_count = 0; size = 0; total = 0 }

-- what the test of a record says
own_record : (way : Packing) (xs : List (Bor (List ℕ))) (hs : List ℕ) (i : ℕ)
    → AreContainers way (nows xs) hs
    → i < length hs → (nat_eq (get_or hs i 0) i
    && not (nat_eq (length (get_or xs i blank).now) 0)) ≡ true
    → IsRecord (nows xs) (indexed_text (nows xs) i)
own_record way xs hs i placed l h =
    let k : i < length xs = omega (arith, l, placed.len, length-nows xs) in
    let both = and_parts (nat_eq (get_or hs i 0) i)
    (not (nat_eq (length (get_or xs i blank).now) 0)) h in
    lies_in_itself way (nows xs) i (get_or hs i 0)
    (placed.lies i (omega (arith, l, placed.len))) (eqb-true (get_or hs i 0)
    i both.0)
    (λ z. not_zero (length (get_or xs i blank).now) both.1 (ap length (text_nows xs i k) ∙ z))
  where
    not_zero : (n : ℕ) → not (nat_eq n 0) ≡ true → n ≡ 0 → ⊥
    not_zero n e z = true≢false (sym e ∙ ap not (eq-eqb n 0 z))

no_record : (way : Packing) (xs : List (Bor (List ℕ))) (hs : List ℕ) (i : ℕ)
    → AreContainers way (nows xs) hs
    → i < length hs → (nat_eq (get_or hs i 0) i
    && not (nat_eq (length (get_or xs i blank).now) 0)) ≡ false
    → IsRecord (nows xs) (indexed_text (nows xs) i) → ⊥
no_record way xs hs i placed l h r =
    let k : i < length xs = omega (arith, l, placed.len, length-nows xs) in
    let at = placed.lies i (omega (arith, l, placed.len)) in
    elim (and_cases (nat_eq (get_or hs i 0) i)
    (not (nat_eq (length (get_or xs i blank).now) 0)) h) [
      | inl e ↦ true≢false (sym (eq-eqb (get_or hs i 0) i (at.itself r)) ∙ e)
      | inr e ↦ (let n : length (get_or xs i blank).now ≡ 0 =
          zero_is (length (get_or xs i blank).now) e in
          omega (arith, n, ap length (text_nows xs i k), r.nonempty))
    ]
  where
    zero_is : (n : ℕ) → not (nat_eq n 0) ≡ false → n ≡ 0
    zero_is n e = by (nat_eq n 0) refl e
      where
        by : (b : Bool) → nat_eq n 0 ≡ b → not b ≡ false → n ≡ 0
        by true f g = eqb-true n 0 f
        by false f g = absurd (true≢false g)

pub overflow_sub-sums : goal.overflow_sub-sums
overflow_sub-sums c =
    let i = c.loop-index.index in
    let l : i < length (nows c.args.texts.now) =
    omega (arith, c.loop-index-test.true, c.requires.containers.1.len) in
    let own = own_record c.requires.containers.0 c.args.texts.now c.args.containers.now i
    c.requires.containers.1
    c.loop-index-test.true (sym c.is_record.ensures ∙ c.if-not-is_record.false) in
    omega (arith, c.requires.sums.size_is i no_measure l, c.requires.sums.own i l own)

pub loop-index-preserved-then-not-is_record : goal.loop-index-preserved-then-not-is_record
loop-index-preserved-then-not-is_record c =
    let T = nows c.args.texts.now in
    let i = c.loop-index.index in
    let l : i < length T = omega (arith, c.loop-index-test.true, c.requires.containers.1.len) in
    record {
      records = listed_keep T (take i T) (take (i + 1) T) (indexed_text T i) (take_more T i [] l)
          (record_texts T c.loop-index.records.items) c.loop-index.invariant.records
          (λ r. absurd (no_record c.requires.containers.0 c.args.texts.now c.args.containers.now i
          c.requires.containers.1
          c.loop-index-test.true (sym c.is_record.ensures ∙ c.if-not-is_record.true) r));
      each = c.loop-index.invariant.each;
    }

pub loop-index-preserved : goal.loop-index-preserved
loop-index-preserved c =
    let xs = c.args.texts.now in
    let T = nows xs in
    let i = c.loop-index.index in
    let old = c.loop-index.records.items in
    let l : i < length T = omega (arith, c.loop-index-test.true, c.requires.containers.1.len) in
    let own = own_record c.requires.containers.0 xs c.args.containers.now i c.requires.containers.1
    c.loop-index-test.true
    (sym c.is_record.ensures ∙ c.if-not-is_record.false) in
    let m = get_or c.args.measures.now i no_measure in
    let r : Record = record {
      unit_count = m.unit_count;
      saved = get_or c.args.sums.now i 0 - m.size;
      front = c.front_of.result;
      next = c.next_of.result;
      index = i;
    } in
    let e = c.in_ok-push.ensures.items in
    let t = c.as_bytes-bytes.ensures.value ∙ text_nows xs i (omega (arith, l, length-nows xs)) in
    record {
      records = subst (AreRecordsAmong T (take (i + 1) T)) (sym (ap (record_texts T) e
          ∙ map_push (record_text T) old r))
          (listed_push T (take i T) (take (i + 1) T) (indexed_text T i) (take_more T i [] l)
          (record_texts T old) c.loop-index.invariant.records
          (not_before T i c.requires.distinct l) own);
      each = subst (All (IsRecordOf T c.args.sums.now)) (sym e)
          (All-push (IsRecordOf T c.args.sums.now) old r c.loop-index.invariant.each
          (record {
            within = l;
            units_is = c.requires.sums.units_is i no_measure l;
            saved_is = omega (
              arith,
              c.requires.sums.size_is i no_measure l,
              c.requires.sums.own i l own,
            );
            front_is = c.front_of.ensures.front ∙ ap (front_bytes 0 8) t;
            next_is = subst (λ bs. front_bytes 0 12 bs ≡ c.front_of.result * 0x1_0000_0000
                + c.next_of.result) t (c.next_of.ensures
                ∙ ap (λ n. n * 0x1_0000_0000 + c.next_of.result) (sym c.front_of.ensures.front));
            bytes = subst AreBytes t c.front_of.ensures.bytes;
          }));
    }

pub returns-clause-records : goal.returns-clause-records
returns-clause-records c =
    let T = nows c.args.texts.now in
    let rs = record_texts T c.loop-index.records.items in
    records_all T rs (subst (λ d. AreRecordsAmong T d rs) (take_all c.loop-index.index T
    (omega (arith, c.loop-index-test.false, c.requires.containers.1.len)))
    c.loop-index.invariant.records)

pub loop-index-init : goal.loop-index-init
loop-index-init c =
    let T = nows c.args.texts.now in
    let none = c.in_ok-records.ensures.items in
    record {
      records = subst (λ l. AreRecordsAmong T [] (record_texts T l)) (sym none)
          (record {
            once = tt;
            sound = λ s h. absurd (omega (arith, h.1));
            complete = λ s r h. absurd (omega (arith, h.1));
          });
      each = subst (All (IsRecordOf T c.args.sums.now)) (sym none)
          (λ k d l. absurd (omega (arith, l)));
    }

pub bounds-texts-index : goal.bounds-texts-index
bounds-texts-index c = omega (
  arith,
  c.loop-index-test.true,
  c.requires.containers.1.len,
  length-nows c.args.texts.now,
)

pub bounds-measures-index : goal.bounds-measures-index
bounds-measures-index c =
    omega (arith, c.loop-index-test.true, c.requires.containers.1.len, c.requires.sums.measured)

pub bounds-sums-index : goal.bounds-sums-index
bounds-sums-index c =
    omega (arith, c.loop-index-test.true, c.requires.containers.1.len, c.requires.sums.len)

pub returns-clause-each : goal.returns-clause-each
returns-clause-each c = c.loop-index.invariant.each
