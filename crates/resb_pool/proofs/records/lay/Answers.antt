use Rattle.std.proofs.Common.{◌≡◌, ◌+◌, ◌≤◌, ℕ, zero, suc, List, [], ◌++◌, ◌∷◌, length, take}
use Rattle.std.proofs.Common.{get_or, replicate, refl, sym, ◌∙◌, ap, subst, arith, rules}
use Rattle.std.specs.List.{sum_by, flat_map}
use Rattle.std.proofs.lemmas.List.{length-set, length-replicate, take_all}
use Rattle.resb_format.specs.Units.{units, size}
use Rattle.resb_pool.specs.Plan.{nows}
use Rattle.resb_pool.specs.Pool.{record_units}
use Rattle.resb_pool.specs.Inner.Placing.{record_text, record_texts, AreEnds}
use Rattle.resb_pool.specs.declared.records.Record.{Record}
use Rattle.resb_pool.proofs.InOrder.{length-records, texts-take, ends_put, closes_at}
use Rattle.resb_pool.proofs.InOrder.{units_up_to_record, records-push}
use Rattle.resb_pool.proofs.records.lay.Goals as goal

abbrev no_record : Record
no_record = record { unit_count = 0; saved = 0; front = 0; next = 0; index = 0 }

pub push_record-requires-clause-short : goal.push_record-requires-clause-short
push_record-requires-clause-short c =
    let rs = c.args.records.now in
    let i = c.loop-place.place in
    omega (
      arith,
      units_up_to_record (nows c.args.texts.now) rs i no_record c.loop-place-test.true,
      c.requires.counts i no_record c.loop-place-test.true,
      c.requires.short,
    )

blank_there : (n i : ℕ) → ◌≡◌ {A = ℕ} (get_or (replicate n 0) i 0) 0
blank_there zero i = refl
blank_there (suc n) zero = refl
blank_there (suc n) (suc i) = blank_there n i

before : (us : List ℕ) (qs : List (List ℕ)) → us ≡ 0 ∷ flat_map record_units qs
    → length us ≡ 1 + sum_by size qs
before us qs e = omega (arith, ap length e, length-records qs)

pub push_record-requires-clause-fits : goal.push_record-requires-clause-fits
push_record-requires-clause-fits c =
    let T = nows c.args.texts.now in
    let rs = c.args.records.now in
    let i = c.loop-place.place in
    omega (
      arith,
      units_up_to_record T rs i no_record c.loop-place-test.true,
      before c.loop-place.units.items (record_texts T (take i rs)) c.loop-place.invariant.units,
      ap size (c.loop-place.invariant.next no_record c.loop-place-test.true),
      c.requires.short,
    )

pub loop-place-preserved : goal.loop-place-preserved
loop-place-preserved c =
    let T = nows c.args.texts.now in
    let rs = c.args.records.now in
    let i = c.loop-place.place in
    let lt = c.loop-place-test.true in
    let r = get_or rs i no_record in
    let t = record_text T r in
    let v = c.loop-place.invariant in
    let is : c.loop-place.next.now ≡ t = v.next no_record lt in
    let n = before c.loop-place.units.items (record_texts T (take i rs)) v.units in
    let k = c.in_ok-ends-2.field-0 in
    record {
      units = c.in_ok-ends-2.ensures.appends
          ∙ ap (λ z. c.loop-place.units.items ++ record_units z) is
          ∙ ap (λ l. l ++ record_units t) v.units
          ∙ ap (λ l. 0 ∷ l) (sym (records-push (record_texts T (take i rs)) t))
          ∙ ap (λ qs. 0 ∷ flat_map record_units qs) (sym (texts-take T rs i no_record lt));
      utf8 = search rules;
      next = λ d l. c.record_text_at-next-in-loop-place.ensures d l;
      len = length-set c.loop-place.ends.items r.index k ∙ v.len;
      ends = ends_put T rs i no_record lt c.loop-place.ends.items k
          (omega (arith, v.len, c.requires.within i no_record lt)) v.ends
          (closes_at T rs i no_record lt k (omega (
            arith,
            c.in_ok-ends-2.ensures.end,
            ap size is,
            n,
          )));
    }

pub loop-place-init : goal.loop-place-init
loop-place-init c =
    let zeros : c.in_ok-ends.ends.items ≡ replicate (length c.args.texts.now) 0 =
    c.in_ok-ends.ensures.items_if_clones_equal (λ y e. e) in
    record {
      units = c.in_ok-push.ensures.items
          ∙ ap (λ l. l ++ 0 ∷ []) c.in_ok-units.ensures.items;
      utf8 = c.record_text_at-next.utf8;
      next = λ d l. c.record_text_at-next.ensures d l;
      len = ap length zeros ∙ length-replicate (length c.args.texts.now) 0;
      ends = record {
        closes = λ k d l. absurd (omega (arith, l));
        others = λ i _. ap (λ l. get_or l i 0) zeros ∙ blank_there (length c.args.texts.now) i;
      };
    }

pub push_record-requires-clause-count : goal.push_record-requires-clause-count
push_record-requires-clause-count c =
    let lt = c.loop-place-test.true in
    c.requires.counts c.loop-place.place no_record lt
    ∙ ap (λ t. length (units t)) (sym (c.loop-place.invariant.next no_record lt))

pub index_mut-requires : goal.index_mut-requires
index_mut-requires c = omega (
  arith,
  c.loop-place.ends.ok.0,
  c.loop-place.invariant.len,
  c.requires.within c.loop-place.place no_record c.loop-place-test.true,
)

all_taken : (rs : List Record) (i : ℕ) → length rs ≤ i → take i rs ≡ rs
all_taken rs i l = take_all i rs l

pub returns-clause-units : goal.returns-clause-units
returns-clause-units c =
    c.loop-place.invariant.units
    ∙ ap (λ rs. 0 ∷ flat_map record_units (record_texts (nows c.args.texts.now) rs))
    (all_taken c.args.records.now c.loop-place.place (omega (arith, c.loop-place-test.false)))

pub returns-clause-ends : goal.returns-clause-ends
returns-clause-ends c =
    let rs = c.args.records.now in
    subst (λ done. AreEnds (nows c.args.texts.now) rs done c.loop-place.ends.items)
    (all_taken rs c.loop-place.place (omega (arith, c.loop-place-test.false)))
    c.loop-place.invariant.ends
