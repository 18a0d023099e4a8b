use Rattle.std.proofs.Common.{◌≡◌, ◌+◌, ◌<◌, ℕ, List, Bor, Bool, not, true, false, length, get_or}
use Rattle.std.proofs.Common.{get_or-set_other, get_or-set_same, inl, inr, refl, sym, ◌∙◌, ap}
use Rattle.std.proofs.Common.{subst, arith, rules, true≢false}
use Rattle.std.specs.Prelude.{slice_set}
use Rattle.std.specs.Str.{bytes_eq}
use Rattle.std.specs.Cmp.Lexicographic.{bytes_decides}
use Rattle.std.proofs.lemmas.Bool.{cases_eq}
use Rattle.std.proofs.lemmas.List.{length-set, get_or_default}
use Rattle.resb_pool.specs.Plan.{nows}
use Rattle.resb_pool.specs.Inner.Placing.{indexed_text}
use Rattle.resb_pool.specs.Inner.Firsts.{IsFirst}
use Rattle.resb_pool.specs.declared.firsts.NumberedHash.{NumberedHash}
use Rattle.resb_pool.proofs.TextLoops.{blank}
use Rattle.resb_pool.proofs.Interning.{length-nows, text_nows}
use Rattle.resb_pool.proofs.Numbers.{old_or_new}
use Rattle.resb_pool.proofs.HashRuns.{IsRun, run_begins, run_goes_on, first_of_run, all_first}
use Rattle.resb_pool.proofs.HashRuns.{front}
use Rattle.resb_pool.proofs.firsts.firsts_by.Goals.{then-item-first, else-item-first+else-ne}
use Rattle.resb_pool.proofs.firsts.firsts_by.Goals as goal

abbrev no_hash : NumberedHash
no_hash = record { hash = 0; number = 0 }

-- strings that don't differ are one text
one_text : (xs : List (Bor (List ℕ))) (i j : ℕ) → i < length xs → j < length xs
    → false ≡ not (bytes_eq (get_or xs i blank).now (get_or xs j blank).now)
    → indexed_text (nows xs) j ≡ indexed_text (nows xs) i
one_text xs i j l m e = sym (text_nows xs j m)
    ∙ sym ((bytes_decides (get_or xs i blank).now (get_or xs j blank).now).0
    (yes (bytes_eq (get_or xs i blank).now (get_or xs j blank).now) e)) ∙ text_nows xs i l
  where
    yes : (b : Bool) → false ≡ not b → b ≡ true
    yes true e = refl
    yes false e = absurd (true≢false (sym e))

pub loop-item-init : goal.loop-item-init
loop-item-init c =
    let S = nows c.args.strings.now in
    let ms = c.args.hashes.now in
    let m = c.in-Some.least.now in
    let f = front ms m c.in-Some.ensures.value in
    record {
      len = search rules;
      run = subst (IsRun S ms 0) f.1 (run_begins S ms c.requires.hashes 0 m f.0 c.requires.ascend
          (λ q e b. absurd (omega (arith, b))));
      each = λ q d b. absurd (omega (arith, b));
    }

pub loop-item-preserved : goal.loop-item-preserved
loop-item-preserved c =
    let xs = c.args.strings.now in
    let S = nows xs in
    let ms = c.args.hashes.now in
    let k = c.loop-item.item-index in
    let l : k < length ms = c.loop-item-test.true in
    let v = c.loop-item.invariant in
    let x = get_or ms k no_hash in
    let m = c.if-item-first.first in
    let n = length-nows xs in
    let within = (c.requires.hashes.each k no_hash l).0 in
    let here : IsRun S ms (k + 1) m × IsFirst S x.number m.number = elim c.if-item-first.branch [
      | then-item-first w ↦
          let up = v.run.above k no_hash (omega arith) l in
          let new : (q : ℕ) (e : NumberedHash) → q < k → (get_or ms q e).hash < x.hash =
          (λ q e b. omega (arith, v.run.below q e b, up, w.if-item-first.true)) in
          let run = run_goes_on S ms c.requires.hashes k no_hash l x
          (run_begins S ms c.requires.hashes k no_hash l c.requires.ascend new) refl in
          subst (λ z. IsRun S ms (k + 1) z × IsFirst S x.number z.number) (sym w.first-is)
          (run, first_of_run S ms c.requires.hashes k no_hash l (k + 1) x run refl refl)
      | else-item-first+else-ne w ↦
          let e = w.if-item-first.false in
          subst (λ z. IsRun S ms (k + 1) z × IsFirst S x.number z.number) (sym w.first-is) (
            run_goes_on S ms c.requires.hashes k no_hash l c.loop-item.first v.run e,
            first_of_run S ms c.requires.hashes k no_hash l k c.loop-item.first v.run e
                (one_text xs x.number c.loop-item.first.number (omega (arith, within, n))
                (omega (arith, v.run.within, n)) w.if-ne.ensures),
          )
    ] in
    let fs = c.loop-item.firsts.items in
    let small : x.number < length fs = omega (arith, within, n, v.len) in
    record {
      len = length-set fs x.number m.number ∙ v.len;
      run = here.0;
      each = λ q d b.
          let y = (get_or ms q d).number in
          elim (cases_eq y x.number) [
            | inl e ↦ subst (λ z. IsFirst S z (get_or (slice_set fs x.number m.number) z 0)) (sym e)
                (subst (IsFirst S x.number) (sym (get_or-set_same fs x.number m.number 0 small))
                here.1)
            | inr ne ↦ subst (IsFirst S y) (sym (get_or-set_other fs x.number y m.number 0 ne))
                (elim (old_or_new k q b) [
                  | inl o ↦ v.each q d o
                  | inr o ↦ absurd (ne (ap (λ z. (get_or ms z d).number) o
                      ∙ ap (λ (z : NumberedHash). z.number)
                      (sym (get_or_default ms k no_hash d l))))
                ])
          ];
    }

pub returns : goal.returns
returns c = all_first (nows c.args.strings.now) c.args.hashes.now c.requires.hashes
    c.loop-item.firsts.items (c.loop-item.invariant.len ∙ sym (length-nows c.args.strings.now))
    (λ q d l. c.loop-item.invariant.each q d (omega (arith, l, c.loop-item-test.false)))

pub bounds-strings-item : goal.bounds-strings-item
bounds-strings-item c = omega (
  arith,
  (c.requires.hashes.each c.loop-item.item-index no_hash c.loop-item-test.true).0,
  length-nows c.args.strings.now,
)

pub bounds-strings-first : goal.bounds-strings-first
bounds-strings-first c =
    omega (arith, c.loop-item.invariant.run.within, length-nows c.args.strings.now)

pub index_mut-requires : goal.index_mut-requires
index_mut-requires c = omega (
  arith,
  (c.requires.hashes.each c.loop-item.item-index no_hash c.loop-item-test.true).0,
  length-nows c.args.strings.now,
  c.loop-item.invariant.len,
  c.loop-item.firsts.ok.0,
)
