-- Files of version 2.0 that have nothing to do with pools are refused, and have their parts, as
-- without pools, and aliases and strings of the older form are read of them.
use Rattle.std.proofs.Common.{ℕ, List, [], ◌∷◌, ◌++◌, ◌≡◌, ◌+◌, ◌-◌, ◌*◌, ◌≤◌, inl}
use Rattle.std.proofs.Common.{inr}
use Rattle.std.proofs.Common.{length, min, take, drop, Bool, true, false}
use Rattle.std.proofs.Common.{nat_le, Some, None, Option, refl, sym, ap, ◌∙◌, arith, subst}
use Rattle.std.proofs.Common.{get_or}
use Rattle.std.proofs.Common.{slice_range, length-drop}
use Rattle.std.proofs.lemmas.Bool.{cases_lt, lt-leb, le-leb}
use Rattle.std.proofs.lemmas.List.{get_or-take, get_or-drop}
use Rattle.resb_format.specs.Bytes.{words_of, units_of}
use Rattle.resb_format.specs.Denotes.{Den}
use Rattle.resb_format.specs.Error.{Refusal, end_of_input, first_refusal}
use Rattle.resb_format.specs.Parts.{Parts, beside_no_pool}
use Rattle.resb_head.specs.File.{body_of, field_count, keys_end, block_end, parts_of}
use Rattle.resb_head.specs.HeadChecks.{header_checks, support_checks, index_checks}
use Rattle.resb_head.specs.HeadChecks.{block_checks, body_checks, file_checks, file_refusal}
use Rattle.resb_head.specs.File.{root_word}
use Rattle.resb_head.proofs.FileSteps.{field_behind, bundle_file_passes}
use Rattle.resb_head.proofs.Lists.{range_behind_four}
use Rattle.resb_pool_bundle.specs.Checks.{version_checks, size_checks, lending_checks, head_checks}
use Rattle.resb_pool_bundle.specs.Checks.{pool_given_checks, refusal_with}
use Rattle.resb_pool_bundle.specs.Fields.{major, index_length, is_pool, uses_pool, block_end_in}
use Rattle.resb_pool_bundle.specs.Fields.{limit_in, short_limit_in}
use Rattle.resb_pool_bundle.specs.Laws.{OwnFilesAreTheSame, OwnFilesDenoteTheSame}
use Rattle.resb_pool_bundle.specs.Inner.Sized.{field_checks, end_checks}
use Rattle.resb_pool_bundle.specs.Pool.{Pool, own_keys, parts_with}
use Rattle.resb_pool_bundle.proofs.PassingFiles.{file_is, file_passes}
use Rattle.resb_pool_bundle.proofs.PoolSteps.{unused_holds, lending_holds, nothing_lent}
use Rattle.resb_pool_bundle.proofs.SizeSteps.{sizes_in_two}

-- of two answers the first one that there is
either : Option Refusal → Option Refusal → Option Refusal
either None o = o
either (Some f) o = Some f

joined : (xs ys : List (Bool × Refusal))
    → first_refusal (xs ++ ys) ≡ either (first_refusal xs) (first_refusal ys)
unfolding either
joined [] ys = refl
joined ((true, f) ∷ xs) ys = joined xs ys
joined ((false, f) ∷ xs) ys = refl

-- lists of checks in two parts, each of which comes to the same
both_agree : (xs ys us vs : List (Bool × Refusal)) → first_refusal xs ≡ first_refusal us
    → first_refusal ys ≡ first_refusal vs → first_refusal (xs ++ ys) ≡ first_refusal (us ++ vs)
both_agree xs ys us vs e f = joined xs ys ∙ (λ i. either (e i) (f i)) ∙ sym (joined us vs)

-- checks behind which others hold
last_holds : (xs ys : List (Bool × Refusal)) → first_refusal ys ≡ None
    → first_refusal (xs ++ ys) ≡ first_refusal xs
last_holds [] ys e = e
last_holds ((true, f) ∷ xs) ys e = last_holds xs ys e
last_holds ((false, f) ∷ xs) ys e = refl

-- the first number of version 2.0
major_is : (bs : List ℕ) → slice_range bs 16 20 ≡ 2 ∷ 0 ∷ 0 ∷ 0 ∷ [] → major bs ≡ 2
major_is bs v =
    sym (get_or-take 4 (drop 16 bs) 0 0 (omega arith) ∙ get_or-drop 16 bs 0 0)
    ∙ ap (λ xs. get_or xs 0 0) v

-- what is supported
versions_agree : (bs : List ℕ) → slice_range bs 16 20 ≡ 2 ∷ 0 ∷ 0 ∷ 0 ∷ []
    → first_refusal (version_checks (drop 4 bs)) ≡ first_refusal (support_checks (drop 4 bs))
unfolding version_checks support_checks
versions_agree bs v =
    let m : get_or (drop 4 bs) 12 0 ≡ 2 = get_or-drop 4 bs 12 0 ∙ major_is bs v in
    rw (m, range_behind_four bs 12 16, v) refl

-- the same of one number more
one_more : (n l : ℕ) → 8 ≤ l → nat_le (4 * (1 + n)) l ≡ nat_le (4 * n) (l - 4)
one_more n l h = elim (cases_lt l (4 * (1 + n))) [
  | inl k ↦ rw (lt-leb (4 * (1 + n)) l k, lt-leb (4 * n) (l - 4) (omega (arith, h, k))) refl
  | inr k ↦ rw (le-leb (4 * (1 + n)) l k, le-leb (4 * n) (l - 4) (omega (arith, h, k))) refl
]

-- the number of fields, and that they are inside
fields_agree : (bs : List ℕ) → index_length bs ≡ field_count bs
    → first_refusal (field_checks bs)
    ≡ first_refusal ((nat_le 4 (length (body_of bs)), end_of_input)
    ∷ index_checks (drop 4 (body_of bs)))
unfolding field_checks index_checks
fields_agree bs n =
    let l : length (drop 4 (body_of bs)) ≡ length (body_of bs) - 4 = length-drop 4 (body_of bs) in
    let c : get_or (words_of (drop 4 (body_of bs))) 0 0 ≡ field_count bs =
    field_behind (body_of bs) 0 in
    elim (cases_lt (length (body_of bs)) 4) [
      | inl h ↦
          rw (
            lt-leb 8 (length (body_of bs)) (omega (arith, h)),
            lt-leb 4 (length (body_of bs)) h,
          ) refl
      | inr h ↦
          elim (cases_lt (length (body_of bs)) 8) [
            | inl k ↦
                rw (
                  lt-leb 8 (length (body_of bs)) k,
                  le-leb 4 (length (body_of bs)) h,
                  l,
                  lt-leb 4 (length (body_of bs) - 4) (omega (arith, h, k)),
                ) refl
            | inr k ↦
                rw (
                  le-leb 8 (length (body_of bs)) k,
                  le-leb 4 (length (body_of bs)) h,
                  l,
                  le-leb 4 (length (body_of bs) - 4) (omega (arith, k)),
                  n,
                  c,
                  one_more (min (field_count bs) 8) (length (body_of bs)) k,
                ) refl
          ]
    ]

ends_agree : (bs : List ℕ) → major bs ≡ 2 → index_length bs ≡ field_count bs
    → first_refusal (end_checks bs) ≡ first_refusal (block_checks (body_of bs))
unfolding end_checks block_checks
ends_agree bs m n = rw (n, m) refl

sizes_agree : (bs : List ℕ) → major bs ≡ 2 → index_length bs ≡ field_count bs
    → first_refusal (size_checks bs) ≡ first_refusal (body_checks (body_of bs))
unfolding body_checks
sizes_agree bs m n =
    ap first_refusal (sizes_in_two bs)
    ∙ both_agree (field_checks bs) (end_checks bs)
    ((nat_le 4 (length (body_of bs)), end_of_input) ∷ index_checks (drop 4 (body_of bs)))
    (block_checks (body_of bs)) (fields_agree bs n) (ends_agree bs m n)

-- what such a file says of pools
nothing_said : (bs : List ℕ) → major bs ≡ 2 → is_pool bs ≡ false → uses_pool bs ≡ false
    → first_refusal (lending_checks bs) ≡ None
nothing_said bs m p u =
    let l : limit_in bs ≡ 0 = rw m refl in
    let s : short_limit_in bs ≡ 0 = rw m refl in
    lending_holds bs (rw (p, u) refl) (rw (u, l, s) refl)

refusals_agree : (pool : Option Pool) (bs : List ℕ)
    → slice_range bs 16 20 ≡ 2 ∷ 0 ∷ 0 ∷ 0 ∷ [] → index_length bs ≡ field_count bs
    → is_pool bs ≡ false → uses_pool bs ≡ false → refusal_with pool bs ≡ file_refusal bs
unfolding refusal_with head_checks file_refusal file_checks
refusals_agree pool bs v n p u =
    last_holds
    (header_checks false bs
    ++ (version_checks (drop 4 bs) ++ (size_checks bs ++ lending_checks bs)))
    (pool_given_checks pool bs) (unused_holds pool bs u)
    ∙ both_agree (header_checks false bs)
    (version_checks (drop 4 bs) ++ (size_checks bs ++ lending_checks bs)) (header_checks false bs)
    (support_checks (drop 4 bs) ++ body_checks (body_of bs)) refl
    (both_agree (version_checks (drop 4 bs)) (size_checks bs ++ lending_checks bs)
    (support_checks (drop 4 bs)) (body_checks (body_of bs)) (versions_agree bs v)
    (last_holds (size_checks bs) (lending_checks bs) (nothing_said bs (major_is bs v) p u)
    ∙ sizes_agree bs (major_is bs v) n))

parts_agree : (pool : Option Pool) (bs : List ℕ) → major bs ≡ 2 → uses_pool bs ≡ false
    → parts_with pool bs ≡ beside_no_pool (parts_of bs)
unfolding parts_with parts_of
parts_agree pool bs m u =
    let keys : own_keys bs ≡ take (4 * keys_end bs) (body_of bs) = rw u refl in
    let end : block_end_in bs ≡ block_end bs = rw m refl in
    λ i. record {
      body = body_of bs;
      keys = keys i;
      block =
          units_of (take (4 * (end i - keys_end bs)) (drop (4 * keys_end bs) (body_of bs)));
      lent = Some (nothing_lent pool bs u i);
    }

pub own_files_are_the_same : OwnFilesAreTheSame
own_files_are_the_same pool bs own =
    let n : index_length bs ≡ field_count bs = omega (arith, own.few) in (
      refusals_agree pool bs own.version n own.no_pool own.uses_none,
      parts_agree pool bs (major_is bs own.version) own.uses_none,
    )

pub own_files_denote_the_same : OwnFilesDenoteTheSame
own_files_denote_the_same pool bs own t n =
    let same = own_files_are_the_same pool bs own in
    let P : Parts → Type 0 = λ p. Den p (root_word bs) t n in (
      λ d. record {
        head = file_is pool bs (same.0 ∙ (bundle_file_passes bs).1 d.head);
        root = subst P (sym same.1) d.root;
      },
      λ d. record {
        head = (bundle_file_passes bs).0 (sym same.0 ∙ file_passes pool bs d.head);
        root = subst P same.1 d.root;
      },
    )
