-- Where a part of a group is missing, no group takes a file in.
use Rattle.std.proofs.Common.{◌≡◌, List, ℕ, None, subst, sym, ◌∙◌}
use Rattle.resb_icu_files.specs.Ways.{way_at}
use Rattle.resb_icu_files.proofs.WaysLemmas.{no_colon, no_way, no_opening, no_name, no_closing}
use Rattle.resb_icu_files.proofs.WaysLemmas.{spelt_there}
use Rattle.resb_icu_files.proofs.group.group_at.Goals as goal

pub returns-then-byte-ne58-clause-none : goal.returns-then-byte-ne58-clause-none
returns-then-byte-ne58-clause-none c =
    no_colon c.args.text.now c.args.at (λ e. c.if-byte-ne58.true (c.byte.ensures.byte ∙ e))

pub returns-in_default-clause-none : goal.returns-in_default-clause-none
returns-in_default-clause-none c =
    let text = c.args.text.now in
    let place = c.skip-place.result in
    let e : way_at text place ≡ None =
    subst (λ (l : List ℕ). way_at l place ≡ None) c.as_bytes.ensures.value
    (sym c.way_at.ensures.value ∙ c.in_default.is) in
    no_way text c.args.at place c.skip-place.ensures.skip e

pub returns-then-byte-ne123-clause-none : goal.returns-then-byte-ne123-clause-none
returns-then-byte-ne123-clause-none c =
    let spelt = spelt_there c.args.text.now _ c.args.at c.skip-place.result c.skip-brace.result
    c.in-Some.kind _ c.as_bytes.ensures.value c.skip-place.ensures.skip c.in-Some.ensures.value
    c.spelling.ensures c.skip-brace.ensures.skip in
    no_opening c.args.text.now c.args.at c.skip-brace.result c.in-Some.kind spelt
    (λ h. c.if-byte-ne123.true (c.byte-2.ensures.byte ∙ h))

pub returns-in_default-2-clause-none : goal.returns-in_default-2-clause-none
returns-in_default-2-clause-none c =
    let spelt = spelt_there c.args.text.now _ c.args.at c.skip-place.result c.skip-brace.result
    c.in-Some.kind _ c.as_bytes.ensures.value c.skip-place.ensures.skip c.in-Some.ensures.value
    c.spelling.ensures c.skip-brace.ensures.skip in
    no_name c.args.text.now c.args.at c.skip-brace.result c.skip-from.result c.in-Some.kind spelt
    c.skip-from.ensures.skip (rw c.in_default-2.is at c.in_ok-name.ensures.none)

pub returns-then-byte-ne125-clause-none : goal.returns-then-byte-ne125-clause-none
returns-then-byte-ne125-clause-none c =
    let spelt = spelt_there c.args.text.now _ c.args.at c.skip-place.result c.skip-brace.result
    c.in-Some.kind _ c.as_bytes.ensures.value c.skip-place.ensures.skip c.in-Some.ensures.value
    c.spelling.ensures c.skip-brace.ensures.skip in
    let l = rw c.in-Some-2.is at c.in_ok-name.ensures.found in
    no_closing c.args.text.now c.args.at c.skip-brace.result c.skip-from.result _ _
    c.in-Some.kind _ spelt c.skip-from.ensures.skip l.string l.blanks
    (λ h. c.if-byte-ne125.true (c.byte-3.ensures.byte ∙ h))
