use Rattle.std.proofs.Common.{◌≡◌, ◌<◌, ◌∙◌, sym, ap, subst, map, IfOk}
use Rattle.std.proofs.Common.{arith}
use Rattle.std.specs.List.{slice_index}
use Rattle.std.proofs.lemmas.Str.{IsCharBoundary-after_ascii}
use Rattle.std.proofs.lemmas.Iterator.Consumers.{map_from_collect}
use Rattle.std.proofs.lemmas.Iterator.Splits.{YieldsList-from_str_split}
use Rattle.resb_c.specs.Paths.{is_separator}
use Rattle.resb_c.proofs.PathLemmas.{has_first, is_low, parts_are_names, slashed_are_names}
use Rattle.resb_c.proofs.path.names_of.Goals as goal

pub returns-then-not-is_separator : goal.returns-then-not-is_separator
returns-then-not-is_separator c =
    let other = ap (λ bytes. is_separator (slice_index bytes 0)) (sym c.as_bytes.ensures.value)
    ∙ sym c.is_separator.ensures ∙ c.if-not-is_separator.true in
    let names = slashed_are_names c.args.path.now
    (sym c.is_empty.ensures ∙ c.if-is_empty.false) other in
    subst (λ parts. IfOk c.collect.result (λ v. map (λ name. name.now) v.items ≡ parts)) names
    (map_from_collect _ c.collect.ensures.ran (YieldsList-from_str_split 47 c.args.path.now
    (omega arith) c.split.ensures.text c.split.ensures.has_more c.split.ensures.pattern))

pub split_at-requires : goal.split_at-requires
split_at-requires c =
    let parts = ap (λ bytes. is_separator (slice_index bytes 0)) (sym c.as_bytes.ensures.value)
    ∙ sym c.is_separator.ensures ∙ c.if-not-is_separator.false in
    IsCharBoundary-after_ascii c.args.path.now 0 c.utf8.path
    (has_first c.args.path.now (sym c.is_empty.ensures ∙ c.if-is_empty.false)) (is_low _ parts)

pub returns : goal.returns
returns c =
    let parts = ap (λ bytes. is_separator (slice_index bytes 0)) (sym c.as_bytes.ensures.value)
    ∙ sym c.is_separator.ensures ∙ c.if-not-is_separator.false in
    let first = c.from.ensures ∙ ap (λ bytes. slice_index bytes 0) c.as_bytes.ensures.value in
    let low = subst (λ x. x < 128) (sym first) (is_low _ parts) in
    let names = parts_are_names c.args.path.now c.split_at.result.1.now c.from.result
    (sym c.is_empty.ensures ∙ c.if-is_empty.false) first parts c.split_at.ensures.back in
    subst (λ parts. IfOk c.collect-2.result (λ v. map (λ name. name.now) v.items ≡ parts)) names
    (map_from_collect _ c.collect-2.ensures.ran (YieldsList-from_str_split c.from.result
    c.split_at.result.1.now low c.split-2.ensures.text c.split-2.ensures.has_more
    c.split-2.ensures.pattern))
