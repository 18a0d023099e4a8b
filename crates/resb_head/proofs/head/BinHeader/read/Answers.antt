-- Each refusal is that of the first check that fails.
use Rattle.std.proofs.Common.{◌≡◌, ◌<◌, ◌≤◌, ℕ, List, [], ◌∷◌, not, drop, nat_eq, get_or}
use Rattle.std.proofs.Common.{slice_range, None, Some, sym, ap, subst, ◌∙◌, rules}
use Rattle.std.specs.Str.{bytes_eq}
use Rattle.std.proofs.lemmas.Bool.{not-true, not-false}
use Rattle.std.proofs.lemmas.List.{get_or-drop}
use Rattle.std.proofs.lemmas.Slice.Eq.{bytes_eq-Decides}
use Rattle.resb_format.specs.Bytes.{unit_in}
use Rattle.resb_format.specs.Error.{refusal_of, first_refusal}
use Rattle.resb_head.specs.Codes.{endianness_number}
use Rattle.resb_head.specs.HeadChecks.{info_checks}
use Rattle.resb_head.specs.Head.{InfoAt}
use Rattle.resb_head.proofs.HeaderSteps.{Begun, short_header, magic_fails, info_fails, size_fails}
use Rattle.resb_head.proofs.HeaderSteps.{header_holds}
use Rattle.resb_head.proofs.head.BinHeader.read.Goals as goal

pub returns-then-bytes-lt24 : goal.returns-then-bytes-lt24
returns-then-bytes-lt24 c =
    short_header c.args.any_order c.args.bytes.now c.invalid_data.result c.if-bytes-lt24.true
    c.invalid_data.ensures

pub returns-then-ne : goal.returns-then-ne
returns-then-ne c =
    let bs : List ℕ = c.args.bytes.now in
    magic_fails c.args.any_order bs c.invalid_data-then-ne.result c.if-bytes-lt24.false
    (not-true (bytes_eq (slice_range bs 2 4) (0xda ∷ 0x27 ∷ []))
    (sym (c.ne.ensures ∙ ap (λ xs. not (bytes_eq xs (0xda ∷ 0x27 ∷ []))) c.two_at.ensures)
    ∙ c.if-ne.true))
    c.invalid_data-then-ne.ensures

pub returns-in_err-repr_info : goal.returns-in_err-repr_info
returns-in_err-repr_info c =
    let bs : List ℕ = c.args.bytes.now in
    let b : Begun bs = record {
      long = c.if-bytes-lt24.false;
      magic = not-false (bytes_eq (slice_range bs 2 4) (0xda ∷ 0x27 ∷ []))
          (sym (c.ne.ensures ∙ ap (λ xs. not (bytes_eq xs (0xda ∷ 0x27 ∷ []))) c.two_at.ensures)
          ∙ c.if-ne.false);
    } in
    let e : first_refusal (info_checks c.args.any_order (drop 4 bs))
    ≡ Some (refusal_of c.in_err-repr_info.field-0.0) =
    ap (λ xs. first_refusal (info_checks c.args.any_order xs)) (sym c.split_at.ensures.back)
    ∙ c.in_err-repr_info.ensures in
    let h = info_fails c.args.any_order bs (refusal_of c.in_err-repr_info.field-0.0) b e in
    search (rules, h)

pub returns-then-size-lt24 : goal.returns-then-size-lt24
returns-then-size-lt24 c =
    let bs : List ℕ = c.args.bytes.now in
    let b : Begun bs = record {
      long = c.if-bytes-lt24.false;
      magic = not-false (bytes_eq (slice_range bs 2 4) (0xda ∷ 0x27 ∷ []))
          (sym (c.ne.ensures ∙ ap (λ xs. not (bytes_eq xs (0xda ∷ 0x27 ∷ []))) c.two_at.ensures)
          ∙ c.if-ne.false);
    } in
    let e : first_refusal (info_checks c.args.any_order (drop 4 bs)) ≡ None =
    ap (λ xs. first_refusal (info_checks c.args.any_order xs)) (sym c.split_at.ensures.back)
    ∙ c.in_ok-repr_info.ensures.0 in
    let i : InfoAt c.in_ok-repr_info.repr_info (drop 4 bs) =
    subst (λ xs. InfoAt c.in_ok-repr_info.repr_info xs) c.split_at.ensures.back
    c.in_ok-repr_info.ensures.1 in
    let n : endianness_number c.in_ok-repr_info.repr_info.endianness ≡ get_or bs 8 0 =
    i.endianness ∙ get_or-drop 4 bs 4 0 in
    let s : c.unit_in-size.result ≡ unit_in (nat_eq (get_or bs 8 0) 1) bs 0 =
    c.unit_in-size.ensures ∙ ap (λ t. unit_in t bs 0)
    (c.is_big.ensures ∙ ap (λ k. nat_eq k 1) n) in
    size_fails c.args.any_order bs c.invalid_data-then-size-lt24.result b e
    (subst (λ k. k < 24) s c.if-size-lt24.true) c.invalid_data-then-size-lt24.ensures

pub returns : goal.returns
returns c =
    let bs : List ℕ = c.args.bytes.now in
    let b : Begun bs = record {
      long = c.if-bytes-lt24.false;
      magic = not-false (bytes_eq (slice_range bs 2 4) (0xda ∷ 0x27 ∷ []))
          (sym (c.ne.ensures ∙ ap (λ xs. not (bytes_eq xs (0xda ∷ 0x27 ∷ []))) c.two_at.ensures)
          ∙ c.if-ne.false);
    } in
    let e : first_refusal (info_checks c.args.any_order (drop 4 bs)) ≡ None =
    ap (λ xs. first_refusal (info_checks c.args.any_order xs)) (sym c.split_at.ensures.back)
    ∙ c.in_ok-repr_info.ensures.0 in
    let i : InfoAt c.in_ok-repr_info.repr_info (drop 4 bs) =
    subst (λ xs. InfoAt c.in_ok-repr_info.repr_info xs) c.split_at.ensures.back
    c.in_ok-repr_info.ensures.1 in
    let n : endianness_number c.in_ok-repr_info.repr_info.endianness ≡ get_or bs 8 0 =
    i.endianness ∙ get_or-drop 4 bs 4 0 in
    let s : c.unit_in-size.result ≡ unit_in (nat_eq (get_or bs 8 0) 1) bs 0 =
    c.unit_in-size.ensures ∙ ap (λ t. unit_in t bs 0)
    (c.is_big.ensures ∙ ap (λ k. nat_eq k 1) n) in (
      header_holds c.args.any_order bs b e (subst (λ k. 24 ≤ k) s c.if-size-lt24.false),
      record { size = s; magic = (bytes_eq-Decides _ _).0 b.magic; info = i },
    )
