-- Each refusal is that of the first check that fails.
use Rattle.std.proofs.Common.{◌≡◌, inl, inr, ℕ, List, nat_eq, not, ◌≤◌, get_or, codes, slice_range}
use Rattle.std.proofs.Common.{sym, ap, subst, ◌∙◌, rules}
use Rattle.std.specs.Str.{bytes_eq}
use Rattle.std.proofs.lemmas.Bool.{not-true, not-false, le-leb}
use Rattle.resb_format.specs.Bytes.{unit_in}
use Rattle.resb_head.specs.Codes.{endianness_number, charset_number, version_bytes}
use Rattle.resb_head.proofs.HeadSteps.{Order, Families, Formats, order_stands, endianness_fails}
use Rattle.resb_head.proofs.HeadSteps.{order_fails, charset_fails, format_fails, version_fails}
use Rattle.resb_head.proofs.HeadSteps.{all_hold, endianness_small, charset_small}
use Rattle.resb_head.proofs.repr_info.BinReprInfo.read.Goals as goal
use Rattle.resb_head.proofs.repr_info.BinReprInfo.read.Goals.{else-is_big-via-else-is_big}
use Rattle.resb_head.proofs.Numbers.{not_big}
use Rattle.resb_head.proofs.Numbers.{is_big}

pub returns-in_err-endianness : goal.returns-in_err-endianness
returns-in_err-endianness c =
    let e = c.in_err-endianness.ensures in
    let h = endianness_fails c.args.any_order c.args.bytes.now c.in_err-endianness.field-0.0
    (rw (← c.byte_at.ensures) e.0) e.1 in
    search (rules, h)

pub returns-then-not-any_order : goal.returns-then-not-any_order
returns-then-not-any_order c =
    let bs : List ℕ = c.args.bytes.now in
    let n : endianness_number c.in_ok-endianness.endianness ≡ get_or bs 4 0 =
    c.in_ok-endianness.ensures ∙ c.byte_at.ensures in
    let b : c.is_big-is_big.result ≡ nat_eq (get_or bs 4 0) 1 =
    c.is_big-is_big.ensures ∙ ap (λ k. nat_eq k 1) n in
    order_fails c.args.any_order bs c.unsupported_format.result
    (is_big (get_or bs 4 0) c.is_big-is_big.result b c.if-is_big.true) c.if-not-any_order.true
    c.unsupported_format.ensures

pub returns-in_err-charset_family : goal.returns-in_err-charset_family
returns-in_err-charset_family c =
    let bs : List ℕ = c.args.bytes.now in
    let n : endianness_number c.in_ok-endianness.endianness ≡ get_or bs 4 0 =
    c.in_ok-endianness.ensures ∙ c.byte_at.ensures in
    let b : c.is_big-is_big.result ≡ nat_eq (get_or bs 4 0) 1 =
    c.is_big-is_big.ensures ∙ ap (λ k. nat_eq k 1) n in
    let o : Order c.args.any_order bs =
    order_stands c.args.any_order bs c.in_ok-endianness.endianness n
    (elim c.else-is_big.branch [
      | goal.else-is_big-via-then-is_big+else-not-any_order w ↦ inl w.if-not-any_order.false
      | else-is_big-via-else-is_big w ↦
          inr (not_big (get_or bs 4 0) c.is_big-is_big.result
          (subst (λ k. k ≤ 1) n (endianness_small c.in_ok-endianness.endianness)) b
          w.if-is_big.false)
    ]) in
    let e = c.in_err-charset_family.ensures in
    let h = charset_fails c.args.any_order bs c.in_err-charset_family.field-0.0 o
    (rw (← c.byte_at-2.ensures) e.0) e.1 in
    search (rules, h)

pub returns-then-ne : goal.returns-then-ne
returns-then-ne c =
    let bs : List ℕ = c.args.bytes.now in
    let n : endianness_number c.in_ok-endianness.endianness ≡ get_or bs 4 0 =
    c.in_ok-endianness.ensures ∙ c.byte_at.ensures in
    let b : c.is_big-is_big.result ≡ nat_eq (get_or bs 4 0) 1 =
    c.is_big-is_big.ensures ∙ ap (λ k. nat_eq k 1) n in
    let o : Order c.args.any_order bs =
    order_stands c.args.any_order bs c.in_ok-endianness.endianness n
    (elim c.else-is_big.branch [
      | goal.else-is_big-via-then-is_big+else-not-any_order w ↦ inl w.if-not-any_order.false
      | else-is_big-via-else-is_big w ↦
          inr (not_big (get_or bs 4 0) c.is_big-is_big.result
          (subst (λ k. k ≤ 1) n (endianness_small c.in_ok-endianness.endianness)) b
          w.if-is_big.false)
    ]) in
    let m : charset_number c.in_ok-charset_family.charset_family ≡ get_or bs 5 0 =
    c.in_ok-charset_family.ensures ∙ c.byte_at-2.ensures in
    let f : Families c.args.any_order bs =
    record {
      order = o;
      charset =
          le-leb (get_or bs 5 0) 1
          (subst (λ k. k ≤ 1) m (charset_small c.in_ok-charset_family.charset_family));
    } in
    format_fails c.args.any_order bs c.invalid_data.result f
    (not-true (bytes_eq (slice_range bs 8 12) (codes "ResB"))
    (sym (c.ne.ensures ∙ ap (λ xs. not (bytes_eq xs (codes "ResB"))) c.four_at-data_format.ensures)
    ∙ c.if-ne.true)) c.invalid_data.ensures

pub returns-in_err-format_version : goal.returns-in_err-format_version
returns-in_err-format_version c =
    let bs : List ℕ = c.args.bytes.now in
    let n : endianness_number c.in_ok-endianness.endianness ≡ get_or bs 4 0 =
    c.in_ok-endianness.ensures ∙ c.byte_at.ensures in
    let b : c.is_big-is_big.result ≡ nat_eq (get_or bs 4 0) 1 =
    c.is_big-is_big.ensures ∙ ap (λ k. nat_eq k 1) n in
    let o : Order c.args.any_order bs =
    order_stands c.args.any_order bs c.in_ok-endianness.endianness n
    (elim c.else-is_big.branch [
      | goal.else-is_big-via-then-is_big+else-not-any_order w ↦ inl w.if-not-any_order.false
      | else-is_big-via-else-is_big w ↦
          inr (not_big (get_or bs 4 0) c.is_big-is_big.result
          (subst (λ k. k ≤ 1) n (endianness_small c.in_ok-endianness.endianness)) b
          w.if-is_big.false)
    ]) in
    let m : charset_number c.in_ok-charset_family.charset_family ≡ get_or bs 5 0 =
    c.in_ok-charset_family.ensures ∙ c.byte_at-2.ensures in
    let f : Families c.args.any_order bs =
    record {
      order = o;
      charset =
          le-leb (get_or bs 5 0) 1
          (subst (λ k. k ≤ 1) m (charset_small c.in_ok-charset_family.charset_family));
    } in
    let g : Formats c.args.any_order bs =
    record {
      families = f;
      format =
          not-false (bytes_eq (slice_range bs 8 12) (codes "ResB"))
          (sym (c.ne.ensures
          ∙ ap (λ xs. not (bytes_eq xs (codes "ResB"))) c.four_at-data_format.ensures)
          ∙ c.if-ne.false);
    } in
    let e = c.in_err-format_version.ensures in
    let h = version_fails c.args.any_order bs c.in_err-format_version.field-0.0 g
    (λ v k. e.0 v (k ∙ sym (c.as_slice.ensures ∙ c.four_at.ensures))) e.1 in
    search (rules, h)

pub returns : goal.returns
returns c =
    let bs : List ℕ = c.args.bytes.now in
    let n : endianness_number c.in_ok-endianness.endianness ≡ get_or bs 4 0 =
    c.in_ok-endianness.ensures ∙ c.byte_at.ensures in
    let b : c.is_big-is_big.result ≡ nat_eq (get_or bs 4 0) 1 =
    c.is_big-is_big.ensures ∙ ap (λ k. nat_eq k 1) n in
    let o : Order c.args.any_order bs =
    order_stands c.args.any_order bs c.in_ok-endianness.endianness n
    (elim c.else-is_big.branch [
      | goal.else-is_big-via-then-is_big+else-not-any_order w ↦ inl w.if-not-any_order.false
      | else-is_big-via-else-is_big w ↦
          inr (not_big (get_or bs 4 0) c.is_big-is_big.result
          (subst (λ k. k ≤ 1) n (endianness_small c.in_ok-endianness.endianness)) b
          w.if-is_big.false)
    ]) in
    let m : charset_number c.in_ok-charset_family.charset_family ≡ get_or bs 5 0 =
    c.in_ok-charset_family.ensures ∙ c.byte_at-2.ensures in
    let f : Families c.args.any_order bs =
    record {
      order = o;
      charset =
          le-leb (get_or bs 5 0) 1
          (subst (λ k. k ≤ 1) m (charset_small c.in_ok-charset_family.charset_family));
    } in
    let g : Formats c.args.any_order bs =
    record {
      families = f;
      format =
          not-false (bytes_eq (slice_range bs 8 12) (codes "ResB"))
          (sym (c.ne.ensures
          ∙ ap (λ xs. not (bytes_eq xs (codes "ResB"))) c.four_at-data_format.ensures)
          ∙ c.if-ne.false);
    } in
    let v : version_bytes c.in_ok-format_version.format_version ≡ slice_range bs 12 16 =
    c.in_ok-format_version.ensures ∙ c.as_slice.ensures ∙ c.four_at.ensures in (
      all_hold c.args.any_order bs c.in_ok-format_version.format_version g v,
      record {
        size = c.unit_in.ensures ∙ ap (λ t. unit_in t bs 0) b;
        reserved_word = c.unit_in-2.ensures ∙ ap (λ t. unit_in t bs 1) b;
        endianness = n;
        charset_family = m;
        size_of_char = c.byte_at-3.ensures;
        reserved_byte = c.byte_at-4.ensures;
        data_format = c.four_at-data_format.ensures;
        format_version = v;
        data_version = c.four_at-2.ensures;
      },
    )
