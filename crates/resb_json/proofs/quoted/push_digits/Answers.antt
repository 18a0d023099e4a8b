use Rattle.std.proofs.Common.{rules, ◌≡◌, ◌++◌, ap, sym, ◌∙◌, take-append-drop}
use Rattle.hex.specs.Hex.{encode_lower}
use Rattle.json.specs.Print.{escape}
use Rattle.resb_json.proofs.Calls.{without_error}
use Rattle.resb_json.proofs.Escaping.{AreBytes, digits_written}
use Rattle.resb_json.proofs.quoted.push_digits.Goals as goal

pub returns-clause-digits : goal.returns-clause-digits
returns-clause-digits c =
    let old = c.args.out.now.items in
    let now = c.split_at.result.0.now in
    let rest = c.split_at.result.1.now in
    let low : AreBytes now = search rules in
    let split = c.split_at.ensures in
    let whole : now ++ rest ≡ c.args.bytes.now =
    rw (split.front, split.back) (take-append-drop c.min.result c.args.bytes.now) in
    let digits : c.encode_to_slice.new.output ≡ encode_lower now =
    without_error c.encode_to_slice.result (sym c.is_err.ensures.value ∙ c.if-is_err.false)
    c.encode_to_slice.ensures.written in
    let e : c.extend_from_slice.new.self.items ≡ old ++ encode_lower now =
    c.in_ok-extend_from_slice.ensures.items ∙ ap (λ l. old ++ l) digits in
    ap (λ l. l ++ escape (encode_lower rest)) e ∙ digits_written old now rest low
    ∙ ap (λ l. old ++ escape (encode_lower l)) whole
