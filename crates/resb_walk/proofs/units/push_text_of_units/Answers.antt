use Rattle.std.proofs.Common.{◌≡◌, ◌++◌, [], ap, ◌∙◌, encode_utf8_all}
use Rattle.std.proofs.Math.Utf8.{encode}
use Rattle.std.proofs.lemmas.Result.{err_from_is_err_and}
use Rattle.std.specs.String.{string_bytes}
use Rattle.resb_walk.specs.Inner.Members.{text_of_bytes}
use Rattle.resb_walk.proofs.Fronting.{puts_more, puts_both, puts_all}
use Rattle.resb_walk.proofs.Surrogates.{no_units_no_chars}
use Rattle.resb_walk.proofs.units.push_text_of_units.Goals as goal

pub returns-in_err-rest-clause-front : goal.returns-in_err-rest-clause-front
returns-in_err-rest-clause-front c =
    let e = err_from_is_err_and c.from_residual-in_err-rest.result
    c.from_residual-in_err-rest.ensures.1 in
    let split : text_of_bytes c.chars.rest.now
    ≡ encode c.in-Some.first ++ text_of_bytes c.in-Some.later.now =
    ap encode_utf8_all c.in-Some.ensures.0 in
    let put = c.in_err-rest.ensures.stays ∙ c.in_ok-push.ensures.bytes in
    rw e.1 (
      text_of_bytes c.in-Some.later.now,
      puts_more (string_bytes c.args.text.now)
          (string_bytes c.chars.text) (string_bytes c.push_ascii.new.text)
          (text_of_bytes c.args.bytes.now) (encode c.in-Some.first)
          (text_of_bytes c.in-Some.later.now)
          (text_of_bytes c.chars.rest.now) c.chars.invariant split put,
    )

pub chars-preserved-in_ok-rest : goal.chars-preserved-in_ok-rest
chars-preserved-in_ok-rest c =
    let split : text_of_bytes c.chars.rest.now
    ≡ encode c.in-Some.first ++ text_of_bytes c.in-Some.later.now =
    ap encode_utf8_all c.in-Some.ensures.0 in
    puts_both (string_bytes c.args.text.now) (string_bytes c.push.new.self)
    (string_bytes c.push_ascii.new.text) (text_of_bytes c.args.bytes.now)
    (text_of_bytes c.in-Some.later.now) (text_of_bytes c.in_ok-rest.rest.now)
    (puts_more (string_bytes c.args.text.now) (string_bytes c.chars.text)
    (string_bytes c.push.new.self) (text_of_bytes c.args.bytes.now) (encode c.in-Some.first)
    (text_of_bytes c.in-Some.later.now) (text_of_bytes c.chars.rest.now) c.chars.invariant split
    c.in_ok-push.ensures.bytes)
    c.in_ok-rest.ensures.all.0

pub returns-clause-all : goal.returns-clause-all
returns-clause-all c =
    let none : text_of_bytes c.chars.rest.now ≡ [] =
    ap encode_utf8_all (no_units_no_chars _ c.in_default.ensures) in
    puts_all (string_bytes c.args.text.now) (string_bytes c.chars.text)
    (text_of_bytes c.args.bytes.now) (text_of_bytes c.chars.rest.now) c.chars.invariant none
