use Rattle.std.proofs.Common.{◌≡◌, ◌∙◌, ◌++◌, ◌∷◌, [], ap, sym, append_assoc}
use Rattle.json.specs.Print.{escape_byte}
use Rattle.resb_json.proofs.Calls.{extended}
use Rattle.resb_json.proofs.Escaping.{escaped_by_letter, escaped_by_number}
use Rattle.resb_json.proofs.quoted.push_escape.Goals as goal

pub returns-in-Some : goal.returns-in-Some
returns-in-Some c =
    let old = c.args.out.now.items in
    let start = c.extend_from_slice.new.self.items in
    let letter = c.in-Some.letter in
    extended c.extend_from_slice-in-Some.result c.extend_from_slice-in-Some.new.self.items start
    (letter ∷ []) (old ++ escape_byte c.args.byte) c.extend_from_slice-in-Some.ensures.items
    (ap (λ l. l ++ letter ∷ []) c.in_ok-extend_from_slice.ensures.items
    ∙ append_assoc old (92 ∷ []) (letter ∷ [])
    ∙ ap (λ l. old ++ l) (sym (escaped_by_letter c.args.byte letter c.in-Some.ensures.0
    c.in-Some.ensures.1)))

pub returns-in_ok-extend_from_slice-in-None : goal.returns-in_ok-extend_from_slice-in-None
returns-in_ok-extend_from_slice-in-None c =
    let old = c.args.out.now.items in
    let high = c.hex_digit.result in
    let low = c.hex_digit-in-None.result in
    let start = c.extend_from_slice.new.self.items in
    let zeros = c.extend_from_slice-in-None.new.self.items in
    let digits = high ∷ low ∷ [] in
    let e : zeros ≡ (old ++ 92 ∷ []) ++ 117 ∷ 48 ∷ 48 ∷ [] =
    c.in_ok-extend_from_slice-in-None.ensures.items
    ∙ ap (λ l. l ++ 117 ∷ 48 ∷ 48 ∷ []) c.in_ok-extend_from_slice.ensures.items in
    let f : 92 ∷ 117 ∷ 48 ∷ 48 ∷ digits ≡ escape_byte c.args.byte =
    (λ i. 92 ∷ 117 ∷ 48 ∷ 48 ∷ c.hex_digit.ensures i ∷ c.hex_digit-in-None.ensures i ∷ [])
    ∙ sym (escaped_by_number c.args.byte c.in-None.ensures c.requires) in
    extended c.extend_from_slice-in-None-2.result c.extend_from_slice-in-None-2.new.self.items
    zeros digits (old ++ escape_byte c.args.byte) c.extend_from_slice-in-None-2.ensures.items
    (ap (λ l. l ++ digits) e
    ∙ append_assoc (old ++ 92 ∷ []) (117 ∷ 48 ∷ 48 ∷ []) digits
    ∙ append_assoc old (92 ∷ []) (117 ∷ 48 ∷ 48 ∷ digits)
    ∙ ap (λ l. old ++ l) f)
