use Rattle.std.proofs.Common.{◌≡◌, map, string_bytes, ap, sym, codes, ◌∙◌}
use Rattle.std.proofs.lemmas.Slice.Eq.{bytes_eq-Decides}
use Rattle.resb_program.proofs.Lists.{two_words, three_words}
use Rattle.resb_program.proofs.command.command_of.Goals as goal

pub returns-in-len2 : goal.returns-in-len2
returns-in-len2 c =
    let word = c.word-item in
    let input = c.input-item in
    let size = c.in-len2 in
    let words = c.args.words.now in
    let are =
    two_words words word.result input.result size.len_at_least size.len_below word.is input.is in
    let is : string_bytes word.result ≡ codes "check" = sym c.as_str.ensures.value
    ∙ (bytes_eq-Decides _ _).0 (sym c.if-eq.ensures) in
    let named = sym c.as_str-in-len2.ensures.value in
    let all = ap (map string_bytes) are in
    rw (is, named) at all

pub returns-in-len3 : goal.returns-in-len3
returns-in-len3 c =
    let word = c.word-item-then-words-lt4 in
    let input = c.input-item-then-words-lt4 in
    let output = c.output-item in
    let size = c.in-len3 in
    let words = c.args.words.now in
    let are =
    three_words words word.result input.result output.result size.len_at_least size.len_below
    word.is input.is output.is in
    let is : string_bytes word.result ≡ codes "compile" =
    sym c.as_str-then-words-lt4.ensures.value ∙ (bytes_eq-Decides _ _).0 (sym c.if-eq-2.ensures) in
    let from = sym c.as_str-in-len3.ensures.value in
    let to = sym c.as_str-in-len3-2.ensures.value in
    let all = ap (map string_bytes) are in
    rw (is, from, to) at all
