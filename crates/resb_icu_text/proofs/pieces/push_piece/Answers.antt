use Rattle.std.proofs.Common.{◌≡◌, ◌<◌, ◌≤◌, ◌+◌, length, arith, rules, sym, ◌∙◌, ◌++◌, [], ◌∷◌}
use Rattle.std.proofs.Common.{encode_utf8, subst, ap, slice_index, slice_range}
use Rattle.std.specs.String.{string_bytes}
use Rattle.std.proofs.lemmas.Str.{IsCharBoundary-before_ascii, IsCharBoundary-after_ascii}
use Rattle.resb_icu_grammar.specs.Bytes.{backslash}
use Rattle.resb_icu_grammar.specs.Faults.{no_escape, escape_there}
use Rattle.resb_icu_grammar.proofs.Faults.{fault_no_end}
use Rattle.resb_icu_grammar.specs.Escapes.{Escape}
use Rattle.resb_icu_text.specs.Inner.Escaped.{bytes_of}
use Rattle.resb_icu_text.proofs.PiecesLemmas.{adds_none, adds_byte, adds_character, adds_itself}
use Rattle.resb_icu_text.proofs.PiecesLemmas.{adds_all, inside_order, inside_closes, escape_fits}
use Rattle.resb_icu_text.proofs.PiecesLemmas.{begins_behind, on_ok_added}
use Rattle.resb_icu_text.proofs.pieces.push_piece.Goals as goal

pub piece-init : goal.piece-init
piece-init c =
    let h = c.requires.inside in
    let order : c.args.from ≤ c.args.last = inside_order _ _ _ h.0 h.1 in
    record {
      order = omega arith;
      fits = order;
      begins = begins_behind c.args.text.now c.args.from c.utf8.text c.requires.opens.0
          (omega (arith, order, c.requires.within.1)) (omega (arith, c.requires.opens.1));
      adds = λ bytes h. adds_none c.args.text.now _ _ _ _ h;
    }

pub piece-preserved-in-Some-default-Some : goal.piece-preserved-in-Some-default-Some
piece-preserved-in-Some-default-Some c =
    let text = c.args.text.now in
    let at = c.piece.at in
    let next = c.in-Some-default-Some.to in
    let s : slice_index text at ≡ backslash = sym c.byte.ensures.byte ∙ c.if-byte-eq92.true in
    let x : Escape text (at + 1) next (encode_utf8 c.in-Some-default-Some.c) =
    subst (λ o. Escape text (at + 1) next (bytes_of (slice_index text (at + 1)) o))
    c.in-Some-default-Some.field-0-1-is c.in-Some-default-Some.ensures.found in
    let e : string_bytes c.push_str.new.self ≡ string_bytes c.piece.value
    ++ slice_range text c.piece.start at = search rules in
    let f : string_bytes c.push.new.self ≡ string_bytes c.push_str.new.self
    ++ encode_utf8 c.in-Some-default-Some.c = search rules in
    let h = c.requires.inside in
    let a = c.piece.invariant.adds h.0 h.1 in
    record {
      order = omega arith;
      fits = escape_fits text at next c.args.last _ a.rest s x a.inside;
      begins = begins_behind text next c.utf8.text
          (omega (arith, c.in-Some-default-Some.ensures.within.0))
          c.in-Some-default-Some.ensures.within.1
          (c.in-Some-default-Some.ensures.ascii _ c.in-Some-default-Some.field-0-1-is).1;
      adds = λ bytes h. adds_character text c.args.from c.args.last c.piece.start at next _ _ bytes
          _ _ _ s x e f (c.piece.invariant.adds bytes h);
    }

pub piece-preserved-in-Some-default-None : goal.piece-preserved-in-Some-default-None
piece-preserved-in-Some-default-None c =
    let text = c.args.text.now in
    let at = c.piece.at in
    let next = c.in-Some-default-None.to in
    let s : slice_index text at ≡ backslash = sym c.byte.ensures.byte ∙ c.if-byte-eq92.true in
    let x : Escape text (at + 1) next (slice_index text (at + 1) ∷ []) =
    subst (λ o. Escape text (at + 1) next (bytes_of (slice_index text (at + 1)) o))
    c.in-Some-default-None.field-0-1-is c.in-Some-default-None.ensures.found in
    let e : string_bytes c.push_str.new.self ≡ string_bytes c.piece.value
    ++ slice_range text c.piece.start at = search rules in
    let n : next ≡ at + 1 + 1 =
    c.in-Some-default-None.ensures.alone c.in-Some-default-None.field-0-1-is in
    let h = c.requires.inside in
    let a = c.piece.invariant.adds h.0 h.1 in
    let fits : next ≤ c.args.last = escape_fits text at next c.args.last _ a.rest s x a.inside in
    let low : at + 1 < length text = omega (arith, n, fits, c.requires.within.1) in
    record {
      order = omega (arith, n);
      fits = fits;
      begins = IsCharBoundary-after_ascii text at c.utf8.text (omega (arith, low))
          (omega (arith, s));
      adds = λ bytes h. adds_itself text c.args.from c.args.last c.piece.start at next _ _ bytes _
          s n low x e (c.piece.invariant.adds bytes h);
    }

pub unreachable-requires : goal.unreachable-requires
unreachable-requires c =
    let s : slice_index c.args.text.now c.piece.at ≡ backslash =
    sym c.byte.ensures.byte ∙ c.if-byte-eq92.true in
    let h = c.requires.inside in
    let a = c.piece.invariant.adds h.0 h.1 in
    fault_no_end c.args.text.now 0 c.piece.at c.piece.at
    (escape_there c.args.text.now (c.piece.at + 1))
    (no_escape c.piece.at s c.in-None.ensures.none) c.args.last a.rest a.inside

pub piece-preserved : goal.piece-preserved
piece-preserved c =
    let low : c.piece.at < c.args.last = c.piece-test.true in
    record {
      order = omega (arith, c.piece.invariant.order);
      fits = omega (arith, low);
      begins = c.piece.invariant.begins;
      adds = λ bytes h. adds_byte c.args.text.now c.args.from c.args.last c.piece.start c.piece.at _
          _ bytes c.piece.invariant.order low c.requires.within.1
          (λ e. c.if-byte-eq92.false (c.byte.ensures.byte ∙ e)) (c.piece.invariant.adds bytes h);
    }

pub range-requires-2-clause-end_boundary : goal.range-requires-2-clause-end_boundary
range-requires-2-clause-end_boundary c =
    let h = c.requires.inside in
    let q = inside_closes c.args.text.now c.args.from c.args.last h.0 h.1 in
    IsCharBoundary-before_ascii c.args.text.now c.args.last c.requires.within.1 (omega (arith, q))

pub returns-clause-value : goal.returns-clause-value
returns-clause-value c =
    let text = c.args.text.now in
    let h = c.requires.inside in
    let q = inside_closes text c.args.from c.args.last h.0 h.1 in
    let same : c.piece.at ≡ c.args.last =
    omega (arith, c.piece.invariant.fits, c.piece-test.false) in
    on_ok_added c.push_str-2.result _ _ _ _ c.push_str-2.ensures.bytes
    (λ e bytes h. adds_all text c.args.from c.args.last c.piece.start c.piece.at _ _ bytes _ q same
    (e ∙ ap (λ l. string_bytes c.piece.value ++ l) c.range-2.ensures.value)
    (c.piece.invariant.adds bytes h))
