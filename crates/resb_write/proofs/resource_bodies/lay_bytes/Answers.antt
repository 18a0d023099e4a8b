use Rattle.std.proofs.Common.{◌≡◌, ◌+◌, ◌++◌, [], ℕ, length, sym, ◌∙◌, ap, subst, arith}
use Rattle.std.specs.Int.{to_le_bytes, w32}
use Rattle.std.proofs.lemmas.Bool.{eqb-true, eqb-false}
use Rattle.resb_tree.specs.Tree.{binary}
use Rattle.resb_layout.specs.Laid.{LaysBy, lays_no_bytes, fill, to_data, to_word}
use Rattle.resb_write.specs.Inner.Lending.{lent_of}
use Rattle.resb_write.specs.Inner.Room.{at_base, laid_of}
use Rattle.std.proofs.lemmas.List.{nil_from_length}
use Rattle.resb_write.proofs.Closings.{bytes_laid}
use Rattle.resb_write.proofs.resource_bodies.lay_bytes.Goals as goal

pub returns-then-is_empty-clause-lays : goal.returns-then-is_empty-clause-lays
returns-then-is_empty-clause-lays c =
    let z : c.args.bytes.now ≡ [] =
    nil_from_length c.args.bytes.now (eqb-true (length c.args.bytes.now) 0 (sym c.is_empty.ensures
    ∙ c.if-is_empty.true)) in
    subst (λ ns. LaysBy (lent_of c.args.ground.now.lent) (at_base c.args.ground.now.base)
    (laid_of c.args.bodies.now) (binary ns)
    (laid_of c.args.bodies.now) c.word.result) (sym z)
    (subst (LaysBy (lent_of c.args.ground.now.lent) (at_base c.args.ground.now.base)
    (laid_of c.args.bodies.now) (binary [])
    (laid_of c.args.bodies.now)) (sym c.word.ensures) lays_no_bytes)

pub returns-clause-lays : goal.returns-clause-lays
returns-clause-lays c =
    let n = eqb-false (length c.args.bytes.now) 0 (sym c.is_empty.ensures ∙ c.if-is_empty.false) in
    let t = c.args.bodies.now.tail.items in
    let h : ℕ = c.args.ground.now.base + length t in
    let l : c.len.result ≡ length t = c.len.ensures ∙ c.args.bodies.now.tail.ok.0 in
    let skip = ap (λ k. to_data (c.args.ground.now.base + k)) l in
    let e1 : c.put_fill.new.tail.items ≡ t ++ fill (to_data h) = c.in_ok-put_fill.ensures
    ∙ ap (λ k. t ++ fill k) skip in
    let e2 = c.in_ok-put_word.ensures ∙ ap (λ x. x ++ to_le_bytes w32 (length c.args.bytes.now))
    e1 in
    let e3 = c.in_ok-extend_from_slice.ensures.items ∙ ap (λ x. x ++ c.args.bytes.now) e2 in
    bytes_laid (lent_of c.args.ground.now.lent) (at_base c.args.ground.now.base)
    (laid_of c.args.bodies.now) c.args.bytes.now
    c.put_fill-2.new.tail.items c.word-2.result c.tail_value-at.result
    (omega (arith, n)) (omega (arith, c.requires.bytes)) (omega (
      arith,
      c.tail_value-at.ensures.at,
      ap length c.deref.ensures.value,
      l,
    )) c.tail_value-at.ensures.fits
    (c.in_ok-put_fill-2.ensures ∙ ap (λ x. x ++ fill (to_word (length c.args.bytes.now))) e3)
    c.word-2.ensures
