use Rattle.std.proofs.Common.{◌≡◌, ◌++◌, [], refl, ap, sym, ◌∙◌, subst, append_assoc, append-nil}
use Rattle.std.proofs.Common.{take-append-drop}
use Rattle.std.proofs.lemmas.Bool.{eqb-true}
use Rattle.std.proofs.lemmas.List.{nil_from_length}
use Rattle.std.specs.Io.KnownBytes.{Appends}
use Rattle.std.proofs.KnownBytes.{Appends-nil, Appends-trans}
use Rattle.hex.specs.Hex.{lower_digits}
use Rattle.resb_program.proofs.HexText.{encode_with-append, encode_with-nil}
use Rattle.resb_program.proofs.streams.write_line.Goals as goal

pub pieces-init : goal.pieces-init
pieces-init g c =
    ([], refl, subst (Appends _ _) (sym (encode_with-nil lower_digits)) (Appends-nil _))

pub pieces-preserved : goal.pieces-preserved
pieces-preserved g c =
    let (front, are, done) = c.pieces.invariant in
    let rest = c.pieces.rest.now in
    let (block, others) = c.split_at.result in
    let split = c.split_at.ensures in
    let whole : block.now ++ others.now ≡ rest =
    rw (split.front, split.back) (take-append-drop c.min.result rest) in
    let written = Appends-trans _ _ _ _ _ done c.in_ok-write_block.ensures.ok in (
      front ++ block.now,
      are ∙ ap (λ s. front ++ s) (sym whole) ∙ sym (append_assoc front block.now others.now),
      subst (Appends _ _) (sym (encode_with-append lower_digits front block.now)) written,
    )

pub returns-in-Ok-clause-ok : goal.returns-in-Ok-clause-ok
returns-in-Ok-clause-ok g c =
    let (front, are, done) = c.pieces.invariant in
    let none : c.pieces.rest.now ≡ [] =
    nil_from_length _ (eqb-true _ 0 (sym c.pieces-test.ensures)) in
    let whole : c.args.file.now ≡ front = are ∙ ap (λ s. front ++ s) none ∙ append-nil front in
    rw whole (Appends-trans _ _ _ _ _ done c.in-Ok.ensures.bytes)
