use Rattle.std.proofs.Common.{◌∙◌, inl, inr}
use Rattle.std.proofs.lemmas.Result.{err_from_is_err_and}
use Rattle.resb_format.specs.Error.{IsWantOfMemory}
use Rattle.resb_format.specs.Parts.{parts_in}
use Rattle.resb_opened.proofs.FoundLemmas.{found_there}
use Rattle.resb_opened.proofs.OpeningLemmas.{root_denoted}
use Rattle.resb_read.proofs.FilesLemmas.{linked}
use Rattle.resb_opened.proofs.opened.Opened.of.Goals as goal

pub counted-requires-clause-stands : goal.counted-requires-clause-stands
counted-requires-clause-stands c =
    let (t, d, fits) = c.in_ok-count.ensures in
    let f = c.args.file.now in
    let parts = c.parts-parts.result in (
      t,
      root_denoted (parts_in parts.file) _ parts.root _ t c.in_ok-count.count
          c.parts-parts.ensures.parts c.parts-parts.ensures.root
          ((linked f.manner f.bytes.now).roots t c.in_ok-count.count d),
    )

pub counted-requires-clause-ordered : goal.counted-requires-clause-ordered
counted-requires-clause-ordered c = λ ascends. ∣ c.in_ok-ascends.ensures.ordered ascends ∣₁

pub returns-clause-opens : goal.returns-clause-opens
returns-clause-opens c =
    let (t, d, fits) = c.in_ok-count.ensures in
    let f = c.args.file.now in
    let parts = c.parts-parts.result in
    rw (
      c.counted.ensures.tree t (root_denoted (parts_in parts.file) _ parts.root _ t
          c.in_ok-count.count c.parts-parts.ensures.parts c.parts-parts.ensures.root
          ((linked f.manner f.bytes.now).roots t c.in_ok-count.count d)),
      c.counted.ensures.count,
    ) (d, fits)

pub returns-clause-ascends : goal.returns-clause-ascends
returns-clause-ascends c = λ keys fits.
    let (t, d, less) = c.in_ok-count.ensures in
    let f = c.args.file.now in
    let parts = c.parts-parts.result in
    c.counted.ensures.ascends
    ∙ found_there (parts_in parts.file) _ parts.root _ c.in_ok-count.count _
    c.in_ok-ascends.ascends c.parts-parts.ensures.parts c.parts-parts.ensures.root
    c.in_ok-ascends.ensures.found t ((linked f.manner f.bytes.now).roots t c.in_ok-count.count d)
    keys (rw c.bytes-room.ensures fits)

pub returns-in_err-ascends-clause-opens : goal.returns-in_err-ascends-clause-opens
returns-in_err-ascends-clause-opens c =
    let (t, d, less) = c.in_ok-count.ensures in
    let f = c.args.file.now in
    let r = c.from_residual-in_err-ascends in
    let e = err_from_is_err_and r.result r.ensures.1 in
    let want : IsWantOfMemory e.0 = e.2 in
    rw e.1 (inr (
      (linked f.manner f.bytes.now).heads t c.in_ok-count.count d,
      inl want,
      λ fault. absurd (fault.not_memory want.kind_is),
    ))
