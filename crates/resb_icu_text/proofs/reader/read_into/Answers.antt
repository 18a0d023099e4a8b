use Rattle.std.proofs.Common.{refl}
use Rattle.resb_icu_text.proofs.ReadingLemmas.{header_refused, root_over, root_begun}
use Rattle.resb_icu_text.proofs.ReadingLemmas.{memory_last, made_within, whole_root}
use Rattle.resb_icu_text.proofs.QuotaLemmas.{match_fails}
use Rattle.resb_icu_text.proofs.reader.read_into.Goals as goal

pub returns-in_err-header-clause-reads : goal.returns-in_err-header-clause-reads
returns-in_err-header-clause-reads g c =
    match_fails _ _ _ c.from_residual.ensures.1
    (header_refused _ _ _ _ c.requires.unused c.in_err-header.ensures.reads)

pub returns-in_err-take-clause-reads : goal.returns-in_err-take-clause-reads
returns-in_err-take-clause-reads g c =
    match_fails _ _ _ c.from_residual-in_err-take.ensures.1
    (root_over _ _ _ _ _ _ _ c.in_ok-header.ensures.reads.0
    c.in_err-take.ensures refl)

pub returns-in_err-root-clause-reads : goal.returns-in_err-root-clause-reads
returns-in_err-root-clause-reads g c =
    let begun = root_begun _ _ _ _ _ _ c.in_ok-header.ensures.reads.0 c.in_ok-take.ensures
    c.requires.unused in
    match_fails _ _ _ c.from_residual-in_err-root.ensures.1 (c.in_err-root.ensures.reads _ begun)

pub returns-in_err-keys-clause-reads : goal.returns-in_err-keys-clause-reads
returns-in_err-keys-clause-reads g c =
    let begun = root_begun _ _ _ _ _ _ c.in_ok-header.ensures.reads.0 c.in_ok-take.ensures
    c.requires.unused in
    match_fails _ _ _ c.from_residual-in_err-keys.ensures.1
    (memory_last _ _ _ _ _ refl (c.in_ok-root.ensures.reads.0 _ begun).stands)

pub returns-clause-reads : goal.returns-clause-reads
returns-clause-reads g c =
    let begun = root_begun _ _ _ _ _ _ c.in_ok-header.ensures.reads.0 c.in_ok-take.ensures
    c.requires.unused in
    let whole = c.in_ok-root.ensures.reads.0 _ begun in (
      rw (c.in_ok-keys.ensures.once, c.deref.ensures.value)
          (whole_root _ _ _ _ _ _ _ _ c.in_ok-header.ensures.reads.0 whole),
      c.in_ok-root.ensures.reads.1,
      made_within _ _ _ _ _ whole,
    )
