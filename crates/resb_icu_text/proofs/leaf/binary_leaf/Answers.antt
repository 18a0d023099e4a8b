use Rattle.std.proofs.Common.{◌≡◌, ap, arith, refl, sym, length}
use Rattle.resb_tree.proofs.ViewLemmas.{tree_of_binary}
use Rattle.resb_icu_grammar.specs.declared.group_kind.IcuKind.TheVariants.{Binary as binary_kind}
use Rattle.resb_icu_grammar.specs.Stuck.{no_digits, odd_digits, open_binary}
use Rattle.resb_icu_text.proofs.LeafLemmas.{leaf_fails, told_leaf, leaf_lacks, leaf_over, leaf_read}
use Rattle.resb_icu_text.proofs.LeafLemmas.{binary_stands, closing_at}
use Rattle.resb_icu_text.proofs.KeptLemmas.{bytes_kept}
use Rattle.resb_icu_text.proofs.Lists.{some_not_none}
use Rattle.resb_icu_text.proofs.QuotaLemmas.{none_taken, match_fails}
use Rattle.resb_icu_text.proofs.leaf.binary_leaf.Goals as goal

pub decoded-requires-clause-pairs : goal.decoded-requires-clause-pairs
decoded-requires-clause-pairs c = λ is.
    let pairs = rw c.in-Some.is at c.hex_length.ensures.pairs in
    some_not_none _ _ (pairs is).1

pub returns-in_err-found-clause-reads : goal.returns-in_err-found-clause-reads
returns-in_err-found-clause-reads c =
    match_fails _ _ _ c.from_residual.ensures.1
    (told_leaf c.args.at binary_kind _ (none_taken _) refl (no_digits _ _)
    c.in_err-found.ensures.reads)

pub returns-in_default-clause-reads : goal.returns-in_default-clause-reads
returns-in_default-clause-reads c =
    let found = c.in_ok-found.ensures.reads in
    let none = rw c.in_default.is at c.hex_length.ensures.pairs in
    leaf_fails c.args.at binary_kind _ _ _ (none_taken _) refl c.new.ensures
    (odd_digits _ _ found.string (none found))

pub returns-in_err-to-clause-reads : goal.returns-in_err-to-clause-reads
returns-in_err-to-clause-reads c =
    let found = c.in_ok-found.ensures.reads in
    let pairs = rw c.in-Some.is at c.hex_length.ensures.pairs in
    let e = c.in_err-to.ensures in
    match_fails _ _ _ c.from_residual-in_err-to.ensures.1
    (leaf_fails c.args.at binary_kind _ _ _ (none_taken _) refl e.is
    (open_binary _ _ _ found.string (some_not_none _ _ (pairs found).1) found.blanks e.none))

pub returns-in_err-take-clause-reads : goal.returns-in_err-take-clause-reads
returns-in_err-take-clause-reads c =
    let found = c.in_ok-found.ensures.reads in
    let pairs = rw c.in-Some.is at c.hex_length.ensures.pairs in
    let says = pairs found in
    match_fails _ _ _ c.from_residual-in_err-take.ensures.1
    (leaf_over c.args.at binary_kind c.in_ok-to.to _ _
    (binary_stands _ _ _ _ _ _ found.string says.1
    (closing_at _ _ _ _ found.blanks c.in_ok-to.ensures))
    c.in_err-take.ensures (omega (arith, says.2)) refl)

pub returns-in_err-bytes-clause-reads : goal.returns-in_err-bytes-clause-reads
returns-in_err-bytes-clause-reads c =
    match_fails _ _ _ c.from_residual-in_err-bytes.ensures.1
    (leaf_lacks c.args.at binary_kind _ c.in_ok-take.ensures refl)

pub returns-clause-reads : goal.returns-clause-reads
returns-clause-reads c =
    let found = c.in_ok-found.ensures.reads in
    let pairs = rw c.in-Some.is at c.hex_length.ensures.pairs in
    let says = pairs found in
    let bytes = c.in_ok-bytes.ensures.bytes found in
    let one : says.0 ≡ c.in_ok-bytes.bytes.items = cc (bytes, says.1) in
    leaf_read c.args.at binary_kind c.in_ok-to.to _ _ (sym (tree_of_binary _))
    (binary_stands _ _ _ _ _ _ found.string bytes
    (closing_at _ _ _ _ found.blanks c.in_ok-to.ensures))
    c.in_ok-take.ensures (omega (arith, says.2, ap length one)) (bytes_kept _ _ refl)
    (omega (arith, found.after, found.order, c.in_ok-to.ensures.same))
    (omega (arith, c.in_ok-to.ensures.same, c.in_ok-to.ensures.fits))
