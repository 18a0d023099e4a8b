-- The names before the window are below the text, those behind it above.
use Rattle.std.proofs.Common.{ℕ, ◌≡◌, ◌-◌, ◌<◌, ◌≤◌}
use Rattle.std.specs.Ordering.{nat_cmp}
use Rattle.std.specs.Cmp.Lexicographic.{slice_cmp}
use Rattle.std.specs.declared.cmp.Ordering.TheVariants.{Less, Greater}
use Rattle.resb_package.specs.Table.{count_in, name_in}
use Rattle.resb_package.proofs.package.Package.get.Given as goal

abbrev pub invariant-halves : goal.invariant-halves
invariant-halves l =
    let t = l.self.table.bytes.now in
    (l.low ≤ l.high) × (l.high ≤ count_in t)
    × ((i : ℕ) → i < l.low → slice_cmp nat_cmp (name_in t i) l.name ≡ Less)
    × ((i : ℕ) → l.high ≤ i → i < count_in t → slice_cmp nat_cmp (name_in t i) l.name ≡ Greater)

abbrev pub decreases-halves : goal.decreases-halves
decreases-halves l = l.high - l.low
