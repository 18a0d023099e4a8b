-- The plain size is within what is counted, and is counted where that is too much.
use Rattle.std.proofs.Common.{◌≡◌, ◌+◌, ◌-◌, ◌^◌, ℕ, min, nat_lt, sym, ap, arith}
use Rattle.std.proofs.lemmas.Bool.{lt-ltb}
use Rattle.std.proofs.lemmas.Bool.Decides.{nat_tests}
use Rattle.resb_layout.specs.PlainSize.{list_size, resources_size}
use Rattle.resb_pool.specs.Plan.{nows}
use Rattle.resb_write.specs.Inner.Gathered.{units_in}
use Rattle.resb_write.proofs.Gathering.{sizes_split}
use Rattle.resb_write.proofs.limits.is_small.Goals as goal

same_test : (m n : ℕ) → m ≡ min n (2 ^ 64 - 1) → nat_lt m 268435456 ≡ nat_lt n 268435456
same_test m n e = grind (arith, nat_tests)

pub returns-then-saturating_add-lt-SIZE_LIMIT : goal.returns-then-saturating_add-lt-SIZE_LIMIT
returns-then-saturating_add-lt-SIZE_LIMIT c = λ ts g.
    sym (lt-ltb (list_size c.args.list.now + resources_size ts) 268435456 (omega (
      arith,
      c.if-saturating_add-lt-SIZE_LIMIT.true,
      c.saturating_add.ensures,
      c.saturating_add-others.ensures,
      c.listed_size.ensures,
      g.size_is,
      g.bytes_are,
      g.bytes_suffice,
      sizes_split ts,
    )))

pub returns : goal.returns
returns c = λ ts g.
    same_test c.saturating_add-2.result (list_size c.args.list.now + resources_size ts) (omega (
      arith,
      c.saturating_add-2.ensures,
      c.saturating_add-others.ensures,
      c.listed_size.ensures,
      c.unit_total.ensures,
      ap (λ l. units_in (nows l)) c.deref.ensures.value,
      ap units_in g.texts_are,
      g.size_is,
      sizes_split ts,
    ))
