use Rattle.std.proofs.Common.{◌≡◌, ◌<◌, ◌≤◌, ◌++◌, ◌∙◌, ◌*◌, ap, arith, lit<}
use Rattle.std.proofs.Common.{length, take, drop, IsUtf8, IsAscii}
use Rattle.std.proofs.lemmas.List.{length-set, length-take, length-drop}
use Rattle.std.proofs.lemmas.Str.{IsUtf8-from_ascii}
use Rattle.std.specs.String.{string_bytes}
use Rattle.resb_format.specs.Bytes.{units_of}
use Rattle.resb_format.proofs.Spelled.{units_length}
use Rattle.resb_walk.specs.Inner.Members.{text_of_bytes}
use Rattle.resb_walk.proofs.Lists.{front_below}
use Rattle.resb_walk.proofs.Plain.{ascii_behind, run_more}
use Rattle.resb_walk.proofs.Spelling.{further_below}
use Rattle.resb_walk.proofs.units.push_ascii.Goals as goal

pub units-preserved : goal.units-preserved
units-preserved c =
    let i = c.units.invariant in
    let us = units_of c.args.bytes.now in
    let n = c.units.count in
    let inside : n < length us = omega (arith, c.min-most.ensures, units_length c.args.bytes.now) in
    let less : n < length c.units.run = omega (arith, c.min-most.ensures, i.long) in
    let small : c.unit_at-unit.result < 128 = omega arith in record {
      within = omega arith;
      long = length-set c.units.run n c.unit_at-unit.result ∙ i.long;
      front = rw c.unit_at-unit.ensures (run_more us c.units.run n less inside i.front);
      ascii = further_below us n 128 (rw (← c.unit_at-unit.ensures) small) i.ascii;
    }

pub slice_bounds-run-end : goal.slice_bounds-run-end
slice_bounds-run-end c =
    let i = c.units.invariant in
    omega (arith, c.min-most.ensures, i.long, i.within)

pub slice_bounds-from_utf8-end : goal.slice_bounds-from_utf8-end
slice_bounds-from_utf8-end c =
    let i = c.units.invariant in
    omega (arith, c.min-most.ensures, i.long, i.within, length-take c.units.count c.units.run)

pub unreachable-requires : goal.unreachable-requires
unreachable-requires c =
    let i = c.units.invariant in
    let us = units_of c.args.bytes.now in
    let ascii : IsAscii (take c.units.count us) =
    front_below us c.units.count 128 (lit< tt) i.ascii in
    let valid : IsUtf8 (take c.units.count c.units.run) =
    rw i.front (IsUtf8-from_ascii (take c.units.count us) ascii) in
    c.in_default.ensures.cases.0 valid

pub overflow_mul-count : goal.overflow_mul-count
overflow_mul-count c =
    let i = c.units.invariant in
    omega (arith, c.min-most.ensures, i.within)

pub split_at-requires : goal.split_at-requires
split_at-requires c =
    let i = c.units.invariant in
    omega (arith, c.min-most.ensures, i.within)

pub returns-clause-all : goal.returns-clause-all
returns-clause-all c =
    let i = c.units.invariant in
    let n = c.units.count in
    let bs = c.args.bytes.now in
    let old = string_bytes c.args.text.now in
    let run = c.in-Ok.front.now in
    let rest = c.split_at.result.1.now in
    let left : rest ≡ drop (2 * n) bs = c.split_at.ensures.back in
    let front : run ≡ take n (units_of bs) = c.in-Ok.ensures.cases.0 ∙ i.front in
    let ascii : IsAscii run = rw front (front_below (units_of bs) n 128 (lit< tt) i.ascii) in
    let put : run ++ text_of_bytes rest ≡ text_of_bytes bs =
    ascii_behind bs rest run n front left ascii in
    let less : length rest ≤ length bs = omega (arith, ap length left, length-drop (2 * n) bs) in (
      (run, c.in_ok-push_str.ensures.bytes, put),
      omega (arith, units_length rest, units_length bs),
    )
