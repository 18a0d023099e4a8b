-- One thing more is passed, or a group or the end stands there.
use Rattle.std.proofs.Common.{arith}
use Rattle.resb_icu_files.specs.Stretches.{nothing, more}
use Rattle.resb_icu_files.proofs.stretch.pass.Goals as goal

pub stretch-preserved : goal.stretch-preserved
stretch-preserved c =
    let s = rw c.in-Past.is at c.in_ok-next.ensures in
    record {
      order = omega (arith, c.stretch.invariant.order, s.1);
      fits = s.2;
      low = s.3;
      so_far = λ to last rest. c.stretch.invariant.so_far to last
          (more _ _ _ _ _ _ s.0 rest);
    }

pub returns-in-Group : goal.returns-in-Group
returns-in-Group c = record {
  stretch = c.stretch.invariant.so_far _ _ (nothing _ _);
  order = c.stretch.invariant.order;
  fits = c.stretch.invariant.fits;
  low = c.stretch.invariant.low;
  stop = rw c.in-Group.is at c.in_ok-next.ensures;
}

pub returns-in-End : goal.returns-in-End
returns-in-End c = record {
  stretch = c.stretch.invariant.so_far _ _ (nothing _ _);
  order = c.stretch.invariant.order;
  fits = c.stretch.invariant.fits;
  low = c.stretch.invariant.low;
  stop = rw c.in-End.is at c.in_ok-next.ensures;
}
