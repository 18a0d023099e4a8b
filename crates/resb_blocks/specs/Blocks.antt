-- The blocks of which something is known.
use Rattle.std.specs.Prelude.{ℕ, List}
use Rattle.resb_blocks.specs.declared.breaks.Breaks.{Breaks}
use Rattle.resb_blocks.specs.declared.tails.LongTails.{LongTails}
use Rattle.resb_blocks.specs.declared.widths.Widths.{Widths}

-- the block whose breaks these are
abbrev pub breaks_block : Breaks → List ℕ
breaks_block b = b.block.now

-- the key block whose tails these are
abbrev pub tails_keys : LongTails → List ℕ
tails_keys t = t.keys.now

-- the block whose units' widths these are
abbrev pub widths_block : Widths → List ℕ
widths_block w = w.block.now
