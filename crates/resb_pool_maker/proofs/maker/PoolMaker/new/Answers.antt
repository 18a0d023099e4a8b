use Rattle.std.proofs.Common.{[], sym, subst}
use Rattle.resb_pool_maker.specs.Holding.{AreGifts, no_gifts}
use Rattle.resb_pool_maker.proofs.maker.PoolMaker.new.Goals as goal

pub returns : goal.returns
returns c = subst (AreGifts []) (sym c.new.ensures.items) no_gifts
