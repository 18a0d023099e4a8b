-- What a pool bundle lends, as the definitions see it.
--     lends_of l              what a value of the code says
--     lent_of o               the same, if a pool is used
use Rattle.std.specs.Prelude.{Option, Some, None}
use Rattle.resb_layout.specs.Laid as laid
use Rattle.resb_write.specs.declared.lends.Lends.{Lends}

abbrev pub lends_of : Lends → laid.Lends
lends_of l = record { own_end = l.own_end; limit = l.limit; short_limit = l.short_limit }

abbrev pub lent_of : Option Lends → Option laid.Lends
lent_of None = None
lent_of (Some l) = Some (lends_of l)
