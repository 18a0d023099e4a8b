-- What a value of the code shows of a file.
use Rattle.resb_swap.specs.Numbers.{Numbered}
use Rattle.resb_swap.specs.declared.body.Body.{Body}

-- the file whose body this is
abbrev pub seen : Body → Numbered
seen b = record { bytes = b.bytes.now; start = b.start; big = b.is_big }
