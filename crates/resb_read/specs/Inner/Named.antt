-- The places of the named deserializers.
use Rattle.resb_format.specs.Parts.{parts_in}
use Rattle.resb_read.specs.Places.{Place}
use Rattle.resb_read.specs.declared.cursor.Spot.TheVariants as spot
use Rattle.resb_read.specs.declared.named.Resource16BitDeserializer.{Resource16BitDeserializer}
use Rattle.resb_read.specs.declared.named.IntVectorDeserializer.{IntVectorDeserializer}
use Rattle.resb_read.specs.declared.named.KeyDeserializer.{KeyDeserializer}

-- the place of a member of 16 bits
abbrev pub unit_place : Resource16BitDeserializer → Place
unit_place d = record { parts = parts_in d.file; at = spot.Unit d.unit }

-- the place of a number of a vector
abbrev pub word_place : IntVectorDeserializer → Place
word_place d = record { parts = parts_in d.file; at = spot.Word d.word }

-- the place of a key
abbrev pub key_place : KeyDeserializer → Place
key_place d = record { parts = parts_in d.file; at = spot.Key d.position }
