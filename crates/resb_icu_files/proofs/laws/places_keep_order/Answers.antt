use Rattle.resb_icu_files.proofs.PlacesLemmas.{places_order}
use Rattle.resb_icu_files.proofs.laws.places_keep_order.Goals as goal

pub returns : goal.returns
returns c = places_order
