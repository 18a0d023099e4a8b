use Rattle.resb_tree.proofs.MapsLemmas.{get-put, IsMap-put, same_map}
use Rattle.resb_tree.proofs.laws.tables_are_finite_maps.Goals as goal

pub returns : goal.returns
returns c = record { found = get-put; ordered = IsMap-put; equal = same_map }
