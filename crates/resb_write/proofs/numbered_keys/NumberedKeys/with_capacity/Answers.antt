use Rattle.std.proofs.Common.{◌<◌, [], length, refl, sym, ap, subst}
use Rattle.std.specs.Map.{keys_of}
use Rattle.std.specs.Option.{is_some}
use Rattle.std.proofs.lemmas.List.Elements.{All-nil}
use Rattle.resb_pool.specs.Plan.{nows}
use Rattle.resb_pool.proofs.PlacingLemmas.{at_empty}
use Rattle.resb_write.specs.Inner.Numbered.{AreNumbered}
use Rattle.resb_write.proofs.numbered_keys.NumberedKeys.with_capacity.Goals as goal

pub returns : goal.returns
returns c = record {
  among = λ q. ap is_some (at_empty c.new.result q c.new.ensures.empty);
  numbers = subst (λ ns. AreNumbered (nows (keys_of c.new.result.entries)) ns [])
      (sym c.in_ok-with_capacity.ensures.items) (record {
        within = All-nil (λ n. n < length (nows (keys_of c.new.result.entries)));
        are = refl;
      });
}
