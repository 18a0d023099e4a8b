-- A zone of what its entries say, and why there is none.
use Rattle.std.proofs.Common.{ℕ, List, ◌≡◌, ◌+◌, ◌⊎◌, inl, inr, Some, None, length, refl, sym}
use Rattle.std.proofs.Common.{subst, ◌∙◌}
use Rattle.std.specs.List.{All}
use Rattle.std.proofs.lemmas.Option.{same_Some}
use Rattle.resb.specs.Places.{Place}
use Rattle.resb.specs.Sequences.{entries_at}
use Rattle.resb_examples.specs.Zones.{base_name, pairs_name, ReadsNumber, IsNamed, ReadsZone}
use Rattle.resb_examples.specs.Zones.{CountsZone}
use Rattle.resb_examples.specs.Inner.Fields.{ReadsPairView, LastSoFar, HasSeen}
use Rattle.resb_examples.specs.declared.zones.fields.Fields.{Fields}
use Rattle.resb_examples.specs.declared.zones.zone.Zone.{Zone}
use Rattle.resb_examples.proofs.Fronts.{none_is_last}

module _ (p : Place) (places : List (Place
    × Place)) (are : entries_at p ≡ Some places) (f : Fields) (seen : HasSeen places f) where
  pub zone_is : (z : Zone) → f.base ≡ Some z.base → f.pairs ≡ Some z.pairs
      → ReadsZone p z (1 + length places)
  zone_is z base pairs =
      let (q, last, k, value) = subst (LastSoFar base_name ReadsNumber places) base seen.base in
      let (r, last', k', value') =
      subst (LastSoFar pairs_name ReadsPairView places) pairs seen.pairs in
      record {
        places = places;
        are = are;
        each = seen.each;
        base = q;
        base_last = last;
        base_read = (k, value);
        pairs = r;
        pairs_last = last';
        pairs_read = (k', value');
        count = refl;
      }

  pub no_zone : (f.base ≡ None) ⊎ (f.pairs ≡ None) → (n : ℕ) → CountsZone p n → ⊥
  no_zone (inl none) n h =
      let same : places ≡ h.places = same_Some _ _ (sym are ∙ h.are) in
      let lacks = subst (LastSoFar base_name ReadsNumber places) none seen.base in
      none_is_last base_name h.places h.base (subst (All (λ e. IsNamed base_name e
      → ⊥)) same lacks) h.base_last
  no_zone (inr none) n h =
      let same : places ≡ h.places = same_Some _ _ (sym are ∙ h.are) in
      let lacks = subst (LastSoFar pairs_name ReadsPairView places) none seen.pairs in
      none_is_last pairs_name h.places h.pairs (subst (All (λ e. IsNamed pairs_name e
      → ⊥)) same lacks) h.pairs_last
