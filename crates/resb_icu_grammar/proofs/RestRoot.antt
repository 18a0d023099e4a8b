-- A bundle's text is a header, the entries of its root, and what stands behind
-- these.
use Rattle.std.proofs.Common.{◌≡◌, ℕ, Bool, List, [], length}
use Rattle.std.proofs.Common.{subst, ap, arith}
use Rattle.resb_tree.specs.Tree.{Tree}
use Rattle.resb_icu_grammar.specs.Blanks.{Skip}
use Rattle.resb_icu_grammar.specs.Groups.{Entries}
use Rattle.resb_icu_grammar.specs.Inner.Rest.{RestOfEntries}
use Rattle.resb_grammar.specs.BundleText.{first_places}
use Rattle.resb_icu_grammar.specs.Bundle.{Header, Ending, IcuText}
use Rattle.resb_icu_grammar.specs.Inner.Rest.{AtEnd}
use Rattle.resb_icu_grammar.proofs.Groups.{Header-one}
use Rattle.resb_icu_grammar.proofs.RestLists.{entries_distinct}

-- nothing but blanks may stand behind a bundle
pub nothing_behind : (text : List ℕ) (from : ℕ) → Skip text from (length text) → Ending text from
nothing_behind text from k = record {
  to = length text;
  before = k;
  free = λ n low high. absurd (omega (arith, low, high));
}

-- where a bundle's text has this header, its entries follow, and what stands behind it
pub root_follows : (text name : List ℕ) (f : Bool) (a : ℕ) (t : Tree) (ks : List (List ℕ))
    → Header text name f a → RestOfEntries text (AtEnd text) [] a [] (t, ks)
    → IcuText text name f t (first_places ks)
root_follows text name f a t ks head h = record {
  first = a;
  last = h.to;
  entries = h.more;
  places = h.keys;
  header = head;
  body = h.entries;
  closes = h.closes;
  after = h.then.after;
  means = ap (λ m. m.0) h.then.means;
  lists = ap (λ m. first_places m.1) h.then.means;
}

-- a bundle's text with this header is one of these entries
pub follows_root : (text name other : List ℕ) (f g : Bool) (a : ℕ) (t : Tree)
    (ks : List (List ℕ)) → Header text name f a → IcuText text other g t ks
    → (other ≡ name) × (g ≡ f) × (places : List (List ℕ))
    × RestOfEntries text (AtEnd text) [] a [] (t, places) × (ks ≡ first_places places)
follows_root text name other f g a t ks head h =
    let same = Header-one text other name g f h.first a h.header head in
    let body : Entries text a h.last h.entries h.places =
    subst (λ n. Entries text n h.last h.entries h.places) same.2 h.body in (
      same.0,
      same.1,
      h.places,
      record {
        to = h.last;
        more = h.entries;
        keys = h.places;
        entries = body;
        closes = h.closes;
        distinct = entries_distinct text a h.last h.entries h.places body;
        then = record { after = h.after; means = ap (λ r. (r, h.places)) h.means };
      },
      h.lists,
    )
