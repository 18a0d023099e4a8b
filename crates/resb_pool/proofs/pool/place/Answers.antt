use Rattle.std.proofs.Common.{ℕ, List, ◌<◌, length, sym, ap, subst, arith}
use Rattle.std.specs.List.{All, Contains}
use Rattle.std.proofs.lemmas.List.Elements.{All-append}
use Rattle.resb_pool.specs.Plan.{nows}
use Rattle.resb_pool.specs.Inner.Placing.{AreContainers, AreHidden, AreOffsets, AllClose}
use Rattle.resb_pool.proofs.Interning.{length-nows}
use Rattle.resb_pool.proofs.Endings.{hidden_too}
use Rattle.resb_pool.proofs.PlacingLemmas.{hidden_within}
use Rattle.resb_pool.proofs.PlanLemmas.{all_close, texts_few, texts_utf8}
use Rattle.resb_pool.proofs.pool.place.Goals as goal
use Rattle.resb_pool.proofs.pool.place.Goals.{In_ok-hide}

pub find_containers-requires-clause-utf8 : goal.find_containers-requires-clause-utf8
find_containers-requires-clause-utf8 c =
    let g = c.requires.given in
    texts_utf8 g.0 (nows c.args.texts.now) c.args.measures.now g.2

pub find_containers-requires-clause-few : goal.find_containers-requires-clause-few
find_containers-requires-clause-few c =
    let T = nows c.args.texts.now in
    let g = c.requires.given in
    omega (
      arith,
      length-nows c.args.texts.now,
      texts_few g.0 T c.args.measures.now g.2 g.1,
    )

-- the containers, with the hidden texts that are added to them
at : (c : In_ok-hide)
    → AreContainers c.args.packing (nows c.args.texts.now) c.hide.new.self.of.items
at c = subst (λ (z : List ℕ). AreContainers c.args.packing (nows c.args.texts.now) z)
    (ap (λ v. v.items) (sym c.hide.ensures.of)) c.in_ok-containers.ensures.containers

pub lay_records-requires-clause-containers : goal.lay_records-requires-clause-containers
lay_records-requires-clause-containers c =
    at (goal.at.lay_records-requires-clause-containers c).In_ok-hide

pub lay_records-requires-clause-hidden : goal.lay_records-requires-clause-hidden
lay_records-requires-clause-hidden c =
    let T = nows c.args.texts.now in
    let n = length-nows c.args.texts.now in
    let hs = c.in_ok-containers.containers.hidden.items in
    let old = hidden_within c.args.packing (Contains T) T hs c.in_ok-containers.ensures.hidden in
    subst (All (λ h. h < length c.args.texts.now)) (sym c.in_ok-hide.ensures.hidden)
    (All-append (λ h. h < length c.args.texts.now) hs c.args.ended.now
    (λ i d l. omega (arith, old i d l, n)) c.requires.within)

pub find_offsets-requires-clause-close : goal.find_offsets-requires-clause-close
find_offsets-requires-clause-close c =
    let T = nows c.args.texts.now in
    let ms = c.args.measures.now in
    let g = c.requires.given in
    let now = c.hide.new.self in
    let hs = now.of.items in
    let es = c.in_ok-block.block.ends.items in
    let b = c.in_ok-block.ensures in
    subst (λ (z : List ℕ). AllClose z ms c.deref-2.result.now) (sym c.deref.ensures.value)
    (subst (AllClose hs ms) (sym c.deref-2.ensures.value)
    (all_close c.args.packing g.0 T ms g.2 g.1 hs
    (at (goal.at.find_offsets-requires-clause-close c).In_ok-hide) now.hidden.items b.sums b.lying
    b.rows b.records b.each es b.len b.ends))

pub returns : goal.returns
returns c = λ A ended.
    let T = nows c.args.texts.now in
    let ms = c.args.measures.now in
    let now = c.hide.new.self in
    let hs = now.of.items in
    let es = c.in_ok-block.block.ends.items in
    let os = c.in_ok-offsets.offsets.items in
    record {
      containers = hs;
      hidden = now.hidden.items;
      ends = es;
      containers_are = at (goal.at.returns c).In_ok-hide;
      hidden_are = subst (AreHidden c.args.packing (Contains A) T)
          (sym c.in_ok-hide.ensures.hidden)
          (hidden_too c.args.packing A T c.in_ok-containers.containers.hidden.items
          c.args.ended.now c.in_ok-containers.ensures.hidden
          (λ i d l. omega (arith, c.requires.within i d l, length-nows c.args.texts.now)) ended);
      block = c.in_ok-block.ensures;
      offsets_are = subst (λ (z : List ℕ). AreOffsets z ms es os) c.deref.ensures.value
          (subst (λ (z : List ℕ). AreOffsets c.deref.result.now ms z os) c.deref-2.ensures.value
          c.in_ok-offsets.ensures);
    }
