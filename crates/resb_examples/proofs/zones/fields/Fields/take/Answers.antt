use Rattle.std.proofs.Common.{rules, ◌≡◌, ◌≤◌, ◌+◌, ℕ, Some, sym, ap, ◌∙◌, arith}
use Rattle.std.proofs.lemmas.Int.{to_z-of_z}
use Rattle.std.proofs.lemmas.Slice.Eq.{bytes_eq-Decides}
use mir.Syntax.{w32}
use mir.Val.{SFits}
use Rattle.resb.specs.Places.{place_of}
use Rattle.resb.specs.Spots.{cost_at}
use Rattle.resb.specs.Views.{pair_bytes}
use Rattle.resb_examples.specs.Zones.{base_name, pairs_name, IsReadable}
use Rattle.resb_examples.specs.Inner.Fields.{entry_of, ReadsPairView}
use Rattle.resb_examples.proofs.Costs.{key_is_free, number_costs, view_costs}
use Rattle.resb_examples.proofs.Costs.{lacks_base, lacks_pairs}
use Rattle.resb_examples.proofs.Takings.{takes_base, takes_pairs, takes_other}
use Rattle.resb_examples.proofs.Lists.{OnErr_from, other_text}
use Rattle.resb_examples.proofs.zones.fields.Fields.take.Goals as goal

pub returns-in_err-base-clause-refused : goal.returns-in_err-base-clause-refused
returns-in_err-base-clause-refused c =
    let left = c.read_str.new.walk in
    let name = c.in_ok-name.name.now in
    let entry = entry_of c.args.key c.args.value in
    let (k, key, paid) = c.in_ok-name.ensures in
    let (falls, lacks, why) = c.in_err-base.ensures in
    let free : k ≡ 0 = key_is_free (place_of c.args.key) k (name, key) in
    let is : name ≡ base_name = (bytes_eq-Decides _ _).0 (sym c.if-eq.ensures) in
    let T : Type 0 = (c.read_i32.new.walk ≤ c.args.walk.now)
    × (IsReadable entry → c.args.walk.now ≡ 0) in
    let fell : c.read_i32.new.walk ≤ c.args.walk.now = omega (arith, paid, falls) in
    let spent : IsReadable entry → c.args.walk.now ≡ 0 =
    λ readable.
    let none : left ≡ 0 = lacks_base entry left name k c.requires key is lacks readable in
    omega (arith, paid) in
    OnErr_from _ T (fell, spent)

pub returns-in_err-pairs-clause-refused : goal.returns-in_err-pairs-clause-refused
returns-in_err-pairs-clause-refused c =
    let left = c.read_str.new.walk in
    let name = c.in_ok-name.name.now in
    let entry = entry_of c.args.key c.args.value in
    let (k, key, paid) = c.in_ok-name.ensures in
    let (falls, lacks, why) = c.in_err-pairs.ensures in
    let free : k ≡ 0 = key_is_free (place_of c.args.key) k (name, key) in
    let is : name ≡ pairs_name = (bytes_eq-Decides _ _).0 (sym c.if-eq-2.ensures) in
    let T : Type 0 = (c.i32_tuple.new.walk ≤ c.args.walk.now)
    × (IsReadable entry → c.args.walk.now ≡ 0) in
    let fell : c.i32_tuple.new.walk ≤ c.args.walk.now = omega (arith, paid, falls) in
    let spent : IsReadable entry → c.args.walk.now ≡ 0 =
    λ readable.
    let none : left ≡ 0 = lacks_pairs entry left name k c.requires key is lacks readable in
    omega (arith, paid) in
    OnErr_from _ T (fell, spent)

pub returns-in_err-skip-clause-refused : goal.returns-in_err-skip-clause-refused
returns-in_err-skip-clause-refused c =
    let name = c.in_ok-name.name.now in
    let entry = entry_of c.args.key c.args.value in
    let (k, key, paid) = c.in_ok-name.ensures in
    let (why, short, same) = c.in_err-skip.ensures in
    let free : k ≡ 0 = key_is_free (place_of c.args.key) k (name, key) in
    let costs : cost_at c.args.value.at ≡ 1 = c.requires.1 in
    let T : Type 0 = (c.skip.new.walk ≤ c.args.walk.now)
    × (IsReadable entry → c.args.walk.now ≡ 0) in
    let fell : c.skip.new.walk ≤ c.args.walk.now = omega (arith, paid, same) in
    OnErr_from _ T (fell, λ readable. omega (arith, paid, short, costs, free))

pub returns-clause-read : goal.returns-clause-read
returns-clause-read c =
    let left = c.read_str.new.walk in
    let name = c.in_ok-name.name.now in
    let at = place_of c.args.value in
    let entry = entry_of c.args.key c.args.value in
    let old = c.args.self.now in
    let new = c.if-eq.self in
    let (k, key, paid) = c.in_ok-name.ensures in
    let free : k ≡ 0 = key_is_free (place_of c.args.key) k (name, key) in
    let costs : cost_at c.args.value.at ≡ 1 = c.requires.1 in
    elim c.if-eq.branch [
      | goal.then-eq+in_ok-base w ↦
          let x = w.in_ok-base.base in
          let (n, value, fell) = w.in_ok-base.ensures in
          let one : n ≡ 1 = number_costs at n costs (x, value) in
          let is : name ≡ base_name = (bytes_eq-Decides _ _).0 (sym w.if-eq.ensures) in
          let fits : SFits w32 x = search rules in
          let base : new.base ≡ Some x = ap (λ f. f.base) w.self-is
          ∙ ap Some (to_z-of_z w32 x fits) in
          let taken =
          takes_base entry name k key old new x n value is base (ap (λ f. f.pairs) w.self-is) in
          (taken, omega (arith, paid, fell, w.walk-is))
      | goal.else-eq+then-eq-2+in_ok-pairs w ↦
          let v = w.in_ok-pairs.pairs in
          let got : (n : ℕ) × ReadsPairView at v n
          × (w.i32_tuple.new.walk + n ≡ left) = w.in_ok-pairs.ensures in
          let (n, value, fell) = got in
          let one : n ≡ 1 = view_costs 8 at n costs (pair_bytes v, value) in
          let is : name ≡ pairs_name = (bytes_eq-Decides _ _).0 (sym w.if-eq-2.ensures) in
          let pairs : new.pairs ≡ Some v = ap (λ f. f.pairs) w.self-is in
          let taken =
          takes_pairs entry name k key old new v n value is pairs (ap (λ f. f.base) w.self-is) in
          (taken, omega (arith, paid, fell, w.walk-is))
      | goal.else-eq+else-eq-2+in_ok-skip w ↦
          let no_base : name ≡ base_name → ⊥ = other_text _ _ w.if-eq.ensures in
          let no_pairs : name ≡ pairs_name → ⊥ = other_text _ _ w.if-eq-2.ensures in
          let fell : w.skip.new.walk + cost_at c.args.value.at ≡ left = w.in_ok-skip.ensures in
          let taken = takes_other entry name k key old new no_base no_pairs w.self-is in
          (taken, omega (arith, paid, fell, w.walk-is))
    ]
