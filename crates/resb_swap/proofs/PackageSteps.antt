-- A package that is swapped item by item.
use Rattle.std.proofs.Common.{◌≡◌, ℕ, zero, suc, ◌+◌, ◌-◌, ◌<◌, ◌≤◌, ◌++◌, List, length}
use Rattle.std.proofs.Common.{take, drop, sym, ap, ◌∙◌, arith, get_or, subst}
use Rattle.std.proofs.Common.{length-drop}
use Rattle.std.proofs.lemmas.List.{length-append, length-take, take-append-le, drop-append-le}
use Rattle.std.proofs.Math.ListN.{get_or-append}
use Rattle.std.proofs.Math.Seq.{take-length, drop-append_seam}
use Rattle.resb_swap.specs.Numbers.{Numbered, numbered}
use Rattle.resb_swap.specs.Packages.{item_count, item_place, item_of, IsPackageHead, TableRoles}
use Rattle.resb_swap.specs.Packages.{IsSwappedItem, IsSwappedPackage}
use Rattle.resb_swap.specs.PackageFaults.{IsPackageFault, IsItemFault}
use Rattle.resb_swap.specs.Inner.Tables.{Swapping, AreItemsInPlace, AreNamesInPlace}
use Rattle.resb_swap.specs.declared.role.Role.{Role}
use Rattle.resb_swap.specs.declared.package_error.PackageSwapError.{PackageSwapError}
use Rattle.resb_swap.specs.declared.package_error.PackageSwapError.TheVariants as error
use Rattle.resb_swap.proofs.PackageLemmas.{last_place, one_more}

-- places ascend by so many items
pub ascend_by : (f : Numbered) → AreItemsInPlace f → (i n : ℕ) → i + n ≤ item_count f
    → item_place f i ≤ item_place f (i + n)
ascend_by f h i zero le = let e : i + zero ≡ i = omega arith in
    subst (λ (m : ℕ). item_place f i ≤ item_place f m) (sym e) (omega arith)
ascend_by f h i (suc n) le =
    let before = ascend_by f h i n (omega (arith, le)) in
    let next = (h (i + n) (omega (arith, le))).order in
    let e : i + n + 1 ≡ i + suc n = omega arith in
    subst (λ (m : ℕ). item_place f i ≤ item_place f m) e (omega (arith, before, next))

pub ascend_to : (f : Numbered) → AreItemsInPlace f → (i j : ℕ) → i ≤ j → j ≤ item_count f
    → item_place f i ≤ item_place f j
ascend_to f h i j le top =
    let e : i + (j - i) ≡ j = omega arith in
    subst (λ (m : ℕ). item_place f i ≤ item_place f m) e (ascend_by f h i (j - i) (omega (
      arith,
      le,
      top,
    )))

-- each item begins inside the file
pub place_inside : (f : Numbered) → AreItemsInPlace f → f.start ≤ length f.bytes → (i : ℕ)
    → i ≤ item_count f → f.start + item_place f i ≤ length f.bytes
place_inside f h le i top =
    let a = ascend_to f h i (item_count f) top (omega arith) in
    let e = last_place f in omega (arith, a, e, le)

pub told_inside : (f : Numbered) (i p : ℕ) → p ≡ item_place f i → AreItemsInPlace f
    → f.start ≤ length f.bytes → i ≤ item_count f → f.start + p ≤ length f.bytes
told_inside f i p e h le top = rw e (place_inside f h le i top)

-- a part of a longer list is one of its front
part_of_front : (xs ys : List ℕ) (a b : ℕ) → a ≤ b → b ≤ length xs
    → take (b - a) (drop a (xs ++ ys)) ≡ take (b - a) (drop a xs)
part_of_front xs ys a b ab bl =
    ap (take (b - a)) (drop-append-le a xs ys (omega (arith, ab, bl)))
    ∙ take-append-le (b - a) (drop a xs) ys (let e : length (drop a xs) ≡ length xs - a =
    length-drop a xs
    in omega (arith, e, ab, bl))

part_behind : (xs ys : List ℕ) (a b : ℕ) → a ≡ length xs → b - a ≡ length ys
    → take (b - a) (drop a (xs ++ ys)) ≡ ys
part_behind xs ys a b ea eb =
    ap (λ (n : ℕ). take n (drop a (xs ++ ys))) eb
    ∙ (ap (λ (n : ℕ). take (length ys) (drop n (xs ++ ys))) ea
    ∙ (ap (take (length ys)) (drop-append_seam xs ys) ∙ take-length ys))

part_length : (xs : List ℕ) (a b : ℕ) → b ≤ length xs → length (take (b - a) (drop a xs)) ≡ b - a
part_length xs a b le = simp (length-take, length-drop) (omega arith)

-- one more item is in the other order
pub swaps_more : (f : Numbered) (rs : List Role) (to other new : List ℕ) (n : ℕ) → n < item_count f
    → AreItemsInPlace f → f.start ≤ length f.bytes → new ≡ to ++ other → Swapping f rs to n
    → IsSwappedItem (get_or f.bytes 8 0) (item_of f f.bytes n) other → Swapping f rs new (n + 1)
swaps_more f rs to other new n lt h le e s item =
    let inside = place_inside f h le (n + 1) (omega (arith, lt)) in
    let next = (h n lt).order in
    let first = ascend_to f h 0 n (omega arith) (omega (arith, lt)) in
    let whole : length (item_of f f.bytes n)
    ≡ f.start + item_place f (n + 1) - (f.start + item_place f n) =
    part_length f.bytes (f.start + item_place f n) (f.start + item_place f (n + 1)) inside in
    let long : length other ≡ f.start + item_place f (n + 1) - (f.start + item_place f n) =
    item.swapped.as_long ∙ whole in
    let was = s.as_long in
    rw e (record {
      as_long = length-append to other ∙ (omega (arith, long, was, next));
      front = λ p less. get_or-append to other 0 p (omega (arith, less, was, first)) ∙ s.front p
          less;
      items = one_more (λ i. IsSwappedItem (get_or f.bytes 8 0) (item_of f f.bytes i) (item_of f
          (to ++ other) i)) n
          (λ i less.
          let upto = ascend_to f h (i + 1) n (omega (arith, less)) (omega (arith, lt)) in
          let order = (h i (omega (arith, less, lt))).order in
          let P : List ℕ → Type 0 = IsSwappedItem (get_or f.bytes 8 0) (item_of f f.bytes i) in
          subst P (sym (part_of_front to other (f.start + item_place f i) (f.start + item_place f
          (i + 1)) (omega (arith, order)) (omega (arith, upto, was)))) (s.items i less))
          (let P : List ℕ → Type 0 = IsSwappedItem (get_or f.bytes 8 0) (item_of f f.bytes n) in
          subst P (sym (part_behind to other (f.start + item_place f n) (f.start + item_place f (n +
          1)) (sym was) (sym long))) item);
    })

finishes : (bytes : List ℕ) (rs : List Role) (to : List ℕ) → IsPackageHead bytes
    → AreItemsInPlace (numbered bytes) → AreNamesInPlace (numbered bytes)
    → TableRoles (numbered bytes) rs → (numbered bytes).start ≤ length bytes
    → Swapping (numbered bytes) rs to (item_count (numbered bytes)) → IsSwappedPackage bytes to
finishes bytes rs to head items names roles le s = record {
  laid = record { items = items; names = names };
  front = record {
    head = head;
    roles = rs;
    roles_are = roles;
    as_long = let e = last_place (numbered bytes) in let was = s.as_long in omega (
      arith,
      e,
      was,
      le,
    );
    mirrored = s.front;
  };
  items = s.items;
}

-- all items are in the other order
pub finished : (bytes : List ℕ) (f : Numbered) (rs : List Role) (to : List ℕ) (n : ℕ)
    → IsPackageHead bytes → f ≡ numbered bytes → AreItemsInPlace f → AreNamesInPlace f
    → TableRoles f rs → f.start ≤ length f.bytes → n ≡ item_count f → Swapping f rs to n
    → IsSwappedPackage bytes to
finished bytes f rs to n head e items names roles le all s =
    let S : ℕ → Type 0 = Swapping f rs to in
    let whole : Swapping f rs to (item_count f) = subst S all s in
    let I : Numbered → Type 0 = AreItemsInPlace in
    let N : Numbered → Type 0 = AreNamesInPlace in
    let T : Numbered → Type 0 = λ g. TableRoles g rs in
    let L : Numbered → Type 0 = λ g. g.start ≤ length g.bytes in
    let W : Numbered → Type 0 = λ g. Swapping g rs to (item_count g) in
    finishes bytes rs to head (subst I e items) (subst N e names) (subst T e roles)
    (subst L e le) (subst W e whole)

-- what is wrong with an item is wrong with the package
fault_by : (bytes : List ℕ) (e : PackageSwapError) → IsItemFault (numbered bytes) e
    → IsPackageFault bytes e
fault_by bytes error.NotPackage h = absurd h
fault_by bytes error.Ebcdic h = absurd h
fault_by bytes error.TableOutside h = absurd h
fault_by bytes (error.ItemAstray i) h = h
fault_by bytes (error.NameAstray i) h = h
fault_by bytes (error.OtherOrder i) h = h
fault_by bytes (error.Item i e) h = h
fault_by bytes error.NoMemory h = h

pub item_fault : (bytes : List ℕ) (f : Numbered) (e : PackageSwapError) → f ≡ numbered bytes
    → IsItemFault f e → IsPackageFault bytes e
item_fault bytes f e same h =
    let P : Numbered → Type 0 = λ g. IsItemFault g e in fault_by bytes e (subst P same h)
