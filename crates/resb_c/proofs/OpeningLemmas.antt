-- A file that is opened has the parts and the root of its bytes.
use Rattle.std.proofs.Common.{◌≡◌, ℕ, List, Option, Some, Ok, Err, inl, inr, true, sym, ap, subst}
use Rattle.std.proofs.Common.{◌∙◌, [], refl, false, cond, None}
use Rattle.std.proofs.lemmas.Bool.{false≢true}
use Rattle.resb_tree.specs.Tree.{string}
use Rattle.resb_format.specs.Error.{IsWantOfMemory}
use Rattle.resb_format.specs.Content.{word, content_at, leaf}
use Rattle.resb_format.specs.Denotes.{den_leaf}
use Rattle.resb_format.specs.Parts.{Parts, reads_older}
use Rattle.resb_format.specs.declared.error.ReadingError.{ReadingError}
use Rattle.resb_head.specs.File.{root_word}
use Rattle.resb_pool_bundle.specs.Pool.{Pool, parts_with}
use Rattle.resb_pool_bundle.proofs.PassingFiles.{file_passes}
use Rattle.resb_path.specs.Finding.{tree_spot}
use Rattle.resb_read.specs.Resources.{DenSpot}
use Rattle.resb_read.specs.Roots.{AnswersCountOf}
use Rattle.resb_read.specs.WithPool.{over}
use Rattle.resb_read.specs.declared.cursor.Spot.TheVariants as spot
use Rattle.resb_opened.specs.Ordered.{Ordered}
use Rattle.resb_c.specs.Calls.{CountsFile}
use Rattle.resb_c.specs.Opened.{IsClosed, parts_of, spot_of, says_ascending, AscendsAt, Shows}
use Rattle.resb_c.specs.Opening.{IsOpened}
use Rattle.resb_c.specs.Pools.{given}
use Rattle.resb_c.specs.declared.fault.Fault.TheVariants.{Reading}
use Rattle.resb_c.specs.declared.opened.ResbOpened.{ResbOpened}
use Rattle.resb_c.proofs.HeadLemmas.{passes_given}

-- the struct of these parts is that of the file
pub is_opened : (pool file : List ℕ) (lent : Option Pool) (q : Parts) (root : ℕ) (o : ResbOpened)
    → lent ≡ given pool → q ≡ parts_with lent file → root ≡ root_word file
    → (reads_older q ≡ true → parts_of o ≡ q) → spot_of o.root ≡ spot.Descriptor root
    → (says_ascending o ≡ true → Ordered q (word root)) → IsOpened pool file o
unfolding parts_with
is_opened pool file lent q root o is cut at mine named ordered =
    let whole : q ≡ parts_with (given pool) file = cut ∙ ap (λ l. parts_with l file) is in
    let parts : parts_of o ≡ parts_with (given pool) file =
    mine (ap reads_older whole) ∙ whole in
    let there : spot_of o.root ≡ spot.Descriptor (root_word file) =
    named ∙ ap spot.Descriptor at in
    let same : parts_of o ≡ q = mine (ap reads_older whole) in
    record {
      parts = parts;
      root = there;
      tree = λ t n d. (
        (
          n,
          subst (λ p. DenSpot p (spot_of o.root) t n) (sym parts)
              (subst (λ s. DenSpot (parts_with (given pool) file) s t n) (sym there) d.root),
        ),
        λ yes. subst (λ s. AscendsAt (parts_of o) s) (sym named)
            (subst (λ p. Ordered p (word root)) (sym same) (ordered yes)),
      );
    }

-- where aliases are read, the descriptor 0 is that of an empty string, whatever the file has
nothing_there : (p : Parts) → reads_older p ≡ true → DenSpot p (spot.Descriptor 0) (string []) 1
unfolding content_at
nothing_there p reads = den_leaf (ap (λ c. cond c (Some (leaf (string []))) None) reads)

-- so a struct whose root it is, and which doesn't say that tables ascend, shows an empty string
pub closed_root : (o : ResbOpened) → spot_of o.root ≡ spot.Descriptor 0
    → says_ascending o ≡ false → Shows o o.root (tree_spot (string []))
closed_root o root never = (
  (1, subst (λ s. DenSpot (parts_of o) s (string []) 1) (sym root) (nothing_there (parts_of o) refl)),
  λ yes. absurd (false≢true (sym never ∙ yes)),
)

-- such a struct in which nothing stands
pub is_closed : (o : ResbOpened) → spot_of o.root ≡ spot.Descriptor 0 → says_ascending o ≡ false
    → o.count ≡ 0 → o.body.now ≡ [] → o.keys.now ≡ [] → o.block.now ≡ [] → o.pool_keys.now ≡ []
    → o.pool_block.now ≡ [] → IsClosed o
is_closed o root never count body keys block pool_keys pool_block = record {
  empty = closed_root o root never;
  count = count;
  body = body;
  keys = keys;
  block = block;
  pool_keys = pool_keys;
  pool_block = pool_block;
}

-- once a file was counted, memory may be wanted
pub memory_wanted : (pool file : List ℕ) (n : ℕ) (e : ReadingError) → CountsFile pool file (Ok n)
    → IsWantOfMemory e → CountsFile pool file (Err (Reading e))
memory_wanted pool file n e (is, (t, d, less)) want = (
  is,
  (
    passes_given (given pool) file (file_passes (given pool) file d.head),
    inr (d.head, inl want, λ fault. absurd (fault.not_memory want.kind_is)),
  ),
)
