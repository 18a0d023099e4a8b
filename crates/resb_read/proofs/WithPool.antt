-- Files beside a pool bundle: how their words are linked, and the laws of reading them.
use Rattle.std.proofs.Common.{ℕ, List}
use Rattle.std.specs.Prelude.{Option}
use Rattle.resb_format.proofs.Denoting.{unique}
use Rattle.resb_pool_bundle.specs.Pool.{Pool, parts_with}
use Rattle.resb_pool_bundle.proofs.PassingFiles.{file_is, file_passes}
use Rattle.resb_read.specs.Measuring.{HasOneWeight, WeighsNoMore, IsRefusedOnceWithin}
use Rattle.resb_read.specs.Roots.{IsRefusedOnce}
use Rattle.resb_read.specs.WithPool.{over, OneTreeWithPool}
use Rattle.resb_read.proofs.Limited.{refused_once_within}
use Rattle.resb_read.proofs.Measures.{one_weight_of, no_more_of}
use Rattle.resb_read.proofs.OneRefusal.{one_refusal_of}
use Rattle.resb_read.proofs.Rooted.{IsLinked}

-- what the words of a file beside a pool have to do with one another
pub over_linked : (pool : Option Pool) (bytes : List ℕ) → IsLinked (over pool bytes)
over_linked pool bytes = record {
  passes = file_is pool bytes;
  holds = file_passes pool bytes;
  denotes = λ t n h d. record { head = h; root = d };
  heads = λ t n d. d.head;
  roots = λ t n d. d.root;
}

-- the laws
pub one_tree_with_pool : OneTreeWithPool
one_tree_with_pool pool bytes t u m n d e = unique (parts_with pool bytes) d.root e.root

pub one_refusal_with_pool : (pool : Option Pool) (bytes : List ℕ) → IsRefusedOnce (over pool bytes)
one_refusal_with_pool pool bytes d e =
    one_refusal_of (over pool bytes) d e (over_linked pool bytes)

pub one_refusal_within_with_pool : (pool : Option Pool) (bytes : List ℕ)
    → IsRefusedOnceWithin (over pool bytes)
one_refusal_within_with_pool pool bytes =
    refused_once_within (over pool bytes) (over_linked pool bytes)

pub one_weight_with_pool : (pool : Option Pool) (bytes : List ℕ) → HasOneWeight (over pool bytes)
one_weight_with_pool pool bytes = one_weight_of (over pool bytes)

pub no_more_with_pool : (pool : Option Pool) (bytes : List ℕ) → WeighsNoMore (over pool bytes)
no_more_with_pool pool bytes f t n xs d h = no_more_of f (over pool bytes) t n xs d.root h
