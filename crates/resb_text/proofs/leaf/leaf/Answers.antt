use Rattle.resb_text.proofs.Leaves.{leaf_takes_none, leaf_refused}
use Rattle.resb_text.proofs.leaf.leaf.Goals as goal
use Rattle.resb_grammar.specs.declared.group_kind.Kind.TheVariants.{
  String as string_kind,
  Binary as binary_kind,
  Integer as integer_kind,
}

pub returns-in-String-clause-quota : goal.returns-in-String-clause-quota
returns-in-String-clause-quota c =
    rw c.in-String.is (leaf_takes_none _ _ _ _ _ (λ e. cc) c.requires.quota
    c.string_leaf.ensures.reads)

pub returns-in-Binary-clause-quota : goal.returns-in-Binary-clause-quota
returns-in-Binary-clause-quota c =
    rw c.in-Binary.is (leaf_takes_none _ _ _ _ _ (λ e. cc) c.requires.quota
    c.binary_leaf.ensures.reads)

pub returns-in-Integer-clause-quota : goal.returns-in-Integer-clause-quota
returns-in-Integer-clause-quota c =
    rw c.in-Integer.is (leaf_takes_none _ _ _ _ _ (λ e. cc) c.requires.quota
    c.integer_leaf.ensures.reads)

pub returns-in-IntVector-clause-quota : goal.returns-in-IntVector-clause-quota
returns-in-IntVector-clause-quota c = rw c.in-IntVector.is c.vector_leaf.ensures.quota

pub returns-in-String-clause-reads : goal.returns-in-String-clause-reads
returns-in-String-clause-reads c =
    rw c.in-String.is (leaf_refused c.args.text.now _ c.string_leaf.result c.args.opening.0
    string_kind c.args.quota.now c.string_leaf.ensures.reads)

pub returns-in-Binary-clause-reads : goal.returns-in-Binary-clause-reads
returns-in-Binary-clause-reads c =
    rw c.in-Binary.is (leaf_refused c.args.text.now _ c.binary_leaf.result c.args.opening.0
    binary_kind c.args.quota.now c.binary_leaf.ensures.reads)

pub returns-in-Integer-clause-reads : goal.returns-in-Integer-clause-reads
returns-in-Integer-clause-reads c =
    rw c.in-Integer.is (leaf_refused c.args.text.now _ c.integer_leaf.result c.args.opening.0
    integer_kind c.args.quota.now c.integer_leaf.ensures.reads)

pub returns-in-IntVector-clause-reads : goal.returns-in-IntVector-clause-reads
returns-in-IntVector-clause-reads c = rw c.in-IntVector.is c.vector_leaf.ensures.reads
