-- What is read, what rules leave of it, and its file.
use Rattle.std.proofs.Common.{sym, subst}
use Rattle.resb_draft.specs.Drafts.{draft_tree}
use Rattle.resb_write.specs.FaultOf.{fault_of}
use Rattle.resb_write.specs.Layouts.{IsFileOver, RefusesOver}
use Rattle.resb_compile.specs.Compiling.{left_by, IsRefusedBy}
use Rattle.resb_compile.specs.declared.error.CompileError.TheVariants.{Writing}
use Rattle.resb_compile.proofs.Reasons.{carried, filtering_refused, writing_refused}
use Rattle.resb_compile.proofs.compiling.Compile.text.Goals as goal

pub returns-in_err-bundle-clause-err : goal.returns-in_err-bundle-clause-err
returns-in_err-bundle-clause-err c =
    let r = c.in_ok-read in
    let e = c.in_err-bundle.field-0.0 in
    let made = c.from_residual-in_err-bundle in
    carried (IsRefusedBy c.args.self.now c.args.text.now) (Writing e)
    (filtering_refused c.args.self.now c.args.text.now e (record {
      name = r.read.name.now;
      fallback = r.read.is_locale_fallback_enabled;
      tree = draft_tree r.read.root;
      keys = r.keys.items;
      is = r.ensures.ok;
    }) r.ensures.within c.in_err-bundle.ensures.err) made.result made.ensures.1

pub returns-in_err-file-clause-err : goal.returns-in_err-file-clause-err
returns-in_err-file-clause-err c =
    let way = c.args.self.now in
    let r = c.in_ok-read in
    let b = c.in_ok-bundle in
    let e = c.in_err-file.field-0.0 in
    let made = c.from_residual-in_err-file in
    let listed = subst (λ ks. RefusesOver way.layout (draft_tree b.bundle.root) ks (fault_of e))
    c.as_slice.ensures.value c.in_err-file.ensures.err in
    let left = subst (λ t. RefusesOver way.layout t r.keys.items (fault_of e)) b.ensures.tree
    listed in
    carried (IsRefusedBy way c.args.text.now) (Writing e)
    (writing_refused way c.args.text.now e (record {
      name = r.read.name.now;
      fallback = r.read.is_locale_fallback_enabled;
      tree = draft_tree r.read.root;
      keys = r.keys.items;
      is = r.ensures.ok;
    }) r.ensures.within left) made.result made.ensures.1

pub returns-clause-ok : goal.returns-clause-ok
returns-clause-ok c =
    let way = c.args.self.now in
    let r = c.in_ok-read in
    let b = c.in_ok-bundle in
    let t = draft_tree r.read.root in
    let file = c.in_ok-file.file.items in
    let flag = b.bundle.is_locale_fallback_enabled in
    let listed = subst (λ ks. IsFileOver way.layout file (draft_tree b.bundle.root) flag ks)
    c.as_slice.ensures.value c.in_ok-file.ensures.ok in
    let left = subst (λ t. IsFileOver way.layout file t flag r.keys.items) b.ensures.tree listed in
    record {
      within = r.ensures.within;
      compiled = record {
        bundle = record {
          name = r.read.name.now;
          fallback = r.read.is_locale_fallback_enabled;
          tree = t;
          keys = r.keys.items;
          is = r.ensures.ok;
        };
        file = subst (λ f. IsFileOver way.layout file (left_by way.rules t) f r.keys.items)
            b.ensures.flag left;
      };
    }
