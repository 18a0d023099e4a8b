use Rattle.std.proofs.Common.{◌∙◌, Some, ap, sym}
use Rattle.resb_c.proofs.CompilingLemmas.{compiled_in, IsAlone}
use Rattle.resb_c.proofs.compiling.compile_into.Goals as goal

pub returns-in-Some : goal.returns-in-Some
returns-in-Some c =
    let is : IsAlone c.args.options.now c.way-way.result = record {
      form = c.in_ok-form.ensures ∙ ap (λ f. Some f) (sym c.way-way.ensures.form);
      packing = c.way-way.ensures.packing;
      alone = c.way-way.ensures.alone;
      rules = c.way-way.ensures.rules;
      limit = c.way-way.ensures.limit;
    } in
    let text = c.in_ok-text.ensures.ok in
    let pool = c.in_ok-pool_of.ensures.ok in
    compiled_in c.args.options.now c.way-way.result is pool.0 c.in_ok-pool_of.field-0
    c.in-Some.bundle c.in_ok-text.text.now c.args.text.now c.args.out.now
    c.compile_beside.new.out c.compile_beside.result text.0 text.1 c.in-Some.is pool.1
    c.compile_beside.ensures
