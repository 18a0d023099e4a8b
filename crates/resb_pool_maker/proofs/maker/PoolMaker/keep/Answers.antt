use Rattle.std.proofs.Common.{◌≡◌, ℕ, List, Bool, ◌++◌, ◌∷◌, [], sym, ◌∙◌, ap, subst}
use Rattle.std.specs.List.{list_any}
use Rattle.std.specs.String.{string_bytes}
use Rattle.std.specs.declared.alloc.Global.{Global}
use Rattle.std.specs.declared.string.String.{String}
use Rattle.resb_layout.specs.TreeFaults.{has_nul}
use Rattle.std.proofs.lemmas.Result.{err_from_is_err_and}
use Rattle.resb_pool_maker.specs.Holding.{AreGifts, bytes_each}
use Rattle.resb_pool_maker.specs.PoolFault.{bundle_memory}
use Rattle.resb_pool_maker.specs.PoolOf.{used_keys}
use Rattle.resb_pool_maker.proofs.Faults.{bundle_key}
use Rattle.resb_pool_maker.proofs.Given.{gift_added, any_string}
use Rattle.resb_pool_maker.proofs.maker.PoolMaker.keep.Goals as goal

-- what the test of keys tells
told : (keys seen : List (String Global)) → seen ≡ keys → (us : List (List ℕ))
    → bytes_each keys ≡ us → (answer : Bool)
    → answer ≡ list_any (λ (s : String Global). has_nul (string_bytes s)) seen
    → answer ≡ list_any has_nul us
told keys seen e us k answer h =
    h ∙ any_string seen ∙ ap (λ ss. list_any has_nul (bytes_each ss)) e ∙ ap (list_any has_nul) k

pub returns-in_err-push-clause-err : goal.returns-in_err-push-clause-err
returns-in_err-push-clause-err c =
    let r = c.from_residual in
    let p = err_from_is_err_and r.result r.ensures.1 in
    rw (p.1, p.2) (λ b given. bundle_memory)

pub returns-clause-adds : goal.returns-clause-adds
returns-clause-adds c = λ b given bs h.
    subst (AreGifts (bs ++ b ∷ [])) (sym c.in_ok-push.ensures.items)
    (gift_added b c.args.gift h (record {
      keys = given.keys;
      plain = sym (told c.args.gift.keys.items c.deref.result.now c.deref.ensures.value
          (used_keys b) given.keys c.has_nul_key.result c.has_nul_key.ensures)
          ∙ c.if-has_nul_key.false;
      records = given.records;
    }))

pub returns-then-has_nul_key-clause-err : goal.returns-then-has_nul_key-clause-err
returns-then-has_nul_key-clause-err c = λ b given.
    bundle_key b given.planned (sym (told c.args.gift.keys.items c.deref.result.now c.deref.ensures.value
    (used_keys b) given.keys c.has_nul_key.result c.has_nul_key.ensures)
    ∙ c.if-has_nul_key.true)
