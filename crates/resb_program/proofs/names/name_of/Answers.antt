use Rattle.std.proofs.Common.{rules}
use Rattle.std.specs.Prelude.{string_bytes}
use Rattle.resb_program.proofs.NamesLemmas.{named}
use Rattle.resb_program.proofs.names.name_of.Goals as goal

pub returns-clause-ok : goal.returns-clause-ok
returns-clause-ok c =
    let bundle = c.in_ok-bundle.bundle in
    named c.args.text.now bundle.name.now (string_bytes c.in_ok-name.name)
    bundle.is_locale_fallback_enabled _ c.in_ok-bundle._keys.items
    c.in_ok-bundle.ensures.ok (search rules)
