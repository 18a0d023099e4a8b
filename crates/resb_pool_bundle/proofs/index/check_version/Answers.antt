-- Each refusal is that of the first check that fails.
use Rattle.std.proofs.Common.{sym, ap, ◌∙◌}
use Rattle.resb_head.specs.Codes.{charset_number, version_bytes}
use Rattle.resb_pool_bundle.proofs.VersionSteps.{other_family, family_unsupported, version_holds}
use Rattle.resb_pool_bundle.proofs.VersionSteps.{character_size_unsupported, version_unsupported}
use Rattle.resb_pool_bundle.proofs.index.check_version.Goals as goal

pub returns-in_default : goal.returns-in_default
returns-in_default c = λ bytes i.
    family_unsupported bytes c.unsupported_format.result
    (λ z. other_family c.args.info.now.charset_family c.in_default.not-Ascii (i.charset_family ∙ z))
    c.unsupported_format.ensures

pub returns-then-info-ne2 : goal.returns-then-info-ne2
returns-then-info-ne2 c = λ bytes i.
    character_size_unsupported bytes c.unsupported_format-then-info-ne2.result
    (sym i.charset_family ∙ ap charset_number c.in-Ascii.is)
    (λ e. c.if-info-ne2.true (i.size_of_char ∙ e)) c.unsupported_format-then-info-ne2.ensures

pub returns-in-V1_0 : goal.returns-in-V1_0
returns-in-V1_0 c = λ bytes i.
    version_unsupported bytes c.unsupported_format-in-V1_0.result
    (sym i.charset_family ∙ ap charset_number c.in-Ascii.is)
    (sym i.size_of_char ∙ c.if-info-ne2.false)
    (sym (ap version_bytes c.in-V1_0.is) ∙ i.format_version)
    c.unsupported_format-in-V1_0.ensures

pub returns : goal.returns
returns c = λ bytes i.
    version_holds bytes c.args.info.now.format_version
    (sym i.charset_family ∙ ap charset_number c.in-Ascii.is)
    (sym i.size_of_char ∙ c.if-info-ne2.false) i.format_version c.in_default-format_version.not-V1_0
