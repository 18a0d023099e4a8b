-- Each refusal is that of the first check that fails.
use Rattle.std.proofs.Common.{sym, ap, ◌∙◌}
use Rattle.resb_head.specs.Codes.{charset_number, version_bytes}
use Rattle.resb_head.specs.declared.charset.CharsetFamily.TheVariants.{Ascii}
use Rattle.resb_head.specs.declared.version.FormatVersion.TheVariants.{V2_0}
use Rattle.resb_head.proofs.Apart.{charset_apart, version_apart}
use Rattle.resb_head.proofs.SupportSteps.{family_unsupported, character_size_unsupported}
use Rattle.resb_head.proofs.SupportSteps.{version_unsupported, support_holds}
use Rattle.resb_head.proofs.repr_info.BinReprInfo.check_support.Goals as goal

pub returns-in_default : goal.returns-in_default
returns-in_default c = λ bytes i.
    family_unsupported bytes c.unsupported_format.result
    (λ z. c.in_default.not-Ascii
    (charset_apart c.args.self.now.charset_family Ascii (i.charset_family ∙ z)))
    c.unsupported_format.ensures

pub returns-then-self-ne2 : goal.returns-then-self-ne2
returns-then-self-ne2 c = λ bytes i.
    character_size_unsupported bytes c.unsupported_format-then-self-ne2.result
    (sym i.charset_family ∙ ap charset_number c.in-Ascii.is)
    (λ e. c.if-self-ne2.true (i.size_of_char ∙ e)) c.unsupported_format-then-self-ne2.ensures

pub returns-in_default-format_version : goal.returns-in_default-format_version
returns-in_default-format_version c = λ bytes i.
    version_unsupported bytes c.unsupported_format-in_default-format_version.result
    (sym i.charset_family ∙ ap charset_number c.in-Ascii.is)
    (sym i.size_of_char ∙ c.if-self-ne2.false)
    (λ e. c.in_default-format_version.not-V2_0
    (version_apart c.args.self.now.format_version V2_0 (i.format_version ∙ e)))
    c.unsupported_format-in_default-format_version.ensures

pub returns : goal.returns
returns c = λ bytes i.
    support_holds bytes (sym i.charset_family ∙ ap charset_number c.in-Ascii.is)
    (sym i.size_of_char ∙ c.if-self-ne2.false)
    (sym i.format_version ∙ ap version_bytes c.in-V2_0.is)
