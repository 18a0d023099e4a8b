-- Why a program fails that writes a file of a text.
use Rattle.std.proofs.Common.{◌≡◌, ℕ, List, Option, Result, Ok, Err, sym, subst}
use Rattle.std.specs.Prelude.{IfErr, IfSome, IsOkUnless}
use Rattle.std.specs.Str.{IsUtf8}
use Rattle.std.proofs.lemmas.Option.{IfSome_then}
use Rattle.resb_compile.specs.Compiling.{IsCompiled}
use Rattle.resb_program.specs.Program.{HasReason}
use Rattle.resb_program.specs.declared.errors.ToolError.{ToolError}
use Rattle.resb_program.specs.declared.errors.ToolError.TheVariants.{Output}

-- once there is a file, the writer may fail
pub output_reason : {T : Type 0} (r : Result T ToolError) (known : Option (List ℕ))
    (bytes file : List ℕ) → IsOkUnless r Output → IsUtf8 bytes → IsCompiled bytes file
    → IfSome known (λ input. bytes ≡ input)
    → IfErr r (λ e. IfSome known (λ input. HasReason input e))
output_reason (Ok x) known bytes file is text compiled read = tt
output_reason (Err e) known bytes file is text compiled read =
    IfSome_then known read (λ input same.
    subst (λ (x : ToolError). HasReason input x) (sym is) (
      subst IsUtf8 same text,
      (file, subst (λ (l : List ℕ). IsCompiled l file) same compiled),
    ))
