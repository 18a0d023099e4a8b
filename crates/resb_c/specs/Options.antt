-- What the options of a call ask for.
--     text_form_in o     the form of a text that is read, if the options have one
--     print_form_in o    the form in which a bundle is printed, if they have one
--     limit_in o         the limit of bytes, if they set one
use Rattle.std.specs.Prelude.{ℕ, ◌==◌, Option, Some, None, if◌then◌else◌}
use Rattle.resb_compile.specs.declared.compiling.TextForm.{TextForm}
use Rattle.resb_compile.specs.declared.compiling.TextForm.TheVariants as text_form
use Rattle.resb_lines.specs.declared.printing.PrintForm.{PrintForm}
use Rattle.resb_lines.specs.declared.printing.PrintForm.TheVariants as print_form
use Rattle.resb_c.specs.declared.options.ResbOptions.{ResbOptions}

-- a text's form of this number
abbrev pub text_form_of : ℕ → Option TextForm
text_form_of n =
    if n == 0 then Some text_form.Plain else if n == 1 then Some text_form.Icu else None

-- a printed form of this number
abbrev pub print_form_of : ℕ → Option PrintForm
print_form_of n =
    if n == 0 then Some print_form.Plain else if n == 1 then Some print_form.Icu
    else if n == 2 then Some print_form.Json else None

-- the form of a text, where the options are of the size that the header gives them
abbrev pub text_form_in : ResbOptions → Option TextForm
text_form_in o = if o.size == 56 then text_form_of o.form else None

-- so the form in which a bundle is printed
abbrev pub print_form_in : ResbOptions → Option PrintForm
print_form_in o = if o.size == 56 then print_form_of o.form else None

-- the limit: 0 sets none
abbrev pub limit_in : ResbOptions → Option ℕ
limit_in o = if o.limit == 0 then None else Some o.limit
