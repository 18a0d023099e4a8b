-- How many bytes a job adds to a text at least, in whichever form: those of its key and of its
-- string or path, and two for each byte of its binary.
use Rattle.std.specs.Prelude.{ℕ, ◌+◌, ◌*◌, length}
use Rattle.resb_shown.specs.Shown.{text_in}
use Rattle.resb_lines.specs.Inner.Jobs.{Job, head_job, entry_job, member_job, value_job}
use Rattle.resb_lines.specs.Inner.Jobs.{entries_job, members_job, numbers_job, digits_job}
use Rattle.resb_lines.specs.Inner.Jobs.{line_feed_job}

abbrev pub job_least : Job → ℕ
job_least (head_job name fallback) = 0
job_least (entry_job n k t) = length k + length (text_in t)
job_least (member_job n t) = length (text_in t)
job_least (value_job p n t) = 0
job_least (entries_job p n es) = 0
job_least (members_job p n ts) = 0
job_least (numbers_job p later ns) = 0
job_least (digits_job p bytes) = 2 * length bytes
job_least line_feed_job = 0
