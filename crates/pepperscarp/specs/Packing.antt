-- C interface 1 to 4 and 9 to 12: an answer in one number, the refusal's in bits 0 to 7, a verdict in bits 8 to 15, a figure from bit 16 on.
-- Definitions only. Assumes nothing.
use Rattle.std.specs.Prelude.{ℕ, ◌+◌, ◌*◌, Option, Some, None, Bool, Result, Ok, Err}
use Rattle.stepping.specs.Refusals.{stepped_number}
use Rattle.reachability.specs.Answers.{swept_number, swept_figure, sweep_number, sweep_figure, Swept}
use Rattle.reachability.specs.declared.verdicts.Verdict.TheVariants.{Hit, Unknown, Clear}
use Rattle.reachability.specs.declared.model.Model.{Model}
use Rattle.judge.specs.Answers.{Judged, judged_number, judged_figure, judge_answer, judge_number, judge_figure}
use Rattle.reader.specs.FileNumbers.{file_number}
use Rattle.reader.specs.declared.refusals.Refused.{Refused as FileRefused}
use Rattle.writer.specs.Answers.{rewritten_number, rewritten_figure}
use Rattle.writer.specs.declared.RewriteRefusal.{RewriteRefusal}
use Rattle.calm.specs.Answers.{calmness_number, calmness_figure, calm_number, calm_figure, limited_number, limited_figure, limit_number, limit_figure, within_number, within_figure, steps_number, steps_figure}
use Rattle.calm.specs.declared.CalmRefusal.{CalmRefusal}

-- C interface 1: number, verdict and figure side by side.
abbrev pub packed : ℕ → ℕ → ℕ → ℕ
packed number verdict figure = number + 256 * verdict + 65536 * figure

-- A figure below 2 to the 48 leaves the answer below 2 to the 64.
abbrev pub figure_limit : ℕ
figure_limit = 281474976710656

-- C interface 2: the figure of a step, the growth sum of what it left.
abbrev pub stepped_figure : Option ℕ → ℕ
stepped_figure (Some s) = s
stepped_figure None = 0

-- C interface 1: the verdict of a judge, 1 HIT, 2 UNKNOWN, 3 CLEAR, 0 where the judge refuses.
abbrev pub judged_verdict : Judged → ℕ
judged_verdict (Ok (Hit k)) = 1
judged_verdict (Ok (Unknown k)) = 2
judged_verdict (Ok Clear) = 3
judged_verdict (Err r) = 0

-- A refused file: its number, and its offset for the figure.
abbrev pub refused_packed : FileRefused → ℕ
refused_packed e = packed (file_number e.refusal) 0 e.offset

-- Each answer in one number.
abbrev pub stepped_packed : Option ℕ → ℕ
stepped_packed a = packed (stepped_number a) 0 (stepped_figure a)

abbrev pub swept_packed : Swept → ℕ
swept_packed a = packed (swept_number a) 0 (swept_figure a)

abbrev pub judged_packed : Judged → ℕ
judged_packed a = packed (judged_number a) (judged_verdict a) (judged_figure a)

abbrev pub rewritten_packed : Result ℕ RewriteRefusal → ℕ
rewritten_packed a = packed (rewritten_number a) 0 (rewritten_figure a)

abbrev pub calmed_packed : Result Bool CalmRefusal → ℕ
calmed_packed a = packed (calmness_number a) 0 (calmness_figure a)

abbrev pub limited_packed : Result ℕ CalmRefusal → ℕ
limited_packed a = packed (limited_number a) 0 (limited_figure a)

abbrev pub stayed_packed : Result ℕ CalmRefusal → ℕ
stayed_packed a = packed (within_number a) 0 (within_figure a)

-- C interface 3 and 4: what a sweep and a judge of a model come to, by the number and the figure that they promise.
abbrev pub sweep_packed : Model → ℕ → ℕ → ℕ → ℕ
sweep_packed m d lb ls = packed (sweep_number m d lb ls) 0 (sweep_figure m d lb ls)

abbrev pub judge_packed : Model → ℕ → ℕ → ℕ → ℕ
judge_packed m g lb ls = packed (judge_number m g lb ls) (judged_verdict (judge_answer m g lb ls)) (judge_figure m g lb ls)

-- C interface 10, 11 and 12: what the routines of calm models come to, in the same way.
abbrev pub calm_packed : Model → ℕ
calm_packed m = packed (calm_number m) 0 (calm_figure m)

abbrev pub limit_packed : ℕ → Model → ℕ
limit_packed k m = packed (limit_number m k) 0 (limit_figure m k)

abbrev pub within_packed : ℕ → Model → ℕ
within_packed s m = packed (steps_number m s) 0 (steps_figure m s)
