-- How verdicts, answers and replies read. Assumes nothing.
use Rattle.std.specs.Prelude.{ℕ, List, ◌∷◌, ◌++◌, codes, decimal}
use Rattle.lattice.specs.declared.verdict.Verdict.{Verdict}
use Rattle.lattice.specs.declared.verdict.Verdict.TheVariants as verdict
use Rattle.lattice.specs.declared.verdict.Answer.{Answer}
use Rattle.lattice.specs.declared.verdict.Answer.TheVariants as answer
use Rattle.lattice.specs.declared.condition.Reply.{Reply}
use Rattle.lattice.specs.declared.condition.Reply.TheVariants as reply

abbrev pub verdict_word : Verdict → List ℕ
verdict_word verdict.Open = codes "open"
verdict_word verdict.Found = codes "found"
verdict_word verdict.None = codes "none"

abbrev pub answer_word : Answer → List ℕ
answer_word answer.Pending = codes "pending"
answer_word answer.Found = codes "found"
answer_word answer.None = codes "none"

-- a lift gives its place and the new height
abbrev pub reply_words : Reply → List ℕ
reply_words reply.Holds = codes "holds"
reply_words (reply.Lift lift) = codes "lift " ++ (decimal lift.0 ++ (32 ∷ decimal lift.1))
reply_words reply.Never = codes "never"
