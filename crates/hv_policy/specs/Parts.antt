-- A reply in two parts: the answer, and the output.
use Rattle.std.specs.Prelude.{ℕ, List}
use Rattle.hv_policy.specs.declared.answer.Answer.{Answer}
use Rattle.hv_policy.specs.declared.answer.Answer.TheVariants as answer
use Rattle.hv_policy.specs.declared.reply.Reply.{Reply}
use Rattle.hv_policy.specs.declared.reply.Reply.TheVariants as reply

-- the reply with this answer and output. Only a served event has output
abbrev pub reply_of : Answer → List ℕ → Reply
reply_of answer.Served output = reply.Served output
reply_of (answer.More next) output = reply.More next output
reply_of (answer.Denied rule status reps) output = reply.Denied rule status reps
reply_of (answer.Fault rule) output = reply.Fault rule

-- the element with which a reply says that its call continues, or 0 if it does not continue
abbrev pub next_in : Reply → ℕ
next_in (reply.Served output) = 0
next_in (reply.More next output) = next
next_in (reply.Denied rule status reps) = 0
next_in (reply.Fault rule) = 0
