use Rattle.std.proofs.Common.{None}
use Rattle.hv_serve.proofs.Objects.{answers_one}
use Rattle.hv_serve.proofs.laws.an_answer_in_json_is_one_line.Goals as goal

pub returns : goal.returns
returns c = λ names. answers_one names 1 None
