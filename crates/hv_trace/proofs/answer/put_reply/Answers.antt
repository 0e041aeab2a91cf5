use Rattle.std.proofs.Common.{ℕ, List, OnOk, subst, sym}
use Rattle.std.specs.Io.KnownBytes.{Appends}
use Rattle.hv_policy.specs.declared.reply.Reply.{Reply}
use Rattle.hv_trace.proofs.PartsInOrder.{three}
use Rattle.hv_trace.specs.Trace.{output_text, reply_text}
use Rattle.hv_trace.proofs.answer.put_reply.Goals as goal

pub returns-in_ok-put_served-in-Served : goal.returns-in_ok-put_served-in-Served
returns-in_ok-put_served-in-Served g c =
    subst (λ (reply : Reply). OnOk c.put_output.result (Appends (g.W.Write.contents c.args.out.now) (g.W.Write.contents c.put_output.new.out) (reply_text c.args.what.now reply c.args.reason.now)))
    (sym c.in-Served.is)
    (three _ _ _ _ _ _ _ _ c.in_ok-write_all-in-Served.ensures.bytes c.in_ok-put_served-in-Served.ensures
    (subst (λ (bytes : List ℕ). OnOk c.put_output.result (Appends (g.W.Write.contents c.put_served.new.out) (g.W.Write.contents c.put_output.new.out) (output_text bytes)))
    c.as_slice.ensures.bytes c.put_output.ensures))

pub returns-in_ok-put_result-in-More : goal.returns-in_ok-put_result-in-More
returns-in_ok-put_result-in-More g c =
    subst (λ (reply : Reply). OnOk c.put_output-in-More.result (Appends (g.W.Write.contents c.args.out.now) (g.W.Write.contents c.put_output-in-More.new.out)
    (reply_text c.args.what.now reply c.args.reason.now))) (sym c.in-More.is)
    (three _ _ _ _ _ _ _ _ c.in_ok-write_all-in-More.ensures.bytes c.in_ok-put_result-in-More.ensures
    (subst (λ (bytes : List ℕ). OnOk c.put_output-in-More.result (Appends (g.W.Write.contents c.put_result.new.out) (g.W.Write.contents c.put_output-in-More.new.out) (output_text bytes)))
    c.as_slice-in-More.ensures.bytes c.put_output-in-More.ensures))

pub returns-in_ok-put_result-in-Denied : goal.returns-in_ok-put_result-in-Denied
returns-in_ok-put_result-in-Denied g c =
    subst (λ (reply : Reply). OnOk c.put_rule.result (Appends (g.W.Write.contents c.args.out.now) (g.W.Write.contents c.put_rule.new.out) (reply_text c.args.what.now reply c.args.reason.now)))
    (sym c.in-Denied.is)
    (three _ _ _ _ _ _ _ _ c.in_ok-write_all-in-Denied.ensures.bytes c.in_ok-put_result-in-Denied.ensures c.put_rule.ensures)

pub returns-in_ok-put_no_result-in-Fault : goal.returns-in_ok-put_no_result-in-Fault
returns-in_ok-put_no_result-in-Fault g c =
    subst (λ (reply : Reply). OnOk c.put_rule-in-Fault.result (Appends (g.W.Write.contents c.args.out.now) (g.W.Write.contents c.put_rule-in-Fault.new.out)
    (reply_text c.args.what.now reply c.args.reason.now))) (sym c.in-Fault.is)
    (three _ _ _ _ _ _ _ _ c.in_ok-write_all-in-Fault.ensures.bytes c.in_ok-put_no_result-in-Fault.ensures c.put_rule-in-Fault.ensures)
